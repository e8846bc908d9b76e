-- What an outer terminal shows while a client instance hears nothing from its server.
use Rattle.std.specs.Prelude.{ℕ, ◌-◌, ◌/◌, ◌%◌, ◌&&◌, ◌==◌, not, nat_le, nat_lt, Bool, false, List, ◌∷◌, ◌++◌, Option, Some, None, is_some, if◌then◌else◌, codes, decimal}
use Rattle.roam_outer_terminal.specs.declared.silence.Silence.{Silence}
use Rattle.roam_outer_terminal.specs.declared.silence.End.{End}
use Rattle.roam_outer_terminal.specs.declared.silence.End.TheVariants.{Heard, Silent, Unheard}

-- the moment at which the server was heard last; the beginning if it never was
abbrev pub last_heard : Option ℕ → ℕ
last_heard None = 0
last_heard (Some moment) = moment

-- for how many whole seconds nothing was heard
abbrev pub seconds_of : Silence → ℕ
seconds_of s = (s.moment - last_heard s.heard) / 1000

-- the terminal shows this number of seconds
abbrev pub is_told : Option ℕ → ℕ → Bool
is_told None seconds = false
is_told (Some told) seconds = told == seconds

-- the seconds to show: a silence of ten seconds or more, each second once
abbrev pub due_of : Silence → Option ℕ
due_of s = if nat_le 10 (seconds_of s) && not (is_told s.told (seconds_of s)) then Some (seconds_of s) else None

-- the milliseconds until the next seconds to show: at ten seconds, and then every second
abbrev pub wait_of : Silence → ℕ
wait_of s =
    if nat_lt (s.moment - last_heard s.heard) 10000 then 10000 - (s.moment - last_heard s.heard)
    else 1000 - (s.moment - last_heard s.heard) % 1000

-- a silence that the terminal shows is over
abbrev pub is_over : Silence → Bool
is_over s = is_some s.told && nat_lt (seconds_of s) 10

-- the end after a silence of so many seconds, if the server was heard before
abbrev pub ends_after : ℕ → End
ends_after seconds = if nat_lt seconds 10 then Heard else Silent seconds

-- what was heard of the server at the end
abbrev pub end_of : Silence → End
end_of s = if is_some s.heard then ends_after (seconds_of s) else Unheard

-- the words for a silence of so many seconds
abbrev pub words_for : ℕ → List ℕ
words_for seconds = codes "roam: no answer for " ++ decimal seconds ++ codes " s"

-- save the cursor (DECSC), don't wrap (DECAWM), go to the last row's first column (CUP), be upright and then reverse (SGR)
abbrev pub before_words : List ℕ
before_words = 27 ∷ codes "7" ++ 27 ∷ codes "[?7l" ++ 27 ∷ codes "[999;1H" ++ 27 ∷ codes "[0;7m"

-- be upright (SGR), erase the rest of the row (EL), wrap (DECAWM), put the cursor back (DECRC)
abbrev pub after_words : List ℕ
after_words = 27 ∷ codes "[0m" ++ 27 ∷ codes "[K" ++ 27 ∷ codes "[?7h" ++ 27 ∷ codes "8"

-- The notice over the last row. The terminal doesn't wrap meanwhile: a longer notice is cut, and nothing scrolls.
abbrev pub notice_of : ℕ → List ℕ
notice_of seconds = before_words ++ words_for seconds ++ after_words
