-- How far the moments of a server run ahead of its clock, so that the echo of a key doesn't wait for the next number.
use Rattle.std.specs.Prelude.{ℕ, ◌≡◌, ◌+◌, ◌-◌, ◌&&◌, Bool, false, max, nat_lt, nat_le, List, slice_get, slice_set, Option, Some, None, if◌then◌else◌}
use Rattle.roam_hub.specs.Servers.{ServerView}
use Rattle.roam_hub.specs.Records.{makes_at}
use Rattle.roam_hub.specs.Waits.{PassesFrom}

-- a moment is at most so many milliseconds ahead of the clock
abbrev pub most_ahead : ℕ
most_ahead = 20

-- bytes that a program writes within this many milliseconds of its pane's input count as an echo
abbrev pub echo_window : ℕ
echo_window = 20

-- the moment that follows `before` at a clock: that of the number that shows an echo, if it is near enough; it never falls
abbrev pub leading : Option ℕ → ℕ → ℕ → ℕ
leading None before clock = max before clock
leading (Some due) before clock =
    if nat_le due (clock + most_ahead) then max due (max before clock) else max before clock

-- the number that a moment may run ahead to: none while a synchronized update goes on
abbrev pub wish_outside : Bool → Option ℕ → Option ℕ
wish_outside goes_on wish = if goes_on then None else wish

-- the element of a list of optional elements
abbrev pub flat : Option (Option ℕ) → Option ℕ
flat None = None
flat (Some at) = at

-- when a pane was typed in last, by the clock
abbrev pub typed_in : List (Option ℕ) → ℕ → Option ℕ
typed_in typed pane = flat (slice_get typed pane)

-- the pane in focus was typed in if more acts were taken than before
abbrev pub typed_after : Bool → ℕ → ℕ → List (Option ℕ) → List (Option ℕ)
typed_after is_new focus clock typed = if (is_new && nat_lt focus 10) then slice_set typed focus (Some clock) else typed

-- these bytes of a pane that was typed in then end an echo: some came, all that there were, and in time
abbrev pub is_echo : Option ℕ → Option ℕ → ℕ → ℕ → Bool
is_echo None count room clock = false
is_echo (Some at) None room clock = false
is_echo (Some at) (Some n) room clock = nat_lt 0 n && (nat_lt n room && nat_le clock (at + echo_window))

-- An echo has fewer full pieces than this. More output is a repaint, and an early screen would cut it.
abbrev pub most_pieces : ℕ
most_pieces = 16

-- these bytes of a pane that was typed in then fill the room, in time for an echo
abbrev pub is_full : Option ℕ → Option ℕ → ℕ → ℕ → Bool
is_full None count room clock = false
is_full (Some at) None room clock = false
is_full (Some at) (Some n) room clock = nat_le room n && nat_le clock (at + echo_window)

-- so many milliseconds before a moment, if there is one
abbrev pub before_by : ℕ → Option ℕ → Option ℕ
before_by pace None = None
before_by pace (Some due) = Some (due - pace)

-- the moment of the next early screen: that of the server's next number after an echo, else the one before
pub record AimsAt (server : ServerView) (echoed : Bool) (old new : Option ℕ) : Type 0 where
  pub number : Option ℕ
  pub due : PassesFrom number (makes_at server)
  pub aims : new ≡ (if echoed then number else old)
