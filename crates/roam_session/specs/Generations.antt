-- Generations: a number may be given again after its pane was closed, and the generation distinguishes the two panes (this project's
-- profile).
use Rattle.std.specs.Prelude.{◌≡◌, ℕ, ◌+◌, ◌%◌, ◌^◌, ◌<◌, Bool, true, false, not, ◌&&◌, List, [], ◌∷◌, ◌++◌, slice_index, is_some, Option, Some, None, if◌then◌else◌}
use Rattle.std.specs.Option.{option_map}
use Rattle.roam_layout.specs.Rects.{rect_in}
use Rattle.roam_layout.specs.Layouts.{Plan, panes}
use Rattle.roam_layout.specs.declared.rects.Rect.{Rect}
use Rattle.roam_session.specs.Panes.{Pane}
use Rattle.roam_session.specs.Sessions.{Entry, SessionSize, SessionState, after_entry, first_state, session}

-- ---- panes that are made

-- whether a pane is made at a number with these rectangles before and after a change: it had none, and has one
abbrev pub is_made : Option Rect → Option Rect → Bool
is_made None None = false
is_made None (Some new) = true
is_made (Some old) new = false

-- how many panes of a number are made when the panes of a layout become others: one or none
abbrev pub made_between : List (ℕ × Rect) → List (ℕ × Rect) → ℕ → ℕ
made_between before after p = if is_made (rect_in p before) (rect_in p after) then 1 else 0

-- how many panes of a number an entry makes, on the session before it
abbrev pub made_by : SessionState → Entry → ℕ → ℕ
made_by s entry p = made_between (panes s.plan) (panes (after_entry s entry).plan) p

-- ---- a log

-- how many panes of a number the entries of a log make, on the session before them
unfoldable pub made_through : SessionState → List Entry → ℕ → ℕ
made_through s [] p = 0
made_through s (entry ∷ log) p = made_by s entry p + made_through (after_entry s entry) log p

-- how many panes of a number were ever made: the one that the session begins with, and those that its log makes
abbrev pub ever_made : SessionSize → List Entry → ℕ → ℕ
ever_made size log p = made_between [] (panes (first_state size).plan) p + made_through (first_state size) log p

-- the generation of a pane that is there: which making of its number it is, counted from 1 modulo 2 ^ 64
unfoldable pub generation_of : SessionSize → List Entry → ℕ → Option ℕ
generation_of size log p = option_map (λ (x : Pane). ever_made size log p % 2 ^ 64) ((session size log).pane p)

-- ---- the kept counts

-- ten counts are those of a log, modulo 2 ^ 64
unfoldable pub AreCounted : List ℕ → SessionSize → List Entry → Type 0
AreCounted generations size log = (k : ℕ) → k < 10 → slice_index generations k ≡ ever_made size log k % 2 ^ 64

-- each of ten counts rises by the panes made at its number when a layout becomes another
abbrev pub CountsGenerations : Plan → Plan → List ℕ → List ℕ → Type 0
CountsGenerations old new before after =
    (k : ℕ) → k < 10 → slice_index after k ≡ (slice_index before k + made_between (panes old) (panes new) k) % 2 ^ 64

-- ---- the meaning of generations

-- true if a pane begins at a number between these two states: there was none, and is one
abbrev pub begins : Option Pane → Option Pane → Bool
begins before after = not (is_some before) && is_some after

-- an entry adds one to the panes ever made at a number exactly if no pane is there before it and one is there after it
abbrev pub GenerationsAreCounted : Type 0
GenerationsAreCounted =
    (size : SessionSize) (log : List Entry) (entry : Entry) (p : ℕ)
    → ever_made size (log ++ entry ∷ []) p
    ≡ ever_made size log p + (if begins ((session size log).pane p) ((session size (log ++ entry ∷ [])).pane p) then 1 else 0)

-- a pane that is there before an entry and after it keeps its generation
abbrev pub GenerationsLast : Type 0
GenerationsLast =
    (size : SessionSize) (log : List Entry) (entry : Entry) (p n m : ℕ) → generation_of size log p ≡ Some n
    → generation_of size (log ++ entry ∷ []) p ≡ Some m → m ≡ n
