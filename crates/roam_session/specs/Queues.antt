-- The effect of calls on the terminal of one pane, and on its queued bytes.
use Rattle.std.specs.Prelude.{◌≡◌, ℕ, ◌+◌, ◌≤◌, ◌++◌, nat_lt, min, Bool, List, take, drop, length, Option, Some, None, if◌then◌else◌}
use Rattle.roam_term.specs.Limits.{most_output}
use Rattle.roam_cells.specs.declared.faults.Fault.{Fault}
use Rattle.roam_cells.specs.declared.faults.Fault.TheVariants.{Busy}
use Rattle.roam_text.specs.Log.{Item}
use Rattle.roam_keys.specs.declared.keys.Key.{Key}
use Rattle.roam_keys.specs.Sent.{bytes_of_key}
use Rattle.roam_term.specs.Keys.{key_modes}
use Rattle.roam_term.specs.Stands.{TermView, Stands as TermStands, Fed, HasSize}
use Rattle.roam_grid.specs.Marks.{all_off}
use Rattle.roam_layout.specs.Rects.{rect_in}
use Rattle.roam_layout.specs.Layouts.{Plan, panes}
use Rattle.roam_session.specs.Marks.{touched_marks, view_in}
use Rattle.roam_session.specs.Stands.{term_at}

-- a terminal models the same log, and the live state, the history and the marks are the same
pub record Keeps (old new : TermView) : Type 0 where
  pub stands : (rows cols lines : ℕ) (log : List Item) → TermStands old rows cols lines log → TermStands new rows cols lines log
  pub live : new.live ≡ old.live
  pub history : new.history ≡ old.history
  pub marks : new.marks ≡ old.marks

-- bytes were fed to the terminal of a pane; the rows that it marked were marked in the session, and its own marks were cleared
pub record IsFed (bytes : List ℕ) (plan : Plan) (p : ℕ) (before after : List Bool) (old new : TermView) : Type 0 where
  pub read : TermView
  pub fed : Fed old read bytes
  pub size : HasSize read old.live.screen.rows old.live.screen.cols
  pub marks : after ≡ touched_marks (rect_in p (panes plan)) (view_in plan p) plan.rows read.marks before
  pub quiet : new ≡ record read { marks = all_off }

-- a key's bytes were queued behind the earlier ones
pub record IsKeyed (key : Key) (old new : TermView) : Type 0 where
  pub keeps : Keeps old new
  pub waiting : new.waiting ≡ old.waiting ++ bytes_of_key (key_modes old.live.modes) key

-- the first n bytes that wait were taken
pub record IsDrained (n : ℕ) (old new : TermView) : Type 0 where
  pub keeps : Keeps old new
  pub waiting : new.waiting ≡ drop n old.waiting

-- a rule relates two terminals, or there are none
abbrev pub Both : (TermView → TermView → Type 0) → Option TermView → Option TermView → Type 0
Both rule None None = Unit {0}
Both rule None (Some new) = ⊥
Both rule (Some old) None = ⊥
Both rule (Some old) (Some new) = rule old new

-- the terminal at a number was changed by a rule, and no other was
pub record ChangesAt (p : ℕ) (rule : TermView → TermView → Type 0) (old new : List (Option TermView)) : Type 0 where
  pub count : length new ≡ length old
  pub here : Both rule (term_at old p) (term_at new p)
  pub others : (k : ℕ) → (k ≡ p → ⊥) → term_at new k ≡ term_at old k

-- n is at most the number of queued bytes, if there are any
abbrev pub IsWithin : ℕ → Option (List ℕ) → Type 0
IsWithin n None = Unit {0}
IsWithin n (Some waiting) = n ≤ length waiting

-- n bytes were copied to the front of a place: as many of those that wait as fit
abbrev pub IsCopied : ℕ → List ℕ → List ℕ → Option (List ℕ) → Type 0
IsCopied n old new None = ⊥
IsCopied n old new (Some waiting) = (n ≡ min (length waiting) (length old)) × (new ≡ take n waiting ++ drop n old)

-- why a key's bytes don't go to a terminal: they don't fit its queue of 65,536 bytes
abbrev pub key_refused : Key → Option TermView → Option Fault
key_refused key None = None
key_refused key (Some t) =
    if nat_lt most_output (length t.waiting + length (bytes_of_key (key_modes t.live.modes) key)) then Some Busy else None
