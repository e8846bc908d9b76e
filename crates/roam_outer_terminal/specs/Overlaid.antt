-- The overlay of an outer terminal over its noted screen, and the texts that lead from one such screen to the next.
use Rattle.std.specs.Prelude.{◌≡◌, ℕ, List, ◌++◌, Option, Some, None, true}
use Rattle.roam_overlay.specs.Overlays.{OverlayOf, is_shown, laid_over}
use Rattle.roam_screens.specs.Screenshot.{Screenshot}
use Rattle.roam_turns.specs.Painting.{Leads, ShowsSized}
use Rattle.roam_turns.specs.declared.outer.Noted.{Noted}
use Rattle.roam_outer_terminal.specs.declared.laying.Taken.{Taken}

-- the overlay at a moment, if there is one: the noted screen with the shown predictions
abbrev pub IsOver : ℕ → Option OverlayOf → Option Noted → Option Screenshot → Type 0
IsOver now predicting outer None = Unit {0}
IsOver now None outer (Some over) = ⊥
IsOver now (Some predicting) None (Some over) = ⊥
IsOver now (Some predicting) (Some noted) (Some over) = (is_shown predicting ≡ true) × (over ≡ laid_over predicting noted.screen now)

-- ---- the screen of a terminal

-- the overlay if there is one, else the noted screen; unknown if no screen is noted
abbrev pub on_show : Option Screenshot → Option Noted → Option Noted
on_show over None = None
on_show None (Some noted) = Some noted
on_show (Some over) (Some noted) = Some (record noted { screen = over })

-- one screen has the size of another
pub record IsSize (one other : Screenshot) : Type 0 where
  pub rows : one.rows ≡ other.rows
  pub cols : one.cols ≡ other.cols

-- a text that leads from one screen to another of its size
pub record Between (one other : Screenshot) (text : List ℕ) : Type 0 where
  pub size : IsSize one other
  pub leads : (n : ℕ) → ShowsSized (Some (record { number = n; screen = one })) text other

-- a text that leads from the overlay back to the noted screen
abbrev pub IsBack : Screenshot → Option Noted → List ℕ → Type 0
IsBack over None text = ⊥
IsBack over (Some noted) text = Between over noted.screen text

-- a text that lays a screen over the one that is noted
abbrev pub IsForth : Option Noted → Screenshot → List ℕ → Type 0
IsForth None over text = ⊥
IsForth (Some noted) over text = Between noted.screen over text

-- The ways to take an overlay back: there is none; this text does it; or no screen is noted any more.
pub data TakesBack (over : Option Screenshot) (outer outer' : Option Noted) (taken : Option Taken) : Type 0 where
  nothing : over ≡ None → outer' ≡ outer → taken ≡ None → TakesBack over outer outer' taken
  back : (t : Taken) → over ≡ Some t.over → outer' ≡ outer → taken ≡ Some t → IsBack t.over outer t.text.items
      → TakesBack over outer outer' taken
  lost : outer' ≡ None → taken ≡ None → TakesBack over outer outer' taken

-- an overlay is painted behind the queued bytes, or none is
pub data Lays (outer : Option Noted) (wanted over : Option Screenshot) (waiting waiting' : List ℕ) : Type 0 where
  none : over ≡ None → waiting' ≡ waiting → Lays outer wanted over waiting waiting'
  laid : (s : Screenshot) (text : List ℕ) → wanted ≡ Some s → over ≡ Some s → waiting' ≡ waiting ++ text → IsForth outer s text
      → Lays outer wanted over waiting waiting'

-- ---- the law

-- a ground terminal that shows the overlay shows the noted screen after the text that takes the overlay back
abbrev pub TakenBackIsNoted : Type 0
TakenBackIsNoted =
    (over : Screenshot) (outer : Option Noted) (text : List ℕ) → IsBack over outer text → Leads (on_show (Some over) outer) text outer
