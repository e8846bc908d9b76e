-- The records of a terminal lead it to the screen to show (this project's profile).
use Rattle.std.specs.Prelude.{◌≡◌, ◌⊎◌, ℕ, ◌≤◌, List, [], ◌∷◌, ◌++◌, Option, Some, None}
use Rattle.roam_display_records.specs.declared.records.Record.{Record}
use Rattle.roam_display_records.specs.declared.records.Record.TheVariants.{Events, Size, Place, Paint, Anew, Screen, Silent, Heard, Refused, Taken, Full}
use Rattle.roam_screens.specs.Screenshot.{Screenshot}
use Rattle.roam_text.specs.Log.{Item}
use Rattle.roam_term.specs.Terminal.{term}
use Rattle.roam_turns.specs.Painting.{DisplaysNoted, ShowsAt}
use Rattle.roam_display_state.specs.Saying.{painting_in, paintings_in}
use Rattle.roam_display_state.specs.DisplayState.{DisplayStateView, Tells}

-- the size in a record, else the last one before
abbrev pub size_after : Option (ℕ × ℕ) → Record → Option (ℕ × ℕ)
size_after told Events = told
size_after told (Size rows cols) = Some (rows, cols)
size_after told (Place row col) = told
size_after told (Paint text) = told
size_after told (Anew text) = told
size_after told (Screen text) = told
size_after told (Silent seconds) = told
size_after told Heard = told
size_after told (Refused line words) = told
size_after told (Taken lines) = told
size_after told Full = told

-- the size that was sent last
abbrev pub last_size : Option (ℕ × ℕ) → List Record → Option (ℕ × ℕ)
last_size told [] = told
last_size told (r ∷ said) = last_size (size_after told r) said

-- a terminal has at least the rows and columns of a sent size
abbrev pub FitsSize : (rows cols lines : ℕ) → List Item → Option (ℕ × ℕ) → Type 0
FitsSize rows cols lines log None = Unit {0}
FitsSize rows cols lines log (Some size) =
    (size.0 ≤ (term rows cols lines log).live.screen.rows) × (size.1 ≤ (term rows cols lines log).live.screen.cols)

-- the same for each sent size
abbrev pub FitsSaid : (rows cols lines : ℕ) → List Item → Option (ℕ × ℕ) → List Record → Type 0
FitsSaid rows cols lines log told [] = FitsSize rows cols lines log told
FitsSaid rows cols lines log told (r ∷ said) =
    FitsSize rows cols lines log told × FitsSaid rows cols lines log (size_after told r) said

-- paintings lead any terminal of at least each sent size, in any state, to the screen to show, whose size was sent last
abbrev pub LeadsTo : List Record → Option (ℕ × ℕ) → List ℕ → Option Screenshot → Type 0
LeadsTo said sized text None = Unit {0}
LeadsTo said sized text (Some view) =
    (sized ≡ Some (view.rows, view.cols))
    × ((rows cols lines : ℕ) (log : List Item) → DisplaysNoted rows cols lines log None → FitsSaid rows cols lines log None said
    → ShowsAt rows cols lines log text view)

-- The records of a terminal since they began. The noted size is the one sent last. The paintings since the terminal was last painted anew
-- lead to the screen to show.
pub record IsSaid (said : List Record) (t : DisplayStateView) : Type 0 where
  pub earlier : List Record
  pub since : List Record
  pub is : said ≡ earlier ++ since
  pub sized : t.sized ≡ last_size None said
  pub leads : LeadsTo said t.sized (paintings_in since) t.view

-- these records have no painting and no size
abbrev pub AreQuiet : List Record → Type 0
AreQuiet [] = Unit {0}
AreQuiet (r ∷ said) =
    (painting_in r ≡ []) × ((told : Option (ℕ × ℕ)) → size_after told r ≡ told) × AreQuiet said

-- ---- the laws

-- no records are sent at the beginning
abbrev pub BeginsSaid : Type 0
BeginsSaid = (t : DisplayStateView) → t.view ≡ None → t.sized ≡ None → IsSaid [] t

-- the property stays after one more screen is sent
abbrev pub TellsOn : Type 0
TellsOn = (screen : Screenshot) (said more : List Record) (old new : DisplayStateView) → IsSaid said old → Tells screen more old new
    → IsSaid (said ++ more) new

-- and after records without a painting, if the shown screen and the sent size stay, or the screen becomes unknown
abbrev pub QuietOn : Type 0
QuietOn = (said more : List Record) (old new : DisplayStateView) → IsSaid said old → AreQuiet more → new.sized ≡ old.sized
    → (new.view ≡ old.view) ⊎ (new.view ≡ None) → IsSaid (said ++ more) new
