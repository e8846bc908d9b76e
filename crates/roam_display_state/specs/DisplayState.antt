-- The records of a terminal, and the state behind them (this project's profile).
use Rattle.std.specs.Borrow.{Bor}
use Rattle.std.specs.Prelude.{◌≡◌, ℕ, Bool, true, false, ◌&&◌, ◌==◌, List, [], ◌∷◌, ◌++◌, length, Option, Some, None, nat_lt, if◌then◌else◌, Result, Ok, Err}
use Rattle.roam_cells.specs.Limits.{IsSize}
use Rattle.roam_cells.specs.declared.faults.Fault.{Fault}
use Rattle.roam_cells.specs.declared.faults.Fault.TheVariants.{BadSize, OutOfMemory}
use Rattle.roam_paint.specs.Painting.{text_between}
use Rattle.roam_viewport.specs.Parts.{part_of}
use Rattle.roam_viewport.specs.declared.parts.Part.{Part}
use Rattle.roam_display_records.specs.Looks.{screen_text}
use Rattle.roam_display_records.specs.Taken.{TakenView, acknowledged_of, done_after, nothing_taken, risen, took}
use Rattle.roam_display_records.specs.declared.looks.Looking.{Looking}
use Rattle.roam_display_records.specs.declared.records.Record.{Record}
use Rattle.roam_display_records.specs.declared.records.Record.TheVariants.{Size, Place, Paint, Anew, Screen, Taken}
use Rattle.roam_screens.specs.Screenshot.{Screenshot}
use Rattle.roam_scroll_paint.specs.Leads.{Leads}
use Rattle.roam_turns.specs.Painting.{ShowsSized}
use Rattle.roam_terminal_input.specs.declared.showings.Showing.{Showing}
use Rattle.roam_terminal_input.specs.declared.showings.Showing.TheVariants as showing
use Rattle.roam_display_state.specs.Scopes.{part_for, place_told, scope_after}
use Rattle.roam_display_state.specs.declared.scopes.Scope.{Scope}
use Rattle.roam_display_state.specs.declared.scopes.Scope.TheVariants.{Whole, Exactly, Following}

-- how many parts of a terminal may be masked at once
abbrev pub most_masks : ℕ
most_masks = 4

-- The part of the screen to show; the cells that stay unpainted; the terminal's screen, if it is known; the size and the place that were
-- sent last; the requested screen; and the taken lines.
pub record DisplayStateView : Type 0 where
  pub scope : Scope
  pub masks : List Part
  pub view : Option Screenshot
  pub sized : Option (ℕ × ℕ)
  pub placed : Option (ℕ × ℕ)
  pub looking : Option Looking
  pub taken : TakenView

-- nothing is sent yet: the whole screen is to be shown
abbrev pub nothing_told : DisplayStateView
nothing_told =
    record { scope = Whole; masks = []; view = None; sized = None; placed = None; looking = None; taken = nothing_taken }

-- ---- the part to show

-- Another part is to be shown from now on, or other cells are masked. The terminal's screen is unknown then, and is painted anew.
abbrev pub shown_so : Showing → DisplayStateView → DisplayStateView
shown_so showing.Whole t = record t { scope = Whole; view = None; placed = None }
shown_so (showing.Exactly part) t = record t { scope = Exactly part; view = None; placed = None }
shown_so (showing.Following rows cols) t =
    record t { scope = Following (record { row = 0; col = 0; rows = rows; cols = cols }); view = None; placed = None }
shown_so (showing.Mask part) t = record t { masks = t.masks ++ part ∷ []; view = None }
shown_so showing.Unmask t = record t { masks = []; view = None }

-- a fifth mask is none
abbrev pub has_room_for : Showing → DisplayStateView → Bool
has_room_for showing.Whole t = true
has_room_for (showing.Exactly part) t = true
has_room_for (showing.Following rows cols) t = true
has_room_for (showing.Mask part) t = nat_lt (length t.masks) most_masks
has_room_for showing.Unmask t = true

-- ---- a painting

-- a text leads a terminal from its screen to another; if its screen is unknown, the text leads any terminal
abbrev pub LeadsFrom : Option Screenshot → List ℕ → Screenshot → Type 0
LeadsFrom None text s = ShowsSized None text s
LeadsFrom (Some old) text s = Leads old s text

-- if cells are masked, the text writes each place that differs, and no other
abbrev pub IsStill : List Part → Option Screenshot → List ℕ → Screenshot → Type 0
IsStill [] before text s = Unit {0}
IsStill (mask ∷ masks) None text s = Unit {0}
IsStill (mask ∷ masks) (Some old) text s = text ≡ text_between old s

-- these two numbers were sent last
abbrev pub is_told : Option (ℕ × ℕ) → ℕ → ℕ → Bool
is_told None first second = false
is_told (Some told) first second = told.0 == first && told.1 == second

-- the size of the painting is sent if another was sent last
abbrev pub sizes_said : Option (ℕ × ℕ) → Screenshot → List Record
sizes_said told s = if is_told told s.rows s.cols then [] else Size s.rows s.cols ∷ []

-- the place of a part is sent if another was sent last
abbrev pub places_said : Option (ℕ × ℕ) → Option (ℕ × ℕ) → List Record
places_said told None = []
places_said told (Some place) = if is_told told place.0 place.1 then [] else Place place.0 place.1 ∷ []

-- a painting is sent; it opens the terminal first if its screen is unknown
abbrev pub painting_said : Option Screenshot → Bor (List ℕ) → Record
painting_said None text = Anew text
painting_said (Some before) text = Paint text

-- the terminal is known to show this part of a screen, and was sent its size and its place
pub record IsCurrent (part : Part) (view : Screenshot) (t : DisplayStateView) : Type 0 where
  pub shown : t.view ≡ Some view
  pub sized : sizes_said t.sized view ≡ []
  pub placed : places_said t.placed (place_told t.scope part) ≡ []

-- The results for a screen to show. The terminal shows its part already, and nothing is sent. Or no screen has the size of that part, or
-- memory was refused, and nothing is sent or changed. Or the part is painted, its size and place are sent before, and the terminal shows it
-- from then on.
pub data Tells (screen : Screenshot) (said : List Record) (old new : DisplayStateView) : Type 0 where
  current : (part : Part) → part ≡ part_for old.scope screen → IsCurrent part (part_of part old.masks screen) old → said ≡ [] → new ≡ old
      → Tells screen said old new
  bad_size : (part : Part) → part ≡ part_for old.scope screen → (IsSize part.rows part.cols → ⊥) → said ≡ [] → new ≡ old
      → Tells screen said old new
  no_memory : said ≡ [] → new ≡ old → Tells screen said old new
  shown : (part : Part) (view : Screenshot) (text : Bor (List ℕ)) → part ≡ part_for old.scope screen
      → view ≡ part_of part old.masks screen → (IsCurrent part view old → ⊥)
      → LeadsFrom old.view text.now view → IsStill old.masks old.view text.now view
      → said
      ≡ sizes_said old.sized view
      ++ (places_said old.placed (place_told old.scope part) ++ painting_said old.view text ∷ [])
      → new
      ≡ record old {
        scope = scope_after old.scope part;
        view = Some view;
        sized = Some (view.rows, view.cols);
        placed = place_told old.scope part;
      }
      → Tells screen said old new

-- ---- the requested screen

-- No screen was requested, and nothing is sent; or memory was refused, and nothing is sent or changed; or the requested screen is sent cell
-- by cell.
pub data TellsLook (screen : Screenshot) (said : List Record) (old new : DisplayStateView) : Type 0 where
  unasked : old.looking ≡ None → said ≡ [] → new ≡ old → TellsLook screen said old new
  no_memory : said ≡ [] → new ≡ old → TellsLook screen said old new
  looked : (looking : Looking) (text : Bor (List ℕ)) → old.looking ≡ Some looking → text.now ≡ screen_text looking screen
      → said ≡ Screen text ∷ []
      → new ≡ record old { looking = None } → TellsLook screen said old new

-- So many acts are acknowledged. The count of taken lines with all acts acknowledged didn't rise, and nothing is sent; or memory was
-- refused, and nothing is sent or changed; or it rose, and is sent.
pub data TellsTaken (acknowledged : ℕ) (said : List Record) (old new : DisplayStateView) : Type 0 where
  same : risen old.taken.told (done_after acknowledged old.taken) ≡ None → said ≡ [] → new ≡ old → TellsTaken acknowledged said old new
  no_memory : said ≡ [] → new ≡ old → TellsTaken acknowledged said old new
  rose : (lines : ℕ) → risen old.taken.told (done_after acknowledged old.taken) ≡ Some lines → said ≡ Taken lines ∷ []
      → new ≡ record old { taken = acknowledged_of acknowledged old.taken } → TellsTaken acknowledged said old new

-- ---- the result of a call

-- the result of a call that sent these records
abbrev pub answer_of_screen : {screen : Screenshot} {said : List Record} {old new : DisplayStateView} → Tells screen said old new → Result (Unit {0}) Fault
answer_of_screen (current part is_part is_current none stays) = Ok tt
answer_of_screen (bad_size part is_part is_none none stays) = Err BadSize
answer_of_screen (no_memory none stays) = Err OutOfMemory
answer_of_screen (shown part view text is_part is_view is_new leads still says becomes) = Ok tt

abbrev pub answer_of_look : {screen : Screenshot} {said : List Record} {old new : DisplayStateView} → TellsLook screen said old new → Result (Unit {0}) Fault
answer_of_look (unasked not_asked none stays) = Ok tt
answer_of_look (no_memory none stays) = Err OutOfMemory
answer_of_look (looked looking text asked is says becomes) = Ok tt

abbrev pub answer_of_taken : {acknowledged : ℕ} {said : List Record} {old new : DisplayStateView} → TellsTaken acknowledged said old new
    → Result (Unit {0}) Fault
answer_of_taken (same as_before none stays) = Ok tt
answer_of_taken (no_memory none stays) = Err OutOfMemory
answer_of_taken (rose lines more says becomes) = Ok tt
