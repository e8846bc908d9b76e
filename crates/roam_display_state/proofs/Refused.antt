-- A screen that could not be painted: nothing was sent, and nothing changed.
use Rattle.std.proofs.Common.{◌≡◌, ◌⊎◌, ℕ, List, [], ◌++◌, Result, Err, refl, sym, ap, ◌∙◌, append-nil, inl, inr}
use Rattle.roam_cells.specs.Limits.{IsSize}
use Rattle.roam_cells.specs.declared.faults.Fault.{Fault}
use Rattle.roam_cells.specs.declared.faults.Fault.TheVariants.{BadSize, OutOfMemory}
use Rattle.roam_display_records.specs.declared.records.Record.{Record}
use Rattle.roam_screens.specs.Screenshot.{Screenshot}
use Rattle.roam_viewport.specs.declared.parts.Part.{Part}
use Rattle.roam_display_state.specs.Saying.{texts_of}
use Rattle.roam_display_state.specs.Scopes.{part_for}
use Rattle.roam_display_state.specs.DisplayState.{DisplayStateView, Tells, answer_of_screen}
use Rattle.roam_display_state.specs.DisplayState.Tells.{bad_size, no_memory}

pub refused : (screen : Screenshot) (old : DisplayStateView) (waiting : List ℕ) (result : Result (Unit {0}) Fault) (fault : Fault)
    → (fault ≡ BadSize → (part : Part) × (part ≡ part_for old.scope screen) × (IsSize part.rows part.cols → ⊥))
    → (fault ≡ BadSize) ⊎ (fault ≡ OutOfMemory) → result ≡ Err fault
    → (said : List Record) × (told : Tells screen said old old) × (waiting ≡ waiting ++ texts_of said)
    × (result ≡ answer_of_screen told)
refused screen old waiting result fault size (inl bad) is =
    let none = size bad in ([], bad_size none.0 none.1 none.2 refl refl, sym (append-nil waiting), is ∙ ap Err bad)
refused screen old waiting result fault size (inr memory) is = ([], no_memory refl refl, sym (append-nil waiting), is ∙ ap Err memory)
