use Rattle.std.proofs.Common.{rules, ◌∷◌, [], refl}
use Rattle.roam_display_records.specs.declared.records.Record.TheVariants.{Taken}
use Rattle.roam_display_state.specs.DisplayState.TellsTaken.{rose, same}
use Rattle.roam_display_state.proofs.display_state.DisplayState.tell_taken.Goals as goal

pub returns-in_default : goal.returns-in_default
returns-in_default c = record { tells = ([], same (search rules) refl refl, search rules, refl) }

pub returns : goal.returns
returns c =
    record { tells = (Taken c.in-Some.lines ∷ [], rose c.in-Some.lines (search rules) refl (search rules), search rules, refl) }
