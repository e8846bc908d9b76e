use Rattle.std.proofs.Common.{◌≡◌, ◌++◌, Some, sym, ap, rules}
use Rattle.roam_screens.specs.Shown.{shown_by}
use Rattle.roam_turns.specs.declared.outer.Noted.{Noted}
use Rattle.roam_outer_terminal.specs.Painted.{shown_screen}
use Rattle.roam_outer_terminal.proofs.Said.{noted_told, texts_more}
use Rattle.roam_outer_terminal.proofs.display_state.tell_noted.Goals as goal

pub returns-in-Some-over : goal.returns-in-Some-over
returns-in-Some-over c =
    let noted : Noted = record { number = c.in-Some.field-0-0; screen = shown_by c.in-Some.screen } in
    let outer : c.args.outer.now ≡ Some noted = search rules in
    let looked = c.tell_look.ensures.tells in
    let told = c.tell_screen.ensures.tells in
    record {
      tells = (
        looked.0 ++ told.0,
        noted_told c.args.outer.now noted c.args.over.now c.in-Some-over.over looked.0 told.0 c.args.display_state.now c.tell_look.new.self
            c.tell_screen.new.self outer (sym (ap (λ o. shown_screen o noted) c.in-Some-over.is)) looked.1 told.1,
        texts_more c.args.waiting.now c.tell_look.new.waiting c.tell_screen.new.waiting looked.0 told.0 looked.2 told.2,
      );
    }

pub returns-in-None : goal.returns-in-None
returns-in-None c =
    let noted : Noted = record { number = c.in-Some.field-0-0; screen = shown_by c.in-Some.screen } in
    let outer : c.args.outer.now ≡ Some noted = search rules in
    let looked = c.tell_look.ensures.tells in
    let told = c.tell_shown.ensures.tells in
    record {
      tells = (
        looked.0 ++ told.0,
        noted_told c.args.outer.now noted c.args.over.now (shown_by c.in-Some.screen) looked.0 told.0 c.args.display_state.now
            c.tell_look.new.self c.tell_shown.new.display_state outer (sym (ap (λ o. shown_screen o noted) c.in-None.is)) looked.1 told.1,
        texts_more c.args.waiting.now c.tell_look.new.waiting c.tell_shown.new.waiting looked.0 told.0 looked.2 told.2,
      );
    }
