use Rattle.std.proofs.Common.{◌≡◌, sym, ap, ◌∙◌, subst}
use Rattle.roam_screens.specs.Shown.{shown_by}
use Rattle.roam_display_state.specs.DisplayState.{Tells}
use Rattle.roam_outer_terminal.proofs.display_state.tell_shown.Goals as goal

pub returns-in-New : goal.returns-in-New
returns-in-New c =
    let told = c.tell_screen.ensures.tells in
    let same : c.in-New.shot.now ≡ shown_by c.args.screen.now = sym (ap shown_by c.in-New.is) in
    record { tells = (told.0, subst (λ s. Tells s told.0 c.args.display_state.now c.tell_screen.new.self) same told.1, told.2) }

pub returns-in-Ok : goal.returns-in-Ok
returns-in-Ok c =
    let told = c.tell_screen-in-Ok.ensures.tells in
    let same : c.in-Ok.copy ≡ shown_by c.args.screen.now = c.in-Ok.ensures.same ∙ sym (ap shown_by c.in-Old.is) in
    record { tells = (told.0, subst (λ s. Tells s told.0 c.args.display_state.now c.tell_screen-in-Ok.new.self) same told.1, told.2) }
