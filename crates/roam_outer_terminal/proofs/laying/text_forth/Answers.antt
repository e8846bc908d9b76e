use Rattle.std.proofs.Common.{◌≡◌, Some, rules}
use Rattle.roam_screens.specs.Shown.{shown_by}
use Rattle.roam_turns.specs.declared.outer.Noted.{Noted}
use Rattle.roam_outer_terminal.specs.Overlaid.{IsSize}
use Rattle.roam_outer_terminal.proofs.Showing.{forth_of}
use Rattle.roam_outer_terminal.proofs.laying.text_forth.Goals as goal

pub returns : goal.returns
returns c =
    let noted : Noted = record { number = c.in_ok-screen.field-0-0; screen = shown_by c.in_ok-screen.screen } in
    let is : c.args.outer.now ≡ Some noted = search rules in
    let size : IsSize c.args.over.now noted.screen = search rules in
    record { forth = forth_of c.args.outer.now noted c.args.over.now c.moving_text.result is size c.moving_text.ensures.leads }
