use Rattle.std.proofs.Common.{◌++◌, sym, ap, ◌∙◌}
use Rattle.roam_text.specs.Dispatched.{function_of}
use Rattle.roam_controls.specs.Commands.{command_of}
use Rattle.roam_term.specs.Marks.{marks_performed}
use Rattle.roam_term.specs.Terminal.{answer, answered_by, commanded_by, left_by, on_main, with_rows}
use Rattle.roam_term.proofs.Dispatches.{changed-dispatch, kept-dispatch, marked-dispatch}
use Rattle.roam_term.proofs.terms.Term.perform.Goals as goal

pub returns-clause-live : goal.returns-clause-live
returns-clause-live c =
    let reader = c.self.inside.reader in
    let live = c.self.inside.canvas.live in
    let f = function_of c.args.dispatch reader.parameters reader.intermediates in
    rw (← c.self.view_is)
    (c.perform.ensures.performed
    ∙ ap (λ k. commanded_by k c.parameters_of-params.result.now live) c.requested-command.ensures.command
    ∙ ap (λ p. commanded_by (command_of f) p live) c.parameters_of-params.ensures.parameters
    ∙ sym (changed-dispatch c.args.dispatch reader.parameters reader.intermediates live))

pub returns-clause-marks : goal.returns-clause-marks
returns-clause-marks c =
    let reader = c.self.inside.reader in
    let live = c.self.inside.canvas.live in
    let marks = c.self.inside.canvas.marks in
    let f = function_of c.args.dispatch reader.parameters reader.intermediates in
    rw (← c.self.view_is)
    (c.perform.ensures.marks
    ∙ ap (λ k. marks_performed k c.parameters_of-params.result.now live marks) c.requested-command.ensures.command
    ∙ ap (λ p. marks_performed (command_of f) p live marks) c.parameters_of-params.ensures.parameters
    ∙ sym (marked-dispatch c.args.dispatch reader.parameters reader.intermediates live marks))

pub returns-clause-history : goal.returns-clause-history
returns-clause-history c =
    let reader = c.self.inside.reader in
    let live = c.self.inside.canvas.live in
    let history = c.self.inside.history in
    rw (← c.self.view_is)
    (c.perform.ensures.history
    ∙ ap (λ k. with_rows (on_main live.alternate (left_by k live)) history) c.requested-command.ensures.command
    ∙ sym (kept-dispatch c.args.dispatch reader.parameters reader.intermediates live history))

pub returns-clause-waiting : goal.returns-clause-waiting
unfolding answer
returns-clause-waiting c =
    let live = c.self.inside.canvas.live in
    rw (← c.self.view_is)
    (c.answer.ensures.answered ∙ ap (λ k. c.self.inside.output ++ answered_by k live) c.requested-command.ensures.command)
