use Rattle.std.proofs.Common.{sym, ap, subst, ◌∙◌}
use Rattle.roam_controls.specs.Commands.{command_of}
use Rattle.roam_text.specs.Dispatched.{function_of}
use Rattle.roam_term.specs.Terminal.{commanded_by}
use Rattle.roam_term.proofs.Dispatches.{changed-dispatch}
use Rattle.roam_scrollback.specs.Lines.{Writes}
use Rattle.roam_scrollback.specs.Sources.{rows_commanded, wraps_commanded}
use Rattle.roam_scrollback.proofs.Through.{rows-dispatch, wraps-dispatch}
use Rattle.roam_scrollback.proofs.sources.RowSource.perform.Goals as goal

pub returns-clause-live : goal.returns-clause-live
returns-clause-live c =
    let reader = c.self.inside.reader in
    let live = c.self.inside.surface.live in
    let f = function_of c.args.dispatch reader.parameters reader.intermediates in
    rw (← c.self.view_is)
    (c.perform.ensures.live
    ∙ ap (λ k. commanded_by k c.parameters_of-params.result.now live) c.requested-command.ensures.command
    ∙ ap (λ p. commanded_by (command_of f) p live) c.parameters_of-params.ensures.parameters
    ∙ sym (changed-dispatch c.args.dispatch reader.parameters reader.intermediates live))

pub returns-clause-wraps : goal.returns-clause-wraps
returns-clause-wraps c =
    let reader = c.self.inside.reader in
    let surface = c.self.inside.surface in
    rw (← c.self.view_is)
    (c.perform.ensures.wraps ∙ ap (λ k. wraps_commanded k surface.live surface.wraps) c.requested-command.ensures.command
    ∙ sym (wraps-dispatch c.args.dispatch reader.parameters reader.intermediates surface.live surface.wraps))

pub returns-clause-written : goal.returns-clause-written
returns-clause-written c =
    let reader = c.self.inside.reader in
    let surface = c.self.inside.surface in
    rw (← c.self.view_is)
    (subst (λ rows. Writes c.args.lines.now c.perform.new.lines rows)
    (ap (λ k. rows_commanded k surface.live surface.wraps) c.requested-command.ensures.command
    ∙ sym (rows-dispatch c.args.dispatch reader.parameters reader.intermediates surface.live surface.wraps)) c.perform.ensures.written)
