use Rattle.std.proofs.Common.{[], ◌∷◌, ◌++◌, refl, sym, ap, subst, ◌∙◌}
use Rattle.std.proofs.lemmas.List.{append-nil}
use Rattle.roam_text.specs.Dispatched.{function_of}
use Rattle.roam_text.specs.declared.functions.Function.TheVariants.{Print}
use Rattle.roam_term.specs.Terminal.{changed_by}
use Rattle.roam_term.proofs.Prints.{changed-print}
use Rattle.roam_scrollback.specs.Lines.{Writes}
use Rattle.roam_scrollback.specs.Sources.{rows_leaving, wraps_after}
use Rattle.roam_scrollback.proofs.Shedding.{cleared-one, cleared-then}
use Rattle.roam_scrollback.proofs.Through.{rows-print, wraps-print}
use Rattle.roam_scrollback.proofs.Writing.{writes-then}
use Rattle.roam_scrollback.proofs.sources.RowSource.take_in.Goals as goal

pub returns-in-One-clause-cleared : goal.returns-in-One-clause-cleared
returns-in-One-clause-cleared c =
    let reader = c.args.self.now.reader in
    rw (c.in-One.is)
    (cleared-one c.perform.result (function_of c.in-One.dispatch reader.parameters reader.intermediates) c.perform.ensures.clears)

pub returns-in-AfterReplacement-clause-cleared : goal.returns-in-AfterReplacement-clause-cleared
returns-in-AfterReplacement-clause-cleared c =
    let reader = c.self.inside.reader in
    let f = function_of c.in-AfterReplacement.dispatch reader.parameters reader.intermediates in
    let done = c.perform-in-AfterReplacement-2 in
    rw (← c.self.view_is, c.in-AfterReplacement.is)
    (cleared-then done.result (Print 0xFFFD ∷ []) (f ∷ []) refl (cleared-one done.result f done.ensures.clears))

pub returns-in-AfterReplacement-clause-live : goal.returns-in-AfterReplacement-clause-live
returns-in-AfterReplacement-clause-live c =
    let reader = c.self.inside.reader in
    let live = c.self.inside.surface.live in
    let f = function_of c.in-AfterReplacement.dispatch reader.parameters reader.intermediates in
    rw (← c.self.view_is, c.in-AfterReplacement.is)
    (c.perform-in-AfterReplacement-2.ensures.live
    ∙ ap (changed_by f) (c.perform-in-AfterReplacement.ensures.live ∙ sym (changed-print 0xFFFD live)))

pub returns-in-AfterReplacement-clause-wraps : goal.returns-in-AfterReplacement-clause-wraps
returns-in-AfterReplacement-clause-wraps c =
    let reader = c.self.inside.reader in
    let surface = c.self.inside.surface in
    let f = function_of c.in-AfterReplacement.dispatch reader.parameters reader.intermediates in
    let print = c.perform-in-AfterReplacement in
    rw (← c.self.view_is, c.in-AfterReplacement.is)
    (c.perform-in-AfterReplacement-2.ensures.wraps
    ∙ ap (λ l. wraps_after f l print.new.self.wraps) (print.ensures.live ∙ sym (changed-print 0xFFFD surface.live))
    ∙ ap (wraps_after f (changed_by (Print 0xFFFD) surface.live)) (print.ensures.wraps ∙ sym (wraps-print 0xFFFD surface.live surface.wraps)))

pub returns-in-AfterReplacement-clause-written : goal.returns-in-AfterReplacement-clause-written
returns-in-AfterReplacement-clause-written c =
    let reader = c.self.inside.reader in
    let surface = c.self.inside.surface in
    let f = function_of c.in-AfterReplacement.dispatch reader.parameters reader.intermediates in
    let print = c.perform-in-AfterReplacement in
    let done = c.perform-in-AfterReplacement-2 in
    let first : Writes c.args.lines.now print.new.lines (rows_leaving (Print 0xFFFD) surface.live surface.wraps) =
    subst (λ rows. Writes c.args.lines.now print.new.lines rows) (sym (rows-print 0xFFFD surface.live surface.wraps)) print.ensures.written in
    let rows_are = ap (λ l. rows_leaving f l print.new.self.wraps) (print.ensures.live ∙ sym (changed-print 0xFFFD surface.live))
    ∙ ap (rows_leaving f (changed_by (Print 0xFFFD) surface.live)) (print.ensures.wraps ∙ sym (wraps-print 0xFFFD surface.live surface.wraps)) in
    let second = subst (λ rows. Writes print.new.lines done.new.lines rows) rows_are done.ensures.written in
    rw (← c.self.view_is, c.in-AfterReplacement.is)
    (subst (λ rows. Writes c.args.lines.now done.new.lines (rows_leaving (Print 0xFFFD) surface.live surface.wraps ++ rows))
    (sym (append-nil _)) (writes-then c.args.lines.now print.new.lines done.new.lines _ _ first second))
