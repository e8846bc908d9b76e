use Rattle.std.proofs.Common.{[], ◌∷◌, ◌++◌, false, refl, sym, ap, subst, ◌∙◌}
use Rattle.roam_text.specs.Functions.{functions_of}
use Rattle.roam_text.specs.Log.{Resized}
use Rattle.roam_text.specs.declared.functions.Function.TheVariants.{Size}
use Rattle.roam_scrollback.specs.Lines.{Writes}
use Rattle.roam_scrollback.proofs.Shedding.{sheds-out}
use Rattle.roam_scrollback.proofs.Through.{sized, sized_wraps, sized_rows}
use Rattle.roam_scrollback.proofs.sources.RowSource.size.Goals as goal

pub returns-clause-sheds : goal.returns-clause-sheds
returns-clause-sheds c =
    let surface = c.self.inside.surface in
    let lines = c.args.lines.now in
    let rows = c.args.rows in
    let cols = c.args.cols in
    rw (← c.self.view_is)
    (sheds-out _ _ lines c.size.new.lines false (Resized rows cols ∷ []) (Size rows cols ∷ [])
    c.size-2.ensures.stands
    (λ log stands. c.size-2.ensures.gained log stands ∙ ap (λ f. functions_of log ++ f ∷ []) c.size-2.ensures.function)
    (c.in_ok-size.ensures.live ∙ sym (sized rows cols surface.live))
    (c.in_ok-size.ensures.wraps ∙ sym (sized_wraps rows cols surface.live surface.wraps))
    (subst (λ r. Writes lines c.size.new.lines r) (sym (sized_rows rows cols surface.live surface.wraps)) c.in_ok-size.ensures.written)
    refl)
