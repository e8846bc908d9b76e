use Rattle.std.proofs.Common.{◌≡◌, Bool, [], ◌∷◌, ◌++◌, refl, sym, ap, subst, ◌∙◌}
use Rattle.std.specs.Prelude.{if◌then◌else◌}
use Rattle.std.proofs.lemmas.List.{append-nil}
use Rattle.roam_scrollback.specs.Lines.{LeftRow, Writes, left_of}
use Rattle.roam_scrollback.specs.declared.wraps.Wrap.{Wrap}
use Rattle.roam_scrollback.specs.declared.wraps.Wrap.TheVariants.{Ends, Full}
use Rattle.roam_scrollback.proofs.lines.LeftLines.push_text.Goals.{then-goes_on, else-goes_on}
use Rattle.roam_scrollback.proofs.lines.LeftLines.push_text.Goals as goal

wrap-for : Bool → Wrap
wrap-for on = if on then Full else Ends

pub returns : goal.returns
unfolding wrap-for
returns c =
    let row = c.args.row.now in
    let wrap : c.if-goes_on.wrap ≡ wrap-for row.goes_on = elim c.if-goes_on.branch [
      | then-goes_on w ↦ w.wrap-is ∙ ap wrap-for (sym w.if-goes_on.true ∙ c.goes_on.ensures.on)
      | else-goes_on w ↦ w.wrap-is ∙ ap wrap-for (sym w.if-goes_on.false ∙ c.goes_on.ensures.on)
    ] in
    let cells = append-nil c.cells.result.now ∙ c.cells.ensures.cells in
    let same : record { wrap = c.if-goes_on.wrap; cells = c.cells.result.now ++ [] } ≡ left_of row =
    λ i. record { wrap = wrap i; cells = cells i } in
    record {
      written = subst (λ (x : LeftRow). Writes c.args.self.now c.push.new.self (x ∷ [])) same (c.push.ensures.written 0 (λ e. refl));
    }
