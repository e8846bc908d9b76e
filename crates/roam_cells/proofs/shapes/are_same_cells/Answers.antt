use Rattle.std.proofs.Common.{◌≡◌, ℕ, List, get_or, sym, ap, ◌∙◌, below_more, arith}
use Rattle.std.proofs.lemmas.Bool.{eqb-true, eq-eqb}
use Rattle.std.proofs.lemmas.List.{get_or_read}
use Rattle.roam_cells.specs.Glyph.{Glyph, blank}
use Rattle.roam_cells.proofs.CellLists.{same_cells}
use Rattle.roam_cells.proofs.Differences.{none_of, both_none}
use Rattle.roam_cells.proofs.shapes.are_same_cells.Goals as goal

pub loop-k-preserved : goal.loop-k-preserved
loop-k-preserved c =
    let xs = c.args.cells.now in
    let ys = c.args.others.now in
    let k = c.loop-k.k in
    let x : c.index-cells-k.result ≡ get_or xs k blank = get_or_read xs k c.index-cells-k.result (omega arith) c.index-cells-k.is blank in
    let y : c.index-others-k.result ≡ get_or ys k blank = get_or_read ys k c.index-others-k.result (omega arith) c.index-others-k.is blank in
    let here = c.difference-difference.ensures.same in (
      λ e.
          let both = none_of c.loop-k.difference c.difference-difference.result e in
          below_more (λ (r : ℕ). get_or xs r blank ≡ get_or ys r blank) k (c.loop-k.invariant.0 both.0) (sym x ∙ here.0 both.1 ∙ y),
      λ same.
          both_none c.loop-k.difference c.difference-difference.result (c.loop-k.invariant.1 same)
          (here.1 (x ∙ ap (λ (l : List Glyph). get_or l k blank) same ∙ sym y)),
    )

pub returns : goal.returns
returns c =
    record {
      same = (
        λ t.
            let none = eqb-true c.loop-k.difference 0 t in
            same_cells c.args.cells.now c.args.others.now (omega arith) (λ k h. c.loop-k.invariant.0 none k (omega arith)),
        λ e. eq-eqb c.loop-k.difference 0 (c.loop-k.invariant.1 e),
      );
    }
