use Rattle.std.proofs.Common.{rules, ◌≡◌, true, sym, ◌∙◌}
use Rattle.roam_paint.specs.Painting.{same_size}
use Rattle.roam_paint.proofs.Places.{rows_quiet, quiet_rows}
use Rattle.roam_paint.proofs.differences.is_same_row.Goals as goal

pub returns : goal.returns
returns g c =
    let old = g.O.Seen.screen c.args.old.now in
    let new = g.N.Seen.screen c.args.new.now in
    let same : same_size old new ≡ true = search rules in
    record {
      size = λ _. same;
      same = λ yes.
          rows_quiet old new same c.args.row c.requires.row
          (sym c.row.ensures.row ∙ c.are_same_cells.ensures.same.0 yes ∙ c.row-2.ensures.row);
      other = λ _ none.
          c.are_same_cells.ensures.same.1
          (c.row.ensures.row
          ∙ quiet_rows old new same c.args.row c.requires.row c.facts.ensures.screenshot.count c.facts-2.ensures.screenshot.count none
          ∙ sym c.row-2.ensures.row);
    }
