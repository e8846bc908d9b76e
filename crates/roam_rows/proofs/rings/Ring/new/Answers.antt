use Rattle.std.proofs.Common.{◌∙◌, ◌*◌, replicate, ap}
use Rattle.roam_rows.proofs.Starting.{blank_turned, no_lengths}
use Rattle.roam_rows.proofs.rings.Ring.new.Goals as goal

pub invariant_of-result : goal.invariant_of-result
invariant_of-result c =
    let a = c.args in
    let size = c.requires.size in
    let cells = c.in_ok-vec.ensures.items_if_clones_equal (λ y e. e) ∙ ap (replicate (a.rows * a.cols)) c.blank.ensures.cell in
    record {
      turned = blank_turned a.rows a.cols c.in_ok-vec.field-0.items size cells;
      lengths = no_lengths a.rows a.cols c.in_ok-vec.field-0.items c.in_ok-vec-2.field-0.items cells (c.in_ok-vec-2.ensures.items_if_clones_equal (λ y e. e));
    }
