use Rattle.std.proofs.Common.{refl, sym, ◌∙◌}
use Rattle.roam_pane_sockets.proofs.Cutting.{none-upto}
use Rattle.roam_pane_sockets.proofs.pieces.left_open.Goals as goal

pub returns-then-has_no_mark : goal.returns-then-has_no_mark
returns-then-has_no_mark c = record {
  frame = c.begun.ensures.begun ∙ sym (none-upto c.args.count _ 0 c.args.ready.now (c.if-has_no_mark.ensures.none refl));
}
