use Rattle.std.proofs.Common.{◌++◌, sym, ap, ◌∙◌}
use Rattle.roam_repaint.proofs.Texts.{wraps_off}
use Rattle.roam_repaint.proofs.repainting.push_wrap_off.Goals as goal

pub returns : goal.returns
returns c = record { text = c.in_ok-extend_from_slice.ensures.items ∙ ap (λ l. c.args.text.now.items ++ l) (sym wraps_off) }
