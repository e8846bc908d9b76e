use Rattle.std.proofs.Common.{refl, sym, subst}
use Rattle.roam_pane_sockets.specs.Frames.{HasNoMark}
use Rattle.roam_pane_sockets.proofs.Framing.{none-changes}
use Rattle.roam_pane_sockets.proofs.frames.frame_behind.Goals as goal

pub returns-then-has_no_mark-clause-frame : goal.returns-then-has_no_mark-clause-frame
returns-then-has_no_mark-clause-frame c = λ whole.
    sym (none-changes c.args.frame c.args.from _ (subst HasNoMark c.split_at.ensures.back (c.if-has_no_mark.ensures.none refl)))
