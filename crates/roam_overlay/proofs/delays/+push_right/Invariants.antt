use Rattle.roam_overlay.proofs.delays.+push_right.Given as goal

abbrev pub decreases-push_right : goal.decreases-push_right
decreases-push_right l = l.count
