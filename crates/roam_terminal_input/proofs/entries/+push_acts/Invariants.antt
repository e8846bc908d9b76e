use Rattle.roam_terminal_input.proofs.entries.+push_acts.Given as goal

abbrev pub decreases-push_acts : goal.decreases-push_acts
decreases-push_acts l = l.cuts
