use Rattle.roam_turns.proofs.cores.ClientClientCore.shown.Goals as goal

pub returns-clause-number : goal.returns-clause-number
returns-clause-number c = c.shown.ensures.shown.0

pub returns-clause-screen : goal.returns-clause-screen
returns-clause-screen c = c.shown.ensures.shown.1
