use Rattle.roam_simulation.proofs.worlds.World.one_round_suffices.Goals as goal

pub returns-clause-round : goal.returns-clause-round
returns-clause-round c session size es rs st = c.one_round_suffices.ensures.round session size es rs st.world st.reached
