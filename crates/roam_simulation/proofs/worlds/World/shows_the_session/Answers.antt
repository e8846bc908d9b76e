use Rattle.roam_simulation.proofs.Beginning.{shows_session}
use Rattle.roam_simulation.proofs.worlds.World.shows_the_session.Goals as goal

pub returns : goal.returns
returns c =
    record {
      shown =
          λ session size es rs st.
          shows_session _ st.world st.stands (c.clients_show_the_session.ensures.screens session size es rs st.world st.reached)
          (c.clients_show_the_session.ensures.acts session size es rs st.world st.reached);
    }
