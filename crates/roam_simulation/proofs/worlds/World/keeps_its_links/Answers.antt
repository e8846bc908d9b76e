use Rattle.roam_simulation.proofs.worlds.World.keeps_its_links.Goals as goal

pub returns : goal.returns
returns c =
    record {
      eight = λ session size es rs st. c.links_stay_true.ensures.eight session size es rs st.world st.reached;
      address = λ session size es rs st. c.datagrams_keep_their_rules.ensures.address session size es rs st.world st.reached;
    }
