use Rattle.roam_attach.proofs.Running.{told}
use Rattle.roam_attach.proofs.attaching.follow_socket.Goals as goal

pub returns : goal.returns
returns g c = record {
  faults = told _ _ _ _ _ _ _ _ _ _ c.follow.result c.of-typist.ensures.stands c.follow.ensures.faults
      c.follow.ensures.broken_off;
}
