use Rattle.roam_hub.proofs.Sharing.{have_sent}
use Rattle.roam_hub.proofs.servers.Server.send_newest.Goals as goal

pub invariant_of-self-2 : goal.invariant_of-self-2
invariant_of-self-2 c = (
  c.self.invariant.0,
  c.self.invariant.1,
  have_sent c.self.inside.made c.self.inside.screen c.args.now c.self.inside.records.entries c.send_from.new.records.entries
      c.self.invariant.2 c.in_ok-send_from.ensures.settled,
)
