use Rattle.roam_hub.proofs.Viewing.{acts_typed}
use Rattle.roam_hub.proofs.clients.Client.typed.Goals as goal

pub invariant_of-self : goal.invariant_of-self
invariant_of-self c = (
  acts_typed c.typed.result c.self.inside.acts c.typed.new.self c.args.act c.typed.ensures.ok c.typed.ensures.err
      c.self.invariant.0 (c.requires.in_range, c.facts.ensures.key),
  c.self.invariant.1,
  c.self.invariant.2,
  c.self.invariant.3,
  c.self.invariant.4,
  c.self.invariant.5,
  c.self.invariant.6,
)
