use Rattle.std.proofs.Common.{arith}
use Rattle.roam_acts.proofs.Texts.{are_ranged, begins_with, is_found, only_text}
use Rattle.roam_acts.proofs.bytes.read_acts.Goals as goal

pub returns-clause-found : goal.returns-clause-found
returns-clause-found c = is_found c.args.count c.args.bytes.now c.acts_in.result (λ i. omega (arith, c.type_inv.bytes i)) c.acts_in.ensures.acts

pub returns-clause-in_range : goal.returns-clause-in_range
returns-clause-in_range c = are_ranged c.args.count c.args.bytes.now c.acts_in.result (λ i. omega (arith, c.type_inv.bytes i)) c.acts_in.ensures.acts

pub returns-clause-only : goal.returns-clause-only
returns-clause-only c = only_text c.args.count c.args.bytes.now c.acts_in.result c.acts_in.ensures.acts

pub returns-clause-begins : goal.returns-clause-begins
returns-clause-begins c = λ e. begins_with c.args.bytes.now (λ i. omega (arith, c.type_inv.bytes i)) (c.acts_in.ensures.first e)
