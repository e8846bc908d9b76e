use Rattle.std.proofs.Common.{ap, sym, subst, ◌∙◌, arith}
use Rattle.roam_wire.specs.Cutting.{joined_fragments, AreSendable}
use Rattle.roam_wire.proofs.Cuts.{joined-fragments, sendable_in}
use Rattle.roam_wire.proofs.cutting.cut.Goals as goal

pub returns-clause-joined : goal.returns-clause-joined
returns-clause-joined c = ap joined_fragments c.in_ok-fragments_of.ensures.fragments ∙ joined-fragments c.args.text.now

pub returns-clause-sendable : goal.returns-clause-sendable
returns-clause-sendable c = subst (AreSendable c.args.version) (sym c.in_ok-fragments_of.ensures.fragments) (sendable_in c.args.version c.args.text.now (omega arith))
