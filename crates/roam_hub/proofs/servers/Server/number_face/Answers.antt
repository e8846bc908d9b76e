use Rattle.std.proofs.Common.{arith}
use Rattle.std.proofs.lemmas.Bool.Decides.{nat_tests}
use Rattle.roam_hub.proofs.Sharing.{together_numbered, have_numbered}
use Rattle.roam_hub.proofs.servers.Server.number_face.Goals as goal

pub send_from-requires-clause-together : goal.send_from-requires-clause-together
send_from-requires-clause-together c =
    together_numbered c.self.inside.made c.self.inside.screen _ c.self.inside.records.entries
    c.new-shared.result.changes.items c.self.invariant.2 c.new-shared.ensures.changes

pub invariant_of-self-2 : goal.invariant_of-self-2
invariant_of-self-2 c =
    let f = c.if-number-ge-NUMBER_LIMIT.false in (
      grind (arith, nat_tests, f),
      c.self.invariant.1,
      have_numbered c.self.inside.made c.self.inside.screen _ c.args.now c.self.inside.records.entries
          c.send_from.new.records.entries c.self.invariant.2 c.in_ok-send_from.ensures.settled,
    )
