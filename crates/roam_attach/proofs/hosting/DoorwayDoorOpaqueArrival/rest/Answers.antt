use Rattle.std.proofs.Common.{◌≡◌, min, rules, subst, false}
use Rattle.std.specs.Prelude.{◌≢◌, IfSome}
use Rattle.roam_sockets.specs.Waits.{wait_until}
use Rattle.roam_attach.proofs.Waiting.{waits_no_longer}
use Rattle.roam_attach.proofs.hosting.DoorwayDoorOpaqueArrival.rest.Goals as goal
use Rattle.roam_attach.proofs.hosting.DoorwayDoorOpaqueArrival.rest.Goals.{then-longest-eq0, else-longest-eq0}

pub returns-clause-waited : goal.returns-clause-waited
returns-clause-waited g c =
    let asked : c.min-wait.result ≡ min c.args.longest (wait_until c.args.due c.args.self.now.connection.moment) = search rules in
    let stirred : c.args.longest ≡ 0 → c.if-longest-eq0.self.connection.waits.quiet ≡ false = λ zero.
    elim c.if-longest-eq0.branch [
      | then-longest-eq0 w ↦ search rules
      | else-longest-eq0 w ↦ search rules
    ] in
    subst (λ n. IfSome c.rest.new.self.waits.longest (λ long. (c.args.longest ≢ 0) × (long ≡ n))) asked
    (waits_no_longer c.args.longest c.min-wait.result c.if-longest-eq0.self.connection.waits.quiet c.rest.new.self.waits.longest _
    c.rest.ensures.waited stirred)
