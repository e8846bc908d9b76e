use Rattle.std.proofs.Common.{rules}
use Rattle.roam_controls.proofs.erasures.private_erasure.Goals as goal

pub returns-in-Some : goal.returns-in-Some
returns-in-Some c = search rules
