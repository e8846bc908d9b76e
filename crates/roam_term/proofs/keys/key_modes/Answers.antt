use Rattle.std.proofs.Common.{rules}
use Rattle.roam_term.proofs.keys.key_modes.Goals as goal

pub returns : goal.returns
returns c = search rules
