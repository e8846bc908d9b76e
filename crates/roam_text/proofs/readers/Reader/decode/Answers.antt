use Rattle.std.proofs.Common.{rules}
use Rattle.roam_text.proofs.readers.Reader.decode.Goals as goal

pub returns-in-One-clause-given : goal.returns-in-One-clause-given
returns-in-One-clause-given c = search rules
