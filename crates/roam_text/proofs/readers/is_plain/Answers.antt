use Rattle.std.proofs.Common.{rules}
use Rattle.roam_text.proofs.readers.is_plain.Goals as goal

pub returns-then-byte-ge32 : goal.returns-then-byte-ge32
returns-then-byte-ge32 c = search rules
