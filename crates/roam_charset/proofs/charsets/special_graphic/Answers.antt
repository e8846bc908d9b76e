use Rattle.std.proofs.Common.{rules}
use Rattle.roam_charset.proofs.charsets.special_graphic.Goals as goal

pub returns-in-95-to-126 : goal.returns-in-95-to-126
returns-in-95-to-126 c = search rules
