use Rattle.std.proofs.Common.{refl}
use Rattle.roam_text.proofs.StringMoves.{strings-nil}
use Rattle.roam_text.proofs.StringLogs.{follows-empty}
use Rattle.roam_text.proofs.string_readers.StringReader.new.Goals as goal

pub returns-clause-follows : goal.returns-clause-follows
returns-clause-follows c = follows-empty _ c.new.ensures.empty refl

pub returns-clause-empty : goal.returns-clause-empty
returns-clause-empty c = strings-nil
