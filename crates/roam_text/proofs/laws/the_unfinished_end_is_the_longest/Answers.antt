use Rattle.roam_text.proofs.UnfinishedEnds.{unfinished-tail, unfinished-begins, unfinished-longest}
use Rattle.roam_text.proofs.laws.the_unfinished_end_is_the_longest.Goals as goal

pub returns : goal.returns
returns c = record { tail = unfinished-tail; begins = unfinished-begins; longest = unfinished-longest }
