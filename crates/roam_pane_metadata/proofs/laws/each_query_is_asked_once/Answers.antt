use Rattle.std.proofs.Common.{[]}
use Rattle.roam_pane_metadata.proofs.Gained.{asked-behind, queries-counted}
use Rattle.roam_pane_metadata.proofs.laws.each_query_is_asked_once.Goals as goal

pub returns : goal.returns
returns c = record { once = queries-counted; front = asked-behind [] }
