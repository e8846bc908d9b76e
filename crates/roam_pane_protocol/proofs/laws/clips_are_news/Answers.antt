use Rattle.roam_pane_protocol.proofs.Clipped.{are-news}
use Rattle.roam_pane_protocol.proofs.laws.clips_are_news.Goals as goal

pub returns : goal.returns
returns c = record { news = are-news }
