use Rattle.roam_pane_protocol.proofs.Subscribing.{are_news}
use Rattle.roam_pane_protocol.proofs.laws.lines_are_news.Goals as goal

pub returns : goal.returns
returns c = record { news = are_news }
