use Rattle.roam_pane_protocol.proofs.MetadataLists.{is-news}
use Rattle.roam_pane_protocol.proofs.laws.metadata_is_news.Goals as goal

pub returns : goal.returns
returns c = record { news = is-news }
