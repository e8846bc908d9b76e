use Rattle.roam_scrollback_stream.proofs.Reading.{fed-if-ok}
use Rattle.roam_scrollback_stream.proofs.rows.feed.Goals as goal

pub returns-in-Some-clause-fed : goal.returns-in-Some-clause-fed
returns-in-Some-clause-fed c =
    fed-if-ok c.feed.result c.in-Some.pane c.feed.new.self c.args.place.now c.args.piece.now c.args.tellings.now.out c.feed.new.tellings.out
    c.in-Some.is c.feed.ensures.told c.feed.ensures.from c.feed.ensures.held c.feed.ensures.number
