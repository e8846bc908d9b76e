use Rattle.roam_scrollback_stream.proofs.Reading.{fed-part}
use Rattle.roam_scrollback_stream.proofs.rows.Run.take_bytes.Goals as goal

pub returns-clause-reaches : goal.returns-clause-reaches
returns-clause-reaches c = λ read output reaches.
    fed-part c.args.self.now.terminals c.feed.new.self c.args.self.now.input c.read.new.self c.part_of-count.result c.number.result
    c.args.piece.now output c.args.tellings.now.out c.feed.new.tellings.out read reaches c.number.ensures.number c.part_of-count.ensures.part
    c.requires.some c.requires.coming c.in_ok-feed.ensures.fed c.in_ok-feed.ensures.normalize c.read.ensures.left
