use Rattle.std.proofs.Common.{rules}
use Rattle.roam_stream_framing.proofs.Carrying.{asks_more, has_more, stopped_more, writes_more}
use Rattle.roam_stream_framing.proofs.carriers.Carrier.flush.Goals as goal

pub returns-then-not-write_piece-clause-writes : goal.returns-then-not-write_piece-clause-writes
returns-then-not-write_piece-clause-writes g c =
    writes_more _ _ _ _ _ _ c.loop.invariant.writes c.write_piece.ensures.writes

pub returns-then-not-write_piece-clause-over : goal.returns-then-not-write_piece-clause-over
returns-then-not-write_piece-clause-over g c = (asks_more _ _ _ _ _ _ _ c.loop.invariant.asks c.write_piece.ensures.asks).over

pub returns-then-not-write_piece-clause-stays : goal.returns-then-not-write_piece-clause-stays
returns-then-not-write_piece-clause-stays g c = (asks_more _ _ _ _ _ _ _ c.loop.invariant.asks c.write_piece.ensures.asks).stays

pub returns-then-not-write_piece-clause-all : goal.returns-then-not-write_piece-clause-all
returns-then-not-write_piece-clause-all g c =
    λ h. stopped_more _ _ _ _ _ _ c.loop.invariant.asks.answered (c.write_piece.ensures.stops (search rules))

pub loop-preserved : goal.loop-preserved
loop-preserved g c = record {
  frames = cc;
  writes = writes_more _ _ _ _ _ _ c.loop.invariant.writes c.write_piece.ensures.writes;
  asks = asks_more _ _ _ _ _ _ _ c.loop.invariant.asks c.write_piece.ensures.asks;
  went = λ h. has_more _ _ _ _ _ c.loop.invariant.asks.answered (c.write_piece.ensures.went (search rules));
}
