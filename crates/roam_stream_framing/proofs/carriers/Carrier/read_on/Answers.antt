use Rattle.std.proofs.Common.{arith, rules}
use Rattle.roam_stream_framing.proofs.Carrying.{all_read_more, asks_more, came_more}
use Rattle.roam_stream_framing.proofs.carriers.Carrier.read_on.Goals as goal

pub returns-then-not-read_more-clause-asks : goal.returns-then-not-read_more-clause-asks
returns-then-not-read_more-clause-asks g c = asks_more _ _ _ _ _ _ _ c.loop.invariant.asks c.read_more.ensures.asks

pub returns-then-not-read_more-clause-came : goal.returns-then-not-read_more-clause-came
returns-then-not-read_more-clause-came g c =
    came_more _ _ _ _ _ _ _ _ _ _ _ c.read_more.ensures.asks c.loop.invariant.came c.read_more.ensures.came

pub returns-then-not-read_more-clause-stops : goal.returns-then-not-read_more-clause-stops
returns-then-not-read_more-clause-stops g c =
    all_read_more _ c.read_more.new.self.frames _ _ _ _ c.loop.invariant.asks.answered (c.read_more.ensures.stops (search rules))

pub loop-preserved : goal.loop-preserved
loop-preserved g c = record {
  queue = cc;
  came = came_more _ _ _ _ _ _ _ _ _ _ _ c.read_more.ensures.asks c.loop.invariant.came c.read_more.ensures.came;
  long = let more = c.read_more.ensures.more (search rules) in let long = c.loop.invariant.long in omega arith;
  asks = asks_more _ _ _ _ _ _ _ c.loop.invariant.asks c.read_more.ensures.asks;
}
