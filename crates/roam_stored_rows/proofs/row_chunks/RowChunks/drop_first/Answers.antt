use Rattle.std.proofs.Common.{arith}
use Rattle.roam_stored_rows.proofs.row_chunks.RowChunks.drop_first.Goals as goal

pub invariant_of-self : goal.invariant_of-self
invariant_of-self c =
    record {
      each = c.forget-self-inside.ensures.chunks;
      last_most = c.self.invariant.last_most;
      total = omega (arith, c.forget-self-inside.ensures.count, c.self.invariant.total, c.if-self-count.false);
      fits = omega (arith, c.forget-self-inside.ensures.fewer, c.forget-self-inside.ensures.count, c.self.invariant.total, c.self.invariant.fits, c.if-self-count.false);
    }
