use Rattle.std.proofs.Common.{arith}
use Rattle.roam_stored_rows.proofs.Placing.{rows-push}
use Rattle.roam_stored_rows.proofs.chunks.RowChunk.push.Goals as goal

pub returns-clause-ok : goal.returns-clause-ok
returns-clause-ok c = grind (arith, rows-push, c.self.invariant, c.self.view_is, c.extend_from_slice.ensures.items, c.push.ensures.items)
