use Rattle.std.proofs.Common.{◌≡◌, ◌+◌, ◌++◌, List, length, min, take, drop, arith, ap, ◌∙◌, length-append, length-take}
use Rattle.std.proofs.lemmas.List.{drop-take}
use Rattle.roam_stored_rows.specs.Chunks.{joined}
use Rattle.roam_stored_rows.specs.Rows.{StoredRow}
use Rattle.roam_stored_rows.proofs.row_chunks.RowChunks.truncate.Goals as goal

pub invariant_of-self : goal.invariant_of-self
invariant_of-self c =
    let a = c.self.inside in
    let new = joined c.keep_first.new.chunks.items in
    let old = joined a.whole.items ++ a.last in
    let fewer : length (new ++ c.keep_first.new.last) ≡ min (a.dropped + c.args.count) (length old) =
    ap length c.keep_first.ensures.rows ∙ length-take (a.dropped + c.args.count) old in
    let size = length-append new c.keep_first.new.last in
    let size_old = length-append (joined a.whole.items) a.last in
    record {
      each = c.keep_first.ensures.chunks;
      last_most = c.keep_first.ensures.last;
      total = omega (arith, fewer, size, size_old, c.self.invariant.total, c.if-self-count.false);
      fits = omega (arith, c.self.invariant.fits, c.if-self-count.false);
    }

pub returns : goal.returns
returns c =
    let a = c.self.inside in
    record {
      first = ap (λ (l : List StoredRow). drop a.dropped l) c.keep_first.ensures.rows
          ∙ drop-take a.dropped c.args.count (joined a.whole.items ++ a.last)
          ∙ ap (λ (l : List StoredRow). take c.args.count l) c.self.view_is;
    }
