use Rattle.std.proofs.Common.{◌≡◌, ◌+◌, ◌∷◌, ◌++◌, List, length, drop, arith, ap, sym, subst, ◌∙◌}
use Rattle.roam_stored_rows.specs.Chunks.{AllWhole, joined, whole}
use Rattle.roam_stored_rows.specs.Rows.{StoredRow}
use Rattle.roam_stored_rows.proofs.Joining.{all-rest, drop-chunk, length-cons}
use Rattle.roam_stored_rows.proofs.row_chunks.forget.Goals as goal

pub loop-left-preserved : goal.loop-left-preserved
loop-left-preserved c =
    let old = c.loop-left.chunks.items in
    let new = c.pop_front.new.self.items in
    let chunk = c.in-Some.field-0 in
    let is : old ≡ chunk ∷ new = c.in-Some.ensures.items in
    let all : AllWhole (chunk ∷ new) = subst AllWhole is c.loop-left.invariant.chunks in
    let one : length chunk ≡ 256 = all 0 chunk (omega arith) in
    record {
      rest = λ last. drop-chunk chunk new last c.loop-left.left one c.loop-left-test.true
          ∙ ap (λ (l : List (List StoredRow)). drop c.loop-left.left (joined l ++ last)) (sym is) ∙ c.loop-left.invariant.rest last;
      count = let e : length (joined old) ≡ length chunk + length (joined new) = ap (λ (l : List (List StoredRow)). length (joined l)) is ∙ length-cons chunk new in
          omega (arith, e, one, c.loop-left.invariant.count, c.loop-left-test.true);
      chunks = all-rest (λ (rows : List StoredRow). length rows ≡ whole) chunk new all;
      fewer = omega (arith, c.loop-left.invariant.fewer);
    }
