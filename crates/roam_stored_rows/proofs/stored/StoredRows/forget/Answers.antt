use Rattle.std.proofs.Common.{◌≡◌, ◌-◌, ◌≤◌, arith, ap, ◌∙◌, drop, take, length, length-drop}
use Rattle.std.proofs.lemmas.List.Sums.{sum_by-take-drop}
use Rattle.roam_stored_rows.specs.Rows.{bytes_of, size_of}
use Rattle.roam_stored_rows.proofs.stored.StoredRows.forget.Goals as goal

pub invariant_of-self : goal.invariant_of-self
invariant_of-self c =
    let rows = c.self.inside.rows in
    let count = c.min-count.result in
    let all : count - 0 ≡ count = omega arith in
    let before = c.bytes_between.ensures.bytes ∙ ap (λ n. bytes_of (take n rows)) all in
    let bytes : bytes_of c.drop_first.new.self ≡ bytes_of (drop count rows) = ap bytes_of c.drop_first.ensures.rest in
    let size : length c.drop_first.new.self ≡ length rows - count = ap length c.drop_first.ensures.rest ∙ length-drop count rows in
    let fewer : count ≤ length rows = omega (arith, c.min-count.ensures, c.len.ensures.len) in
    record {
      sum = omega (arith, bytes, before, sum_by-take-drop size_of rows count, c.self.invariant.sum);
      small = omega (arith, c.self.invariant.small);
      numbers = omega (arith, size, fewer, c.self.invariant.numbers);
    }
