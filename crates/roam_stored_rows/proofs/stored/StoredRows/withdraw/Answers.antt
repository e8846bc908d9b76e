use Rattle.std.proofs.Common.{◌≡◌, ◌-◌, arith, ap, ◌∙◌, length, min, take, length-take}
use Rattle.std.proofs.lemmas.List.Sums.{sum_by-take-drop}
use Rattle.roam_stored_rows.specs.Rows.{bytes_of, size_of}
use Rattle.roam_stored_rows.proofs.Sums.{rest-behind}
use Rattle.roam_stored_rows.proofs.stored.StoredRows.withdraw.Goals as goal

pub overflow_sub-self : goal.overflow_sub-self
overflow_sub-self c =
    let kept = c.len-len.result - c.args.count in
    let behind = c.bytes_between.ensures.bytes ∙ ap bytes_of (rest-behind c.self.inside.rows kept c.len-len.result c.len-len.ensures.len) in
    omega (arith, behind, sum_by-take-drop size_of c.self.inside.rows kept, c.self.invariant.sum)

pub invariant_of-self-2 : goal.invariant_of-self-2
invariant_of-self-2 c =
    let rows = c.self.inside.rows in
    let kept = c.len-len.result - c.args.count in
    let behind = c.bytes_between.ensures.bytes ∙ ap bytes_of (rest-behind rows kept c.len-len.result c.len-len.ensures.len) in
    let bytes : bytes_of c.truncate.new.self ≡ bytes_of (take kept rows) = ap bytes_of c.truncate.ensures.first in
    let size : length c.truncate.new.self ≡ min kept (length rows) = ap length c.truncate.ensures.first ∙ length-take kept rows in
    record {
      sum = omega (arith, bytes, behind, sum_by-take-drop size_of rows kept, c.self.invariant.sum);
      small = omega (arith, c.self.invariant.small);
      numbers = omega (arith, size, c.self.invariant.numbers);
    }
