-- One row more of those that are read or counted.
use Rattle.std.proofs.Common.{◌≡◌, ℕ, ◌+◌, ◌-◌, ◌≤◌, ◌<◌, ◌⊎◌, List, [], ◌∷◌, ◌++◌, drop, length, take, get_or, refl, sym, ap, ◌∙◌, arith, inl, inr, length-append, length-drop, length-take}
use Rattle.std.proofs.lemmas.List.{flat_map_more, get_or-drop, take_at, take_more, take_rest, take-take}
use Rattle.std.proofs.lemmas.List.Sums.{sum_by_push, sum_by-take-drop, sum_by-take-le}
use Rattle.roam_stored_rows.specs.Pages.{IsFit, lines_of}
use Rattle.roam_stored_rows.specs.Rows.{StoredRow, bytes_of, line_of, no_row, row_of, size_of}

pub part-more : (rows : List StoredRow) (at next : ℕ) → at ≤ next → next < length rows
    → take (next + 1 - at) (drop at rows) ≡ take (next - at) (drop at rows) ++ row_of rows next ∷ []
part-more rows at next h s =
    let n = next - at in
    let one : next + 1 - at ≡ n + 1 = omega (arith, h) in
    let place : at + n ≡ next = omega (arith, h) in
    let low : n < length (drop at rows) = rw (length-drop at rows) (omega (arith, h, s)) in
    let row : get_or (drop at rows) n no_row ≡ row_of rows next = get_or-drop at rows n no_row ∙ ap (λ k. get_or rows k no_row) place in
    ap (λ k. take k (drop at rows)) one ∙ take_more (drop at rows) n no_row low
    ∙ ap (λ (r : StoredRow). take n (drop at rows) ++ r ∷ []) row

pub bytes-more : (rows : List StoredRow) (at next : ℕ) → at ≤ next → next < length rows
    → bytes_of (take (next + 1 - at) (drop at rows)) ≡ bytes_of (take (next - at) (drop at rows)) + size_of (row_of rows next)
bytes-more rows at next h s =
    ap bytes_of (part-more rows at next h s) ∙ sum_by_push size_of (take (next - at) (drop at rows)) (row_of rows next)

pub lines-more : (rows : List StoredRow) (at next : ℕ) (out : List ℕ) → at ≤ next → next < length rows
    → out ++ lines_of (take (next - at) (drop at rows)) ++ line_of (row_of rows next) ≡ out ++ lines_of (take (next + 1 - at) (drop at rows))
lines-more rows at next out h s =
    flat_map_more line_of out (take (next - at) (drop at rows)) (row_of rows next)
    ∙ ap (λ (l : List StoredRow). out ++ lines_of l) (sym (part-more rows at next h s))

pub bytes-drop : (rows : List StoredRow) (at : ℕ) → bytes_of (drop at rows) ≤ bytes_of rows
bytes-drop rows at = omega (arith, sum_by-take-drop size_of rows at)

pub bytes-part : (rows : List StoredRow) (at n : ℕ) → bytes_of (take n (drop at rows)) ≤ bytes_of rows
bytes-part rows at n = omega (arith, sum_by-take-le size_of (drop at rows) n, bytes-drop rows at)

-- as many rows are read as fit, if the next one doesn't
pub stops : (rows : List StoredRow) (at end next bytes most : ℕ) → at < next → next < end → end ≤ length rows
    → bytes ≡ bytes_of (take (next - at) (drop at rows)) → (bytes ≤ most) ⊎ (next - at ≤ 1)
    → most < bytes + size_of (row_of rows next) → IsFit most (take (end - at) (drop at rows)) (next - at)
stops rows at end next bytes most a b c e f g =
    let n = next - at in
    let all = drop at rows in
    let asked = take (end - at) all in
    let size : length asked ≡ end - at = length-take (end - at) all ∙ rw (length-drop at rows) (omega (arith, c)) in
    let same : take n asked ≡ take n all = take-take n (end - at) all (omega (arith, b)) in
    let more : take (n + 1) asked ≡ take (n + 1) all = take-take (n + 1) (end - at) all (omega (arith, a, b)) in
    let one : next + 1 - at ≡ n + 1 = omega (arith, a) in
    let sum : bytes_of (take (n + 1) all) ≡ bytes + size_of (row_of rows next) =
    ap (λ k. bytes_of (take k all)) (sym one) ∙ bytes-more rows at next (omega (arith, a)) (omega (arith, b, c)) ∙ ap (λ k. k + size_of (row_of rows next)) (sym e) in
    let bytes_same : bytes_of (take n asked) ≡ bytes = ap bytes_of same ∙ sym e in
    let bytes_more : bytes_of (take (n + 1) asked) ≡ bytes + size_of (row_of rows next) = ap bytes_of more ∙ sum in
    record {
      among = omega (arith, size, b);
      fits = elim f as (λ _. (bytes_of (take n asked) ≤ most) ⊎ (n ≤ 1)) [ inl s ↦ inl (omega (arith, s, bytes_same)) | inr s ↦ inr s ];
      full = λ _. omega (arith, bytes_more, g);
      some = λ _. omega (arith, a);
    }

pub kept-further : (out more now then : List ℕ) → now ≡ out ++ more → take (length now) then ≡ now → take (length out) then ≡ out
kept-further out more now then e h =
    let longer : length out ≤ length now = omega (arith, ap length e ∙ length-append out more) in
    sym (take-take (length out) (length now) then longer) ∙ ap (λ (l : List ℕ). take (length out) l) (h ∙ e) ∙ take_at out more (length out) refl

pub rest-behind : (rows : List StoredRow) (at end : ℕ) → end ≡ length rows → take (end - at) (drop at rows) ≡ drop at rows
rest-behind rows at end e = ap (λ n. take (n - at) (drop at rows)) e ∙ take_rest rows at
