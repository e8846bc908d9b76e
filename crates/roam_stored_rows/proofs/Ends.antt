-- What is left of stored rows at their ends.
use Rattle.std.proofs.Common.{◌≡◌, ℕ, ◌+◌, ◌≤◌, ◌<◌, ◌⊎◌, List, drop, length, refl, sym, subst}
use Rattle.roam_stored_rows.specs.Ends.{IsLimited, IsWithin}
use Rattle.roam_stored_rows.specs.Rows.{RowsView, StoredRow, bytes_of}

pub limits : (most_rows most_bytes : ℕ) (old : RowsView) (first : ℕ) (rows : List StoredRow) (count : ℕ) (new : List StoredRow)
    → old ≡ record { first = first; rows = rows } → new ≡ drop count rows → count ≤ length rows
    → IsWithin most_rows most_bytes (drop count rows)
    → ((k : ℕ) → k < count → (most_rows < length (drop k rows)) ⊎ (most_bytes < bytes_of (drop k rows)))
    → IsLimited most_rows most_bytes old (record { first = first + count; rows = new })
limits most_rows most_bytes old first rows count new e n h w f =
    let view : RowsView = record { first = first; rows = rows } in
    let is : IsLimited most_rows most_bytes view (record { first = first + count; rows = drop count rows }) =
    record { count = count; some = h; is = refl; within = w; fewest = f } in
    subst (λ (v : RowsView). IsLimited most_rows most_bytes v (record { first = first + count; rows = new })) (sym e)
    (subst (λ (l : List StoredRow). IsLimited most_rows most_bytes view (record { first = first + count; rows = l })) (sym n) is)
