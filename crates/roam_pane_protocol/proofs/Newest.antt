-- The last of the last, and the last of those behind some.
use Rattle.std.proofs.Common.{◌≡◌, ◌≤◌, ◌+◌, ◌-◌, ℕ, List, length, drop, sym, ap, ◌∙◌, arith}
use Rattle.std.proofs.lemmas.List.{drop-drop, length-drop}
use Rattle.roam_pane_metadata.specs.declared.queries.Query.{Query}
use Rattle.roam_pane_metadata.specs.Asking.{most_kept, newest}

-- so many are passed over either way
same-count : (n told : ℕ) → told ≤ n → (n - 16) + ((n - (n - 16)) - (n - told)) ≡ told + ((n - told) - 16)
same-count n told few = omega (arith, few)

pub asks-newest : (told : ℕ) (queries : List Query) → told ≤ length queries
    → newest (length queries - told) (newest most_kept queries) ≡ newest most_kept (drop told queries)
asks-newest told queries few =
    let n = length queries in
    ap (λ k. drop (k - (n - told)) (drop (n - 16) queries)) (length-drop (n - 16) queries)
    ∙ drop-drop ((n - (n - 16)) - (n - told)) (n - 16) queries
    ∙ ap (λ k. drop k queries) (same-count n told few)
    ∙ sym (drop-drop ((n - told) - 16) told queries)
    ∙ ap (λ k. drop (k - 16) (drop told queries)) (sym (length-drop told queries))
