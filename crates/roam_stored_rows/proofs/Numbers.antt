-- The answer of a search, by the numbers of rows.
use Rattle.std.proofs.Common.{◌≡◌, ℕ, ◌+◌, ◌-◌, ◌≤◌, ◌<◌, List, [], ◌∷◌, drop, length, min, ap, subst, arith, inl, inr}
use Rattle.std.proofs.lemmas.Bool.{cases_lt}
use Rattle.std.proofs.lemmas.List.{drop_all}
use Rattle.bstr.proofs.lemmas.LengthLemmas.{length-lossy_chars}
use Rattle.bstr.proofs.lemmas.PieceLemmas.{lossy_chars-step}
use Rattle.roam_stored_rows.specs.Finding.{Begins, HasNoMatch, IsMatch, IsNearest, IsNearestAt, NoneBegins, is_folded, letters_in}
use Rattle.roam_stored_rows.specs.Rows.{RowsView, StoredRow}
use Rattle.roam_stored_rows.specs.declared.finding.Way.{Way}
use Rattle.roam_stored_rows.specs.declared.finding.Way.TheVariants.{Back, On}

pub letters-some : (text : List ℕ) → 0 < length text → 0 < length (letters_in text)
letters-some text h = omega (arith, ap length (lossy_chars-step text h))

begins-text : (folded : _) (text : List ℕ) (rows : List StoredRow) → Begins folded text rows → 0 < length text
begins-text folded text [] h = absurd h
begins-text folded text (row ∷ rows) h = h.1

pub none-empty : (view : RowsView) (text : List ℕ) (low high : ℕ) → length text ≡ 0 → HasNoMatch view (letters_in text) low high
none-empty view text low high e k a b h =
    let some = begins-text (is_folded (letters_in text)) (letters_in text) (drop (k - view.first) view.rows) h.1 in
    omega (arith, some, e, length-lossy_chars text)

-- a row with a match is one of the rows
begins-within : (folded : _) (text : List ℕ) (rows : List StoredRow) (at : ℕ) → Begins folded text (drop at rows) → at < length rows
begins-within folded text rows at h =
    elim (cases_lt at (length rows)) as (λ _. at < length rows) [
      | inl s ↦ s
      | inr s ↦ absurd (subst (λ (l : List StoredRow). Begins folded text l) (drop_all at rows s) h)
    ]

none-between : (first : ℕ) (rows : List StoredRow) (text : List ℕ) (low high from to : ℕ) → from ≤ low - first
    → ((at : ℕ) → at < length rows → at < high - first → at < to) → NoneBegins (is_folded text) text rows from to
    → HasNoMatch (record { first = first; rows = rows }) text low high
none-between first rows text low high from to f t none k a b h =
    let at = k - first in
    let inside = begins-within (is_folded text) text rows at h.1 in
    none at (omega (arith, f, a)) (t at inside (omega (arith, b, h.0))) h.1

match-at : (first : ℕ) (rows : List StoredRow) (text : List ℕ) (at : ℕ) → Begins (is_folded text) text (drop at rows)
    → IsMatch (record { first = first; rows = rows }) text (first + at)
match-at first rows text at h =
    let place : at ≡ first + at - first = omega arith in
    (omega arith, subst (λ n. Begins (is_folded text) text (drop n rows)) place h)

pub number : (way : Way) (view : RowsView) (first : ℕ) (rows : List StoredRow) (text : List ℕ) (low high from to at : ℕ)
    → record { first = first; rows = rows } ≡ view → from ≡ min (low - first) (length rows) → to ≡ min (high - first) (length rows)
    → IsNearestAt way (is_folded text) text rows from to at → IsNearest way view text low high (first + at)
number On view first rows text low high from to at e f t n =
    subst (λ (v : RowsView). IsNearest On v text low high (first + at)) e
    ((
      omega (arith, f, t, n.0, n.1),
      omega (arith, t, n.1),
      match-at first rows text at n.2,
      none-between first rows text low (first + at) from at (omega (arith, f)) (λ k a b. omega (arith, b)) n.3,
    ))
number Back view first rows text low high from to at e f t n =
    subst (λ (v : RowsView). IsNearest Back v text low high (first + at)) e
    ((
      omega (arith, f, t, n.0, n.1),
      omega (arith, t, n.1),
      match-at first rows text at n.2,
      none-between first rows text (first + at + 1) high (at + 1) to (omega arith) (λ k a b. omega (arith, t, a, b)) n.3,
    ))
