-- Rows of which the oldest are missing, after the same changes.
use Rattle.std.proofs.Common.{◌≡◌, ℕ, ◌+◌, ◌-◌, ◌≤◌, ◌<◌, ◌==◌, Bool, true, false, List, [], ◌∷◌, ◌++◌, drop, length, min, take, refl, sym, ap, subst, ◌∙◌, arith, inl, inr, length-append, length-drop, length-take, if◌then◌else◌}
use Rattle.std.proofs.lemmas.Bool.{cases_lt, eq-eqb, eqb-true, le-ltb, lt-ltb}
use Rattle.std.proofs.lemmas.List.{drop-append-le, drop-drop, drop-take, drop_all}
use Rattle.roam_stored_rows.specs.Ends.{added, empty_at}
use Rattle.roam_stored_rows.specs.Rows.{RowsView, StoredRow, end_of}
use Rattle.roam_row_files.specs.Changes.{IsTail, RowChange, after, after_all, appends, back_to, begins, checks, clears, forgets, from_on, withdraws}

-- a tail is as long as the numbers say
tail-size : (tail view : RowsView) → IsTail tail view → length tail.rows + (tail.first - view.first) ≡ length view.rows
tail-size tail view t = omega (arith, t.end, t.begun)

same-tail : (view : RowsView) → IsTail view view
same-tail view = let none : view.first - view.first ≡ 0 = omega arith in record { end = refl; begun = omega arith; rows = ap (λ n. drop n view.rows) (sym none) }

pub empty-tail : (view : RowsView) (first : ℕ) → first ≡ end_of view → IsTail (empty_at first) view
empty-tail view first e =
    record {
      end = omega (arith, e);
      begun = omega (arith, e);
      rows = sym (drop_all (first - view.first) view.rows (omega (arith, e)));
    }

begins-tail : (number : ℕ) (tail view : RowsView) → IsTail tail view → IsTail (after (begins number) tail) (after (begins number) view)
begins-tail number tail view t =
    subst (λ (n : ℕ). IsTail (if number == n then tail else empty_at number) (after (begins number) view)) (sym t.end)
    (by_test (number == end_of view))
  where
    by_test : (b : Bool) → IsTail (if b then tail else empty_at number) (if b then view else empty_at number)
    by_test true = t
    by_test false = same-tail (empty_at number)

appends-tail : (row : StoredRow) (tail view : RowsView) → IsTail tail view → IsTail (added row tail) (added row view)
appends-tail row tail view t =
    let fits : tail.first - view.first ≤ length view.rows = omega (arith, tail-size tail view t) in
    record {
      end = omega (arith, t.end, length-append tail.rows (row ∷ []), length-append view.rows (row ∷ []));
      begun = t.begun;
      rows = ap (λ (l : List StoredRow). l ++ row ∷ []) t.rows ∙ sym (drop-append-le (tail.first - view.first) view.rows (row ∷ []) fits);
    }

-- without the rows from a number on: none is left, or some are
back-none : (end : ℕ) (view : RowsView) → end < view.first → back_to end view ≡ empty_at end
back-none end view s = ap (λ (b : Bool). if b then empty_at end else record view { rows = take (end - view.first) view.rows }) (lt-ltb end view.first s)

back-some : (end : ℕ) (view : RowsView) → view.first ≤ end → back_to end view ≡ record view { rows = take (end - view.first) view.rows }
back-some end view s = ap (λ (b : Bool). if b then empty_at end else record view { rows = take (end - view.first) view.rows }) (le-ltb end view.first s)

withdraws-tail : (end : ℕ) (tail view : RowsView) → IsTail tail view → IsTail (back_to end tail) (back_to end view)
withdraws-tail end tail view t =
    elim (cases_lt end tail.first) as (λ _. IsTail (back_to end tail) (back_to end view)) [
      | inl s ↦
          subst (λ (v : RowsView). IsTail v (back_to end view)) (sym (back-none end tail s))
          (elim (cases_lt end view.first) as (λ _. IsTail (empty_at end) (back_to end view)) [
            | inl u ↦ subst (λ (v : RowsView). IsTail (empty_at end) v) (sym (back-none end view u)) (same-tail (empty_at end))
            | inr u ↦
                let left = length-take (end - view.first) view.rows in
                subst (λ (v : RowsView). IsTail (empty_at end) v) (sym (back-some end view u))
                (empty-tail (record view { rows = take (end - view.first) view.rows }) end (omega (arith, left, tail-size tail view t, t.begun, s, u)))
          ])
      | inr s ↦
          let gap = tail.first - view.first in
          let sum : gap + (end - tail.first) ≡ end - view.first = omega (arith, s, t.begun) in
          let rows : take (end - tail.first) tail.rows ≡ drop gap (take (end - view.first) view.rows) =
          ap (λ (l : List StoredRow). take (end - tail.first) l) t.rows ∙ sym (drop-take gap (end - tail.first) view.rows)
          ∙ ap (λ n. drop gap (take n view.rows)) sum in
          let a = length-take (end - tail.first) tail.rows in
          let b = length-take (end - view.first) view.rows in
          let is : IsTail (record tail { rows = take (end - tail.first) tail.rows }) (record view { rows = take (end - view.first) view.rows }) =
          record { end = omega (arith, a, b, t.end, s, t.begun); begun = t.begun; rows = rows } in
          subst (λ (v : RowsView). IsTail v (back_to end view)) (sym (back-some end tail s))
          (subst (λ (v : RowsView). IsTail (record tail { rows = take (end - tail.first) tail.rows }) v)
          (sym (back-some end view (omega (arith, s, t.begun)))) is)
    ]

forgets-tail : (first : ℕ) (tail view : RowsView) → IsTail tail view → IsTail (from_on first tail) (from_on first view)
forgets-tail first tail view t =
    let gap = tail.first - view.first in
    let m = min (first - tail.first) (length tail.rows) in
    let n = min (first - view.first) (length view.rows) in
    let size = tail-size tail view t in
    let sum : gap + m ≡ n + (tail.first + m - (view.first + n)) = omega (arith, size, t.begun, t.end) in
    record {
      end = omega (arith, length-drop m tail.rows, length-drop n view.rows, t.end);
      begun = omega (arith, size, t.begun);
      rows = ap (λ (l : List StoredRow). drop m l) t.rows ∙ drop-drop m gap view.rows ∙ ap (λ k. drop k view.rows) sum
          ∙ sym (drop-drop (tail.first + m - (view.first + n)) n view.rows);
    }

pub after-tail : (change : RowChange) (tail view : RowsView) → IsTail tail view → IsTail (after change tail) (after change view)
after-tail (begins number) tail view t = begins-tail number tail view t
after-tail (appends row) tail view t = appends-tail row tail view t
after-tail (withdraws end) tail view t = withdraws-tail end tail view t
after-tail clears tail view t = subst (λ n. IsTail (empty_at n) (empty_at (end_of view))) (sym t.end) (same-tail (empty_at (end_of view)))
after-tail (forgets first) tail view t = forgets-tail first tail view t
after-tail (checks count rows cols text) tail view t = t

pub after-all-tail : (changes : List RowChange) (tail view : RowsView) → IsTail tail view → IsTail (after_all changes tail) (after_all changes view)
after-all-tail [] tail view t = t
after-all-tail (change ∷ changes) tail view t = after-all-tail changes (after change tail) (after change view) (after-tail change tail view t)

-- where a segment begins, the rows stay, and no rows are the tail of them
pub segments-tail : (newer : List RowChange) (view : RowsView)
    → IsTail (after_all (begins (end_of view) ∷ newer) (empty_at 0)) (after_all (begins (end_of view) ∷ newer) view)
segments-tail newer view =
    let same : after (begins (end_of view)) view ≡ view =
    ap (λ (b : Bool). if b then view else empty_at (end_of view)) (eq-eqb (end_of view) (end_of view) refl) in
    after-all-tail newer (after (begins (end_of view)) (empty_at 0)) (after (begins (end_of view)) view)
    (subst (λ (v : RowsView). IsTail (after (begins (end_of view)) (empty_at 0)) v) (sym same) (empty-tail-of (end_of view == 0) refl))
  where
    empty-tail-of : (b : Bool) → (end_of view == 0) ≡ b → IsTail (if b then empty_at 0 else empty_at (end_of view)) view
    empty-tail-of true e = empty-tail view 0 (sym (eqb-true (end_of view) 0 e))
    empty-tail-of false e = empty-tail view (end_of view) refl
