-- Marks row by row.
use Rattle.std.proofs.Common.{◌≡◌, ◌≢◌, ℕ, ◌+◌, ◌-◌, ◌<◌, ◌≤◌, inl, inr, Bool, true, false, ◌&&◌, ◌||◌, eqb, ltb, leb, List, length, replicate, set, get_or, refl, sym, ap, ◌∙◌, arith, length-set, get_or-set_same, get_or-set_other}
use Rattle.std.proofs.lemmas.Bool.{cases_eq, cases_lt}
use Rattle.std.proofs.lemmas.List.{places}
use Rattle.std.proofs.lemmas.List.FromFn.{fill_by_all, length-map-range_with_len, get_or-map-range_with_len}
use Rattle.std.proofs.lemmas.Grind.{common_steps}
use borrow.Rule.Slice.PartMut.{put_mid}
use Rattle.roam_grid.specs.Marks.{is_marked, also_marked}

or_true : (b : Bool) → (b || true) ≡ true
or_true true = refl
or_true false = refl

or_false : (b : Bool) → (b || false) ≡ b
or_false true = refl
or_false false = refl

or_assoc : (a b c : Bool) → ((a || b) || c) ≡ (a || (b || c))
or_assoc true b c = refl
or_assoc false b c = refl

pub length-also : (names : ℕ → Bool) (marks : List Bool) → length (also_marked names marks) ≡ 200
unfolding also_marked
length-also names marks = length-map-range_with_len (λ r. is_marked marks r || names r) 0 200

-- a row's mark afterwards
pub marked_at : (names : ℕ → Bool) (marks : List Bool) (r : ℕ) → r < 200 → is_marked (also_marked names marks) r ≡ (is_marked marks r || names r)
unfolding also_marked
marked_at names marks r h = get_or-map-range_with_len (λ j. is_marked marks j || names j) 0 200 r r false h (omega arith)

pub marks_are : (names : ℕ → Bool) (marks now : List Bool) → length now ≡ 200 → ((r : ℕ) → r < 200 → is_marked now r ≡ (is_marked marks r || names r)) → now ≡ also_marked names marks
unfolding also_marked
marks_are names marks now len each = fill_by_all (λ r. is_marked marks r || names r) now 200 false len each

-- rows are marked, and then others
pub marked_twice : (one two both : ℕ → Bool) (marks : List Bool) → ((r : ℕ) → r < 200 → (one r || two r) ≡ both r) → also_marked two (also_marked one marks) ≡ also_marked both marks
marked_twice one two both marks e =
    marks_are both marks (also_marked two (also_marked one marks)) (length-also two (also_marked one marks)) (λ r h.
    marked_at two (also_marked one marks) r h ∙ ap (λ b. b || two r) (marked_at one marks r h) ∙ or_assoc (is_marked marks r) (one r) (two r) ∙ ap (λ b. is_marked marks r || b) (e r h))

-- no row is marked
pub marked_none : (names : ℕ → Bool) (marks : List Bool) → length marks ≡ 200 → ((r : ℕ) → names r ≡ false) → marks ≡ also_marked names marks
marked_none names marks len none = marks_are names marks marks len (λ r h. sym (ap (λ b. is_marked marks r || b) (none r) ∙ or_false (is_marked marks r)))

pub same_row : (r row : ℕ) → r ≡ row → eqb r row ≡ true
same_row r row e = grind (arith, common_steps)

pub other_row : (r row : ℕ) → r ≢ row → eqb r row ≡ false
other_row r row ne = grind (arith, common_steps)

-- one mark is put on if a test says so
pub one_marked : (marks : List Bool) (row : ℕ) (on now : Bool) → length marks ≡ 200 → row < 200 → now ≡ (is_marked marks row || on) → set marks row now ≡ also_marked (λ r. eqb r row && on) marks
one_marked marks row on now len row_in now_is =
    marks_are (λ r. eqb r row && on) marks (set marks row now) (length-set marks row now ∙ len) (λ r h.
    elim (cases_eq r row) [
      | inl e ↦
          ap (is_marked (set marks row now)) e ∙ get_or-set_same marks row now false (omega (arith, len)) ∙ now_is
          ∙ sym (ap (λ b. is_marked marks r || (b && on)) (same_row r row e) ∙ ap (λ j. is_marked marks j || on) e)
      | inr ne ↦
          get_or-set_other marks row r now false ne ∙ sym (ap (λ b. is_marked marks r || (b && on)) (other_row r row ne) ∙ or_false (is_marked marks r))
    ])

pub and_true : (b : Bool) → (b && true) ≡ b
and_true true = refl
and_true false = refl

pub and_false : (b : Bool) → (b && false) ≡ false
and_false true = refl
and_false false = refl

-- tests that agree on the rows mark the same
pub marked_same : (one two : ℕ → Bool) (marks : List Bool) → ((r : ℕ) → r < 200 → one r ≡ two r) → also_marked one marks ≡ also_marked two marks
marked_same one two marks e =
    marks_are two marks (also_marked one marks) (length-also one marks) (λ r h. marked_at one marks r h ∙ ap (λ b. is_marked marks r || b) (e r h))

pub row_is_marked : (marks : List Bool) (row : ℕ) → length marks ≡ 200 → row < 200 → set marks row true ≡ also_marked (λ r. eqb r row) marks
row_is_marked marks row len row_in =
    one_marked marks row true true len row_in (sym (or_true (is_marked marks row)))
    ∙ marked_same (λ r. eqb r row && true) (λ r. eqb r row) marks (λ r h. and_true (eqb r row))

-- an element of a list of marks that are put on from one row on and before another
module _ (marks : List Bool) (a m r : ℕ) where
  put_before : a + m ≤ length marks → r < a → get_or (put_mid a m marks (replicate m true)) r false ≡ get_or marks r false
  put_before h p = grind (arith, places)

  put_in : a + m ≤ length marks → a ≤ r → r < a + m → get_or (put_mid a m marks (replicate m true)) r false ≡ true
  put_in h p q = grind (arith, places)

  put_after : a + m ≤ length marks → a + m ≤ r → get_or (put_mid a m marks (replicate m true)) r false ≡ get_or marks r false
  put_after h p = grind (arith, places)

length-put : (marks : List Bool) (a m : ℕ) → a + m ≤ length marks → length (put_mid a m marks (replicate m true)) ≡ length marks
length-put marks a m h = grind (arith, places)

pub range_in : (from to r : ℕ) → from ≤ r → r < to → (leb from r && ltb r to) ≡ true
range_in from to r p q = grind (arith, common_steps)

range_before : (from to r : ℕ) → r < from → (leb from r && ltb r to) ≡ false
range_before from to r p = grind (arith, common_steps)

range_after : (from to r : ℕ) → to ≤ r → (leb from r && ltb r to) ≡ false
range_after from to r p = grind (arith, common_steps)

pub rows_are_marked : (marks : List Bool) (from to : ℕ) → length marks ≡ 200 → from ≤ to → to ≤ 200
    → put_mid from (to - from) marks (replicate (to - from) true) ≡ also_marked (λ r. leb from r && ltb r to) marks
rows_are_marked marks from to len low high =
    let m = to - from in
    marks_are (λ r. leb from r && ltb r to) marks (put_mid from m marks (replicate m true)) (length-put marks from m (omega (arith, len)) ∙ len) (λ r h.
    elim (cases_lt r from) [
      | inl p ↦ put_before marks from m r (omega (arith, len)) p ∙ sym (ap (λ b. is_marked marks r || b) (range_before from to r p) ∙ or_false (is_marked marks r))
      | inr p ↦ elim (cases_lt r to) [
        | inl q ↦ put_in marks from m r (omega (arith, len)) p (omega arith) ∙ sym (ap (λ b. is_marked marks r || b) (range_in from to r p q) ∙ or_true (is_marked marks r))
        | inr q ↦ put_after marks from m r (omega (arith, len)) (omega arith) ∙ sym (ap (λ b. is_marked marks r || b) (range_after from to r q) ∙ or_false (is_marked marks r))
      ]
    ])

-- of no rows none is marked
pub no_rows : (marks : List Bool) (at : ℕ) (on : ℕ → Bool) → length marks ≡ 200 → marks ≡ also_marked (λ r. leb at r && ltb r at && on r) marks
no_rows marks at on len = marked_none (λ r. leb at r && ltb r at && on r) marks len (λ r. none_there at r (on r))
  where
    none_there : (at r : ℕ) (b : Bool) → (leb at r && ltb r at && b) ≡ false
    none_there at r b = grind (arith, common_steps)

more : (top at r : ℕ) (b : Bool) → top ≤ at → eqb r at ≡ true → ((leb top r && ltb r at && b) || b) ≡ (leb top r && ltb r (at + 1) && b)
more top at r b p e = grind (arith, common_steps)

not_more : (top at r : ℕ) (b : Bool) → top ≤ at → eqb r at ≡ false → (leb top r && ltb r at && b) ≡ (leb top r && ltb r (at + 1) && b)
not_more top at r b p e = grind (arith, common_steps)

-- and of one more row its own
pub more_rows : (marks : List Bool) (top at : ℕ) (on : ℕ → Bool) → top ≤ at
    → also_marked (λ r. eqb r at && on at) (also_marked (λ r. leb top r && ltb r at && on r) marks) ≡ also_marked (λ r. leb top r && ltb r (at + 1) && on r) marks
more_rows marks top at on low =
    marked_twice (λ r. leb top r && ltb r at && on r) (λ r. eqb r at && on at) (λ r. leb top r && ltb r (at + 1) && on r) marks (λ r h. by_row r (eqb r at) refl)
  where
    by_row : (r : ℕ) (b : Bool) → eqb r at ≡ b → ((leb top r && ltb r at && on r) || (eqb r at && on at)) ≡ (leb top r && ltb r (at + 1) && on r)
    by_row r true e =
        let same : r ≡ at = grind (arith, common_steps) in
        ap (λ b. (leb top r && ltb r at && on r) || (b && on at)) e ∙ ap (λ j. (leb top r && ltb r at && on r) || on j) (sym same) ∙ more top at r (on r) low e
    by_row r false e = ap (λ b. (leb top r && ltb r at && on r) || (b && on at)) e ∙ or_false (leb top r && ltb r at && on r) ∙ not_more top at r (on r) low e
