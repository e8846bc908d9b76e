-- An erasure of whole rows that leaves guarded cells.
use Rattle.std.proofs.Common.{◌≡◌, ◌≢◌, ℕ, ◌+◌, ◌-◌, ◌*◌, ◌<◌, ◌≤◌, ◌⊎◌, inl, inr, Bool, true, false, not, ◌&&◌, cond, leb, ltb, List, length, refl, sym, ap, ◌∙◌, arith}
use Rattle.std.proofs.lemmas.Bool.{cases_lt, cases_eq}
use Rattle.std.proofs.lemmas.List.Edits.{get_or-between}
use Rattle.std.proofs.lemmas.Grind.{common_steps}
use Rattle.roam_cells.specs.Glyph.{Glyph, blank}
use Rattle.roam_cells.specs.Place.{cell_at, glyph_at, AreWhole, row_of}
use Rattle.roam_cells.proofs.Places.{get_or-table, table_is}
use Rattle.roam_rows.specs.Row.{RowSource}
use Rattle.roam_rows.specs.Places.{Source, From, Fresh, mapped_cells, moved_at, at_row, in_row, are_joined}
use Rattle.roam_rows.specs.Rows.{Rows, AreRows, mapped_rows, with_row}
use Rattle.roam_rows.specs.Erasing.{unguarded_blanked, rows_unguarded_blanked}
use Rattle.roam_rows.specs.Vertical.{IsSameShape}
use Rattle.roam_rows.proofs.Mending.{mended_same}
use Rattle.roam_rows.proofs.Vertical.{before_joined, next_joined, row_stays, shown_by}
use Rattle.roam_rows.proofs.Lifting.{in_here, in_other}
use Rattle.roam_rows.proofs.Scrolls.{rows_are}
use Rattle.roam_rows.proofs.Sizes.{blank_there}

-- a row whose cells become blank by their guards
module _ (rows cols : ℕ) (cells : List Glyph) (whole : AreWhole rows cols cells) (source : ℕ → ℕ → Source) (r : ℕ) (r_in : r < rows)
    (source_is : (c : ℕ) → c < cols → source r c ≡ cond (not (cell_at cols cells r c).guarded) (Fresh blank) (From r c)) where
  stays_there : (c : ℕ) → c < cols → (cell_at cols cells r c).guarded ≡ true → source r c ≡ From r c
  stays_there c q g = source_is c q ∙ ap (λ b. cond (not b) (Fresh blank) (From r c)) g

  kept_or_blank : (c : ℕ) → c < cols → (g : Bool) → (cell_at cols cells r c).guarded ≡ g → moved_at cols cells source r c ≡ cond g (cell_at cols cells r c) blank
  kept_or_blank c q false e = blank_there cols cols cells source r c (source_is c q ∙ ap (λ b. cond (not b) (Fresh blank) (From r c)) e)
  kept_or_blank c q true e =
      shown_by cols cells source r c (From r c) (source r (c + 1)) (source r (c - 1)) (stays_there c q e) refl refl
      ∙ mended_same (cell_at cols cells r c) (ltb (c + 1) cols && are_joined (From r c) (source r (c + 1))) (ltb 0 c && are_joined (source r (c - 1)) (From r c))
      (λ w.
      let pair = (whole r r_in c q).wide w in
      ap (λ x. ltb (c + 1) cols && are_joined (From r c) x) (stays_there (c + 1) pair.0 (ap (λ (x : Glyph). x.guarded) pair.1 ∙ e)) ∙ next_joined cols r c pair.0)
      (λ h.
      let pair = (whole r r_in c q).half h in
      let back : c - 1 + 1 ≡ c = omega (arith, pair.0) in
      let before : c - 1 < cols = omega arith in
      let same : (cell_at cols cells r (c - 1)).guarded ≡ (cell_at cols cells r c).guarded =
      sym (ap (λ (x : Glyph). x.guarded) ((whole r r_in (c - 1) before).wide pair.1).1) ∙ ap (λ k. (cell_at cols cells r k).guarded) back in
      ap (λ x. ltb 0 c && are_joined x (From r c)) (stays_there (c - 1) before (same ∙ e)) ∙ before_joined r c pair.0)

  pub erased_there : (c : ℕ) → c < cols → moved_at cols cells source r c ≡ cond (cell_at cols cells r c).guarded (cell_at cols cells r c) blank
  erased_there c q = kept_or_blank c q (cell_at cols cells r c).guarded refl

low_test : (c n : ℕ) (b : Bool) → c < n → (leb 0 c && ltb c n && b) ≡ b
low_test c n true h = grind (arith, common_steps)
low_test c n false h = grind (arith, common_steps)

row_test : (from to r : ℕ) (b : Bool) → from ≤ r → r < to → (leb from r && ltb r to && b) ≡ b
row_test from to r true p q = grind (arith, common_steps)
row_test from to r false p q = grind (arith, common_steps)

out_test : (from to r : ℕ) (b : Bool) → (r < from) ⊎ (to ≤ r) → (leb from r && ltb r to && b) ≡ false
out_test from to r true p = grind (arith, common_steps)
out_test from to r false p = grind (arith, common_steps)

at_row_cond : (R c : ℕ) (b : Bool) → at_row R (cond b (RowSource.Fresh blank) (RowSource.Column c)) ≡ cond b (Fresh blank) (From R c)
at_row_cond R c true = refl
at_row_cond R c false = refl

-- one row is erased
pub erased_row : (R : ℕ) (v w : Rows) → AreRows v → R < v.rows → w ≡ with_row R (unguarded_blanked (row_of v.cols v.cells R) 0 v.cols) v
    → (IsSameShape v w) × ((c : ℕ) → c < v.cols → cell_at v.cols w.cells R c ≡ cond (cell_at v.cols v.cells R c).guarded (cell_at v.cols v.cells R c) blank)
    × ((r c : ℕ) → r < v.rows → c < v.cols → r ≢ R → cell_at v.cols w.cells r c ≡ cell_at v.cols v.cells r c)
erased_row R v w h R_in e =
    let one = unguarded_blanked (row_of v.cols v.cells R) 0 v.cols in
    let source = in_row R one in
    let source_is : (c : ℕ) → c < v.cols → source R c ≡ cond (not (cell_at v.cols v.cells R c).guarded) (Fresh blank) (From R c) =
    λ c q. in_here R c one
    ∙ ap (λ b. at_row R (cond b (RowSource.Fresh blank) (RowSource.Column c)))
    (low_test c v.cols (not (glyph_at (row_of v.cols v.cells R) c).guarded) q
    ∙ ap (λ (x : Glyph). not x.guarded) (get_or-between v.cells (R * v.cols) ((R + 1) * v.cols) c blank (omega arith)))
    ∙ at_row_cond R c (not (cell_at v.cols v.cells R c).guarded) in (
      record { rows = ap (λ (x : Rows). x.rows) e; cols = ap (λ (x : Rows). x.cols) e; first = ap (λ (x : Rows). x.first) e },
      λ c q. ap (λ (x : Rows). cell_at v.cols x.cells R c) e ∙ get_or-table v.rows v.cols (moved_at v.cols v.cells source) R c blank R_in q
          ∙ erased_there v.rows v.cols v.cells h.whole source R R_in source_is c q,
      λ r c p q ne. ap (λ (x : Rows). cell_at v.cols x.cells r c) e ∙ get_or-table v.rows v.cols (moved_at v.cols v.cells source) r c blank p q
          ∙ row_stays v.rows v.cols v.cells h.whole source r c r p q (λ d. in_other R r d one ne),
    )

-- one more row was erased
pub erased_more : (from r : ℕ) (old v w : Rows) → IsSameShape old v → IsSameShape v w → r < old.rows → from ≤ r
    → ((c : ℕ) → c < v.cols → cell_at v.cols w.cells r c ≡ cond (cell_at v.cols v.cells r c).guarded (cell_at v.cols v.cells r c) blank)
    → ((s c : ℕ) → s < v.rows → c < v.cols → s ≢ r → cell_at v.cols w.cells s c ≡ cell_at v.cols v.cells s c)
    → ((s c : ℕ) → from ≤ s → s < r → s < old.rows → c < old.cols → cell_at old.cols v.cells s c ≡ cond (cell_at old.cols old.cells s c).guarded (cell_at old.cols old.cells s c) blank)
    → ((s c : ℕ) → (s < from) ⊎ (r ≤ s) → s < old.rows → c < old.cols → cell_at old.cols v.cells s c ≡ cell_at old.cols old.cells s c)
    → (IsSameShape old w)
    × ((s c : ℕ) → from ≤ s → s < r + 1 → s < old.rows → c < old.cols → cell_at old.cols w.cells s c ≡ cond (cell_at old.cols old.cells s c).guarded (cell_at old.cols old.cells s c) blank)
    × ((s c : ℕ) → (s < from) ⊎ (r + 1 ≤ s) → s < old.rows → c < old.cols → cell_at old.cols w.cells s c ≡ cell_at old.cols old.cells s c)
erased_more from r old v w shape next r_in low here' others' inside outside =
    let here = rw shape.cols at here' in
    let others = rw (shape.rows, shape.cols) at others' in (
      record { rows = next.rows ∙ shape.rows; cols = next.cols ∙ shape.cols; first = next.first ∙ shape.first },
      λ s c p q h i. elim (cases_eq s r) [
        | inl e ↦
            ap (λ j. cell_at old.cols w.cells j c) e ∙ here c i
            ∙ ap (λ (x : Glyph). cond x.guarded x blank) (outside r c (inr (omega arith)) r_in i ∙ ap (λ j. cell_at old.cols old.cells j c) (sym e))
        | inr ne ↦ others s c h i ne ∙ inside s c p (omega arith) h i
      ],
      λ s c p h i.
          let apart : s ≢ r = elim p [ inl a ↦ λ e. absurd (omega arith) | inr b ↦ λ e. absurd (omega arith) ] in
          others s c h i apart ∙ outside s c (elim p [ inl a ↦ inl a | inr b ↦ inr (omega arith) ]) h i,
    )

-- all those rows were erased
pub erased_rows : (from to : ℕ) (v w : Rows) → AreRows v → AreRows w → IsSameShape v w
    → ((r c : ℕ) → from ≤ r → r < to → r < v.rows → c < v.cols → cell_at v.cols w.cells r c ≡ cond (cell_at v.cols v.cells r c).guarded (cell_at v.cols v.cells r c) blank)
    → ((r c : ℕ) → (r < from) ⊎ (to ≤ r) → r < v.rows → c < v.cols → cell_at v.cols w.cells r c ≡ cell_at v.cols v.cells r c)
    → w ≡ mapped_rows (rows_unguarded_blanked v.cols v.cells from to) v
erased_rows from to v w h k s inside outside =
    let source = rows_unguarded_blanked v.cols v.cells from to in
    let size : length w.cells ≡ v.rows * v.cols = k.size ∙ ap (λ j. j * w.cols) s.rows ∙ ap (λ j. v.rows * j) s.cols in
    let out : (r c : ℕ) → (r < from) ⊎ (to ≤ r) → source r c ≡ From r c =
    λ r c p. ap (λ b. cond b (Fresh blank) (From r c)) (out_test from to r (not (cell_at v.cols v.cells r c).guarded) p) in
    rows_are w v.rows v.cols v.first (mapped_cells v.rows v.cols v.cells source) s.rows s.cols s.first
    (table_is v.rows v.cols (moved_at v.cols v.cells source) w.cells size (λ r c p q.
    elim (cases_lt r from) [
      | inl above ↦ outside r c (inl above) p q ∙ sym (row_stays v.rows v.cols v.cells h.whole source r c r p q (λ d. out r d (inl above)))
      | inr low ↦ elim (cases_lt r to) [
        | inl high ↦
            inside r c low high p q
            ∙ sym (erased_there v.rows v.cols v.cells h.whole source r p
            (λ d i. ap (λ b. cond b (Fresh blank) (From r d)) (row_test from to r (not (cell_at v.cols v.cells r d).guarded) low high)) c q)
        | inr below ↦ outside r c (inr below) p q ∙ sym (row_stays v.rows v.cols v.cells h.whole source r c r p q (λ d. out r d (inr below)))
      ]
    ]))
