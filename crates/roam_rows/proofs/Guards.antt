-- An erasure that leaves guarded cells.
use Rattle.std.proofs.Common.{◌≡◌, ◌≢◌, ℕ, ◌+◌, ◌-◌, ◌<◌, ◌≤◌, ◌⊎◌, inl, inr, Bool, true, false, not, ◌&&◌, ◌||◌, cond, eqb, leb, ltb, min, List, set, length, refl, sym, ap, ◌∙◌, arith, get_or-set_same, get_or-set_other}
use Rattle.std.proofs.lemmas.Bool.{false≢true, cases_lt, cases_eq}
use Rattle.std.proofs.lemmas.Grind.{common_steps}
use Rattle.roam_cells.specs.Glyph.{Glyph, is_wide, blank}
use Rattle.roam_cells.specs.Place.{glyph_at, IsWholeRow}
use Rattle.roam_rows.specs.Row.{Column, Fresh, row_taken, are_neighbours, row_moved, IsInRow}
use Rattle.roam_rows.specs.Halves.{AreParted}
use Rattle.roam_rows.specs.Erasing.{unguarded_blanked}
use Rattle.roam_rows.proofs.Mending.{is_wide-blank}
use Rattle.roam_rows.proofs.Columns.{AgreesAt, IsPlain, plain_whole, row_moved_by}
use Rattle.roam_rows.proofs.Parting.{cut_open, guards_same}
use Rattle.roam_rows.proofs.Edits.{IsBlankSource, parted_blank}

-- whether a column is erased, by its guard
abbrev pub goes : ℕ → ℕ → ℕ → Bool → Bool
goes from to c guard = leb from c && ltb c to && not guard

right_side : (n from to c : ℕ) (g : Bool) → c + 1 < n → from < to → goes from to c g ≡ false
    → not ((eqb (c + 1) from && not g) || (eqb (c + 1) to && not g)) ≡ (ltb (c + 1) n && are_neighbours (Column c) (cond (goes from to (c + 1) g) (Fresh blank) (Column (c + 1))))
right_side n from to c true p q h = grind (arith, common_steps)
right_side n from to c false p q h = grind (arith, common_steps)

left_side : (from to c : ℕ) (g : Bool) → 0 < c → from < to → goes from to c g ≡ false
    → not ((eqb c from && not g) || (eqb c to && not g)) ≡ (ltb 0 c && are_neighbours (cond (goes from to (c - 1) g) (Fresh blank) (Column (c - 1))) (Column c))
left_side from to c true p q h = grind (arith, common_steps)
left_side from to c false p q h = grind (arith, common_steps)

goes_inside : (from to c : ℕ) (g : Bool) → goes from to c g ≡ true → (from ≤ c) × (c < to) × (g ≡ false)
goes_inside from to c true h = grind (arith, common_steps)
goes_inside from to c false h = (grind (arith, common_steps), grind (arith, common_steps), refl)

stays_guarded : (from to c : ℕ) (g : Bool) → goes from to c g ≡ false → from ≤ c → c < to → g ≡ true
stays_guarded from to c true h p q = refl
stays_guarded from to c false h p q = grind (arith, common_steps)

module _ (from to : ℕ) (row : List Glyph) (whole : IsWholeRow row) (some : from < to) where
  agrees : (c : ℕ) → c < length row → (b : Bool) → goes from to c (glyph_at row c).guarded ≡ b
      → AgreesAt row (cut_open row from to) c (cond b (Fresh blank) (Column c)) (unguarded_blanked row from to (c + 1)) (unguarded_blanked row from to (c - 1))
  agrees c q true h = (λ w. absurd (false≢true (sym is_wide-blank ∙ w)), λ w. absurd (false≢true w))
  agrees c q false h = (
    q,
    λ w p.
        let same : (glyph_at row (c + 1)).guarded ≡ (glyph_at row c).guarded = ap (λ (x : Glyph). x.guarded) ((whole c q).wide w).1 in
        rw same (right_side (length row) from to c (glyph_at row c).guarded p some h),
    λ w p.
        let wide : is_wide (glyph_at row (c - 1)) ≡ true = ((whole c q).half w).1 in
        let back : c - 1 + 1 ≡ c = omega arith in
        let same : (glyph_at row (c - 1)).guarded ≡ (glyph_at row c).guarded =
        sym (ap (λ (x : Glyph). x.guarded) ((whole (c - 1) (omega arith)).wide wide).1) ∙ ap (λ k. (glyph_at row k).guarded) back in
        rw same (left_side from to c (glyph_at row c).guarded p some h),
  )

  plain : (c : ℕ) → c < length row → (b : Bool) → IsPlain (length row) (cond b (Fresh blank) (Column c))
  plain c q true = is_wide-blank
  plain c q false = q

  pub unguarded_whole : IsWholeRow (row_moved row (unguarded_blanked row from to))
  unguarded_whole = plain_whole row (unguarded_blanked row from to) whole (λ c q. plain c q (goes from to c (glyph_at row c).guarded))

  -- a row that was parted, and then erased up to a column except for guarded cells; past that column it is blank up to the last
  pub unguarded_is : (P Y : List Glyph) (len done : ℕ) → AreParted (cut_open row from to) row P → length Y ≡ length row → ((c : ℕ) → len ≤ c → c < length row → glyph_at row c ≡ blank)
      → done ≤ to → min to len ≤ done
      → ((c : ℕ) → from ≤ c → c < done → glyph_at Y c ≡ cond (glyph_at P c).guarded (glyph_at P c) blank)
      → ((c : ℕ) → (c < from) ⊎ (done ≤ c) → glyph_at Y c ≡ glyph_at P c)
      → Y ≡ row_moved row (unguarded_blanked row from to)
  unguarded_is P Y len done parted size rest low high inside outside =
      let guard : (c : ℕ) → (glyph_at P c).guarded ≡ (glyph_at row c).guarded = guards_same (cut_open row from to) row P parted in
      let shows : (c : ℕ) → c < length row → (b : Bool) → goes from to c (glyph_at row c).guarded ≡ b → glyph_at Y c ≡ row_taken P (cond b (Fresh blank) (Column c)) =
      λ c q b. elim b as (λ b. goes from to c (glyph_at row c).guarded ≡ b → glyph_at Y c ≡ row_taken P (cond b (Fresh blank) (Column c))) [
        | true ↦ λ h.
            let is = goes_inside from to c (glyph_at row c).guarded h in
            elim (cases_lt c done) [
              | inl before ↦ inside c is.0 before ∙ ap (λ g. cond g (glyph_at P c) blank) (guard c ∙ is.2)
              | inr after ↦ outside c (inr after) ∙ parted_blank (cut_open row from to) row P parted c q (rest c (omega (arith, is.1)) q)
            ]
        | false ↦ λ h.
            elim (cases_lt c from) [
              | inl before ↦ outside c (inl before)
              | inr in_from ↦ elim (cases_lt c done) [
                | inl before ↦ inside c in_from before ∙ ap (λ g. cond g (glyph_at P c) blank) (guard c ∙ stays_guarded from to c (glyph_at row c).guarded h in_from (omega arith))
                | inr after ↦ outside c (inr after)
              ]
            ]
      ] in
      row_moved_by (cut_open row from to) row P whole parted (unguarded_blanked row from to) Y size
      (λ c q. shows c q (goes from to c (glyph_at row c).guarded) refl)
      (λ c q. agrees c q (goes from to c (glyph_at row c).guarded) refl)

in_unguarded : (cols c : ℕ) (b : Bool) → c < cols → IsInRow cols (cond b (Fresh blank) (Column c))
in_unguarded cols c true q = tt
in_unguarded cols c false q = q

pub unguarded_stays : (cols from to c : ℕ) (row : List Glyph) → c < cols → IsInRow cols (unguarded_blanked row from to c)
unguarded_stays cols from to c row q = in_unguarded cols c (goes from to c (glyph_at row c).guarded) q

past_by : (cols len c : ℕ) (b : Bool) → len ≤ c → c < cols → IsBlankSource cols len (cond b (Fresh blank) (Column c))
past_by cols len c true p q = refl
past_by cols len c false p q = (p, q)

pub unguarded_past : (cols len from to c : ℕ) (row : List Glyph) → len ≤ c → c < cols → IsBlankSource cols len (unguarded_blanked row from to c)
unguarded_past cols len from to c row p q = past_by cols len c (goes from to c (glyph_at row c).guarded) p q

-- one more column was erased, unless it is guarded
pub erased_next : (from j : ℕ) (P row next : List Glyph) (g : Bool) → j < length row → from ≤ j → g ≡ (glyph_at row j).guarded → next ≡ cond g row (set row j blank)
    → ((k : ℕ) → from ≤ k → k < j → glyph_at row k ≡ cond (glyph_at P k).guarded (glyph_at P k) blank)
    → ((k : ℕ) → (k < from) ⊎ (j ≤ k) → glyph_at row k ≡ glyph_at P k)
    → ((k : ℕ) → from ≤ k → k < j + 1 → glyph_at next k ≡ cond (glyph_at P k).guarded (glyph_at P k) blank)
    × ((k : ℕ) → (k < from) ⊎ (j + 1 ≤ k) → glyph_at next k ≡ glyph_at P k)
erased_next from j P row next true j_in low g_is next_is inside outside = (
  λ k p q. ap (λ l. glyph_at l k) next_is ∙ elim (cases_eq k j) [
    | inl e ↦ let still = outside k (inr (omega arith)) in
        still ∙ sym (ap (λ b. cond b (glyph_at P k) blank) (ap (λ (x : Glyph). x.guarded) (sym still) ∙ ap (λ i. (glyph_at row i).guarded) e ∙ sym g_is))
    | inr ne ↦ inside k p (omega arith)
  ],
  λ k h. ap (λ l. glyph_at l k) next_is ∙ outside k (elim h [ inl a ↦ inl a | inr b ↦ inr (omega arith) ]),
)
erased_next from j P row next false j_in low g_is next_is inside outside = (
  λ k p q. ap (λ l. glyph_at l k) next_is ∙ elim (cases_eq k j) [
    | inl e ↦ let still = outside k (inr (omega arith)) in
        ap (glyph_at (set row j blank)) e ∙ get_or-set_same row j blank blank j_in
        ∙ sym (ap (λ b. cond b (glyph_at P k) blank) (ap (λ (x : Glyph). x.guarded) (sym still) ∙ ap (λ i. (glyph_at row i).guarded) e ∙ sym g_is))
    | inr ne ↦ get_or-set_other row j k blank blank ne ∙ inside k p (omega arith)
  ],
  λ k h.
      let apart : k ≢ j = elim h [ inl a ↦ λ e. absurd (omega arith) | inr b ↦ λ e. absurd (omega arith) ] in
      ap (λ l. glyph_at l k) next_is ∙ get_or-set_other row j k blank blank apart ∙ outside k (elim h [ inl a ↦ inl a | inr b ↦ inr (omega arith) ]),
)
