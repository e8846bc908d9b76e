-- Cells that come in and go out in a row.
use Rattle.std.proofs.Common.{◌≡◌, ℕ, ◌+◌, ◌-◌, ◌<◌, ◌≤◌, Bool, true, false, cond, ltb, min, max, inl, inr, List, length, refl, sym, ap, ◌∙◌, arith}
use Rattle.std.proofs.lemmas.Bool.{false≢true, cases_lt}
use Rattle.std.proofs.lemmas.Grind.{common_steps}
use Rattle.std.specs.List.{CopiedTo, SameBelow, SameFrom}
use Rattle.roam_cells.specs.Glyph.{Glyph, blank}
use Rattle.roam_cells.specs.Place.{glyph_at, IsWholeRow}
use Rattle.roam_rows.specs.Row.{RowSource, Column, Fresh, row_taken, row_moved, IsInRow}
use Rattle.roam_rows.specs.Halves.{AreParted, cut_twice}
use Rattle.roam_rows.specs.Editing.{insertion_source, deletion_source}
use Rattle.roam_rows.proofs.Mending.{is_wide-blank, ltb-means}
use Rattle.roam_rows.proofs.Columns.{Agrees, IsPlain, row_moved_is, row_unmoved, plain_whole}
use Rattle.roam_rows.proofs.Edits.{IsBlankSource, parted_blank}

not_below : (a b : ℕ) → ltb a b ≡ false → b ≤ a
not_below a b h = grind (arith, common_steps)

blank_agrees : (n : ℕ) (cut : ℕ → Bool) (c : ℕ) (next before : RowSource) → Agrees n cut c (Fresh blank) next before
blank_agrees n cut c next before = (λ w. absurd (false≢true (sym is_wide-blank ∙ w)), λ w. absurd (false≢true w))

ins_left : (n k col edge c : ℕ) → c < n → c < col → 0 < k → col ≤ edge → Agrees n (cut_twice col edge) c (Column c) (insertion_source col k (c + 1)) (insertion_source col k (c - 1))
ins_left n k col edge c q p some low = (q, (λ j. grind (arith, common_steps)), (λ j. grind (arith, common_steps)))

ins_right : (n k col edge c : ℕ) → c < n → 0 < k → col + k ≤ c → edge ≡ n - k → Agrees n (cut_twice col edge) c (Column (c - k)) (insertion_source col k (c + 1)) (insertion_source col k (c - 1))
ins_right n k col edge c q some p e = (omega arith, (λ j. grind (arith, common_steps)), (λ j. grind (arith, common_steps)))

ins_agrees : (n k m col edge c : ℕ) → c < n → 0 < m → m ≡ min k (n - col) → edge ≡ n - m → (b d : Bool) → ltb c col ≡ b → ltb c (col + k) ≡ d
    → Agrees n (cut_twice col edge) c (cond b (Column c) (cond d (Fresh blank) (Column (c - k)))) (insertion_source col k (c + 1)) (insertion_source col k (c - 1))
ins_agrees n k m col edge c q some m_is e true d h j = ins_left n k col edge c q (ltb-means c col h) (omega arith) (omega arith)
ins_agrees n k m col edge c q some m_is e false true h j = blank_agrees n (cut_twice col edge) c (insertion_source col k (c + 1)) (insertion_source col k (c - 1))
ins_agrees n k m col edge c q some m_is e false false h j =
    let high = not_below c (col + k) j in
    ins_right n k col edge c q (omega arith) high (omega arith)

del_left : (n k m col c : ℕ) → c < n → c < col → 0 < k → 0 < m → Agrees n (cut_twice col (col + m)) c (Column c) (deletion_source n col k (c + 1)) (deletion_source n col k (c - 1))
del_left n k m col c q p some some' = (q, (λ j. grind (arith, common_steps)), (λ j. grind (arith, common_steps)))

del_moves : (n k m col c : ℕ) → col ≤ c → c + k < n → 0 < k → m ≡ k → Agrees n (cut_twice col (col + m)) c (Column (c + k)) (deletion_source n col k (c + 1)) (deletion_source n col k (c - 1))
del_moves n k m col c p q some e = (q, (λ j. grind (arith, common_steps)), (λ j. grind (arith, common_steps)))

del_agrees : (n k m col c : ℕ) → c < n → 0 < m → m ≡ min k (n - col) → (b d : Bool) → ltb c col ≡ b → ltb (c + k) n ≡ d
    → Agrees n (cut_twice col (col + m)) c (cond b (Column c) (cond d (Column (c + k)) (Fresh blank))) (deletion_source n col k (c + 1)) (deletion_source n col k (c - 1))
del_agrees n k m col c q some m_is true d h j = del_left n k m col c q (ltb-means c col h) (omega arith) some
del_agrees n k m col c q some m_is false true h j =
    let low = not_below c col h in
    let moves = ltb-means (c + k) n j in
    del_moves n k m col c low moves (omega arith) (omega arith)
del_agrees n k m col c q some m_is false false h j = blank_agrees n (cut_twice col (col + m)) c (deletion_source n col k (c + 1)) (deletion_source n col k (c - 1))

plain_three : (n c d : ℕ) (a b : Bool) → c < n → d < n → IsPlain n (cond a (Column c) (cond b (Fresh blank) (Column d)))
plain_three n c d true b p q = p
plain_three n c d false true p q = is_wide-blank
plain_three n c d false false p q = q

plain_deleted : (n c k : ℕ) (a b : Bool) → c < n → ltb (c + k) n ≡ b → IsPlain n (cond a (Column c) (cond b (Column (c + k)) (Fresh blank)))
plain_deleted n c k true b p q = p
plain_deleted n c k false true p q = ltb-means (c + k) n q
plain_deleted n c k false false p q = is_wide-blank

pub inserted_whole : (col k : ℕ) (row : List Glyph) → IsWholeRow row → IsWholeRow (row_moved row (insertion_source col k))
inserted_whole col k row whole = plain_whole row (insertion_source col k) whole (λ c q. plain_three (length row) c (c - k) (ltb c col) (ltb c (col + k)) q (omega arith))

pub deleted_whole : (col k : ℕ) (row : List Glyph) → IsWholeRow row → IsWholeRow (row_moved row (deletion_source (length row) col k))
deleted_whole col k row whole = plain_whole row (deletion_source (length row) col k) whole (λ c q. plain_deleted (length row) c k (ltb c col) (ltb (c + k) (length row)) q refl)

none_inserted : (col k c : ℕ) → k ≡ 0 → insertion_source col k c ≡ Column c
none_inserted col k c e = grind (arith, common_steps)

none_deleted : (n col k c : ℕ) → k ≡ 0 → c < n → deletion_source n col k c ≡ Column c
none_deleted n col k c e q = grind (arith, common_steps)

pub inserted_none : (col k : ℕ) (row : List Glyph) → IsWholeRow row → k ≡ 0 → row ≡ row_moved row (insertion_source col k)
inserted_none col k row whole e = row_unmoved row (insertion_source col k) whole (λ c q. none_inserted col k c e)

pub deleted_none : (col k : ℕ) (row : List Glyph) → IsWholeRow row → k ≡ 0 → row ≡ row_moved row (deletion_source (length row) col k)
deleted_none col k row whole e = row_unmoved row (deletion_source (length row) col k) whole (λ c q. none_deleted (length row) col k c e q)

-- blanks come in over a row that was parted
module _ (col k m edge last len : ℕ) (row P M Y : List Glyph) (whole : IsWholeRow row) (some : 0 < m) (m_is : m ≡ min k (length row - col)) (edge_is : edge ≡ length row - m)
    (last_is : last ≡ max (min len edge) col) (rest : (c : ℕ) → len ≤ c → c < length row → glyph_at row c ≡ blank)
    (parted : AreParted (cut_twice col edge) row P) (same_length : length Y ≡ length row)
    (copied : (CopiedTo P M col (col + m) (last - col)) × (SameBelow P M (col + m)) × (SameFrom P M (col + m + (last - col))))
    (before : (c : ℕ) → c < col → glyph_at Y c ≡ glyph_at M c) (inside : (c : ℕ) → col ≤ c → c < col + m → glyph_at Y c ≡ blank)
    (after : (c : ℕ) → col + m ≤ c → glyph_at Y c ≡ glyph_at M c) where
  still_blank : (c : ℕ) → len ≤ c → c < length row → glyph_at P c ≡ blank
  still_blank c p q = parted_blank (cut_twice col edge) row P parted c q (rest c p q)

  moved_on : (c : ℕ) → c < length row → col + k ≤ c → glyph_at Y c ≡ glyph_at P (c - k)
  moved_on c q p =
      let e : m ≡ k = omega arith in
      after c (omega arith)
      ∙ elim (cases_lt c (col + m + (last - col))) [
        | inl low ↦ copied.0 c blank (omega arith) low ∙ ap (glyph_at P) (omega arith)
        | inr high ↦ copied.2 c blank high ∙ still_blank c (omega arith) q ∙ sym (still_blank (c - k) (omega arith) (omega arith))
      ]

  shows : (c : ℕ) → c < length row → (b d : Bool) → ltb c col ≡ b → ltb c (col + k) ≡ d → glyph_at Y c ≡ row_taken P (cond b (Column c) (cond d (Fresh blank) (Column (c - k))))
  shows c q true d h j = let low = ltb-means c col h in before c low ∙ copied.1 c blank (omega arith)
  shows c q false true h j = let low = not_below c col h in let high = ltb-means c (col + k) j in inside c low (omega arith)
  shows c q false false h j = moved_on c q (not_below c (col + k) j)

  pub inserted_is : Y ≡ row_moved row (insertion_source col k)
  inserted_is =
      row_moved_is (cut_twice col edge) row P whole parted (insertion_source col k) Y same_length
      (λ c q. shows c q (ltb c col) (ltb c (col + k)) refl refl)
      (λ c q. ins_agrees (length row) k m col edge c q some m_is edge_is (ltb c col) (ltb c (col + k)) refl refl)

-- cells go out of a row that was parted
module _ (col k m end len : ℕ) (row P M Y : List Glyph) (whole : IsWholeRow row) (some : 0 < m) (m_is : m ≡ min k (length row - col)) (end_is : end ≡ max len (col + m))
    (rest : (c : ℕ) → len ≤ c → c < length row → glyph_at row c ≡ blank) (end_in : end ≤ length row)
    (parted : AreParted (cut_twice col (col + m)) row P) (same_length : length Y ≡ length row)
    (copied : (CopiedTo P M (col + m) col (end - (col + m))) × (SameBelow P M col) × (SameFrom P M (col + (end - (col + m)))))
    (before : (c : ℕ) → c < end - m → glyph_at Y c ≡ glyph_at M c) (inside : (c : ℕ) → end - m ≤ c → c < end → glyph_at Y c ≡ blank)
    (after : (c : ℕ) → end ≤ c → glyph_at Y c ≡ glyph_at M c) where
  rest_blank : (c : ℕ) → len ≤ c → c < length row → glyph_at P c ≡ blank
  rest_blank c p q = parted_blank (cut_twice col (col + m)) row P parted c q (rest c p q)

  past_end : (c : ℕ) → c < length row → end - m ≤ c → glyph_at Y c ≡ blank
  past_end c q p =
      elim (cases_lt c end) [
        | inl low ↦ inside c p low
        | inr high ↦ after c high ∙ copied.2 c blank (omega arith) ∙ rest_blank c (omega arith) q
      ]

  moved_back : (c : ℕ) → col ≤ c → c + k < length row → glyph_at Y c ≡ glyph_at P (c + k)
  moved_back c p q =
      let e : m ≡ k = omega arith in
      elim (cases_lt c (end - m)) [
        | inl low ↦ before c low ∙ copied.0 c blank p (omega arith) ∙ ap (glyph_at P) (omega arith)
        | inr high ↦ past_end c (omega arith) high ∙ sym (rest_blank (c + k) (omega arith) q)
      ]

  shown_out : (c : ℕ) → c < length row → (b d : Bool) → ltb c col ≡ b → ltb (c + k) (length row) ≡ d → glyph_at Y c ≡ row_taken P (cond b (Column c) (cond d (Column (c + k)) (Fresh blank)))
  shown_out c q true d h j = let low = ltb-means c col h in before c (omega arith) ∙ copied.1 c blank low
  shown_out c q false true h j = let low = not_below c col h in moved_back c low (ltb-means (c + k) (length row) j)
  shown_out c q false false h j = let low = not_below c col h in let high = not_below (c + k) (length row) j in past_end c q (omega arith)

  pub deleted_is : Y ≡ row_moved row (deletion_source (length row) col k)
  deleted_is =
      row_moved_is (cut_twice col (col + m)) row P whole parted (deletion_source (length row) col k) Y same_length
      (λ c q. shown_out c q (ltb c col) (ltb (c + k) (length row)) refl refl)
      (λ c q. del_agrees (length row) k m col c q some m_is (ltb c col) (ltb (c + k) (length row)) refl refl)

-- the length of a row after blanks came in
pub inserted_past : (cols len col k w c : ℕ) → len ≤ cols → ((d : ℕ) → w ≤ d → d < col → len ≤ d) → ((d : ℕ) → w ≤ d → d < cols → col + k ≤ d → len ≤ d - k)
    → w ≤ c → c < cols → (a b : Bool) → ltb c col ≡ a → ltb c (col + k) ≡ b → IsBlankSource cols len (cond a (Column c) (cond b (Fresh blank) (Column (c - k))))
inserted_past cols len col k w c few left right p q true b h j = (left c p (ltb-means c col h), q)
inserted_past cols len col k w c few left right p q false true h j = refl
inserted_past cols len col k w c few left right p q false false h j = (right c p q (not_below c (col + k) j), omega arith)

-- and after cells went out
pub deleted_past : (cols len col k w c : ℕ) → ((d : ℕ) → w ≤ d → d < col → len ≤ d) → ((d : ℕ) → w ≤ d → col ≤ d → len ≤ d + k)
    → w ≤ c → c < cols → (a b : Bool) → ltb c col ≡ a → ltb (c + k) cols ≡ b → IsBlankSource cols len (cond a (Column c) (cond b (Column (c + k)) (Fresh blank)))
deleted_past cols len col k w c left right p q true b h j = (left c p (ltb-means c col h), q)
deleted_past cols len col k w c left right p q false true h j = (right c p (not_below c col h), ltb-means (c + k) cols j)
deleted_past cols len col k w c left right p q false false h j = refl

-- the sources are columns of the row
in_inserted : (cols col k c : ℕ) (a b : Bool) → c < cols → IsInRow cols (cond a (Column c) (cond b (Fresh blank) (Column (c - k))))
in_inserted cols col k c true b q = q
in_inserted cols col k c false true q = tt
in_inserted cols col k c false false q = omega arith

pub inserted_stays : (cols col k c : ℕ) → c < cols → IsInRow cols (insertion_source col k c)
inserted_stays cols col k c q = in_inserted cols col k c (ltb c col) (ltb c (col + k)) q

in_deleted : (cols k c : ℕ) (a b : Bool) → c < cols → ltb (c + k) cols ≡ b → IsInRow cols (cond a (Column c) (cond b (Column (c + k)) (Fresh blank)))
in_deleted cols k c true b q h = q
in_deleted cols k c false true q h = ltb-means (c + k) cols h
in_deleted cols k c false false q h = tt

pub deleted_stays : (cols col k c : ℕ) → c < cols → IsInRow cols (deletion_source cols col k c)
deleted_stays cols col k c q = in_deleted cols k c (ltb c col) (ltb (c + k) cols) q refl
