-- Rows that are cut or padded.
use Rattle.std.proofs.Common.{◌≡◌, ◌≢◌, ℕ, ◌+◌, ◌-◌, ◌<◌, ◌≤◌, inl, inr, Bool, true, false, ◌&&◌, cond, eqb, List, ◌++◌, take, drop, length, get_or, replicate, refl, sym, ap, ◌∙◌, arith, length-append, length-drop, max, min}
use Rattle.std.proofs.lemmas.Bool.{false≢true, cases_lt, cases_eq, cases_Bool, cond-true, cond-false, and_left, and_right, and_from, ne_eqb, eq-eqb}
use Rattle.std.proofs.lemmas.List.{get_or_append_left, get_or-append_right, get_or-replicate, get_or-take, get_or_past, ext_get_or, length-take-le, length-replicate, get_or-drop}
use Rattle.std.proofs.lemmas.List.FromFn.{length-map-range_with_len, get_or-map-range_with_len, fill_by_all}
use borrow.Rule.Slice.PartMut.{put_mid}
use Rattle.roam_cells.specs.Width.{width-space}
use Rattle.roam_cells.specs.Glyph.{Glyph, is_wide, is_right_half, right_of, space_in, blank}
use Rattle.roam_cells.specs.Place.{glyph_at, IsWholeAt, IsWholeRow}
use Rattle.roam_cells.proofs.Places.{filled_before, filled_in, filled_after}
use Rattle.roam_history.specs.Lines.{with_blanks, refitted_at, refitted_row, IsWritten}

pub is_wide-blank : is_wide blank ≡ false
is_wide-blank = ap (λ w. eqb w 2) width-space

is_wide-space_in : (x : Glyph) → is_wide (space_in x) ≡ false
is_wide-space_in x = ap (λ w. eqb w 2) width-space

blanks_at : (n k : ℕ) → get_or (replicate n blank) k blank ≡ blank
blanks_at n k =
    elim (cases_lt k n) [
      | inl low ↦ get_or-replicate n k blank blank low
      | inr high ↦ get_or_past (replicate n blank) k blank (omega (arith, length-replicate n blank))
    ]

pub length-with_blanks : (cols : ℕ) (front : List Glyph) → length front ≤ cols → length (with_blanks cols front) ≡ cols
length-with_blanks cols front few =
    length-append front (replicate (cols - length front) blank) ∙ omega (arith, length-replicate (cols - length front) blank)

pub glyph-with_blanks : (cols : ℕ) (front : List Glyph) (c : ℕ) → glyph_at (with_blanks cols front) c ≡ glyph_at front c
glyph-with_blanks cols front c =
    elim (cases_lt c (length front)) [
      | inl low ↦ get_or_append_left front (replicate (cols - length front) blank) blank c low
      | inr high ↦
          get_or-append_right front (replicate (cols - length front) blank) (length front) c blank refl high
          ∙ blanks_at (cols - length front) (c - length front) ∙ sym (get_or_past front c blank high)
    ]

-- a line is its written part and blanks
pub line_is_front : (written : ℕ) (cells : List Glyph) → IsWritten written cells → cells ≡ with_blanks (length cells) (take written cells)
line_is_front written cells h =
    let front = take written cells in
    let size : length front ≡ written = length-take-le written cells h.few in
    ext_get_or blank cells (with_blanks (length cells) front) (sym (length-with_blanks (length cells) front (omega (arith, size, h.few))))
    (λ c q.
    sym
    (glyph-with_blanks (length cells) front c
    ∙ elim (cases_lt c written) [
      | inl low ↦ get_or-take written cells c blank low
      | inr high ↦ get_or_past front c blank (omega (arith, size)) ∙ sym (h.rest c high)
    ]))

-- a column but for the last stays
pub uncut_at : (cols : ℕ) (row : List Glyph) (c : ℕ) → c + 1 ≢ cols → refitted_at cols row c ≡ glyph_at row c
uncut_at cols row c ne =
    let x = glyph_at row c in
    cond-false (is_wide x && eqb (c + 1) cols) (space_in x) x (and_right (is_wide x) (eqb (c + 1) cols) (ne_eqb (c + 1) cols ne))

-- a cell that is not wide stays
pub narrow_at : (cols : ℕ) (row : List Glyph) (c : ℕ) → is_wide (glyph_at row c) ≡ false → refitted_at cols row c ≡ glyph_at row c
narrow_at cols row c h =
    let x = glyph_at row c in
    cond-false (is_wide x && eqb (c + 1) cols) (space_in x) x (and_left (is_wide x) (eqb (c + 1) cols) h)

-- a wide cell in the last column becomes a space
pub cut_at : (cols : ℕ) (row : List Glyph) (c : ℕ) → is_wide (glyph_at row c) ≡ true → c + 1 ≡ cols → refitted_at cols row c ≡ space_in (glyph_at row c)
cut_at cols row c h e =
    let x = glyph_at row c in
    cond-true (is_wide x && eqb (c + 1) cols) (space_in x) x (and_from (is_wide x) (eqb (c + 1) cols) h (eq-eqb (c + 1) cols e))

pub length-refitted_row : (cols : ℕ) (row : List Glyph) → length (refitted_row cols row) ≡ cols
length-refitted_row cols row = length-map-range_with_len (refitted_at cols row) 0 cols

pub refitted_row_at : (cols : ℕ) (row : List Glyph) (c : ℕ) → c < cols → glyph_at (refitted_row cols row) c ≡ refitted_at cols row c
refitted_row_at cols row c q = get_or-map-range_with_len (refitted_at cols row) 0 cols c c blank q (omega arith)

same_at : (cols : ℕ) (xs ys : List Glyph) (c : ℕ) → glyph_at xs c ≡ glyph_at ys c → refitted_at cols xs c ≡ refitted_at cols ys c
same_at cols xs ys c e = ap (λ (x : Glyph). cond (is_wide x && eqb (c + 1) cols) (space_in x) x) e

-- rows that show the same are refitted alike
pub same_refitted : (cols : ℕ) (xs ys : List Glyph) → ((c : ℕ) → c < cols → glyph_at xs c ≡ glyph_at ys c) → refitted_row cols xs ≡ refitted_row cols ys
same_refitted cols xs ys each =
    fill_by_all (refitted_at cols ys) (refitted_row cols xs) cols blank (length-refitted_row cols xs)
    (λ c q. refitted_row_at cols xs c q ∙ same_at cols xs ys c (each c q))

-- a line that shows a row, with its last column mended, is that row refitted
pub written_over : (row line new : List Glyph) → length new ≡ length line → ((c : ℕ) → c < length line → glyph_at line c ≡ glyph_at row c)
    → ((c : ℕ) → c < length line → glyph_at new c ≡ refitted_at (length line) line c) → new ≡ refitted_row (length line) row
written_over row line new len covered mended =
    fill_by_all (refitted_at (length line) row) new (length line) blank len
    (λ c q. mended c q ∙ same_at (length line) line row c (covered c q))

-- a line that shows a row which ends before its last column is that row refitted
pub short_over : (row line : List Glyph) → length row < length line → ((c : ℕ) → c < length line → glyph_at line c ≡ glyph_at row c)
    → line ≡ refitted_row (length line) row
short_over row line short covered =
    fill_by_all (refitted_at (length line) row) line (length line) blank refl
    (λ c q.
    covered c q
    ∙ sym
    (elim (cases_eq (c + 1) (length line)) [
      | inl last ↦ narrow_at (length line) row c (ap is_wide (get_or_past row c blank (omega (arith, last, short))) ∙ is_wide-blank)
      | inr apart ↦ uncut_at (length line) row c apart
    ]))

-- the front of a whole row is padded
pub padded_front : (cols : ℕ) (front : List Glyph) → length front ≤ cols → IsWholeRow (with_blanks cols front) → refitted_row cols front ≡ with_blanks cols front
padded_front cols front few whole =
    let size = length-with_blanks cols front few in
    sym
    (fill_by_all (refitted_at cols front) (with_blanks cols front) cols blank size
    (λ c q.
    glyph-with_blanks cols front c
    ∙ sym
    (elim (cases_Bool (is_wide (glyph_at front c))) [
      | inl wide ↦
          let next : c + 1 < length (with_blanks cols front) = ((whole c (omega (arith, size))).wide (ap is_wide (glyph-with_blanks cols front c) ∙ wide)).0 in
          uncut_at cols front c (λ e. absurd (omega (arith, size)))
      | inr narrow ↦ narrow_at cols front c narrow
    ])))

pub not_past : (f : Glyph → Bool) (row : List Glyph) (c : ℕ) → f blank ≡ false → f (glyph_at row c) ≡ true → c < length row
not_past f row c h w =
    elim (cases_lt c (length row)) [
      | inl low ↦ low
      | inr high ↦ absurd (false≢true (sym h ∙ sym (ap f (get_or_past row c blank high)) ∙ w))
    ]

-- a part of a wide character was one before
still : (f : Glyph → Bool) (cols : ℕ) (row : List Glyph) (c : ℕ) → ((x : Glyph) → f (space_in x) ≡ false) → f (refitted_at cols row c) ≡ true
    → (refitted_at cols row c ≡ glyph_at row c) × (is_wide (glyph_at row c) ≡ true → c + 1 ≢ cols)
still f cols row c never h =
    elim (cases_Bool (is_wide (glyph_at row c))) [
      | inl wide ↦
          elim (cases_eq (c + 1) cols) [
            | inl e ↦ absurd (false≢true (sym (never (glyph_at row c)) ∙ ap f (sym (cut_at cols row c wide e)) ∙ h))
            | inr ne ↦ (uncut_at cols row c ne, λ w. ne)
          ]
      | inr narrow ↦ (narrow_at cols row c narrow, λ w. absurd (false≢true (sym narrow ∙ w)))
    ]

whole_at : (cols : ℕ) (row : List Glyph) (c : ℕ) → IsWholeRow row → c < cols → IsWholeAt cols (refitted_at cols row) c
whole_at cols row c whole q = record {
  wide = λ w.
      let same = still is_wide cols row c is_wide-space_in w in
      let w' : is_wide (glyph_at row c) ≡ true = ap is_wide (sym same.0) ∙ w in
      let pair = (whole c (not_past is_wide row c is_wide-blank w')).wide w' in
      let apart : c + 1 ≢ cols = same.1 w' in
      let narrow : is_wide (glyph_at row (c + 1)) ≡ false = ap is_wide pair.1 in
      (omega (arith, apart), narrow_at cols row (c + 1) narrow ∙ pair.1 ∙ ap right_of (sym same.0));
  half = λ h.
      let same = still is_right_half cols row c (λ x. refl) h in
      let h' : is_right_half (glyph_at row c) ≡ true = ap is_right_half (sym same.0) ∙ h in
      let pair = (whole c (not_past is_right_half row c refl h')).half h' in
      let some : 0 < c = pair.0 in
      (some, ap is_wide (uncut_at cols row (c - 1) (λ e. absurd (omega (arith, some)))) ∙ pair.1);
}

-- a whole row stays one
pub refitted_whole : (cols : ℕ) (row : List Glyph) → IsWholeRow row → IsWholeRow (refitted_row cols row)
refitted_whole cols row whole c q' =
    let size = length-refitted_row cols row in
    let q : c < cols = omega (arith, size) in
    let h = whole_at cols row c whole q in
    record {
      wide = λ w.
          let pair = h.wide (ap is_wide (sym (refitted_row_at cols row c q)) ∙ w) in
          let next : c + 1 < cols = pair.0 in
          (omega (arith, size), refitted_row_at cols row (c + 1) next ∙ pair.1 ∙ ap right_of (sym (refitted_row_at cols row c q)));
      half = λ w.
          let pair = h.half (ap is_right_half (sym (refitted_row_at cols row c q)) ∙ w) in
          let some : 0 < c = pair.0 in
          (some, ap is_wide (refitted_row_at cols row (c - 1) (omega arith)) ∙ pair.1);
    }

-- the front of a row is refitted as the row is
pub refitted_front : (n cols : ℕ) (row front : List Glyph) → row ≡ with_blanks cols front → refitted_row n front ≡ refitted_row n row
refitted_front n cols row front row_is =
    same_refitted n front row (λ c q. sym (ap (λ l. glyph_at l c) row_is ∙ glyph-with_blanks cols front c))

-- past the cells that were written there are blanks
pub refitted_written : (cols : ℕ) (row : List Glyph) (count : ℕ) → count ≡ min (length row) cols → IsWritten count (refitted_row cols row)
refitted_written cols row count count_is =
    let size = length-refitted_row cols row in
    record {
      few = omega (arith, size);
      rest = λ c p. elim (cases_lt c cols) [
        | inl low ↦
            let past : glyph_at row c ≡ blank = get_or_past row c blank (omega arith) in
            refitted_row_at cols row c low ∙ narrow_at cols row c (ap is_wide past ∙ is_wide-blank) ∙ past
        | inr high ↦ get_or_past (refitted_row cols row) c blank (omega (arith, size))
      ];
    }

-- a line that a row was copied over, with blanks from there on up to the end of the written part
module _ (row line copied filled : List Glyph) (count written : ℕ) (count_is : count ≡ min (length row) (length line)) (few : written ≤ length line)
    (rest : (c : ℕ) → written ≤ c → glyph_at line c ≡ blank) (copied_is : copied ≡ take count row)
    (filled_is : filled ≡ replicate (max written count - count) blank) where
  front : length (take count row) ≡ count
  front = length-take-le count row (omega arith)

  long : length (take count row ++ drop count line) ≡ length line
  long = length-append (take count row) (drop count line) ∙ omega (arith, front, length-drop count line)

  pub covered : (c : ℕ) → c < length line → glyph_at (put_mid count (max written count - count) (copied ++ drop count line) filled) c ≡ glyph_at row c
  covered c q =
      let m = max written count - count in
      let xs = take count row ++ drop count line in
      ap (λ l. glyph_at (put_mid count m (l ++ drop count line) filled) c) copied_is ∙ ap (λ l. glyph_at (put_mid count m xs l) c) filled_is
      ∙ elim (cases_lt c count) [
        | inl low ↦
            filled_before count m xs blank c (omega (arith, long)) low
            ∙ get_or_append_left (take count row) (drop count line) blank c (omega (arith, front)) ∙ get_or-take count row c blank low
        | inr high ↦
            elim (cases_lt c (count + m)) [
              | inl within ↦ filled_in count m xs blank c (omega (arith, long)) high within
              | inr past ↦
                  let back : count + (c - count) ≡ c = omega arith in
                  filled_after count m xs blank c (omega (arith, long)) past
                  ∙ get_or-append_right (take count row) (drop count line) count c blank front high
                  ∙ get_or-drop count line (c - count) blank ∙ ap (glyph_at line) back ∙ rest c (omega arith)
            ]
            ∙ sym (get_or_past row c blank (omega arith))
      ]
