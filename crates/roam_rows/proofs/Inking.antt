-- Cells that are written in a row, and columns that become blank.
use Rattle.std.proofs.Common.{◌≡◌, ◌≢◌, ℕ, ◌+◌, ◌-◌, ◌<◌, ◌≤◌, ◌⊎◌, inl, inr, Bool, true, false, ◌&&◌, cond, eqb, ltb, leb, List, length, get_or, set, refl, sym, ap, ◌∙◌, arith, length-set, get_or-set_same, get_or-set_other}
use Rattle.std.proofs.lemmas.Bool.{false≢true, cases_lt}
use Rattle.std.proofs.lemmas.List.{length-map, get_or-map}
use Rattle.std.proofs.lemmas.Grind.{common_steps}
use Rattle.roam_cells.specs.Glyph.{Glyph, is_wide, is_right_half, right_of, blank, ascii_in, inked_bytes}
use Rattle.roam_cells.proofs.Ascii.{ascii_narrow}
use Rattle.roam_cells.specs.Place.{glyph_at, IsWholeRow}
use Rattle.roam_rows.specs.Row.{RowSource, Column, Fresh, row_taken, are_neighbours, row_moved}
use Rattle.roam_rows.specs.Halves.{AreParted, cut_twice}
use Rattle.roam_rows.specs.Writing.{writing_source, written_run, ArePrintable}
use Rattle.roam_rows.specs.Erasing.{erasure_source}
use Rattle.roam_rows.proofs.Mending.{is_wide-blank}
use Rattle.roam_rows.proofs.Parting.{past_end}
use Rattle.roam_rows.proofs.Columns.{Agrees, Fits, row_moved_is, row_moved_whole}

-- `writing_source`, with the width as a test
abbrev pub by : Bool → Glyph → ℕ → ℕ → RowSource
by w x col c = cond (eqb c col) (Fresh x) (cond (w && eqb c (col + 1)) (Fresh (right_of x)) (Column c))

hit : (col c : ℕ) → eqb c col ≡ true → c ≡ col
hit col c h = grind (arith, common_steps)

missed : (col c : ℕ) → eqb c col ≡ false → c ≢ col
missed col c h = grind (arith, common_steps)

narrow_stays : (x : Glyph) (n col c : ℕ) → c < n → eqb c col ≡ false → Agrees n (cut_twice col (col + 1)) c (Column c) (by false x col (c + 1)) (by false x col (c - 1))
narrow_stays x n col c q h = (q, (λ k. grind (arith, common_steps)), (λ k. grind (arith, common_steps)))

narrow_agrees : (x : Glyph) (n col c : ℕ) → is_wide x ≡ false → is_right_half x ≡ false → c < n → (b : Bool) → eqb c col ≡ b
    → Agrees n (cut_twice col (col + 1)) c (cond b (Fresh x) (Column c)) (by false x col (c + 1)) (by false x col (c - 1))
narrow_agrees x n col c w l q true h = (λ p. absurd (false≢true (sym w ∙ p)), λ p. absurd (false≢true (sym l ∙ p)))
narrow_agrees x n col c w l q false h = narrow_stays x n col c q h

wide_stays : (x : Glyph) (n col c : ℕ) → c < n → eqb c col ≡ false → eqb c (col + 1) ≡ false → Agrees n (cut_twice col (col + 2)) c (Column c) (by true x col (c + 1)) (by true x col (c - 1))
wide_stays x n col c q h k = (q, (λ j. grind (arith, common_steps)), (λ j. grind (arith, common_steps)))

first_joined : (x : Glyph) (n col c : ℕ) → is_wide x ≡ true → col + 1 < n → eqb c col ≡ true → (ltb (c + 1) n && are_neighbours (Fresh x) (by true x col (c + 1))) ≡ true
first_joined x n col c w k h = grind (arith, common_steps)

second_joined : (x : Glyph) (col c : ℕ) → is_wide x ≡ true → eqb c (col + 1) ≡ true → (ltb 0 c && are_neighbours (by true x col (c - 1)) (Fresh (right_of x))) ≡ true
second_joined x col c w h = grind (arith, common_steps)

wide_agrees : (x : Glyph) (n col c : ℕ) → is_wide x ≡ true → is_right_half x ≡ false → col + 1 < n → c < n → (b d : Bool) → eqb c col ≡ b → eqb c (col + 1) ≡ d
    → Agrees n (cut_twice col (col + 2)) c (cond b (Fresh x) (cond d (Fresh (right_of x)) (Column c))) (by true x col (c + 1)) (by true x col (c - 1))
wide_agrees x n col c wide l k q true d h j = (λ w. first_joined x n col c wide k h, λ w. absurd (false≢true (sym l ∙ w)))
wide_agrees x n col c wide l k q false true h j = (λ w. absurd (false≢true w), λ w. second_joined x col c wide j)
wide_agrees x n col c wide l k q false false h j = wide_stays x n col c q h j

module _ (col : ℕ) (row P : List Glyph) (x : Glyph) where
  narrow_shows : length P ≡ length row → col < length row → (c : ℕ) → (b : Bool) → eqb c col ≡ b → glyph_at (set P col x) c ≡ row_taken P (cond b (Fresh x) (Column c))
  narrow_shows len q c true h = ap (glyph_at (set P col x)) (hit col c h) ∙ get_or-set_same P col x blank (omega (arith, len))
  narrow_shows len q c false h = get_or-set_other P col c x blank (missed col c h)

  pub written_narrow : IsWholeRow row → AreParted (cut_twice col (col + 1)) row P → col < length row → is_wide x ≡ false → is_right_half x ≡ false → set P col x ≡ row_moved row (writing_source x col)
  written_narrow whole parted q w l =
      row_moved_is (cut_twice col (col + 1)) row P whole parted (by false x col) (set P col x) (length-set P col x ∙ parted.len)
      (λ c p. narrow_shows parted.len q c (eqb c col) refl) (λ c p. narrow_agrees x (length row) col c w l p (eqb c col) refl)
      ∙ ap (λ v. row_moved row (by v x col)) (sym w)

  wide_shows : length P ≡ length row → col + 1 < length row → (c : ℕ) → (b d : Bool) → eqb c col ≡ b → eqb c (col + 1) ≡ d
      → glyph_at (set (set P col x) (col + 1) (right_of x)) c ≡ row_taken P (cond b (Fresh x) (cond d (Fresh (right_of x)) (Column c)))
  wide_shows len q c true d h k =
      get_or-set_other (set P col x) (col + 1) c (right_of x) blank (λ e. absurd (omega (arith, e, hit col c h)))
      ∙ ap (glyph_at (set P col x)) (hit col c h) ∙ get_or-set_same P col x blank (omega (arith, len))
  wide_shows len q c false true h k =
      ap (glyph_at (set (set P col x) (col + 1) (right_of x))) (hit (col + 1) c k) ∙ get_or-set_same (set P col x) (col + 1) (right_of x) blank (omega (arith, len, length-set P col x))
  wide_shows len q c false false h k =
      get_or-set_other (set P col x) (col + 1) c (right_of x) blank (missed (col + 1) c k) ∙ get_or-set_other P col c x blank (missed col c h)

  pub written_wide : IsWholeRow row → AreParted (cut_twice col (col + 2)) row P → col + 1 < length row → is_wide x ≡ true → is_right_half x ≡ false
      → set (set P col x) (col + 1) (right_of x) ≡ row_moved row (writing_source x col)
  written_wide whole parted q w l =
      row_moved_is (cut_twice col (col + 2)) row P whole parted (by true x col) (set (set P col x) (col + 1) (right_of x)) (length-set (set P col x) (col + 1) (right_of x) ∙ length-set P col x ∙ parted.len)
      (λ c p. wide_shows parted.len q c (eqb c col) (eqb c (col + 1)) refl refl) (λ c p. wide_agrees x (length row) col c w l q p (eqb c col) (eqb c (col + 1)) refl refl)
      ∙ ap (λ v. row_moved row (by v x col)) (sym w)

fits_narrow : (x : Glyph) (n c : ℕ) → is_wide x ≡ false → is_right_half x ≡ false → c + 1 < n → (b d : Bool) → Fits n (cond b (Fresh x) (Column c)) (cond d (Fresh x) (Column (c + 1)))
fits_narrow x n c w l q false false = (omega arith, q)
fits_narrow x n c w l q false true = tt
fits_narrow x n c w l q true false = tt
fits_narrow x n c w l q true true = λ p h. absurd (false≢true (sym w ∙ p))

both_here : (col c : ℕ) → eqb c col ≡ true → eqb (c + 1) col ≡ true → ⊥
both_here col c h k = let a = hit col c h in let b = hit col (c + 1) k in omega (arith, a, b)

back_here : (col c : ℕ) → eqb c (col + 1) ≡ true → eqb (c + 1) col ≡ true → ⊥
back_here col c h k = let a = hit (col + 1) c h in let b = hit col (c + 1) k in omega (arith, a, b)

fits_wide : (x : Glyph) (n col c : ℕ) → is_wide x ≡ true → c + 1 < n → (b d e f : Bool)
    → eqb c col ≡ b → eqb c (col + 1) ≡ d → eqb (c + 1) col ≡ e → eqb (c + 1) (col + 1) ≡ f
    → Fits n (cond b (Fresh x) (cond d (Fresh (right_of x)) (Column c))) (cond e (Fresh x) (cond f (Fresh (right_of x)) (Column (c + 1))))
fits_wide x n col c w q false false false false h i j k = (omega arith, q)
fits_wide x n col c w q false false false true h i j k = tt
fits_wide x n col c w q false false true f h i j k = tt
fits_wide x n col c w q true d true f h i j k = absurd (both_here col c h j)
fits_wide x n col c w q false true true f h i j k = absurd (back_here col c i j)
fits_wide x n col c w q true d false true h i j k = λ p h. refl
fits_wide x n col c w q true d false false h i j k = tt
fits_wide x n col c w q false true false false h i j k = tt
fits_wide x n col c w q false true false true h i j k = absurd (both_here (col + 1) c i k)

written_by : (col : ℕ) (row : List Glyph) (x : Glyph) → IsWholeRow row → is_right_half x ≡ false → (w : Bool) → is_wide x ≡ w → IsWholeRow (row_moved row (by w x col))
written_by col row x whole l false w = row_moved_whole row whole (by false x col) (λ c q. fits_narrow x (length row) c w l q (eqb c col) (eqb (c + 1) col))
written_by col row x whole l true w =
    row_moved_whole row whole (by true x col) (λ c q. fits_wide x (length row) col c w q (eqb c col) (eqb c (col + 1)) (eqb (c + 1) col) (eqb (c + 1) (col + 1)) refl refl refl refl)

pub written_whole : (col : ℕ) (row : List Glyph) (x : Glyph) → IsWholeRow row → is_right_half x ≡ false → IsWholeRow (row_moved row (writing_source x col))
written_whole col row x whole l = written_by col row x whole l (is_wide x) refl

-- a range of columns
abbrev pub in_range : ℕ → ℕ → ℕ → Bool
in_range from to c = leb from c && ltb c to

range_means : (from to c : ℕ) → in_range from to c ≡ true → (from ≤ c) × (c < to)
range_means from to c h = (grind (arith, common_steps), grind (arith, common_steps))

range_misses : (from to c : ℕ) → in_range from to c ≡ false → (c < from) ⊎ (to ≤ c)
range_misses from to c h = grind (arith, common_steps)

-- cells of one column are written over a range that has a column
abbrev pub over : (ℕ → Glyph) → ℕ → ℕ → ℕ → RowSource
over f from to c = cond (in_range from to c) (Fresh (f c)) (Column c)

-- no cell is wide or a right half
abbrev pub IsNarrow : Glyph → Type 0
IsNarrow g = (is_wide g ≡ false) × (is_right_half g ≡ false)

over_stays : (f : ℕ → Glyph) (n from to c : ℕ) → c < n → from < to → in_range from to c ≡ false → Agrees n (cut_twice from to) c (Column c) (over f from to (c + 1)) (over f from to (c - 1))
over_stays f n from to c q some h = (q, (λ k. grind (arith, common_steps)), (λ k. grind (arith, common_steps)))

pub over_agrees : (f : ℕ → Glyph) (n from to c : ℕ) → IsNarrow (f c) → c < n → from < to → (b : Bool) → in_range from to c ≡ b
    → Agrees n (cut_twice from to) c (cond b (Fresh (f c)) (Column c)) (over f from to (c + 1)) (over f from to (c - 1))
over_agrees f n from to c narrow q some true h = (λ w. absurd (false≢true (sym narrow.0 ∙ w)), λ w. absurd (false≢true (sym narrow.1 ∙ w)))
over_agrees f n from to c narrow q some false h = over_stays f n from to c q some h

fits_over : (n c : ℕ) (x y : Glyph) → IsNarrow x → IsNarrow y → c + 1 < n → (b d : Bool) → Fits n (cond b (Fresh x) (Column c)) (cond d (Fresh y) (Column (c + 1)))
fits_over n c x y v w q false false = (omega arith, q)
fits_over n c x y v w q false true = tt
fits_over n c x y v w q true false = tt
fits_over n c x y v w q true true = λ p h. absurd (false≢true (sym v.0 ∙ p))

module _ (f : ℕ → Glyph) (from to : ℕ) (row P Y : List Glyph) (narrow : (c : ℕ) → IsNarrow (f c)) where
  pub over_whole : IsWholeRow row → IsWholeRow (row_moved row (over f from to))
  over_whole whole = row_moved_whole row whole (over f from to) (λ c q. fits_over (length row) c (f c) (f (c + 1)) (narrow c) (narrow (c + 1)) q (in_range from to c) (in_range from to (c + 1)))

  pub over_is : IsWholeRow row → AreParted (cut_twice from to) row P → length Y ≡ length row → from < to
      → ((c : ℕ) → from ≤ c → c < to → glyph_at Y c ≡ f c)
      → ((c : ℕ) → (c < from) ⊎ (to ≤ c) → glyph_at Y c ≡ glyph_at P c)
      → Y ≡ row_moved row (over f from to)
  over_is whole parted len some inside outside =
      let shows : (c : ℕ) → (b : Bool) → in_range from to c ≡ b → glyph_at Y c ≡ row_taken P (cond b (Fresh (f c)) (Column c)) =
      λ c b. elim b as (λ b. in_range from to c ≡ b → glyph_at Y c ≡ row_taken P (cond b (Fresh (f c)) (Column c))) [
        | true ↦ λ h. let i = range_means from to c h in inside c i.0 i.1
        | false ↦ λ h. outside c (range_misses from to c h)
      ] in
      row_moved_is (cut_twice from to) row P whole parted (over f from to) Y len
      (λ c q. shows c (in_range from to c) refl) (λ c q. over_agrees f (length row) from to c (narrow c) q some (in_range from to c) refl)

-- columns that become blank
module _ (from to : ℕ) (row P Y : List Glyph) where
  pub blanked_is : IsWholeRow row → AreParted (cut_twice from to) row P → length Y ≡ length row → from < to
      → ((k : ℕ) → k < from → glyph_at Y k ≡ glyph_at P k) → ((k : ℕ) → from ≤ k → k < to → glyph_at Y k ≡ blank) → ((k : ℕ) → to ≤ k → glyph_at Y k ≡ glyph_at P k)
      → Y ≡ row_moved row (erasure_source from to)
  blanked_is whole parted len some before inside after =
      over_is (λ c. blank) from to row P Y (λ c. (is_wide-blank, refl)) whole parted len some inside (λ c h. elim h [ inl low ↦ before c low | inr high ↦ after c high ])

  pub blanked_whole : IsWholeRow row → IsWholeRow (row_moved row (erasure_source from to))
  blanked_whole whole = over_whole (λ c. blank) from to row P Y (λ c. (is_wide-blank, refl)) whole

pub bytes_at : (pen : Glyph) (bytes : List ℕ) (k : ℕ) → k < length bytes → glyph_at (inked_bytes pen bytes) k ≡ ascii_in (get_or bytes k 0) pen
bytes_at pen bytes k h = get_or-map (λ byte. ascii_in byte pen) bytes k 0 blank h

pub length-bytes : (pen : Glyph) (bytes : List ℕ) → length (inked_bytes pen bytes) ≡ length bytes
length-bytes pen bytes = length-map bytes (λ byte. ascii_in byte pen)

-- printable bytes make cells of one column
pub bytes_narrow : (pen : Glyph) (bytes : List ℕ) → ArePrintable bytes → (k : ℕ) → IsNarrow (glyph_at (inked_bytes pen bytes) k)
bytes_narrow pen bytes printable k =
    elim (cases_lt k (length bytes)) [
      | inl inside ↦
          let p = printable k inside in (
            ap is_wide (bytes_at pen bytes k inside) ∙ ascii_narrow (get_or bytes k 0) pen p.0 p.1,
            ap is_right_half (bytes_at pen bytes k inside),
          )
      | inr after ↦
          let e : glyph_at (inked_bytes pen bytes) k ≡ blank = past_end (inked_bytes pen bytes) k (omega (arith, length-bytes pen bytes)) in (
            ap is_wide e ∙ is_wide-blank,
            ap is_right_half e,
          )
    ]

-- a run of bytes over a row that was parted
module _ (col : ℕ) (pen : Glyph) (bytes : List ℕ) (row P Y : List Glyph) (printable : ArePrintable bytes) where
  pub run_is : IsWholeRow row → AreParted (cut_twice col (col + length bytes)) row P → length Y ≡ length row → 0 < length bytes
      → ((k : ℕ) → k < length bytes → glyph_at Y (col + k) ≡ ascii_in (get_or bytes k 0) pen)
      → ((k : ℕ) → (k < col) ⊎ (col + length bytes ≤ k) → glyph_at Y k ≡ glyph_at P k)
      → Y ≡ row_moved row (written_run (inked_bytes pen bytes) col)
  run_is whole parted len some inside outside =
      let gs = inked_bytes pen bytes in
      over_is (λ c. glyph_at gs (c - col)) col (col + length bytes) row P Y (λ c. bytes_narrow pen bytes printable (c - col)) whole parted len (omega arith)
      (λ c p q. ap (glyph_at Y) (omega arith) ∙ inside (c - col) (omega arith) ∙ sym (bytes_at pen bytes (c - col) (omega arith))) outside
      ∙ ap (λ n. row_moved row (over (λ c. glyph_at gs (c - col)) col (col + n))) (sym (length-bytes pen bytes))

  pub run_whole : IsWholeRow row → IsWholeRow (row_moved row (written_run (inked_bytes pen bytes) col))
  run_whole whole =
      over_whole (λ c. glyph_at (inked_bytes pen bytes) (c - col)) col (col + length (inked_bytes pen bytes)) row P Y (λ c. bytes_narrow pen bytes printable (c - col)) whole
