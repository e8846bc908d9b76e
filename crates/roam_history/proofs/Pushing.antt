-- A row that is written over the foremost line, which then is the last.
use Rattle.std.proofs.Common.{◌≡◌, ℕ, ◌+◌, ◌-◌, ◌<◌, ◌≤◌, inl, inr, map, min, replicate, List, [], ◌∷◌, ◌++◌, drop, length, refl, sym, ap, subst, ◌∙◌, arith, length-drop}
use Rattle.std.specs.Prelude.{All, Option, Some, slice_get}
use Rattle.std.proofs.lemmas.List.{drop-append-le, drop-drop, length_push, length-replicate, get_or-replicate, drop_all, drop-map, length-map}
use Rattle.std.proofs.lemmas.List.Elements.{All-push, All-drop, All-get_or, All-replicate}
use Rattle.std.proofs.lemmas.Bool.{false≢true, cases_lt}
use Rattle.std.proofs.lemmas.Option.{slice_get_within, get_or_from_slice_get}
use Rattle.circular_buffer.specs.Buffer.{Buffer, buffer, keep_last}
use Rattle.roam_cells.specs.Glyph.{Glyph, is_wide, is_right_half, blank}
use Rattle.roam_cells.specs.Place.{glyph_at, IsWholeRow}
use Rattle.roam_history.specs.Limits.{IsHistorySize}
use Rattle.roam_history.specs.Histories.{Scrollback, last, after_push, IsRow, IsKept}
use Rattle.roam_history.specs.Lines.{refitted_row}
use Rattle.roam_history.proofs.Refitting.{is_wide-blank, length-refitted_row}

-- histories are equal if their parts are
pub same_scrollback : (a b : Scrollback) → a.lines ≡ b.lines → a.cols ≡ b.cols → a.rows ≡ b.rows → a ≡ b
same_scrollback a b lines cols rows i = record { lines = lines i; cols = cols i; rows = rows i }

-- if there is room nothing is lost
pub last_fits : {X : Type 0} (n : ℕ) (xs : List X) (y : X) → length xs < n → last n (xs ++ y ∷ []) ≡ xs ++ y ∷ []
last_fits n xs y room =
    let none : length (xs ++ y ∷ []) - n ≡ 0 = omega (arith, length_push xs y) in
    ap (λ k. drop k (xs ++ y ∷ [])) none

-- the last of the last and one more are the last of all
pub last_more : {X : Type 0} (n : ℕ) (xs : List X) (y : X) → last n (last n xs ++ y ∷ []) ≡ last n (xs ++ y ∷ [])
last_more n xs y =
    let L = length xs in
    let kept = last n xs in
    let size : length kept ≡ L - (L - n) = length-drop (L - n) xs in
    let size' : length (kept ++ y ∷ []) ≡ length kept + 1 = length_push kept y in
    let all : length (xs ++ y ∷ []) ≡ L + 1 = length_push xs y in
    elim (cases_lt 0 n) [
      | inl some ↦
          let index : L - n + (length kept + 1 - n) ≡ L + 1 - n = omega (arith, size) in
          ap (λ k. drop (k - n) (kept ++ y ∷ [])) size' ∙ drop-append-le (length kept + 1 - n) kept (y ∷ []) (omega (arith, size))
          ∙ ap (λ l. l ++ y ∷ []) (drop-drop (length kept + 1 - n) (L - n) xs ∙ ap (λ k. drop k xs) index)
          ∙ sym (drop-append-le (L + 1 - n) xs (y ∷ []) (omega arith)) ∙ sym (ap (λ k. drop (k - n) (xs ++ y ∷ [])) all)
      | inr none ↦
          drop_all (length (kept ++ y ∷ []) - n) (kept ++ y ∷ []) (omega arith)
          ∙ sym (drop_all (length (xs ++ y ∷ []) - n) (xs ++ y ∷ []) (omega arith))
    ]

-- the last elements of a mapped list are the mapped last elements
pub last-map : {X Y : Type 0} (f : X → Y) (n : ℕ) (xs : List X) → map f (last n xs) ≡ last n (map f xs)
last-map f n xs = sym (drop-map f (length xs - n) xs) ∙ sym (ap (λ k. drop (k - n) (map f xs)) (length-map xs f))

module _ {X : Type 0} (xs : List X) (y : X) (some : 0 < length xs) where
  abbrev pub turned : List X
  turned = drop 1 xs ++ y ∷ []

  pub length-turned : length turned ≡ length xs
  length-turned = length_push (drop 1 xs) y ∙ omega (arith, length-drop 1 xs)

  -- nothing is lost if the ring was full
  pub all_kept : (n : ℕ) → n ≡ length xs → keep_last n turned ≡ turned
  all_kept n e =
      let none : length turned - n ≡ 0 = omega (arith, length-turned) in
      ap (λ k. drop k turned) none

  -- the last rows of the turned lines are the last of the rows and the new one
  pub last_turned : (len next : ℕ) → len ≤ length xs → next ≡ min (len + 1) (length xs) → last next turned ≡ last (length xs) (last len xs ++ y ∷ [])
  last_turned len next few next_is =
      let L = length xs in
      let rows = last len xs in
      let size : length rows ≡ len = length-drop (L - len) xs ∙ omega arith in
      let size' : length (rows ++ y ∷ []) ≡ len + 1 = length_push rows y ∙ ap (λ n. n + 1) size in
      let front : length (drop 1 xs) ≡ L - 1 = length-drop 1 xs in
      let index : 1 + (L - next) ≡ L - len + (len + 1 - L) = omega arith in
      ap (λ n. drop (n - next) turned) length-turned
      ∙ drop-append-le (L - next) (drop 1 xs) (y ∷ []) (omega (arith, front))
      ∙ ap (λ l. l ++ y ∷ []) (drop-drop (L - next) 1 xs ∙ ap (λ n. drop n xs) index ∙ sym (drop-drop (len + 1 - L) (L - len) xs))
      ∙ sym (drop-append-le (len + 1 - L) rows (y ∷ []) (omega (arith, size)))
      ∙ sym (ap (λ n. drop (n - L) (rows ++ y ∷ [])) size')

-- the foremost line of a history is taken out, a row is written over it, and it is put at the end
module _ (ring popped next : Buffer (List Glyph)) (cols len new_len count : ℕ) (found : Option (List Glyph)) (line y row : List Glyph) (kept : IsKept ring cols len)
    (found_is : found ≡ slice_get ring.items 0) (found_line : found ≡ Some line) (popped_is : popped ≡ buffer (drop 1 ring.items) ring.capacity)
    (y_is : y ≡ refitted_row (length line) row) (next_is : next ≡ buffer (keep_last popped.capacity (popped.items ++ y ∷ [])) popped.capacity)
    (len_is : new_len ≡ min (len + 1) count) (count_is : count ≡ length next.items) (whole : IsWholeRow (refitted_row cols row)) where
  head : slice_get ring.items 0 ≡ Some line
  head = sym found_is ∙ found_line

  some : 0 < length ring.items
  some = slice_get_within ring.items 0 line head

  foremost : IsRow cols line
  foremost =
      subst (λ (l : List Glyph). IsRow cols l) (get_or_from_slice_get ring.items 0 line line head)
      (All-get_or (IsRow cols) ring.items 0 line some kept.each)

  written : y ≡ refitted_row cols row
  written = y_is ∙ ap (λ n. refitted_row n row) foremost.count

  written_row : IsRow cols y
  written_row = record {
    count = ap length written ∙ length-refitted_row cols row;
    whole = subst (λ (l : List Glyph). IsWholeRow l) (sym written) whole;
  }

  next_from : next ≡ buffer (keep_last ring.capacity (drop 1 ring.items ++ y ∷ [])) ring.capacity
  next_from = next_is ∙ ap (λ (b : Buffer (List Glyph)). buffer (keep_last b.capacity (b.items ++ y ∷ [])) b.capacity) popped_is

  items_are : next.items ≡ turned ring.items y some
  items_are = ap (λ (b : Buffer (List Glyph)). b.items) next_from ∙ all_kept ring.items y some ring.capacity kept.full

  lines_are : length next.items ≡ length ring.items
  lines_are = ap length items_are ∙ length-turned ring.items y some

  pub kept_next : IsKept next cols new_len
  kept_next = record {
    size = subst (λ (n : ℕ). IsHistorySize n cols) (sym lines_are) kept.size;
    full = ap (λ (b : Buffer (List Glyph)). b.capacity) next_from ∙ kept.full ∙ sym lines_are;
    few = omega arith;
    each = subst (λ (l : List (List Glyph)). All (IsRow cols) l) (sym items_are)
        (All-push (IsRow cols) (drop 1 ring.items) y (All-drop (IsRow cols) 1 ring.items kept.each) written_row);
  }

  abbrev pub before : Scrollback
  before = record { lines = length ring.items; cols = cols; rows = last len ring.items }

  abbrev pub after : Scrollback
  after = record { lines = length next.items; cols = cols; rows = last new_len next.items }

  rows_are : last new_len next.items ≡ last (length ring.items) (last len ring.items ++ refitted_row cols row ∷ [])
  rows_are =
      ap (last new_len) items_are
      ∙ last_turned ring.items y some len new_len kept.few (len_is ∙ ap (min (len + 1)) (count_is ∙ lines_are))
      ∙ ap (λ l. last (length ring.items) (last len ring.items ++ l ∷ [])) written

  pub pushed_next : after ≡ after_push (refitted_row cols row) before
  pushed_next = same_scrollback after (after_push (refitted_row cols row) before) lines_are refl rows_are

blank_row : (cols : ℕ) → IsRow cols (replicate cols blank)
blank_row cols =
    let size : length (replicate cols blank) ≡ cols = length-replicate cols blank in
    record {
      count = size;
      whole = λ c q.
          let at : glyph_at (replicate cols blank) c ≡ blank = get_or-replicate cols c blank blank (omega (arith, size)) in
          record {
            wide = λ w. absurd (false≢true (sym is_wide-blank ∙ sym (ap is_wide at) ∙ w));
            half = λ h. absurd (false≢true (sym (ap is_right_half at) ∙ h));
          };
    }

-- blank lines, and no row yet
pub kept_at_first : (ring : Buffer (List Glyph)) (lines cols : ℕ) → IsHistorySize lines cols → ring ≡ buffer (replicate lines (replicate cols blank)) lines → IsKept ring cols 0
kept_at_first ring lines cols limits ring_is =
    let count : length ring.items ≡ lines = ap (λ (b : Buffer (List Glyph)). length b.items) ring_is ∙ length-replicate lines (replicate cols blank) in
    record {
      size = subst (λ (n : ℕ). IsHistorySize n cols) (sym count) limits;
      full = ap (λ (b : Buffer (List Glyph)). b.capacity) ring_is ∙ sym count;
      few = omega arith;
      each = subst (λ (b : Buffer (List Glyph)). All (IsRow cols) b.items) (sym ring_is) (All-replicate (IsRow cols) lines (replicate cols blank) (blank_row cols));
    }
