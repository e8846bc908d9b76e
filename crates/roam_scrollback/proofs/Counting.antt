-- Counting the rows that the lines of a text take at least, from its end.
use Rattle.std.proofs.Common.{◌≡◌, ℕ, zero, suc, ◌+◌, ◌-◌, ◌<◌, ◌≤◌, true, false, List, [], ◌∷◌, ◌++◌, drop, length, take, refl, ap, subst, sym, ◌∙◌, inl, inr, arith}
use Rattle.std.specs.Prelude.{◌/◌, ◌^◌, get_or, max, min, not, if◌then◌else◌}
use Rattle.std.proofs.lemmas.Bool.{cases_lt}
use Rattle.std.proofs.lemmas.List.{drop_more, length_push, take_more}
use Rattle.roam_grid.specs.Screen.{Screen}
use Rattle.roam_rewrap.specs.Lines.{TextRow}
use Rattle.roam_scrollback.specs.Rewraps.{begins_line, head_cells, rows_behind, rows_counted, rows_of, screen_row, screen_text}
use Rattle.roam_scrollback.specs.declared.wraps.Wrap.{Wrap}
use Rattle.roam_scrollback.proofs.Beginning.{begins-after}

-- as much as 64 bits hold
abbrev pub held : ℕ → ℕ
held n = min n (2 ^ 64 - 1)

held-more : (a b : ℕ) → held (held a + b) ≡ held (a + b)
held-more a b = omega arith

pub rows-held : (cells cols : ℕ) → rows_of (held cells) cols ≡ rows_of cells cols
rows-held cells cols = ap (λ k. max 1 (k / cols)) (held-more cells (cols - 1))

-- a row before others of its line
pub head-on : (row : TextRow) (rows : List TextRow) → row.goes_on ≡ true → head_cells (row ∷ rows) ≡ length row.cells + head_cells rows
head-on row rows on = ap (λ on. length row.cells + (if on then head_cells rows else 0)) on

pub behind-on : (cols : ℕ) (row : TextRow) (rows : List TextRow) → row.goes_on ≡ true → rows_behind cols (row ∷ rows) ≡ rows_behind cols rows
behind-on cols row [] on = refl
behind-on cols row (next ∷ rows) on =
    let same = ap (λ on. (if on then 0 else rows_of (head_cells (next ∷ rows)) cols) + rows_behind cols (next ∷ rows)) on in
    omega (arith, same)

-- a row in which a line ends
pub head-ends : (row : TextRow) (rows : List TextRow) → row.goes_on ≡ false → head_cells (row ∷ rows) ≡ length row.cells
head-ends row rows ends =
    let same = ap (λ on. length row.cells + (if on then head_cells rows else 0)) ends in
    omega (arith, same)

pub behind-ends : (cols : ℕ) (row : TextRow) (rows : List TextRow) → 0 < length rows → row.goes_on ≡ false
    → rows_behind cols (row ∷ rows) ≡ rows_of (head_cells rows) cols + rows_behind cols rows
behind-ends cols row [] some ends = absurd (omega (arith, some))
behind-ends cols row (next ∷ rows) some ends =
    ap (λ on. (if on then 0 else rows_of (head_cells (next ∷ rows)) cols) + rows_behind cols (next ∷ rows)) ends

-- as many rows of a screen are text as were asked for
pub screen-text-long : (n : ℕ) (s : Screen) (wraps : List Wrap) → length (screen_text n s wraps) ≡ n
screen-text-long zero s wraps = refl
screen-text-long (suc n) s wraps = omega (arith, length_push (screen_text n s wraps) (screen_row s wraps n), screen-text-long n s wraps)

-- a row and the rows behind it
module _ (text : List TextRow) (from : ℕ) (row : TextRow) (some : 0 < from) (within : from ≤ length text) (is : row ≡ get_or text (from - 1) row) where
  less : from - 1 < length text
  less = omega (arith, some, within)

  next : from - 1 + 1 ≡ from
  next = omega (arith, some)

  pub row-whole : drop (from - 1) text ≡ row ∷ drop from text
  row-whole = drop_more text (from - 1) row less ∙ (λ i. sym is i ∷ drop (next i) text)

  pub row-begins : begins_line (take from text) ≡ not row.goes_on
  row-begins =
      ap (λ k. begins_line (take k text)) (sym next)
      ∙ ap begins_line (take_more text (from - 1) row less ∙ ap (λ (x : TextRow). take (from - 1) text ++ x ∷ []) (sym is))
      ∙ begins-after (take (from - 1) text) row

-- no line that comes later is enough, nor is one that begins here
pub later-too : (text : List TextRow) (kept rows cols from : ℕ)
    → (from ≤ kept → begins_line (take from text) ≡ true → rows_counted cols (drop from text) < rows)
    → ((later : ℕ) → from < later → later ≤ kept → begins_line (take later text) ≡ true → rows_counted cols (drop later text) < rows)
    → (later : ℕ) → from - 1 < later → later ≤ kept → begins_line (take later text) ≡ true → rows_counted cols (drop later text) < rows
later-too text kept rows cols from here latest later above few begins =
    elim (cases_lt from later) [
      | inl behind ↦ latest later behind few begins
      | inr back ↦
          let same : later ≡ from = omega (arith, above, back) in
          subst (λ k. rows_counted cols (drop k text) < rows) (sym same)
          (here (subst (λ k. k ≤ kept) same few) (subst (λ k. begins_line (take k text) ≡ true) same begins))
    ]
