-- Rows of one cell everywhere: blank ones at the start, and filled ones.
use Rattle.std.proofs.Common.{◌≡◌, ℕ, ◌+◌, ◌-◌, ◌*◌, ◌<◌, ◌≤◌, false, List, ◌++◌, take, length, get_or, replicate, refl, sym, ap, ◌∙◌, arith, rules}
use Rattle.std.proofs.lemmas.Bool.{false≢true}
use Rattle.std.proofs.lemmas.List.{length-replicate, get_or-replicate, take-replicate, drop-replicate, replicate-append-replicate}
use Rattle.roam_cells.specs.Glyph.{Glyph, is_wide, is_right_half, blank}
use Rattle.roam_cells.specs.Limits.{IsSize}
use Rattle.roam_cells.specs.Place.{cell_at, AreWhole}
use Rattle.roam_cells.proofs.Places.{place_below, row_from}
use Rattle.roam_rows.specs.Turned.{IsTurned, in_order}
use Rattle.roam_rows.specs.Kept.{AreLengths}
use Rattle.roam_rows.proofs.Mending.{is_wide-blank}

pub all_blank : (rows cols r c : ℕ) → r < rows → c < cols → cell_at cols (replicate (rows * cols) blank) r c ≡ blank
all_blank rows cols r c p q = get_or-replicate (rows * cols) (r * cols + c) blank blank (place_below rows cols r c p q)

constant_whole : (rows cols : ℕ) (x : Glyph) → (is_wide x ≡ false) × (is_right_half x ≡ false) → AreWhole rows cols (replicate (rows * cols) x)
constant_whole rows cols x narrow = λ r p c q.
    let at : cell_at cols (replicate (rows * cols) x) r c ≡ x = get_or-replicate (rows * cols) (r * cols + c) x blank (place_below rows cols r c p q) in
    record {
      wide = λ w. absurd (false≢true (sym narrow.0 ∙ sym (ap is_wide at) ∙ w));
      half = λ w. absurd (false≢true (sym narrow.1 ∙ sym (ap is_right_half at) ∙ w));
    }

-- a buffer from its first row on
pub unturned : (cols : ℕ) (cells : List Glyph) → in_order cols 0 cells ≡ cells
unturned cols cells = search rules

pub blank_turned : (rows cols : ℕ) (cells : List Glyph) → IsSize rows cols → cells ≡ replicate (rows * cols) blank → IsTurned rows cols 0 cells
blank_turned rows cols cells limits e = record {
  limits = limits;
  size = ap length e ∙ length-replicate (rows * cols) blank;
  first_in = omega (arith, limits);
  whole = rw (e, unturned cols (replicate (rows * cols) blank)) (constant_whole rows cols blank (is_wide-blank, refl));
}

pub no_lengths : (rows cols : ℕ) (cells : List Glyph) (lengths : List ℕ) → cells ≡ replicate (rows * cols) blank → lengths ≡ replicate rows 0 → AreLengths rows cols cells lengths
no_lengths rows cols cells lengths e u = record {
  count = ap length u ∙ length-replicate {A = ℕ} rows 0;
  low = λ at p. let z : get_or lengths at 0 ≡ 0 = ap (λ l. get_or l at 0) u ∙ get_or-replicate {A = ℕ} rows at 0 0 p in omega (arith, z);
  rest = λ at c p q h. ap (λ l. cell_at cols l at c) e ∙ all_blank rows cols at c p h;
}

-- one cell everywhere, from any first row on
pub constant_in_order : (rows cols first : ℕ) (x : Glyph) → first < rows → in_order cols first (replicate (rows * cols) x) ≡ replicate (rows * cols) x
constant_in_order rows cols first x first_in =
    let room : first * cols ≤ rows * cols = omega (arith, row_from cols first rows 0 (omega arith)) in
    ap (λ l. l ++ take (first * cols) (replicate (rows * cols) x)) (drop-replicate (first * cols) (rows * cols) x)
    ∙ ap (λ l. replicate (rows * cols - first * cols) x ++ l) (take-replicate (first * cols) (rows * cols) x room)
    ∙ replicate-append-replicate (rows * cols - first * cols) (first * cols) x ∙ ap (λ n. replicate n x) (omega arith)

pub filled_turned : (rows cols first : ℕ) (x : Glyph) (buffer : List Glyph) → IsTurned rows cols first buffer → (is_wide x ≡ false) × (is_right_half x ≡ false)
    → IsTurned rows cols first (replicate (rows * cols) x)
filled_turned rows cols first x buffer turned narrow = record {
  limits = turned.limits;
  size = length-replicate (rows * cols) x;
  first_in = turned.first_in;
  whole = rw (constant_in_order rows cols first x turned.first_in) (constant_whole rows cols x narrow);
}

pub full_lengths : (rows cols : ℕ) (buffer : List Glyph) → AreLengths rows cols buffer (replicate rows cols)
full_lengths rows cols buffer = record {
  count = length-replicate {A = ℕ} rows cols;
  low = λ at p. omega (arith, get_or-replicate {A = ℕ} rows at cols 0 p);
  rest = λ at c p q h. absurd (omega (arith, get_or-replicate {A = ℕ} rows at cols 0 p));
}
