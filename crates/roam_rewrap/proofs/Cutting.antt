-- A line is cut into rows, one after another.
use Rattle.std.proofs.Common.{◌≡◌, ◌≤◌, ◌<◌, ℕ, zero, suc, ◌+◌, ◌-◌, true, false, List, [], ◌∷◌, ◌++◌, length, take, drop, refl, sym, ap, ◌∙◌, arith, append_assoc, length-drop}
use Rattle.std.specs.Prelude.{if◌then◌else◌}
use Rattle.std.proofs.lemmas.Bool.{lt-ltb, le-ltb}
use Rattle.std.proofs.lemmas.List.{drop-drop, take_all}
use Rattle.roam_cells.specs.Glyph.{Glyph}
use Rattle.roam_rewrap.specs.Lines.{TextRow}
use Rattle.roam_rewrap.specs.Wrapping.{fitting, rows_within}

abbrev pub cut : ℕ → List Glyph → TextRow
cut n rest = record { goes_on = true; cells = take n rest }

abbrev pub last_of : List Glyph → TextRow
last_of rest = record { goes_on = false; cells = rest }

-- the first row is cut off if the line is longer
longer : (fuel cols : ℕ) (rest : List Glyph) → cols < length rest
    → rows_within (suc fuel) cols rest ≡ cut (fitting cols rest) rest ∷ rows_within fuel cols (drop (fitting cols rest) rest)
longer fuel cols rest h =
    ap (λ b. if b then cut (fitting cols rest) rest ∷ rows_within fuel cols (drop (fitting cols rest) rest) else last_of rest ∷ []) (lt-ltb cols (length rest) h)

pub ends : (fuel cols : ℕ) (rest : List Glyph) → length rest ≤ cols → rows_within fuel cols rest ≡ last_of rest ∷ []
ends zero cols rest h = refl
ends (suc fuel) cols rest h =
    ap (λ b. if b then cut (fitting cols rest) rest ∷ rows_within fuel cols (drop (fitting cols rest) rest) else last_of rest ∷ []) (le-ltb cols (length rest) h)

pub record Cut (fuel cols at n : ℕ) (line : List Glyph) (rows goal : List TextRow) : Type 0 where
  pub less : ℕ
  pub enough : length line - (at + n) ≤ less
  pub rows_are : (rows ++ cut n (drop at line) ∷ []) ++ rows_within less cols (drop (at + n) line) ≡ goal

pub cuts : (fuel cols at n : ℕ) (line : List Glyph) (rows goal : List TextRow)
    → cols < length line - at → length line - at ≤ fuel → 0 < n → n ≡ fitting cols (drop at line)
    → rows ++ rows_within fuel cols (drop at line) ≡ goal → Cut fuel cols at n line rows goal
cuts zero cols at n line rows goal long few some is e = absurd (omega (arith, long, few))
cuts (suc fuel) cols at n line rows goal long few some is e =
    let rest = drop at line in
    let size : length rest ≡ length line - at = length-drop at line in
    record {
      less = fuel;
      enough = omega (arith, few, some);
      rows_are =
          append_assoc rows (cut n rest ∷ []) (rows_within fuel cols (drop (at + n) line))
          ∙ ap (λ l. rows ++ cut n rest ∷ rows_within fuel cols l) (sym (drop-drop n at line))
          ∙ ap (λ m. rows ++ cut m rest ∷ rows_within fuel cols (drop m rest)) is
          ∙ ap (λ l. rows ++ l) (sym (longer fuel cols rest (omega (arith, long, size))))
          ∙ e;
    }

-- the rest behind a place of a line
pub after-is : (i : ℕ) (xs : List Glyph) → take (length xs - i) (drop i xs) ≡ drop i xs
after-is i xs = take_all (length xs - i) (drop i xs) (omega (arith, length-drop i xs))
