-- Words of cells: reading a word gives the parts that it was made of.
use Rattle.std.proofs.Common.{◌≡◌, ℕ, ◌+◌, ◌-◌, ◌*◌, ◌/◌, ◌%◌, ◌<◌, inl, inr, Bool, true, false, ◌==◌, nat_lt, List, take, drop, replicate, sym, ap, ◌∙◌, arith}
use Rattle.std.proofs.lemmas.Bool.{false≢true, cases_lt}
use Rattle.std.proofs.lemmas.Bool.Decides.{nat_tests}
use Rattle.std.specs.Prelude.{All}
use Rattle.std.specs.Char.{IsScalar}
use Rattle.roam_cells.specs.Glyph.{is_wide_text, is_text}
use Rattle.roam_cells.specs.Inks.{InkValue, IsInkNumber, digit, is_odd, ink_numbered}
use Rattle.roam_cells.specs.Kept.{places, glyph_of, IsKept, inside_of, inside_back, count_in, wide_in}
use Rattle.roam_cells.specs.declared.cells.Cell.TheInside.{Inside}
use Rattle.roam_cells.proofs.Digits.{odd_digit}

-- whether a word says wide, from the digit that it ends in
pub wide_says : (wide : Bool) (d n w : ℕ) → d ≡ digit wide → w / 4 ≡ d + 2 * n → wide_in w ≡ wide
wide_says wide d n w e f = ap is_odd (f ∙ ap (λ k. k + 2 * n) e) ∙ odd_digit wide n

-- the fields that keep so many code points, their width and an ink
pub kept_as : (p : ℕ) (points : List ℕ) (count n w : ℕ) (wide : Bool) → places p ≡ points → All IsScalar (places p)
    → drop count points ≡ replicate (3 - count) 0 → wide ≡ is_wide_text (take count points) → is_text (take count points) ≡ true → IsInkNumber n
    → count_in w ≡ count → wide_in w ≡ wide → w / 8 ≡ n → IsKept (record { points = p; word = w })
kept_as p points count n w wide are scalars rest width text ink said says shows =
    record {
      rest = rw (said, are) rest;
      width = rw (said, are) (says ∙ width);
      text = rw (said, are) text;
      scalars = scalars;
      ink = rw shows ink;
    }

-- the cell that such fields show
pub shown_as : (p : ℕ) (points : List ℕ) (count n w : ℕ) (ink : InkValue) → places p ≡ points → count_in w ≡ count → w / 8 ≡ n → ink_numbered n ≡ ink
    → glyph_of (record { points = p; word = w }) ≡ record { points = take count points; style = ink.style; guarded = ink.guarded }
shown_as p points count n w ink are said shows is i =
    let same : ink_numbered (w / 8) ≡ ink = ap ink_numbered shows ∙ is in
    record { points = take (said i) (are i); style = (same i).style; guarded = (same i).guarded }

-- words that end in the same three digits say the same count and width
pub same_shape : (v w : ℕ) → v % 8 ≡ w % 8 → (count_in v ≡ count_in w) × (wide_in v ≡ wide_in w)
unfolding is_odd
same_shape v w e =
    let last : v / 4 % 2 ≡ w / 4 % 2 = omega (arith, e) in
    (omega (arith, e), ap (λ k. k == 1) last)

means_below : (a b : ℕ) → nat_lt a b ≡ true → a < b
means_below a b h = grind (arith, nat_tests)

below_means : (a b : ℕ) → a < b → nat_lt a b ≡ true
below_means a b h = grind (arith, nat_tests)

-- a word has no width of two if its last three digits are below 4
pub narrow_says : (w : ℕ) → nat_lt (w % 8) 4 ≡ true → wide_in w ≡ false
unfolding is_odd
narrow_says w h =
    let none : w / 4 % 2 ≡ 0 = omega (arith, means_below (w % 8) 4 h) in
    ap (λ k. k == 1) none

pub says_narrow : (w : ℕ) → wide_in w ≡ false → nat_lt (w % 8) 4 ≡ true
unfolding is_odd
says_narrow w h =
    elim (cases_lt (w % 8) 4) [
      | inl low ↦ below_means (w % 8) 4 low
      | inr high ↦
          let one : w / 4 % 2 ≡ 1 = omega (arith, high) in
          absurd (false≢true (sym h ∙ ap (λ k. k == 1) one))
    ]

-- fields that show the same are equal
pub fields_same : (a b : Inside) → IsKept a → IsKept b → glyph_of a ≡ glyph_of b → a ≡ b
fields_same a b h k e = sym (inside_back a h) ∙ ap inside_of e ∙ inside_back b k

-- cells with the same fields are one
pub glyph_same : (a b : Inside) → a.points ≡ b.points → a.word ≡ b.word → glyph_of a ≡ glyph_of b
glyph_same a b p e i = glyph_of (record { points = p i; word = e i })
