-- A wish about the shown part has exactly one text, and is read from it.
use Rattle.std.proofs.Common.{◌≡◌, ◌≢◌, ℕ, ◌+◌, ◌^◌, ◌<◌, ◌≤◌, Bor, true, eqb, length, take, drop, get_or, List, [], ◌∷◌, ◌++◌, Option, Some, None, refl, sym, ap, ◌∙◌, arith, lit≤}
use Rattle.std.proofs.lemmas.Fmt.{decimal_is_IsNumeral}
use Rattle.std.proofs.lemmas.Bool.Decides.{Decides-eqb}
use Rattle.std.proofs.lemmas.Slice.Eq.{strip_prefix_is}
use Rattle.std.specs.Cmp.Lexicographic.{pointwise}
use Rattle.std.specs.Fmt.{decimal}
use Rattle.std.specs.Prelude.{codes}
use Rattle.roam_cells.specs.Limits.{IsSize}
use Rattle.roam_tokens.specs.Words.{first_word}
use Rattle.roam_tokens.proofs.Spelled.{number_again, number_found}
use Rattle.roam_tokens.proofs.Wording.{IsWord, digits_are_word, word_again, word_alone, word_found}
use Rattle.roam_viewport.specs.declared.parts.Part.{Part}
use Rattle.roam_terminal_input.specs.ReadShowings.{pair_at, pair_in, pair_of, part_at, part_behind, part_in, part_of, short_in}
use Rattle.roam_terminal_input.specs.Showings.{HasMaskSize, IsPlaced, IsShowing, pair_text, part_text, showing_text}
use Rattle.roam_terminal_input.specs.declared.showings.Showing.{Showing}
use Rattle.roam_terminal_input.specs.declared.showings.Showing.TheVariants.{Whole, Exactly, Following, Mask, Unmask}

word : (n : ℕ) → n < 2 ^ 16 → IsWord (decimal n)
word n small = digits_are_word 10 (decimal n) (lit≤ tt) (decimal_is_IsNumeral n (omega (arith, small))).0.1

-- ---- the text of a wish is read

short_again : (n : ℕ) → n < 2 ^ 16 → short_in (decimal n) ≡ Some n
short_again n small = number_again 65535 n (omega (arith, small)) (omega (arith, small))

pub pair_again : (a b : ℕ) → a < 2 ^ 16 → b < 2 ^ 16 → pair_in (pair_text a b) ≡ Some (a, b)
pair_again a b p q =
    ap pair_at (word_again (decimal a) (decimal b) (word a p)) ∙ (λ i. pair_of (short_again a p i) (short_again b q i))

pub part_again : (part : Part) → IsPlaced part → part.rows < 2 ^ 16 → part.cols < 2 ^ 16 → part_in (part_text part) ≡ Some part
part_again part is p q =
    let size = pair_text part.rows part.cols in
    ap part_at (word_again (decimal part.row) (decimal part.col ++ 32 ∷ size) (word part.row is.row))
    ∙ ap (part_behind (decimal part.row)) (word_again (decimal part.col) size (word part.col is.col))
    ∙ (λ i. part_of (pair_of (short_again part.row is.row i) (short_again part.col is.col i)) (pair_again part.rows part.cols p q i))

-- ---- a wish that is read has the text

pub record IsPair (text : List ℕ) (pair : ℕ × ℕ) : Type 0 where
  pub first : pair.0 < 2 ^ 16
  pub second : pair.1 < 2 ^ 16
  pub text_is : text ≡ pair_text pair.0 pair.1

two_found : (a b : Option ℕ) (pair : ℕ × ℕ) → pair_of a b ≡ Some pair → (a ≡ Some pair.0) × (b ≡ Some pair.1)
two_found None b pair e = absurd cc
two_found (Some a) None pair e = absurd cc
two_found (Some a) (Some b) pair e =
    let made : ℕ × ℕ = (a, b) in
    let same : made ≡ pair = cc in
    (ap (λ (p : ℕ × ℕ). Some p.0) same, ap (λ (p : ℕ × ℕ). Some p.1) same)

numbers_found : (first second : List ℕ) (pair : ℕ × ℕ) → pair_of (short_in first) (short_in second) ≡ Some pair
    → (pair.0 < 2 ^ 16) × (pair.1 < 2 ^ 16) × (first ≡ decimal pair.0) × (second ≡ decimal pair.1)
numbers_found first second pair e =
    let both = two_found (short_in first) (short_in second) pair e in
    let a = number_found 65535 first pair.0 both.0 in
    let b = number_found 65535 second pair.1 both.1 in
    (omega (arith, a.0), omega (arith, b.0), a.1, b.1)

pub pair_found : (text : List ℕ) (pair : ℕ × ℕ) → pair_in text ≡ Some pair → IsPair text pair
pair_found text pair e = by (first_word text) refl e
  where
    by : (r : Option (List ℕ × List ℕ)) → first_word text ≡ r → pair_at r ≡ Some pair → IsPair text pair
    by None is e = absurd cc
    by (Some words) is e =
        let all = numbers_found words.0 words.1 pair e in
        record { first = all.0; second = all.1; text_is = word_found text words is ∙ (λ i. all.2 i ++ 32 ∷ all.3 i) }

pub record IsPartText (text : List ℕ) (part : Part) : Type 0 where
  pub placed : IsPlaced part
  pub rows : part.rows < 2 ^ 16
  pub cols : part.cols < 2 ^ 16
  pub text_is : text ≡ part_text part

halves_found : (a b : Option (ℕ × ℕ)) (part : Part) → part_of a b ≡ Some part → (a ≡ Some (part.row, part.col)) × (b ≡ Some (part.rows, part.cols))
halves_found None b part e = absurd cc
halves_found (Some a) None part e = absurd cc
halves_found (Some a) (Some b) part e =
    let made : Part = record { row = a.0; col = a.1; rows = b.0; cols = b.1 } in
    let same : made ≡ part = cc in
    (ap (λ (p : Part). Some (p.row, p.col)) same, ap (λ (p : Part). Some (p.rows, p.cols)) same)

pub part_found : (text : List ℕ) (part : Part) → part_in text ≡ Some part → IsPartText text part
part_found text part e = by (first_word text) refl e
  where
    behind : (words : List ℕ × List ℕ) → text ≡ words.0 ++ 32 ∷ words.1 → (r : Option (List ℕ × List ℕ)) → first_word words.1 ≡ r
        → part_behind words.0 r ≡ Some part → IsPartText text part
    behind words cut None is e = absurd cc
    behind words cut (Some rest) is e =
        let both = halves_found (pair_of (short_in words.0) (short_in rest.0)) (pair_in rest.1) part e in
        let place = numbers_found words.0 rest.0 (part.row, part.col) both.0 in
        let size = pair_found rest.1 (part.rows, part.cols) both.1 in
        record {
          placed = record { row = place.0; col = place.1 };
          rows = size.first;
          cols = size.second;
          text_is = cut ∙ (λ i. place.2 i ++ 32 ∷ word_found words.1 rest is i) ∙ (λ i. decimal part.row ++ 32 ∷ (place.3 i ++ 32 ∷ size.text_is i));
        }

    by : (r : Option (List ℕ × List ℕ)) → first_word text ≡ r → part_at r ≡ Some part → IsPartText text part
    by None is e = absurd cc
    by (Some words) is e = behind words (word_found text words is) (first_word words.1) refl e

-- ---- the wishes

apart : {X : Type 0} (line other : List ℕ) → get_or line 0 0 ≢ get_or other 0 0 → line ≡ other → X
apart line other is e = absurd (is (ap (λ (l : List ℕ). get_or l 0 0) e))

-- two numbers are no part
pair_no_part : (a b : ℕ) → a < 2 ^ 16 → b < 2 ^ 16 → part_in (pair_text a b) ≡ None
pair_no_part a b p q =
    ap part_at (word_again (decimal a) (decimal b) (word a p)) ∙ ap (part_behind (decimal a)) (word_alone (decimal b) (word b q))

small : (rows cols : ℕ) → IsSize rows cols → (rows < 2 ^ 16) × (cols < 2 ^ 16)
small rows cols is = let r = is.most_rows in let c = is.most_columns in (omega (arith, r), omega (arith, c))

small_mask : (part : Part) → HasMaskSize part → (part.rows < 2 ^ 16) × (part.cols < 2 ^ 16)
small_mask part is = let r = is.most_rows in let c = is.most_columns in (omega (arith, r), omega (arith, c))

pub mask_only : (text : List ℕ) (o : Option Part) (r : Option Showing) → o ≡ part_in text
    → ((p : Part) → o ≡ Some p → HasMaskSize p → r ≡ Some (Mask p))
    → (s : Showing) → IsShowing s → codes "mask " ++ text ≡ showing_text s → r ≡ Some s
mask_only text o r read is Whole h e = apart (codes "mask " ++ text) (codes "whole") (λ n. omega (arith, n)) e
mask_only text o r read is (Exactly p) h e = apart (codes "mask " ++ text) (codes "part " ++ part_text p) (λ n. omega (arith, n)) e
mask_only text o r read is (Following a b) h e = apart (codes "mask " ++ text) (codes "part " ++ pair_text a b) (λ n. omega (arith, n)) e
mask_only text o r read is (Mask p) h e =
    let size = small_mask p h.1 in
    let same : text ≡ part_text p = ap (drop 5) e in
    is p (read ∙ ap part_in same ∙ part_again p h.0 size.0 size.1) h.1
mask_only text o r read is Unmask h e = apart (codes "mask " ++ text) (codes "unmask") (λ n. omega (arith, n)) e

pub part_only : (text : List ℕ) (o : Option Part) (r : Option Showing) → o ≡ part_in text
    → ((p : Part) → o ≡ Some p → IsSize p.rows p.cols → r ≡ Some (Exactly p))
    → ((a b : ℕ) → o ≡ None → pair_in text ≡ Some (a, b) → IsSize a b → r ≡ Some (Following a b))
    → (s : Showing) → IsShowing s → codes "part " ++ text ≡ showing_text s → r ≡ Some s
part_only text o r read is also Whole h e = apart (codes "part " ++ text) (codes "whole") (λ n. omega (arith, n)) e
part_only text o r read is also (Exactly p) h e =
    let size = small p.rows p.cols h.1 in
    let same : text ≡ part_text p = ap (drop 5) e in
    is p (read ∙ ap part_in same ∙ part_again p h.0 size.0 size.1) h.1
part_only text o r read is also (Following a b) h e =
    let size = small a b h in
    let same : text ≡ pair_text a b = ap (drop 5) e in
    also a b (read ∙ ap part_in same ∙ pair_no_part a b size.0 size.1) (ap pair_in same ∙ pair_again a b size.0 size.1) h
part_only text o r read is also (Mask p) h e = apart (codes "part " ++ text) (codes "mask " ++ part_text p) (λ n. omega (arith, n)) e
part_only text o r read is also Unmask h e = apart (codes "part " ++ text) (codes "unmask") (λ n. omega (arith, n)) e

pub no_some : {X : Type 0} (x : X) → None ≡ Some x → ⊥
no_some x e = cc

pub same_part : (a b : Part) → Some a ≡ Some b → a ≡ b
same_part a b e = cc

pub same_pair : (a b : ℕ × ℕ) → Some a ≡ Some b → a ≡ b
same_pair a b e = cc

-- the rest behind a head
pub behind_head : (line head all : List ℕ) (rest : Bor (List ℕ)) → head ≡ all
    → (pointwise eqb (take (length head) line) head ≡ true) × (rest.now ≡ drop (length head) line) × (length rest.now
    + length head ≡ length line) → line ≡ all ++ rest.now
behind_head line head all rest e h =
    strip_prefix_is Decides-eqb line head (Some rest) h ∙ ap (λ (text : List ℕ). text ++ rest.now) e
