-- Growing keeps the panes, the least size, and modest shifts.
use Rattle.std.proofs.Common.{◌≡◌, ℕ, ℤ, pos, negsuc, ◌+◌, ◌≤◌, ◌≤ℤ◌, ◌+ℤ◌, ◌-ℤ◌, Bool, true, false, ◌||◌, ◌&&◌, cond, refl, ap, Option, Some, None, arith}
use Rattle.std.specs.Prelude.{int_le}
use Rattle.std.proofs.lemmas.Int.{ints}
use Rattle.std.proofs.lemmas.Bool.Decides.{nat_tests}
use Rattle.roam_layout.specs.Trees.{Shape, One, Two, has, is_one, least, least_rows, least_cols, times, AreNumbers, AreModest}
use Rattle.roam_layout.specs.Rects.{first_length, first_part, second_part, length_along, middle, most_first, after_stretch, with_first, with_second, after_growth, Fits}
use Rattle.roam_layout.proofs.Covering.{across_in, down_in}
use Rattle.roam_layout.specs.declared.rects.Way.{Way}
use Rattle.roam_layout.specs.declared.rects.Way.TheVariants.{Right, Down}
use Rattle.roam_layout.specs.declared.rects.Rect.{Rect}

-- a tree with the panes and the least size of another, and modest
pub record HasGrown (t u : Shape) : Type 0 where
  pub rows : least_rows u ≡ least_rows t
  pub cols : least_cols u ≡ least_cols t
  pub modest : AreModest u
  pub numbers : AreNumbers t → AreNumbers u
  pub has : (p : ℕ) → has p u ≡ has p t
  pub times : (p : ℕ) → times p u ≡ times p t

abbrev pub IfGrown : Shape → Option Shape → Type 0
IfGrown t None = Unit {0}
IfGrown t (Some u) = HasGrown t u

wanted_modest : (wanted : ℤ) (low high half : ℕ) → (int_le (pos low) wanted && int_le wanted (pos high)) ≡ true → high ≤ 500 → half ≤ 500
    → (negsuc 599 ≤ℤ (wanted -ℤ pos half)) × ((wanted -ℤ pos half) ≤ℤ pos 600)
wanted_modest wanted low high half e h k = (grind (arith, ints, nat_tests), grind (arith, ints, nat_tests))

same_rows : (w : Way) (g k : ℤ) (a b : Shape) → least_rows (Two w k a b) ≡ least_rows (Two w g a b)
same_rows Right g k a b = refl
same_rows Down g k a b = refl

same_cols : (w : Way) (g k : ℤ) (a b : Shape) → least_cols (Two w k a b) ≡ least_cols (Two w g a b)
same_cols Right g k a b = refl
same_cols Down g k a b = refl

along_limit : (w : Way) (r : Rect) → r.rows ≤ 500 → r.cols ≤ 500 → length_along w r ≤ 500
along_limit Right r h k = k
along_limit Down r h k = h

stretched_keeps : (w : Way) (g wanted : ℤ) (a b : Shape) (r : Rect) → r.rows ≤ 500 → r.cols ≤ 500 → AreModest (Two w g a b)
    → IfGrown (Two w g a b) (after_stretch w wanted a b r)
stretched_keeps w g wanted a b r h k modest = by_case (int_le (pos (least w a)) wanted && int_le wanted (pos (most_first w b r))) refl
  where
    by_case : (v : Bool) → (int_le (pos (least w a)) wanted && int_le wanted (pos (most_first w b r))) ≡ v
        → IfGrown (Two w g a b) (cond v (Some (Two w (wanted -ℤ pos (middle (length_along w r))) a b)) None)
    by_case false e = tt
    by_case true e =
        let limit = along_limit w r h k in
        let m = wanted_modest wanted (least w a) (most_first w b r) (middle (length_along w r)) e (omega (arith, limit))
        (omega (arith, limit)) in
        record {
          rows = same_rows w g (wanted -ℤ pos (middle (length_along w r))) a b;
          cols = same_cols w g (wanted -ℤ pos (middle (length_along w r))) a b;
          modest = (m, modest.1, modest.2);
          numbers = λ n. n;
          has = λ p. refl;
          times = λ p. refl;
        }

rows_of : (w : Way) (g : ℤ) (a a' b b' : Shape) → least_rows a' ≡ least_rows a → least_rows b' ≡ least_rows b
    → least_rows (Two w g a' b') ≡ least_rows (Two w g a b)
rows_of Right g a a' b b' h k = rw (h, k) refl
rows_of Down g a a' b b' h k = rw (h, k) refl

cols_of : (w : Way) (g : ℤ) (a a' b b' : Shape) → least_cols a' ≡ least_cols a → least_cols b' ≡ least_cols b
    → least_cols (Two w g a' b') ≡ least_cols (Two w g a b)
cols_of Right g a a' b b' h k = rw (h, k) refl
cols_of Down g a a' b b' h k = rw (h, k) refl

first_keeps : (w : Way) (g : ℤ) (a b : Shape) (o : Option Shape) → AreModest (Two w g a b) → IfGrown a o
    → IfGrown (Two w g a b) (with_first w g b o)
first_keeps w g a b None m h = tt
first_keeps w g a b (Some u) m h =
    record {
      rows = rows_of w g a u b b h.rows refl;
      cols = cols_of w g a u b b h.cols refl;
      modest = (m.0, h.modest, m.2);
      numbers = λ n. (h.numbers n.0, n.1);
      has = λ p. ap (λ v. v || has p b) (h.has p);
      times = λ p. ap (λ v. v + times p b) (h.times p);
    }

second_keeps : (w : Way) (g : ℤ) (a b : Shape) (o : Option Shape) → AreModest (Two w g a b) → IfGrown b o
    → IfGrown (Two w g a b) (with_second w g a o)
second_keeps w g a b None m h = tt
second_keeps w g a b (Some u) m h =
    record {
      rows = rows_of w g a a b u refl h.rows;
      cols = cols_of w g a a b u refl h.cols;
      modest = (m.0, m.1, h.modest);
      numbers = λ n. (n.0, h.numbers n.1);
      has = λ p. ap (λ v. has p a || v) (h.has p);
      times = λ p. ap (λ v. times p a + v) (h.times p);
    }

one_of_four : (P : Option Shape → Type 0) (x y z : Bool) (s t u v : Option Shape) → P s → P t → P u → P v
    → P (cond x s (cond y t (cond z u v)))
one_of_four P true y z s t u v a b c d = a
one_of_four P false true z s t u v a b c d = b
one_of_four P false false true s t u v a b c d = c
one_of_four P false false false s t u v a b c d = d

first_limits : (w : Way) (g : ℤ) (a b : Shape) (r : Rect) → Fits (Two w g a b) r
    → Fits a (first_part w g a b r) × ((first_part w g a b r).rows ≤ r.rows) × ((first_part w g a b r).cols ≤ r.cols)
first_limits Right g a b r fits = let e = across_in g a b r fits in ((omega (arith, fits.0), e.0), omega arith, omega (arith, e.1))
first_limits Down g a b r fits = let e = down_in g a b r fits in ((e.0, omega (arith, fits.1)), omega (arith, e.1), omega arith)

second_limits : (w : Way) (g : ℤ) (a b : Shape) (r : Rect) → Fits (Two w g a b) r
    → Fits b (second_part w g a b r) × ((second_part w g a b r).rows ≤ r.rows) × ((second_part w g a b r).cols ≤ r.cols)
second_limits Right g a b r fits = let e = across_in g a b r fits in ((omega (arith, fits.0), omega (arith, e.1)), omega arith, omega arith)
second_limits Down g a b r fits = let e = down_in g a b r fits in ((omega (arith, e.1), omega (arith, fits.1)), omega arith, omega arith)

pub grown_keeps : (p : ℕ) (d : ℤ) (t : Shape) (r : Rect) → Fits t r → r.rows ≤ 500 → r.cols ≤ 500 → AreModest t → IfGrown t (after_growth p d t r)
grown_keeps p d (One q) r fits h k m = tt
grown_keeps p d (Two w g a b) r fits h k m =
    let x = first_limits w g a b r fits in
    let y = second_limits w g a b r fits in
    one_of_four (IfGrown (Two w g a b)) (is_one p a) (is_one p b) (has p a)
    (after_stretch w (pos (first_length w g a b r) +ℤ d) a b r) (after_stretch w (pos (first_length w g a b r) -ℤ d) a b r)
    (with_first w g b (after_growth p d a (first_part w g a b r))) (with_second w g a (after_growth p d b (second_part w g a b r)))
    (stretched_keeps w g (pos (first_length w g a b r) +ℤ d) a b r h k m)
    (stretched_keeps w g (pos (first_length w g a b r) -ℤ d) a b r h k m)
    (first_keeps w g a b _ m (grown_keeps p d a (first_part w g a b r) x.0 (omega (arith, x.1, h)) (omega (arith, x.2, k)) m.1))
    (second_keeps w g a b _ m (grown_keeps p d b (second_part w g a b r) y.0 (omega (arith, y.1, h)) (omega (arith, y.2, k)) m.2))
