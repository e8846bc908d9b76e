-- The first and the last place of a text in a line, as they are searched for.
use Rattle.std.proofs.Common.{◌≡◌, ℕ, ◌+◌, ◌-◌, ◌≤◌, ◌<◌, List, Option, Some, None, drop, length, min, take, sym, ap, ◌∙◌, arith, length-drop, length-take}
use Rattle.std.proofs.lemmas.List.{drop-take, take-take}
use Rattle.memchr.specs.Find.{FindsLastNeedle, FindsNeedle, OccursAt}
use Rattle.memchr.proofs.lemmas.MatchLemmas.{OccursAt-from_part, OccursAt-part}
use Rattle.roam_stored_rows.specs.Blocks.{IsNearestPlace, IsPlace, StandsNowhere}
use Rattle.roam_stored_rows.specs.Finding.{StandsAt}
use Rattle.roam_stored_rows.specs.declared.finding.Way.TheVariants.{Back, On}

-- a text that stands at a place ends within the line
pub stands-within : (text line : List ℕ) (place : ℕ) → 0 < length text → StandsAt text line place → place + length text ≤ length line
stands-within text line place some h =
    let size = sym (ap length h) ∙ length-take (length text) (drop place line) in
    omega (arith, size, length-drop place line, some)

occurs : (text line : List ℕ) (place : ℕ) → 0 < length text → StandsAt text line place → OccursAt line text place
occurs text line place some h = OccursAt-from_part line text place (stands-within text line place some h) h

pub first-none : (text line : List ℕ) (size : ℕ) → size ≤ length line → 0 < length text → FindsNeedle line text 0 None → StandsNowhere text line 0 size
first-none text line size s some f k a b h = f k a (omega (arith, b, s)) (occurs text line k some h)

pub first-some : (text line : List ℕ) (size place : ℕ) → size ≤ length line → 0 < length text → FindsNeedle line text 0 (Some place) → place < size
    → IsNearestPlace On text line size place
first-some text line size place s some f low =
    (low, OccursAt-part line text place f.1, λ k a b h. f.0.before k a b (occurs text line k some h))

pub first-far : (text line : List ℕ) (size place : ℕ) → size ≤ length line → 0 < length text → FindsNeedle line text 0 (Some place) → size ≤ place
    → StandsNowhere text line 0 size
first-far text line size place s some f far k a b h = f.0.before k a (omega (arith, b, far)) (occurs text line k some h)

-- at a place of a begin from which a text doesn't reach farther, it stands in the begin exactly if it stands in the line
front-part : (line : List ℕ) (end place n : ℕ) → place + n ≤ end → take n (drop place (take end line)) ≡ take n (drop place line)
front-part line end place n s =
    let sum : place + (end - place) ≡ end = omega (arith, s) in
    ap (λ (k : ℕ). take n (drop place (take k line))) (sym sum) ∙ ap (λ (l : List ℕ). take n l) (drop-take place (end - place) line)
    ∙ take-take n (end - place) (drop place line) (omega (arith, s))

in-front : (text line : List ℕ) (size end place : ℕ) → 0 < length text → end ≡ min (length line) (size + (length text - 1)) → place < size
    → StandsAt text line place → OccursAt (take end line) text place
in-front text line size end place some e low h =
    let within = stands-within text line place some h in
    let reach : place + length text ≤ end = omega (arith, e, within, low, some) in
    OccursAt-from_part (take end line) text place (omega (arith, length-take end line, reach, within))
    (front-part line end place (length text) reach ∙ h)

pub last-none : (text line : List ℕ) (size end : ℕ) → 0 < length text → end ≡ min (length line) (size + (length text - 1))
    → FindsLastNeedle (take end line) text None → StandsNowhere text line 0 size
last-none text line size end some e f k a b h =
    let occ = in-front text line size end k some e b h in
    f k a (omega (arith, occ.fits, some)) occ

pub last-some : (text line : List ℕ) (size end place : ℕ) → 0 < length text → end ≡ min (length line) (size + (length text - 1))
    → FindsLastNeedle (take end line) text (Some place) → IsNearestPlace Back text line size place
last-some text line size end place some e f =
    let reach : place + length text ≤ end = omega (arith, f.1.fits, length-take end line) in (
      omega (arith, reach, e, some),
      sym (front-part line end place (length text) reach) ∙ OccursAt-part (take end line) text place f.1,
      λ k a b h.
          let occ = in-front text line size end k some e b h in
          f.0.after k a (omega (arith, occ.fits, some)) occ,
    )

pub last-place : (text line : List ℕ) (size end : ℕ) (found : Option ℕ) → 0 < length text → end ≡ min (length line) (size + (length text - 1))
    → FindsLastNeedle (take end line) text found → IsPlace Back text line size found
last-place text line size end None some e f = last-none text line size end some e f
last-place text line size end (Some place) some e f = last-some text line size end place some e f
