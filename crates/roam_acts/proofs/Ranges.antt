-- The test of an act's ranges is true exactly within the ranges.
use Rattle.std.proofs.Common.{◌≡◌, true, refl, arith}
use Rattle.std.proofs.lemmas.Int.{ints}
use Rattle.std.proofs.lemmas.Bool.Decides.{nat_tests}
use Rattle.roam_acts.specs.declared.acts.Act.{Act}
use Rattle.roam_acts.specs.declared.acts.Act.TheVariants.{Key, SplitRight, SplitDown, Close, Focus, Next, Grow, Size, View}
use Rattle.roam_acts.specs.Acts.{is_in_range, IsInRange}

pub in_range : (a : Act) → IsInRange a → is_in_range a ≡ true
in_range (Key k) h = refl
in_range SplitRight h = refl
in_range SplitDown h = refl
in_range Close h = refl
in_range (Focus p) h = grind (arith, nat_tests)
in_range Next h = refl
in_range (Grow d) h = grind (arith, ints, nat_tests)
in_range (Size r c) h = grind (arith, nat_tests)
in_range (View d) h = grind (arith, ints, nat_tests)

pub has_range : (a : Act) → is_in_range a ≡ true → IsInRange a
has_range (Key k) h = tt
has_range SplitRight h = tt
has_range SplitDown h = tt
has_range Close h = tt
has_range (Focus p) h = grind (arith, nat_tests)
has_range Next h = tt
has_range (Grow d) h = (grind (arith, ints, nat_tests), grind (arith, ints, nat_tests))
has_range (Size r c) h = grind (arith, nat_tests)
has_range (View d) h = (grind (arith, ints, nat_tests), grind (arith, ints, nat_tests))
