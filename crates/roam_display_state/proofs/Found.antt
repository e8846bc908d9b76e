-- A property of an element that a search found.
use Rattle.std.proofs.Common.{◌≡◌, Option, Some, None, subst}
use Rattle.std.specs.Prelude.{IfSome}

pub found : {X : Type 0} (P : X → Type 0) (o : Option X) (x : X) → o ≡ Some x → IfSome o P → P x
found P None x is h = absurd cc
found P (Some y) x is h =
    let same : y ≡ x = cc in
    subst P same h
