use Rattle.std.proofs.Common.{◌++◌, ◌∷◌, [], ap, ◌∙◌, None, List, Option, ℕ}
use Rattle.std.proofs.lemmas.List.{replicate_more}
use Rattle.roam_wire.specs.Fragments.{seen}
use Rattle.roam_wire.proofs.Places.{seen-append}
use Rattle.roam_wire.proofs.fragments.empty_places.Goals as goal

pub loop-preserved : goal.loop-preserved
loop-preserved c =
    ap seen c.in_ok-push.ensures.items
    ∙ seen-append c.loop.places.items (None ∷ [])
    ∙ ap (λ (ps : List (Option (List ℕ))). ps ++ None ∷ []) c.loop.invariant
    ∙ replicate_more c.loop.counter None
