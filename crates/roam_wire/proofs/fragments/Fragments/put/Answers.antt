use Rattle.std.proofs.Common.{◌≡◌, ◌<◌, ap, length, get_or, Some, None, List, Option, ℕ, set, ◌∙◌, arith}
use Rattle.roam_wire.specs.Fragments.{seen}
use Rattle.roam_wire.proofs.Places.{length-seen, missing_put, seen-set}
use Rattle.roam_wire.proofs.fragments.Fragments.put.Goals as goal

pub index_mut-requires : goal.index_mut-requires
index_mut-requires c =
    let is : seen c.self.inside.places.items ≡ c.args.self.now = c.self.view_is in
    let same = length-seen c.self.inside.places.items in
    omega (arith, same, ap length is, c.self.inside.places.ok)

pub overflow_sub-self : goal.overflow_sub-self
overflow_sub-self c =
    let is : seen c.self.inside.places.items ≡ c.args.self.now = c.self.view_is in
    let place : c.args.index < length (seen c.self.inside.places.items) = omega (arith, ap length is) in
    let gone : get_or (seen c.self.inside.places.items) c.args.index None ≡ None = ap (λ (ps : List (Option (List ℕ))). get_or ps c.args.index None) is ∙ c.requires.missing in
    let fewer = missing_put (seen c.self.inside.places.items) c.args.index c.args.fragment.items place gone in
    omega (arith, fewer, c.self.invariant)

pub invariant_of-self : goal.invariant_of-self
invariant_of-self c =
    let is : seen c.self.inside.places.items ≡ c.args.self.now = c.self.view_is in
    let place : c.args.index < length (seen c.self.inside.places.items) = omega (arith, ap length is) in
    let gone : get_or (seen c.self.inside.places.items) c.args.index None ≡ None = ap (λ (ps : List (Option (List ℕ))). get_or ps c.args.index None) is ∙ c.requires.missing in
    let fewer = missing_put (seen c.self.inside.places.items) c.args.index c.args.fragment.items place gone in
    rw (seen-set c.self.inside.places.items c.args.index (Some c.args.fragment)) (omega (arith, fewer, c.self.invariant))

pub returns : goal.returns
returns c =
    let is : seen c.self.inside.places.items ≡ c.args.self.now = c.self.view_is in
    record { put = seen-set c.self.inside.places.items c.args.index (Some c.args.fragment) ∙ ap (λ (ps : List (Option (List ℕ))). set ps c.args.index (Some c.args.fragment.items)) is }
