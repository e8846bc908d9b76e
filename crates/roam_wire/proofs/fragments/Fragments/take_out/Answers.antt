use Rattle.std.proofs.Common.{◌≡◌, ap, length, get_or, None, true, List, Option, ℕ, set, ◌∙◌, arith}
use Rattle.std.specs.Prelude.{is_some}
use Rattle.roam_wire.specs.Fragments.{seen}
use Rattle.roam_wire.proofs.Places.{length-seen, missing_out, missing_most, seen-set, there_below, length-set_out}
use Rattle.roam_wire.proofs.fragments.Fragments.take_out.Goals as goal

pub index_mut-requires : goal.index_mut-requires
index_mut-requires c =
    let is : seen c.self.inside.places.items ≡ c.args.self.now = c.self.view_is in
    let same = length-seen c.self.inside.places.items in
    let low = there_below c.args.self.now c.args.index c.requires.there in
    omega (arith, same, low, ap length is, c.self.inside.places.ok)

pub overflow_add-self : goal.overflow_add-self
overflow_add-self c =
    let is : seen c.self.inside.places.items ≡ c.args.self.now = c.self.view_is in
    let there : is_some (get_or (seen c.self.inside.places.items) c.args.index None) ≡ true = ap (λ (ps : List (Option (List ℕ))). is_some (get_or ps c.args.index None)) is ∙ c.requires.there in
    let more = missing_out (seen c.self.inside.places.items) c.args.index there in
    let most = missing_most (set (seen c.self.inside.places.items) c.args.index None) in
    let same = length-seen c.self.inside.places.items in
    let kept = length-set_out (seen c.self.inside.places.items) c.args.index in
    omega (arith, more, most, same, kept, c.self.invariant, c.self.inside.places.ok, c.self.inside.places.small)

pub invariant_of-self : goal.invariant_of-self
invariant_of-self c =
    let is : seen c.self.inside.places.items ≡ c.args.self.now = c.self.view_is in
    let there : is_some (get_or (seen c.self.inside.places.items) c.args.index None) ≡ true = ap (λ (ps : List (Option (List ℕ))). is_some (get_or ps c.args.index None)) is ∙ c.requires.there in
    let more = missing_out (seen c.self.inside.places.items) c.args.index there in
    rw (seen-set c.self.inside.places.items c.args.index None) (omega (arith, more, c.self.invariant))

pub returns : goal.returns
returns c =
    let is : seen c.self.inside.places.items ≡ c.args.self.now = c.self.view_is in
    record { out = seen-set c.self.inside.places.items c.args.index None ∙ ap (λ (ps : List (Option (List ℕ))). set ps c.args.index None) is }
