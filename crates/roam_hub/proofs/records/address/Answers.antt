use Rattle.std.proofs.Common.{◌≡◌, ◌++◌, ap, arith, length, map, List, Vec, ℕ}
use Rattle.std.specs.declared.alloc.Global.{Global}
use Rattle.roam_wire.specs.Cutting.{texts_of}
use Rattle.roam_hub.specs.Servers.{address_of, parcels_of}
use Rattle.roam_hub.proofs.Addressing.{addressed, push_parcel, all_parcels}
use Rattle.roam_hub.proofs.PackingTexts.{nothing_left}
use Rattle.roam_hub.proofs.records.address.Goals as goal

pub loop-text-init : goal.loop-text-init
loop-text-init c =
    ap (λ (xs : List (Vec ℕ Global)). parcels_of c.args.parcels.now.items ++ map (addressed (address_of c.args.to)) (texts_of xs))
    c.into_iter-text-iterator.ensures.into_iter_gives.0

pub loop-text-preserved : goal.loop-text-preserved
loop-text-preserved c =
    push_parcel _ _ c.args.to c.in-Some.text c.loop-text.text-iterator.rest.items c.next.new.self.rest.items _ c.in-Some.ensures.steps.0
    c.in_ok-push.ensures.items c.loop-text.invariant

pub returns-clause-parcels : goal.returns-clause-parcels
returns-clause-parcels c =
    let none : length c.loop-text.text-iterator.rest.items ≡ 0 = omega (arith, c.in-None.ensures.steps.0) in
    all_parcels _ (address_of c.args.to) c.loop-text.text-iterator.rest.items _ (nothing_left c.loop-text.text-iterator.rest.items none)
    c.loop-text.invariant
