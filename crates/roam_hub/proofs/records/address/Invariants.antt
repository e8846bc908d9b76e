use Rattle.std.proofs.Common.{◌≡◌, ◌++◌, map}
use Rattle.roam_wire.specs.Cutting.{texts_of}
use Rattle.roam_hub.specs.Servers.{address_of, parcels_of}
use Rattle.roam_hub.proofs.Addressing.{addressed}
use Rattle.roam_hub.proofs.records.address.Given as goal

-- the texts so far, and those that are left
abbrev pub invariant-loop-text : goal.invariant-loop-text
invariant-loop-text l =
    parcels_of l.parcels.items ++ map (addressed (address_of l.to)) (texts_of l.text-iterator.rest.items)
    ≡ parcels_of l.fn.parcels.items ++ map (addressed (address_of l.to)) (texts_of l.fn.texts.items)
