use Rattle.roam_wire.specs.Cutting.{texts_of}
use Rattle.std.proofs.Common.{length}
use Rattle.roam_model.specs.Texts.{datagram_with}
use Rattle.roam_hub.proofs.PackingTexts.{IsPacking}
use Rattle.roam_hub.proofs.packing.datagrams.Given as goal

-- the datagrams so far, and the fragments that are left
abbrev pub invariant-loop-fragment : goal.invariant-loop-fragment
invariant-loop-fragment l =
    IsPacking
    (datagram_with l.heading.version l.heading.kind l.heading.session l.heading.client l.heading.before l.heading.id
    (length (texts_of l.fn.fragments.items)))
    (texts_of l.fn.fragments.items) (texts_of l.all.items) (texts_of l.fragment-iterator.rest.items)
