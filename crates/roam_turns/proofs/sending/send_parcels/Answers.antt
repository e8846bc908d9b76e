use Rattle.std.proofs.Common.{◌≡◌, ◌++◌, [], ◌∷◌, Vec, ℕ, ap, arith, length, ◌∙◌, sym, subst, refl, append_assoc}
use Rattle.std.proofs.KnownBytes.{Keeps-refl, Keeps-trans}
use Rattle.std.proofs.lemmas.List.{map-append}
use Rattle.std.specs.declared.alloc.Global.{Global}
use Rattle.roam_cells.specs.declared.addresses.Addr.{Addr}
use Rattle.roam_turns.specs.Calls.{Tells, Parcel, parcels_in}
use Rattle.roam_turns.specs.Calls.PortCall.{Sent}
use Rattle.roam_turns.specs.Turns.{Sends}
use Rattle.roam_turns.proofs.Making.{tells_none, tells_both}
use Rattle.roam_turns.proofs.Parcels.{sends_more, all_sent}
use Rattle.roam_turns.proofs.sending.send_parcels.Goals as goal

pub loop-to-init : goal.loop-to-init
loop-to-init g c = ([], [], c.into_iter-to-iterator.ensures.into_iter_gives.0, tells_none _, Keeps-refl _, refl)

pub loop-to-preserved : goal.loop-to-preserved
loop-to-preserved g c =
    let item : Addr × Vec ℕ Global = (c.in-Some.to, c.in-Some.bytes) in
    let parcel : Parcel = (item.0, item.1.items) in
    let h = c.loop-to.invariant in
    let call = Sent parcel.0 parcel.1 c.send.result in
    let told = subst (λ text. Tells (g.P.Ports.told c.loop-to.ports) (g.P.Ports.told c.send.new.self)
    (Sent parcel.0 text c.send.result ∷ []))
    c.deref.ensures.value c.send.ensures.tells in
    let more : parcels_in (h.0 ++ item ∷ []) ≡ parcels_in h.0 ++ parcel ∷ [] = map-append (λ p. (p.0, p.1.items)) h.0 (item ∷ []) in (
      h.0 ++ item ∷ [],
      h.1 ++ call ∷ [],
      append_assoc h.0 (item ∷ []) c.next.new.self.rest.items ∙ (ap (λ rest. h.0 ++ rest) (sym c.in-Some.ensures.steps.0) ∙ h.2),
      tells_both _ _ _ h.1 (call ∷ []) h.3 told,
      Keeps-trans _ _ _ h.4 c.send.ensures.written,
      subst (λ parcels. Sends parcels (h.1 ++ call ∷ [])) (sym more) (sends_more (parcels_in h.0) h.1 parcel c.send.result h.5),
    )

pub returns-clause-sends : goal.returns-clause-sends
returns-clause-sends g c =
    let h = c.loop-to.invariant in
    let none : length c.loop-to.to-iterator.rest.items ≡ 0 = omega (arith, c.in-None.ensures.steps.0) in
    (h.1, h.3, subst (λ sent. Sends (parcels_in sent) h.1) (all_sent h.0 c.loop-to.to-iterator.rest.items _ none h.2) h.5)

pub returns-clause-written : goal.returns-clause-written
returns-clause-written g c = c.loop-to.invariant.4
