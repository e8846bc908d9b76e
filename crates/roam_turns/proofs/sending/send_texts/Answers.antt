use Rattle.std.proofs.Common.{rules, ◌≡◌, ◌++◌, [], ◌∷◌, map, take, get_or, ◌+◌, ◌<◌, length, ◌∙◌, ap, sym, subst, refl}
use Rattle.std.proofs.KnownBytes.{Keeps-refl, Keeps-trans}
use Rattle.std.proofs.lemmas.List.{take_more, map-append}
use Rattle.roam_wire.specs.Cutting.{texts_of}
use Rattle.roam_turns.specs.Calls.{Tells, Parcel}
use Rattle.roam_turns.specs.Calls.PortCall.{Sent}
use Rattle.roam_turns.specs.Turns.{Sends, parcel_to}
use Rattle.roam_turns.proofs.Making.{tells_none, tells_both}
use Rattle.roam_turns.proofs.Parcels.{sends_more}
use Rattle.roam_turns.proofs.sending.send_texts.Goals as goal

pub loop-bytes-init : goal.loop-bytes-init
loop-bytes-init g c = ([], tells_none _, Keeps-refl _, refl, refl)

pub loop-bytes-preserved : goal.loop-bytes-preserved
loop-bytes-preserved g c =
    let all = c.args.texts.now in
    let to = c.args.to in
    let i = c.loop-bytes.bytes-index in
    let item = c.bytes-item.result in
    let parcel : Parcel = (to, item.items) in
    let within : i < length all = search rules in
    let h = c.loop-bytes.invariant in
    let call = Sent to item.items c.send.result in
    let told = subst (λ text. Tells (g.P.Ports.told c.loop-bytes.ports) (g.P.Ports.told c.send.new.self) (Sent to text c.send.result ∷ []))
    c.deref.ensures.value c.send.ensures.tells in
    let more : texts_of (take (i + 1) all) ≡ texts_of (take i all) ++ item.items ∷ [] =
    ap texts_of (take_more all i item within) ∙ (map-append (λ v. v.items) (take i all) (get_or all i item ∷ [])
    ∙ ap (λ x. texts_of (take i all) ++ x.items ∷ []) (sym c.bytes-item.is)) in
    let parcels : map (parcel_to to) (texts_of (take (i + 1) all)) ≡ map (parcel_to to) (texts_of (take i all)) ++ parcel ∷ [] =
    ap (map (parcel_to to)) more ∙ map-append (parcel_to to) (texts_of (take i all)) (item.items ∷ []) in (
      h.0 ++ call ∷ [],
      tells_both _ _ _ h.0 (call ∷ []) h.1 told,
      Keeps-trans _ _ _ h.2 c.send.ensures.written,
      subst (λ ls. Sends ls (h.0 ++ call ∷ [])) (sym parcels)
          (sends_more (map (parcel_to to) (texts_of (take i all))) h.0 parcel c.send.result h.3),
      c.send.ensures.notice ∙ h.4,
    )
