-- From a session's log through a tick, its datagrams and a client instance to a painted terminal.
use Rattle.std.proofs.Common.{◌≡◌, ℕ, ◌+◌, ◌<◌, ◌≤◌, ◌^◌, Bool, true, false, ◌&&◌, List, ◌∷◌, length, map, take, drop, refl, sym, ap, ◌∙◌, subst, arith}
use Rattle.std.specs.Prelude.{nat_lt, Result}
use Rattle.std.specs.List.{enumerate_from}
use Rattle.roam_cells.specs.declared.faults.Fault.{Fault}
use Rattle.roam_screens.specs.Screenshot.{Screenshot, IsScreenshot}
use Rattle.roam_paint.specs.Ground.{PaintedLeadsOver}
use Rattle.roam_wire.specs.Cutting.{fragments_of}
use Rattle.roam_wire.specs.Datagrams.{DatagramValue, IsDatagram, datagram_text}
use Rattle.roam_wire.specs.Instructions.{IsDown, down_text}
use Rattle.roam_wire.specs.declared.datagrams.Kind.TheVariants.{ToClient as ToClientKind}
use Rattle.roam_wire.specs.declared.versions.Version.{Version}
use Rattle.roam_wire.specs.declared.versions.Version.TheVariants.{One, Two}
use Rattle.roam_wire.proofs.Cuts.{fragments_of-step}
use Rattle.roam_layout.specs.Layouts.{IsSessionSize}
use Rattle.roam_session.specs.Sessions.{SessionSize, Entry}
use Rattle.roam_session.specs.Faces.{face}
use Rattle.roam_model.specs.Versions.{seen_by, IsSeenBy}
use Rattle.roam_model.specs.Lists.{IsIn}
use Rattle.roam_model.specs.Texts.{datagram_with, datagrams_of}
use Rattle.roam_model.specs.Servers.{Record, Server, moment}
use Rattle.roam_model.specs.Ticks.{number_after, screen_to, Parcel as WorldParcel, sent_by}
use Rattle.roam_model.specs.Clients.{Client, shown_screen}
use Rattle.roam_model.proofs.Versions.{seen_is}
use Rattle.roam_model.proofs.Places.{map_here, enumerate_here, some_at}
use Rattle.roam_hub.specs.declared.clients.Heard.{Heard}
use Rattle.roam_hub.specs.Servers.{is_number_spent}
use Rattle.roam_hub.specs.Clients.{ClientView}
use Rattle.roam_turns.specs.Calls.{Parcel, ClientCall}
use Rattle.roam_turns.specs.Calls.ClientCall.{Typed, ToClient, ClientTick}
use Rattle.roam_turns.specs.Hops.{IsHandedOver, Hop, seen_face, Arrives}
use Rattle.roam_turns.proofs.HopTick.{has_arrived, texts_sent, of_start, is_sent, is_to, told, is_live_then, datagrams_then, is_of, are_datagrams, instruction_low, datagrams_low, told_down, screen_made, told_short}
use Rattle.roam_turns.proofs.HopDeliveries.{IsGood, all_come}

known_live : (a b : Bool) → (a && b) ≡ true → a ≡ true
known_live true b e = refl
known_live false b e = absurd (cc)

-- a screen of either version is a screen
seen_screen : (v : Version) (s : Screenshot) → IsSeenBy v s → IsScreenshot s
seen_screen One s is = is.screenshot
seen_screen Two s is = is

module _ (faces : (size : SessionSize) (log : List Entry) → IsSessionSize size.rows size.cols → IsScreenshot (face size log))
    (painted_leads : PaintedLeadsOver) (s : Server) (id now : ℕ) (c : Client) (view : ClientView) (h : Hop s id now c view) where
  abbrev m : ℕ
  m = moment s now

  abbrev r : Record
  r = s.records id

  abbrev shot : Screenshot
  shot = screen_to s (moment s now) id

  there : IsIn id s.arrival
  there =
      let live = is_live_then r (number_after s m) shot m h.offered in
      has_arrived h.server s id h.server_stands (known_live r.known (nat_lt m (r.heard_at + 60000)) live)

  id_low : id < 2 ^ 64
  id_low = h.ids.starts id there

  is_screen : shot ≡ seen_by r.version (face s.size s.log)
  is_screen = screen_made s m id h.made

  seen : IsSeenBy r.version shot
  seen = subst (IsSeenBy r.version) (sym is_screen) (seen_is r.version (face s.size s.log) (faces s.size s.log h.ids.size))

  texts : (is_number_spent s m ≡ false)
      × (map (λ (l : Parcel). l.1) h.parcels ≡ map (λ (p : WorldParcel). datagram_text p.datagram) (sent_by s m))
  texts = let t = h.ticks s h.server_stands in texts_sent s now t.0 h.ticked h.parcels t.1 t.2

  low : r.sender.base.number ≤ number_after s m
  low = let from = h.ready.from in let below = h.ready.below in omega (arith, from, below)

  down : IsDown (told r (number_after s m) shot)
  down = told_down s m id h.made texts.0 there h.offered low

  -- the datagrams to the instance
  abbrev mine : List DatagramValue
  mine = datagrams_of (s.records id).version ToClientKind s.session id (s.records id).datagrams (length (s.records id).instructions + 1)
      (fragments_of (down_text (told (s.records id) (number_after s (moment s now)) (screen_to s (moment s now) id))))

  is_datagram : (d : DatagramValue) → IsIn d mine → IsDatagram d
  is_datagram d i =
      are_datagrams r.version s.session id r.datagrams (length r.instructions + 1) (down_text (told r (number_after s m) shot)) d
      h.ids.session id_low (omega arith) (instruction_low s m id h.made texts.0 there h.offered)
      (datagrams_low s m id h.made texts.0 there h.offered)
      (told_short r (number_after s m) shot seen) i

  good : (call : ClientCall) → IsIn call h.calls → IsGood s.session id (number_after s m) c r shot h.ready seen down call
  good call i = go call (h.hands_over.just call i)
    where
      go : (call : ClientCall) → IsHandedOver h.parcels id call → IsGood s.session id (number_after s m) c r shot h.ready seen down call
      go (Typed act answer) given = absurd given
      go (ClientTick at answer) given = absurd given
      go (ToClient bytes at answer) given =
          let d = of_start s m id bytes h.ids.starts (subst (λ (xs : List (List ℕ)). IsIn bytes xs) texts.1 given.0) given.1 in
          let i = subst (λ (ds : List DatagramValue). IsIn d.0 ds)
          (datagrams_then r (number_after s m) shot m h.offered s.session id) d.1 in (
            d.0,
            is_datagram d.0 i,
            is_of r.version s.session id r.datagrams (length r.instructions + 1)
                (fragments_of (down_text (told r (number_after s m) shot))) d.0 i,
            sym d.2,
            given.2,
          )

  -- each datagram is handed over
  handed : (d : DatagramValue) → IsIn d mine
      → (at : ℕ) × (answer : Result Heard Fault) × IsIn (ToClient (datagram_text d) at answer) h.calls
  handed d i =
      let is = is_of r.version s.session id r.datagrams (length r.instructions + 1)
      (fragments_of (down_text (told r (number_after s m) shot))) d i in
      let sent = is_sent s m id d there (subst (λ (ds : List DatagramValue). IsIn d ds)
      (sym (datagrams_then r (number_after s m) shot m h.offered s.session id)) i) in
      h.hands_over.all (datagram_text d) (subst (λ (xs : List (List ℕ)). IsIn (datagram_text d) xs) (sym texts.1) sent)
      (is_to d id is.client_is id_low)

  each : (i : ℕ) → i < length (fragments_of (down_text (told r (number_after s m) shot)))
      → (d : DatagramValue) × IsDatagram d × (d.index ≡ i)
      × (at : ℕ) × (answer : Result Heard Fault) × IsIn (ToClient (datagram_text d) at answer) h.calls
  each i lt =
      let ps = fragments_of (down_text (told r (number_after s m) shot)) in
      let x = some_at ps i lt in
      let z : 0 + i ≡ i = omega arith in
      let make = datagram_with r.version ToClientKind s.session id r.datagrams (length r.instructions + 1) (length ps) in
      let in_there = map_here make (i, x.0) (enumerate_from 0 ps)
      (subst (λ (q : ℕ). IsIn (q, x.0) (enumerate_from 0 ps)) z (enumerate_here 0 i x.0 ps x.1)) in
      let given = handed (make (i, x.0)) in_there in
      (make (i, x.0), is_datagram (make (i, x.0)) in_there, refl, given.0, given.1, given.2)

  some : 0 < length (fragments_of (down_text (told r (number_after s m) shot)))
  some =
      let text = down_text (told r (number_after s m) shot) in
      let step : fragments_of text ≡ take 1200 text ∷ fragments_of (drop 1200 text) = fragments_of-step text (omega arith) in
      subst (λ (ps : List (List ℕ)). 0 < length ps) (sym step) (omega arith)

  shows : (view.kept.receiver.newest.number ≡ number_after s m) × (view.kept.receiver.newest.state ≡ shot)
  shows =
      all_come s.session id (number_after s m) c r shot h.ready seen down h.client h.calls view h.client_stands good h.come some each

  is_face : shot ≡ seen_face s c
  is_face = is_screen ∙ ap (λ (v : Version). seen_by v (face s.size s.log)) (sym h.ready.version)

  pub hops : Arrives s now c view
  hops =
      let is : IsScreenshot (seen_face s c) = seen_screen c.kept.version (seen_face s c) (seen_is c.kept.version (face s.size s.log)
      (faces s.size s.log h.ids.size)) in
      record {
        number = shows.0;
        screen = shows.1 ∙ is_face;
        terminal =
            λ rows cols lines log displays fits. (painted_leads rows cols lines log (shown_screen c) (seen_face s c) is
            displays fits.rows_fit fits.cols_fit).displays;
      }
