-- Ticks: their datagrams are added to all that was sent.
use Rattle.std.proofs.Common.{◌≡◌, ℕ, ◌+◌, ◌<◌, ◌^◌, List, [], ◌∷◌, ◌++◌, length, set, Some, None, Bool, true, false, refl, sym, ap, ◌∙◌, arith, length-append, append-nil, subst}
use Rattle.std.specs.Prelude.{Ok, Err, Vec, map, ◌&&◌, ◌||◌}
use Rattle.std.specs.List.{list_any}
use Rattle.std.specs.declared.alloc.Global.{Global}
use Rattle.std.proofs.lemmas.Bool.Decides.{nat_tests}
use Rattle.std.proofs.lemmas.List.{length-map, map-append}
use Rattle.roam_cells.specs.declared.faults.Fault.{Fault}
use Rattle.roam_cells.specs.declared.faults.Fault.TheVariants.{OutOfMemory, Spent}
use Rattle.roam_acts.specs.declared.acts.Act.{Act}
use Rattle.roam_wire.specs.Cutting.{texts_of}
use Rattle.roam_wire.specs.Datagrams.{DatagramValue, datagram_text}
use Rattle.roam_model.specs.Moments.{is_spent}
use Rattle.roam_model.specs.Numbers.{acts_of}
use Rattle.roam_model.specs.Texts.{Address}
use Rattle.roam_model.specs.Servers.{moment}
use Rattle.roam_model.specs.Ticks.{Parcel, sent_by, sends, number_after, screen_to, is_tick_spent}
use Rattle.roam_model.specs.Clients.{moment_of}
use Rattle.roam_model.specs.Sendings.{datagrams_from, after_quiet}
use Rattle.roam_model.specs.Worlds.{World, ServerTick, ClientTick, Sent, Refused, Failed, with_kept, after_server_tick, after_client_sent}
use Rattle.roam_model.specs.Steps.{spent, ticked, no_memory, empty_slot, quiet, sent}
use Rattle.roam_model.specs.Laws.{TakesActsInOrder}
use Rattle.roam_model.specs.Limits.{Limits}
use Rattle.roam_cells.specs.declared.addresses.Addr.{Addr}
use Rattle.roam_hub.specs.Clients.{ClientView, view_of, Sends, quiet as sends_quiet, spent as sends_spent, sent as sends_sent, no_memory as sends_no_memory}
use Rattle.roam_hub.specs.Servers.{ServerView, Ticks, spent as ticks_spent, ticked as ticks_ticked, no_memory as ticks_no_memory, is_ack_spent, is_number_spent, parcels_of, parcel_text}
use Rattle.roam_simulation.specs.declared.networks.Batch.TheVariants.{FromServer, FromClient}
use Rattle.roam_simulation.specs.Networks.{texts_in}
use Rattle.roam_simulation.specs.Worlds.{WorldView, start_in, Stands, Steps}
use Rattle.roam_simulation.proofs.Slots.{Sits, sits, vacant, starts_put, stands_kept, stands_serving}

-- ---- no number of acts is spent

and_false : (b : Bool) → (b && false) ≡ false
and_false true = refl
and_false false = refl

taken_low : (w : World) (id : ℕ) → TakesActsInOrder w → Limits w → (w.server.records id).taken < 2 ^ 62
taken_low w id t l =
    let few = l.typed id in
    let all = ap (λ (xs : List Act). length xs) (t.front id).1 ∙ length-append (acts_of id w.server.log) (t.front id).0 in
    let count = t.count id in omega (arith, few, all, count)

not_past : (n : ℕ) → n < 2 ^ 62 → is_spent n ≡ false
not_past n lt = grind (arith, nat_tests)

no_ack_spent : (w : World) (now : ℕ) (ids : List ℕ) → TakesActsInOrder w → Limits w → list_any (is_ack_spent w.server now) ids ≡ false
no_ack_spent w now [] t l = refl
no_ack_spent w now (id ∷ ids) t l =
    rw (
      ap (λ (b : Bool). sends (w.server.records id) (number_after w.server now) (screen_to w.server now id) now && b)
          (not_past (w.server.records id).taken (taken_low w id t l)),
      and_false (sends (w.server.records id) (number_after w.server now) (screen_to w.server now id) now),
    ) (no_ack_spent w now ids t l)

or_false : (a b : Bool) → b ≡ false → (a || b) ≡ a
or_false true b e = refl
or_false false b e = e

pub no_number_spent : (w : World) (now : ℕ) → TakesActsInOrder w → Limits w
    → is_number_spent w.server now ≡ is_tick_spent w.server now
no_number_spent w now t l =
    or_false (is_tick_spent w.server now) (list_any (is_ack_spent w.server now) w.server.arrival)
    (no_ack_spent w now w.server.arrival t l)

-- ---- the datagrams that were sent

-- the list of all that was sent can be another one that is the same
pub sent_same : (v : WorldView) (w : World) (texts : List (List ℕ)) → Stands v w → texts ≡ v.sent → Stands (record v { sent = texts }) w
sent_same v w texts st e = record { session = st.session; server = st.server; starts = st.starts; sent = e ∙ st.sent }

lengthened : (ds : List DatagramValue) (texts : List (List ℕ)) → texts ≡ map datagram_text ds → length texts ≡ length ds
lengthened ds texts e = ap (λ (xs : List (List ℕ)). length xs) e ∙ length-map ds datagram_text

counted : (w : World) (texts : List (List ℕ)) (first : ℕ) → texts ≡ map datagram_text w.sent → first ≡ length texts + 1
    → first ≡ length w.sent + 1
counted w texts first e is = is ∙ ap (λ n. n + 1) (lengthened w.sent texts e)

added : (w : World) (ds : List DatagramValue) (old new texts : List (List ℕ)) → old ≡ map datagram_text w.sent → new ≡ old ++ texts
    → texts ≡ map datagram_text ds → new ≡ map datagram_text (w.sent ++ ds)
added w ds old new texts e f g =
    f ∙ ap (λ (xs : List (List ℕ)). xs ++ texts) e ∙ ap (λ (xs : List (List ℕ)). map datagram_text w.sent ++ xs) g
    ∙ sym (map-append datagram_text w.sent ds)

-- ---- the server

texts_of_parcels : (xs : List (Addr × Vec ℕ Global)) (ps : List Parcel) → parcels_of xs ≡ map parcel_text ps
    → map (λ (p : Addr × Vec ℕ Global). p.1.items) xs ≡ map datagram_text (map (λ (p : Parcel). p.datagram) ps)
texts_of_parcels xs ps e =
    sym (left xs) ∙ ap (map (λ (q : Address × List ℕ). q.1)) e ∙ right ps
  where
    left : (ys : List (Addr × Vec ℕ Global))
        → map (λ (q : Address × List ℕ). q.1) (parcels_of ys) ≡ map (λ (p : Addr × Vec ℕ Global). p.1.items) ys
    left [] = refl
    left (y ∷ ys) = ap (λ (zs : List (List ℕ)). y.1.items ∷ zs) (left ys)

    right : (qs : List Parcel)
        → map (λ (q : Address × List ℕ). q.1) (map parcel_text qs) ≡ map datagram_text (map (λ (p : Parcel). p.datagram) qs)
    right [] = refl
    right (q ∷ qs) = ap (λ (zs : List (List ℕ)). datagram_text q.datagram ∷ zs) (right qs)

-- there is no room for the datagrams of a tick
pub no_room : (v : WorldView) (w : World) (now : ℕ) → Stands v w → Steps w (ServerTick now) (Failed OutOfMemory) v
no_room v w now st = record { left = w; step = no_memory refl refl; stands = st; memory = λ want. tt }

pub steps_not_ticked : (v : WorldView) (w : World) (now : ℕ) (fault : Fault) (server : ServerView) → Stands v w → TakesActsInOrder w
    → Limits w → Ticks w.server now (Err fault) server → Steps w (ServerTick now) (Failed fault) (record v { server = server })
steps_not_ticked v w now fault server st t l (ticks_spent s e stands) =
    record {
      left = w;
      step = spent (sym (no_number_spent w (moment w.server now) t l) ∙ s) (let f : fault ≡ Spent = cc in ap (λ x. Failed x) f) refl;
      stands = stands_serving v w server st stands;
      memory = λ want. tt;
    }
steps_not_ticked v w now fault server st t l (ticks_ticked all s e p stands) = absurd (cc)
steps_not_ticked v w now fault server st t l (ticks_no_memory due free e stands) =
    record {
      left = w;
      step = no_memory (let f : fault ≡ OutOfMemory = cc in ap (λ x. Failed x) f) refl;
      stands = stands_serving v w server st stands;
      memory = λ want. tt;
    }

pub steps_ticked : (v : WorldView) (w : World) (now : ℕ) (all : Vec (Addr × Vec ℕ Global) Global) (server : ServerView)
    (texts : List (List ℕ)) (first count : ℕ) → Stands v w → TakesActsInOrder w → Limits w → Ticks w.server now (Ok all) server
    → texts ≡ v.sent ++ texts_in (FromServer all) → first ≡ length v.sent + 1 → count ≡ length (texts_in (FromServer all))
    → Steps w (ServerTick now) (Sent first count) (record v { server = server; sent = texts })
steps_ticked v w now all server texts first count st t l (ticks_spent s e stands) more is many = absurd (cc)
steps_ticked v w now all server texts first count st t l (ticks_no_memory due free e stands) more is many = absurd (cc)
steps_ticked v w now all server texts first count st t l (ticks_ticked every s e p stands) more is many =
    record {
      left = after_server_tick w (moment w.server now);
      step =
          ticked (sym (no_number_spent w (moment w.server now) t l) ∙ s)
          ((λ i. Sent (counted w v.sent first st.sent is i) (size i))) refl;
      stands =
          record {
            session = st.session;
            server = stands;
            starts = st.starts;
            sent = added w (map (λ (q : Parcel). q.datagram) (sent_by w.server (moment w.server now))) v.sent texts
                (texts_in (FromServer all)) st.sent more told;
          };
      memory = λ want. tt;
    }
  where
    same : every ≡ all
    same = cc

    told : texts_in (FromServer all) ≡ map datagram_text (map (λ (q : Parcel). q.datagram) (sent_by w.server (moment w.server now)))
    told =
        texts_of_parcels all.items (sent_by w.server (moment w.server now))
        (sym (ap (λ (x : Vec (Addr × Vec ℕ Global) Global). parcels_of x.items) same) ∙ p)

    size : count ≡ length (sent_by w.server (moment w.server now))
    size =
        many ∙ lengthened (map (λ (q : Parcel). q.datagram) (sent_by w.server (moment w.server now))) (texts_in (FromServer all)) told
        ∙ length-map (sent_by w.server (moment w.server now)) (λ (q : Parcel). q.datagram)

-- ---- a client instance

pub steps_no_start : (v : WorldView) (w : World) (slot now : ℕ) → Stands v w → start_in v.slots slot ≡ None
    → Steps w (ClientTick slot now) Refused v
steps_no_start v w slot now st at =
    record { left = w; step = empty_slot (vacant v w slot st at) refl refl; stands = st; memory = λ want. absurd want }

pub steps_not_sent : (v : WorldView) (w : World) (slot now : ℕ) (fault : Fault) (c c' : ClientView) → Stands v w → slot < length v.slots
    → start_in v.slots slot ≡ Some c
    → Sends c now (Err fault) c'
    → Steps w (ClientTick slot now) (Failed fault) (record v { slots = set v.slots slot (Some c') })
steps_not_sent v w slot now fault c c' st lt at sends =
    go (subst (λ (x : ClientView). Sends x now (Err fault) c') s.stands sends)
  where
    s : Sits w slot c
    s = sits v w slot c st at

    go : Sends (view_of w.server.session s.id (w.clients s.id)) now (Err fault) c'
        → Steps w (ClientTick slot now) (Failed fault) (record v { slots = set v.slots slot (Some c') })
    go (sends_quiet none d e z stands) = absurd (cc)
    go (sends_spent d p e stands) =
        record {
          left = w;
          step = spent s.id s.at d p (let f : fault ≡ Spent = cc in ap (λ x. Failed x) f) refl;
          stands = stands_kept v w slot c c' st lt s stands;
          memory = λ want. (s.id, s.at);
        }
    go (sends_sent all d p e t stands) = absurd (cc)
    go (sends_no_memory due free e stands) =
        record {
          left = w;
          step = no_memory (let f : fault ≡ OutOfMemory = cc in ap (λ x. Failed x) f) refl;
          stands = stands_kept v w slot c c' st lt s stands;
          memory = λ want. (s.id, s.at);
        }

pub steps_sent : (v : WorldView) (w : World) (slot now : ℕ) (all : Vec (Vec ℕ Global) Global) (c c' : ClientView) (texts : List (List ℕ))
    (first count : ℕ) → Stands v w → slot < length v.slots → start_in v.slots slot ≡ Some c
    → Sends c now (Ok all) c'
    → texts ≡ v.sent ++ texts_in (FromClient all) → first ≡ length v.sent + 1 → count ≡ length (texts_in (FromClient all))
    → Steps w (ClientTick slot now) (Sent first count) (record v { slots = set v.slots slot (Some c'); sent = texts })
steps_sent v w slot now all c c' texts first count st lt at sends more is many =
    go (subst (λ (x : ClientView). Sends x now (Ok all) c') s.stands sends)
  where
    s : Sits w slot c
    s = sits v w slot c st at

    at_once : first ≡ length w.sent + 1
    at_once = counted w v.sent first st.sent is

    go : Sends (view_of w.server.session s.id (w.clients s.id)) now (Ok all) c'
        → Steps w (ClientTick slot now) (Sent first count) (record v { slots = set v.slots slot (Some c'); sent = texts })
    go (sends_quiet none d e z stands) =
        record {
          left = with_kept w s.id (after_quiet (w.clients s.id).kept (moment_of (w.clients s.id).kept now));
          step = quiet s.id s.at d (λ i. Sent (at_once i) (no_more i)) refl;
          stands =
              record {
                session = st.session;
                server = st.server;
                starts =
                    starts_put w.server.session v.slots v.used w.clients w.slots slot s.id c' _ st.starts lt s.at s.made stands;
                sent =
                    more ∙ ap (λ (xs : List (List ℕ)). v.sent ++ xs) none_sent ∙ append-nil v.sent ∙ st.sent;
              };
          memory = λ want. (s.id, s.at);
        }
      where
        none_sent : texts_in (FromClient all) ≡ []
        none_sent = let same : none ≡ all = cc in sym (ap (λ (x : Vec (Vec ℕ Global) Global). texts_of x.items) same) ∙ z

        no_more : count ≡ 0
        no_more = many ∙ ap (λ (xs : List (List ℕ)). length xs) none_sent
    go (sends_spent d p e stands) = absurd (cc)
    go (sends_sent every d p e t stands) =
        record {
          left = after_client_sent w s.id (moment_of (w.clients s.id).kept now);
          step = sent s.id s.at d p (λ i. Sent (at_once i) (size i)) refl;
          stands =
              record {
                session = st.session;
                server = st.server;
                starts =
                    starts_put w.server.session v.slots v.used w.clients w.slots slot s.id c' _ st.starts lt s.at s.made stands;
                sent =
                    added w (datagrams_from w.server.session s.id (w.clients s.id).kept) v.sent texts (texts_in (FromClient all)) st.sent
                    more told;
              };
          memory = λ want. (s.id, s.at);
        }
      where
        told : texts_in (FromClient all) ≡ map datagram_text (datagrams_from w.server.session s.id (w.clients s.id).kept)
        told = let same : every ≡ all = cc in sym (ap (λ (x : Vec (Vec ℕ Global) Global). texts_of x.items) same) ∙ t

        size : count ≡ length (datagrams_from w.server.session s.id (w.clients s.id).kept)
        size = many ∙ lengthened (datagrams_from w.server.session s.id (w.clients s.id).kept) (texts_in (FromClient all)) told
    go (sends_no_memory due free e stands) = absurd (cc)
