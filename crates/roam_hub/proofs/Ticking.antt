-- The model of a server of the code, after a tick.
use Rattle.std.proofs.Common.{◌≡◌, ◌⊎◌, ℕ, suc, ◌+◌, ◌-◌, ◌≤◌, max, List, [], ◌∷◌, ◌++◌, length, map, take, Some, None, Bool, true, false, inl, inr, refl, sym, ap, ◌∙◌, subst, cond, arith, Vec, length-append}
use Rattle.std.specs.Prelude.{Result, Ok, Err, IfOk, IfErr, OnOk, OnErr, nat_eq, nat_lt, slice_index, ◌&&◌, ◌||◌}
use Rattle.std.specs.List.{flat_map, list_any}
use Rattle.std.specs.Map.{keys_of, lookup}
use Rattle.std.specs.declared.alloc.Global.{Global}
use Rattle.std.proofs.lemmas.Bool.Decides.{nat_tests}
use Rattle.std.proofs.lemmas.List.{map-append}
use Rattle.roam_cells.specs.declared.faults.Fault.{Fault}
use Rattle.roam_cells.specs.declared.faults.Fault.TheVariants.{OutOfMemory, Spent}
use Rattle.roam_screens.specs.Screenshot.{Screenshot, IsScreenshot}
use Rattle.roam_sync.specs.Senders.{Sending, sent_at}
use Rattle.roam_wire.specs.declared.datagrams.Kind.TheVariants.{ToClient}
use Rattle.roam_wire.specs.Cutting.{fragments_of}
use Rattle.roam_wire.specs.Datagrams.{DatagramValue, datagram_text}
use Rattle.roam_wire.specs.Instructions.{down_text}
use Rattle.roam_session.specs.Faces.{face}
use Rattle.roam_session.specs.Stands.{keeping}
use Rattle.roam_model.specs.Moments.{has_passed, is_spent}
use Rattle.roam_wire.specs.declared.versions.Version.{Version}
use Rattle.roam_wire.specs.declared.versions.Version.TheVariants.{Two}
use Rattle.roam_model.specs.Versions.{seen_by}
use Rattle.roam_model.proofs.Keeps.{or_left}
use Rattle.roam_model.specs.Numbers.{cut_of, screen, first_screen}
use Rattle.roam_model.specs.Texts.{Address, datagrams_of}
use Rattle.roam_model.specs.Servers.{Record, no_record, Server, moment}
use Rattle.roam_model.specs.Ticks.{makes, cuts_after, number_after, screen_after, screen_to, holds_after, sends, down_from, down_to, fragments_to, after_sent, ticked_record, datagrams_to, is_record_spent, Parcel, parcel, parcels_to, sent_by, after_tick}
use Rattle.roam_cells.specs.declared.addresses.Addr.{Addr}
use Rattle.roam_hub.specs.Servers.{RecordView, ServerView, kept_of, IsKept, AreKept, Stands, parcels_of, parcel_text, is_touched, is_server_due, is_ack_spent, is_number_spent, Ticks, spent, ticked as did_tick, no_memory}
use Rattle.roam_hub.specs.Records.{bare, is_sent_to, fragments_sent, settled_with, held_record, texts_for, is_entry_spent, settled_entry, makes_at, sent_by_tick, ticked_by, is_any_spent}
use Rattle.roam_hub.specs.Waits.{is_entry_due}
use Rattle.roam_hub.proofs.Waiting.{due_is, makes_is}

-- ---- one record

holds_is : (r : Record) (n : ℕ) (s : Screenshot) (now : ℕ) → r.known ≡ true → holds_after (bare (kept_of r)) n s now ≡ holds_after r n s now
unfolding holds_after
holds_is r n s now known = ap (λ b. holds_after (record (bare (kept_of r)) { known = b }) n s now) (sym known)

sends_is : (r : Record) (n : ℕ) (s : Screenshot) (now : ℕ) → r.known ≡ true
    → is_sent_to (held_record (kept_of r) n s now) now ≡ sends r n (seen_by r.version s) now
unfolding sends
sends_is r n s now known =
    (λ i. (sym known i && nat_lt now (r.heard_at + 60000))
    && (Rattle.roam_sync.specs.Senders.is_due (holds_is r n (seen_by r.version s) now known i) now || Rattle.roam_model.specs.Moments.is_overdue r.owed now))

-- its datagrams
map_parcel : (to : Address) (ds : List DatagramValue) → map (λ d. (to, datagram_text d)) ds ≡ map parcel_text (map (parcel to) ds)
map_parcel to [] = refl
map_parcel to (d ∷ ds) = ap (λ (xs : List (Address × List ℕ)). (to, datagram_text d) ∷ xs) (map_parcel to ds)

texts_are : (session id : ℕ) (r : Record) (n : ℕ) (s : Screenshot) (now : ℕ) → r.known ≡ true
    → texts_for session n s now (id, kept_of r)
    ≡ map parcel_text (map (parcel r.address) (datagrams_to session id r n (seen_by r.version s) now))
texts_are session id r n s now known =
    (λ i. cond (sends_is r n s now known i) (map (λ d. (r.address, datagram_text d)) (datagrams_of r.version ToClient session id r.datagrams
    (length r.instructions + 1) (fragments_of (down_text (down_from r.version (holds_is r n (seen_by r.version s) now known i) r.taken))))) [])
    ∙ go (sends r n (seen_by r.version s) now)
  where
    ds : List DatagramValue
    ds =
        datagrams_of r.version ToClient session id r.datagrams (length r.instructions + 1) (fragments_to r n (seen_by r.version s) now)

    go : (b : Bool) → cond b (map (λ d. (r.address, datagram_text d)) ds) [] ≡ map parcel_text (map (parcel r.address) (cond b ds []))
    go true = map_parcel r.address ds
    go false = refl

-- whether its numbers are spent
spent_is : (id : ℕ) (r : Record) (n : ℕ) (s : Screenshot) (now : ℕ) → r.known ≡ true
    → is_entry_spent n s now (id, kept_of r)
    ≡ (is_record_spent r n (seen_by r.version s) now || (sends r n (seen_by r.version s) now && is_spent r.taken))
spent_is id r n s now known =
    (λ i. sends_is r n s now known i && (is_spent (length r.instructions + 1)
    || is_spent (r.datagrams + length (fragments_of (down_text (down_from r.version (holds_is r n (seen_by r.version s) now known i) r.taken))))
    || is_spent r.taken))
    ∙ split (sends r n (seen_by r.version s) now)
    (is_spent (length r.instructions + 1) || is_spent (r.datagrams + length (fragments_to r n (seen_by r.version s) now)))
    (is_spent r.taken)
  where
    split : (a b c : Bool) → (a && (b || c)) ≡ ((a && b) || (a && c))
    split false b c = refl
    split true b c = refl

-- its kept part
kept_ticked : (r : Record) (n : ℕ) (s : Screenshot) (now : ℕ) → r.known ≡ true
    → IsKept (settled_with (held_record (kept_of r) n s now) (fragments_sent (held_record (kept_of r) n s now) now) now)
    (ticked_record r n (seen_by r.version s) now)
kept_ticked r n s now known =
    subst (λ (v : RecordView). IsKept v (ticked_record r n seen now)) (sym same) (go (sends r n seen now))
  where
    seen : Screenshot
    seen = seen_by r.version s

    same : settled_with (held_record (kept_of r) n s now) (fragments_sent (held_record (kept_of r) n s now) now) now
        ≡ settled_with (record (kept_of r) { sender = holds_after r n seen now })
        (cond (sends r n seen now) (Some (length (fragments_to r n seen now))) None) now
    same =
        λ i. settled_with (record (kept_of r) { sender = holds_is r n seen now known i })
        (cond (sends_is r n s now known i) (Some (length (fragments_of (down_text (down_from r.version
        (holds_is r n seen now known i) r.taken))))) None) now

    go : (b : Bool) → IsKept (settled_with (record (kept_of r) { sender = holds_after r n seen now })
        (cond b (Some (length (fragments_to r n seen now))) None) now)
        (cond b (after_sent r n seen now) (record r { sender = holds_after r n seen now }))
    go true =
        record {
          known = known;
          kept =
              (λ i. record (kept_of r) {
                sender = sent_at (holds_after r n seen now) now;
                owed = None;
                datagrams = r.datagrams + length (fragments_to r n seen now);
                instructions = sym (length-append r.instructions (down_to r n seen now ∷ [])) i;
              });
        }
    go false = record { known = known; kept = refl }

-- a record that isn't there is none
none_ticked : (n : ℕ) (s : Screenshot) (now : ℕ) → ticked_record no_record n s now ≡ no_record
unfolding no_record sends holds_after
none_ticked n s now = refl

-- ---- all records

keys_settled : (n : ℕ) (s : Screenshot) (now : ℕ) (es : List (ℕ × RecordView)) → keys_of (map (settled_entry n s now) es) ≡ keys_of es
keys_settled n s now [] = refl
keys_settled n s now (e ∷ es) = ap (λ (ks : List ℕ). e.0 ∷ ks) (keys_settled n s now es)

none_settled : (n : ℕ) (s : Screenshot) (now j : ℕ) (es : List (ℕ × RecordView))
    → lookup (nat_eq j) (map (settled_entry n s now) es) ≡ None → lookup (nat_eq j) es ≡ None
none_settled n s now j [] none = refl
none_settled n s now j (e ∷ es) none = go (nat_eq j e.0) none (none_settled n s now j es)
  where
    go : (b : Bool) → cond b (Some (settled_entry n s now e).1) (lookup (nat_eq j) (map (settled_entry n s now) es)) ≡ None
        → (lookup (nat_eq j) (map (settled_entry n s now) es) ≡ None → lookup (nat_eq j) es ≡ None)
        → cond b (Some e.1) (lookup (nat_eq j) es) ≡ None
    go true m next = absurd (cc)
    go false m next = next m

kept_settled : (n : ℕ) (s : Screenshot) (now : ℕ) (es : List (ℕ × RecordView)) (records : ℕ → Record) → AreKept es records
    → AreKept (map (settled_entry n s now) es) (λ id. ticked_record (records id) n (seen_by (records id).version s) now)
kept_settled n s now [] records k = tt
kept_settled n s now (e ∷ es) records k = (
  subst (λ (v : RecordView). IsKept (settled_with (held_record v n s now) (fragments_sent (held_record v n s now) now) now)
      (ticked_record (records e.0) n (seen_by (records e.0).version s) now))
      (sym k.0.kept) (kept_ticked (records e.0) n s now k.0.known),
  kept_settled n s now es records k.1,
)

-- the parcels to a client instance
abbrev parcels_for : ℕ → ℕ → Screenshot → ℕ → (ℕ → Record) → ℕ → List Parcel
parcels_for session n s now records id =
    map (parcel (records id).address) (datagrams_to session id (records id) n (seen_by (records id).version s) now)

all_texts : (session n : ℕ) (s : Screenshot) (now : ℕ) (es : List (ℕ × RecordView)) (records : ℕ → Record) → AreKept es records
    → flat_map (texts_for session n s now) es ≡ map parcel_text (flat_map (parcels_for session n s now records) (keys_of es))
all_texts session n s now [] records k = refl
all_texts session n s now (e ∷ es) records k =
    (λ i. first i ++ all_texts session n s now es records k.1 i)
    ∙ sym (map-append parcel_text (parcels_for session n s now records e.0)
    (flat_map (parcels_for session n s now records) (keys_of es)))
  where
    first : texts_for session n s now e ≡ map parcel_text (parcels_for session n s now records e.0)
    first =
        ap (λ (v : RecordView). texts_for session n s now (e.0, v)) k.0.kept ∙ texts_are session e.0 (records e.0) n s now k.0.known

four : (a b c d : Bool) → ((a || b) || (c || d)) ≡ ((a || c) || (b || d))
four true b c d = refl
four false true true d = refl
four false true false d = refl
four false false c d = refl

all_spent : (n : ℕ) (s : Screenshot) (now : ℕ) (es : List (ℕ × RecordView)) (records : ℕ → Record) → AreKept es records
    → list_any (is_entry_spent n s now) es
    ≡ (list_any (λ id. is_record_spent (records id) n (seen_by (records id).version s) now) (keys_of es)
    || list_any (λ id. sends (records id) n (seen_by (records id).version s) now && is_spent (records id).taken) (keys_of es))
all_spent n s now [] records k = refl
all_spent n s now (e ∷ es) records k =
    (λ i. first i || all_spent n s now es records k.1 i)
    ∙ four (is_record_spent (records e.0) n (seen_by (records e.0).version s) now)
    (sends (records e.0) n (seen_by (records e.0).version s) now && is_spent (records e.0).taken)
    (list_any (λ id. is_record_spent (records id) n (seen_by (records id).version s) now) (keys_of es))
    (list_any (λ id. sends (records id) n (seen_by (records id).version s) now && is_spent (records id).taken) (keys_of es))
  where
    first : is_entry_spent n s now e ≡ (is_record_spent (records e.0) n (seen_by (records e.0).version s) now
        || (sends (records e.0) n (seen_by (records e.0).version s) now && is_spent (records e.0).taken))
    first = ap (λ (v : RecordView). is_entry_spent n s now (e.0, v)) k.0.kept ∙ spent_is e.0 (records e.0) n s now k.0.known

-- ---- the newest number and its screen

cut_last : (cuts : List ℕ) (c : ℕ) → slice_index (cuts ++ c ∷ []) (length cuts) ≡ c
cut_last [] c = refl
cut_last (x ∷ cuts) c = cut_last cuts c

take_all : {X : Type 0} (xs : List X) → take (length xs) xs ≡ xs
take_all [] = refl
take_all (x ∷ xs) = ap (λ ys. x ∷ ys) (take_all xs)

pub cut_made : (s : Server) → cut_of (s.cuts ++ length s.log ∷ []) (length (s.cuts ++ length s.log ∷ [])) ≡ length s.log
cut_made s =
    ap (λ (n : ℕ). slice_index (s.cuts ++ length s.log ∷ []) (n - 1)) (length-append s.cuts (length s.log ∷ []))
    ∙ (let z : length s.cuts + 1 - 1 ≡ length s.cuts = omega arith in
    ap (λ (n : ℕ). slice_index (s.cuts ++ length s.log ∷ []) n) z)
    ∙ cut_last s.cuts (length s.log)

screen_made : (s : Server) → screen Two s.size s.log (s.cuts ++ length s.log ∷ []) (length (s.cuts ++ length s.log ∷ []))
    ≡ face s.size s.log
screen_made s =
    ap (λ (n : ℕ). cond (nat_eq n 0) first_screen (face s.size (take (cut_of (s.cuts ++ length s.log ∷ [])
    (length (s.cuts ++ length s.log ∷ []))) s.log)))
    (length-append s.cuts (length s.log ∷ []) ∙ (let z : length s.cuts + 1 ≡ suc (length s.cuts) = omega arith in z))
    ∙ ap (λ b. cond b first_screen (face s.size (take (cut_of (s.cuts ++ length s.log ∷ []) (length (s.cuts ++ length s.log ∷ []))) s.log)))
    (let z : nat_eq (suc (length s.cuts)) 0 ≡ false = grind (arith, nat_tests) in z)
    ∙ ap (λ (c : ℕ). face s.size (take c s.log)) (cut_made s) ∙ ap (face s.size) (take_all s.log)

-- ---- the whole

module _ (v : ServerView) (s : Server) (n : ℕ) (sc : Screenshot) (m : ℕ) (st : Stands v s) (e : n ≡ number_after s m)
    (f : sc ≡ screen_after s Two m) (some : nat_eq (number_after s m) 0 ≡ false) where
  -- the screen as a version is shown it
  seen_at : (w : Version) → seen_by w sc ≡ screen_after s w m
  seen_at w =
      ap (seen_by w) f
      ∙ ap (λ b. seen_by w (cond b first_screen (face s.size (take (cut_of (cuts_after s m) (number_after s m)) s.log)))) some
      ∙ sym (ap (λ b. cond b first_screen (seen_by w (face s.size (take (cut_of (cuts_after s m) (number_after s m)) s.log)))) some)

  parcels_are : sent_by_tick v n sc m ≡ map parcel_text (sent_by s m)
  parcels_are =
      (λ i. flat_map (texts_for (st.session i) (e i) sc m) v.records)
      ∙ all_texts s.session (number_after s m) sc m v.records s.records st.records
      ∙ (λ i. map parcel_text (flat_map (λ id. map (parcel (s.records id).address) (datagrams_to s.session id (s.records id)
      (number_after s m) (seen_at (s.records id).version i) m)) (keys_of v.records)))
      ∙ ap (λ (ks : List ℕ). map parcel_text (flat_map (parcels_to s m) ks)) st.arrival

  spent_are : is_any_spent v n sc m
      ≡ (list_any (λ id. is_record_spent (s.records id) (number_after s m) (screen_to s m id) m) s.arrival
      || list_any (is_ack_spent s m) s.arrival)
  spent_are =
      (λ i. list_any (is_entry_spent (e i) sc m) v.records)
      ∙ all_spent (number_after s m) sc m v.records s.records st.records
      ∙ (λ i. list_any (λ id. is_record_spent (s.records id) (number_after s m) (seen_at (s.records id).version i) m) (keys_of v.records)
      || list_any (λ id. sends (s.records id) (number_after s m) (seen_at (s.records id).version i) m && is_spent (s.records id).taken)
      (keys_of v.records))
      ∙ ap (λ (ks : List ℕ). list_any (λ id. is_record_spent (s.records id) (number_after s m) (screen_to s m id) m) ks
      || list_any (is_ack_spent s m) ks) st.arrival

  kept_are : AreKept (map (settled_entry n sc m) v.records) (after_tick s m).records
  kept_are =
      subst (λ (k : ℕ). AreKept (map (settled_entry k sc m) v.records) (after_tick s m).records) (sym e)
      (subst (λ (g : ℕ → Record). AreKept (map (settled_entry (number_after s m) sc m) v.records) g)
      (λ i id. ticked_record (s.records id) (number_after s m) (seen_at (s.records id).version i) m)
      (kept_settled (number_after s m) sc m v.records s.records st.records))

  none_are : (j : ℕ) → lookup (nat_eq j) (map (settled_entry n sc m) v.records) ≡ None → (after_tick s m).records j ≡ no_record
  none_are j none =
      ap (λ (r : Record). ticked_record r (number_after s m) (screen_to s m j) m) (st.others j (none_settled n sc m j v.records none))
      ∙ none_ticked (number_after s m) (screen_to s m j) m

  -- no number was made
  stands_told : makes s m ≡ false → n ≡ v.made → sc ≡ v.screen → Stands (record (ticked_by v n sc m) { clock = m }) (after_tick s m)
  stands_told unmade same_n same_s =
      record {
        session = st.session;
        log = st.log;
        made = st.made ∙ sym (ap (λ (cs : List ℕ). length cs) cuts);
        cut = subst (λ (cs : List ℕ). cut_of cs (length cs) ≤ length s.log) (sym cuts) st.cut;
        screen = st.screen ∙ sym (ap (λ (cs : List ℕ). screen Two s.size s.log cs (length cs)) cuts);
        made_at = st.made_at ∙ sym (ap (λ b. cond b m s.made_at) unmade);
        input = st.input ∙ sym (ap (λ b. cond b false s.input) unmade);
        clock = refl;
        arrival = keys_settled n sc m v.records ∙ st.arrival;
        records = kept_are;
        others = none_are;
      }
    where
      cuts : cuts_after s m ≡ s.cuts
      cuts = ap (λ b. cond b (s.cuts ++ length s.log ∷ []) s.cuts) unmade

  -- the number was made
  stands_made : makes s m ≡ true
      → Stands (record (ticked_by v n sc m) { state = keeping sc v.state; made = n; screen = sc; made_at = m; input = false; clock = m })
      (after_tick s m)
  stands_made made_now =
      record {
        session = st.session;
        log = record { plan = st.log.plan; panes = st.log.panes; generations = st.log.generations };
        made = e;
        cut =
            subst (λ (cs : List ℕ). cut_of cs (length cs) ≤ length s.log) (sym cuts)
            (let z = cut_made s in omega (arith, z));
        screen = f;
        made_at = sym (ap (λ b. cond b m s.made_at) made_now);
        input = sym (ap (λ b. cond b false s.input) made_now);
        clock = refl;
        arrival = keys_settled n sc m v.records ∙ st.arrival;
        records = kept_are;
        others = none_are;
      }
    where
      cuts : cuts_after s m ≡ s.cuts ++ length s.log ∷ []
      cuts = ap (λ b. cond b (s.cuts ++ length s.log ∷ []) s.cuts) made_now

-- ---- the answers

or_move : (a b c : Bool) → ((a || b) || c) ≡ (a || (b || c))
or_move true b c = refl
or_move false b c = refl

-- at the moment that the server goes by
ticks_at : (s : Server) (now m : ℕ) (all : Vec (Addr × Vec ℕ Global) Global) (new : ServerView) → m ≡ moment s now
    → is_number_spent s m ≡ false → parcels_of all.items ≡ map parcel_text (sent_by s m)
    → Stands new (after_tick s m) → Ticks s now (Ok all) new
ticks_at s now m all new at free texts st =
    did_tick all (subst (λ (k : ℕ). is_number_spent s k ≡ false) at free) refl
    (texts ∙ ap (λ (k : ℕ). map parcel_text (sent_by s k)) at) (subst (λ (k : ℕ). Stands new (after_tick s k)) at st)

spent_at : (s : Server) (now m : ℕ) (fault : Fault) (new : ServerView) → m ≡ moment s now → is_number_spent s m ≡ true → fault ≡ Spent
    → Stands new s → Ticks s now (Err fault) new
spent_at s now m fault new at full why st = spent (subst (λ (k : ℕ). is_number_spent s k ≡ true) at full) (ap (λ x. Err x) why) st

wants_at : (s : Server) (now m : ℕ) (fault : Fault) (new : ServerView) → m ≡ moment s now → is_server_due s m ≡ true
    → (makes s m && is_spent (number_after s m)) ≡ false → fault ≡ OutOfMemory → Stands new s → Ticks s now (Err fault) new
wants_at s now m fault new at due free why st =
    no_memory (subst (λ (k : ℕ). is_server_due s k ≡ true) at due)
    (subst (λ (k : ℕ). (makes s k && is_spent (number_after s k)) ≡ false) at free) (ap (λ x. Err x) why) st

module _ (v : ServerView) (s : Server) (now m : ℕ) (st : Stands v s) (at : m ≡ max now v.clock) where
  at_moment : m ≡ moment s now
  at_moment = at ∙ ap (λ (c : ℕ). max now c) st.clock

  -- the case that no number is made
  module _ (unmade : makes_at v m ≡ false) where
    none_made : makes s m ≡ false
    none_made = sym (makes_is v s m st) ∙ unmade

    number_told : v.made ≡ number_after s m
    number_told = st.made ∙ sym (ap (λ b. length (cond b (s.cuts ++ length s.log ∷ []) s.cuts)) none_made)

    some_told : nat_eq (number_after s m) 0 ≡ false
    some_told =
        ap (λ b. nat_eq (length (cond b (s.cuts ++ length s.log ∷ []) s.cuts)) 0) none_made
        ∙ or_left (nat_eq (length s.cuts) 0) (s.input && has_passed 20 s.made_at m) none_made

    screen_told : v.screen ≡ screen_after s Two m
    screen_told =
        st.screen
        ∙ sym (ap (λ b. screen Two s.size s.log (cond b (s.cuts ++ length s.log ∷ []) s.cuts)
        (length (cond b (s.cuts ++ length s.log ∷ []) s.cuts))) none_made)

    spent_told : is_number_spent s m ≡ is_any_spent v v.made v.screen m
    spent_told =
        ap (λ b. (b && is_spent (number_after s m)
        || list_any (λ id. is_record_spent (s.records id) (number_after s m) (screen_to s m id) m) s.arrival)
        || list_any (is_ack_spent s m) s.arrival) none_made
        ∙ sym (spent_are v s v.made v.screen m st number_told screen_told some_told)

    due_told : list_any (is_entry_due v.made m) v.records ≡ true → is_server_due s m ≡ true
    due_told due =
        due_is v s m st ∙ ap (λ b. b || list_any (is_entry_due v.made m) v.records) unmade ∙ due

    pub ticks_sent : (r : Result (Vec (Addr × Vec ℕ Global) Global) Fault) (new : ServerView)
        → IfOk r (λ all. parcels_of all.items ≡ sent_by_tick v v.made v.screen m)
        → OnOk r (new ≡ record (ticked_by v v.made v.screen m) { clock = m })
        → OnOk r (is_any_spent v v.made v.screen m ≡ false)
        → IfErr r (λ fault. (fault ≡ OutOfMemory) ⊎ ((fault ≡ Spent) × (is_any_spent v v.made v.screen m ≡ true)))
        → OnErr r (list_any (is_entry_due v.made m) v.records ≡ true)
        → OnErr r (new ≡ v) → Ticks s now r new
    ticks_sent (Ok all) new texts is free fault memory err =
        ticks_at s now m all new at_moment (spent_told ∙ free)
        (texts ∙ parcels_are v s v.made v.screen m st number_told screen_told some_told)
        (subst (λ (x : ServerView). Stands x (after_tick s m)) (sym is)
        (stands_told v s v.made v.screen m st number_told screen_told some_told none_made refl refl))
    ticks_sent (Err why) new texts is free fault memory err =
        elim fault [
          | inl none ↦
              wants_at s now m why new at_moment (due_told memory) (ap (λ b. b && is_spent (number_after s m)) none_made) none
              (subst (λ (x : ServerView). Stands x s) (sym err) st)
          | inr full ↦
              spent_at s now m why new at_moment (spent_told ∙ full.1) full.0 (subst (λ (x : ServerView). Stands x s) (sym err) st)
        ]

  -- the case that a number is made
  module _ (made_now : makes_at v m ≡ true) where
    is_made : makes s m ≡ true
    is_made = sym (makes_is v s m st) ∙ made_now

    number_made : v.made + 1 ≡ number_after s m
    number_made =
        ap (λ (k : ℕ). k + 1) st.made ∙ sym (length-append s.cuts (length s.log ∷ []))
        ∙ sym (ap (λ b. length (cond b (s.cuts ++ length s.log ∷ []) s.cuts)) is_made)

    some_made : nat_eq (number_after s m) 0 ≡ false
    some_made =
        ap (λ b. nat_eq (length (cond b (s.cuts ++ length s.log ∷ []) s.cuts)) 0) is_made
        ∙ ap (λ k. nat_eq k 0) (length-append s.cuts (length s.log ∷ []))
        ∙ (let z : nat_eq (length s.cuts + 1) 0 ≡ false = grind (arith, nat_tests) in z)

    face_made : face s.size s.log ≡ screen_after s Two m
    face_made =
        sym (screen_made s)
        ∙ sym (ap (λ b. screen Two s.size s.log (cond b (s.cuts ++ length s.log ∷ []) s.cuts)
        (length (cond b (s.cuts ++ length s.log ∷ []) s.cuts))) is_made)

    spent_made : is_number_spent s m ≡ (is_spent (v.made + 1) || is_any_spent v (v.made + 1) (face s.size s.log) m)
    spent_made =
        ap (λ b. (b && is_spent (number_after s m)
        || list_any (λ id. is_record_spent (s.records id) (number_after s m) (screen_to s m id) m) s.arrival)
        || list_any (is_ack_spent s m) s.arrival) is_made
        ∙ or_move (is_spent (number_after s m))
        (list_any (λ id. is_record_spent (s.records id) (number_after s m) (screen_to s m id) m) s.arrival)
        (list_any (is_ack_spent s m) s.arrival)
        ∙ sym (λ i. is_spent (number_made i)
        || spent_are v s (v.made + 1) (face s.size s.log) m st number_made face_made some_made i)

    pub ticks_made : (r : Result (Vec (Addr × Vec ℕ Global) Global) Fault) (new : ServerView)
        → IfOk r (λ all. (parcels_of all.items ≡ sent_by_tick v (v.made + 1) (face s.size s.log) m)
        × (new ≡ record (ticked_by v (v.made + 1) (face s.size s.log) m) {
          state = keeping (face s.size s.log) v.state;
          made = v.made + 1;
          screen = face s.size s.log;
          made_at = m;
          input = false;
          clock = m;
        }) × IsScreenshot (face s.size s.log) × (is_any_spent v (v.made + 1) (face s.size s.log) m ≡ false)
        × (is_spent (v.made + 1) ≡ false))
        → IfErr r (λ fault. (fault ≡ OutOfMemory) ⊎ ((fault ≡ Spent) × ((is_spent (v.made + 1)
        || is_any_spent v (v.made + 1) (face s.size s.log) m) ≡ true)))
        → (r ≡ Err OutOfMemory → is_spent (v.made + 1) ≡ false)
        → OnErr r (new ≡ v) → Ticks s now r new
    ticks_made (Ok all) new ok fault memory err =
        ticks_at s now m all new at_moment
        (spent_made ∙ (λ i. ok.4 i || ok.3 i))
        (ok.0 ∙ parcels_are v s (v.made + 1) (face s.size s.log) m st number_made face_made some_made)
        (subst (λ (x : ServerView). Stands x (after_tick s m)) (sym ok.1)
        (stands_made v s (v.made + 1) (face s.size s.log) m st number_made face_made some_made is_made))
    ticks_made (Err why) new ok fault memory err =
        elim fault [
          | inl none ↦
              wants_at s now m why new at_moment (ap (λ b. b || list_any (is_touched s m) s.arrival) is_made)
              (ap (λ b. b && is_spent (number_after s m)) is_made ∙ ap is_spent (sym number_made) ∙ memory (ap (λ x. Err x) none)) none
              (subst (λ (x : ServerView). Stands x s) (sym err) st)
          | inr full ↦
              spent_at s now m why new at_moment (spent_made ∙ full.1) full.0 (subst (λ (x : ServerView). Stands x s) (sym err) st)
        ]
