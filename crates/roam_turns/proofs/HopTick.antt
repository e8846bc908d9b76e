-- The datagrams of a tick that offers its number to an instance.
use Rattle.std.proofs.Common.{◌≡◌, ℕ, zero, suc, ◌+◌, ◌-◌, ◌<◌, ◌≤◌, ◌^◌, Bool, true, false, ◌&&◌, ◌||◌, not, cond, List, [], ◌∷◌, ◌++◌, length, map, get_or, take, Option, Some, None, Vec, refl, sym, ap, ◌∙◌, subst, inl, inr, arith}
use Rattle.std.specs.Prelude.{nat_eq, nat_lt, nat_le, slice_get, Result, Ok, Err}
use Rattle.std.specs.List.{list_any, enumerate_from}
use Rattle.std.specs.Map.{keys_of, lookup}
use Rattle.std.specs.declared.alloc.Global.{Global}
use Rattle.std.proofs.Math.Seq.{get_or-append_seam, take-length}
use Rattle.std.proofs.lemmas.Bool.Decides.{nat_tests}
use Rattle.std.proofs.lemmas.List.{length-append}
use Rattle.roam_cells.specs.declared.faults.Fault.{Fault}
use Rattle.roam_cells.specs.declared.faults.Fault.TheVariants.{OutOfMemory, Spent}
use Rattle.roam_cells.specs.declared.faults.Reason.{Reason}
use Rattle.roam_screens.specs.Screenshot.{Screenshot}
use Rattle.roam_sync.specs.declared.senders.Held.{Held}
use Rattle.roam_sync.specs.Senders.{Sending, newest, offered, is_due}
use Rattle.roam_sync.proofs.Sending.{newest_of_more}
use Rattle.roam_wire.specs.Cutting.{fragments_of}
use Rattle.roam_wire.specs.Datagrams.{DatagramValue, IsDatagram, datagram_text}
use Rattle.roam_wire.specs.Headers.{header_at, checked_header, datagram_if}
use Rattle.roam_wire.specs.Instructions.{DownValue, IsDown, down_text}
use Rattle.roam_wire.specs.Versions.{most_bytes}
use Rattle.roam_wire.specs.declared.datagrams.Kind.{Kind}
use Rattle.roam_wire.specs.declared.datagrams.Kind.TheVariants.{ToClient}
use Rattle.roam_wire.specs.declared.versions.Version.{Version}
use Rattle.roam_wire.specs.declared.versions.Version.TheVariants.{One}
use Rattle.roam_wire.proofs.Cuts.{sendable_in}
use Rattle.roam_wire.proofs.Heads.{again}
use Rattle.roam_session.specs.Sessions.{SessionSize, Entry}
use Rattle.roam_session.specs.Faces.{face}
use Rattle.roam_model.specs.Versions.{seen_by, IsSeenBy, difference_by}
use Rattle.roam_model.specs.Lists.{IsIn}
use Rattle.roam_model.specs.Moments.{is_spent, is_overdue}
use Rattle.roam_model.specs.Numbers.{screen}
use Rattle.roam_model.specs.Texts.{Address, datagram_with, datagrams_of}
use Rattle.roam_model.specs.Servers.{Record, no_record, Server, moment}
use Rattle.roam_model.specs.Ticks.{makes, cuts_after, number_after, screen_to, is_live, is_offered, holds_after, sends, down_from, down_to, fragments_to, datagrams_to, is_record_spent, Parcel as WorldParcel, parcel, parcels_to, sent_by, is_tick_spent}
use Rattle.roam_model.proofs.Versions.{change_short}
use Rattle.roam_model.proofs.Members.{IsIn-map, IsIn-flat_map, IsIn-enumerate, slice_get-within}
use Rattle.roam_model.proofs.Places.{map_here, flat_here}
use Rattle.roam_model.proofs.Keeps.{not_past, or_left, or_right}
use Rattle.roam_model.proofs.ServerKeeps.{to_record}
use Rattle.roam_cells.specs.declared.addresses.Addr.{Addr}
use Rattle.roam_hub.specs.Servers.{RecordView, ServerView, Stands, address_of, parcel_text, is_ack_spent, is_number_spent, Ticks}
use Rattle.roam_hub.specs.Servers.Ticks.{spent, ticked, no_memory}
use Rattle.roam_turns.specs.Calls.{Parcel, parcels_in, parcels_of}

-- ---- lists

map_both : {A B C : Type 0} (f : A → B) (g : B → C) (xs : List A) → map g (map f xs) ≡ map (λ x. g (f x)) xs
map_both f g [] = refl
map_both f g (x ∷ xs) = ap (λ l. g (f x) ∷ l) (map_both f g xs)

none_of : (f : ℕ → Bool) (xs : List ℕ) (x : ℕ) → list_any f xs ≡ false → IsIn x xs → f x ≡ false
none_of f [] x e i = absurd i
none_of f (y ∷ xs) x e i =
    elim i [
      | inl same ↦ ap f (sym same) ∙ or_left (f y) (list_any f xs) e
      | inr rest ↦ none_of f xs x (or_right (f y) (list_any f xs) e) rest
    ]

get_at : (xs : List (List ℕ)) (i : ℕ) (x : List ℕ) → slice_get xs i ≡ Some x → get_or xs i [] ≡ x
get_at [] i x e = absurd (cc)
get_at (y ∷ xs) zero x e = cc
get_at (y ∷ xs) (suc i) x e = get_at xs i x e

both_true : (a b : Bool) → (a && b) ≡ true → (a ≡ true) × (b ≡ true)
both_true true true e = (refl, refl)
both_true true false e = absurd (let no : false ≡ true = e in cc)
both_true false b e = absurd (let no : false ≡ true = e in cc)

-- ---- a record that is known has arrived

key_there : (id : ℕ) (v : RecordView) (es : List (ℕ × RecordView)) → lookup (nat_eq id) es ≡ Some v → IsIn id (keys_of es)
key_there id v [] e = absurd (cc)
key_there id v (x ∷ es) e = go (nat_eq id x.0) refl e (λ more. key_there id v es more)
  where
    go : (b : Bool) → nat_eq id x.0 ≡ b → cond b (Some x.1) (lookup (nat_eq id) es) ≡ Some v
        → (lookup (nat_eq id) es ≡ Some v → IsIn id (keys_of es)) → IsIn id (keys_of (x ∷ es))
    go true same f rest = inl (grind (arith, nat_tests))
    go false same f rest = inr (rest f)

pub has_arrived : (v : ServerView) (s : Server) (id : ℕ) → Stands v s → (s.records id).known ≡ true → IsIn id s.arrival
unfolding no_record
has_arrived v s id st known = go (lookup (nat_eq id) v.records) refl
  where
    go : (o : Option RecordView) → lookup (nat_eq id) v.records ≡ o → IsIn id s.arrival
    go None e = absurd (let no : false ≡ true = sym (ap (λ (r : Record). r.known) (st.others id e)) ∙ known in cc)
    go (Some x) e = subst (λ (ids : List ℕ). IsIn id ids) st.arrival (key_there id x v.records e)

-- ---- the texts of a tick

abbrev told_well : List Parcel → Result (List Parcel) Fault
told_well parcels = Ok parcels

ok_is : (a b : List Parcel) → told_well a ≡ told_well b → a ≡ b
ok_is a b e = cc

-- the parcels are the texts of the datagrams
pub texts_sent : (s : Server) (now : ℕ) (result : Result (Vec (Addr × Vec ℕ Global) Global) Fault) (new : ServerView)
    (parcels : List Parcel) → parcels_of result ≡ Ok parcels → Ticks s now result new
    → (is_number_spent s (moment s now) ≡ false)
    × (map (λ (l : Parcel). l.1) parcels ≡ map (λ (p : WorldParcel). datagram_text p.datagram) (sent_by s (moment s now)))
texts_sent s now result new parcels e (spent a b st) = absurd (let no : Err Spent ≡ Ok parcels = sym (ap parcels_of b) ∙ e in cc)
texts_sent s now result new parcels e (no_memory due free b st) = absurd (let no : Err OutOfMemory ≡ Ok parcels = sym (ap parcels_of b) ∙ e in cc)
texts_sent s now result new parcels e (ticked all a b are st) =
    let is : parcels_in all.items ≡ parcels = ok_is (parcels_in all.items) parcels (sym (ap parcels_of b) ∙ e) in (
      a,
      ap (map (λ (l : Parcel). l.1)) (sym is)
          ∙ (map_both (λ (p : Addr × Vec ℕ Global). (p.0, p.1.items)) (λ (l : Parcel). l.1) all.items
          ∙ (sym (map_both (λ (p : Addr × Vec ℕ Global). (address_of p.0, p.1.items)) (λ (l : Address × List ℕ). l.1) all.items)
          ∙ (ap (map (λ (l : Address × List ℕ). l.1)) are
          ∙ map_both parcel_text (λ (l : Address × List ℕ). l.1) (sent_by s (moment s now))))),
    )

-- ---- the id of an instance is read as it was written

abbrev client_in : Result DatagramValue Reason → ℕ
client_in (Ok d) = d.client
client_in (Err reason) = 0

client_of : (bytes payload : List ℕ) (x : Result (Version × Kind) Reason) (d : DatagramValue)
    → datagram_if (header_at bytes) payload x ≡ Ok d → (header_at bytes).client ≡ d.client
client_of bytes payload (Ok p) d e = ap client_in e
client_of bytes payload (Err reason) d e = absurd (cc)

-- a datagram with one byte to an instance
abbrev smallest : ℕ → DatagramValue
smallest id =
    record { version = One; kind = ToClient; session = 0; client = id; number = 1; id = 1; index = 0; count = 1; payload = 0 ∷ [] }

smallest_is : (id : ℕ) → id < 2 ^ 64 → IsDatagram (smallest id)
smallest_is id lt =
    record {
      kind = λ e. absurd (cc);
      session = omega arith;
      client = lt;
      number = (omega arith, omega arith);
      id = (omega arith, omega arith);
      count = (omega arith, omega arith);
      index = omega arith;
      len = (omega arith, omega arith);
      whole = λ more. absurd (omega (arith, more));
    }

-- whatever else a datagram contains, its id is at the same place
tells_client : (d : DatagramValue) → d.client < 2 ^ 64 → (header_at (datagram_text d)).client ≡ d.client
tells_client d lt =
    let text = datagram_text (smallest d.client) in
    client_of text (0 ∷ []) (checked_header (header_at text) 1) (smallest d.client) (again (smallest d.client) (smallest_is d.client lt))

-- of a tick's datagrams, a text with an instance's id is that of a datagram to the instance
pub of_start : (s : Server) (m id : ℕ) (bytes : List ℕ) → ((j : ℕ) → IsIn j s.arrival → j < 2 ^ 64)
    → IsIn bytes (map (λ (p : WorldParcel). datagram_text p.datagram) (sent_by s m)) → (header_at bytes).client ≡ id
    → (d : DatagramValue) × IsIn d (datagrams_to s.session id (s.records id) (number_after s m) (screen_to s m id) m)
    × (datagram_text d ≡ bytes)
of_start s m id bytes ids i to =
    let a = IsIn-map (λ (p : WorldParcel). datagram_text p.datagram) bytes (sent_by s m) i in
    let f = IsIn-flat_map (parcels_to s m) a.0 s.arrival a.1 in
    let p = IsIn-map (parcel (s.records f.0).address) a.0
    (datagrams_to s.session f.0 (s.records f.0) (number_after s m) (screen_to s m f.0) m) f.2 in
    let text : datagram_text p.0 ≡ bytes = ap (λ (x : WorldParcel). datagram_text x.datagram) p.2 ∙ a.2 in
    let client : p.0.client ≡ f.0 =
    (to_record s.session f.0 (s.records f.0) (number_after s m) (screen_to s m f.0) m p.0 p.1).client_is in
    let at : f.0 ≡ id = sym client ∙ (sym (tells_client p.0 (subst (λ (k : ℕ). k < 2 ^ 64) (sym client) (ids f.0 f.1)))
    ∙ (ap (λ (b : List ℕ). (header_at b).client) text ∙ to)) in
    subst (λ (k : ℕ). (d : DatagramValue)
    × IsIn d (datagrams_to s.session k (s.records k) (number_after s m) (screen_to s m k) m) × (datagram_text d ≡ bytes))
    at (p.0, p.1, text)

-- and each datagram to the instance is sent
pub is_sent : (s : Server) (m id : ℕ) (d : DatagramValue) → IsIn id s.arrival
    → IsIn d (datagrams_to s.session id (s.records id) (number_after s m) (screen_to s m id) m)
    → IsIn (datagram_text d) (map (λ (p : WorldParcel). datagram_text p.datagram) (sent_by s m))
is_sent s m id d there i =
    map_here (λ (p : WorldParcel). datagram_text p.datagram) (parcel (s.records id).address d) (sent_by s m)
    (flat_here (parcels_to s m) id (parcel (s.records id).address d) s.arrival there
    (map_here (parcel (s.records id).address) d
    (datagrams_to s.session id (s.records id) (number_after s m) (screen_to s m id) m) i))

pub is_to : (d : DatagramValue) (id : ℕ) → d.client ≡ id → id < 2 ^ 64 → (header_at (datagram_text d)).client ≡ id
is_to d id client lt = tells_client d (subst (λ (k : ℕ). k < 2 ^ 64) (sym client) lt) ∙ client

-- ---- a record to which a number is offered

-- its instruction: the diff from its base to the number's screen
abbrev pub told : Record → ℕ → Screenshot → DownValue
told r n shot =
    record {
      old = r.sender.base.number;
      new = n;
      floor = r.sender.base.number;
      acked = r.taken;
      change = difference_by r.version r.sender.base.state shot;
    }

module _ (r : Record) (n : ℕ) (shot : Screenshot) (now : ℕ) (e : is_offered r n now ≡ true) where
  pub is_live_then : is_live r now ≡ true
  is_live_then =
      (both_true (is_live r now) (nat_lt (newest r.sender).number n)
      (both_true (is_live r now && nat_lt (newest r.sender).number n) _ e).0).0

  holds : holds_after r n shot now ≡ offered r.sender n shot
  unfolding holds_after
  holds = ap (λ (b : Bool). cond b (offered r.sender n shot) r.sender) e

  newest_then : newest (offered r.sender n shot) ≡ record { number = n; state = shot; sent = false }
  newest_then = newest_of_more r.sender.base r.sender.later (record { number = n; state = shot; sent = false })

  due : is_due (offered r.sender n shot) now ≡ true
  due =
      ap (λ (h : Held Screenshot). not h.sent || (nat_lt 0 (length (offered r.sender n shot).later)
      && nat_le 250 (now - (offered r.sender n shot).last)) || nat_le 3000 (now - (offered r.sender n shot).last)) newest_then

  pub sends_then : sends r n shot now ≡ true
  unfolding sends
  sends_then =
      ap (λ (s : Sending Screenshot). is_live r now && (is_due s now || is_overdue r.owed now)) holds
      ∙ (ap (λ (b : Bool). is_live r now && (b || is_overdue r.owed now)) due
      ∙ ap (λ (b : Bool). b && true) is_live_then)

  pub tells_then : down_to r n shot now ≡ told r n shot
  tells_then =
      ap (λ (s : Sending Screenshot). down_from r.version s r.taken) holds
      ∙ ap (λ (h : Held Screenshot). record {
        old = r.sender.base.number;
        new = h.number;
        floor = r.sender.base.number;
        acked = r.taken;
        change = difference_by r.version r.sender.base.state h.state;
      }) newest_then

  -- its datagrams are those of its instruction
  pub datagrams_then : (session id : ℕ) → datagrams_to session id r n shot now
      ≡ datagrams_of r.version ToClient session id r.datagrams (length r.instructions + 1) (fragments_of (down_text (told r n shot)))
  datagrams_then session id =
      ap (λ (b : Bool). cond b
      (datagrams_of r.version ToClient session id r.datagrams (length r.instructions + 1) (fragments_to r n shot now)) [])
      sends_then
      ∙ ap (λ (v : DownValue). datagrams_of r.version ToClient session id r.datagrams (length r.instructions + 1) (fragments_of (down_text v)))
      tells_then

-- ---- the datagrams of an instruction

-- one of them
pub record IsOf (version : Version) (session id number : ℕ) (fragments : List (List ℕ)) (d : DatagramValue) : Type 0 where
  pub version_is : d.version ≡ version
  pub kind_is : d.kind ≡ ToClient
  pub session_is : d.session ≡ session
  pub client_is : d.client ≡ id
  pub number_is : d.id ≡ number
  pub count_is : d.count ≡ length fragments
  pub there : slice_get fragments d.index ≡ Some d.payload

pub is_of : (version : Version) (session id before number : ℕ) (fragments : List (List ℕ)) (d : DatagramValue)
    → IsIn d (datagrams_of version ToClient session id before number fragments) → IsOf version session id number fragments d
is_of version session id before number fragments d i =
    let m = IsIn-map (datagram_with version ToClient session id before number (length fragments)) d (enumerate_from 0 fragments) i in
    let n = IsIn-enumerate 0 fragments m.0 m.1 in
    let at : m.0.0 ≡ n.0 = n.1 ∙ (let z : 0 + n.0 ≡ n.0 = omega arith in z) in
    subst (IsOf version session id number fragments) m.2 (record {
      version_is = refl;
      kind_is = refl;
      session_is = refl;
      client_is = refl;
      number_is = refl;
      count_is = refl;
      there = ap (slice_get fragments) at ∙ n.2;
    })

-- each has a text, if the numbers are within their limits
pub are_datagrams : (v : Version) (session id before number : ℕ) (text : List ℕ) (d : DatagramValue) → session < 2 ^ 64 → id < 2 ^ 64
    → 1 ≤ number → number < 2 ^ 62 → before + length (fragments_of text) < 2 ^ 62 → length text ≤ most_bytes v
    → IsIn d (datagrams_of v ToClient session id before number (fragments_of text)) → IsDatagram d
are_datagrams v session id before number text d s c low high numbers short i =
    let m = IsIn-map (datagram_with v ToClient session id before number (length (fragments_of text))) d
    (enumerate_from 0 (fragments_of text)) i in
    let n = IsIn-enumerate 0 (fragments_of text) m.0 m.1 in
    let at : m.0.0 ≡ n.0 = n.1 ∙ (let z : 0 + n.0 ≡ n.0 = omega arith in z) in
    let lt : n.0 < length (fragments_of text) = slice_get-within (fragments_of text) n.0 m.0.1 n.2 in
    let here : get_or (fragments_of text) n.0 [] ≡ m.0.1 = get_at (fragments_of text) n.0 m.0.1 n.2 in
    let can = sendable_in v text short in
    let len = can.lengths n.0 lt in
    subst IsDatagram m.2 (record {
      kind = λ z. absurd (cc);
      session = s;
      client = c;
      number = (omega (arith, at, lt), omega (arith, at, lt, numbers));
      id = (low, high);
      count = (omega (arith, lt), can.few);
      index = omega (arith, at, lt);
      len = (subst (λ (xs : List ℕ). 1 ≤ length xs) here len.low, subst (λ (xs : List ℕ). length xs ≤ 1200) here len.high);
      whole = λ more. subst (λ (xs : List ℕ). length xs ≡ 1200) here (len.whole (omega (arith, at, more)));
    })

-- ---- the numbers of a tick that isn't spent

module _ (s : Server) (m id : ℕ) (makes_it : makes s m ≡ true) (unspent : is_number_spent s m ≡ false) (there : IsIn id s.arrival)
    (e : is_offered (s.records id) (number_after s m) m ≡ true) where
  tick_unspent : is_tick_spent s m ≡ false
  tick_unspent = or_left (is_tick_spent s m) (list_any (is_ack_spent s m) s.arrival) unspent

  pub number_low : number_after s m < 2 ^ 62
  number_low =
      let made = or_left (makes s m && is_spent (number_after s m)) _ tick_unspent in
      not_past (number_after s m) (sym (ap (λ (b : Bool). b && is_spent (number_after s m)) makes_it) ∙ made)

  pub acked_low : (s.records id).taken < 2 ^ 62
  acked_low =
      let none = none_of (is_ack_spent s m) s.arrival id
      (or_right (is_tick_spent s m) (list_any (is_ack_spent s m) s.arrival) unspent) there in
      not_past (s.records id).taken
      (sym (ap (λ (b : Bool). b && is_spent (s.records id).taken)
      (sends_then (s.records id) (number_after s m) (screen_to s m id) m e)) ∙ none)

  record_unspent : (is_spent (length (s.records id).instructions + 1)
      || is_spent ((s.records id).datagrams + length (fragments_to (s.records id) (number_after s m) (screen_to s m id) m))) ≡ false
  record_unspent =
      let none = none_of (λ k. is_record_spent (s.records k) (number_after s m) (screen_to s m k) m) s.arrival id
      (or_right (makes s m && is_spent (number_after s m)) _ tick_unspent) there in
      sym (ap (λ (b : Bool). b && (is_spent (length (s.records id).instructions + 1)
      || is_spent ((s.records id).datagrams + length (fragments_to (s.records id) (number_after s m) (screen_to s m id) m))))
      (sends_then (s.records id) (number_after s m) (screen_to s m id) m e)) ∙ none

  pub instruction_low : length (s.records id).instructions + 1 < 2 ^ 62
  instruction_low = not_past _ (or_left (is_spent (length (s.records id).instructions + 1)) _ record_unspent)

  pub datagrams_low : (s.records id).datagrams
      + length (fragments_of (down_text (told (s.records id) (number_after s m) (screen_to s m id)))) < 2 ^ 62
  datagrams_low =
      subst (λ (v : DownValue). (s.records id).datagrams + length (fragments_of (down_text v)) < 2 ^ 62)
      (tells_then (s.records id) (number_after s m) (screen_to s m id) m e)
      (not_past _ (or_right (is_spent (length (s.records id).instructions + 1)) _ record_unspent))

  -- the instruction to the instance has a text
  pub told_down : (s.records id).sender.base.number ≤ number_after s m
      → IsDown (told (s.records id) (number_after s m) (screen_to s m id))
  told_down low = record { floor = omega arith; old = low; new = number_low; acked = acked_low }

-- ---- the screen of the number that is made

screen_last : (v : Version) (size : SessionSize) (log : List Entry) (cuts : List ℕ) (n : ℕ) → n ≡ length cuts + 1
    → screen v size log (cuts ++ length log ∷ []) n ≡ seen_by v (face size log)
screen_last v size log cuts n e =
    let some : nat_eq n 0 ≡ false = grind (arith, nat_tests, e) in
    let last : n - 1 ≡ length cuts = omega (arith, e) in
    rw some (ap (λ k. seen_by v (face size (take (get_or (cuts ++ length log ∷ []) k 0) log))) last
    ∙ (ap (λ k. seen_by v (face size (take k log))) (get_or-append_seam cuts (length log) [] 0)
    ∙ ap (λ l. seen_by v (face size l)) (take-length log)))

pub screen_made : (s : Server) (m id : ℕ) → makes s m ≡ true → screen_to s m id ≡ seen_by (s.records id).version (face s.size s.log)
screen_made s m id e =
    let cuts : cuts_after s m ≡ s.cuts ++ length s.log ∷ [] = rw e refl in
    let n : number_after s m ≡ length s.cuts + 1 = ap length cuts ∙ length-append s.cuts (length s.log ∷ []) in
    ap (λ (ks : List ℕ). screen (s.records id).version s.size s.log ks (number_after s m)) cuts
    ∙ screen_last (s.records id).version s.size s.log s.cuts (number_after s m) n

-- a text is short
pub told_short : (r : Record) (n : ℕ) (shot : Screenshot) → IsSeenBy r.version shot
    → length (down_text (told r n shot)) ≤ most_bytes r.version
told_short r n shot is =
    let few = change_short r.version r.sender.base.state shot is in
    let long : length (down_text (told r n shot)) ≡ 32 + length (difference_by r.version r.sender.base.state shot) = omega arith in
    subst (λ (k : ℕ). k ≤ most_bytes r.version) (sym long) few
