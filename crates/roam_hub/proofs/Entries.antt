-- The records of a server by their ids.
use Rattle.std.proofs.Common.{◌≡◌, ℕ, ◌<◌, ◌≤◌, List, [], ◌∷◌, ◌++◌, length, Option, Some, None, Bool, true, false, refl, sym, ap, ◌∙◌, subst, cond, arith}
use Rattle.std.specs.Prelude.{nat_eq, nat_le, not, ◌&&◌}
use Rattle.std.specs.List.{IsDistinct, AllByRecursion}
use Rattle.std.specs.Map.{keys_of, lookup, set_value}
use Rattle.std.proofs.lemmas.Bool.Decides.{nat_tests}
use Rattle.roam_model.specs.Lists.{with_value}
use Rattle.roam_model.specs.Servers.{Record, no_record, Server}
use Rattle.roam_wire.specs.Datagrams.{DatagramValue}
use Rattle.roam_model.specs.Texts.{is_watching}
use Rattle.roam_model.specs.Versions.{is_same_version}
use Rattle.roam_model.specs.ServerArrivals.{arrival_with, is_same, most_of, alike_in, alike, is_full_for, is_of_other, is_else}
use Rattle.roam_hub.specs.Servers.{RecordView, ServerView, kept_of, IsKept, AreKept, Stands}
use Rattle.roam_hub.specs.Records.{Puts, known, added, entry_of, alike_entries, Fits}

other_way : (i j : ℕ) (b : Bool) → nat_eq i j ≡ b → nat_eq j i ≡ b
other_way i j true e = grind (arith, nat_tests)
other_way i j false e = grind (arith, nat_tests)

same_id : (i j : ℕ) → nat_eq i j ≡ true → i ≡ j
same_id i j e = grind (arith, nat_tests)

itself : (i : ℕ) → nat_eq i i ≡ true
itself i = grind (arith, nat_tests)

put_other : (f : ℕ → Record) (i : ℕ) (r : Record) (j : ℕ) → nat_eq i j ≡ false → with_value f i r j ≡ f j
put_other f i r j e = ap (λ b. cond b r (f j)) (other_way i j false e)

put_here : (f : ℕ → Record) (i : ℕ) (r : Record) (j : ℕ) → nat_eq i j ≡ true → with_value f i r j ≡ r
put_here f i r j e = ap (λ b. cond b r (f j)) (other_way i j true e)

abbrev Apart : ℕ → List (ℕ × RecordView) → Type 0
Apart id es = AllByRecursion (λ y. nat_eq id y ≡ false) (keys_of es)

-- an id that isn't found is apart from all
apart_from : (id : ℕ) (es : List (ℕ × RecordView)) → lookup (nat_eq id) es ≡ None → Apart id es
apart_from id [] none = tt
apart_from id (e ∷ es) none = go (nat_eq id e.0) refl none (apart_from id es)
  where
    go : (b : Bool) → nat_eq id e.0 ≡ b → cond b (Some e.1) (lookup (nat_eq id) es) ≡ None
        → (lookup (nat_eq id) es ≡ None → Apart id es) → (nat_eq id e.0 ≡ false) × Apart id es
    go true f n next = absurd (cc)
    go false f n next = (f, next n)

-- ---- kept parts stay kept

kept_apart : (id : ℕ) (r : Record) (es : List (ℕ × RecordView)) (records : ℕ → Record) → Apart id es → AreKept es records
    → AreKept es (with_value records id r)
kept_apart id r [] records a k = tt
kept_apart id r (e ∷ es) records a k =
    (subst (IsKept e.1) (sym (put_other records id r e.0 a.0)) k.0, kept_apart id r es records a.1 k.1)

kept_set : (id : ℕ) (w : RecordView) (r : Record) (es : List (ℕ × RecordView)) (records : ℕ → Record) → IsDistinct nat_eq (keys_of es)
    → IsKept w r → AreKept es records → AreKept (set_value (nat_eq id) es w) (with_value records id r)
unfolding IsDistinct
kept_set id w r [] records d is k = tt
kept_set id w r (e ∷ es) records d is k = go (nat_eq id e.0) refl (kept_set id w r es records d.1 is k.1)
  where
    go : (b : Bool) → nat_eq id e.0 ≡ b → AreKept (set_value (nat_eq id) es w) (with_value records id r)
        → AreKept (cond b ((e.0, w) ∷ es) (e ∷ set_value (nat_eq id) es w)) (with_value records id r)
    go true f next = (
      subst (IsKept w) (sym (put_here records id r e.0 f)) is,
      kept_apart id r es records
          (subst (λ (i : ℕ). Apart i es) (sym (same_id id e.0 f)) d.0) k.1,
    )
    go false f next = (subst (IsKept e.1) (sym (put_other records id r e.0 f)) k.0, next)

kept_push : (id : ℕ) (w : RecordView) (r : Record) (es : List (ℕ × RecordView)) (records : ℕ → Record) → Apart id es → IsKept w r
    → AreKept es records → AreKept (es ++ (id, w) ∷ []) (with_value records id r)
kept_push id w r [] records a is k = (subst (IsKept w) (sym (put_here records id r id (itself id))) is, tt)
kept_push id w r (e ∷ es) records a is k =
    (subst (IsKept e.1) (sym (put_other records id r e.0 a.0)) k.0, kept_push id w r es records a.1 is k.1)

-- ---- ids

keys_set : (id : ℕ) (w : RecordView) (es : List (ℕ × RecordView)) → keys_of (set_value (nat_eq id) es w) ≡ keys_of es
keys_set id w [] = refl
keys_set id w (e ∷ es) = go (nat_eq id e.0) (keys_set id w es)
  where
    go : (b : Bool) → keys_of (set_value (nat_eq id) es w) ≡ keys_of es
        → keys_of (cond b ((e.0, w) ∷ es) (e ∷ set_value (nat_eq id) es w)) ≡ keys_of (e ∷ es)
    go true next = refl
    go false next = ap (λ (ks : List ℕ). e.0 ∷ ks) next

keys_push : (id : ℕ) (w : RecordView) (es : List (ℕ × RecordView)) → keys_of (es ++ (id, w) ∷ []) ≡ keys_of es ++ id ∷ []
keys_push id w [] = refl
keys_push id w (e ∷ es) = ap (λ (ks : List ℕ). e.0 ∷ ks) (keys_push id w es)

-- ---- what isn't found

none_set : (id j : ℕ) (w : RecordView) (es : List (ℕ × RecordView)) → lookup (nat_eq j) (set_value (nat_eq id) es w) ≡ None
    → lookup (nat_eq j) es ≡ None
none_set id j w [] n = refl
none_set id j w (e ∷ es) n = go (nat_eq id e.0) n (none_set id j w es)
  where
    tail : (b : Bool) (es' : List (ℕ × RecordView)) (x : RecordView) → (lookup (nat_eq j) es' ≡ None → lookup (nat_eq j) es ≡ None)
        → cond b (Some x) (lookup (nat_eq j) es') ≡ None → cond b (Some e.1) (lookup (nat_eq j) es) ≡ None
    tail true es' x next m = absurd (cc)
    tail false es' x next m = next m

    go : (b : Bool) → lookup (nat_eq j) (cond b ((e.0, w) ∷ es) (e ∷ set_value (nat_eq id) es w)) ≡ None
        → (lookup (nat_eq j) (set_value (nat_eq id) es w) ≡ None → lookup (nat_eq j) es ≡ None)
        → cond (nat_eq j e.0) (Some e.1) (lookup (nat_eq j) es) ≡ None
    go true m next = tail (nat_eq j e.0) es w (λ y. y) m
    go false m next = tail (nat_eq j e.0) (set_value (nat_eq id) es w) e.1 next m

none_push : (id j : ℕ) (w : RecordView) (es : List (ℕ × RecordView)) → lookup (nat_eq j) (es ++ (id, w) ∷ []) ≡ None
    → (lookup (nat_eq j) es ≡ None) × (nat_eq j id ≡ false)
none_push id j w [] n = go (nat_eq j id) refl n
  where
    go : (b : Bool) → nat_eq j id ≡ b → cond {A = Option RecordView} b (Some w) None ≡ None
        → (lookup {K = ℕ} {X = RecordView} (nat_eq j) [] ≡ None) × (nat_eq j id ≡ false)
    go true f m = absurd (cc)
    go false f m = (refl, f)
none_push id j w (e ∷ es) n = go (nat_eq j e.0) n (none_push id j w es)
  where
    go : (b : Bool) → cond b (Some e.1) (lookup (nat_eq j) (es ++ (id, w) ∷ [])) ≡ None
        → (lookup (nat_eq j) (es ++ (id, w) ∷ []) ≡ None → (lookup (nat_eq j) es ≡ None) × (nat_eq j id ≡ false))
        → (cond b (Some e.1) (lookup (nat_eq j) es) ≡ None) × (nat_eq j id ≡ false)
    go true m next = absurd (cc)
    go false m next = next m

-- ---- a record among those of a server

-- one that is found is kept of the record of its id
found : (id : ℕ) (v : RecordView) (es : List (ℕ × RecordView)) (records : ℕ → Record) → lookup (nat_eq id) es ≡ Some v → AreKept es records
    → IsKept v (records id)
found id v [] records at k = absurd (cc)
found id v (e ∷ es) records at k = go (nat_eq id e.0) refl at (λ a. found id v es records a k.1)
  where
    go : (b : Bool) → nat_eq id e.0 ≡ b → cond b (Some e.1) (lookup (nat_eq id) es) ≡ Some v
        → (lookup (nat_eq id) es ≡ Some v → IsKept v (records id)) → IsKept v (records id)
    go true f a next =
        let same : e.1 ≡ v = cc in
        subst (λ (x : RecordView). IsKept x (records id)) same (subst (λ (i : ℕ). IsKept e.1 (records i)) (sym (same_id id e.0 f)) k.0)
    go false f a next = next a

unknown : (r : Record) → r ≡ no_record → r.known ≡ false
unfolding no_record
unknown r e = ap (λ (x : Record). x.known) e

-- there is room for the record of an id when one is put
pub record PutsWell (v : ServerView) (s : Server) (id : ℕ) (new : List (ℕ × RecordView)) (r : Record) : Type 0 where
  pub arrival : keys_of new ≡ arrival_with s id
  pub records : AreKept new (with_value s.records id r)
  pub others : (j : ℕ) → lookup (nat_eq j) new ≡ None → with_value s.records id r j ≡ no_record

pub puts_well : (v : ServerView) (s : Server) (d : DatagramValue) (new : List (ℕ × RecordView)) (was is : RecordView) (r : Record)
    → Stands v s
    → IsDistinct nat_eq (keys_of v.records) → Puts d v.records new was is → IsKept is r → PutsWell v s d.client new r
puts_well v s d new was is r st apart (known at fits same) k =
    subst (λ (es : List (ℕ × RecordView)). PutsWell v s d.client es r) (sym same) (record {
      arrival =
          keys_set d.client is v.records ∙ st.arrival
          ∙ sym (ap (λ b. cond b s.arrival (s.arrival ++ d.client ∷ [])) (found d.client was v.records s.records at st.records).known);
      records = kept_set d.client is r v.records s.records apart k st.records;
      others = (λ j none. go j (none_set d.client j is v.records none) (nat_eq d.client j) refl);
    })
  where
    go : (j : ℕ) → lookup (nat_eq j) v.records ≡ None → (b : Bool) → nat_eq d.client j ≡ b → with_value s.records d.client r j ≡ no_record
    go j none true e =
        let z : Some was ≡ None = sym at ∙ ap (λ (i : ℕ). lookup (nat_eq i) v.records) (same_id d.client j e) ∙ none in absurd (cc)
    go j none false e = put_other s.records d.client r j e ∙ st.others j none
puts_well v s d new was is r st apart (added at few first same) k =
    subst (λ (es : List (ℕ × RecordView)). PutsWell v s d.client es r) (sym same) (record {
      arrival =
          keys_push d.client is v.records ∙ ap (λ (ks : List ℕ). ks ++ d.client ∷ []) st.arrival
          ∙ sym (ap (λ b. cond b s.arrival (s.arrival ++ d.client ∷ [])) (unknown (s.records d.client) (st.others d.client at)));
      records = kept_push d.client is r v.records s.records (apart_from d.client v.records at) k st.records;
      others =
          (λ j none.
          let n = none_push d.client j is v.records none in
          put_other s.records d.client r j (other_way j d.client false n.1) ∙ st.others j n.0);
    })

-- the kept part of it before
pub was_kept : (v : ServerView) (s : Server) (d : DatagramValue) (new : List (ℕ × RecordView)) (was is : RecordView) → Stands v s
    → Puts d v.records new was is → was ≡ kept_of (s.records d.client)
was_kept v s d new was is st (known at fits same) = (found d.client was v.records s.records at st.records).kept
was_kept v s d new was is st (added at few first same) = first ∙ sym (ap kept_of (st.others d.client at))

-- ---- how many are known

-- as many records are of instances that only watch, or of others, as instances are
alike_is : (w : Bool) (es : List (ℕ × RecordView)) (records : ℕ → Record) → AreKept es records
    → length (alike_entries w es) ≡ length (alike_in records w (keys_of es))
alike_is w [] records k = refl
alike_is w (e ∷ es) records k =
    go (is_same e.1.watches w) (is_same (records e.0).watches w) (ap (λ (v : RecordView). is_same v.watches w) k.0.kept)
    (alike_is w es records k.1)
  where
    go : (a b : Bool) → a ≡ b → length (alike_entries w es) ≡ length (alike_in records w (keys_of es))
        → length (cond {A = List (ℕ × RecordView)} a (e ∷ alike_entries w es) (alike_entries w es))
        ≡ length (cond {A = List ℕ} b (e.0 ∷ alike_in records w (keys_of es)) (alike_in records w (keys_of es)))
    go true true f more = omega (arith, more)
    go false false f more = more
    go true false f more = absurd (cc)
    go false true f more = absurd (cc)

pub many : (v : ServerView) (s : Server) (w : Bool) → Stands v s → length (alike s w) ≡ length (alike_entries w v.records)
many v s w st =
    sym (alike_is w v.records s.records st.records ∙ ap (λ (ks : List ℕ). length (alike_in s.records w ks)) st.arrival)

-- there is room for one more record, or it is there
pub room_is : (v : ServerView) (s : Server) (d : DatagramValue) → Stands v s
    → (lookup (nat_eq d.client) v.records ≡ None → length (alike_entries (is_watching d.kind) v.records) < most_of (is_watching d.kind))
    → is_full_for s d ≡ false
room_is v s d st free = go (lookup (nat_eq d.client) v.records) refl
  where
    few : (a b : Bool) → nat_le (most_of (is_watching d.kind)) (length (alike s (is_watching d.kind))) ≡ b
        → length (alike_entries (is_watching d.kind) v.records) < most_of (is_watching d.kind) → (a && b) ≡ false
    few false b e low = refl
    few true false e low = refl
    few true true e low = let m = many v s (is_watching d.kind) st in grind (arith, nat_tests, m, low)

    go : (o : Option RecordView) → lookup (nat_eq d.client) v.records ≡ o → is_full_for s d ≡ false
    go None e =
        few (not (s.records d.client).known) (nat_le (most_of (is_watching d.kind)) (length (alike s (is_watching d.kind)))) refl (free e)
    go (Some x) e =
        ap (λ b. not b && nat_le (most_of (is_watching d.kind)) (length (alike s (is_watching d.kind))))
        (found d.client x v.records s.records e st.records).known

pub is_full : (v : ServerView) (s : Server) (d : DatagramValue) → Stands v s → lookup (nat_eq d.client) v.records ≡ None
    → most_of (is_watching d.kind) ≤ length (alike_entries (is_watching d.kind) v.records) → is_full_for s d ≡ true
is_full v s d st none full =
    ap (λ b. not b && nat_le (most_of (is_watching d.kind)) (length (alike s (is_watching d.kind))))
    (unknown (s.records d.client) (st.others d.client none))
    ∙ (let m = many v s (is_watching d.kind) st in grind (arith, nat_tests, m, full))

-- ---- the version and the kind

and_no : (a b : Bool) → b ≡ true → (a && not b) ≡ false
and_no true true e = refl
and_no false true e = refl
and_no true false e = absurd (cc)
and_no false false e = refl

-- a record is of a datagram's version and kind, or there is none
pub record Suits (s : Server) (d : DatagramValue) : Type 0 where
  pub version : is_of_other s d ≡ false
  pub kind : is_else s d ≡ false

kept_suits : (v : RecordView) (s : Server) (d : DatagramValue) → IsKept v (s.records d.client) → Fits v.version v.watches d → Suits s d
kept_suits v s d k f =
    record {
      version =
          and_no (s.records d.client).known (is_same_version (s.records d.client).version d.version)
          (sym (ap (λ (x : RecordView). is_same_version x.version d.version) k.kept) ∙ f.version_is);
      kind =
          and_no (s.records d.client).known (is_same (s.records d.client).watches (is_watching d.kind))
          (sym (ap (λ (x : RecordView). is_same x.watches (is_watching d.kind)) k.kept) ∙ f.watches_is);
    }

none_suits : (s : Server) (d : DatagramValue) → s.records d.client ≡ no_record → Suits s d
none_suits s d none =
    record {
      version = ap (λ b. b && not (is_same_version (s.records d.client).version d.version)) (unknown (s.records d.client) none);
      kind = ap (λ b. b && not (is_same (s.records d.client).watches (is_watching d.kind))) (unknown (s.records d.client) none);
    }

pub suits : (v : ServerView) (s : Server) (d : DatagramValue) → Stands v s
    → ((x : RecordView) → lookup (nat_eq d.client) v.records ≡ Some x → Fits x.version x.watches d) → Suits s d
suits v s d st fits = go (lookup (nat_eq d.client) v.records) refl
  where
    go : (o : Option RecordView) → lookup (nat_eq d.client) v.records ≡ o → Suits s d
    go None e = none_suits s d (st.others d.client e)
    go (Some x) e = kept_suits x s d (found d.client x v.records s.records e st.records) (fits x e)

pub suits_put : (v : ServerView) (s : Server) (d : DatagramValue) (new : List (ℕ × RecordView)) (was is : RecordView) → Stands v s
    → Puts d v.records new was is → Suits s d
suits_put v s d new was is st (known at fits same) = kept_suits was s d (found d.client was v.records s.records at st.records) fits
suits_put v s d new was is st (added at few first same) = none_suits s d (st.others d.client at)

-- a record that is there is of another version, or of that version and another kind
pub record Differs (s : Server) (d : DatagramValue) : Type 0 where
  pub there : is_full_for s d ≡ false
  pub version : is_of_other s d ≡ not (is_same_version (s.records d.client).version d.version)
  pub kind : is_else s d ≡ not (is_same (s.records d.client).watches (is_watching d.kind))

pub there_is : (v : ServerView) (s : Server) (d : DatagramValue) (x : RecordView) → Stands v s
    → lookup (nat_eq d.client) v.records ≡ Some x → Differs s d
there_is v s d x st at =
    record {
      there =
          ap (λ b. not b && nat_le (most_of (is_watching d.kind)) (length (alike s (is_watching d.kind))))
          (found d.client x v.records s.records at st.records).known;
      version = ap (λ b. b && not (is_same_version (s.records d.client).version d.version))
          (found d.client x v.records s.records at st.records).known;
      kind = ap (λ b. b && not (is_same (s.records d.client).watches (is_watching d.kind)))
          (found d.client x v.records s.records at st.records).known;
    }

-- the kept part of the record of an id
pub entry_is : (v : ServerView) (s : Server) (id : ℕ) → Stands v s → entry_of (lookup (nat_eq id) v.records) ≡ kept_of (s.records id)
entry_is v s id st = go (lookup (nat_eq id) v.records) refl
  where
    go : (o : Option RecordView) → lookup (nat_eq id) v.records ≡ o → entry_of o ≡ kept_of (s.records id)
    go None e = sym (ap kept_of (st.others id e))
    go (Some x) e = (found id x v.records s.records e st.records).kept

pub found_at : (v : ServerView) (s : Server) (id : ℕ) (x : RecordView) → Stands v s → lookup (nat_eq id) v.records ≡ Some x
    → x ≡ kept_of (s.records id)
found_at v s id x st at = (found id x v.records s.records at st.records).kept

-- and there is room for it
pub has_room : (v : ServerView) (s : Server) (d : DatagramValue) (new : List (ℕ × RecordView)) (was is : RecordView) → Stands v s
    → Puts d v.records new was is → is_full_for s d ≡ false
has_room v s d new was is st (known at fits same) = (there_is v s d was st at).there
has_room v s d new was is st (added at few first same) = room_is v s d st (λ none. few)
