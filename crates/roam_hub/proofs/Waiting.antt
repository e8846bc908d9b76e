-- The actions of a server's model at a tick, by the kept parts of its records.
use Rattle.std.proofs.Common.{◌≡◌, ◌⊎◌, ℕ, ◌+◌, ◌<◌, ◌≤◌, ◌^◌, max, List, [], ◌∷◌, ◌++◌, length, map, take, Option, Some, None, Bool, true, false, inl, inr, refl, sym, ap, ◌∙◌, subst, cond, arith}
use Rattle.std.specs.Prelude.{IfSome, nat_eq, nat_le, nat_lt, slice_get, ◌&&◌, ◌||◌}
use Rattle.std.specs.List.{flat_map, list_any}
use Rattle.std.specs.Map.{keys_of, lookup}
use Rattle.std.proofs.lemmas.Bool.Decides.{nat_tests}
use Rattle.std.proofs.lemmas.List.Folds.{list_any_more}
use Rattle.std.proofs.lemmas.Option.{get_or_from_slice_get}
use Rattle.roam_screens.specs.Screenshot.{Screenshot}
use Rattle.roam_sync.specs.Senders.{newest, count, offered, is_due}
use Rattle.roam_model.specs.Moments.{has_passed, is_overdue, is_spent}
use Rattle.roam_model.specs.Servers.{Record, no_record, Server, moment}
use Rattle.roam_model.specs.Ticks.{makes, cuts_after, number_after, screen_to, is_offered, holds_after, sends, after_sent, ticked_record, datagrams_to, is_record_spent, Parcel, parcel, parcels_to, sent_by, after_tick}
use Rattle.roam_model.specs.Versions.{seen_by}
use Rattle.roam_model.proofs.Keeps.{or_left, or_right}
use Rattle.roam_hub.specs.Servers.{RecordView, ServerView, kept_of, AreKept, Stands, is_touched, is_server_due, is_ack_spent}
use Rattle.roam_hub.specs.Records.{held_record, is_sent_to, makes_at}
use Rattle.roam_hub.specs.Waits.{has_come, PassesFrom, is_record_due, is_entry_due, IsQuiet}

-- ---- one record

-- a record of the definitions is touched if its kept part is due
touched_is : (r : Record) (n : ℕ) (s : Screenshot) (m : ℕ) → r.known ≡ true
    → (is_offered r n m || sends r n s m) ≡ is_record_due (kept_of r) n m
unfolding sends holds_after
touched_is r n s m known =
    go r.known (nat_lt m (r.heard_at + 60000)) (nat_lt (newest r.sender).number n) (nat_lt (count r.sender) 8) known
  where
    go : (k l a b : Bool) → k ≡ true
        → (((k && l) && a && b)
        || ((k && l) && (is_due (cond ((k && l) && a && b) (offered r.sender n s) r.sender) m || is_overdue r.owed m)))
        ≡ (l && ((a && b) || (is_due r.sender m || is_overdue r.owed m)))
    go false l a b e = absurd (cc)
    go true false a b e = refl
    go true true false b e = refl
    go true true true false e = refl
    go true true true true e = refl

-- one that isn't there never is
none_touched : (n : ℕ) (s : Screenshot) (m : ℕ) → (is_offered no_record n m || sends no_record n s m) ≡ false
unfolding no_record sends holds_after
none_touched n s m = refl

-- one that isn't touched stays as it is
same_record : (r : Record) (n : ℕ) (s : Screenshot) (m : ℕ) → is_offered r n m ≡ false → sends r n s m ≡ false
    → ticked_record r n s m ≡ r
unfolding holds_after
same_record r n s m free quiet =
    ap (λ b. cond b (after_sent r n s m) (record r { sender = holds_after r n s m })) quiet
    ∙ ap (λ b. record r { sender = cond b (offered r.sender n s) r.sender }) free

-- one that is offered a number is due
pub offered_due : (v : RecordView) (n now : ℕ)
    → (nat_lt now (v.heard_at + 60000) && nat_lt (newest v.sender).number n && nat_lt (count v.sender) 8) ≡ true
    → is_record_due v n now ≡ true
offered_due v n now e = go (nat_lt now (v.heard_at + 60000)) (nat_lt (newest v.sender).number n) (nat_lt (count v.sender) 8) e
  where
    go : (l a b : Bool) → (l && a && b) ≡ true → (l && ((a && b) || (is_due v.sender now || is_overdue v.owed now))) ≡ true
    go false a b f = absurd (cc)
    go true false b f = absurd (cc)
    go true true false f = absurd (cc)
    go true true true f = refl

-- one that is sent to once it was offered a number, or wasn't, is due
pub held_due : (v : RecordView) (n : ℕ) (s : Screenshot) (now : ℕ) → is_sent_to (held_record v n s now) now ≡ true
    → is_record_due v n now ≡ true
unfolding holds_after
held_due v n s now e = go (nat_lt now (v.heard_at + 60000)) (nat_lt (newest v.sender).number n) (nat_lt (count v.sender) 8) e
  where
    go : (l a b : Bool)
        → ((true && l) && (is_due (cond ((true && l) && a && b) (offered v.sender n (seen_by v.version s)) v.sender) now
        || is_overdue v.owed now)) ≡ true
        → (l && ((a && b) || (is_due v.sender now || is_overdue v.owed now))) ≡ true
    go false a b f = absurd (cc)
    go true false b f = f
    go true true false f = f
    go true true true f = refl

-- ---- all records

all_touched : (n m : ℕ) (seen : ℕ → Screenshot) (es : List (ℕ × RecordView)) (records : ℕ → Record) → AreKept es records
    → list_any (λ id. is_offered (records id) n m || sends (records id) n (seen id) m) (keys_of es) ≡ list_any (is_entry_due n m) es
all_touched n m seen [] records k = refl
all_touched n m seen (e ∷ es) records k =
    λ i. (touched_is (records e.0) n (seen e.0) m k.0.known ∙ ap (λ (v : RecordView). is_record_due v n m) (sym k.0.kept)) i
    || all_touched n m seen es records k.1 i

same_id : (i j : ℕ) → nat_eq i j ≡ true → i ≡ j
same_id i j e = grind (arith, nat_tests)

-- if no record passes a test, the one found by an id doesn't
passes_none : (p : ℕ → Bool) (id : ℕ) (v : RecordView) (es : List (ℕ × RecordView)) → list_any p (keys_of es) ≡ false
    → lookup (nat_eq id) es ≡ Some v → p id ≡ false
passes_none p id v [] none at = absurd (cc)
passes_none p id v (e ∷ es) none at =
    go (nat_eq id e.0) refl at (passes_none p id v es (or_right (p e.0) (list_any p (keys_of es)) none))
  where
    go : (b : Bool) → nat_eq id e.0 ≡ b → cond b (Some e.1) (lookup (nat_eq id) es) ≡ Some v
        → (lookup (nat_eq id) es ≡ Some v → p id ≡ false) → p id ≡ false
    go true f a next = ap p (same_id id e.0 f) ∙ or_left (p e.0) (list_any p (keys_of es)) none
    go false f a next = next a

any_none : (p : ℕ → Bool) → ((id : ℕ) → p id ≡ false) → (ids : List ℕ) → list_any p ids ≡ false
any_none p none [] = refl
any_none p none (id ∷ ids) = λ i. none id i || any_none p none ids i

flat_none : (f : ℕ → List Parcel) → ((id : ℕ) → f id ≡ []) → (ids : List ℕ) → flat_map f ids ≡ []
flat_none f none [] = refl
flat_none f none (id ∷ ids) = λ i. none id i ++ flat_none f none ids i

pub or_second : (a b : Bool) → b ≡ true → (a || b) ≡ true
or_second true b e = refl
or_second false b e = e

-- nothing is due before a moment to any of these records
abbrev pub AreQuietBefore : ℕ → ℕ → Option ℕ → List (ℕ × RecordView) → Type 0
AreQuietBefore n clock due es =
    (now : ℕ) → clock ≤ now → now < 2 ^ 64 → has_come due now ≡ false → list_any (is_entry_due n now) es ≡ false

-- something is due then to one of them
abbrev pub IsDueThen : ℕ → ℕ → Option ℕ → List (ℕ × RecordView) → Type 0
IsDueThen n clock due es = IfSome due (λ d. list_any (is_entry_due n (max d clock)) es ≡ true)

-- one more record, as at a step of a loop
module _ (n clock at : ℕ) (es : List (ℕ × RecordView)) (e : ℕ × RecordView) (within : at < length es) (here : slice_get es at ≡ Some e)
    (old one new : Option ℕ) where
  any_more : (p : ℕ × RecordView → Bool) → list_any p (take (at + 1) es) ≡ (list_any p (take at es) || p e)
  any_more p = list_any_more p es at e within ∙ ap (λ x. list_any p (take at es) || p x) (get_or_from_slice_get es at e e here)

  pub quiet_more : ((now : ℕ) → has_come new now ≡ (has_come old now || has_come one now)) → AreQuietBefore n clock old (take at es)
      → ((now : ℕ) → clock ≤ now → now < 2 ^ 64 → has_come one now ≡ false → is_record_due e.1 n now ≡ false)
      → AreQuietBefore n clock new (take (at + 1) es)
  quiet_more come all this now le low early =
      let both = sym (come now) ∙ early in
      any_more (is_entry_due n now)
      ∙ (λ i. all now le low (or_left (has_come old now) (has_come one now) both) i
      || this now le low (or_right (has_come old now) (has_come one now) both) i)

  pub then_more : (new ≡ old) ⊎ (new ≡ one) → IsDueThen n clock old (take at es)
      → IfSome one (λ d. is_record_due e.1 n (max d clock) ≡ true) → IsDueThen n clock new (take (at + 1) es)
  then_more (inl f) all this = subst (λ (o : Option ℕ). IsDueThen n clock o (take (at + 1) es)) (sym f) (go old all)
    where
      go : (o : Option ℕ) → IsDueThen n clock o (take at es) → IsDueThen n clock o (take (at + 1) es)
      go None h = tt
      go (Some d) h =
          any_more (is_entry_due n (max d clock)) ∙ ap (λ b. b || is_record_due e.1 n (max d clock)) h
  then_more (inr f) all this = subst (λ (o : Option ℕ). IsDueThen n clock o (take (at + 1) es)) (sym f) (go one this)
    where
      go : (o : Option ℕ) → IfSome o (λ d. is_record_due e.1 n (max d clock) ≡ true) → IsDueThen n clock o (take (at + 1) es)
      go None h = tt
      go (Some d) h =
          any_more (is_entry_due n (max d clock))
          ∙ or_second (list_any (is_entry_due n (max d clock)) (take at es)) (is_record_due e.1 n (max d clock)) h

-- ---- a server

pub makes_is : (v : ServerView) (s : Server) (now : ℕ) → Stands v s → makes_at v now ≡ makes s now
makes_is v s now st = λ i. nat_eq (st.made i) 0 || (st.input i && has_passed 20 (st.made_at i) now)

module _ (v : ServerView) (s : Server) (m : ℕ) (st : Stands v s) where
  touched_are : makes s m ≡ false → list_any (is_touched s m) s.arrival ≡ list_any (is_entry_due v.made m) v.records
  touched_are unmade =
      sym (ap (λ (ks : List ℕ). list_any (is_touched s m) ks) st.arrival)
      ∙ all_touched (number_after s m) m (screen_to s m) v.records s.records st.records
      ∙ ap (λ (n : ℕ). list_any (is_entry_due n m) v.records)
      (sym (st.made ∙ sym (ap (λ b. length (cond b (s.cuts ++ length s.log ∷ []) s.cuts)) unmade)))

  -- a server acts if its kept part makes a number, or a record of it is due
  pub due_is : is_server_due s m ≡ (makes_at v m || list_any (is_entry_due v.made m) v.records)
  due_is = go (makes_at v m) refl
    where
      go : (b : Bool) → makes_at v m ≡ b → is_server_due s m ≡ (makes_at v m || list_any (is_entry_due v.made m) v.records)
      go true e =
          ap (λ b. b || list_any (is_touched s m) s.arrival) (sym (makes_is v s m st) ∙ e)
          ∙ sym (ap (λ b. b || list_any (is_entry_due v.made m) v.records) e)
      go false e =
          ap (λ b. b || list_any (is_touched s m) s.arrival) (sym (makes_is v s m st))
          ∙ ap (λ b. makes_at v m || b) (touched_are (sym (makes_is v s m st) ∙ e))

  module _ (idle : is_server_due s m ≡ false) where
    unmade : makes s m ≡ false
    unmade = or_left (makes s m) (list_any (is_touched s m) s.arrival) idle

    none : list_any (is_touched s m) (keys_of v.records) ≡ false
    none =
        ap (λ (ks : List ℕ). list_any (is_touched s m) ks) st.arrival
        ∙ or_right (makes s m) (list_any (is_touched s m) s.arrival) idle

    untouched : (id : ℕ) → is_touched s m id ≡ false
    untouched id = go (lookup (nat_eq id) v.records) refl
      where
        go : (o : Option RecordView) → lookup (nat_eq id) v.records ≡ o → is_touched s m id ≡ false
        go (Some w) at = passes_none (is_touched s m) id w v.records none at
        go None at =
            ap (λ (r : Record). is_offered r (number_after s m) m || sends r (number_after s m) (screen_to s m id) m) (st.others id at)
            ∙ none_touched (number_after s m) (screen_to s m id) m

    unsent : (id : ℕ) → sends (s.records id) (number_after s m) (screen_to s m id) m ≡ false
    unsent id =
        or_right (is_offered (s.records id) (number_after s m) m) (sends (s.records id) (number_after s m) (screen_to s m id) m)
        (untouched id)

    same : (id : ℕ) → ticked_record (s.records id) (number_after s m) (screen_to s m id) m ≡ s.records id
    same id =
        same_record (s.records id) (number_after s m) (screen_to s m id) m
        (or_left (is_offered (s.records id) (number_after s m) m) (sends (s.records id) (number_after s m) (screen_to s m id) m)
        (untouched id))
        (unsent id)

    no_parcels : (id : ℕ) → parcels_to s m id ≡ []
    no_parcels id =
        ap (λ b. map (parcel (s.records id).address) (cond b (Rattle.roam_model.specs.Texts.datagrams_of (s.records id).version
        Rattle.roam_wire.specs.declared.datagrams.Kind.TheVariants.ToClient s.session id (s.records id).datagrams
        (length (s.records id).instructions + 1)
        (Rattle.roam_model.specs.Ticks.fragments_to (s.records id) (number_after s m) (screen_to s m id) m)) [])) (unsent id)

    pub is_quiet : IsQuiet s m
    is_quiet =
        record {
          same =
              (λ i. record s {
                cuts = cond (unmade i) (s.cuts ++ length s.log ∷ []) s.cuts;
                made_at = cond (unmade i) m s.made_at;
                input = cond (unmade i) false s.input;
                clock = m;
                records = λ id. same id i;
              });
          none = flat_none (parcels_to s m) no_parcels s.arrival;
          fits =
              (λ i. (unmade i && is_spent (number_after s m)
              || any_none (λ id. is_record_spent (s.records id) (number_after s m) (screen_to s m id) m)
              (λ id. ap (λ b. b && (is_spent (length (s.records id).instructions + 1)
              || is_spent ((s.records id).datagrams
              + length (Rattle.roam_model.specs.Ticks.fragments_to (s.records id) (number_after s m) (screen_to s m id) m)))) (unsent id))
              s.arrival i)
              || any_none (is_ack_spent s m) (λ id. ap (λ b. b && is_spent (s.records id).taken) (unsent id))
              s.arrival i);
        }

-- ---- the moment of a server

module _ (v : ServerView) (s : Server) (st : Stands v s) (number records due result : Option ℕ)
    (made : PassesFrom number (makes_at v))
    (chosen : (due ≡ number) ⊎ (due ≡ records)) where
  pub quiet_before : (now : ℕ) → max now v.clock < 2 ^ 64
      → AreQuietBefore v.made v.clock records v.records
      → ((m : ℕ) → has_come due m ≡ (has_come number m || has_come records m))
      → has_come due (max now v.clock) ≡ false → IsQuiet s (moment s now)
  quiet_before now low kept either early =
      subst (λ (c : ℕ). IsQuiet s (max now c)) st.clock
      (is_quiet v s (max now v.clock) st (due_is v s (max now v.clock) st ∙ (λ i. no_number i || no_records i)))
    where
      m : ℕ
      m = max now v.clock

      both : (has_come number m || has_come records m) ≡ false
      both = sym (either m) ∙ early

      no_number : makes_at v m ≡ false
      no_number = made.before m low (or_left (has_come number m) (has_come records m) both)

      no_records : list_any (is_entry_due v.made m) v.records ≡ false
      no_records = kept m (omega arith) low (or_right (has_come number m) (has_come records m) both)

  -- at the moment that was chosen
  pub due_then : IsDueThen v.made v.clock records v.records
      → (due ≡ None → result ≡ None) → ((e : ℕ) → due ≡ Some e → IfSome result (λ d. max d v.clock ≡ max e v.clock))
      → IfSome result (λ d. is_server_due s (moment s d) ≡ true)
  due_then at nothing same = go due refl
    where
      then : (e : ℕ) → due ≡ Some e → is_server_due s (max e v.clock) ≡ true
      then e is = due_is v s (max e v.clock) st ∙ by chosen
        where
          by : (due ≡ number) ⊎ (due ≡ records)
              → (makes_at v (max e v.clock) || list_any (is_entry_due v.made (max e v.clock)) v.records) ≡ true
          by (inl f) =
              ap (λ b. b || list_any (is_entry_due v.made (max e v.clock)) v.records)
              (made.from (max e v.clock) (ap (λ (o : Option ℕ). has_come o (max e v.clock)) (sym f ∙ is)
              ∙ (let z : nat_le e (max e v.clock) ≡ true = grind (arith, nat_tests) in z)))
          by (inr f) =
              or_second (makes_at v (max e v.clock)) (list_any (is_entry_due v.made (max e v.clock)) v.records)
              (subst (λ (o : Option ℕ). IfSome o (λ d. list_any (is_entry_due v.made (max d v.clock)) v.records ≡ true)) (sym f ∙ is) at)

      at_clock : (o : Option ℕ) (e : ℕ) → due ≡ Some e → IfSome o (λ d. max d v.clock ≡ max e v.clock)
          → IfSome o (λ d. is_server_due s (moment s d) ≡ true)
      at_clock None e is m = tt
      at_clock (Some d) e is m =
          subst (λ (c : ℕ). is_server_due s (max d c) ≡ true) st.clock (ap (is_server_due s) m ∙ then e is)

      go : (o : Option ℕ) → due ≡ o → IfSome result (λ d. is_server_due s (moment s d) ≡ true)
      go None is = subst (λ (o : Option ℕ). IfSome o (λ d. is_server_due s (moment s d) ≡ true)) (sym (nothing is)) tt
      go (Some e) is = at_clock result e is (same e is)
