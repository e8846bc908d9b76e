-- The effect of a datagram on a client instance.
use Rattle.std.proofs.Common.{◌≡◌, ◌⊎◌, ℕ, ◌-◌, ◌<◌, ◌≤◌, ◌^◌, max, List, Option, Some, None, Bool, true, false, inl, inr, refl, sym, ap, ◌∙◌, subst, cond, arith}
use Rattle.std.proofs.lemmas.Bool.Decides.{nat_tests}
use Rattle.std.specs.Prelude.{Result, Ok, Err, IsOk, nat_le, nat_lt, is_none, length, drop}
use Rattle.std.specs.List.{All}
use Rattle.std.proofs.lemmas.List.Elements.{All-drop}
use Rattle.roam_cells.specs.declared.faults.Fault.{Fault}
use Rattle.roam_cells.specs.declared.faults.Fault.TheVariants.{OutOfMemory, BadSize, TooSmall, NoPane, PanesFull, LastPane, Busy, TooLong, BadDatagram, OtherSession, OtherClient, ClientsFull, BadChange, SendFull, Spent, BadAct, Watching}
use Rattle.roam_cells.specs.declared.faults.Reason.{Reason}
use Rattle.roam_cells.specs.declared.faults.Reason.TheVariants.{Fragment, Short}
use Rattle.roam_screens.specs.Screenshot.{Screenshot}
use Rattle.roam_acts.specs.Acts.{IsAct}
use Rattle.roam_acts.specs.Senders.{Typing, acked_to, last_number}
use Rattle.roam_sync.specs.declared.receivers.Step.{Step}
use Rattle.roam_sync.specs.declared.receivers.Step.TheVariants as step
use Rattle.roam_sync.specs.Receivers.{Receiving, pairs, state_at, from_floor, step_for}
use Rattle.roam_sync.specs.Links.{Delivers}
use Rattle.roam_wire.specs.declared.versions.Version.{Version}
use Rattle.roam_wire.specs.Datagrams.{DatagramValue, IsDatagram, datagram_text}
use Rattle.roam_wire.specs.Gatherers.{Gathering, Answer, Whole, gather, fragment_of}
use Rattle.roam_wire.specs.declared.datagrams.Kind.{Kind}
use Rattle.roam_wire.specs.Headers.{checked_header, datagram_at, datagram_if, datagram_with, header_at, Refuses}
use Rattle.roam_wire.specs.Instructions.{DownValue, IsDown, down_text, reason_for}
use Rattle.roam_model.specs.Moments.{owed_from}
use Rattle.roam_model.specs.Versions.{applied_by}
use Rattle.roam_model.specs.Texts.{SaysDown, update_in}
use Rattle.roam_model.specs.Clients.{moment_of}
use Rattle.roam_model.specs.ClientArrivals.{arriving, arriving_gathered, after_fragment, hearing_of}
use Rattle.roam_model.specs.Arrival.{turned_away, noted}
use Rattle.roam_acts.proofs.Fields.{IsBytes}
use Rattle.roam_wire.proofs.Heads.{found}
use Rattle.roam_hub.specs.declared.clients.Heard.{Heard}
use Rattle.roam_hub.specs.Clients.{ClientView, keeping, hearing_in, Delivered, NotDelivered, unread as not_read, bad_change as bad_change_of, no_memory as wants_memory, IsTextOf, Hears, no_datagram, refused, fragment, unread, bad_change, whole, no_memory}

-- ---- an instruction's text

pub text_unread : (version : Version) (text : List ℕ) (r : Receiving Screenshot) (fault : Fault)
    → (fault ≡ OutOfMemory) ⊎ (fault ≡ BadDatagram (reason_for 32 text))
    → ((v : DownValue) → IsDown v → text ≡ down_text v → fault ≡ OutOfMemory) → NotDelivered version text r fault
text_unread version text r fault (inl e) only = wants_memory e
text_unread version text r fault (inr e) only =
    not_read (reason_for 32 text)
    (record {
      none = (λ v is t. let z : BadDatagram (reason_for 32 text) ≡ OutOfMemory = sym e ∙ only v is t in absurd (cc));
      reason = refl;
    }) e

-- the state that a new update starts from
pub base_held : (r : Receiving Screenshot) (old new floor : ℕ) → step_for r old new floor ≡ step.New
    → (base : Screenshot) × (state_at old (pairs r) ≡ Some base)
base_held r old new floor =
    go (nat_le new r.newest.number) (state_at old (pairs r)) refl (nat_le 8 (length (from_floor floor (pairs r))))
  where
    go : (a : Bool) (o : Option Screenshot) → state_at old (pairs r) ≡ o → (b : Bool)
        → cond a step.Old (cond (is_none o) step.Gap (cond b step.Gap step.New)) ≡ step.New
        → (base : Screenshot) × (state_at old (pairs r) ≡ Some base)
    go a (Some s) e b f = (s, e)
    go true None e b f = absurd (cc)
    go false None e b f = absurd (cc)

pub text_refused : (version : Version) (text : List ℕ) (r : Receiving Screenshot) (v : DownValue) (fault : Fault) → SaysDown text v
    → step_for r v.old v.new v.floor ≡ step.New → (fault ≡ OutOfMemory) ⊎ (fault ≡ BadChange)
    → (fault ≡ BadChange → (base : Screenshot) → state_at v.old (pairs r) ≡ Some base → applied_by version base v.change ≡ None)
    → NotDelivered version text r fault
text_refused version text r v fault says new (inl e) bad = wants_memory e
text_refused version text r v fault says new (inr e) bad =
    let b = base_held r v.old v.new v.floor new in
    bad_change_of v b.0 says new b.1 (bad e b.0 b.1) e

-- the acts that aren't acknowledged are still acts
pub acts_acked : (old new : Typing) (n : ℕ) → new ≡ acked_to old n → All IsAct old.acts → All IsAct new.acts
acts_acked old new n e all =
    subst (λ (s : Typing). All IsAct s.acts) (sym e) (go (nat_le n old.acked) (nat_lt (last_number old) n))
  where
    go : (a b : Bool)
        → All IsAct (cond {A = Typing} a old (cond {A = Typing} b old (record { acked = n; acts = drop (n - old.acked) old.acts }))).acts
    go true b = all
    go false true = all
    go false false = All-drop IsAct (n - old.acked) old.acts all

-- the newest number stays below 2^62
pub delivered_number : (version : Version) (text : List ℕ) (old : Typing) (r : Receiving Screenshot) (answer : Step) (owes : Bool)
    (new : Typing) (r' : Receiving Screenshot) → Delivered version text old r answer owes new r' → r.newest.number < 2 ^ 62 → r'.newest.number < 2 ^ 62
delivered_number version text old r answer owes new r' t low = go (step_for r t.value.old t.value.new t.value.floor) refl
  where
    other : (s : Step) → step_for r t.value.old t.value.new t.value.floor ≡ s → (s ≡ step.New → ⊥) → r'.newest.number < 2 ^ 62
    other s e not =
        subst (λ (x : Receiving Screenshot). x.newest.number < 2 ^ 62) (sym (t.delivers.other (λ f. not (sym e ∙ f)))) low

    go : (s : Step) → step_for r t.value.old t.value.new t.value.floor ≡ s → r'.newest.number < 2 ^ 62
    go step.New e = subst (λ (n : ℕ). n < 2 ^ 62) (sym (t.delivers.fresh e).number) t.says.is.new
    go step.Old e = other step.Old e (λ f. absurd (cc))
    go step.Gap e = other step.Gap e (λ f. absurd (cc))

-- ---- bytes

-- bytes of which a datagram is read are one's text
pub text_there : (bytes : List ℕ) → IsBytes bytes → IsOk (datagram_at bytes) → (d : DatagramValue) × IsTextOf bytes d
text_there bytes fits ok =
    go (nat_lt (length bytes) 42) refl (checked_header (header_at bytes) (length (drop 42 bytes))) refl ok
  where
    go : (b : Bool) → nat_lt (length bytes) 42 ≡ b → (r : Result (Version × Kind) Reason)
        → checked_header (header_at bytes) (length (drop 42 bytes)) ≡ r
        → IsOk (cond b (Err Short) (datagram_if (header_at bytes) (drop 42 bytes) r)) → (d : DatagramValue) × IsTextOf bytes d
    go true f r e there = absurd (cc)
    go false f (Err why) e there = absurd (cc)
    go false f (Ok p) e there =
        let long : 42 ≤ length bytes = grind (arith, nat_tests, f) in
        let read = found bytes p.0 p.1 long fits e in
        (datagram_with (header_at bytes) (drop 42 bytes) p.0 p.1, record { is = read.0; spelled = read.1 })

pub not_datagram : (v : ClientView) (bytes : List ℕ) (now : ℕ) (fault : Fault) → IsBytes bytes → Refuses (datagram_at bytes) fault
    → ((d : DatagramValue) → IsDatagram d → bytes ≡ datagram_text d → fault ≡ OutOfMemory) → Hears v bytes now (Err fault) v
not_datagram v bytes now OutOfMemory fits why only = let t = text_there bytes fits why in no_memory t.0 t.1 refl refl
not_datagram v bytes now (BadDatagram r) fits why only =
    no_datagram r
    (record { none = (λ d is t. let z : BadDatagram r ≡ OutOfMemory = only d is t in absurd (cc)); reason = why })
    refl refl
not_datagram v bytes now _ fits why only = absurd why

-- ---- a datagram

-- the clauses about an instance are those about an equal one
pub heard_alike : {v v' new : ClientView} {bytes : List ℕ} {now : ℕ} {result : Result Heard Fault} → v ≡ v'
    → Hears v bytes now result new → Hears v' bytes now result new
heard_alike {v} {v'} {new} {bytes} {now} {result} same = subst (λ (x : ClientView). Hears x bytes now result new) same

-- a datagram of this instance: the gathered fragments decide its effect
abbrev pub Admits : ClientView → DatagramValue → Type 0
Admits v d = arriving v.session v.id v.kept d ≡ arriving_gathered (gather v.kept.gathering (fragment_of d))

pub not_gathered : (v : ClientView) (bytes : List ℕ) (now : ℕ) (d : DatagramValue) (fault : Fault) (g : Gathering)
    → IsTextOf bytes d → Admits v d → (fault ≡ OutOfMemory) ⊎ (fault ≡ BadDatagram Fragment)
    → (fault ≡ BadDatagram Fragment → gather v.kept.gathering (fragment_of d) ≡ None) → g ≡ v.kept.gathering
    → Hears v bytes now (Err fault) (keeping v (record v.kept { gathering = g }))
not_gathered v bytes now d fault g is ok (inl e) bad same =
    no_memory d is (ap (λ f. Err f) e) (λ i. keeping v (record v.kept { gathering = same i }))
not_gathered v bytes now d fault g is ok (inr e) bad same =
    refused d fault is (ok ∙ ap arriving_gathered (bad e) ∙ ap turned_away (sym e)) refl
    (λ i. keeping v (record v.kept { gathering = same i }))

pub fragment_heard : (v : ClientView) (bytes : List ℕ) (now : ℕ) (d : DatagramValue) (h : Heard) (a : Answer) (g : Gathering) (moment : ℕ)
    → IsTextOf bytes d → Admits v d → gather v.kept.gathering (fragment_of d) ≡ Some (a, g)
    → arriving_gathered (Some (a, g)) ≡ noted (hearing_in h) g → moment ≡ moment_of v.kept now
    → Hears v bytes now (Ok h) (keeping v (after_fragment v.kept moment g))
fragment_heard v bytes now d h a g moment is ok e k m =
    fragment d h g is (ok ∙ ap arriving_gathered e ∙ k) refl (λ i. keeping v (after_fragment v.kept (m i) g))

pub not_delivered : (v : ClientView) (bytes : List ℕ) (now : ℕ) (d : DatagramValue) (fault : Fault) (text : List ℕ) (g g' : Gathering)
    (version : Version) (acts : Typing) (r : Receiving Screenshot)
    → IsTextOf bytes d → Admits v d → gather v.kept.gathering (fragment_of d) ≡ Some (Whole text, g)
    → NotDelivered v.kept.version text v.kept.receiver fault → g' ≡ v.kept.gathering → version ≡ v.kept.version → acts ≡ v.kept.acts
    → r ≡ v.kept.receiver
    → Hears v bytes now (Err fault) (keeping v (record v.kept { version = version; acts = acts; gathering = g'; receiver = r }))
not_delivered v bytes now d fault text g g' version acts r is ok e why same_g same_v same_a same_r = go why
  where
    stays : keeping v (record v.kept { version = version; acts = acts; gathering = g'; receiver = r }) ≡ v
    stays = λ i. keeping v (record v.kept { version = same_v i; acts = same_a i; gathering = same_g i; receiver = same_r i })

    go : NotDelivered v.kept.version text v.kept.receiver fault
        → Hears v bytes now (Err fault) (keeping v (record v.kept { version = version; acts = acts; gathering = g'; receiver = r }))
    go (not_read w says f) = unread d g text w is (ok ∙ ap arriving_gathered e) says (ap (λ x. Err x) f) stays
    go (bad_change_of u base says new held none f) =
        bad_change d g text u base is (ok ∙ ap arriving_gathered e) says new held none (ap (λ x. Err x) f) stays
    go (wants_memory f) = no_memory d is (ap (λ x. Err x) f) stays

pub is_sent_to : (v : ClientView) (bytes : List ℕ) (now : ℕ) (d : DatagramValue) (h : Heard) (text : List ℕ) (g : Gathering) (answer : Step)
    (newer : Bool) (version : Version) (acts : Typing) (r : Receiving Screenshot) (owed : Option ℕ) (moment : ℕ)
    → IsTextOf bytes d → Admits v d → gather v.kept.gathering (fragment_of d) ≡ Some (Whole text, g)
    → Delivered v.kept.version text v.kept.acts v.kept.receiver answer newer acts r → hearing_in h ≡ hearing_of answer
    → version ≡ v.kept.version
    → owed ≡ cond newer (owed_from v.kept.owed moment) v.kept.owed → moment ≡ moment_of v.kept now
    → Hears v bytes now (Ok h)
    (keeping v (record v.kept { version = version; acts = acts; gathering = g; receiver = r; owed = owed; clock = moment }))
is_sent_to v bytes now d h text g answer newer version acts r owed moment is ok e t how same_v owes m =
    whole d h g text t.value r is (ok ∙ ap arriving_gathered e) t.says t.delivers refl (how ∙ ap hearing_of t.step)
    (λ i. keeping v (record v.kept {
      version = same_v i;
      acts = t.acts i;
      gathering = g;
      receiver = r;
      owed = (owes ∙ (λ j. cond (t.newer j) (owed_from v.kept.owed (m j)) v.kept.owed)) i;
      clock = m i;
    }))
