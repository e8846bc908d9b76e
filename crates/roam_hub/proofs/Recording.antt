-- The new state of a record.
use Rattle.std.proofs.Common.{◌≡◌, ◌⊎◌, ℕ, zero, suc, take, ◌+◌, ◌-◌, ◌%◌, ◌<◌, ◌≤◌, ◌^◌, List, [], ◌∷◌, ◌++◌, length, drop, Option, Some, None, Bool, true, false, inl, inr, refl, sym, ap, ◌∙◌, subst, cond, arith, Vec, length-drop}
use Rattle.std.specs.Prelude.{Result, Ok, Err, IfOk, OnOk, slice_get, nat_lt, nat_eq, is_some, unwrap_or, if◌then◌else◌}
use Rattle.std.specs.List.{All}
use Rattle.std.specs.Map.{lookup, set_value}
use Rattle.std.specs.declared.alloc.Global.{Global}
use Rattle.indexmap.specs.IndexMap.{insert_entry}
use Rattle.std.proofs.lemmas.Bool.Decides.{nat_tests}
use Rattle.std.proofs.lemmas.List.Elements.{All-drop, All-nil}
use Rattle.roam_cells.specs.declared.faults.Fault.{Fault}
use Rattle.roam_cells.specs.declared.faults.Fault.TheVariants.{OutOfMemory, BadDatagram}
use Rattle.roam_cells.specs.declared.faults.Reason.TheVariants.{Fragment}
use Rattle.roam_screens.specs.Screenshot.{Screenshot}
use Rattle.roam_acts.specs.declared.acts.Act.{Act}
use Rattle.roam_acts.specs.Acts.{IsInRange}
use Rattle.roam_acts.specs.Takers.{fresh_of}
use Rattle.roam_sync.specs.declared.senders.Held.{Held}
use Rattle.roam_sync.specs.Senders.{Sending, start, newest, last_of, count, acked, after_ack}
use Rattle.roam_wire.specs.declared.gatherers.Gathered.{Gathered}
use Rattle.roam_wire.specs.declared.gatherers.Gathered.TheVariants as gathered
use Rattle.roam_wire.specs.Datagrams.{DatagramValue}
use Rattle.roam_wire.specs.Gatherers.{Gathering, GathererValue, untaken, Whole, nothing, answer_of, gather, fragment_of}
use Rattle.roam_wire.specs.declared.versions.Version.{Version}
use Rattle.roam_wire.specs.Instructions.{UpValue, IsUp, IsUpOf, up_text, reason_for}
use Rattle.roam_session.specs.Sessions.{SessionSize, Entry}
use Rattle.roam_session.specs.Stands.{SessionView, Stands as SessionStands}
use Rattle.roam_model.specs.Moments.{owed_from}
use Rattle.roam_model.specs.Numbers.{first_screen}
use Rattle.roam_model.specs.Texts.{Address, is_watching, SaysUp}
use Rattle.roam_model.specs.Servers.{no_record}
use Rattle.roam_model.specs.ServerArrivals.{coming_gathered, is_same, most_of}
use Rattle.roam_model.proofs.Versions as versions
use Rattle.roam_hub.specs.declared.taking.Taking.{Taking}
use Rattle.roam_hub.specs.Servers.{RecordView, kept_of}
use Rattle.roam_hub.specs.Records.{taking, TakesActs, heard_by, informed_by, Notes, fragment, instruction, NotNoted, no_fragment, unread, no_memory, known, added, NotesIn, NotNotedIn, room, differs, entry_of, first_record, Fits, another_version, another_kind, NotHeard, other, fitting, fitted_record, alike_entries, acts_after}

pub new_record : (version v : Version) (watches : Bool) (g : Gathering) (taken : ℕ) (sender : Sending Screenshot) → v ≡ version
    → g ≡ nothing → taken ≡ 0 → sender ≡ start first_screen
    → record {
      version = v;
      watches = watches;
      gathering = g;
      taken = taken;
      sender = sender;
      heard_at = 0;
      latest = 0;
      address = record { host = 0; port = 0 };
      owed = None;
      datagrams = 0;
      instructions = 0;
    } ≡ first_record version watches
unfolding no_record
new_record version v watches g taken sender same e f h =
    λ i. record {
      version = same i;
      watches = watches;
      gathering = e i;
      taken = f i;
      sender = h i;
      heard_at = 0;
      latest = 0;
      address = record { host = 0; port = 0 };
      owed = None;
      datagrams = 0;
      instructions = 0;
    }

-- ---- a datagram

pub fragment_noted : (old : RecordView) (state : SessionView) (d : DatagramValue) (from : Address) (now : ℕ) (x : Gathered) (g : Gathering)
    (new : RecordView) → gather old.gathering (fragment_of d) ≡ Some (answer_of x, g)
    → ((text : Vec ℕ Global) → x ≡ gathered.Whole text → ⊥) → new ≡ heard_by old d from now g
    → Notes old state d from now (taking 0 None) new state
fragment_noted old state d from now gathered.Part g new e not is = fragment g (ap coming_gathered e) refl is refl
fragment_noted old state d from now gathered.Old g new e not is = fragment g (ap coming_gathered e) refl is refl
fragment_noted old state d from now (gathered.Whole text) g new e not is = absurd (not text refl)

pub up_unread : (old : RecordView) (d : DatagramValue) (text : List ℕ) (g : Gathering) (fault : Fault)
    → gather old.gathering (fragment_of d) ≡ Some (Whole text, g)
    → (fault ≡ OutOfMemory) ⊎ (fault ≡ BadDatagram (reason_for 18 text))
    → ((u : UpValue) → IsUpOf (is_watching d.kind) u → text ≡ up_text u → fault ≡ OutOfMemory) → NotNoted old d fault
up_unread old d text g fault at (inl e) only = no_memory e
up_unread old d text g fault at (inr e) only =
    unread g text (reason_for 18 text) (ap coming_gathered at)
    (record {
      none = (λ u is t. let z : BadDatagram (reason_for 18 text) ≡ OutOfMemory = sym e ∙ only u is t in absurd (cc));
      reason = refl;
    }) e

pub not_gathered : (old : RecordView) (d : DatagramValue) (fault : Fault) → (fault ≡ OutOfMemory) ⊎ (fault ≡ BadDatagram Fragment)
    → (fault ≡ BadDatagram Fragment → gather old.gathering (fragment_of d) ≡ None) → NotNoted old d fault
not_gathered old d fault (inl e) bad = no_memory e
not_gathered old d fault (inr e) bad = no_fragment (bad e) e

pub fresh_in_range : (taken first : ℕ) (acts : List Act) → All IsInRange acts → All IsInRange (fresh_of taken first acts)
fresh_in_range taken first acts all = go (nat_lt (taken + 1) first)
  where
    go : (b : Bool) → All IsInRange (cond {A = List Act} b [] (drop (taken + 1 - first) acts))
    go true = All-nil IsInRange
    go false = All-drop IsInRange (taken + 1 - first) acts all

-- so many acts are taken only below their numbers
pub taken_low : (taken n : ℕ) (u : UpValue) → IsUp u → taken < 2 ^ 62 + 64 → n ≤ length (fresh_of taken u.first u.acts)
    → taken + n < 2 ^ 62 + 64
taken_low taken n u is low few = go (nat_lt (taken + 1) u.first) refl few
  where
    go : (b : Bool) → nat_lt (taken + 1) u.first ≡ b → n ≤ length (cond {A = List Act} b [] (drop (taken + 1 - u.first) u.acts))
        → taken + n < 2 ^ 62 + 64
    go true e f = omega (arith, f)
    go false e f =
        let first = is.first.1 in
        let count = is.count in
        let left = length-drop (taken + 1 - u.first) u.acts in
        let at : u.first ≤ taken + 1 = grind (arith, nat_tests, e) in
        omega (arith, f, first, count, left, at, low)

-- fewer than 2^63 are taken then
pub fresh_few : (taken : ℕ) (u : UpValue) → IsUp u → taken < 2 ^ 62 + 64 → taken + length (fresh_of taken u.first u.acts) ≤ 2 ^ 63
fresh_few taken u is low =
    let z = taken_low taken (length (fresh_of taken u.first u.acts)) u is low (omega arith) in omega (arith, z)

acked_last : {S : Type 0} (all : Held S × List (Held S)) (base : Held S) (hs : List (Held S)) (k : ℕ)
    → last_of all.0 all.1 ≡ last_of base hs → last_of (after_ack all hs k).0 (after_ack all hs k).1 ≡ last_of all.0 all.1
acked_last all base [] k e = refl
acked_last {S} all base (h ∷ hs) k e = go (nat_eq h.number k) (acked_last all h hs k e)
  where
    go : (b : Bool) → last_of (after_ack all hs k).0 (after_ack all hs k).1 ≡ last_of all.0 all.1
        → last_of (cond {A = Held S × List (Held S)} b (h, hs) (after_ack all hs k)).0
        (cond {A = Held S × List (Held S)} b (h, hs) (after_ack all hs k)).1 ≡ last_of all.0 all.1
    go true next = sym e
    go false next = next

-- an acknowledgement leaves the newest
pub newest_acked : {S : Type 0} (s : Sending S) (k : ℕ) → newest (acked s k) ≡ newest s
newest_acked s k = acked_last (s.base, s.later) s.base s.later k refl

-- the pairs from a number on are all pairs, or there is a pair of that number and they are fewer
ack_cases : {S : Type 0} (all : Held S × List (Held S)) (hs : List (Held S)) (k : ℕ) → (after_ack all hs k ≡ all)
    ⊎ (((after_ack all hs k).0.number ≡ k) × (length (after_ack all hs k).1 < length hs))
ack_cases all [] k = inl refl
ack_cases {S} all (h ∷ hs) k = go (nat_eq h.number k) refl (ack_cases all hs k)
  where
    go : (b : Bool) → nat_eq h.number k ≡ b
        → (after_ack all hs k ≡ all) ⊎ (((after_ack all hs k).0.number ≡ k) × (length (after_ack all hs k).1 < length hs))
        → (cond {A = Held S × List (Held S)} b (h, hs) (after_ack all hs k) ≡ all)
        ⊎ (((cond {A = Held S × List (Held S)} b (h, hs) (after_ack all hs k)).0.number ≡ k)
        × (length (cond {A = Held S × List (Held S)} b (h, hs) (after_ack all hs k)).1 < length (h ∷ hs)))
    go true e next = inr (let z : h.number ≡ k = grind (arith, nat_tests, e) in z, omega arith)
    go false e (inl same) = inl same
    go false e (inr less) = let few = less.1 in inr (less.0, omega (arith, few))

-- if there are fewer after an acknowledgement, its number is the base's
pub base_is : {S : Type 0} (s t : Sending S) (k base before after result : ℕ) → base ≡ s.base.number → before ≡ count s
    → t ≡ acked s k → after ≡ count t → result ≡ (if nat_lt after before then k else base) → result ≡ t.base.number
base_is s t k base before after result b e is f r =
    r ∙ go (nat_lt after before) refl (ack_cases (s.base, s.later) s.later k) ∙ ap (λ x. x.base.number) (sym is)
  where
    left : after ≡ count (acked s k)
    left = f ∙ ap count is

    go : (c : Bool) → nat_lt after before ≡ c → (after_ack (s.base, s.later) s.later k ≡ (s.base, s.later))
        ⊎ (((after_ack (s.base, s.later) s.later k).0.number ≡ k) × (length (after_ack (s.base, s.later) s.later k).1 < length s.later))
        → cond c k base ≡ (acked s k).base.number
    go true g (inl same) =
        let some = ap (λ all. length all.1) same in
        let low : after < before = grind (arith, nat_tests, g) in
        absurd (omega (arith, some, low, left, e))
    go true g (inr less) = sym less.0
    go false g (inl same) = b ∙ ap (λ all. all.0.number) (sym same)
    go false g (inr less) =
        let few = less.1 in
        let low : before ≤ after = grind (arith, nat_tests, g) in
        absurd (omega (arith, few, low, left, e))

pub acts_noted : (old : RecordView) (before after : SessionView) (d : DatagramValue) (from : Address) (now : ℕ) (text : List ℕ)
    (u : UpValue)
    (g kept : Gathering) (t : Taking) (new : RecordView) → gather old.gathering (fragment_of d) ≡ Some (Whole text, g)
    → SaysUp (is_watching d.kind) text u
    → kept ≡ (if is_some t.stopped then old.gathering else g)
    → new ≡ informed_by old d from now kept u t.taken
    → ((size : SessionSize) (log : List Entry) → SessionStands before size log
    → TakesActs size log d.client (fresh_of old.taken u.first u.acts) t after) → Notes old before d from now t new after
acts_noted old before after d from now text u g kept t new at says is new_is done =
    instruction g text u (ap coming_gathered at) says (new_is ∙ ap (λ (x : Gathering). informed_by old d from now x u t.taken) is) done

-- the gathered fragments once the acts are done
pub kept_as : (old : Gathering) (g : GathererValue) (kept : Gathering) (stopped : Bool) (stop : Option Fault)
    → kept ≡ (if stopped then (untaken g).current else g.current) → stopped ≡ is_some stop → g.before ≡ Some old
    → kept ≡ (if is_some stop then old else g.current)
kept_as old g kept stopped stop e is before =
    e ∙ (λ i. cond (is i) (unwrap_or (before i) g.current) g.current)

pub informed_as : (old : RecordView) (d : DatagramValue) (from : Address) (now : ℕ) (g : Gathering) (u : UpValue) (n : ℕ)
    (version : Version) (taken : ℕ) (sender : Sending Screenshot) (owed : Option ℕ) → version ≡ old.version → taken ≡ old.taken + n → sender ≡ acked old.sender u.acked
    → owed ≡ (if nat_eq (length u.acts) 0 then old.owed else owed_from old.owed now)
    → record (heard_by old d from now g) { version = version; taken = taken; sender = sender; owed = owed }
    ≡ informed_by old d from now g u n
informed_as old d from now g u n version taken sender owed v e f h =
    λ i. record (heard_by old d from now g) { version = v i; taken = e i; sender = f i; owed = h i }

-- ---- the record of an instance

pub with_both : (r : Result Taking Fault) (P : Taking → Type 0) (Q : Type 0) → IfOk r P → OnOk r Q → IfOk r (λ t. Q × P t)
with_both (Ok t) P Q p q = (q, p)
with_both (Err e) P Q p q = tt

-- one more record is counted, or not
alike_more : (w : Bool) (es : List (ℕ × RecordView)) (k : ℕ) (e : ℕ × RecordView) → slice_get es k ≡ Some e
    → length (alike_entries w (take (suc k) es)) ≡ cond (is_same e.1.watches w) (length (alike_entries w (take k es)) + 1)
    (length (alike_entries w (take k es)))
alike_more w [] k e h = absurd (cc)
alike_more w (x ∷ es) zero e h =
    let z : x ≡ e = cc in
    go (is_same x.1.watches w) ∙ ap (λ (y : ℕ × RecordView). cond (is_same y.1.watches w) 1 0) z
  where
    go : (b : Bool) → length (cond {A = List (ℕ × RecordView)} b (x ∷ []) []) ≡ cond b 1 0
    go true = refl
    go false = refl
alike_more w (x ∷ es) (suc k) e h =
    go (is_same x.1.watches w) (is_same e.1.watches w) (alike_more w es k e h)
  where
    go : (a b : Bool) → length (alike_entries w (take (suc k) es)) ≡ cond b (length (alike_entries w (take k es)) + 1)
        (length (alike_entries w (take k es)))
        → length (cond {A = List (ℕ × RecordView)} a (x ∷ alike_entries w (take (suc k) es)) (alike_entries w (take (suc k) es)))
        ≡ cond b (length (cond {A = List (ℕ × RecordView)} a (x ∷ alike_entries w (take k es)) (alike_entries w (take k es))) + 1)
        (length (cond {A = List (ℕ × RecordView)} a (x ∷ alike_entries w (take k es)) (alike_entries w (take k es))))
    go false b f = f
    go true true f = omega (arith, f)
    go true false f = omega (arith, f)

pub counted_more : (w : Bool) (es : List (ℕ × RecordView)) (k n m : ℕ) (e : ℕ × RecordView) (b : Bool) → slice_get es k ≡ Some e
    → n ≡ length (alike_entries w (take k es)) → b ≡ is_same e.1.watches w → m ≡ (if b then n + 1 else n)
    → m ≡ length (alike_entries w (take (k + 1) es))
counted_more w es k n m e b at count is more =
    more ∙ (λ i. cond (is i) (count i + 1) (count i)) ∙ sym (alike_more w es k e at)
    ∙ ap (λ (j : ℕ). length (alike_entries w (take j es))) (let z : suc k ≡ k + 1 = omega arith in z)

-- one more record's acts
acts_more : (es : List (ℕ × RecordView)) (k n : ℕ) (e : ℕ × RecordView) → slice_get es k ≡ Some e
    → acts_after n (take (suc k) es) ≡ (acts_after n (take k es) + e.1.taken) % 2 ^ 64
unfolding acts_after
acts_more [] k n e h = absurd (cc)
acts_more (x ∷ es) zero n e h =
    let z : x ≡ e = cc in
    ap (λ (y : ℕ × RecordView). (n + y.1.taken) % 2 ^ 64) z
acts_more (x ∷ es) (suc k) n e h = acts_more es k ((n + x.1.taken) % 2 ^ 64) e h

pub no_acts : (es : List (ℕ × RecordView)) → acts_after 0 (take 0 es) ≡ 0
unfolding acts_after
no_acts es = refl

pub taken_more : (es : List (ℕ × RecordView)) (k n m a : ℕ) (e : ℕ × RecordView) → slice_get es k ≡ Some e
    → n ≡ acts_after 0 (take k es) → a ≡ e.1.taken → m ≡ (n + a) % 2 ^ 64 → m ≡ acts_after 0 (take (k + 1) es)
taken_more es k n m a e at before is more =
    more ∙ (λ i. (before i + is i) % 2 ^ 64) ∙ sym (acts_more es k 0 e at)
    ∙ ap (λ (j : ℕ). acts_after 0 (take j es)) (let z : suc k ≡ k + 1 = omega arith in z)

pub few_more : (k n m : ℕ) (b : Bool) → n ≤ k → m ≡ (if b then n + 1 else n) → m ≤ k + 1
few_more k n m true low e = omega (arith, low, e)
few_more k n m false low e = omega (arith, low, e)

take_all : {X : Type 0} (xs : List X) (k : ℕ) → length xs ≤ k → take k xs ≡ xs
take_all [] zero le = refl
take_all [] (suc k) le = refl
take_all (x ∷ xs) zero le = absurd (omega arith)
take_all (x ∷ xs) (suc k) le = ap (λ ys. x ∷ ys) (take_all xs k (omega arith))

pub take_whole_acts : (es : List (ℕ × RecordView)) (k n : ℕ) → length es ≤ k → n ≡ acts_after 0 (take k es) → n ≡ acts_after 0 es
take_whole_acts es k n le e = e ∙ ap (λ (xs : List (ℕ × RecordView)). acts_after 0 xs) (take_all es k le)

pub take_whole_alike : (w : Bool) (es : List (ℕ × RecordView)) (k n : ℕ) → length es ≤ k
    → n ≡ length (alike_entries w (take k es)) → n ≡ length (alike_entries w es)
take_whole_alike w es k n le e = e ∙ ap (λ (xs : List (ℕ × RecordView)). length (alike_entries w xs)) (take_all es k le)

-- as many as are counted
pub few_alike : (count most : ℕ) (watches w : Bool) (now old : List (ℕ × RecordView)) → count ≡ length (alike_entries watches now)
    → most ≡ most_of watches → now ≡ old → watches ≡ w → count < most → length (alike_entries w old) < most_of w
few_alike count most watches w now old c m same e low =
    subst (λ (k : ℕ). k < most_of w) (c ∙ (λ i. length (alike_entries (e i) (same i))))
    (subst (λ (k : ℕ). count < k) (m ∙ ap most_of e) low)

pub many_alike : (count most : ℕ) (watches w : Bool) (now old : List (ℕ × RecordView)) → count ≡ length (alike_entries watches now)
    → most ≡ most_of watches → now ≡ old → watches ≡ w → most ≤ count → most_of w ≤ length (alike_entries w old)
many_alike count most watches w now old c m same e low =
    subst (λ (k : ℕ). most_of w ≤ k) (c ∙ (λ i. length (alike_entries (e i) (same i))))
    (subst (λ (k : ℕ). k ≤ count) (m ∙ ap most_of e) low)

-- a datagram of a record's version and kind
pub same_kind : (a b : Bool) → is_same a b ≡ true → a ≡ b
same_kind true true e = refl
same_kind false false e = refl
same_kind true false e = absurd (cc)
same_kind false true e = absurd (cc)

pub is_fitted : (v : RecordView) (d : DatagramValue) → Fits v.version v.watches d → v ≡ fitted_record v d
is_fitted v d f =
    λ i. record v {
      version = versions.is_same-same v.version d.version f.version_is i;
      watches = same_kind v.watches (is_watching d.kind) f.watches_is i;
    }

-- a record of a new instance is of its first datagram's version and kind
pub first_fits : (d : DatagramValue) → Fits d.version (is_watching d.kind) d
first_fits d = record { version_is = versions.is_same-refl d.version; watches_is = go (is_watching d.kind) }
  where
    go : (b : Bool) → is_same b b ≡ true
    go true = refl
    go false = refl

pub noted_known : (id : ℕ) (old new : List (ℕ × RecordView)) (was is : RecordView) (before after : SessionView) (d : DatagramValue)
    (from : Address) (now : ℕ) (t : Taking) → id ≡ d.client → lookup (nat_eq id) old ≡ Some was → new ≡ set_value (nat_eq id) old is
    → Fits was.version was.watches d → Notes was before d from now t is after → NotesIn old before d from now t new after
noted_known id old new was is before after d from now t same at set fits notes =
    record {
      was = was;
      is = is;
      puts = known (ap (λ (i : ℕ). lookup (nat_eq i) old) (sym same) ∙ at) fits (set ∙ ap (λ (i : ℕ). set_value (nat_eq i) old is) same);
      notes = subst (λ (v : RecordView). Notes v before d from now t is after) (is_fitted was d fits) notes;
    }

pub known_not_noted : (id : ℕ) (old : List (ℕ × RecordView)) (was : RecordView) (d : DatagramValue) (fault : Fault) → id ≡ d.client
    → lookup (nat_eq id) old ≡ Some was → NotHeard was d fault → NotNotedIn old d fault
known_not_noted id old was d fault same at none = go none
  where
    here : lookup (nat_eq d.client) old ≡ Some was
    here = ap (λ (i : ℕ). lookup (nat_eq i) old) (sym same) ∙ at

    go : NotHeard was d fault → NotNotedIn old d fault
    go (other o) = differs was here o
    go (fitting f n) =
        room (λ absent. let z : Some was ≡ None = sym here ∙ absent in absurd (cc))
        (λ v e. let z : Some was ≡ Some v = sym here ∙ e in let same_v : was ≡ v = cc in
        subst (λ (x : RecordView). Fits x.version x.watches d) same_v f)
        (subst (λ (o : Option RecordView). NotNoted (entry_of o) d fault) (sym here) n)

-- a datagram that isn't noted in a record of a new instance isn't noted in none
unfitted : (d : DatagramValue) (fault : Fault) → NotNoted (first_record d.version (is_watching d.kind)) d fault
    → NotNoted (kept_of no_record) d fault
unfitted d fault (no_fragment e f) = no_fragment e f
unfitted d fault (unread g text why e says f) = unread g text why e says f
unfitted d fault (no_memory f) = no_memory f

pub new_not_noted : (old : List (ℕ × RecordView)) (was : RecordView) (d : DatagramValue) (fault : Fault)
    → lookup (nat_eq d.client) old ≡ None → length (alike_entries (is_watching d.kind) old) < most_of (is_watching d.kind)
    → was ≡ first_record d.version (is_watching d.kind) → NotHeard was d fault → NotNotedIn old d fault
new_not_noted old was d fault absent few first none =
    go (subst (λ (v : RecordView). NotHeard v d fault) first none)
  where
    go : NotHeard (first_record d.version (is_watching d.kind)) d fault → NotNotedIn old d fault
    go (other (another_version e f)) = let z = (first_fits d).version_is in absurd (cc)
    go (other (another_kind v e f)) = let z = (first_fits d).watches_is in absurd (cc)
    go (fitting f n) =
        room (λ x. few) (λ v e. let z : Some v ≡ None = sym e ∙ absent in absurd (cc))
        (subst (λ (o : Option RecordView). NotNoted (entry_of o) d fault) (sym absent) (unfitted d fault n))

inserted_last : (id : ℕ) (w : RecordView) (es : List (ℕ × RecordView)) → lookup (nat_eq id) es ≡ None
    → insert_entry nat_eq es id w ≡ es ++ (id, w) ∷ []
inserted_last id w [] none = refl
inserted_last id w (e ∷ es) none = go (nat_eq id e.0) none (inserted_last id w es)
  where
    go : (b : Bool) → cond b (Some e.1) (lookup (nat_eq id) es) ≡ None
        → (lookup (nat_eq id) es ≡ None → insert_entry nat_eq es id w ≡ es ++ (id, w) ∷ [])
        → cond b ((e.0, w) ∷ es) (e ∷ insert_entry nat_eq es id w) ≡ e ∷ es ++ (id, w) ∷ []
    go true n next = absurd (cc)
    go false n next = ap (λ (xs : List (ℕ × RecordView)). e ∷ xs) (next n)

pub noted_added : (old between new : List (ℕ × RecordView)) (was is : RecordView) (before after : SessionView) (d : DatagramValue)
    (from : Address) (now : ℕ) (t : Taking) → lookup (nat_eq d.client) old ≡ None
    → length (alike_entries (is_watching d.kind) old) < most_of (is_watching d.kind)
    → was ≡ first_record d.version (is_watching d.kind)
    → between ≡ old → new ≡ insert_entry nat_eq between d.client is → Notes was before d from now t is after
    → NotesIn old before d from now t new after
noted_added old between new was is before after d from now t absent few first same put notes =
    record {
      was = kept_of no_record;
      is = is;
      puts =
          added absent few refl
          (put ∙ ap (λ (es : List (ℕ × RecordView)). insert_entry nat_eq es d.client is) same ∙ inserted_last d.client is old absent);
      notes = subst (λ (v : RecordView). Notes v before d from now t is after) first notes;
    }

pub set_same : (id : ℕ) (es : List (ℕ × RecordView)) (v w : RecordView) → lookup (nat_eq id) es ≡ Some v → w ≡ v
    → set_value (nat_eq id) es w ≡ es
set_same id [] v w at same = refl
set_same id (e ∷ es) v w at same = go (nat_eq id e.0) at (λ a. set_same id es v w a same)
  where
    go : (b : Bool) → cond b (Some e.1) (lookup (nat_eq id) es) ≡ Some v
        → (lookup (nat_eq id) es ≡ Some v → set_value (nat_eq id) es w ≡ es)
        → cond b ((e.0, w) ∷ es) (e ∷ set_value (nat_eq id) es w) ≡ e ∷ es
    go true a next = let z : w ≡ e.1 = cc in ap (λ (x : RecordView). (e.0, x) ∷ es) z
    go false a next = ap (λ (xs : List (ℕ × RecordView)). e ∷ xs) (next a)
