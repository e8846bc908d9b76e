-- The datagrams of one instruction come to an instance that is ready for it, each at least once, in any order.
use Rattle.std.proofs.Common.{◌≡◌, ◌⊎◌, ℕ, zero, suc, ◌+◌, ◌<◌, Bool, true, false, ◌&&◌, not, cond, List, [], ◌∷◌, length, Option, Some, None, refl, sym, ap, ◌∙◌, subst, inl, inr, arith}
use Rattle.std.specs.Prelude.{nat_eq, nat_le, slice_get, Result, Err}
use Rattle.std.proofs.lemmas.Bool.Decides.{nat_tests}
use Rattle.roam_cells.specs.declared.faults.Fault.{Fault}
use Rattle.roam_cells.specs.declared.faults.Fault.TheVariants.{OutOfMemory, BadDatagram, OtherSession, OtherClient}
use Rattle.roam_cells.specs.declared.faults.Reason.TheVariants as reason
use Rattle.roam_screens.specs.Screenshot.{Screenshot}
use Rattle.roam_sync.specs.declared.receivers.Step.TheVariants as step
use Rattle.roam_sync.specs.Receivers.{Receiving, pairs, state_at, from_floor, step_for}
use Rattle.roam_sync.specs.Links.{Delivers}
use Rattle.roam_sync.proofs.Ends.{meets_old}
use Rattle.roam_wire.specs.Cutting.{fragments_of, joined_fragments}
use Rattle.roam_wire.specs.Datagrams.{DatagramValue, IsDatagram, datagram_text}
use Rattle.roam_wire.specs.Gatherers.{FragmentValue, Gathering, Answer, Part, Old, Whole, gather, fragment_of}
use Rattle.roam_wire.specs.Fragments.{all_there}
use Rattle.roam_wire.specs.AnyOrder.{IsFragmentOf, GathersOf, GathersWell, after}
use Rattle.roam_wire.specs.Instructions.{DownValue, IsDown, down_text}
use Rattle.roam_wire.specs.declared.versions.Version.{Version}
use Rattle.roam_wire.proofs.Arrive.{well}
use Rattle.roam_wire.proofs.Cuts.{joined-fragments}
use Rattle.roam_wire.proofs.Heads.{one_datagram}
use Rattle.roam_wire.proofs.Texts.{one_down}
use Rattle.roam_model.specs.Versions.{is_same_version, IsSeenBy, applied_by}
use Rattle.roam_model.specs.Lists.{IsIn}
use Rattle.roam_model.specs.Texts.{SaysDown, update_in, is_to_server}
use Rattle.roam_model.specs.Servers.{Record}
use Rattle.roam_model.specs.Clients.{Kept, Client, moment_of}
use Rattle.roam_model.specs.ClientArrivals.{Hearing, arriving, arriving_gathered, after_fragment, after_whole}
use Rattle.roam_model.specs.Arrival.{Arrival, turned_away, noted, completed}
use Rattle.roam_model.proofs.Versions.{is_same-refl, difference_leads}
use Rattle.roam_model.proofs.Gathered.{gathered_all, AllOf, Comes, all_gathered_anew, IsPart, IsSame, is_part}
use Rattle.roam_hub.specs.declared.clients.Heard.{Heard}
use Rattle.roam_hub.specs.Clients.{ClientView, Stands, IsTextOf, hearing_in, Hears}
use Rattle.roam_hub.specs.Clients.Hears.{no_datagram, refused, fragment, unread, bad_change, whole, no_memory}
use Rattle.roam_turns.specs.Calls.{ClientCall, RunOf}
use Rattle.roam_turns.specs.Calls.ClientCall.{Typed, ToClient, ClientTick}
use Rattle.roam_turns.specs.Cores.{client_step}
use Rattle.roam_turns.specs.Hops.{IsReady}
use Rattle.roam_turns.proofs.HopTick.{told, IsOf}

-- ---- whatever was gathered before was cut somehow

-- a fragment for each place, an empty one if none came
abbrev pub filled : List (Option (List ℕ)) → List (List ℕ)
filled [] = []
filled (None ∷ ps) = [] ∷ filled ps
filled (Some text ∷ ps) = text ∷ filled ps

filled_length : (ps : List (Option (List ℕ))) → length (filled ps) ≡ length ps
filled_length [] = refl
filled_length (None ∷ ps) = ap (λ n. suc n) (filled_length ps)
filled_length (Some text ∷ ps) = ap (λ n. suc n) (filled_length ps)

filled_there : (ps : List (Option (List ℕ))) (i : ℕ) (text : List ℕ) → slice_get ps i ≡ Some (Some text)
    → slice_get (filled ps) i ≡ Some text
filled_there [] i text e = absurd (cc)
filled_there (None ∷ ps) zero text e = absurd (cc)
filled_there (None ∷ ps) (suc i) text e = filled_there ps i text e
filled_there (Some t ∷ ps) zero text e = cc
filled_there (Some t ∷ ps) (suc i) text e = filled_there ps i text e

and_false : (a b : Bool) → b ≡ false → (a && b) ≡ false
and_false true b e = e
and_false false b e = refl

some_is : {X : Type 0} (x y : X) → Some x ≡ Some y → x ≡ y
some_is x y e = cc

after_gathers : (cuts : ℕ → List (List ℕ)) (g : Gathering) (p : FragmentValue) (x : Option (Answer × Gathering)) → GathersWell cuts g p x
    → GathersOf cuts g → GathersOf cuts (after g x)
after_gathers cuts g p None w is = is
after_gathers cuts g p (Some (a, h)) w is = w.0

finish : (cuts : ℕ → List (List ℕ)) (n : ℕ) (g : Gathering) (ps : List FragmentValue) → AllOf cuts n ps → GathersOf cuts g → g.id < n
    → ((i : ℕ) × Comes i ps) → ((i : ℕ) → i < length (cuts n) → Comes i ps)
    → (all_there (gathered_all g ps).fragments ≡ true) × ((gathered_all g ps).id ≡ n)
finish cuts n g [] all of lt some each = absurd some.1
finish cuts n g (p ∷ ps) all of lt some each = all_gathered_anew cuts n g p ps all of lt each

-- ---- one instruction

module _ (session id n : ℕ) (c : Client) (r : Record) (shot : Screenshot) (ready : IsReady n r c) (is_seen : IsSeenBy r.version shot)
    (down : IsDown (told r n shot)) where
  -- the instance with its kept part
  abbrev start_with : Kept → ClientView
  start_with x = record { session = session; id = id; kept = x }

  -- its number, and its fragments
  abbrev pub number : ℕ
  number = length r.instructions + 1

  abbrev pub fragments : List (List ℕ)
  fragments = fragments_of (down_text (told r n shot))

  abbrev pub cuts : ℕ → List (List ℕ)
  cuts k = cond (nat_eq k (length r.instructions + 1)) (fragments_of (down_text (told r n shot))) (filled c.kept.gathering.fragments)

  cuts_here : cuts number ≡ fragments
  cuts_here =
      let same : nat_eq (length r.instructions + 1) (length r.instructions + 1) ≡ true = grind (arith, nat_tests) in
      ap (λ (b : Bool). cond b fragments (filled c.kept.gathering.fragments)) same

  gathers_first : GathersOf cuts c.kept.gathering
  gathers_first =
      let low = ready.gathered in
      let other : nat_eq c.kept.gathering.id (length r.instructions + 1) ≡ false = grind (arith, nat_tests) in
      let at : cuts c.kept.gathering.id ≡ filled c.kept.gathering.fragments =
      ap (λ (b : Bool). cond b fragments (filled c.kept.gathering.fragments)) other in
      record {
        count = sym (filled_length c.kept.gathering.fragments) ∙ ap length (sym at);
        there = λ i text e. ap (λ (xs : List (List ℕ)). slice_get xs i) at ∙ filled_there c.kept.gathering.fragments i text e;
      }

  -- a datagram of it
  abbrev pub IsMine : DatagramValue → Type 0
  IsMine d = IsOf r.version session id (length r.instructions + 1) (fragments_of (down_text (told r n shot))) d

  fragment_of_it : (d : DatagramValue) → IsMine d → IsFragmentOf cuts (fragment_of d)
  fragment_of_it d o =
      let at : cuts d.id ≡ fragments = ap cuts o.number_is ∙ cuts_here in
      record { count = o.count_is ∙ ap length (sym at); there = ap (λ (xs : List (List ℕ)). slice_get xs d.index) at ∙ o.there }

  -- ---- an instance before and after its instruction is whole

  abbrev is_whole : Gathering → Bool
  is_whole g = nat_eq g.id (length r.instructions + 1) && all_there g.fragments

  record Early (x : Kept) : Type 0 where
    whole : is_whole x.gathering ≡ false
    receiver : x.receiver ≡ c.kept.receiver

  pub record Late (x : Kept) : Type 0 where
    pub number : x.receiver.newest.number ≡ n
    pub screen : x.receiver.newest.state ≡ shot

  record Keeps (x : Kept) : Type 0 where
    version : x.version ≡ c.kept.version
    of : GathersOf cuts x.gathering
    shows : Early x ⊎ Late x

  -- the effect of a fragment: the gatherer h, and if it came whole the instruction's text
  abbrev Leaves : Gathering → Gathering → Arrival Hearing → Type 0
  Leaves old h (turned_away f) = ⊥
  Leaves old h (noted how g) = (g ≡ h) × (is_whole old ≡ false → is_whole g ≡ false)
  Leaves old h (completed g text) = (g ≡ h) × (text ≡ down_text (told r n shot))

  gathered_leaves : (old : Gathering) (d : DatagramValue) → d.id ≡ length r.instructions + 1 → (x : Option (Answer × Gathering))
      → GathersWell cuts old (fragment_of d) x → IsPart x → IsSame old x → Leaves old (after old x) (arriving_gathered x)
  gathered_leaves old d at None g p s = absurd g
  gathered_leaves old d at (Some (Part, h)) g p s =
      (refl, (λ e. and_false (nat_eq h.id (length r.instructions + 1)) (all_there h.fragments) p))
  gathered_leaves old d at (Some (Old, h)) g p s = (refl, (λ e. ap is_whole s ∙ e))
  gathered_leaves old d at (Some (Whole text, h)) g p s =
      (refl, g.2 ∙ (ap (λ (k : ℕ). joined_fragments (cuts k)) at ∙ (ap joined_fragments cuts_here ∙ joined-fragments (down_text (told r n shot)))))

  arriving_leaves : (x : Kept) (d : DatagramValue) → Keeps x → IsMine d
      → Leaves x.gathering (after x.gathering (gather x.gathering (fragment_of d))) (arriving session id x d)
  arriving_leaves x d k is =
      go (is_to_server d.kind) (ap is_to_server is.kind_is) (nat_eq d.session session) (same d.session session is.session_is)
      (nat_eq d.client id) (same d.client id is.client_is) (is_same_version x.version d.version) fits
    where
      same : (a b : ℕ) → a ≡ b → nat_eq a b ≡ true
      same a b e = grind (arith, nat_tests)

      fits : is_same_version x.version d.version ≡ true
      fits = ap (is_same_version x.version) (is.version_is ∙ (sym ready.version ∙ sym k.version)) ∙ is_same-refl x.version

      go : (a : Bool) → a ≡ false → (b : Bool) → b ≡ true → (e : Bool) → e ≡ true → (f : Bool) → f ≡ true
          → Leaves x.gathering (after x.gathering (gather x.gathering (fragment_of d)))
          (cond a (turned_away (BadDatagram reason.Kind))
          (cond (not b) (turned_away OtherSession) (cond (not e) (turned_away OtherClient)
          (cond (not f) (turned_away (BadDatagram reason.Version)) (arriving_gathered (gather x.gathering (fragment_of d)))))))
      go true z b y e w f q = absurd (cc)
      go false z false y e w f q = absurd (cc)
      go false z true y false w f q = absurd (cc)
      go false z true y true w false q = absurd (cc)
      go false z true y true w true q =
          let part = is_part x.gathering (fragment_of d) in
          gathered_leaves x.gathering d is.number_is (gather x.gathering (fragment_of d))
          (well cuts x.gathering (fragment_of d) k.of (fragment_of_it d is)) part.0 part.1

  -- ---- the update is taken

  meets_new : step_for c.kept.receiver r.sender.base.number n r.sender.base.number ≡ step.New
  meets_new =
      let below = ready.below in
      let few = ready.few in
      let a : nat_le n c.kept.receiver.newest.number ≡ false = grind (arith, nat_tests) in
      let e : nat_le 8 (length (from_floor r.sender.base.number (pairs c.kept.receiver))) ≡ false = grind (arith, nat_tests) in
      rw (a, ready.base, e) refl

  -- the diff leads from the base to the screen
  leads : (base : Screenshot) → state_at r.sender.base.number (pairs c.kept.receiver) ≡ Some base
      → applied_by c.kept.version base (told r n shot).change ≡ Some shot
  leads base at =
      let same : base ≡ r.sender.base.state = some_is base r.sender.base.state (sym at ∙ ready.base) in
      ap (λ (v : Version). applied_by v base (told r n shot).change) ready.version
      ∙ (ap (λ (b : Screenshot). applied_by r.version b (told r n shot).change) same
      ∙ difference_leads r.version r.sender.base.state shot is_seen)

  taken : (x : Kept) (q : Receiving Screenshot) → x.version ≡ c.kept.version → x.receiver ≡ c.kept.receiver
      → Delivers (applied_by x.version) x.receiver (update_in (told r n shot)) q → (q.newest.number ≡ n) × (q.newest.state ≡ shot)
  taken x q version receiver heard =
      let here : Delivers (applied_by c.kept.version) c.kept.receiver (update_in (told r n shot)) q =
      subst (λ (v : Version). Delivers (applied_by v) c.kept.receiver (update_in (told r n shot)) q) version
      (subst (λ (g : Receiving Screenshot). Delivers (applied_by x.version) g (update_in (told r n shot)) q) receiver heard) in
      let t = here.fresh meets_new in
      (t.number, some_is q.newest.state shot (sym t.leads ∙ leads t.base t.held))

  kept_late : (x : Kept) (q : Receiving Screenshot) → Late x → Delivers (applied_by x.version) x.receiver (update_in (told r n shot)) q
      → q ≡ x.receiver
  kept_late x q late heard =
      let top = late.number in
      let old = meets_old x.receiver r.sender.base.number n r.sender.base.number (omega (arith, top)) in
      heard.other (λ new. let no : step.Old ≡ step.New = sym old ∙ new in cc)

  -- ---- one delivery

  record Delivered (x : Kept) (d : DatagramValue) (view : ClientView) : Type 0 where
    start : Kept
    stands : view ≡ start_with start
    keeps : Keeps start
    gathering : start.gathering ≡ after x.gathering (gather x.gathering (fragment_of d))

  deliver : (x : Kept) (d : DatagramValue) (bytes : List ℕ) (now : ℕ) (answer : Result Heard Fault) (new : ClientView) → Keeps x
      → IsDatagram d → IsMine d → bytes ≡ datagram_text d → ((answer ≡ Err OutOfMemory) → ⊥) → Hears (start_with x) bytes now answer new
      → Delivered x d new
  deliver x d bytes now answer new k is mine spelled fine heard = go heard
    where
      then_of : GathersOf cuts (after x.gathering (gather x.gathering (fragment_of d)))
      then_of = after_gathers cuts x.gathering (fragment_of d) (gather x.gathering (fragment_of d))
          (well cuts x.gathering (fragment_of d) k.of (fragment_of_it d mine)) k.of

      leaves : (d' : DatagramValue) (a : Arrival Hearing) → IsTextOf bytes d' → arriving session id x d' ≡ a
          → Leaves x.gathering (after x.gathering (gather x.gathering (fragment_of d))) a
      leaves d' a t e =
          let same : d ≡ d' = one_datagram d d' is t.is (sym spelled ∙ t.spelled) in
          subst (Leaves x.gathering (after x.gathering (gather x.gathering (fragment_of d)))) (ap (arriving session id x) same ∙ e)
          (arriving_leaves x d k mine)

      says_it : (text : List ℕ) (u : DownValue) → text ≡ down_text (told r n shot) → SaysDown text u → u ≡ told r n shot
      says_it text u e says = one_down u (told r n shot) says.is down (sym says.spelled ∙ e)

      go : Hears (start_with x) bytes now answer new → Delivered x d new
      go (no_datagram why none e st) = absurd (none.none d is spelled)
      go (refused d' f t a e st) = absurd (leaves d' (turned_away f) t a)
      go (fragment d' how g t a e st) =
          let p = leaves d' (noted (hearing_in how) g) t a in
          record {
            start = after_fragment x (moment_of x now) g;
            stands = st;
            keeps = record {
              version = k.version;
              of = subst (GathersOf cuts) (sym p.0) then_of;
              shows = elim k.shows [
                | inl early ↦ inl (record { whole = p.1 early.whole; receiver = early.receiver })
                | inr late ↦ inr (record { number = late.number; screen = late.screen })
              ];
            };
            gathering = p.0;
          }
      go (unread d' g text why t a none e st) = let p = leaves d' (completed g text) t a in absurd (none.none (told r n shot) down p.1)
      go (bad_change d' g text u base t a says fresh at none e st) =
          let p = leaves d' (completed g text) t a in
          let same = says_it text u p.1 says in
          let fresh' : step_for x.receiver r.sender.base.number n r.sender.base.number ≡ step.New =
          subst (λ (v : DownValue). step_for x.receiver v.old v.new v.floor ≡ step.New) same fresh in
          let at' : state_at r.sender.base.number (pairs x.receiver) ≡ Some base =
          subst (λ (v : DownValue). state_at v.old (pairs x.receiver) ≡ Some base) same at in
          let none' : applied_by x.version base (told r n shot).change ≡ None =
          subst (λ (v : DownValue). applied_by x.version base v.change ≡ None) same none in
          elim k.shows [
            | inl early ↦ absurd (
                let there : state_at r.sender.base.number (pairs c.kept.receiver) ≡ Some base =
                subst (λ (q : Receiving Screenshot). state_at r.sender.base.number (pairs q) ≡ Some base) early.receiver at' in
                let no : None ≡ Some shot = sym none' ∙ (ap (λ (v : Version). applied_by v base (told r n shot).change) k.version
                ∙ leads base there) in
                cc
                )
            | inr late ↦ absurd (
                let top = late.number in
                let old = meets_old x.receiver r.sender.base.number n r.sender.base.number (omega (arith, top)) in
                let no : step.Old ≡ step.New = sym old ∙ fresh' in
                cc
                )
          ]
      go (whole d' how g text u q t a says heard' e hearing st) =
          let p = leaves d' (completed g text) t a in
          let same = says_it text u p.1 says in
          let mine' : Delivers (applied_by x.version) x.receiver (update_in (told r n shot)) q =
          subst (λ (v : DownValue). Delivers (applied_by x.version) x.receiver (update_in v) q) same heard' in
          record {
            start = after_whole x (moment_of x now) g q u;
            stands = st;
            keeps = record {
              version = k.version;
              of = subst (GathersOf cuts) (sym p.0) then_of;
              shows = elim k.shows [
                | inl early ↦ (
                    let both = taken x q k.version early.receiver mine' in
                    inr (record { number = both.0; screen = both.1 })
                    )
                | inr late ↦ (
                    let still = kept_late x q late mine' in
                    inr (record {
                      number = ap (λ (z : Receiving Screenshot). z.newest.number) still ∙ late.number;
                      screen = ap (λ (z : Receiving Screenshot). z.newest.state) still ∙ late.screen;
                    })
                    )
              ];
            };
            gathering = p.0;
          }
      go (no_memory d is e st) = absurd (fine e)

  -- ---- all deliveries

  -- an instance is handed a datagram of the instruction, and memory isn't wanting
  abbrev pub IsGood : ClientCall → Type 0
  IsGood (ToClient bytes now answer) =
      (d : DatagramValue) × IsDatagram d × IsMine d × (bytes ≡ datagram_text d) × ((answer ≡ Err OutOfMemory) → ⊥)
  IsGood (Typed act answer) = ⊥
  IsGood (ClientTick now answer) = ⊥

  record Went (x : Kept) (calls : List ClientCall) (view : ClientView) : Type 0 where
    start : Kept
    stands : view ≡ start_with start
    keeps : Keeps start
    ps : List FragmentValue
    all : AllOf cuts number ps
    gathering : start.gathering ≡ gathered_all x.gathering ps
    comes : (bytes : List ℕ) (now : ℕ) (answer : Result Heard Fault) (d : DatagramValue) → IsIn (ToClient bytes now answer) calls
        → IsDatagram d → bytes ≡ datagram_text d → Comes d.index ps

  bytes_of : (bytes bytes' : List ℕ) (now now' : ℕ) (answer answer' : Result Heard Fault)
      → ToClient bytes now answer ≡ ToClient bytes' now' answer' → bytes ≡ bytes'
  bytes_of bytes bytes' now now' answer answer' e = cc

  goes : (old : ClientView) (x : Kept) (calls : List ClientCall) (view : ClientView) → old ≡ start_with x → Keeps x
      → ((call : ClientCall) → IsIn call calls → IsGood call) → RunOf client_step old calls view → Went x calls view
  goes old x [] view st k each run =
      record {
        start = x;
        stands = run ∙ st;
        keeps = k;
        ps = [];
        all = tt;
        gathering = refl;
        comes = λ bytes now answer d i is e. absurd i;
      }
  goes old x (Typed act answer ∷ calls) view st k each run = absurd (each (Typed act answer) (inl refl))
  goes old x (ClientTick now answer ∷ calls) view st k each run = absurd (each (ClientTick now answer) (inl refl))
  goes old x (ToClient bytes now answer ∷ calls) view st k each run =
      let good = each (ToClient bytes now answer) (inl refl) in
      let d = good.0 in
      let one = deliver x d bytes now answer run.0 k good.1 good.2 good.3 good.4
      (subst (λ (v : ClientView). Hears v bytes now answer run.0) st run.1) in
      let rest = goes run.0 one.start calls view one.stands one.keeps (λ call i. each call (inr i)) run.2 in
      record {
        start = rest.start;
        stands = rest.stands;
        keeps = rest.keeps;
        ps = fragment_of d ∷ rest.ps;
        all = (good.2.number_is, fragment_of_it d good.2, rest.all);
        gathering = rest.gathering ∙ ap (λ (g : Gathering). gathered_all g rest.ps) one.gathering;
        comes = λ bytes' now' answer' d' i is e. elim i [
          | inl same ↦ (
              let text = bytes_of bytes bytes' now now' answer answer' same in
              let one_of : d ≡ d' = one_datagram d d' good.1 is (sym good.3 ∙ (text ∙ e)) in
              inl (ap (λ (q : DatagramValue). q.index) one_of)
              )
          | inr more ↦ inr (rest.comes bytes' now' answer' d' more is e)
        ];
      }

  -- each fragment comes: the instance shows the number and the screen
  pub all_come : (old : ClientView) (calls : List ClientCall) (view : ClientView) → Stands old session id c
      → ((call : ClientCall) → IsIn call calls → IsGood call) → RunOf client_step old calls view → 0 < length fragments
      → ((i : ℕ) → i < length fragments → (d : DatagramValue) × IsDatagram d × (d.index ≡ i)
      × (now : ℕ) × (answer : Result Heard Fault) × IsIn (ToClient (datagram_text d) now answer) calls)
      → (view.kept.receiver.newest.number ≡ n) × (view.kept.receiver.newest.state ≡ shot)
  all_come old calls view st each run some all = go went.keeps.shows
    where
      low : c.kept.gathering.id < length r.instructions + 1
      low = let under = ready.gathered in omega (arith, under)

      first : Keeps c.kept
      first =
          record {
            version = refl;
            of = gathers_first;
            shows = inl (record {
              whole = let other : nat_eq c.kept.gathering.id (length r.instructions + 1) ≡ false = grind (arith, nat_tests, low) in
                  ap (λ (b : Bool). b && all_there c.kept.gathering.fragments) other;
              receiver = refl;
            });
          }

      went : Went c.kept calls view
      went = goes old c.kept calls view st first each run

      comes : (i : ℕ) → i < length fragments → Comes i went.ps
      comes i lt =
          let d = all i lt in
          subst (λ (j : ℕ). Comes j went.ps) d.2 (went.comes (datagram_text d.0) d.3 d.4 d.0 d.5 d.1 refl)

      is_all : (all_there (gathered_all c.kept.gathering went.ps).fragments ≡ true) × ((gathered_all c.kept.gathering went.ps).id ≡ number)
      is_all =
          finish cuts number c.kept.gathering went.ps went.all gathers_first low (0, comes 0 some)
          (λ i lt. comes i (subst (λ (xs : List (List ℕ)). i < length xs) cuts_here lt))

      whole_then : is_whole went.start.gathering ≡ true
      whole_then =
          let same : nat_eq (gathered_all c.kept.gathering went.ps).id (length r.instructions + 1) ≡ true =
          let e = is_all.1 in grind (arith, nat_tests) in
          ap is_whole went.gathering ∙ (ap (λ (b : Bool). b && all_there (gathered_all c.kept.gathering went.ps).fragments) same ∙ is_all.0)

      go : Early went.start ⊎ Late went.start → (view.kept.receiver.newest.number ≡ n) × (view.kept.receiver.newest.state ≡ shot)
      go (inl early) = absurd (let no : true ≡ false = sym whole_then ∙ early.whole in cc)
      go (inr late) = (
        ap (λ (v : ClientView). v.kept.receiver.newest.number) went.stands ∙ late.number,
        ap (λ (v : ClientView). v.kept.receiver.newest.state) went.stands ∙ late.screen,
      )
