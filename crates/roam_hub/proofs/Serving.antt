-- The model of a server of the code, after its calls.
use Rattle.std.proofs.Common.{◌≡◌, ℕ, ◌≤◌, max, List, [], ◌∷◌, ◌++◌, length, map, take, Option, Some, None, Bool, true, false, refl, sym, ap, ◌∙◌, subst, cond, arith, length-append}
use Rattle.std.specs.Prelude.{if◌then◌else◌, Ok, Err, nat_eq, nat_lt, not, is_some, ◌||◌}
use Rattle.std.specs.List.{IsDistinct}
use Rattle.std.specs.Map.{keys_of, lookup}
use Rattle.std.proofs.lemmas.List.{take-append-le}
use Rattle.roam_cells.specs.declared.faults.Fault.{Fault}
use Rattle.roam_cells.specs.declared.faults.Fault.TheVariants.{OutOfMemory, BadSize, TooSmall, NoPane, PanesFull, LastPane, Busy, TooLong, BadDatagram, OtherSession, OtherClient, ClientsFull, BadChange, SendFull, Spent, BadAct, Watching}
use Rattle.roam_cells.specs.declared.faults.Reason.TheVariants as reason
use Rattle.roam_screens.specs.Screenshot.{Screenshot}
use Rattle.roam_acts.specs.declared.acts.Act.{Act}
use Rattle.roam_wire.specs.Datagrams.{DatagramValue, IsDatagram, datagram_text}
use Rattle.roam_wire.specs.Headers.{datagram_at, Refuses}
use Rattle.roam_wire.specs.Gatherers.{Gathering, gather, fragment_of}
use Rattle.roam_wire.specs.Instructions.{UpValue}
use Rattle.roam_session.specs.Sessions.{SessionSize, Entry, Did, Given, Drained}
use Rattle.roam_session.specs.Refusals.{refuses_bytes, output_at, none_refused}
use Rattle.roam_session.specs.Faces.{face}
use Rattle.roam_session.specs.Stands.{SessionView, Stands as SessionStands, Appends, waiting_at}
use Rattle.roam_session.specs.Queues.{IsWithin}
use Rattle.roam_session.proofs.Entering.{waiting_is}
use Rattle.roam_acts.specs.Takers.{fresh_of}
use Rattle.roam_model.specs.Numbers.{cut_of, screen, first_screen}
use Rattle.roam_wire.specs.declared.versions.Version.TheVariants.{Two}
use Rattle.roam_model.specs.Texts.{Address, is_to_server, is_watching}
use Rattle.roam_model.specs.Versions.{is_same_version}
use Rattle.roam_model.specs.Lists.{with_value}
use Rattle.roam_model.specs.Servers.{Record, Server, new_server, moment, after_input}
use Rattle.roam_model.specs.ServerArrivals.{coming, coming_gathered, is_same, is_full_for, is_of_other, is_else, most_of, arrival_with, heard_from, informed_from, new_acts, after_acts, room_for}
use Rattle.roam_model.specs.Arrival.{turned_away}
use Rattle.roam_acts.proofs.Fields.{IsBytes}
use Rattle.roam_hub.specs.Clients.{IsTextOf}
use Rattle.roam_hub.proofs.Hearing.{text_there}
use Rattle.roam_hub.specs.declared.taking.Taking.{Taking}
use Rattle.roam_hub.specs.Servers.{RecordView, ServerView, kept_of, IsKept, Stands, Feeds, refused, taken, Drains, no_pane, gone, stop_after, Comes, no_datagram, fragment, unread, all_taken, no_room, no_memory_at_act, no_memory}
use Rattle.roam_hub.specs.Records.{answer_to_datagram, taking, TakesActs, all, full, no_memory as wants_memory, heard_by, informed_by, Notes, fragment as noted_fragment, instruction, NotNoted, no_fragment, unread as not_read, NotesIn, NotNotedIn, room, differs, IsOther, another_version, another_kind, alike_entries, fitted_record, entry_of}
use Rattle.roam_hub.proofs.Entries.{PutsWell, puts_well, was_kept, has_room, entry_is, found_at, room_is, is_full, Suits, suits, suits_put, there_is}

-- ---- a new server

pub stands_new : (session : ℕ) (size : SessionSize) (state : SessionView) (shot : Screenshot)
    (records : List (ℕ × RecordView)) → SessionStands state size [] → shot ≡ first_screen → records ≡ []
    → Stands (record {
      session = session;
      state = state;
      made = 0;
      screen = shot;
      made_at = 0;
      input = false;
      clock = 0;
      records = records;
    }) (new_server session size)
unfolding new_server
stands_new session size state shot records log first none =
    subst (λ (es : List (ℕ × RecordView)). Stands (record {
      session = session;
      state = state;
      made = 0;
      screen = shot;
      made_at = 0;
      input = false;
      clock = 0;
      records = es;
    }) (new_server session size)) (sym none) (record {
      session = refl;
      log = log;
      made = refl;
      cut = omega arith;
      screen = first;
      made_at = refl;
      input = refl;
      clock = refl;
      arrival = refl;
      records = tt;
      others = (λ id absent. refl);
    })

-- ---- inputs

-- a cut stays within a longer log, and its screen is the same
cut_stays : (c : ℕ) (log more : List Entry) → c ≤ length log → c ≤ length (log ++ more)
cut_stays c log more low = omega (arith, length-append log more)

cut_same : (c : ℕ) (log more : List Entry) → c ≤ length log → take c (log ++ more) ≡ take c log
cut_same c log more low = rw take-append-le

screen_stays : (size : SessionSize) (log more : List Entry) (cuts : List ℕ) (n : ℕ) → cut_of cuts n ≤ length log
    → screen Two size (log ++ more) cuts n ≡ screen Two size log cuts n
screen_stays size log more cuts n low = ap (λ (l : List Entry). cond (nat_eq n 0) first_screen (face size l)) (cut_same
    (cut_of cuts n) log more low)

pub stands_input : (v : ServerView) (s : Server) (entry : Entry) (state : SessionView) → Stands v s
    → SessionStands state s.size (s.log ++ entry ∷ []) → Stands (record v { state = state; input = true }) (after_input s entry)
stands_input v s entry state st log =
    record {
      session = st.session;
      log = log;
      made = st.made;
      cut = cut_stays (cut_of s.cuts (length s.cuts)) s.log (entry ∷ []) st.cut;
      screen = st.screen ∙ sym (screen_stays s.size s.log (entry ∷ []) s.cuts (length s.cuts) st.cut);
      made_at = st.made_at;
      input = refl;
      clock = st.clock;
      arrival = st.arrival;
      records = st.records;
      others = st.others;
    }

-- the session is the same
pub stands_same : (v : ServerView) (s : Server) (state : SessionView) → Stands v s → state ≡ v.state → Stands (record v { state = state }) s
stands_same v s state st e = subst (λ (x : SessionView). Stands (record v { state = x }) s) (sym e) st

-- ---- bytes of a pane

pub feeds_refused : (v : ServerView) (s : Server) (pane : ℕ) (bytes : List ℕ) (fault : Fault) (state : SessionView) → Stands v s
    → ((size : SessionSize) (log : List Entry) → SessionStands v.state size log → Some fault ≡ refuses_bytes size log pane bytes)
    → state ≡ v.state → Feeds s pane bytes (Err fault) (record v { state = state })
feeds_refused v s pane bytes fault state st why same = refused fault (sym (why s.size s.log st.log)) refl (stands_same v s state st same)

pub feeds_taken : (v : ServerView) (s : Server) (pane : ℕ) (bytes : List ℕ) (state : SessionView) → Stands v s
    → ((size : SessionSize) (log : List Entry) → SessionStands v.state size log → None ≡ refuses_bytes size log pane bytes)
    → Appends v.state state (Given pane bytes) → Feeds s pane bytes (Ok tt) (record v { state = state; input = true })
feeds_taken v s pane bytes state st why more =
    taken (sym (why s.size s.log st.log)) refl (stands_input v s (Given pane bytes) state st (more s.size s.log st.log))

pub drains_refused : (v : ServerView) (s : Server) (pane n : ℕ) (fault : Fault) (state : SessionView) → Stands v s
    → ((size : SessionSize) (log : List Entry) → SessionStands v.state size log → Some fault ≡ none_refused (output_at size log pane))
    → state ≡ v.state → Drains s pane n (Err fault) (record v { state = state })
drains_refused v s pane n fault state st why same = go (output_at s.size s.log pane) refl (why s.size s.log st.log)
  where
    go : (o : Option (List ℕ)) → output_at s.size s.log pane ≡ o → Some fault ≡ none_refused o
        → Drains s pane n (Err fault) (record v { state = state })
    go None e f = no_pane e (let z : fault ≡ NoPane = cc in ap (λ x. Err x) z) (stands_same v s state st same)
    go (Some output) e f = absurd (cc)

pub drains_gone : (v : ServerView) (s : Server) (pane n : ℕ) (state : SessionView) → Stands v s
    → ((size : SessionSize) (log : List Entry) → SessionStands v.state size log → None ≡ none_refused (output_at size log pane))
    → IsWithin n (waiting_at v.state.terms pane)
    → Appends v.state state (Drained pane n) → Drains s pane n (Ok tt) (record v { state = state; input = true })
drains_gone v s pane n state st why within more =
    go (output_at s.size s.log pane) refl (why s.size s.log st.log)
    (subst (IsWithin n) (waiting_is v.state pane s.size s.log st.log) within)
  where
    go : (o : Option (List ℕ)) → output_at s.size s.log pane ≡ o → None ≡ none_refused o → IsWithin n o
        → Drains s pane n (Ok tt) (record v { state = state; input = true })
    go None e f w = absurd (cc)
    go (Some output) e f w =
        gone output e w refl (stands_input v s (Drained pane n) state st (more s.size s.log st.log))

-- ---- a datagram

-- the direction and the session of a datagram are the server's
pub record Admits (v : ServerView) (d : DatagramValue) : Type 0 where
  pub kind : is_to_server d.kind ≡ true
  pub session : nat_eq d.session v.session ≡ true

here_is : (v : ServerView) (s : Server) (d : DatagramValue) → Stands v s → Admits v d → nat_eq d.session s.session ≡ true
here_is v s d st a = subst (λ (n : ℕ). nat_eq d.session n ≡ true) st.session a.session

-- the kind of a datagram depends on the records, on the room, and on the version and the kind of its record
coming_by : (s : Server) (d : DatagramValue) (a b c : Bool) → is_to_server d.kind ≡ true → nat_eq d.session s.session ≡ true
    → is_full_for s d ≡ a → is_of_other s d ≡ b → is_else s d ≡ c
    → coming s d ≡ cond a (turned_away ClientsFull) (cond b (turned_away (BadDatagram reason.Version))
    (cond c (turned_away (BadDatagram reason.Kind)) (coming_gathered (gather (s.records d.client).gathering (fragment_of d)))))
coming_by s d a b c k e f o x =
    λ i. cond (not (k i)) (turned_away (BadDatagram reason.Kind)) (cond (not (e i)) (turned_away OtherSession)
    (cond (f i) (turned_away ClientsFull) (cond (o i) (turned_away (BadDatagram reason.Version))
    (cond (x i) (turned_away (BadDatagram reason.Kind)) (coming_gathered (gather (s.records d.client).gathering (fragment_of d)))))))

coming_at : (v : ServerView) (s : Server) (d : DatagramValue) → Stands v s → Admits v d → is_full_for s d ≡ false → Suits s d
    → coming s d ≡ coming_gathered (gather (s.records d.client).gathering (fragment_of d))
coming_at v s d st a r f = coming_by s d false false false a.kind (here_is v s d st a) r f.version f.kind

turned_full : (v : ServerView) (s : Server) (d : DatagramValue) → Stands v s → Admits v d → lookup (nat_eq d.client) v.records ≡ None
    → most_of (is_watching d.kind) ≤ length (alike_entries (is_watching d.kind) v.records) → coming s d ≡ turned_away ClientsFull
turned_full v s d st a absent many =
    coming_by s d true (is_of_other s d) (is_else s d) a.kind (here_is v s d st a) (is_full v s d st absent many) refl refl

-- the record that is there is of another version or kind
turned_other : (v : ServerView) (s : Server) (d : DatagramValue) (x : RecordView) (fault : Fault) → Stands v s → Admits v d
    → lookup (nat_eq d.client) v.records ≡ Some x → IsOther x.version x.watches d fault → coming s d ≡ turned_away fault
turned_other v s d x fault st a at (another_version e why) =
    coming_by s d false true (is_else s d) a.kind (here_is v s d st a) (there_is v s d x st at).there
    ((there_is v s d x st at).version
    ∙ ap (λ (r : RecordView). not (is_same_version r.version d.version)) (sym (found_at v s d.client x st at)) ∙ ap not e) refl
    ∙ ap turned_away (sym why)
turned_other v s d x fault st a at (another_kind same e why) =
    coming_by s d false false true a.kind (here_is v s d st a) (there_is v s d x st at).there
    ((there_is v s d x st at).version
    ∙ ap (λ (r : RecordView). not (is_same_version r.version d.version)) (sym (found_at v s d.client x st at)) ∙ ap not same)
    ((there_is v s d x st at).kind
    ∙ ap (λ (r : RecordView). not (is_same r.watches (is_watching d.kind))) (sym (found_at v s d.client x st at)) ∙ ap not e)
    ∙ ap turned_away (sym why)

-- a server after a datagram was noted, with the new entries of the session
stands_noted : (v : ServerView) (s : Server) (id moment n : ℕ) (log : List Entry) (new : List (ℕ × RecordView)) (r : Record)
    (state : SessionView) (now : ℕ) → Stands v s → PutsWell v s id new r → SessionStands state s.size (s.log ++ log)
    → moment ≡ max now v.clock
    → Stands (record v { state = state; input = v.input || nat_lt 0 n; clock = moment; records = new }) (record s {
      log = s.log ++ log;
      input = s.input || nat_lt 0 n;
      clock = max now s.clock;
      records = with_value s.records id r;
      arrival = arrival_with s id;
    })
stands_noted v s id moment n log new r state now st p stands m =
    record {
      session = st.session;
      log = stands;
      made = st.made;
      cut = cut_stays (cut_of s.cuts (length s.cuts)) s.log log st.cut;
      screen = st.screen ∙ sym (screen_stays s.size s.log log s.cuts (length s.cuts) st.cut);
      made_at = st.made_at;
      input = ap (λ b. b || nat_lt 0 n) st.input;
      clock = m ∙ ap (λ (c : ℕ). max now c) st.clock;
      arrival = p.arrival;
      records = p.records;
      others = p.others;
    }

or_no : (b : Bool) → (b || false) ≡ b
or_no true = refl
or_no false = refl

take_all : {X : Type 0} (xs : List X) → take (length xs) xs ≡ xs
take_all [] = refl
take_all (x ∷ xs) = ap (λ ys. x ∷ ys) (take_all xs)

-- a server that noted a datagram
pub after_noted : (v : ServerView) (s : Server) (from : Address) (bytes : List ℕ) (d : DatagramValue) (now moment : ℕ) (t : Taking)
    (new : List (ℕ × RecordView)) (state : SessionView) → Stands v s → IsTextOf bytes d → Admits v d → moment ≡ max now v.clock
    → IsDistinct nat_eq (keys_of v.records) → NotesIn v.records v.state d from moment t new state
    → Comes s from bytes now (answer_to_datagram (Ok t))
    (record v { state = state; input = v.input || nat_lt 0 t.taken; clock = moment; records = new })
after_noted v s from bytes d now moment t new state st text admits m unique n = go n.notes
  where
    was : n.was ≡ kept_of (s.records d.client)
    was = was_kept v s d new n.was n.is st n.puts

    comes : coming s d ≡ coming_gathered (gather n.was.gathering (fragment_of d))
    comes =
        coming_at v s d st admits (has_room v s d new n.was n.is st n.puts) (suits_put v s d new n.was n.is st n.puts)
        ∙ sym (ap (λ (x : RecordView). coming_gathered (gather x.gathering (fragment_of d))) was)

    at : moment ≡ max now s.clock
    at = m ∙ ap (λ (c : ℕ). max now c) st.clock

    heard : (g : Gathering) → IsKept (heard_by (fitted_record n.was d) d from moment g) (heard_from (s.records d.client) d from (max now s.clock) g)
    heard g = record { known = refl; kept = λ i. heard_by (fitted_record (was i) d) d from (at i) g }

    informed : (g g' : Gathering) (u : UpValue) (k : ℕ) → g ≡ g'
        → IsKept (informed_by (fitted_record n.was d) d from moment g u k) (informed_from (s.records d.client) d from (max now s.clock) g' u k)
    informed g g' u k e = record { known = refl; kept = λ i. informed_by (fitted_record (was i) d) d from (at i) (e i) u k }

    -- the case that acts are done
    acts : (g g' : Gathering) (u : UpValue) (k : ℕ) (log : List Entry) → g ≡ g' → n.is ≡ informed_by (fitted_record n.was d) d from moment g u k
        → SessionStands state s.size (s.log ++ log)
        → Stands (record v { state = state; input = v.input || nat_lt 0 k; clock = moment; records = new }) (record s {
          log = s.log ++ log;
          input = s.input || nat_lt 0 k;
          clock = max now s.clock;
          records = with_value s.records d.client (informed_from (s.records d.client) d from (max now s.clock) g' u k);
          arrival = arrival_with s d.client;
        })
    acts g g' u k log e is stands =
        stands_noted v s d.client moment k log new (informed_from (s.records d.client) d from (max now s.clock) g' u k) state now st
        (puts_well v s d new n.was n.is _ st unique n.puts
        (subst (λ (x : RecordView). IsKept x (informed_from (s.records d.client) d from (max now s.clock) g' u k)) (sym is)
        (informed g g' u k e)))
        stands m

    go : Notes (fitted_record n.was d) v.state d from moment t n.is state
        → Comes s from bytes now (answer_to_datagram (Ok t))
        (record v { state = state; input = v.input || nat_lt 0 t.taken; clock = moment; records = new })
    go (noted_fragment g e none is same) =
        subst (λ (x : Taking). Comes s from bytes now (answer_to_datagram (Ok x))
        (record v { state = state; input = v.input || nat_lt 0 x.taken; clock = moment; records = new })) (sym none)
        (fragment d g text (comes ∙ e) refl (record {
          session = st.session;
          log = subst (λ (x : SessionView). SessionStands x s.size s.log) (sym same) st.log;
          made = st.made;
          cut = st.cut;
          screen = st.screen;
          made_at = st.made_at;
          input = or_no v.input ∙ st.input;
          clock = at;
          arrival = put_well.arrival;
          records = put_well.records;
          others = put_well.others;
        }))
      where
        put_well : PutsWell v s d.client new (heard_from (s.records d.client) d from (max now s.clock) g)
        put_well =
            puts_well v s d new n.was n.is _ st unique n.puts
            (subst (λ (x : RecordView). IsKept x (heard_from (s.records d.client) d from (max now s.clock) g)) (sym is) (heard g))
    go (instruction g whole u e says is done) =
        acts_told (subst (λ (x : RecordView). TakesActs s.size s.log d.client (fresh_of x.taken u.first u.acts) t state) was
        (done s.size s.log st.log))
      where
        same_now : t.stopped ≡ None → n.is ≡ informed_by (fitted_record n.was d) d from moment g u t.taken
        same_now none = is ∙ ap (λ (o : Option Fault). informed_by (fitted_record n.was d) d from moment
            (if is_some o then n.was.gathering else g) u t.taken) none

        back_now : (fault : Fault) → t.stopped ≡ Some fault
            → n.is ≡ informed_by (fitted_record n.was d) d from moment n.was.gathering u t.taken
        back_now fault stop =
            is ∙ ap (λ (o : Option Fault). informed_by (fitted_record n.was d) d from moment (if is_some o then n.was.gathering else g) u t.taken) stop

        before : n.was.gathering ≡ (s.records d.client).gathering
        before = ap (λ (x : RecordView). x.gathering) was

        back : (fault : Fault) (k : ℕ) → t ≡ taking k (Some fault) → SessionStands state s.size (s.log ++ map (Did d.client)
            (take k (new_acts s d u)))
            → Stands (record v { state = state; input = v.input || nat_lt 0 k; clock = moment; records = new })
            (after_acts s d from (max now s.clock) (s.records d.client).gathering u k)
        back fault k e stands =
            acts n.was.gathering (s.records d.client).gathering u k (map (Did d.client) (take k (new_acts s d u))) before
            (back_now fault (ap (λ (x : Taking). x.stopped) e)
            ∙ ap (λ (m : ℕ). informed_by (fitted_record n.was d) d from moment n.was.gathering u m) (ap (λ (x : Taking). x.taken) e)) stands

        told_as : (x : Taking) → t ≡ x
            → Comes s from bytes now (answer_to_datagram (Ok x))
            (record v { state = state; input = v.input || nat_lt 0 x.taken; clock = moment; records = new })
            → Comes s from bytes now (answer_to_datagram (Ok t))
            (record v { state = state; input = v.input || nat_lt 0 t.taken; clock = moment; records = new })
        told_as x e c =
            subst (λ (y : Taking). Comes s from bytes now (answer_to_datagram (Ok y))
            (record v { state = state; input = v.input || nat_lt 0 y.taken; clock = moment; records = new })) (sym e) c

        acts_told : TakesActs s.size s.log d.client (new_acts s d u) t state → Comes s from bytes now (answer_to_datagram (Ok t))
            (record v { state = state; input = v.input || nat_lt 0 t.taken; clock = moment; records = new })
        acts_told (all r x stands) =
            told_as (taking (length (new_acts s d u)) None) x
            (all_taken d g whole u text (comes ∙ e) says r refl
            (acts g g u (length (new_acts s d u)) (map (Did d.client) (take (length (new_acts s d u)) (new_acts s d u))) refl
            (same_now (ap (λ (y : Taking). y.stopped) x)
            ∙ ap (λ (m : ℕ). informed_by (fitted_record n.was d) d from moment g u m) (ap (λ (y : Taking). y.taken) x))
            (subst (λ (xs : List Act). SessionStands state s.size (s.log ++ map (Did d.client) xs)) (sym (take_all
            (new_acts s d u))) stands)))
        acts_told (full r x stands) =
            told_as (taking (room_for s d u) (Some Busy)) x
            (no_room d g whole u text (comes ∙ e) says r refl (back Busy (room_for s d u) x stands))
        acts_told (wants_memory k low x stands) =
            told_as (taking k (Some OutOfMemory)) x
            (no_memory_at_act d g whole u k text (comes ∙ e) says low refl (back OutOfMemory k x stands))

-- ---- a datagram that isn't noted

none_noted : (v : ServerView) (s : Server) (from : Address) (bytes : List ℕ) (d : DatagramValue) (now : ℕ) (fault : Fault) → Stands v s
    → IsTextOf bytes d → Admits v d → NotNotedIn v.records d fault → Comes s from bytes now (answer_to_datagram (Err fault)) v
none_noted v s from bytes d now fault st text admits (full absent many why) =
    refused d fault text (turned ∙ ap turned_away (sym why)) refl st
  where
    turned : coming s d ≡ turned_away ClientsFull
    turned = turned_full v s d st admits absent many
none_noted v s from bytes d now fault st text admits (differs x at o) =
    refused d fault text (turned_other v s d x fault st admits at o) refl st
none_noted v s from bytes d now fault st text admits (room free fits none) = go none
  where
    was : entry_of (lookup (nat_eq d.client) v.records) ≡ kept_of (s.records d.client)
    was = entry_is v s d.client st

    comes : coming s d ≡ coming_gathered (gather (entry_of (lookup (nat_eq d.client) v.records)).gathering (fragment_of d))
    comes =
        coming_at v s d st admits (room_is v s d st free) (suits v s d st fits)
        ∙ sym (ap (λ (x : RecordView). coming_gathered (gather x.gathering (fragment_of d))) was)

    go : NotNoted (entry_of (lookup (nat_eq d.client) v.records)) d fault → Comes s from bytes now (answer_to_datagram (Err fault)) v
    go (no_fragment e why) =
        refused d fault text (comes ∙ ap coming_gathered e ∙ ap turned_away (sym why)) refl st
    go (not_read g whole why e says f) =
        unread d g whole why text (comes ∙ e) says (ap (λ x. stop_after x 0) f) st
    go (wants_memory f) = no_memory d text (ap (λ x. stop_after x 0) f) st
none_noted v s from bytes d now fault st text admits (wants_memory f) = no_memory d text (ap (λ x. stop_after x 0) f) st

pub after_none : (v : ServerView) (s : Server) (from : Address) (bytes : List ℕ) (d : DatagramValue) (now : ℕ) (fault : Fault)
    (state : SessionView) (records : List (ℕ × RecordView)) → Stands v s → IsTextOf bytes d → Admits v d → state ≡ v.state
    → records ≡ v.records → NotNotedIn v.records d fault
    → Comes s from bytes now (answer_to_datagram (Err fault)) (record v { state = state; records = records })
after_none v s from bytes d now fault state records st text admits same_state same_records none =
    subst (λ (x : SessionView). Comes s from bytes now (answer_to_datagram (Err fault)) (record v { state = x; records = records })) (sym same_state)
    (subst (λ (es : List (ℕ × RecordView)). Comes s from bytes now (answer_to_datagram (Err fault)) (record v { records = es })) (sym same_records)
    (none_noted v s from bytes d now fault st text admits none))

-- a datagram of another direction or session
pub not_admitted : (v : ServerView) (s : Server) (from : Address) (bytes : List ℕ) (d : DatagramValue) (now : ℕ) (fault : Fault)
    → Stands v s
    → IsTextOf bytes d → ((x : Server) → x.session ≡ v.session → coming x d ≡ turned_away fault)
    → Comes s from bytes now (answer_to_datagram (Err fault)) v
not_admitted v s from bytes d now fault st text away = refused d fault text (away s (sym st.session)) refl st

-- ---- bytes

pub not_read_datagram : (s : Server) (from : Address) (bytes : List ℕ) (now : ℕ) (fault : Fault) (v : ServerView) → Stands v s
    → IsBytes bytes → Refuses (datagram_at bytes) fault
    → ((d : DatagramValue) → IsDatagram d → bytes ≡ datagram_text d → fault ≡ OutOfMemory) → Comes s from bytes now (answer_to_datagram (Err fault)) v
not_read_datagram s from bytes now OutOfMemory v st fits why only =
    let t = text_there bytes fits why in no_memory t.0 t.1 refl st
not_read_datagram s from bytes now (BadDatagram r) v st fits why only =
    no_datagram r
    (record { none = (λ d is t. let z : BadDatagram r ≡ OutOfMemory = only d is t in absurd (cc)); reason = why })
    refl st
not_read_datagram s from bytes now BadSize v st fits why only = absurd why
not_read_datagram s from bytes now TooSmall v st fits why only = absurd why
not_read_datagram s from bytes now NoPane v st fits why only = absurd why
not_read_datagram s from bytes now PanesFull v st fits why only = absurd why
not_read_datagram s from bytes now LastPane v st fits why only = absurd why
not_read_datagram s from bytes now Busy v st fits why only = absurd why
not_read_datagram s from bytes now TooLong v st fits why only = absurd why
not_read_datagram s from bytes now OtherSession v st fits why only = absurd why
not_read_datagram s from bytes now OtherClient v st fits why only = absurd why
not_read_datagram s from bytes now ClientsFull v st fits why only = absurd why
not_read_datagram s from bytes now BadChange v st fits why only = absurd why
not_read_datagram s from bytes now SendFull v st fits why only = absurd why
not_read_datagram s from bytes now Spent v st fits why only = absurd why
not_read_datagram s from bytes now BadAct v st fits why only = absurd why
not_read_datagram s from bytes now Watching v st fits why only = absurd why
