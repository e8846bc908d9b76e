-- The waiting acts that turns take.
use Rattle.std.proofs.Common.{◌≡◌, ℕ, ◌+◌, ◌≤◌, ◌<◌, ◌-◌, arith, Bool, true, false, List, [], ◌∷◌, ◌++◌, length, drop, Option, Some, None, refl, sym, ap, subst, ◌∙◌, Result, Ok, Err, ◌⊎◌, inl, inr, append_assoc, append-nil, length-append}
use Rattle.std.proofs.KnownBytes.{Consumes-nil, Consumes-trans}
use Rattle.std.specs.Prelude.{IfOk, IfErr, IsErrAnd, IsTrue, ◌↔◌}
use Rattle.std.specs.Io.KnownBytes.{Appends, Consumes}
use Rattle.roam_acts.specs.declared.acts.Act.{Act}
use Rattle.roam_cells.specs.declared.faults.Fault.TheVariants.{OutOfMemory}
use Rattle.roam_faults.specs.declared.faults.RunFault.{RunFault}
use Rattle.roam_faults.specs.declared.faults.RunFault.TheVariants as run
use Rattle.roam_hub.specs.Clients.{ClientView}
use Rattle.roam_cells.specs.declared.addresses.Addr.{Addr}
use Rattle.roam_turns.specs.Cores.{client_step}
use Rattle.roam_turns.specs.Painting.{Led}
use Rattle.roam_turns.specs.Parts.{Makes}
use Rattle.roam_turns.specs.Turns.{AttachTurn, Types}
use Rattle.roam_turns.specs.declared.outer.Noted.{Noted}
use Rattle.roam_outer_terminal.specs.Silence.{due_of, notice_of}
use Rattle.roam_attach.specs.declared.client_ports.ClientPorts.{ClientPorts}
use Rattle.roam_terminal_input.specs.declared.typing.ActLines.{ActLines}
use Rattle.roam_terminal_input.specs.declared.typing.Stream.{Stream}
use Rattle.roam_terminal_input.specs.declared.typing.Stream.TheVariants.{Absent, Open, Ended, Spoiled, SpoiledLast}
use Rattle.roam_terminal_input.specs.Typing.{HasCome, Reads, Stands, longest_piece, refused_at}
use Rattle.roam_attach.specs.Runs.{IsHanded, IsOver, IsPending, Painted, RunsOn, TakesTurn, TakesTurns, Tells, Turn, longest_end, painted_by, taken_in, taken_of, quiet as nothing_told, told as silence_told}

abbrev pub turn_of : Option Act → Bool → Turn
turn_of next took = record { next = next; took = took }

-- the turns of an instance, one after another
turns_both : (to : Addr) (o o' o'' : Painted) (old mid new : ClientView) (xs ys : List Turn) → TakesTurns to xs o o' old mid
    → TakesTurns to ys o' o'' mid new → TakesTurns to (xs ++ ys) o o'' old new
turns_both to o o' o'' old mid new [] ys (same, is) q =
    subst (λ (v : ClientView). TakesTurns to ys o o'' v new) is (subst (λ (p : Painted). TakesTurns to ys p o'' mid new) same q)
turns_both to o o' o'' old mid new (x ∷ xs) ys (painted, told, view, turn, tells, rest) q =
    (painted, told, view, turn, tells, turns_both to told o' o'' view mid new xs ys rest q)

taken_both : (xs ys : List Turn) → taken_in (xs ++ ys) ≡ taken_in xs ++ taken_in ys
taken_both [] ys = refl
taken_both (x ∷ xs) ys =
    ap (λ (t : List Act). taken_of x.next x.took ++ t) (taken_both xs ys)
    ∙ sym (append_assoc (taken_of x.next x.took) (taken_in xs) (taken_in ys))

-- nothing happened
pub runs_nothing : (to : Addr) (known : Option (List ℕ)) (lines : ActLines) (o : Painted) (client : ClientView)
    → RunsOn to known known lines lines o o client client 0
runs_nothing to known lines o client = record {
  bytes = [];
  turns = [];
  consumed = Consumes-nil known;
  takes = (refl, refl);
  stands = λ first log taken s.
      subst (λ (t : List ℕ). Stands lines first t (taken ++ [])) (sym (append-nil log))
      (subst (Stands lines first log) (sym (append-nil taken)) s);
  counts = refl;
}

-- one run after another
pub runs_both : (to : Addr) (before between after : Option (List ℕ)) (old mid new : ActLines) (o o' o'' : Painted)
    (client client' client'' : ClientView) (m n : ℕ) → RunsOn to before between old mid o o' client client' m
    → RunsOn to between after mid new o' o'' client' client'' n → RunsOn to before after old new o o'' client client'' (m + n)
runs_both to before between after old mid new o o' o'' client client' client'' m n p q = record {
  bytes = p.bytes ++ q.bytes;
  turns = p.turns ++ q.turns;
  consumed = Consumes-trans before between after p.bytes q.bytes p.consumed q.consumed;
  takes = turns_both to o o' o'' client client' client'' p.turns q.turns p.takes q.takes;
  stands = λ first log taken s.
      subst (λ (t : List ℕ). Stands new first t (taken ++ taken_in (p.turns ++ q.turns))) (append_assoc log p.bytes q.bytes)
      (subst (Stands new first ((log ++ p.bytes) ++ q.bytes))
      (append_assoc taken (taken_in p.turns) (taken_in q.turns) ∙ ap (λ (t : List Act). taken ++ t) (sym (taken_both p.turns q.turns)))
      (q.stands first (log ++ p.bytes) (taken ++ taken_in p.turns) (p.stands first log taken s)));
  counts = length-append p.turns q.turns ∙ ap (λ (k : ℕ). k + length q.turns) p.counts ∙ ap (λ (k : ℕ). m + k) q.counts;
}

-- bytes were read, and no turn was taken
pub runs_reading : (to : Addr) (before after : Option (List ℕ)) (old new : ActLines) (o : Painted) (client : ClientView)
    → ((bytes : List ℕ) × (length bytes ≤ longest_piece) × Consumes before after bytes × Reads old bytes new)
    → RunsOn to before after old new o o client client 0
runs_reading to before after old new o client (bytes, most, consumed, reads) = record {
  bytes = bytes;
  turns = [];
  consumed = consumed;
  takes = (refl, refl);
  stands = λ first log taken s. subst (Stands new first (log ++ bytes)) (sym (append-nil taken)) (reads first log taken s);
  counts = refl;
}

-- a turn that took nothing
pub takes_nothing : (to : Addr) (known : Option (List ℕ)) (lines : ActLines) (o o' o'' : Painted) (client client' : ClientView)
    (next : Option Act) → TakesTurn to (turn_of next false) o o' client client' → Tells o' o''
    → RunsOn to known known lines lines o o'' client client' 1
takes_nothing to known lines o o' o'' client client' next turn tells = record {
  bytes = [];
  turns = turn_of next false ∷ [];
  consumed = Consumes-nil known;
  takes = (o', o'', client', turn, tells, (refl, refl));
  stands = λ first log taken s.
      subst (λ (t : List ℕ). Stands lines first t (taken ++ taken_in (turn_of next false ∷ []))) (sym (append-nil log))
      (subst (Stands lines first log) (none next taken) s);
  counts = refl;
}
  where
    none : (next : Option Act) (taken : List Act) → taken ≡ taken ++ taken_in (turn_of next false ∷ [])
    none None taken = sym (append-nil taken)
    none (Some act) taken = sym (append-nil taken)

-- it took the first act that waited
took_first : (mid new : ActLines) (act : Act) (rest : List Act) → mid.waiting.items ≡ act ∷ rest
    → new ≡ record mid { waiting = new.waiting } → new.waiting.items ≡ drop 1 mid.waiting.items
    → (first : List Act) (log : List ℕ) (taken : List Act) → Stands mid first log taken → Stands new first log (taken ++ act ∷ [])
took_first mid new act rest is same left first log taken s = record {
  came = s.came;
  order =
      append_assoc taken (act ∷ []) new.waiting.items
      ∙ ap (λ (t : List Act). taken ++ act ∷ t) (left ∙ ap (drop 1) is)
      ∙ ap (λ (t : List Act). taken ++ t) (sym is)
      ∙ s.order;
  has_come = subst (λ (l : ActLines). HasCome l.stream log s.came l.begun.items) (sym same) s.has_come;
  count = ap (λ (l : ActLines). l.count) same ∙ s.count;
  short = subst (λ (l : ActLines). length l.begun.items ≤ 64) (sym same) s.short;
}

-- a turn that took an act was handed one
pub takes_first : (to : Addr) (known : Option (List ℕ)) (mid new : ActLines) (o o' o'' : Painted) (client client' : ClientView)
    (next : Option Act) → TakesTurn to (turn_of next true) o o' client client' → Tells o' o''
    → ((act : Act) → next ≡ Some act → (rest : List Act) × (mid.waiting.items ≡ act ∷ rest))
    → new ≡ record mid { waiting = new.waiting } → new.waiting.items ≡ drop 1 mid.waiting.items
    → RunsOn to known known mid new o o'' client client' 1
takes_first to known mid new o o' o'' client client' None turn tells waits same left = absurd (by turn.makes.part.parts.first)
  where
    by : Types None true turn.makes.part.parts.before → ⊥
    by (e, none) = absurd cc
takes_first to known mid new o o' o'' client client' (Some act) turn tells waits same left =
    let wait = waits act refl in
    record {
      bytes = [];
      turns = turn_of (Some act) true ∷ [];
      consumed = Consumes-nil known;
      takes = (o', o'', client', turn, tells, (refl, refl));
      stands = λ first log taken s.
          subst (λ (t : List ℕ). Stands new first t (taken ++ act ∷ [])) (sym (append-nil log))
          (took_first mid new act wait.0 wait.1 same left first log taken s);
      counts = refl;
    }

-- ---- the act offered to a turn
pub handed_still : (next : Option Act) (waiting : List Act) → ((act : Act) → next ≡ Some act → (rest : List Act) × (waiting ≡ act ∷ rest))
    → (next ≡ None → waiting ≡ []) → IsHanded next false waiting
handed_still None waiting some none = none refl
handed_still (Some act) waiting some none = some act refl

pub handed_taken : (to : Addr) (o o' : Painted) (client client' : ClientView) (next : Option Act) (waiting : List Act)
    → TakesTurn to (turn_of next true) o o' client client' → IsHanded next true waiting
handed_taken to o o' client client' None waiting turn = absurd (by turn.makes.part.parts.first)
  where
    by : Types None true turn.makes.part.parts.before → ⊥
    by (e, none) = absurd cc
handed_taken to o o' client client' (Some act) waiting turn = tt

-- a turn as its clauses say it
pub turn_taken : (to : Addr) (next : Option Act) (took : Bool) (o o' : Painted) (client client' : ClientView)
    → Makes client_step (AttachTurn client'.kept.receiver.newest.number client'.kept.receiver.newest.state o.noted o'.noted to next took)
    None None None None client client'
    → Led o.noted o.written o'.noted o'.written → o'.notice ≡ o.notice → TakesTurn to (turn_of next took) o o' client client'
turn_taken to next took o o' client client' makes led notice = record { makes = makes; led = led; notice = notice }

-- ---- a run of turns

-- a fault that is passed on
pub passed : {A : Type 0} (r : Result A RunFault) (e : RunFault) (P : RunFault → Type 0) → IsErrAnd r (λ x. x ≡ e) → P e → IfErr r P
passed (Ok a) e P is p = absurd is
passed (Err x) e P is p = subst P (sym is) p

module _ (to to' : Addr) (before between after : Option (List ℕ)) (old mid new : ActLines) (o o' : Painted) (last : Option Noted → Painted)
    (client client' client'' : ClientView) (m : ℕ) (same : to ≡ to') (so_far : RunsOn to before between old mid o o' client client' m) where
  -- the turns so far and one more
  pub more_runs : (p : Painted) → RunsOn to between after mid new o' p client' client'' 1
      → RunsOn to' before after old new o p client client'' (m + 1)
  more_runs p one =
      subst (λ (a : Addr). RunsOn a before after old new o p client client'' (m + 1)) same
      (runs_both to before between after old mid new o o' p client client' client'' m 1 so_far one)

  -- the run is over after it, however it ends
  pub ends_well : {A : Type 0} (r : Result A RunFault) (Gone : Type 0) (all since moment : ℕ) (noted : Option Noted)
      → RunsOn to between after mid new o' (last noted) client' client'' 1 → IsOver new client'' since moment
      → IfOk r (λ _. (turns : ℕ) × (noted : Option Noted) × RunsOn to' before after old new o (last noted) client client'' turns
      × ((turns ≡ all) ⊎ ((seen : ℕ) × IsOver new client'' seen moment) ⊎ Gone))
  ends_well (Ok a) Gone all since moment noted one over = (m + 1, noted, more_runs (last noted) one, inr (inl (since, over)))
  ends_well (Err e) Gone all since moment noted one over = tt

  -- the same after the server has ended
  pub ends_with_server : {A : Type 0} (r : Result A RunFault) (Gone : Type 0) (all moment : ℕ) (noted : Option Noted)
      → RunsOn to between after mid new o' (last noted) client' client'' 1 → Gone
      → IfOk r (λ _. (turns : ℕ) × (noted : Option Noted) × RunsOn to' before after old new o (last noted) client client'' turns
      × ((turns ≡ all) ⊎ ((seen : ℕ) × IsOver new client'' seen moment) ⊎ Gone))
  ends_with_server (Ok a) Gone all moment noted one ended = (m + 1, noted, more_runs (last noted) one, inr (inr ended))
  ends_with_server (Err e) Gone all moment noted one ended = tt

  pub ends_badly : {A : Type 0} (r : Result A RunFault) (noted : Option Noted)
      → RunsOn to between after mid new o' (last noted) client' client'' 1
      → IfErr r (λ fault. (fault ≡ run.Core OutOfMemory)
      ⊎ ((turns : ℕ) × (noted : Option Noted) × RunsOn to' before after old new o (last noted) client client'' turns))
  ends_badly (Ok a) noted one = tt
  ends_badly (Err e) noted one = inr (m + 1, noted, more_runs (last noted) one)

  -- the turns so far, and why the next wasn't taken
  pub broken_off : (fault : RunFault) (noted : Option Noted)
      → (fault ≡ run.Core OutOfMemory) ⊎ ((k : ℕ) × (fault ≡ run.Act k) × (refused_at new.stream new.waiting.items ≡ Some k)
      × RunsOn to between after mid new o' (last noted) client' client'' 0)
      → (fault ≡ run.Core OutOfMemory)
      ⊎ ((turns : ℕ) × (noted : Option Noted) × RunsOn to' before after old new o (last noted) client client'' turns)
  broken_off fault noted (inl e) = inl e
  broken_off fault noted (inr (k, e, refused, none)) = inr (
    m + 0,
    noted,
    subst (λ (a : Addr). RunsOn a before after old new o (last noted) client client'' (m + 0)) same
        (runs_both to before between after old mid new o o' (last noted) client client' client'' m 0 so_far none),
  )

-- ---- the result of a run

-- the line that is no act has a number, from 1
numbered : (lines : ActLines) (first : List Act) (log : List ℕ) (taken : List Act) (k : ℕ) → Stands lines first log taken
    → refused_at lines.stream lines.waiting.items ≡ Some k → (j : ℕ) × (k ≡ j + 1)
numbered lines first log taken k s refused = by lines.stream lines.waiting.items s.has_come refused
  where
    by : (x : Stream) (waiting : List Act) → HasCome x log s.came lines.begun.items → refused_at x waiting ≡ Some k
        → (j : ℕ) × (k ≡ j + 1)
    by x (act ∷ acts) h e = absurd cc
    by Absent [] h e = absurd cc
    by Open [] h e = absurd cc
    by Ended [] h e = absurd cc
    by (Spoiled number) [] h e = let same : number ≡ k = cc in (k - 1, omega (arith, h.0, same))
    by (SpoiledLast number) [] h e = let same : number ≡ k = cc in (k - 1, omega (arith, h.0, same))

abbrev pub IsBrokenOff : Addr → Option (List ℕ) → Option (List ℕ) → ActLines → ActLines → Painted → (Option Noted → Painted) → ClientView
    → ClientView → RunFault → Type 0
IsBrokenOff to before after old new o last client client' fault =
    (fault ≡ run.Core OutOfMemory)
    ⊎ ((turns : ℕ) × (noted : Option Noted) × RunsOn to before after old new o (last noted) client client' turns)

pub told : {A : Type 0} (to : Addr) (before after : Option (List ℕ)) (old new : ActLines) (o : Painted) (last : Option Noted → Painted)
    (client client' : ClientView) (first : List Act) (r : Result A RunFault) → Stands old first [] []
    → IfErr r (λ fault. (fault ≡ run.Core OutOfMemory) ⊎ (fault ≡ run.Write) ⊎ ((k : ℕ) × (fault ≡ run.Act k)
    × (refused_at new.stream new.waiting.items ≡ Some k)))
    → IfErr r (IsBrokenOff to before after old new o last client client')
    → IfErr r (λ fault. (fault ≡ run.Core OutOfMemory) ⊎ (fault ≡ run.Read) ⊎ ((k : ℕ) × (fault ≡ run.Act (k + 1)))
    ⊎ (fault ≡ run.Bind) ⊎ (fault ≡ run.Write) ⊎ (fault ≡ run.Connect))
told to before after old new o last client client' first (Ok a) stands why broken = tt
told to before after old new o last client client' first (Err e) stands (inl full) broken = inl full
told to before after old new o last client client' first (Err e) stands (inr (inl unwritten)) broken = inr (inr (inr (inr (inl unwritten))))
told to before after old new o last client client' first (Err e) stands (inr (inr (k, is, refused))) (inl full) = inl full
told to before after old new o last client client' first (Err e) stands (inr (inr (k, is, refused))) (inr (turns, noted, so_far)) =
    let n = numbered new first so_far.bytes (taken_in so_far.turns) k (so_far.stands first [] [] stands) refused in
    inr (inr (inl (n.0, is ∙ ap run.Act n.1)))

-- no second has passed since it was seen
pub not_passed : (lines : ActLines) (client : ClientView) (since moment : ℕ) (is_late : Bool) → is_late ≡ false
    → (IsTrue is_late ↔ (1000 ≤ moment - since)) → IsPending lines client
    → (seen : ℕ) × (Some since ≡ Some seen) × (moment - seen < longest_end) × IsPending lines client
not_passed lines client since moment is_late never when pending =
    let short : 1000 ≤ moment - since → ⊥ = λ long. let late = when.1 long in cc in
    (since, refl, omega (arith, short), pending)

-- the known screen of a terminal after a notice of silence, or none
pub still_known : {R W : Type 0} (contents : W → Option (List ℕ)) (noted : Option Noted) (old new : ClientPorts R W)
    → (new ≡ old) ⊎ ((seconds : ℕ) × (due_of old.silence ≡ Some seconds) × (new.silence.told ≡ Some seconds)
    × Appends (contents old.outer) (contents new.outer) (notice_of seconds))
    → Tells (painted_by contents noted old) (painted_by contents noted new)
still_known contents noted old new (inl same) = nothing_told (ap (λ ports. painted_by contents noted ports) same)
still_known contents noted old new (inr (seconds, due, is, written)) = silence_told seconds refl is written
