-- The typed acts of a run are the lines of its terminals, step by step.
use Rattle.std.proofs.Common.{◌≡◌, ◌⊎◌, ℕ, zero, suc, ◌+◌, ◌≤◌, ◌<◌, Bool, true, false, List, [], ◌∷◌, ◌++◌, length, append-nil, append_assoc, Option, Some, None, refl, sym, ap, ◌∙◌, subst, inl, inr, arith}
use Rattle.std.proofs.KnownBytes.{Consumes-kept, Consumes-nil, Consumes-trans}
use Rattle.std.proofs.lemmas.Bool.Decides.{eqb_tells, leb_tells}
use Rattle.std.proofs.lemmas.List.{map-append}
use Rattle.std.specs.Prelude.{◌≢◌, ◌==◌, not, leb, if◌then◌else◌}
use Rattle.std.specs.Io.KnownBytes.{Consumes, Keeps}
use Rattle.roam_acts.specs.declared.acts.Act.{Act}
use Rattle.roam_hub.specs.Clients.{ClientView}
use Rattle.roam_cells.specs.declared.addresses.Addr.{Addr}
use Rattle.roam_turns.specs.Calls.{PortCall}
use Rattle.roam_terminal_input.specs.declared.entries.Entry.{Entry}
use Rattle.roam_terminal_input.specs.Lines.{ended_all}
use Rattle.roam_outer_terminal.specs.Hearing.{HearsOne, TakesLine}
use Rattle.roam_outer_terminal.specs.Hearing.TakesLine.{taken, waits, no_memory, looks, untold, refused, nothing, unheard}
use Rattle.roam_outer_terminal.specs.Painted.{MayPaint}
use Rattle.roam_outer_terminal.specs.Painted.MayPaint.{painted, told as was_told, not_ready}
use Rattle.roam_shared_client.specs.Running.{Asks, Came, Comes, IsStep, RunStep, RunsBy, Took}
use Rattle.roam_shared_client.specs.Sharing.{AreEach, HearsAll, Shared, turned_round, who_stay}
use Rattle.roam_outer_terminal.specs.Writing.{SaysSilence, Settles, TellsSilence, has_gone, is_empty, state_after, unwritten}
use Rattle.roam_outer_terminal.specs.Staying.{is_gone, is_let_go}
use Rattle.roam_outer_terminal.specs.Terminals.{Stands, Types, is_heard, typed_by}
use Rattle.roam_outer_terminal.specs.Writing.SaysSilence.{heard as is_heard_again, silent as is_silent, quiet as is_as_it_was}
use Rattle.roam_outer_terminal.specs.Writing.TellsSilence.{over as is_told_over, told as is_told_more, quiet as is_quiet, says as in_records}
use Rattle.roam_outer_terminal.specs.declared.silence.Silence.{Silence}
use Rattle.roam_outer_terminal.specs.declared.terminal.State.{State}
use Rattle.roam_outer_terminal.specs.declared.terminal.State.TheVariants.{Here, Gone}
use Rattle.roam_outer_terminal.specs.declared.terminal.Terminal.{Terminal}
use Rattle.roam_outer_terminal.proofs.Heard.{watches_read}
use Rattle.roam_outer_terminal.proofs.TakenLines.{stands_taken}
use Rattle.roam_shared_client_laws.specs.Lines.{Trace, AreTraces, AreActsOf, AreGone, AreThere, GoesOn, IsTrace, IsAt, IsTyped, LinesAreTyped, Typed, acts_of, all_acts, came_in, count_of, lasts}
use Rattle.roam_shared_client_laws.specs.Lines.GoesOn.{still, types, turns}
use Rattle.roam_shared_client_laws.proofs.Leading.{came_on}

-- ---- acts with their numbers

abbrev numbered : ℕ → List Act → List Typed
numbered n [] = []
numbered n (act ∷ acts) = record { number = n; act = act } ∷ numbered n acts

acts_both : (n : ℕ) (xs ys : List Typed) → acts_of n (xs ++ ys) ≡ acts_of n xs ++ acts_of n ys
acts_both n [] ys = refl
acts_both n (x ∷ xs) ys =
    ap (λ l. (if x.number == n then x.act ∷ [] else []) ++ l) (acts_both n xs ys)
    ∙ sym (append_assoc (if x.number == n then x.act ∷ [] else []) (acts_of n xs) (acts_of n ys))

all_both : (xs ys : List Typed) → all_acts (xs ++ ys) ≡ all_acts xs ++ all_acts ys
all_both xs ys = map-append (λ (t : Typed). t.act) xs ys

all_numbered : (n : ℕ) (acts : List Act) → all_acts (numbered n acts) ≡ acts
all_numbered n [] = refl
all_numbered n (act ∷ acts) = ap (λ l. act ∷ l) (all_numbered n acts)

same_number : (n : ℕ) → (n == n) ≡ true
same_number n = by (eqb_tells n n)
  where
    by : (((n == n) ≡ true) × (n ≡ n)) ⊎ (((n == n) ≡ false) × (n ≢ n)) → (n == n) ≡ true
    by (inl is) = is.0
    by (inr not) = absurd (not.1 refl)

other_number : (m n : ℕ) → m ≢ n → (m == n) ≡ false
other_number m n other = by (eqb_tells m n)
  where
    by : (((m == n) ≡ true) × (m ≡ n)) ⊎ (((m == n) ≡ false) × (m ≢ n)) → (m == n) ≡ false
    by (inl is) = absurd (other is.1)
    by (inr not) = not.0

acts_same : (n : ℕ) (acts : List Act) → acts_of n (numbered n acts) ≡ acts
acts_same n [] = refl
acts_same n (act ∷ acts) =
    ap (λ b. (if b then act ∷ [] else []) ++ acts_of n (numbered n acts)) (same_number n) ∙ ap (λ l. act ∷ l) (acts_same n acts)

acts_other : (m n : ℕ) (acts : List Act) → n ≢ m → acts_of m (numbered n acts) ≡ []
acts_other m n [] other = refl
acts_other m n (act ∷ acts) other =
    ap (λ b. (if b then act ∷ [] else []) ++ acts_of m (numbered n acts)) (other_number n m other) ∙ acts_other m n acts other

acts_more_same : (n : ℕ) (typed : List Typed) (acts : List Act) → acts_of n (typed ++ numbered n acts) ≡ acts_of n typed ++ acts
acts_more_same n typed acts = acts_both n typed (numbered n acts) ∙ ap (λ l. acts_of n typed ++ l) (acts_same n acts)

acts_more_other : (m n : ℕ) (typed : List Typed) (acts : List Act) → n ≢ m → acts_of m (typed ++ numbered n acts) ≡ acts_of m typed
acts_more_other m n typed acts other =
    acts_both m typed (numbered n acts) ∙ (ap (λ l. acts_of m typed ++ l) (acts_other m n acts other) ∙ append-nil (acts_of m typed))

-- ---- the element at a place

at_more : {X : Type 0} (xs more : List X) (n : ℕ) (x : X) → IsAt xs n x → IsAt (xs ++ more) n x
at_more [] more n x h = absurd h
at_more (y ∷ ys) more zero x h = h
at_more (y ∷ ys) more (suc n) x h = at_more ys more n x h

at_last : {X : Type 0} (xs : List X) (x : X) → IsAt (xs ++ x ∷ []) (length xs) x
at_last [] x = refl
at_last (y ∷ ys) x = at_last ys x

-- ---- an instance goes on

module _ (to : Addr) where
  goes_both : (a b c : ClientView) (xs ys : List Act) → GoesOn to a xs b → GoesOn to b ys c → GoesOn to a (xs ++ ys) c
  goes_both a b c xs ys h still = subst (λ l. GoesOn to a l b) (sym (append-nil xs)) h
  goes_both a b c xs ys h (types mid new before more first is) =
      subst (λ l. GoesOn to a l c) (append_assoc xs before more)
      (types mid c (xs ++ before) more (goes_both a b mid xs before h first) is)
  goes_both a b c xs ys h (turns mid new acts calls calls' first is) =
      turns mid c (xs ++ ys) calls calls' (goes_both a b mid xs ys h first) is

-- ---- counts

counts_both : {S : Type 0} (n : ℕ) (xs ys : List (Trace S)) → count_of n (xs ++ ys) ≡ count_of n xs + count_of n ys
counts_both n [] ys = omega arith
counts_both n (x ∷ xs) ys =
    let rest = counts_both n xs ys in
    let one : ℕ = if x.number == n then 1 else 0 in
    omega (arith, rest)

-- a number that none has is another's than each one's
other_first : {S : Type 0} (n : ℕ) (a : Trace S) (all : List (Trace S)) → count_of n (a ∷ all) ≡ 0
    → (n ≢ a.number) × (count_of n all ≡ 0)
other_first n a all none = (
  λ e.
      let is : (a.number == n) ≡ true = ap (λ k. a.number == k) e ∙ same_number a.number in
      let one : (if a.number == n then 1 else 0) + count_of n all ≡ 1 + count_of n all =
      ap (λ b. (if b then 1 else 0) + count_of n all) is in
      absurd (omega (arith, one, none)),
  omega (arith, none),
)

module _ {S : Type 0} (remaining contents : S → Option (List ℕ)) (came : List S) where
  -- ---- an account

  trace_later : (more : List S) (typed : List Typed) (a : Trace S) → IsTrace remaining came typed a
      → IsTrace remaining (came ++ more) typed a
  trace_later more typed a h = record {
    at = at_more came more a.number a.came h.at;
    consumed = h.consumed;
    acts = h.acts;
    stands = h.stands;
  }

  traces_later : (more : List S) (typed : List Typed) (all : List (Trace S)) → AreTraces remaining came typed all
      → AreTraces remaining (came ++ more) typed all
  traces_later more typed [] h = tt
  traces_later more typed (a ∷ all) h = (trace_later more typed a h.0, traces_later more typed all h.1)

  trace_other : (typed : List Typed) (n : ℕ) (acts : List Act) (a : Trace S) → n ≢ a.number → IsTrace remaining came typed a
      → IsTrace remaining came (typed ++ numbered n acts) a
  trace_other typed n acts a other h =
      let same : acts_of a.number (typed ++ numbered n acts) ≡ acts_of a.number typed = acts_more_other a.number n typed acts other in
      record {
        at = h.at;
        consumed = h.consumed;
        acts = subst (AreActsOf a.read) (sym same) h.acts;
        stands = λ on. subst (Stands a.last.lines.kept a.last.watches a.read) (sym same) (h.stands on);
      }

  traces_other : (typed : List Typed) (n : ℕ) (acts : List Act) (all : List (Trace S)) → count_of n all ≡ 0
      → AreTraces remaining came typed all → AreTraces remaining came (typed ++ numbered n acts) all
  traces_other typed n acts [] none h = tt
  traces_other typed n acts (a ∷ all) none h =
      let first = other_first n a all none in
      (trace_other typed n acts a first.0 h.0, traces_other typed n acts all first.1 h.1)

  -- ---- it is heard

  acts_read : (read bytes : List ℕ) (acts : List Act) → AreActsOf read acts → AreActsOf (read ++ bytes) acts
  acts_read read bytes acts h = record {
    lines = h.lines;
    rest = h.rest ++ bytes;
    watches = h.watches;
    is = ap (λ l. l ++ bytes) h.is ∙ append_assoc (ended_all h.lines) h.rest bytes;
    takes = h.takes;
  }

  stands_read : (kept bytes : List ℕ) (w : Bool) (log : List ℕ) (all : List Act) → Stands kept w log all
      → Stands (kept ++ bytes) w (log ++ bytes) all
  stands_read kept bytes w log all h = record {
    lines = h.lines;
    is = ap (λ l. l ++ bytes) h.is ∙ append_assoc (ended_all h.lines) kept bytes;
    takes = h.takes;
  }

  acts_stand : (kept : List ℕ) (w : Bool) (log : List ℕ) (all : List Act) → Stands kept w log all → AreActsOf log all
  acts_stand kept w log all h = record { lines = h.lines; rest = kept; watches = w; is = h.is; takes = h.takes }

  not_gone : (s : State) → is_heard s ≡ true → s ≢ Gone
  not_gone s h is = let other : is_heard Gone ≡ true = ap is_heard (sym is) ∙ h in absurd cc

  -- the account of a terminal that was heard, with the acts that were typed for it
  record Heard (typed : List Typed) (a : Trace S) (new : Terminal S) (client client' : ClientView) : Type 0 where
    read : List ℕ
    acts : List Act
    typing : Types acts client client'
    is : IsTrace remaining came (typed ++ numbered a.number acts) (record a { last = new; read = read })

  -- no line was taken
  heard_untaken : (typed : List Typed) (a : Trace S) (mid new : Terminal S) (client client' : ClientView)
      → IsTrace remaining came typed (record a { last = mid; read = a.read })
      → new.stream ≡ mid.stream → new.lines ≡ mid.lines → new.watches ≡ mid.watches → (new.state ≢ Gone → mid.state ≢ Gone)
      → client' ≡ client → Heard typed a new client client'
  heard_untaken typed a mid new client client' h stream lines watches on same =
      let none : typed ++ numbered a.number [] ≡ typed = append-nil typed in
      record {
        read = a.read;
        acts = [];
        typing = same;
        is = subst (λ l. IsTrace remaining came l (record a { last = new; read = a.read })) (sym none) (record {
          at = h.at;
          consumed = subst (λ s. Consumes (remaining a.came) (remaining s) a.read) (sym stream) h.consumed;
          acts = h.acts;
          stands = λ is_on.
              subst (λ l. Stands l.kept new.watches a.read (acts_of a.number typed)) (sym lines)
              (subst (λ w. Stands mid.lines.kept w a.read (acts_of a.number typed)) (sym watches) (h.stands (on is_on)));
        });
      }

  heard_taken : (typed : List Typed) (a : Trace S) (entry : Option Entry) (mid new : Terminal S) (client client' : ClientView)
      → IsTrace remaining came typed (record a { last = mid; read = a.read }) → TakesLine entry mid new client client'
      → Heard typed a new client client'
  heard_taken typed a entry mid new client client' h (taken e line is heard first says may typing predictions to) =
      let on = not_gone mid.state heard in
      let acts = acts_of a.number typed in
      let all : acts_of a.number (typed ++ numbered a.number (typed_by mid.watches e)) ≡ acts ++ typed_by mid.watches e =
      acts_more_same a.number typed (typed_by mid.watches e) in
      let stands : Stands new.lines.kept new.watches a.read (acts ++ typed_by mid.watches e) =
      subst (λ w. Stands new.lines.kept w a.read (acts ++ typed_by mid.watches e)) (sym (ap (λ t. t.watches) to))
      (stands_taken e line mid.lines.kept new.lines.kept mid.watches a.read acts first says (h.stands on)) in
      record {
        read = a.read;
        acts = typed_by mid.watches e;
        typing = typing;
        is = record {
          at = h.at;
          consumed = subst (λ s. Consumes (remaining a.came) (remaining s) a.read) (sym (ap (λ t. t.stream) to)) h.consumed;
          acts = subst (AreActsOf a.read) (sym all) (acts_stand new.lines.kept new.watches a.read (acts ++ typed_by mid.watches e) stands);
          stands = λ is_on. subst (Stands new.lines.kept new.watches a.read) (sym all) stands;
        };
      }
  heard_taken typed a entry mid new client client' h (waits e is heard asks watches holds c to) =
      heard_untaken typed a mid new client client' h (ap (λ t. t.stream) to) (ap (λ t. t.lines) to) (ap (λ t. t.watches) to)
      (λ on gone. on (ap (λ t. t.state) to ∙ gone)) c
  heard_taken typed a entry mid new client client' h (no_memory e is heard asks watches some c to) =
      heard_untaken typed a mid new client client' h (ap (λ t. t.stream) to) (ap (λ t. t.lines) to) (ap (λ t. t.watches) to)
      (λ on gone. on (ap (λ t. t.state) to ∙ gone)) c
  heard_taken typed a entry mid new client client' h (looks e is heard asks is_look again c to) =
      heard_untaken typed a mid new client client' h (ap (λ t. t.stream) to) (ap (λ t. t.lines) to) (ap (λ t. t.watches) to)
      (λ on gone. on (ap (λ t. t.state) to ∙ gone)) c
  heard_taken typed a entry mid new client client' h (untold is heard asks c to) =
      heard_untaken typed a mid new client client' h (ap (λ t. t.stream) to) (ap (λ t. t.lines) to) (ap (λ t. t.watches) to)
      (λ on gone. on (ap (λ t. t.state) to ∙ gone)) c
  heard_taken typed a entry mid new client client' h (refused is heard why to c) =
      heard_untaken typed a mid new client client' h (ap (λ t. t.stream) to.2) (ap (λ t. t.lines) to.2) (ap (λ t. t.watches) to.2)
      (λ on. not_gone mid.state heard) c
  heard_taken typed a entry mid new client client' h (nothing is heard none c to) =
      heard_untaken typed a mid new client client' h (ap (λ t. t.stream) to) (ap (λ t. t.lines) to) (ap (λ t. t.watches) to)
      (λ on gone. on (ap (λ t. t.state) to ∙ gone)) c
  heard_taken typed a entry mid new client client' h (unheard is not_heard c to) =
      heard_untaken typed a mid new client client' h (ap (λ t. t.stream) to) (ap (λ t. t.lines) to) (ap (λ t. t.watches) to)
      (λ on gone. on (ap (λ t. t.state) to ∙ gone)) c

  -- a connected terminal models the bytes read from it
  there_stands : (typed : List Typed) (a : Trace S) → is_gone a.last ≡ false → IsTrace remaining came typed a
      → Stands a.last.lines.kept a.last.watches a.read (acts_of a.number typed)
  there_stands typed a there h = h.stands (λ gone. by (ap (λ s. is_let_go s a.last.lines.kept) (sym gone) ∙ there))
    where
      by : is_let_go Gone a.last.lines.kept ≡ false → ⊥
      by e = cc

  heard_trace : (typed : List Typed) (a : Trace S) (entry : Option Entry) (new : Terminal S) (client client' : ClientView)
      → is_gone a.last ≡ false → HearsOne remaining contents entry a.last new client client' → IsTrace remaining came typed a
      → Heard typed a new client client'
  heard_trace typed a entry new client client' there h is =
      let mid = h.read in
      let bytes = h.reads.bytes in
      let stands = there_stands typed a there is in
      let read : Trace S = record a { read = a.read ++ bytes } in
      let was : IsTrace remaining came typed (record read { last = mid; read = read.read }) = record {
        at = is.at;
        consumed = Consumes-trans (remaining a.came) (remaining a.last.stream) (remaining mid.stream) a.read bytes is.consumed
            h.reads.consumed;
        acts = acts_read a.read bytes (acts_of a.number typed) is.acts;
        stands = λ on.
            subst (λ l. Stands l mid.watches (a.read ++ bytes) (acts_of a.number typed)) (sym (h.reads.kept_on on))
            (subst (λ w. Stands (a.last.lines.kept ++ bytes) w (a.read ++ bytes) (acts_of a.number typed))
            (watches_read a.last mid h.is_read)
            (stands_read a.last.lines.kept bytes a.last.watches a.read (acts_of a.number typed) stands));
      } in
      let done : Heard typed read new client client' = heard_taken typed read entry mid new client client' was h.takes in
      record { read = done.read; acts = done.acts; typing = done.typing; is = done.is }

  -- the accounts of terminals that were heard, and of others
  record AllHeard (to : Addr) (others post : List (Trace S)) (typed : List Typed) (new : List (Terminal S)) (client client' : ClientView)
      : Type 0 where
    all : List (Trace S)
    more : List Typed
    are : lasts all ≡ new
    goes : GoesOn to client (all_acts more) client'
    others_are : AreTraces remaining came (typed ++ more) others
    they_are : AreTraces remaining came (typed ++ more) all
    counts : (n : ℕ) → count_of n all ≡ count_of n post
    nobody : (n : ℕ) → count_of n post ≡ 0 → acts_of n more ≡ []

  count_first : (n : ℕ) (a : Trace S) (all : List (Trace S)) → a.number ≡ n → count_of n (a ∷ all) ≡ 1 + count_of n all
  count_first n a all e =
      ap (λ b. (if b then 1 else 0) + count_of n all) (ap (λ k. k == n) e ∙ same_number n)

  count_same : (n : ℕ) (a b : Trace S) (xs ys : List (Trace S)) → b.number ≡ a.number → count_of n ys ≡ count_of n xs
      → count_of n (b ∷ ys) ≡ count_of n (a ∷ xs)
  count_same n a b xs ys e h =
      ap (λ k. (if k == n then 1 else 0) + count_of n ys) e ∙ ap (λ k. (if a.number == n then 1 else 0) + k) h

  all_heard : (to : Addr) (others post : List (Trace S)) (typed : List Typed) (new : List (Terminal S)) (client client' : ClientView)
      (ending : Bool) → HearsAll remaining contents (lasts post) new client client' ending → AreTraces remaining came typed others
      → AreTraces remaining came typed post → AreThere post → ((n : ℕ) → count_of n others + count_of n post ≤ 1)
      → AllHeard to others post typed new client client'
  all_heard to others [] typed [] client client' ending h are they there once =
      let none : typed ++ [] ≡ typed = append-nil typed in
      record {
        all = [];
        more = [];
        are = refl;
        goes = subst (GoesOn to client []) (sym h.0) still;
        others_are = subst (λ l. AreTraces remaining came l others) (sym none) are;
        they_are = tt;
        counts = λ n. refl;
        nobody = λ n e. refl;
      }
  all_heard to others [] typed (t ∷ new) client client' ending h are they there once = absurd h
  all_heard to others (a ∷ post) typed [] client client' ending h are they there once = absurd h
  all_heard to others (a ∷ post) typed (t ∷ new) client client' ending h are they there once =
      let one : Heard typed a t client h.0 = heard_trace typed a h.1 t client h.0 there.0 h.3 they.0 in
      let mine : Trace S = record a { last = t; read = one.read } in
      let first : count_of a.number (a ∷ post) ≡ 1 + count_of a.number post = count_first a.number a post refl in
      let most = once a.number in
      let none : count_of a.number others ≡ 0 = omega (arith, first, most) in
      let none_later : count_of a.number post ≡ 0 = omega (arith, first, most) in
      let mine_counts : (n : ℕ) → count_of n (mine ∷ others) ≡ count_of n (a ∷ others) = λ n. count_same n a mine others others refl refl in
      let typed' = typed ++ numbered a.number one.acts in
      let rest : AllHeard to (mine ∷ others) post typed' new h.0 client' =
      all_heard to (mine ∷ others) post typed' new h.0 client' h.2 h.4
      (one.is, traces_other typed a.number one.acts others none are) (traces_other typed a.number one.acts post none_later they.1)
      there.1
      (λ n.
      let all = once n in
      let same = mine_counts n in
      let head : ℕ = if a.number == n then 1 else 0 in
      omega (arith, all, same)) in
      let joined : typed' ++ rest.more ≡ typed ++ (numbered a.number one.acts ++ rest.more) =
      append_assoc typed (numbered a.number one.acts) rest.more in
      let acts : one.acts ++ all_acts rest.more ≡ all_acts (numbered a.number one.acts ++ rest.more) =
      sym (all_both (numbered a.number one.acts) rest.more ∙ ap (λ l. l ++ all_acts rest.more) (all_numbered a.number one.acts)) in
      let goes_first : GoesOn to client one.acts h.0 = types client h.0 [] one.acts still one.typing in
      record {
        all = mine ∷ rest.all;
        more = numbered a.number one.acts ++ rest.more;
        are = ap (λ l. t ∷ l) rest.are;
        goes = subst (λ l. GoesOn to client l client') acts
            (goes_both to client h.0 client' one.acts (all_acts rest.more) goes_first rest.goes);
        others_are = subst (λ l. AreTraces remaining came l others) joined rest.others_are.1;
        they_are = (
          subst (λ l. IsTrace remaining came l mine) joined rest.others_are.0,
          subst (λ l. AreTraces remaining came l rest.all) joined rest.they_are,
        );
        counts = λ n. count_same n a mine post rest.all refl (rest.counts n);
        nobody = λ n e.
            let other = other_first n a post e in
            acts_both n (numbered a.number one.acts) rest.more
            ∙ (ap (λ l. l ++ acts_of n rest.more) (acts_other n a.number one.acts (λ same. other.0 (sym same))) ∙ rest.nobody n other.1);
      }

  -- ---- painting, and writing of queued bytes

  -- the typed acts and the bytes of a terminal stay through its other changes
  trace_stays : (typed : List Typed) (a : Trace S) (new : Terminal S) → Keeps (remaining a.last.stream) (remaining new.stream)
      → new.lines ≡ a.last.lines → new.watches ≡ a.last.watches → (new.state ≢ Gone → a.last.state ≢ Gone)
      → IsTrace remaining came typed a → IsTrace remaining came typed (record a { last = new })
  trace_stays typed a new keeps lines watches on h = record {
    at = h.at;
    consumed = Consumes-kept (remaining a.came) (remaining a.last.stream) (remaining new.stream) a.read h.consumed keeps;
    acts = h.acts;
    stands = λ is_on.
        subst (λ l. Stands l.kept new.watches a.read (acts_of a.number typed)) (sym lines)
        (subst (λ w. Stands a.last.lines.kept w a.read (acts_of a.number typed)) (sym watches) (h.stands (on is_on)));
  }

  keeps_same : (a b : S) → b ≡ a → Keeps (remaining a) (remaining b)
  keeps_same a b is = subst (λ s. Keeps (remaining a) (remaining s)) (sym is) (itself (remaining a))
    where
      itself : (known : Option (List ℕ)) → Keeps known known
      itself None = tt
      itself (Some xs) = refl

  painted_trace : (silence : Silence) (client : ClientView) (typed : List Typed) (a : Trace S) (new : Terminal S)
      → MayPaint silence client a.last new → IsTrace remaining came typed a → IsTrace remaining came typed (record a { last = new })
  painted_trace silence client typed a new (painted p) h =
      trace_stays typed a new (keeps_same a.last.stream new.stream (ap (λ t. t.stream) p.others)) (ap (λ t. t.lines) p.others)
      (ap (λ t. t.watches) p.others) (λ on gone. on (ap (λ t. t.state) p.others ∙ gone)) h
  painted_trace silence client typed a new (was_told p) h =
      trace_stays typed a new
      (keeps_same a.last.stream new.stream (ap (λ t. t.stream) p.tells.is ∙ ap (λ t. t.stream) p.others))
      (ap (λ t. t.lines) p.tells.is ∙ ap (λ t. t.lines) p.others) (ap (λ t. t.watches) p.tells.is ∙ ap (λ t. t.watches) p.others)
      (λ on gone. on (ap (λ t. t.state) p.tells.is ∙ (ap (λ t. t.state) p.others ∙ gone))) h
  painted_trace silence client typed a new (not_ready not_is to) h =
      trace_stays typed a new (keeps_same a.last.stream new.stream (ap (λ t. t.stream) to)) (ap (λ t. t.lines) to)
      (ap (λ t. t.watches) to) (λ on gone. on (ap (λ t. t.state) to ∙ gone)) h

  if_gone : (b : Bool) → (if b then Gone else Gone) ≡ Gone
  if_gone true = refl
  if_gone false = refl

  -- a disconnected terminal stays so
  gone_later : (waits has_taken : Bool) (now : ℕ) (stuck : Option ℕ) → state_after waits has_taken now stuck Gone ≡ Gone
  gone_later true has_taken now stuck = refl
  gone_later false has_taken now stuck = by _
    where
      by : (b : Bool) → (if b then Gone else Gone) ≡ Gone
      by b = if_gone b

  unwritten_gone : (old written : State) → ((written ≡ old) ⊎ (written ≡ unwritten old)) → old ≡ Gone → written ≡ Gone
  unwritten_gone old written (inl is) gone = is ∙ gone
  unwritten_gone old written (inr is) gone = is ∙ ap unwritten gone

  abbrev Same : Terminal S → Terminal S → Type 0
  Same old new = (new.stream ≡ old.stream) × (new.lines ≡ old.lines) × (new.watches ≡ old.watches) × (new.state ≡ old.state)

  said_same : (seen : Silence) (old new : Terminal S) → SaysSilence seen old new → Same old new
  said_same seen old new (is_heard_again h empty here is) =
      (ap (λ t. t.stream) is, ap (λ t. t.lines) is, ap (λ t. t.watches) is, ap (λ t. t.state) is)
  said_same seen old new (is_silent seconds h due empty here is) =
      (ap (λ t. t.stream) is, ap (λ t. t.lines) is, ap (λ t. t.watches) is, ap (λ t. t.state) is)
  said_same seen old new (is_as_it_was is) =
      (ap (λ t. t.stream) is, ap (λ t. t.lines) is, ap (λ t. t.watches) is, ap (λ t. t.state) is)

  told_same : (silence : Silence) (old new : Terminal S) → TellsSilence silence old new → Same old new
  told_same silence old new (is_told_over bare h is) =
      (ap (λ t. t.stream) is, ap (λ t. t.lines) is, ap (λ t. t.watches) is, ap (λ t. t.state) is)
  told_same silence old new (is_told_more seconds bare h due empty plain here is) =
      (ap (λ t. t.stream) is, ap (λ t. t.lines) is, ap (λ t. t.watches) is, ap (λ t. t.state) is)
  told_same silence old new (is_quiet bare h is) =
      (ap (λ t. t.stream) is, ap (λ t. t.lines) is, ap (λ t. t.watches) is, ap (λ t. t.state) is)
  told_same silence old new (in_records is h) = said_same _ old new h

  settled_trace : (silence : Silence) (typed : List Typed) (a : Trace S) (new : Terminal S)
      → Settles remaining contents silence a.last new → IsTrace remaining came typed a
      → IsTrace remaining came typed (record a { last = new })
  settled_trace silence typed a new s h =
      let f = s.flushes in
      let told = told_same silence a.last s.told s.tells in
      let took = has_gone s.told.waiting new.waiting in
      let still_gone : s.told.state ≡ Gone → new.state ≡ Gone = λ gone.
      f.state ∙ (ap (λ w. state_after (is_empty new.waiting) took silence.moment s.told.stuck w)
      (unwritten_gone s.told.state f.written f.fails gone)
      ∙ gone_later (is_empty new.waiting) took silence.moment s.told.stuck) in
      trace_stays typed a new
      (subst (λ x. Keeps (remaining x) (remaining new.stream)) told.0 f.apart)
      (ap (λ t. t.lines) f.others ∙ told.1) (ap (λ t. t.watches) f.others ∙ told.2)
      (λ on gone. on (still_gone (told.3 ∙ gone))) h

  -- place by place
  record AllStay (all : List (Trace S)) (typed : List Typed) (new : List (Terminal S)) : Type 0 where
    they : List (Trace S)
    are : lasts they ≡ new
    they_are : AreTraces remaining came typed they
    counts : (n : ℕ) → count_of n they ≡ count_of n all

  all_stay : (R : Terminal S → Terminal S → Type 0) (typed : List Typed)
      → ((a : Trace S) (t : Terminal S) → R a.last t → IsTrace remaining came typed a
      → IsTrace remaining came typed (record a { last = t }))
      → (all : List (Trace S)) (new : List (Terminal S)) → AreEach R (lasts all) new → AreTraces remaining came typed all
      → AllStay all typed new
  all_stay R typed each [] [] h are = record { they = []; are = refl; they_are = tt; counts = λ n. refl }
  all_stay R typed each [] (t ∷ new) h are = absurd h
  all_stay R typed each (a ∷ all) [] h are = absurd h
  all_stay R typed each (a ∷ all) (t ∷ new) h are =
      let rest : AllStay all typed new = all_stay R typed each all new h.1 are.1 in
      record {
        they = record a { last = t } ∷ rest.they;
        are = ap (λ l. t ∷ l) rest.are;
        they_are = (each a t h.0 are.0, rest.they_are);
        counts = λ n. count_same n a (record a { last = t }) all rest.they refl (rest.counts n);
      }

  -- ---- the terminals that stay, and the others

  record Parted (all : List (Trace S)) (typed : List Typed) : Type 0 where
    stay : List (Trace S)
    go : List (Trace S)
    are : lasts stay ≡ who_stay (lasts all)
    here : AreThere stay
    gone : AreGone go
    they_are : AreTraces remaining came typed stay
    go_are : AreTraces remaining came typed go
    counts : (n : ℕ) → count_of n stay + count_of n go ≡ count_of n all

  part_one : (b : Bool) (a : Trace S) (all : List (Trace S)) (typed : List Typed) → is_gone a.last ≡ b
      → IsTrace remaining came typed a → Parted all typed → Parted (a ∷ all) typed
  part_one true a all typed is h rest = record {
    stay = rest.stay;
    go = a ∷ rest.go;
    are = rest.are ∙ sym (ap (λ b. if not b then a.last ∷ who_stay (lasts all) else who_stay (lasts all)) is);
    here = rest.here;
    gone = (is, rest.gone);
    they_are = rest.they_are;
    go_are = (h, rest.go_are);
    counts = λ n.
        let sum = rest.counts n in
        let one : ℕ = if a.number == n then 1 else 0 in
        omega (arith, sum);
  }
  part_one false a all typed is h rest = record {
    stay = a ∷ rest.stay;
    go = rest.go;
    are = ap (λ l. a.last ∷ l) rest.are
        ∙ sym (ap (λ b. if not b then a.last ∷ who_stay (lasts all) else who_stay (lasts all)) is);
    here = (is, rest.here);
    gone = rest.gone;
    they_are = (h, rest.they_are);
    go_are = rest.go_are;
    counts = λ n.
        let sum = rest.counts n in
        let one : ℕ = if a.number == n then 1 else 0 in
        omega (arith, sum);
  }

  part_all : (all : List (Trace S)) (typed : List Typed) → AreTraces remaining came typed all → Parted all typed
  part_all [] typed h = record {
    stay = [];
    go = [];
    are = refl;
    here = tt;
    gone = tt;
    they_are = tt;
    go_are = tt;
    counts = λ n. refl;
  }
  part_all (a ∷ all) typed h = part_one (is_gone a.last) a all typed refl h.0 (part_all all typed h.1)

  traces_both : (typed : List Typed) (xs ys : List (Trace S)) → AreTraces remaining came typed xs
      → AreTraces remaining came typed ys → AreTraces remaining came typed (xs ++ ys)
  traces_both typed [] ys h k = k
  traces_both typed (x ∷ xs) ys h k = (h.0, traces_both typed xs ys h.1 k)

  gone_both : (xs ys : List (Trace S)) → AreGone xs → AreGone ys → AreGone (xs ++ ys)
  gone_both [] ys h k = k
  gone_both (x ∷ xs) ys h k = (h.0, gone_both xs ys h.1 k)

  there_both : (xs ys : List (Trace S)) → AreThere xs → AreThere ys → AreThere (xs ++ ys)
  there_both [] ys h k = k
  there_both (x ∷ xs) ys h k = (h.0, there_both xs ys h.1 k)

  -- the first is the last
  abbrev turned : List (Trace S) → List (Trace S)
  turned [] = []
  turned (a ∷ all) = all ++ a ∷ []

  lasts_turned : (all : List (Trace S)) → lasts (turned all) ≡ turned_round (lasts all)
  lasts_turned [] = refl
  lasts_turned (a ∷ all) = map-append (λ (x : Trace S). x.last) all (a ∷ [])

  counts_turned : (n : ℕ) (all : List (Trace S)) → count_of n (turned all) ≡ count_of n all
  counts_turned n [] = refl
  counts_turned n (a ∷ all) =
      let both = counts_both n all (a ∷ []) in
      let one : ℕ = if a.number == n then 1 else 0 in
      omega (arith, both)

  traces_turned : (typed : List Typed) (all : List (Trace S)) → AreTraces remaining came typed all
      → AreTraces remaining came typed (turned all)
  traces_turned typed [] h = tt
  traces_turned typed (a ∷ all) h = traces_both typed all (a ∷ []) h.1 (h.0, tt)

  there_turned : (all : List (Trace S)) → AreThere all → AreThere (turned all)
  there_turned [] h = tt
  there_turned (a ∷ all) h = there_both all (a ∷ []) h.1 (h.0, tt)

-- ---- a run

length_more : {X : Type 0} (xs : List X) (x : X) → length (xs ++ x ∷ []) ≡ length xs + 1
length_more [] x = refl
length_more (y ∷ ys) x = let rest = length_more ys x in omega (arith, rest)

-- a number that is another's counts nothing, and its own once
counts_other : (m n : ℕ) → m ≢ n → ◌≡◌ {A = ℕ} (if m == n then 1 else 0) 0
counts_other m n other = ap (λ b. if b then 1 else 0) (other_number m n other)

counts_own : (n : ℕ) → ◌≡◌ {A = ℕ} (if n == n then 1 else 0) 1
counts_own n = ap (λ b. if b then 1 else 0) (same_number n)

module _ {S : Type 0} (remaining contents : S → Option (List ℕ)) (to : Addr) (first : ClientView) where
  abbrev Is : List S → Shared S → Type 0
  Is came s = IsTyped remaining to came first s

  came_once : (came : List S) (old : Shared S) (h : Is came old) (mine : Trace S) → mine.number ≡ length came → (n : ℕ)
      → n < length came + 1
      → ((leb (length came) n ≡ true) × (length came ≤ n)) ⊎ ((leb (length came) n ≡ false) × (n < length came))
      → count_of n (h.there ++ mine ∷ []) + count_of n h.left ≡ 1
  came_once came old h mine is n below (inr here) =
      let before = h.each_once n here.1 in
      let both = counts_both n h.there (mine ∷ []) in
      let none : ◌≡◌ {A = ℕ} (if mine.number == n then 1 else 0) 0 = counts_other mine.number n (λ e. omega (arith, here.1, is, e)) in
      omega (arith, before, both, none)
  came_once came old h mine is n below (inl above) =
      let before = h.no_other n above.1 in
      let both = counts_both n h.there (mine ∷ []) in
      let same : mine.number ≡ n = omega (arith, below, above.1, is) in
      let own : ◌≡◌ {A = ℕ} (if mine.number == n then 1 else 0) 1 = ap (λ k. if k == n then 1 else 0) same ∙ counts_own n in
      omega (arith, before, both, own)

  -- one came
  came_typed : (came : List S) (stream : S) (old new : Shared S) → Comes stream old new → Is came old → Is (came ++ stream ∷ []) new
  came_typed came stream old new c h =
      let t = c.terminal in
      let mine : Trace S = record { number = length came; came = stream; last = t; read = [] } in
      let none : acts_of (length came) h.typed ≡ [] = h.nobody (length came) (omega arith) in
      let state : t.state ≡ Here = c.fresh.here in
      let kept : t.lines.kept ≡ [] = ap (λ l. l.kept) c.fresh.lines in
      let empty : Stands [] false [] [] = record { lines = []; is = refl; takes = (refl, refl) } in
      let stands : Stands t.lines.kept t.watches [] (acts_of (length came) h.typed) =
      subst (Stands t.lines.kept t.watches []) (sym none)
      (subst (λ k. Stands k t.watches [] []) (sym kept) (subst (λ w. Stands [] w [] []) (sym c.fresh.watches) empty)) in
      let is : IsTrace remaining (came ++ stream ∷ []) h.typed mine = record {
        at = at_last came stream;
        consumed = subst (λ s. Consumes (remaining stream) (remaining s) []) (sym c.is) (Consumes-nil (remaining stream));
        acts = record {
          lines = [];
          rest = [];
          watches = false;
          is = refl;
          takes = (refl, none);
        };
        stands = λ on. stands;
      } in
      let len = length_more came stream in
      let once : (n : ℕ) → n < length came + 1
      → ((leb (length came) n ≡ true) × (length came ≤ n)) ⊎ ((leb (length came) n ≡ false) × (n < length came))
      → count_of n (h.there ++ mine ∷ []) + count_of n h.left ≡ 1 = came_once came old h mine refl in
      record {
        typed = h.typed;
        there = h.there ++ mine ∷ [];
        left = h.left;
        goes = subst (GoesOn to first (all_acts h.typed)) (sym (ap (λ s. s.client) c.all)) h.goes;
        all = ap (λ s. s.all) c.all ∙ (ap (λ l. l ++ t ∷ []) h.all ∙ sym (map-append (λ (x : Trace S). x.last) h.there (mine ∷ [])));
        here = there_both remaining contents came h.there (mine ∷ []) h.here (ap (λ s. is_let_go s t.lines.kept) state, tt);
        gone = h.gone;
        are_there = traces_both remaining contents (came ++ stream ∷ []) h.typed h.there (mine ∷ [])
            (traces_later remaining contents came (stream ∷ []) h.typed h.there h.are_there) (is, tt);
        were_there = traces_later remaining contents came (stream ∷ []) h.typed h.left h.were_there;
        each_once = λ n below. once n (omega (arith, below, len)) (leb_tells (length came) n);
        no_other = λ n above.
            let before = h.no_other n (omega (arith, above, len)) in
            let both = counts_both n h.there (mine ∷ []) in
            let none : ◌≡◌ {A = ℕ} (if length came == n then 1 else 0) 0 =
            counts_other (length came) n (λ e. omega (arith, above, len, e)) in
            omega (arith, before, both, none);
        nobody = λ n above. h.nobody n (omega (arith, above, len));
      }

  few_of : (came : List S) (s : Shared S) (h : Is came s) (n : ℕ)
      → ((leb (length came) n ≡ true) × (length came ≤ n)) ⊎ ((leb (length came) n ≡ false) × (n < length came))
      → count_of n h.left + count_of n h.there ≤ 1
  few_of came s h n (inr below) = let each = h.each_once n below.1 in omega (arith, each)
  few_of came s h n (inl above) = let each = h.no_other n above.1 in omega (arith, each)

  -- a round was taken
  took_typed : (came : List S) (silence : Silence) (wait : ℕ) (calls calls' : Option (List PortCall)) (old new : Shared S)
      → IsStep remaining contents to (Took silence wait) calls calls' old new → Is came old → Is came new
  took_typed came silence wait calls calls' old new r h =
      let few : (n : ℕ) → count_of n h.left + count_of n h.there ≤ 1 = λ n. few_of came old h n (leb_tells (length came) n) in
      let hears : HearsAll remaining contents (lasts h.there) r.heard old.client r.client r.ending =
      subst (λ l. HearsAll remaining contents l r.heard old.client r.client r.ending) h.all r.hears in
      let heard : AllHeard remaining contents came to h.left h.there h.typed r.heard old.client r.client =
      all_heard remaining contents came to h.left h.there h.typed r.heard old.client r.client r.ending hears h.were_there h.are_there h.here
      few in
      let typed = h.typed ++ heard.more in
      let shown : AllStay remaining contents came heard.all typed r.painted =
      all_stay remaining contents came (MayPaint silence new.client) typed
      (λ a t. painted_trace remaining contents came silence new.client typed a t) heard.all r.painted
      (subst (λ l. AreEach (MayPaint silence new.client) l r.painted) (sym heard.are) r.paints) heard.they_are in
      let settled : AllStay remaining contents came shown.they typed r.settled =
      all_stay remaining contents came (Settles remaining contents silence) typed
      (λ a t. settled_trace remaining contents came silence typed a t) shown.they r.settled
      (subst (λ l. AreEach (Settles remaining contents silence) l r.settled) (sym shown.are) r.settles) shown.they_are in
      let parted : Parted remaining contents came settled.they typed =
      part_all remaining contents came settled.they typed settled.they_are in
      let counts : (n : ℕ) → count_of n (turned remaining contents came parted.stay) + count_of n (parted.go ++ h.left)
      ≡ count_of n h.there + count_of n h.left = λ n.
      let a = counts_turned remaining contents came n parted.stay in
      let b = counts_both n parted.go h.left in
      let c = parted.counts n in
      let d = settled.counts n in
      let e = shown.counts n in
      let f = heard.counts n in
      omega (arith, a, b, c, d, e, f) in
      record {
        typed = typed;
        there = turned remaining contents came parted.stay;
        left = parted.go ++ h.left;
        goes = turns r.client new.client (all_acts typed) calls calls'
            (subst (λ l. GoesOn to first l r.client) (sym (all_both h.typed heard.more))
            (goes_both to first old.client r.client (all_acts h.typed) (all_acts heard.more) h.goes heard.goes))
            r.turns;
        all = r.all
            ∙ (ap (λ l. turned_round (who_stay l)) (sym settled.are)
            ∙ (ap turned_round (sym parted.are) ∙ sym (lasts_turned remaining contents came parted.stay)));
        here = there_turned remaining contents came parted.stay parted.here;
        gone = gone_both remaining contents came parted.go h.left parted.gone h.gone;
        are_there = traces_turned remaining contents came typed parted.stay parted.they_are;
        were_there = traces_both remaining contents came typed parted.go h.left parted.go_are heard.others_are;
        each_once = λ n below.
            let each = h.each_once n below in
            let same = counts n in
            omega (arith, each, same);
        no_other = λ n above.
            let each = h.no_other n above in
            let same = counts n in
            omega (arith, each, same);
        nobody = λ n above.
            let each = h.no_other n above in
            let nothing_typed : count_of n h.there ≡ 0 = omega (arith, each) in
            acts_both n h.typed heard.more ∙ (ap (λ l. l ++ acts_of n heard.more) (h.nobody n above) ∙ heard.nobody n nothing_typed);
      }

  step_typed : (came : List S) (step : RunStep S) (calls calls' : Option (List PortCall)) (old new : Shared S)
      → IsStep remaining contents to step calls calls' old new → Is came old → Is (came ++ came_in (step ∷ [])) new
  step_typed came (Asks call) calls calls' old new h is =
      subst (λ c. Is c new) (sym (append-nil came)) (subst (Is came) (sym h.1) is)
  step_typed came (Came stream) calls calls' old new h is = came_typed came stream old new h.1 is
  step_typed came (Took silence wait) calls calls' old new h is =
      subst (λ c. Is c new) (sym (append-nil came)) (took_typed came silence wait calls calls' old new h is)

  runs_typed : (steps : List (RunStep S)) (came : List S) (calls calls' : Option (List PortCall)) (old new : Shared S)
      → RunsBy remaining contents to steps calls calls' old new → Is came old → Is (came ++ came_in steps) new
  runs_typed [] came calls calls' old new h is =
      subst (λ c. Is c new) (sym (append-nil came)) (subst (Is came) (sym h.1) is)
  runs_typed (step ∷ steps) came calls calls' old new h is =
      subst (λ c. Is c new) (came_on remaining contents to came step steps)
      (runs_typed steps (came ++ came_in (step ∷ [])) h.1 calls' h.0 new h.3 (step_typed came step calls h.1 old h.0 h.2 is))

pub lines_are_typed : {S : Type 0} (remaining contents : S → Option (List ℕ)) → LinesAreTyped remaining contents
lines_are_typed remaining contents to steps calls calls' old new none h =
    runs_typed remaining contents to old.client steps [] calls calls' old new h (record {
      typed = [];
      there = [];
      left = [];
      goes = still;
      all = none;
      here = tt;
      gone = tt;
      are_there = tt;
      were_there = tt;
      each_once = λ n below. absurd (omega (arith, below));
      no_other = λ n above. refl;
      nobody = λ n above. refl;
    })
