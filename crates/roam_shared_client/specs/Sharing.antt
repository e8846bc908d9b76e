-- A client instance with its outer terminals, and a round of it: each is heard, a turn is taken, each ready one is painted, and queued
-- bytes are written.
use Rattle.std.specs.Prelude.{◌≡◌, ℕ, ◌-◌, ◌^◌, min, nat_le, Bool, true, false, not, ◌||◌, ◌&&◌, List, [], ◌∷◌, ◌++◌, take, drop, filter, Option, Some, None, if◌then◌else◌}
use Rattle.std.specs.List.{All, list_any}
use Rattle.roam_hub.specs.Clients.{ClientView}
use Rattle.roam_cells.specs.declared.addresses.Addr.{Addr}
use Rattle.roam_screens.specs.Screenshot.{Screenshot}
use Rattle.roam_turns.specs.Calls.{PortCall}
use Rattle.roam_turns.specs.Cores.{client_step}
use Rattle.roam_turns.specs.Painting.{IsBehind}
use Rattle.roam_turns.specs.Parts.{Makes}
use Rattle.roam_turns.specs.Turns.{QuietTurn}
use Rattle.roam_terminal_input.specs.declared.entries.Entry.{Entry}
use Rattle.roam_outer_terminal.specs.Hearing.{HearsOne, told_of}
use Rattle.roam_outer_terminal.specs.Painted.{MayPaint, is_predicting}
use Rattle.roam_outer_terminal.specs.Silence.{seconds_of}
use Rattle.roam_outer_terminal.specs.Staying.{is_gone}
use Rattle.roam_outer_terminal.specs.Terminals.{asks_end}
use Rattle.roam_outer_terminal.specs.Writing.{Settles, is_empty}
use Rattle.roam_outer_terminal.specs.declared.hearing.Taking.{Taking}
use Rattle.roam_outer_terminal.specs.declared.hearing.Taking.TheVariants as taking
use Rattle.roam_outer_terminal.specs.declared.silence.Silence.{Silence}
use Rattle.roam_outer_terminal.specs.declared.terminal.Terminal.{Terminal}

-- so many terminals may be there at once
abbrev pub most_terminals : ℕ
most_terminals = 16

-- a client instance and its terminals; and since when it is to end, if a terminal asked for that
pub record Shared (S : Type 0) : Type 0 where
  pub client : ClientView
  pub all : List (Terminal S)
  pub ending : Option ℕ

-- the noted screen of each terminal was shown by the instance before
abbrev pub AreEachBehind : {S : Type 0} → List (Terminal S) → ℕ → Screenshot → Type 0
AreEachBehind all n s = All (λ terminal. IsBehind terminal.outer n s) all

-- ---- place by place

-- each of one list and the one at its place in another
abbrev pub AreEach : {X : Type 0} → (X → X → Type 0) → List X → List X → Type 0
AreEach R [] [] = Unit {0}
AreEach R [] (y ∷ ys) = ⊥
AreEach R (x ∷ xs) [] = ⊥
AreEach R (x ∷ xs) (y ∷ ys) = R x y × AreEach R xs ys

-- ---- hearing

-- each terminal was heard, one after the other, and its acts typed; and whether one asked for the end
abbrev pub HearsAll : {S : Type 0} → (S → Option (List ℕ)) → (S → Option (List ℕ)) → List (Terminal S) → List (Terminal S)
    → ClientView → ClientView → Bool → Type 0
HearsAll remaining contents [] [] client client' ending = (client' ≡ client) × (ending ≡ false)
HearsAll remaining contents [] (t ∷ ts) client client' ending = ⊥
HearsAll remaining contents (t ∷ ts) [] client client' ending = ⊥
HearsAll remaining contents (t ∷ ts) (t' ∷ ts') client client' ending =
    (mid : ClientView) × (entry : Option Entry) × (later : Bool) × HearsOne remaining contents entry t t' client mid
    × HearsAll remaining contents ts ts' mid client' later × (ending ≡ (asks_end t.watches entry || later))

-- The longest wait after the result of a line: none if it was taken, since another may follow; ten milliseconds if memory was refused; else
-- as long as 64 bits count.
abbrev pub wait_after : Taking → ℕ
wait_after taking.Nothing = 2 ^ 64 - 1
wait_after taking.Line = 0
wait_after taking.End = 0
wait_after taking.Waits = 2 ^ 64 - 1
wait_after taking.NoMemory = 10

-- the shortest of these waits
abbrev pub wait_after_all : {S : Type 0} (remaining contents : S → Option (List ℕ)) (all all' : List (Terminal S))
    (client client' : ClientView) (ending : Bool) → HearsAll remaining contents all all' client client' ending → ℕ
wait_after_all remaining contents [] [] client client' ending h = 2 ^ 64 - 1
wait_after_all remaining contents [] (t ∷ ts) client client' ending h = 0
wait_after_all remaining contents (t ∷ ts) [] client client' ending h = 0
wait_after_all remaining contents (t ∷ ts) (t' ∷ ts') client client' ending h =
    min (wait_after_all remaining contents ts ts' h.0 client' h.2 h.4) (wait_after (told_of h.3.takes))

-- each was heard, and so long may be waited for more
abbrev pub AreHeard : {S : Type 0} → (S → Option (List ℕ)) → (S → Option (List ℕ)) → List (Terminal S) → List (Terminal S)
    → ClientView → ClientView → Bool → ℕ → Type 0
AreHeard remaining contents all all' client client' ending wait =
    (hears : HearsAll remaining contents all all' client client' ending)
    × (wait ≡ wait_after_all remaining contents all all' client client' ending hears)

-- since when an instance is to end: since one of its terminals first asked for that
abbrev pub ending_after : Bool → ℕ → Option ℕ → Option ℕ
ending_after false moment ending = ending
ending_after true moment None = Some moment
ending_after true moment (Some since) = Some since

-- ---- the terminals that stay

-- those that stay, in their order
abbrev pub who_stay : {S : Type 0} → List (Terminal S) → List (Terminal S)
who_stay all = filter (λ t. not (is_gone t)) all

-- the first is the last
abbrev pub turned_round : {X : Type 0} → List X → List X
turned_round xs = drop 1 xs ++ take 1 xs

-- ---- the wait

-- something waits to be written to one of them
abbrev pub is_any_waiting : {S : Type 0} → List (Terminal S) → Bool
is_any_waiting all = list_any (λ t. not (is_empty t.waiting)) all

-- The longest wait, at most this one: a second if bytes are queued; 20 milliseconds if a terminal has predictions, except in a silence, in
-- which none is shown.
abbrev pub wait_for : {S : Type 0} → ℕ → Silence → List (Terminal S) → ℕ
wait_for wait silence all =
    if is_any_waiting all then min wait 1000
    else if not (nat_le 10 (seconds_of silence)) && list_any is_predicting all then min wait 20
    else wait

-- none after a round in which the last of what waited was written: they are painted again then
abbrev pub round_wait : {S : Type 0} → ℕ → List (Terminal S) → Silence → List (Terminal S) → ℕ
round_wait wait heard silence new =
    if is_any_waiting heard && not (is_any_waiting new) then 0 else wait_for wait silence new

-- ---- a round

-- A round. All terminals are heard first, so their acts are in one instruction. The instance is to end once one of them asked for that.
-- Then it takes a turn that shows nothing, each ready terminal is painted, and each gets its notice of a silence and its queued bytes.
-- Those that left are removed, and the order changes for the next round. The result is the longest wait.
pub record Rounds {S : Type 0} (remaining contents : S → Option (List ℕ)) (to : Addr) (silence : Silence) (wait : ℕ)
    (calls calls' : Option (List PortCall)) (old new : Shared S) : Type 0 where
  pub client : ClientView
  pub ending : Bool
  pub heard : List (Terminal S)
  pub painted : List (Terminal S)
  pub settled : List (Terminal S)
  pub hears : HearsAll remaining contents old.all heard old.client client ending
  pub ends : new.ending ≡ ending_after ending silence.moment old.ending
  pub turns : Makes client_step (QuietTurn to) calls calls' None None client new.client
  pub paints : AreEach (MayPaint silence new.client) heard painted
  pub settles : AreEach (Settles remaining contents silence) painted settled
  pub all : new.all ≡ turned_round (who_stay settled)
  pub waits : wait
      ≡ round_wait (wait_after_all remaining contents old.all heard old.client client ending hears) heard silence new.all
