-- The pairs of records stay pairs of numbers with their screens.
use Rattle.std.proofs.Common.{◌≡◌, ℕ, ◌+◌, ◌<◌, List, [], ◌∷◌, ◌++◌, map, Option, Some, None, Bool, true, false, refl, sym, ap, ◌∙◌, subst, cond, arith}
use Rattle.std.specs.Prelude.{nat_eq, nat_lt, ◌&&◌}
use Rattle.std.specs.List.{All, AllByRecursion}
use Rattle.std.specs.Map.{lookup, set_value}
use Rattle.std.proofs.lemmas.Bool.Decides.{nat_tests}
use Rattle.std.proofs.lemmas.List.Elements.{All-nil}
use Rattle.roam_screens.specs.Screenshot.{Screenshot}
use Rattle.roam_screens.proofs.Narrowed.{stays, old_blank}
use Rattle.roam_sync.specs.declared.senders.Held.{Held}
use Rattle.roam_sync.specs.Senders.{Sending, start, newest, last_of, count, acked, after_ack, offered, sent_at, mark_base, mark_last}
use Rattle.roam_session.specs.Stands.{SessionView}
use Rattle.roam_wire.specs.declared.versions.Version.{Version}
use Rattle.roam_wire.specs.declared.versions.Version.TheVariants.{One, Two}
use Rattle.roam_wire.specs.Datagrams.{DatagramValue}
use Rattle.roam_model.specs.Numbers.{first_screen}
use Rattle.roam_model.specs.Texts.{Address}
use Rattle.roam_model.specs.Versions.{seen_by}
use Rattle.roam_model.specs.Servers.{no_record}
use Rattle.roam_model.specs.Ticks.{holds_after}
use Rattle.roam_model.proofs.Versions as versions
use Rattle.roam_hub.specs.declared.taking.Taking.{Taking}
use Rattle.roam_hub.specs.declared.shared.SharedChange.{SharedChange}
use Rattle.roam_hub.specs.Servers.{RecordView, kept_of}
use Rattle.roam_hub.specs.Records.{Notes, fragment, instruction, NotesIn, Puts, known, added, fitted_record, held_record, settled_with, settled_entry, fragments_sent}
use Rattle.roam_hub.specs.Shared.{IsMade, HoldsMade, HoldMade, HaveScreens, IsBetween, GoTogether}

-- ---- one more screen

-- the screens, with one of a number
abbrev with_screen : (ℕ → Screenshot) → ℕ → Screenshot → ℕ → Screenshot
with_screen screens n s k = cond (nat_eq k n) s (screens k)

screen_here : (screens : ℕ → Screenshot) (n : ℕ) (s : Screenshot) → with_screen screens n s n ≡ s
screen_here screens n s =
    let e : nat_eq n n ≡ true = grind (arith, nat_tests) in
    ap (λ b. cond b s (screens n)) e

screen_before : (screens : ℕ → Screenshot) (n : ℕ) (s : Screenshot) (k : ℕ) → k < n → with_screen screens n s k ≡ screens k
screen_before screens n s k low =
    let e : nat_eq k n ≡ false = grind (arith, nat_tests, low) in
    ap (λ b. cond b s (screens k)) e

module _ (screens : ℕ → Screenshot) (most : ℕ) (s : Screenshot) where
  next_pair : (v : Version) (h : Held Screenshot) → IsMade screens most v h → IsMade (with_screen screens (most + 1) s) (most + 1) v h
  next_pair v h m =
      let low = m.number in
      record {
        number = omega (arith, low);
        state = m.state ∙ ap (λ (t : Screenshot). seen_by v t) (sym (screen_before screens (most + 1) s h.number (omega (arith, low))));
      }

  next_pairs : (v : Version) (hs : List (Held Screenshot)) → AllByRecursion (IsMade screens most v) hs
      → AllByRecursion (IsMade (with_screen screens (most + 1) s) (most + 1) v) hs
  next_pairs v [] all = tt
  next_pairs v (h ∷ hs) all = (next_pair v h all.0, next_pairs v hs all.1)

  next_all : (es : List (ℕ × RecordView)) → HoldMade screens most es → HoldMade (with_screen screens (most + 1) s) (most + 1) es
  next_all [] all = tt
  next_all (e ∷ es) all = (
    record { base = next_pair e.1.version e.1.sender.base all.0.base; later = next_pairs e.1.version e.1.sender.later all.0.later },
    next_all es all.1,
  )

-- ---- the states of a sender

module _ (screens : ℕ → Screenshot) (most : ℕ) (v : Version) where
  last_made : (base : Held Screenshot) (hs : List (Held Screenshot)) → IsMade screens most v base
      → AllByRecursion (IsMade screens most v) hs → IsMade screens most v (last_of base hs)
  last_made base [] b all = b
  last_made base (h ∷ hs) b all = last_made h hs all.0 all.1

  -- the newest is a number with its screen
  pub newest_made : (s : Sending Screenshot) → HoldsMade screens most v s → IsMade screens most v (newest s)
  newest_made s m = last_made s.base s.later m.base m.later

  after_made : (all : Held Screenshot × List (Held Screenshot)) (hs : List (Held Screenshot)) (k : ℕ) → IsMade screens most v all.0
      → AllByRecursion (IsMade screens most v) all.1 → AllByRecursion (IsMade screens most v) hs
      → IsMade screens most v (after_ack all hs k).0 × AllByRecursion (IsMade screens most v) (after_ack all hs k).1
  after_made all [] k b more rest = (b, more)
  after_made all (h ∷ hs) k b more rest = go (nat_eq h.number k) (after_made all hs k b more rest.1)
    where
      go : (c : Bool) → IsMade screens most v (after_ack all hs k).0 × AllByRecursion (IsMade screens most v) (after_ack all hs k).1
          → IsMade screens most v (cond {A = Held Screenshot × List (Held Screenshot)} c (h, hs) (after_ack all hs k)).0
          × AllByRecursion (IsMade screens most v) (cond {A = Held Screenshot × List (Held Screenshot)} c (h, hs) (after_ack all hs k)).1
      go true next = (rest.0, rest.1)
      go false next = next

  acked_made : (s : Sending Screenshot) (k : ℕ) → HoldsMade screens most v s → HoldsMade screens most v (acked s k)
  acked_made s k m =
      let all = after_made (s.base, s.later) s.later k m.base m.later m.later in
      record { base = all.0; later = all.1 }

  more_made : (hs : List (Held Screenshot)) (h : Held Screenshot) → AllByRecursion (IsMade screens most v) hs → IsMade screens most v h
      → AllByRecursion (IsMade screens most v) (hs ++ h ∷ [])
  more_made [] h all m = (m, tt)
  more_made (g ∷ hs) h all m = (all.0, more_made hs h all.1 m)

  offered_made : (s : Sending Screenshot) (shown : Screenshot) → screens most ≡ shown → HoldsMade screens most v s
      → HoldsMade screens most v (offered s most (seen_by v shown))
  offered_made s shown e m =
      record {
        base = m.base;
        later = more_made s.later _ m.later (record { number = omega arith; state = ap (λ (t : Screenshot). seen_by v t) (sym e) });
      }

  base_marked : (base : Held Screenshot) (hs : List (Held Screenshot)) → IsMade screens most v base
      → IsMade screens most v (mark_base base hs)
  base_marked base [] m = record { number = m.number; state = m.state }
  base_marked base (h ∷ hs) m = m

  last_marked : (hs : List (Held Screenshot)) → AllByRecursion (IsMade screens most v) hs
      → AllByRecursion (IsMade screens most v) (mark_last hs)
  last_marked [] all = tt
  last_marked (h ∷ []) all = (record { number = all.0.number; state = all.0.state }, tt)
  last_marked (h ∷ g ∷ hs) all = (all.0, last_marked (g ∷ hs) all.1)

  sent_made : (s : Sending Screenshot) (now : ℕ) → HoldsMade screens most v s → HoldsMade screens most v (sent_at s now)
  sent_made s now m = record { base = base_marked s.base s.later m.base; later = last_marked s.later m.later }

-- both ends begin with the screen of 0
start_made : (screens : ℕ → Screenshot) (most : ℕ) (v : Version) → screens 0 ≡ first_screen → HoldsMade screens most v (start first_screen)
unfolding first_screen
start_made screens most One first =
    record {
      base = record { number = omega arith; state = sym (ap (λ (t : Screenshot). seen_by One t) first ∙ stays _ old_blank) };
      later = tt;
    }
start_made screens most Two first = record { base = record { number = omega arith; state = sym first }; later = tt }

-- ---- a record at a tick

pub held_made : (screens : ℕ → Screenshot) (v : RecordView) (n : ℕ) (s : Screenshot) (now : ℕ) → screens n ≡ s
    → HoldsMade screens n v.version v.sender → HoldsMade screens n v.version (held_record v n s now).sender
unfolding holds_after
held_made screens v n s now e m = go (nat_lt now (v.heard_at + 60000) && nat_lt (newest v.sender).number n && nat_lt (count v.sender) 8)
  where
    go : (b : Bool) → HoldsMade screens n v.version (cond b (offered v.sender n (seen_by v.version s)) v.sender)
    go true = offered_made screens n v.version v.sender s e m
    go false = m

settled_made : (screens : ℕ → Screenshot) (n : ℕ) (v : RecordView) (fragments : Option ℕ) (now : ℕ)
    → HoldsMade screens n v.version v.sender
    → HoldsMade screens n (settled_with v fragments now).version (settled_with v fragments now).sender
settled_made screens n v None now m = m
settled_made screens n v (Some k) now m = sent_made screens n v.version v.sender now m

all_settled_made : (screens : ℕ → Screenshot) (n : ℕ) (s : Screenshot) (now : ℕ) (es : List (ℕ × RecordView)) → screens n ≡ s
    → HoldMade screens n es → HoldMade screens n (map (settled_entry n s now) es)
all_settled_made screens n s now [] e all = tt
all_settled_made screens n s now (x ∷ es) e all = (
  settled_made screens n (held_record x.1 n s now) (fragments_sent (held_record x.1 n s now) now) now
      (held_made screens x.1 n s now e all.0),
  all_settled_made screens n s now es e all.1,
)

-- ---- the records of a server

-- at a tick that makes no number
pub have_sent : (n : ℕ) (s : Screenshot) (now : ℕ) (es new : List (ℕ × RecordView)) → HaveScreens n s es
    → new ≡ map (settled_entry n s now) es → HaveScreens n s new
have_sent n s now es new h is =
    record {
      screens = h.screens;
      first = h.first;
      last = h.last;
      made = subst (λ (xs : List (ℕ × RecordView)). HoldMade h.screens n xs) (sym is)
          (all_settled_made h.screens n s now es h.last h.made);
    }

-- at a tick that makes one
pub have_numbered : (n : ℕ) (old s : Screenshot) (now : ℕ) (es new : List (ℕ × RecordView)) → HaveScreens n old es
    → new ≡ map (settled_entry (n + 1) s now) es → HaveScreens (n + 1) s new
have_numbered n old s now es new h is =
    let screens = with_screen h.screens (n + 1) s in
    let last = screen_here h.screens (n + 1) s in
    record {
      screens = screens;
      first = screen_before h.screens (n + 1) s 0 (omega arith) ∙ h.first;
      last = last;
      made = subst (λ (xs : List (ℕ × RecordView)). HoldMade screens (n + 1) xs) (sym is)
          (all_settled_made screens (n + 1) s now es last (next_all h.screens n s es h.made));
    }

-- the beginning of a tick, with and without a new number
pub together_newest : (n : ℕ) (s : Screenshot) (es : List (ℕ × RecordView)) (cs : List SharedChange) → HaveScreens n s es → cs ≡ []
    → GoTogether n s es cs
together_newest n s es cs h none =
    record {
      screens = h.screens;
      last = h.last;
      made = h.made;
      between = subst (All (IsBetween h.screens)) (sym none) (All-nil (IsBetween h.screens));
    }

pub together_numbered : (n : ℕ) (old s : Screenshot) (es : List (ℕ × RecordView)) (cs : List SharedChange) → HaveScreens n old es → cs ≡ []
    → GoTogether (n + 1) s es cs
together_numbered n old s es cs h none =
    let screens = with_screen h.screens (n + 1) s in
    record {
      screens = screens;
      last = screen_here h.screens (n + 1) s;
      made = next_all h.screens n s es h.made;
      between = subst (All (IsBetween screens)) (sym none) (All-nil (IsBetween screens));
    }

-- ---- a datagram

module _ (screens : ℕ → Screenshot) (most : ℕ) where
  found_made : (id : ℕ) (es : List (ℕ × RecordView)) (v : RecordView) → lookup (nat_eq id) es ≡ Some v → HoldMade screens most es
      → HoldsMade screens most v.version v.sender
  found_made id [] v at all = absurd (cc)
  found_made id (e ∷ es) v at all = go (nat_eq id e.0) at (λ f. found_made id es v f all.1)
    where
      go : (b : Bool) → cond b (Some e.1) (lookup (nat_eq id) es) ≡ Some v
          → (lookup (nat_eq id) es ≡ Some v → HoldsMade screens most v.version v.sender) → HoldsMade screens most v.version v.sender
      go true f next = let z : e.1 ≡ v = cc in subst (λ (w : RecordView). HoldsMade screens most w.version w.sender) z all.0
      go false f next = next f

  set_made : (id : ℕ) (es : List (ℕ × RecordView)) (w : RecordView) → HoldsMade screens most w.version w.sender → HoldMade screens most es
      → HoldMade screens most (set_value (nat_eq id) es w)
  set_made id [] w m all = tt
  set_made id (e ∷ es) w m all = go (nat_eq id e.0) (set_made id es w m all.1)
    where
      go : (b : Bool) → HoldMade screens most (set_value (nat_eq id) es w)
          → HoldMade screens most (cond b ((e.0, w) ∷ es) (e ∷ set_value (nat_eq id) es w))
      go true next = (m, all.1)
      go false next = (all.0, next)

  pushed_made : (es : List (ℕ × RecordView)) (id : ℕ) (w : RecordView) → HoldMade screens most es
      → HoldsMade screens most w.version w.sender → HoldMade screens most (es ++ (id, w) ∷ [])
  pushed_made [] id w all m = (m, tt)
  pushed_made (e ∷ es) id w all m = (all.0, pushed_made es id w all.1 m)

  noted_made : (old new : RecordView) (before after : SessionView) (d : DatagramValue) (from : Address) (now : ℕ) (t : Taking)
      → Notes old before d from now t new after → HoldsMade screens most old.version old.sender
      → HoldsMade screens most new.version new.sender
  noted_made old new before after d from now t (fragment g coming took is same) m =
      subst (λ (w : RecordView). HoldsMade screens most w.version w.sender) (sym is) m
  noted_made old new before after d from now t (instruction g text u coming says is done) m =
      subst (λ (w : RecordView). HoldsMade screens most w.version w.sender) (sym is)
      (acked_made screens most old.version old.sender u.acked m)

  fresh_made : (d : DatagramValue) (v : RecordView) → screens 0 ≡ first_screen → v ≡ kept_of no_record
      → HoldsMade screens most d.version v.sender
  unfolding no_record
  fresh_made d v first is =
      subst (λ (w : RecordView). HoldsMade screens most d.version w.sender) (sym is) (start_made screens most d.version first)

  put_made : (old new : List (ℕ × RecordView)) (v w : RecordView) (d : DatagramValue) → screens 0 ≡ first_screen → Puts d old new v w
      → (HoldsMade screens most d.version v.sender → HoldsMade screens most w.version w.sender) → HoldMade screens most old
      → HoldMade screens most new
  put_made old new v w d first (known at fits is) next all =
      let m = found_made d.client old v at all in
      subst (λ (xs : List (ℕ × RecordView)). HoldMade screens most xs) (sym is)
      (set_made d.client old w
      (next (subst (λ (x : Version). HoldsMade screens most x v.sender) (versions.is_same-same v.version d.version fits.version_is) m)) all)
  put_made old new v w d first (added none room fresh is) next all =
      subst (λ (xs : List (ℕ × RecordView)). HoldMade screens most xs) (sym is)
      (pushed_made old d.client w all (next (fresh_made d v first fresh)))

pub have_noted : (n : ℕ) (s : Screenshot) (old new : List (ℕ × RecordView)) (before after : SessionView) (d : DatagramValue)
    (from : Address) (now : ℕ) (t : Taking) → NotesIn old before d from now t new after → HaveScreens n s old → HaveScreens n s new
have_noted n s old new before after d from now t notes h =
    record {
      screens = h.screens;
      first = h.first;
      last = h.last;
      made = put_made h.screens n old new notes.was notes.is d h.first notes.puts
          (noted_made h.screens n (fitted_record notes.was d) notes.is before after d from now t notes.notes) h.made;
    }

-- a new server
pub have_first : (made : ℕ) (s : Screenshot) (es : List (ℕ × RecordView)) → s ≡ first_screen → es ≡ [] → HaveScreens made s es
have_first made s es is none =
    record {
      screens = λ _. first_screen;
      first = refl;
      last = sym is;
      made = subst (λ (xs : List (ℕ × RecordView)). HoldMade (λ _. first_screen) made xs) (sym none) tt;
    }
