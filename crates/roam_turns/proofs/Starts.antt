-- The screen of a client instance of the code, before and after its calls.
use Rattle.std.proofs.Common.{◌≡◌, ℕ, ◌<◌, leb, inl, inr, List, refl, sym, ap, ◌∙◌, subst, arith}
use Rattle.std.specs.Prelude.{Result, Vec}
use Rattle.std.specs.declared.alloc.Global.{Global}
use Rattle.std.proofs.lemmas.Bool.{cases_Bool}
use Rattle.std.proofs.lemmas.Bool.Decides.{nat_tests}
use Rattle.roam_cells.specs.declared.faults.Fault.{Fault}
use Rattle.roam_screens.specs.Screenshot.{Screenshot}
use Rattle.roam_acts.specs.declared.acts.Act.{Act}
use Rattle.roam_model.specs.Versions.{applied_by}
use Rattle.roam_wire.specs.declared.versions.Version.{Version}
use Rattle.roam_sync.specs.declared.receivers.Step.{Step}
use Rattle.roam_sync.specs.declared.receivers.Step.TheVariants as step
use Rattle.roam_sync.specs.Receivers.{Receiving, step_for}
use Rattle.roam_sync.specs.Links.{Update, Delivers}
use Rattle.roam_model.specs.Texts.{update_in}
use Rattle.roam_hub.specs.declared.clients.Heard.{Heard}
use Rattle.roam_hub.specs.Clients.{ClientView, Types, Hears, Sends}
use Rattle.roam_hub.specs.Clients.Types.{watching, full, spent as typed_spent, typed, no_memory as typed_no_memory}
use Rattle.roam_hub.specs.Clients.Hears.{no_datagram, refused, fragment, unread, bad_change, whole, no_memory as heard_no_memory}
use Rattle.roam_hub.specs.Clients.Sends.{quiet, spent, sent, no_memory}
use Rattle.roam_turns.specs.Painting.{Follows}

-- ---- the screen

pub follows_none : (n : ℕ) (s : Screenshot) → Follows n s n s
follows_none n s = record { rises = omega arith; same = λ e. refl }

pub follows_both : (n n' n'' : ℕ) (s s' s'' : Screenshot) → Follows n s n' s' → Follows n' s' n'' s'' → Follows n s n'' s''
follows_both n n' n'' s s' s'' h k =
    let a = h.rises in
    let b = k.rises in
    record { rises = omega arith; same = λ e. h.same (omega (arith, e, a, b)) ∙ k.same (omega (arith, e, a, b)) }

-- the states of a receiver after the earlier ones
abbrev pub ReceiverFollows : Receiving Screenshot → Receiving Screenshot → Type 0
ReceiverFollows r r' = Follows r.newest.number r.newest.state r'.newest.number r'.newest.state

pub same_follows : (r r' : Receiving Screenshot) → r' ≡ r → ReceiverFollows r r'
same_follows r r' e = subst (λ (x : Receiving Screenshot). ReceiverFollows r x) (sym e) (follows_none r.newest.number r.newest.state)

-- a new update is above the newest
above : (r : Receiving Screenshot) (old new floor : ℕ) → step_for r old new floor ≡ step.New → r.newest.number < new
above r old new floor is =
    elim (cases_Bool (leb new r.newest.number)) [
      | inl a ↦ absurd (let no : step.Old ≡ step.New = rw a at is in cc)
      | inr a ↦ grind (arith, nat_tests)
    ]

delivers_follow : (v : Version) (r r' : Receiving Screenshot) (u : Update) → Delivers (applied_by v) r u r' → ReceiverFollows r r'
delivers_follow v r r' u d = go (step_for r u.old u.new u.floor) refl
  where
    other : (s : Step) → step_for r u.old u.new u.floor ≡ s → (s ≡ step.New → ⊥) → ReceiverFollows r r'
    other s e not = same_follows r r' (d.other (λ f. not (sym e ∙ f)))

    go : (s : Step) → step_for r u.old u.new u.floor ≡ s → ReceiverFollows r r'
    go step.New e =
        let up = above r u.old u.new u.floor e in
        let is = (d.fresh e).number in
        record { rises = omega (arith, up, is); same = λ same. absurd (omega (arith, up, is, same)) }
    go step.Old e = other step.Old e (λ f. absurd (cc))
    go step.Gap e = other step.Gap e (λ f. absurd (cc))

-- ---- calls

abbrev pub receiver_of : ClientView → Receiving Screenshot
receiver_of v = v.kept.receiver

pub types_same : (v : ClientView) (act : Act) (result : Result (Unit {0}) Fault) (new : ClientView) → Types v act result new
    → receiver_of new ≡ receiver_of v
types_same v act result new (watching a b st) = ap receiver_of st
types_same v act result new (full a b d st) = ap receiver_of st
types_same v act result new (typed_spent a b d st) = ap receiver_of st
types_same v act result new (typed a b d e st) = ap receiver_of st
types_same v act result new (typed_no_memory edits room low a st) = ap receiver_of st

pub sends_same : (v : ClientView) (now : ℕ) (result : Result (Vec (Vec ℕ Global) Global) Fault) (new : ClientView)
    → Sends v now result new → receiver_of new ≡ receiver_of v
sends_same v now result new (quiet none a b d st) = ap receiver_of st
sends_same v now result new (spent a b d st) = ap receiver_of st
sends_same v now result new (sent all a b d e st) = ap receiver_of st
sends_same v now result new (no_memory due free a st) = ap receiver_of st

pub hears_follow : (v : ClientView) (bytes : List ℕ) (now : ℕ) (result : Result Heard Fault) (new : ClientView)
    → Hears v bytes now result new → ReceiverFollows (receiver_of v) (receiver_of new)
hears_follow v bytes now result new (no_datagram why a b st) = same_follows v.kept.receiver new.kept.receiver (ap receiver_of st)
hears_follow v bytes now result new (refused d f a b e st) = same_follows v.kept.receiver new.kept.receiver (ap receiver_of st)
hears_follow v bytes now result new (fragment d h g a b e st) = same_follows v.kept.receiver new.kept.receiver (ap receiver_of st)
hears_follow v bytes now result new (unread d g t w a b e f st) = same_follows v.kept.receiver new.kept.receiver (ap receiver_of st)
hears_follow v bytes now result new (bad_change d g t u x a b e f h k l st) =
    same_follows v.kept.receiver new.kept.receiver (ap receiver_of st)
hears_follow v bytes now result new (whole d h g t u r a b e delivers f k st) =
    subst (λ (x : Receiving Screenshot). ReceiverFollows v.kept.receiver x) (sym (ap receiver_of st))
    (delivers_follow v.kept.version v.kept.receiver r (update_in u) delivers)
hears_follow v bytes now result new (heard_no_memory d is a st) = same_follows v.kept.receiver new.kept.receiver (ap receiver_of st)
