-- The states at both ends of a link stay true. Of "is the true state of the number" it is used that a number has one true state.
use Rattle.std.proofs.Common.{◌≡◌, ◌⊎◌, ℕ, true, false, eqb, leb, List, [], ◌∷◌, All, Option, Some, sym, ap, subst, ◌∙◌, inl, inr, arith}
use Rattle.std.proofs.lemmas.Bool.{cases_Bool}
use Rattle.std.proofs.lemmas.Bool.Decides.{nat_tests}
use Rattle.std.proofs.lemmas.List.Elements.{All-nil, All-cons, All-head, All-tail, All-push, All-weaker}
use Rattle.roam_sync.specs.declared.senders.Held.{Held}
use Rattle.roam_sync.specs.declared.receivers.Pair.{Pair}
use Rattle.roam_sync.specs.Senders.{Sending, newest, last_of, offered, acked, after_ack, mark_base, mark_last, sent_at, start as sender_start}
use Rattle.roam_sync.specs.Receivers.{Receiving, pairs, state_at, from_floor, start as receiver_start}
use Rattle.roam_sync.specs.Links.{Update, update_of, IsChange, Hears}
use Rattle.roam_sync.specs.TrueLinks.{LeadsTruly, TrueLink}

module _ {S : Type 0} (Is : ℕ → S → Type 0) where
  -- the pair of a sender is true
  abbrev pub IsPair : Held S → Type 0
  IsPair h = Is h.number h.state

  -- the pair of a receiver is true
  abbrev pub IsHad : Pair S → Type 0
  IsHad p = Is p.number p.state

  last_true : (base : Held S) (hs : List (Held S)) → All IsPair (base ∷ hs) → IsPair (last_of base hs)
  last_true base [] all = All-head IsPair base [] all
  last_true base (h ∷ hs) all = last_true h hs (All-tail IsPair base (h ∷ hs) all)

  after_ack_true : (base : Held S) (others hs : List (Held S)) (k : ℕ) → All IsPair (base ∷ others) → All IsPair hs
      → All IsPair ((after_ack (base, others) hs k).0 ∷ (after_ack (base, others) hs k).1)
  after_ack_true base others [] k all rest = all
  after_ack_true base others (h ∷ hs) k all rest =
      elim (cases_Bool (eqb h.number k)) [
        | inl e ↦ rw e rest
        | inr e ↦ rw e (after_ack_true base others hs k all (All-tail IsPair h hs rest))
      ]

  mark_last_true : (hs : List (Held S)) → All IsPair hs → All IsPair (mark_last hs)
  mark_last_true [] all = all
  mark_last_true (h ∷ []) all = All-cons IsPair (record h { sent = true }) [] (All-head IsPair h [] all) (All-nil IsPair)
  mark_last_true (h ∷ g ∷ hs) all =
      let rest = mark_last_true (g ∷ hs) (All-tail IsPair h (g ∷ hs) all) in
      All-cons IsPair h (mark_last (g ∷ hs)) (All-head IsPair h (g ∷ hs) all) rest

  mark_base_true : (base : Held S) (hs : List (Held S)) → IsPair base → IsPair (mark_base base hs)
  mark_base_true base [] is = is
  mark_base_true base (h ∷ hs) is = is

  floor_true : (floor : ℕ) (ps : List (Pair S)) → All IsHad ps → All IsHad (from_floor floor ps)
  floor_true floor [] all = all
  floor_true floor (p ∷ ps) all =
      let rest = floor_true floor ps (All-tail IsHad p ps all) in
      elim (cases_Bool (leb floor p.number)) [
        | inl e ↦ rw e (All-cons IsHad p (from_floor floor ps) (All-head IsHad p ps all) rest)
        | inr e ↦ rw e rest
      ]

  -- a state that is found is true
  pub found_true : (n : ℕ) (ps : List (Pair S)) (s : S) → All IsHad ps → state_at n ps ≡ Some s → Is n s
  found_true n [] s all e = absurd cc
  found_true n (p ∷ ps) s all e =
      elim (cases_Bool (eqb p.number n)) [
        | inl t ↦
            let is : p.number ≡ n = grind (arith, nat_tests) in
            let found : Some p.state ≡ Some s = rw t at e in
            let same : p.state ≡ s = cc in
            subst (λ (m : ℕ). Is m s) is (subst (Is p.number) same (All-head IsHad p ps all))
        | inr t ↦ found_true n ps s (All-tail IsHad p ps all) (rw t at e)
      ]

-- ---- the link stays true

module _ {S : Type 0} (applied : S → List ℕ → Option S) (Is : ℕ → S → Type 0) where
  -- before anything was sent
  pub true_at_first : (state : S) (WasSent : Update → Type 0) → Is 0 state → ((u : Update) → WasSent u → ⊥)
      → TrueLink applied Is (sender_start state) (receiver_start state) WasSent
  true_at_first state WasSent is none = record {
    sender = All-cons (IsPair Is) (record { number = 0; state = state; sent = false }) [] is (All-nil (IsPair Is));
    receiver = All-cons (IsHad Is) (record { number = 0; state = state }) [] is (All-nil (IsHad Is));
    updates = λ u sent. absurd (none u sent);
  }

module _ {S : Type 0} (applied : S → List ℕ → Option S) (Is : ℕ → S → Type 0) (s : Sending S) (r : Receiving S) (WasSent : Update → Type 0)
    (link : TrueLink applied Is s r WasSent) where
  -- a true state is offered
  pub true_offered : (n : ℕ) (state : S) → Is n state → TrueLink applied Is (offered s n state) r WasSent
  true_offered n state is = record {
    sender = All-push (IsPair Is) (s.base ∷ s.later) (record { number = n; state = state; sent = false }) link.sender is;
    receiver = link.receiver;
    updates = link.updates;
  }

  -- an acknowledgement comes, of whatever number
  pub true_acked : (n : ℕ) → TrueLink applied Is (acked s n) r WasSent
  true_acked n = record {
    sender = after_ack_true Is s.base s.later s.later n link.sender (All-tail (IsPair Is) s.base s.later link.sender);
    receiver = link.receiver;
    updates = link.updates;
  }

  -- the newest is sent at a moment
  pub true_sent : (IsSentNow : Update → Type 0) (now : ℕ) (change : List ℕ) → IsChange applied s change
      → ((u : Update) → IsSentNow u → WasSent u ⊎ (u ≡ update_of s change)) → TrueLink applied Is (sent_at s now) r IsSentNow
  true_sent IsSentNow now change leads only = record {
    sender = All-cons (IsPair Is) (mark_base s.base s.later) (mark_last s.later) (mark_base_true Is s.base s.later base)
        (mark_last_true Is s.later (All-tail (IsPair Is) s.base s.later link.sender));
    receiver = link.receiver;
    updates = λ u sent. elim (only u sent) [
      | inl before ↦ link.updates u before
      | inr this ↦ subst (LeadsTruly applied Is) (sym this) truly
    ];
  }
    where
      base : IsPair Is s.base
      base = All-head (IsPair Is) s.base s.later link.sender

      truly : LeadsTruly applied Is (update_of s change)
      truly = record {
        base = s.base.state;
        state = (newest s).state;
        from_true = base;
        to_true = last_true Is s.base s.later link.sender;
        leads = leads;
      }

  -- an update that was ever sent is new to the receiver
  pub true_heard : (r' : Receiving S) (u : Update) → ((n : ℕ) (a b : S) → Is n a → Is n b → a ≡ b) → WasSent u → Hears applied r u r'
      → TrueLink applied Is s r' WasSent
  true_heard r' u one sent hears =
      let t = hears.takes in
      let l = link.updates u sent in
      let same : t.base ≡ l.base = one u.old t.base l.base (found_true Is u.old (pairs r) t.base link.receiver t.held) l.from_true in
      let e : Some l.state ≡ Some r'.newest.state = sym l.leads ∙ sym (ap (λ b. applied b u.change) same) ∙ t.leads in
      let state : l.state ≡ r'.newest.state = cc in
      let is : Is u.new r'.newest.state = subst (Is u.new) state l.to_true in
      record {
        sender = link.sender;
        receiver = All-push (IsHad Is) r'.earlier r'.newest (rw t.earlier (floor_true Is u.floor (pairs r) link.receiver)) (rw t.number is);
        updates = link.updates;
      }

  -- true pairs stay true, and no more was sent
  pub true_still : (Then : ℕ → S → Type 0) (IsSentNow : Update → Type 0) → ((n : ℕ) (a : S) → Is n a → Then n a)
      → ((u : Update) → IsSentNow u → WasSent u) → TrueLink applied Then s r IsSentNow
  true_still Then IsSentNow still fewer = record {
    sender = All-weaker (IsPair Is) (IsPair Then) (λ h. still h.number h.state) (s.base ∷ s.later) link.sender;
    receiver = All-weaker (IsHad Is) (IsHad Then) (λ p. still p.number p.state) (pairs r) link.receiver;
    updates = λ u sent. let l = link.updates u (fewer u sent) in record {
      base = l.base;
      state = l.state;
      from_true = still u.old l.base l.from_true;
      to_true = still u.new l.state l.to_true;
      leads = l.leads;
    };
  }
