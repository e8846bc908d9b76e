-- The facts about one link after every list of events.
use Rattle.std.proofs.Common.{◌≡◌, ◌⊎◌, ℕ, false, List, [], ◌∷◌, ◌++◌, Option, Some, refl, sym, ap, subst, ◌∙◌, inl, inr, arith, length-append}
use Rattle.std.specs.Prelude.{Contains}
use Rattle.std.proofs.lemmas.Bool.{cases_Bool}
use Rattle.std.proofs.lemmas.List.Elements.{All-contains, Contains-push, Contains-push_cases}
use Rattle.roam_sync.specs.declared.receivers.Step.TheVariants as step
use Rattle.roam_sync.specs.Senders.{Sending, newest, acked, is_held, sent_at}
use Rattle.roam_sync.specs.Receivers.{pairs}
use Rattle.roam_sync.specs.Links.{Update, update_of}
use Rattle.roam_sync.specs.TrueLinks.{TrueLink}
use Rattle.roam_sync.specs.InStep.{AreInStep}
use Rattle.roam_sync.specs.Laws.{Link, begun, Event, Offer, Send, Deliver, Answer, Acknowledge, Follows, Becomes, Runs, last_offered, IsOf, EachPairIsTrue, NumbersRise, BaseIsShared, UpdatesLeadOn, NoUpdateMakesAGap, NoChangeIsBad, NoNinthPair, OneRoundSuffices}
use Rattle.roam_sync.proofs.Sending.{after_ack-none, newest_of_more}
use Rattle.roam_sync.proofs.TrueStates.{IsHad, found_true, true_at_first, true_offered, true_acked, true_sent, true_heard}
use Rattle.roam_sync.proofs.Ends.{acked_last, had_rises, held_rises, marked_newest}
use Rattle.roam_sync.proofs.Steps.{in_step_at_first, in_step_offered, in_step_acked, in_step_answered, in_step_sent, in_step_heard}
use Rattle.roam_sync.proofs.Rounds.{old_or_new, one_round, alone}

nothing : {X : Type 0} (x : X) → Contains [] x → ⊥
nothing x there = absurd (let lt = there.1 in omega (arith, lt))

one_more : {X : Type 0} (xs : List X) (y x : X) → Contains (xs ++ y ∷ []) x → Contains xs x ⊎ (x ≡ y)
one_more xs y x there = elim (Contains-push_cases xs y x there) [ inl before ↦ inl before | inr this ↦ inr (sym this) ]

acked_newest : {S : Type 0} (s : Sending S) (k : ℕ) → (newest (acked s k)).number ≡ (newest s).number
acked_newest s k =
    elim (cases_Bool (is_held s.later k)) [
      | inl there ↦ ap (λ h. h.number) (acked_last (s.base, s.later) s.base s.later k there)
      | inr e ↦ rw (after_ack-none (s.base, s.later) s.later k e) refl
    ]

module _ {S : Type 0} (applied : S → List ℕ → Option S) (states : ℕ → S) where
  abbrev WasSent : Link S → Update → Type 0
  WasSent link = Contains link.updates

  abbrev WasAnswered : Link S → ℕ → Type 0
  WasAnswered link = Contains link.answers

  -- the states are true, and the ends are in step
  record Holds (link : Link S) : Type 0 where
    truth : TrueLink applied (IsOf states) link.sender link.receiver (WasSent link)
    in_step : AreInStep link.sender link.receiver (WasSent link) (WasAnswered link)

  one_state : (n : ℕ) (a b : S) → IsOf states n a → IsOf states n b → a ≡ b
  one_state n a b is is' = is ∙ sym is'

  holds_at_first : Holds (begun (states 0))
  holds_at_first = record {
    truth = true_at_first applied (IsOf states) (states 0) (Contains []) refl nothing;
    in_step = in_step_at_first (states 0) (Contains []) (Contains []) nothing nothing;
  }

  -- a step keeps the small invariant, then the large one
  holds_then : (link after : Link S) (e : Event) → Follows applied states link e after → Holds link → Holds after
  holds_then link after (Offer n) f h =
      subst Holds (sym f.2) (record {
        truth = true_offered applied (IsOf states) link.sender link.receiver (WasSent link) h.truth n (states n) refl;
        in_step = in_step_offered link.sender link.receiver (WasSent link) (WasAnswered link) h.in_step n (states n) f.0 f.1;
      })
  holds_then link after (Send now change) f h =
      let more = one_more link.updates (update_of link.sender change) in
      let sent = Contains (link.updates ++ update_of link.sender change ∷ []) in
      subst Holds (sym f.1) (record {
        truth = true_sent applied (IsOf states) link.sender link.receiver (WasSent link) h.truth sent now change f.0 more;
        in_step = in_step_sent link.sender link.receiver (WasSent link) (WasAnswered link) h.in_step sent now change more;
      })
  holds_then link after (Deliver u) f h =
      subst Holds (sym f.1.2) (record {
        truth = true_heard applied (IsOf states) link.sender link.receiver (WasSent link) h.truth f.1.0 u one_state f.0 f.1.1;
        in_step = in_step_heard link.sender link.receiver (WasSent link) (WasAnswered link) h.in_step applied f.1.0 u f.0 f.1.1;
      })
  holds_then link after Answer f h =
      let number = link.receiver.newest.number in
      subst Holds (sym f) (record {
        truth = h.truth;
        in_step = in_step_answered link.sender link.receiver (WasSent link) (WasAnswered link) h.in_step
            (Contains (link.answers ++ number ∷ [])) (one_more link.answers number);
      })
  holds_then link after (Acknowledge n) f h =
      subst Holds (sym f.1) (record {
        truth = true_acked applied (IsOf states) link.sender link.receiver (WasSent link) h.truth n;
        in_step = in_step_acked link.sender link.receiver (WasSent link) (WasAnswered link) h.in_step n f.0;
      })

  holds_after : (link after : Link S) (es : List Event) → Becomes applied states link es after → Holds link → Holds after
  holds_after link after [] run h = subst Holds (sym run) h
  holds_after link after (e ∷ es) run h = holds_after run.0 after es run.2 (holds_then link run.0 e run.1 h)

  holds : (es : List Event) (link : Link S) → Runs applied states es link → Holds link
  holds es link run = holds_after (begun (states 0)) link es run holds_at_first

  abbrev newest_number : Link S → ℕ
  newest_number link = (newest link.sender).number

  -- the effect of an event on the newest number
  offered_then : (link after : Link S) (e : Event) (es : List Event) → Follows applied states link e after
      → last_offered (newest_number after) es ≡ last_offered (newest_number link) (e ∷ es)
  offered_then link after (Offer n) es f =
      let more = newest_of_more link.sender.base link.sender.later (record { number = n; state = states n; sent = false }) in
      ap (λ m. last_offered m es) (ap newest_number f.2 ∙ ap (λ h. h.number) more)
  offered_then link after (Send now change) es f =
      ap (λ m. last_offered m es) (ap newest_number f.1 ∙ marked_newest link.sender.base link.sender.later)
  offered_then link after (Deliver u) es f = ap (λ m. last_offered m es) (ap newest_number f.1.2)
  offered_then link after Answer es f = ap (λ m. last_offered m es) (ap newest_number f)
  offered_then link after (Acknowledge n) es f = ap (λ m. last_offered m es) (ap newest_number f.1 ∙ acked_newest link.sender n)

  -- the newest kept number is the last that was offered
  offered_after : (link after : Link S) (es : List Event) → Becomes applied states link es after
      → newest_number after ≡ last_offered (newest_number link) es
  offered_after link after [] run = ap newest_number run
  offered_after link after (e ∷ es) run = offered_after run.0 after es run.2 ∙ offered_then link run.0 e es run.1

-- ---- the laws

module _ {S : Type 0} (applied : S → List ℕ → Option S) where
  pub each_pair : EachPairIsTrue applied
  each_pair states events link run = let h = holds applied states events link run in (h.truth.sender, h.truth.receiver)

  pub numbers_rise : NumbersRise applied
  numbers_rise states events link run =
      let l = (holds applied states events link run).in_step in (
        held_rises link.sender.base.number link.sender.later l.sender_rises,
        had_rises link.receiver.earlier link.receiver.newest l.receiver_rises,
      )

  pub base_shared : BaseIsShared applied
  base_shared states events link run = let l = (holds applied states events link run).in_step in (l.base_there, l.from_base)

  pub updates_lead_on : UpdatesLeadOn applied
  updates_lead_on states events link run u sent =
      let h = holds applied states events link run in
      let l = h.truth.updates u sent in
      (ap (λ b. applied b u.change) (sym l.from_true) ∙ l.leads ∙ ap Some l.to_true, (h.in_step.told u sent).known)

  pub no_gap : NoUpdateMakesAGap applied
  no_gap states events link run u sent is =
      let h = holds applied states events link run in
      elim (old_or_new link.sender link.receiver (Contains link.updates) (Contains link.answers) h.in_step u sent) [
        | inl old ↦ (let no : step.Old ≡ step.Gap = sym old.0 ∙ is in cc)
        | inr new ↦ (let no : step.New ≡ step.Gap = sym new ∙ is in cc)
      ]

  pub no_bad_change : NoChangeIsBad applied
  no_bad_change states events link run u sent base there =
      let h = holds applied states events link run in
      let same : base ≡ states u.old = found_true (IsOf states) u.old (pairs link.receiver) base h.truth.receiver there in
      ap (λ b. applied b u.change) same ∙ (updates_lead_on states events link run u sent).0

  pub no_ninth : NoNinthPair applied
  no_ninth states events link run =
      let l = (holds applied states events link run).in_step in
      let few = l.receiver_few in
      (l.sender_few, omega (arith, length-append link.receiver.earlier (link.receiver.newest ∷ []), few))

  pub round : OneRoundSuffices applied
  round states events link run now change is r delivers =
      let h = holds applied states events link run in
      let u = update_of link.sender change in
      let sent = Contains (link.updates ++ u ∷ []) in
      let sender = sent_at link.sender now in
      let more = one_more link.updates u in
      let this = Contains-push link.updates u in
      let in_step = in_step_sent link.sender link.receiver (Contains link.updates) (Contains link.answers) h.in_step sent now change more in
      let truth = true_sent applied (IsOf states) link.sender link.receiver (Contains link.updates) h.truth sent now change is more in
      let marked : (newest sender).number ≡ (newest link.sender).number = marked_newest link.sender.base link.sender.later in
      let got = one_round sender link.receiver sent (Contains link.answers) in_step applied r u this (sym marked) delivers in
      let then : TrueLink applied (IsOf states) sender r sent =
      elim got.0 [
        | inl same ↦ rw same truth
        | inr hears ↦ true_heard applied (IsOf states) sender link.receiver sent truth r u (one_state applied states) this hears
      ] in
      let number = got.1 ∙ marked ∙ offered_after applied states (begun (states 0)) link events run in
      let state : r.newest.state ≡ states r.newest.number =
      All-contains (IsHad (IsOf states)) (pairs r) r.newest then.receiver (Contains-push r.earlier r.newest) in
      let only = ap (λ n. (acked sender n).later) got.1 ∙ alone sender in_step.sender_rises in
      (number, state ∙ ap states number, rw only refl)
