-- Consequences of two ends in step: no gap, no ninth pair, and one round brings the newest.
use Rattle.std.proofs.Common.{◌≡◌, ◌⊎◌, ℕ, ◌<◌, ◌≤◌, true, false, eqb, leb, List, [], ◌∷◌, length, filter, Option, refl, sym, ◌∙◌, inl, inr, arith}
use Rattle.std.proofs.lemmas.Bool.{eq-eqb, ne_eqb}
use Rattle.roam_sync.specs.declared.senders.Held.{Held}
use Rattle.roam_sync.specs.declared.receivers.Step.TheVariants as step
use Rattle.roam_sync.specs.Senders.{Sending, AreAbove, newest, last_of, acked, after_ack}
use Rattle.roam_sync.specs.Receivers.{Receiving, pairs, from_floor, step_for}
use Rattle.roam_sync.specs.Links.{Update, Hears, Delivers, IsAmong, numbers_had}
use Rattle.roam_sync.specs.InStep.{Window, AreInStep}
use Rattle.roam_sync.proofs.Numbers.{among_filter, low_from, rising-filter, no_longer}
use Rattle.roam_sync.proofs.Ends.{above_all, last_among, last_greatest, had_rises, newest_greatest, newest_among, floor_length, meets_new, meets_old}

cases_le : (a b : ℕ) → (a ≤ b) ⊎ (b < a)
cases_le a b = grind arith

module _ {S : Type 0} (s : Sending S) (r : Receiving S) (WasSent : Update → Type 0) (WasAnswered : ℕ → Type 0)
    (l : AreInStep s r WasSent WasAnswered) where
  -- an update that was ever sent starts from a pair that is there, with room for its own, if it is above the newest
  pub room_for : (u : Update) → WasSent u → r.newest.number < u.new
      → IsAmong u.old (numbers_had r) × (length (from_floor u.floor (pairs r)) ≤ 7)
  room_for u sent above =
      let t = l.told u sent in
      let rising = rising-filter (leb u.floor) (numbers_had r) (had_rises r.earlier r.newest l.receiver_rises) in
      let fits = no_longer kept w.below rising w.rising within in
      let same = floor_length u.floor (pairs r) in
      let few = w.few in
      (elim t.known [ inl there ↦ there | inr le ↦ absurd (omega (arith, le, above)) ], omega (arith, same, fits, few))
    where
      w : Window r WasSent u
      w = l.window u sent

      -- the numbers from the floor on
      kept : List ℕ
      kept = filter (leb u.floor) (numbers_had r)

      within : (n : ℕ) → IsAmong n kept → IsAmong n w.below
      within n a =
          let had = among_filter (leb u.floor) n (numbers_had r) a in
          let most = newest_greatest r.earlier r.newest n l.receiver_rises had in
          let low = low_from u.floor n (numbers_had r) a in
          let floor = (l.told u sent).floor in
          w.had n had (omega (arith, floor, low)) (omega (arith, most, above))

  -- it is old or new: it makes no gap
  pub old_or_new : (u : Update) → WasSent u
      → ((step_for r u.old u.new u.floor ≡ step.Old) × (u.new ≤ r.newest.number)) ⊎ (step_for r u.old u.new u.floor ≡ step.New)
  old_or_new u sent =
      elim (cases_le u.new r.newest.number) [
        | inl low ↦ inl (meets_old r u.old u.new u.floor low, low)
        | inr above ↦ (let room = room_for u sent above in inr (meets_new r u.old u.new u.floor above room.0 room.1))
      ]

  -- the receiver has nothing above the sender's newest
  pub not_above : r.newest.number ≤ (newest s).number
  not_above =
      let low = newest_greatest r.earlier r.newest s.base.number l.receiver_rises l.base_there in
      last_greatest s.base s.later r.newest.number l.sender_rises (l.from_base r.newest.number (newest_among r.earlier r.newest) low)

  -- the state of the receiver after an update of the newest, if there is memory
  pub one_round : (applied : S → List ℕ → Option S) (r' : Receiving S) (u : Update) → WasSent u → u.new ≡ (newest s).number
      → Delivers applied r u r'
      → ((r' ≡ r) ⊎ Hears applied r u r') × (r'.newest.number ≡ (newest s).number)
  one_round applied r' u sent is delivers =
      elim (old_or_new u sent) [
        | inl old ↦
            let other : step_for r u.old u.new u.floor ≡ step.New → ⊥ = λ new. (let no : step.Old ≡ step.New = sym old.0 ∙ new in cc) in
            let same : r' ≡ r = delivers.other other in
            let low = old.1 in
            (inl same, rw same (omega (arith, not_above, low, is)))
        | inr new ↦ (let t = delivers.fresh new in (inr (record { fresh = new; takes = t }), t.number ∙ is))
      ]

alone_after : {S : Type 0} (all : Held S × List (Held S)) (h : Held S) (hs : List (Held S)) → AreAbove h.number hs
    → (after_ack all (h ∷ hs) (last_of h hs).number).1 ≡ []
alone_after all h [] rising =
    let same : eqb h.number h.number ≡ true = eq-eqb h.number h.number refl in
    rw same refl
alone_after all h (g ∷ gs) rising =
    let lt = above_all h.number (last_of g gs).number (g ∷ gs) rising (last_among g gs) in
    let other : eqb h.number (last_of g gs).number ≡ false = ne_eqb h.number (last_of g gs).number (λ e. omega (arith, e, lt)) in
    rw other (alone_after all g gs rising.1)

-- an acknowledgement of the newest leaves it alone
pub alone : {S : Type 0} (s : Sending S) → AreAbove s.base.number s.later → (acked s (newest s).number).later ≡ []
alone s rising = go s.base s.later rising
  where
    go : {S : Type 0} (base : Held S) (hs : List (Held S)) → AreAbove base.number hs
        → (after_ack (base, hs) hs (last_of base hs).number).1 ≡ []
    go base [] rising = refl
    go base (h ∷ hs) rising = alone_after (base, h ∷ hs) h hs rising.1
