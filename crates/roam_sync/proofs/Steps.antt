-- The two ends of a link keep in step, whichever step comes next.
use Rattle.std.proofs.Common.{◌≡◌, ◌⊎◌, ℕ, ◌<◌, ◌≤◌, true, false, leb, ltb, List, [], ◌∷◌, ◌++◌, length, filter, Option, refl, sym, ap, subst, ◌∙◌, inl, inr, arith, length-append}
use Rattle.std.proofs.lemmas.Bool.{cases_Bool}
use Rattle.std.proofs.lemmas.List.{map-append, length-map}
use Rattle.roam_sync.specs.declared.senders.Held.{Held}
use Rattle.roam_sync.specs.Senders.{Sending, AreAbove, newest, last_of, count, offered, acked, is_held, mark_base, sent_at, start as sender_start}
use Rattle.roam_sync.specs.Receivers.{Receiving, pairs, from_floor, Takes, start as receiver_start}
use Rattle.roam_sync.specs.Links.{Update, update_of, Hears, IsAmong, numbers_held, numbers_had}
use Rattle.roam_sync.specs.InStep.{Told, Window, AreInStep}
use Rattle.roam_sync.proofs.Sending.{AreAbove-push, AreAbove-mark, length-mark, number-mark_base, after_ack-none, after_ack-rising, newest_of_more}
use Rattle.roam_sync.proofs.Receiving.{AreBelow-push, AreBelow-floor}
use Rattle.roam_sync.proofs.Numbers.{among_left, among_cases, among_filter, among_from, among_below, rising-filter, fewer_below}
use Rattle.roam_sync.proofs.Ends.{held_numbers, held_rises, base_least, last_among, acked_held, acked_base, acked_among, acked_last, marked_numbers, marked_newest, had_numbers, numbers_of_pairs, newest_among, floor_numbers, fresh_means}

-- before anything was sent
pub in_step_at_first : {S : Type 0} (state : S) (WasSent : Update → Type 0) (WasAnswered : ℕ → Type 0)
    → ((u : Update) → WasSent u → ⊥) → ((n : ℕ) → WasAnswered n → ⊥)
    → AreInStep (sender_start state) (receiver_start state) WasSent WasAnswered
in_step_at_first state WasSent WasAnswered none quiet =
    record {
      sender_rises = tt;
      sender_few = omega arith;
      receiver_rises = tt;
      receiver_few = omega arith;
      base_there = inl refl;
      from_base = λ n had le. had;
      answers = λ n answered le. absurd (quiet n answered);
      told = λ u sent. absurd (none u sent);
      order = λ u v sent sent'. absurd (none u sent);
      window = λ u sent. absurd (none u sent);
    }

cases_le : (a b : ℕ) → (a ≤ b) ⊎ (b < a)
cases_le a b = grind arith

module _ {S : Type 0} (s : Sending S) (r : Receiving S) (WasSent : Update → Type 0) (WasAnswered : ℕ → Type 0)
    (l : AreInStep s r WasSent WasAnswered) where
  -- no more was sent or acknowledged
  pub in_step_still : (IsSentNow : Update → Type 0) (IsAnsweredNow : ℕ → Type 0)
      → ((u : Update) → IsSentNow u → WasSent u) → ((n : ℕ) → IsAnsweredNow n → WasAnswered n) → AreInStep s r IsSentNow IsAnsweredNow
  in_step_still IsSentNow IsAnsweredNow fewer less =
      record {
        sender_rises = l.sender_rises;
        sender_few = l.sender_few;
        receiver_rises = l.receiver_rises;
        receiver_few = l.receiver_few;
        base_there = l.base_there;
        from_base = l.from_base;
        answers = λ n answered. l.answers n (less n answered);
        told = λ u sent. l.told u (fewer u sent);
        order = λ u v sent sent'. l.order u v (fewer u sent) (fewer v sent');
        window = λ u sent. let w = l.window u (fewer u sent) in record {
          below = w.below;
          rising = w.rising;
          few = w.few;
          had = w.had;
          coming = λ v sent'. w.coming v (fewer v sent');
        };
      }

  -- a state is offered, with a number above the newest, if fewer than eight are kept
  pub in_step_offered : (n : ℕ) (state : S) → (newest s).number < n → count s < 8 → AreInStep (offered s n state) r WasSent WasAnswered
  in_step_offered n state above room =
      record {
        sender_rises = AreAbove-push s.base s.later more l.sender_rises above;
        sender_few = omega (arith, length-append s.later (more ∷ []), room);
        receiver_rises = l.receiver_rises;
        receiver_few = l.receiver_few;
        base_there = l.base_there;
        from_base = λ m had le. still m (l.from_base m had le);
        answers = l.answers;
        told = λ u sent. let t = l.told u sent in record {
          floor = t.floor;
          old_low = t.old_low;
          new_low = let low = t.new_low in rw top (omega (arith, low, above));
          new_held = λ le. still u.new (t.new_held le);
          known = t.known;
        };
        order = l.order;
        window = l.window;
      }
    where
      more : Held S
      more = record { number = n; state = state; sent = false }

      top : last_of s.base (s.later ++ more ∷ []) ≡ more
      top = newest_of_more s.base s.later more

      still : (m : ℕ) → IsAmong m (numbers_held s) → IsAmong m (numbers_held (offered s n state))
      still m held = rw (map-append (λ h. h.number) s.later (more ∷ [])) (among_left m (numbers_held s) (n ∷ []) held)

  -- the base moves to a kept number that was acknowledged
  base_moved : (k : ℕ) → is_held s.later k ≡ true → WasAnswered k → AreInStep (acked s k) r WasSent WasAnswered
  base_moved k there answered =
      record {
        sender_rises = rest.1;
        sender_few = let few = l.sender_few in omega (arith, rest.0, few);
        receiver_rises = l.receiver_rises;
        receiver_few = l.receiver_few;
        base_there = rw base (l.answers k answered up);
        from_base = λ m had le. let le' : k ≤ m = rw base at le in still m (l.from_base m had (omega (arith, up, le'))) le';
        answers = λ m answered' le. let le' : k ≤ m = rw base at le in l.answers m answered' (omega (arith, up, le'));
        told = λ u sent. let t = l.told u sent in record {
          floor = t.floor;
          old_low = let low = t.old_low in rw base (omega (arith, low, up));
          new_low = rw (acked_last all s.base s.later k there) t.new_low;
          new_held = λ le. let le' : k ≤ u.new = rw base at le in still u.new (t.new_held (omega (arith, up, le'))) le';
          known = t.known;
        };
        order = l.order;
        window = l.window;
      }
    where
      all : Held S × List (Held S)
      all = (s.base, s.later)

      base : (acked s k).base.number ≡ k
      base = acked_base (s.base, s.later) s.later k there

      up : s.base.number ≤ k
      up = base_least s.base s.later k l.sender_rises (inr (acked_held s.later k there))

      rest : (length (acked s k).later ≤ length s.later) × AreAbove (acked s k).base.number (acked s k).later
      rest = after_ack-rising (s.base, s.later) s.base.number s.later k l.sender_rises there

      stays : (m : ℕ) → IsAmong m (held_numbers s.later) → k ≤ m → IsAmong m (numbers_held (acked s k))
      stays m later le = acked_among (s.base, s.later) s.base.number m s.later k l.sender_rises there le later

      still : (m : ℕ) → IsAmong m (numbers_held s) → k ≤ m → IsAmong m (numbers_held (acked s k))
      still m among le =
          elim among [
            | inl e ↦ let same : k ≡ m = omega (arith, e, up, le) in
                stays m (subst (λ (j : ℕ). IsAmong j (held_numbers s.later)) same (acked_held s.later k there)) le
            | inr later ↦ stays m later le
          ]

  -- an acknowledgement that was ever sent comes
  pub in_step_acked : (k : ℕ) → WasAnswered k → AreInStep (acked s k) r WasSent WasAnswered
  in_step_acked k answered =
      elim (cases_Bool (is_held s.later k)) [
        | inl there ↦ base_moved k there answered
        | inr e ↦ rw (after_ack-none (s.base, s.later) s.later k e) l
      ]

  -- the receiver acknowledges its newest
  pub in_step_answered : (IsAnsweredNow : ℕ → Type 0) → ((n : ℕ) → IsAnsweredNow n → WasAnswered n ⊎ (n ≡ r.newest.number))
      → AreInStep s r WasSent IsAnsweredNow
  in_step_answered IsAnsweredNow only =
      record {
        sender_rises = l.sender_rises;
        sender_few = l.sender_few;
        receiver_rises = l.receiver_rises;
        receiver_few = l.receiver_few;
        base_there = l.base_there;
        from_base = l.from_base;
        answers = λ n answered le. elim (only n answered) [
          | inl before ↦ l.answers n before le
          | inr this ↦ subst (λ (m : ℕ). IsAmong m (numbers_had r)) (sym this) (newest_among r.earlier r.newest)
        ];
        told = l.told;
        order = l.order;
        window = l.window;
      }

  -- the newest is sent at a moment, with whatever diff
  pub in_step_sent : (IsSentNow : Update → Type 0) (now : ℕ) (change : List ℕ)
      → ((u : Update) → IsSentNow u → WasSent u ⊎ (u ≡ update_of s change)) → AreInStep (sent_at s now) r IsSentNow WasAnswered
  in_step_sent IsSentNow now change only =
      record {
        sender_rises = rw base (AreAbove-mark s.base.number s.later l.sender_rises);
        sender_few = let few = l.sender_few in omega (arith, length-mark s.later, few);
        receiver_rises = l.receiver_rises;
        receiver_few = l.receiver_few;
        base_there = rw base l.base_there;
        from_base = λ n had le. still n (l.from_base n had (rw base at le));
        answers = λ n answered le. l.answers n answered (rw base at le);
        told = λ u sent. elim (only u sent) [
          | inl before ↦ told_before u before
          | inr this ↦ subst (Told (sent_at s now) r) (sym this) told_now
        ];
        order = λ u v sent sent'. elim (only u sent) [
          | inl before ↦ elim (only v sent') [
            | inl before' ↦ l.order u v before before'
            | inr this ↦ (λ lt. let new = new_is v this in let low = (l.told u before).new_low in omega (arith, new, low))
          ]
          | inr this ↦ elim (only v sent') [
            | inl before ↦ (λ lt. let old = old_is u this in let low = (l.told v before).old_low in absurd (omega (arith, old, low, lt)))
            | inr this' ↦ (λ lt. let old = old_is u this in let old' = old_is v this' in absurd (omega (arith, old, old', lt)))
          ]
        ];
        window = λ u sent. elim (only u sent) [
          | inl before ↦ window_before u before
          | inr this ↦ subst (Window r IsSentNow) (sym this) window_now
        ];
      }
    where
      base : (mark_base s.base s.later).number ≡ s.base.number
      base = number-mark_base s.base s.later

      top : (newest (sent_at s now)).number ≡ (newest s).number
      top = marked_newest s.base s.later

      still : (n : ℕ) → IsAmong n (numbers_held s) → IsAmong n (numbers_held (sent_at s now))
      still n held = rw (base, marked_numbers s.later) held

      old_is : (u : Update) → u ≡ update_of s change → u.old ≡ s.base.number
      old_is u this = ap (λ (x : Update). x.old) this

      new_is : (u : Update) → u ≡ update_of s change → u.new ≡ (newest s).number
      new_is u this = ap (λ (x : Update). x.new) this

      last : IsAmong (newest s).number (numbers_held s)
      last = last_among s.base s.later

      told_before : (u : Update) → WasSent u → Told (sent_at s now) r u
      told_before u before = let t = l.told u before in record {
        floor = t.floor;
        old_low = rw base t.old_low;
        new_low = rw top t.new_low;
        new_held = λ le. still u.new (t.new_held (rw base at le));
        known = t.known;
      }

      told_now : Told (sent_at s now) r (update_of s change)
      told_now = record {
        floor = refl;
        old_low = rw base (omega arith);
        new_low = rw top (omega arith);
        new_held = λ le. still (newest s).number last;
        known = inl l.base_there;
      }

      window_before : (u : Update) → WasSent u → Window r IsSentNow u
      window_before u before =
          let w = l.window u before in
          let low = (l.told u before).new_low in
          record {
            below = w.below;
            rising = w.rising;
            few = w.few;
            had = w.had;
            coming = λ v sent. elim (only v sent) [
              | inl before' ↦ w.coming v before'
              | inr this ↦ (λ le lt. let new = new_is v this in absurd (omega (arith, new, low, lt)))
            ];
          }

      window_now : Window r IsSentNow (update_of s change)
      window_now = record {
        below = filter (λ n. ltb n (newest s).number) (numbers_held s);
        rising = rising-filter (λ n. ltb n (newest s).number) (numbers_held s) (held_rises s.base.number s.later l.sender_rises);
        few =
            let fewer = fewer_below (newest s).number (numbers_held s) last in
            let all = length-map s.later (λ h. h.number) in
            let few = l.sender_few in
            omega (arith, fewer, all, few);
        had = λ n had le lt. among_below (newest s).number n (numbers_held s) lt (l.from_base n had le);
        coming = λ v sent. elim (only v sent) [
          | inl before ↦ (λ le lt. among_below (newest s).number v.new (numbers_held s) lt ((l.told v before).new_held le))
          | inr this ↦ (λ le lt. let new = new_is v this in absurd (omega (arith, new, lt)))
        ];
      }

  -- an update that was ever sent is new to the receiver
  pub in_step_heard : (applied : S → List ℕ → Option S) (r' : Receiving S) (u : Update) → WasSent u → Hears applied r u r'
      → AreInStep s r' WasSent WasAnswered
  in_step_heard applied r' u sent hears =
      record {
        sender_rises = l.sender_rises;
        sender_few = l.sender_few;
        receiver_rises =
            let all = AreBelow-push r.earlier r.newest u.new l.receiver_rises above in
            rw (t.earlier, t.number) ((AreBelow-floor u.floor (pairs r) u.new all).1);
        receiver_few = rw t.earlier room;
        base_there = stays s.base.number l.base_there low;
        from_base = λ n had le. elim (had_then n had) [
          | inl before ↦ l.from_base n before le
          | inr this ↦ subst (λ (m : ℕ). IsAmong m (numbers_held s)) this (told.new_held (omega (arith, this, le)))
        ];
        answers = λ n answered le. stays n (l.answers n answered le) (omega (arith, low, le));
        told = told_then;
        order = l.order;
        window = λ v sent'. let w = l.window v sent' in record {
          below = w.below;
          rising = w.rising;
          few = w.few;
          coming = w.coming;
          had = λ n had le lt. elim (had_then n had) [
            | inl before ↦ w.had n before le lt
            | inr this ↦ subst (λ (m : ℕ). IsAmong m w.below) this (w.coming u sent (omega (arith, this, le)) (omega (arith, this, lt)))
          ];
        };
      }
    where
      t : Takes applied r u.old u.new u.floor u.change r'
      t = hears.takes

      told : Told s r u
      told = l.told u sent

      low : u.old ≤ s.base.number
      low = told.old_low

      above : r.newest.number < u.new
      above = (fresh_means r u.old u.new u.floor hears.fresh).0

      room : length (from_floor u.floor (pairs r)) ≤ 7
      room = (fresh_means r u.old u.new u.floor hears.fresh).1

      -- the numbers of the receiver then
      then_had : numbers_had r' ≡ filter (leb u.old) (numbers_had r) ++ u.new ∷ []
      then_had =
          numbers_of_pairs r'.earlier r'.newest
          ∙ ap (λ n. had_numbers r'.earlier ++ n ∷ []) t.number
          ∙ ap (λ ps. had_numbers ps ++ u.new ∷ []) t.earlier
          ∙ ap (λ ns. ns ++ u.new ∷ []) (floor_numbers u.floor (pairs r))
          ∙ ap (λ k. filter (leb k) (numbers_had r) ++ u.new ∷ []) told.floor

      stays : (n : ℕ) → IsAmong n (numbers_had r) → u.old ≤ n → IsAmong n (numbers_had r')
      stays n had le =
          rw then_had (among_left n (filter (leb u.old) (numbers_had r)) (u.new ∷ []) (among_from u.old n (numbers_had r) le had))

      had_then : (n : ℕ) → IsAmong n (numbers_had r') → IsAmong n (numbers_had r) ⊎ (u.new ≡ n)
      had_then n had =
          elim (among_cases n (filter (leb u.old) (numbers_had r)) (u.new ∷ []) (rw then_had at had)) [
            | inl a ↦ inl (among_filter (leb u.old) n (numbers_had r) a)
            | inr b ↦ elim b [ inl e ↦ inr e | inr z ↦ absurd z ]
          ]

      told_then : (v : Update) → WasSent v → Told s r' v
      told_then v sent' = let w = l.told v sent' in record {
        floor = w.floor;
        old_low = w.old_low;
        new_low = w.new_low;
        new_held = w.new_held;
        known = elim w.known [
          | inl there ↦ elim (cases_le u.old v.old) [
            | inl le ↦ inl (stays v.old there le)
            | inr lt ↦ inr (rw t.number (l.order v u sent' sent lt))
          ]
          | inr le ↦ inr (rw t.number (omega (arith, above, le)))
        ];
      }
