-- In a world that can be reached, each instance to which a tick would offer its number is ready for it.
use Rattle.std.proofs.Common.{◌≡◌, ℕ, ◌+◌, ◌<◌, ◌≤◌, Bool, true, false, ◌&&◌, leb, ◌∷◌, length, filter, Option, Some, None, refl, sym, ap, ◌∙◌, arith}
use Rattle.std.specs.Prelude.{nat_lt, is_none}
use Rattle.std.proofs.lemmas.Bool.Decides.{nat_tests}
use Rattle.std.proofs.lemmas.List.{length-map}
use Rattle.std.proofs.lemmas.List.Elements.{All-head}
use Rattle.roam_screens.specs.Screenshot.{Screenshot}
use Rattle.roam_sync.specs.declared.senders.Held.{Held}
use Rattle.roam_sync.specs.Senders.{newest, count}
use Rattle.roam_sync.specs.Receivers.{pairs, state_at, from_floor}
use Rattle.roam_sync.specs.Links.{IsAmong, numbers_held, numbers_had}
use Rattle.roam_sync.specs.InStep.{AreInStep}
use Rattle.roam_sync.specs.TrueLinks.{TrueLink}
use Rattle.roam_sync.proofs.Ends.{held_rises, had_rises, newest_greatest, floor_length, found}
use Rattle.roam_sync.proofs.Numbers.{among_filter, low_from, rising-filter, no_longer}
use Rattle.roam_sync.proofs.Rounds.{not_above}
use Rattle.roam_sync.proofs.TrueStates.{found_true}
use Rattle.roam_model.specs.Versions.{applied_by}
use Rattle.roam_model.specs.Numbers.{IsScreenOf}
use Rattle.roam_model.specs.Servers.{Record, moment}
use Rattle.roam_model.specs.Ticks.{is_live}
use Rattle.roam_model.specs.Clients.{Client}
use Rattle.roam_model.specs.Worlds.{World}
use Rattle.roam_model.specs.Holds.{Tells, Acks, Holds, Counts}
use Rattle.roam_model.proofs.Screens.{one_screen}
use Rattle.roam_turns.specs.Hops.{IsReady, number_by, IsOffered, IsReadyForTicks}

both_true : (a b : Bool) → (a && b) ≡ true → (a ≡ true) × (b ≡ true)
both_true true true e = (refl, refl)
both_true true false e = absurd (let no : false ≡ true = e in cc)
both_true false b e = absurd (let no : false ≡ true = e in cc)

some_there : (o : Option Screenshot) → is_none o ≡ false → (s : Screenshot) × (o ≡ Some s)
some_there None e = absurd (cc)
some_there (Some s) e = (s, refl)

module _ (w : World) (h : Holds w) (id now : ℕ) (e : IsOffered w.server id now) where
  abbrev r : Record
  r = w.server.records id

  abbrev x : Client
  x = w.clients id

  abbrev Is : ℕ → Screenshot → Type 0
  Is = IsScreenOf (w.clients id).kept.version w.server.size w.server.log w.server.cuts

  in_step : AreInStep r.sender x.kept.receiver (Tells r.instructions) (Acks x.instructions)
  in_step = (h.links id).in_step

  truth : TrueLink (applied_by x.kept.version) Is r.sender x.kept.receiver (Tells r.instructions)
  truth = (h.links id).truth

  parts : (is_live r (moment w.server now) ≡ true) × (nat_lt (newest r.sender).number (number_by w.server now) ≡ true)
      × (nat_lt (count r.sender) 8 ≡ true)
  parts =
      let both = both_true (is_live r (moment w.server now) && nat_lt (newest r.sender).number (number_by w.server now))
      (nat_lt (count r.sender) 8) e in
      let live = both_true (is_live r (moment w.server now)) (nat_lt (newest r.sender).number (number_by w.server now)) both.0 in
      (live.0, live.1, both.1)

  few_held : count r.sender < 8
  few_held = let few = parts.2 in grind (arith, nat_tests)

  above : (newest r.sender).number < number_by w.server now
  above = let up = parts.1 in grind (arith, nat_tests)

  known : r.known ≡ true
  known = (both_true r.known (nat_lt (moment w.server now) (r.heard_at + 60000)) parts.0).0

  base_held : state_at r.sender.base.number (pairs x.kept.receiver) ≡ Some r.sender.base.state
  base_held =
      let at = some_there (state_at r.sender.base.number (pairs x.kept.receiver))
      (found r.sender.base.number (pairs x.kept.receiver) in_step.base_there) in
      let mine = found_true Is r.sender.base.number (pairs x.kept.receiver) at.0 truth.receiver at.1 in
      let theirs = All-head (λ (k : Held Screenshot). Is k.number k.state) r.sender.base r.sender.later truth.sender in
      let same = one_screen x.kept.version w.server.size w.server.log w.server.cuts r.sender.base.number at.0 r.sender.base.state mine
      theirs in
      at.1 ∙ ap (λ (s : Screenshot). Some s) same

  -- the sender has all that the instance has from the base on
  few_from : length (from_floor r.sender.base.number (pairs x.kept.receiver)) ≤ 7
  few_from =
      let base = r.sender.base.number in
      let kept = filter (leb base) (numbers_had x.kept.receiver) in
      let rising = rising-filter (leb base) (numbers_had x.kept.receiver)
      (had_rises x.kept.receiver.earlier x.kept.receiver.newest in_step.receiver_rises) in
      let fits = no_longer kept (numbers_held r.sender) rising (held_rises base r.sender.later in_step.sender_rises) within in
      let same = floor_length base (pairs x.kept.receiver) in
      let long = length-map (r.sender.base ∷ r.sender.later) (λ (k : Held Screenshot). k.number) in
      let few = few_held in
      omega (arith, fits, same, long, few)
    where
      within : (n : ℕ) → IsAmong n (filter (leb (w.server.records id).sender.base.number) (numbers_had (w.clients id).kept.receiver))
          → IsAmong n (numbers_held (w.server.records id).sender)
      within n a =
          let had = among_filter (leb (w.server.records id).sender.base.number) n (numbers_had (w.clients id).kept.receiver) a in
          in_step.from_base n had (low_from (w.server.records id).sender.base.number n (numbers_had (w.clients id).kept.receiver) a)

  ready : IsReady (number_by w.server now) r x
  ready =
      let up = above in
      let top = not_above r.sender x.kept.receiver (Tells r.instructions) (Acks x.instructions) in_step in
      record {
        version = sym ((h.fits id).version known);
        base = base_held;
        from = newest_greatest x.kept.receiver.earlier x.kept.receiver.newest r.sender.base.number in_step.receiver_rises in_step.base_there;
        below = omega (arith, up, top);
        gathered = (h.links id).gathers_down.low;
        few = few_from;
      }

pub ready_in : (w : World) → Holds w → Counts w → IsReadyForTicks w
ready_in w h k =
    record {
      ids = record { size = h.size; session = k.session; starts = k.ids };
      ready = λ id now e. ready w h id now e;
    }
