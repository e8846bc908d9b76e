-- The two ends of a link keep in step, whatever is lost, late, repeated or reordered. `WasSent u` says that the update u was ever sent,
-- `WasAnswered n` that the receiver ever acknowledged the number n. A state in a comment names the numbers alone that each end has.
use Rattle.std.specs.Prelude.{◌≡◌, ◌⊎◌, ℕ, ◌<◌, ◌≤◌, List, length}
use Rattle.roam_sync.specs.Limits.{most_held}
use Rattle.roam_sync.specs.Senders.{Sending, newest, count, AreAbove}
use Rattle.roam_sync.specs.Receivers.{Receiving, AreBelow}
use Rattle.roam_sync.specs.Links.{Update, IsAmong, IsRising, numbers_held, numbers_had}

-- the facts about an update that was ever sent
pub record Told {S : Type 0} (s : Sending S) (r : Receiving S) (u : Update) : Type 0 where
  pub floor : u.floor ≡ u.old
  -- Without it: sender 0 3 4, receiver 0 3, and an update from 3 to 4. Once it comes, the receiver has 3 and 4, and the base is gone there.
  pub old_low : u.old ≤ s.base.number
  pub new_low : u.new ≤ (newest s).number
  -- Without it: sender 3 4, receiver 3, and an update from 3 to 5. Once it comes, the receiver has 5, which the sender doesn't have.
  pub new_held : s.base.number ≤ u.new → IsAmong u.new (numbers_held s)
  pub known : IsAmong u.old (numbers_had r) ⊎ (u.new ≤ r.newest.number)

-- The numbers that the sender had below an update's when it sent it: at most seven, and all that the receiver can ever have there. Without
-- it: sender 7 8, receiver 0 to 7, and an update from 0 to 8. Once it comes, there is no room for it.
pub record Window {S : Type 0} (r : Receiving S) (WasSent : Update → Type 0) (u : Update) : Type 0 where
  pub below : List ℕ
  pub rising : IsRising below
  pub few : length below ≤ 7
  pub had : (n : ℕ) → IsAmong n (numbers_had r) → u.old ≤ n → n < u.new → IsAmong n below
  pub coming : (v : Update) → WasSent v → u.old ≤ v.new → v.new < u.new → IsAmong v.new below

-- the facts about a link after each step
pub record AreInStep {S : Type 0} (s : Sending S) (r : Receiving S) (WasSent : Update → Type 0) (WasAnswered : ℕ → Type 0) : Type 0 where
  pub sender_rises : AreAbove s.base.number s.later
  pub sender_few : count s ≤ most_held
  pub receiver_rises : AreBelow r.earlier r.newest.number
  pub receiver_few : length r.earlier ≤ 7
  pub base_there : IsAmong s.base.number (numbers_had r)
  pub from_base : (n : ℕ) → IsAmong n (numbers_had r) → s.base.number ≤ n → IsAmong n (numbers_held s)
  -- Without it: sender 0 3, receiver 0, and an acknowledgement of 3 that was sent. Once it comes, the sender's base is 3, and the receiver
  -- doesn't have it.
  pub answers : (n : ℕ) → WasAnswered n → s.base.number ≤ n → IsAmong n (numbers_had r)
  pub told : (u : Update) → WasSent u → Told s r u
  -- Without it: sender 3 4 5, receiver 0 3, and updates from 0 to 5 and from 3 to 4. Once the second comes, 0 is gone at the receiver, and
  -- the first, still above 4, makes a gap.
  pub order : (u v : Update) → WasSent u → WasSent v → u.old < v.old → u.new ≤ v.new
  pub window : (u : Update) → WasSent u → Window r WasSent u
