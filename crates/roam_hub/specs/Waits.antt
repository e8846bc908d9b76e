-- Until when a tick does nothing, if nothing comes before.
use Rattle.std.specs.Prelude.{◌≡◌, ℕ, ◌+◌, ◌<◌, ◌^◌, ◌&&◌, ◌||◌, [], Option, Some, None, Bool, true, false, nat_le, nat_lt}
use Rattle.roam_sync.specs.Limits.{most_held}
use Rattle.roam_sync.specs.Senders.{newest, count, is_due}
use Rattle.roam_model.specs.Moments.{is_overdue, forget_after}
use Rattle.roam_model.specs.Servers.{Server}
use Rattle.roam_model.specs.Ticks.{sent_by, after_tick}
use Rattle.roam_hub.specs.Servers.{RecordView, is_number_spent}

-- a moment has come at another one; none never comes
abbrev pub has_come : Option ℕ → ℕ → Bool
has_come None now = false
has_come (Some due) now = nat_le due now

-- a test passes from a moment on, and at none of 64 bits before it
pub record PassesFrom (due : Option ℕ) (test : ℕ → Bool) : Type 0 where
  pub before : (now : ℕ) → now < 2 ^ 64 → has_come due now ≡ false → test now ≡ false
  pub from : (now : ℕ) → has_come due now ≡ true → test now ≡ true

-- ---- a record

-- it may be offered a number: that is above its sender's newest, and there are fewer than eight
abbrev pub has_room_for : RecordView → ℕ → Bool
has_room_for v n = nat_lt (newest v.sender).number n && nat_lt (count v.sender) most_held

-- if it was heard of late, it is offered the number n at a moment, or sent something
abbrev pub is_active : RecordView → ℕ → ℕ → Bool
is_active v n now = has_room_for v n || (is_due v.sender now || is_overdue v.owed now)

-- it was heard of late, and it is offered the number n at a moment, or sent something
abbrev pub is_record_due : RecordView → ℕ → ℕ → Bool
is_record_due v n now = nat_lt now (v.heard_at + forget_after) && is_active v n now

abbrev pub is_entry_due : ℕ → ℕ → ℕ × RecordView → Bool
is_entry_due n now e = is_record_due e.1 n now

-- ---- a server

-- a tick changes nothing but the clock, sends nothing, and needs no number
pub record IsQuiet (s : Server) (now : ℕ) : Type 0 where
  pub same : after_tick s now ≡ record s { clock = now }
  pub none : sent_by s now ≡ []
  pub fits : is_number_spent s now ≡ false
