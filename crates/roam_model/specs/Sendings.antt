-- A tick of a client instance.
use Rattle.std.specs.Prelude.{ℕ, ◌+◌, max, List, [], ◌∷◌, ◌++◌, length, take, Option, Some, None, Bool, true, ◌&&◌, ◌||◌, nat_lt}
use Rattle.roam_sync.specs.Moments.{resend_after, heartbeat}
use Rattle.roam_acts.specs.Limits.{most_acts}
use Rattle.roam_acts.specs.declared.acts.Act.{Act}
use Rattle.roam_wire.specs.Cutting.{fragments_of}
use Rattle.roam_wire.specs.Instructions.{UpValue, up_text}
use Rattle.roam_model.specs.Moments.{has_passed, is_overdue, is_spent}
use Rattle.roam_model.specs.Texts.{kind_from, datagrams_of}
use Rattle.roam_model.specs.Clients.{Kept, Client}
use Rattle.roam_wire.specs.Datagrams.{DatagramValue}

-- the acts to send: those that aren't acknowledged, at most 64
abbrev pub waiting : Kept → List Act
waiting k = take most_acts k.acts.acts

-- the number of the last of them
abbrev pub last_waiting : Kept → ℕ
last_waiting k = k.acts.acked + length (waiting k)

-- an act isn't acknowledged
abbrev pub is_unacknowledged : Kept → Bool
is_unacknowledged k = nat_lt 0 (length k.acts.acts)

-- Nothing was ever sent; or one of the acts to send never was; or an act isn't acknowledged and it is time to send it again; or an answer
-- is overdue; or a heartbeat is.
abbrev pub is_due_since : Kept → Option ℕ → ℕ → Bool
is_due_since k None now = true
is_due_since k (Some since) now =
    (is_unacknowledged k && nat_lt k.sent_act (last_waiting k))
    || (is_unacknowledged k && has_passed resend_after since now)
    || is_overdue k.owed now
    || has_passed heartbeat since now

abbrev pub is_client_due : Kept → ℕ → Bool
is_client_due k now = is_due_since k k.sent_at now

-- the instruction that it sends, and the fragments of its text
abbrev pub up_from : Kept → UpValue
up_from k = record { acked = k.receiver.newest.number; first = k.acts.acked + 1; acts = waiting k }

abbrev pub fragments_from : Kept → List (List ℕ)
fragments_from k = fragments_of (up_text (up_from k))

abbrev pub datagrams_from : ℕ → ℕ → Kept → List DatagramValue
datagrams_from session id k =
    datagrams_of k.version (kind_from k.watches) session id k.datagrams (k.instructions + 1) (fragments_from k)

-- a number that it needs would be past the last: that of its first act, of the instruction, of a datagram
abbrev pub is_client_spent : Kept → Bool
is_client_spent k =
    is_spent (k.acts.acked + 1) || is_spent (k.instructions + 1) || is_spent (k.datagrams + length (fragments_from k))

-- after a tick that sends
abbrev pub after_sending : Kept → ℕ → Kept
after_sending k now =
    record k {
      sent_at = Some now;
      sent_act = max k.sent_act (last_waiting k);
      owed = None;
      clock = now;
      datagrams = k.datagrams + length (fragments_from k);
      instructions = k.instructions + 1;
    }

abbrev pub after_instruction : Client → ℕ → Client
after_instruction c now = record c { kept = after_sending c.kept now; instructions = c.instructions ++ up_from c.kept ∷ [] }

-- after a tick that sends nothing
abbrev pub after_quiet : Kept → ℕ → Kept
after_quiet k now = record k { clock = now }
