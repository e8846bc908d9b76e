-- The refusals of a session after a log, and the bytes queued in its panes (this project's profile).
use Rattle.std.specs.Prelude.{ℕ, ◌+◌, ◌*◌, Bool, false, nat_lt, List, length, Option, Some, None, Result, Ok, Err, if◌then◌else◌}
use Rattle.std.specs.Option.{option_map}
use Rattle.roam_term.specs.Limits.{most_output, longest_piece}
use Rattle.roam_keys.specs.declared.keys.Key.{Key}
use Rattle.roam_acts.specs.declared.acts.Act.{Act}
use Rattle.roam_cells.specs.declared.faults.Fault.{Fault}
use Rattle.roam_cells.specs.declared.faults.Fault.TheVariants.{NoPane, TooLong, Busy}
use Rattle.roam_session.specs.Panes.{Pane, key_bytes}
use Rattle.roam_session.specs.Sessions.{Entry, SessionSize, SessionState, key_in, session}

-- the bytes queued in the pane at a number
abbrev pub waiting_in : Option Pane → Option (List ℕ)
waiting_in pane = option_map (λ (p : Pane). p.waiting) pane

-- the bytes that wait in a pane that is there
unfoldable pub output_at : SessionSize → List Entry → ℕ → Option (List ℕ)
output_at size log p = waiting_in ((session size log).pane p)

-- The reason for which bytes aren't taken: there is no pane, they are more than 1,024, or the queue of 65,536 bytes hasn't 12 free bytes
-- for each of them; in this order.
abbrev pub bytes_refused : List ℕ → Option (List ℕ) → Option Fault
bytes_refused bytes None = Some NoPane
bytes_refused bytes (Some waiting) =
    if nat_lt longest_piece (length bytes) then Some TooLong
    else if nat_lt most_output (length waiting + 12 * length bytes) then Some Busy
    else None

-- why a pane doesn't take bytes of its program
abbrev pub refuses_bytes : SessionSize → List Entry → ℕ → List ℕ → Option Fault
refuses_bytes size log p bytes = bytes_refused bytes (output_at size log p)

-- why nothing is taken from a pane: there is none
abbrev pub none_refused : Option (List ℕ) → Option Fault
none_refused None = Some NoPane
none_refused (Some waiting) = None

-- whether a key's bytes find the queue of a pane full
abbrev pub is_full_for : Key → Option Pane → Bool
is_full_for key None = false
is_full_for key (Some p) = nat_lt most_output (length p.waiting + length (key_bytes key p))

-- whether an act with the key that it may have finds the queue of the pane in focus full
abbrev pub is_stopped : Option Key → SessionState → Bool
is_stopped (Some key) s = is_full_for key (s.pane s.plan.focus)
is_stopped None s = false

unfoldable pub stops : SessionSize → List Entry → Act → Bool
stops size log act = is_stopped (key_in act) (session size log)

-- why a call was refused
abbrev pub fault_of : {A : Type 0} → Result A Fault → Option Fault
fault_of (Ok x) = None
fault_of (Err fault) = Some fault
