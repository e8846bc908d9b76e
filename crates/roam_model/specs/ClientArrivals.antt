-- A datagram comes to a client instance: its kind there, and its effect.
use Rattle.std.specs.Prelude.{ℕ, Option, Some, None, not, nat_lt, ◌==◌, if◌then◌else◌}
use Rattle.roam_cells.specs.declared.faults.Fault.TheVariants.{BadDatagram, OtherSession, OtherClient}
use Rattle.roam_cells.specs.declared.faults.Reason.TheVariants.{Fragment}
use Rattle.roam_cells.specs.declared.faults.Reason.TheVariants as reason
use Rattle.roam_screens.specs.Screenshot.{Screenshot}
use Rattle.roam_acts.specs.Senders.{acked_to}
use Rattle.roam_sync.specs.declared.receivers.Step.{Step}
use Rattle.roam_sync.specs.declared.receivers.Step.TheVariants as step
use Rattle.roam_sync.specs.Receivers.{Receiving, step_for}
use Rattle.roam_wire.specs.Gatherers.{Gathering, Answer, Part, Old, Whole, gather, fragment_of}
use Rattle.roam_wire.specs.Instructions.{DownValue}
use Rattle.roam_model.specs.Arrival.{Arrival, turned_away, noted, completed}
use Rattle.roam_model.specs.Moments.{owed_from}
use Rattle.roam_model.specs.Versions.{is_same_version}
use Rattle.roam_model.specs.Texts.{is_to_server}
use Rattle.roam_model.specs.Clients.{Kept}
use Rattle.roam_wire.specs.Datagrams.{DatagramValue}

-- the result of a client instance for a datagram that it takes: the instruction isn't whole, or its update is old, leaves a gap or is new
pub data Hearing : Type 0 where
  IsPart : Hearing
  IsOld : Hearing
  IsGap : Hearing
  IsNew : Hearing

-- by the result of the gatherer
abbrev pub arriving_gathered : Option (Answer × Gathering) → Arrival Hearing
arriving_gathered None = turned_away (BadDatagram Fragment)
arriving_gathered (Some (Part, g)) = noted IsPart g
arriving_gathered (Some (Old, g)) = noted IsOld g
arriving_gathered (Some (Whole text, g)) = completed g text

-- in this order: its direction, its session, its client instance, its version, its fragment
abbrev pub arriving : ℕ → ℕ → Kept → DatagramValue → Arrival Hearing
arriving session id k d =
    if is_to_server d.kind then turned_away (BadDatagram reason.Kind)
    else if not (d.session == session) then turned_away OtherSession
    else if not (d.client == id) then turned_away OtherClient
    else if not (is_same_version k.version d.version) then turned_away (BadDatagram reason.Version)
    else arriving_gathered (gather k.gathering (fragment_of d))

-- ---- its effect

-- after a datagram that made no instruction whole
abbrev pub after_fragment : Kept → ℕ → Gathering → Kept
after_fragment k now g = record k { gathering = g; clock = now }

-- the receiver's result for an instruction's update, by its numbers alone
abbrev pub step_of : Kept → DownValue → Step
step_of k d = step_for k.receiver d.old d.new d.floor

abbrev pub hearing_of : Step → Hearing
hearing_of step.Old = IsOld
hearing_of step.Gap = IsGap
hearing_of step.New = IsNew

-- After a whole instruction, with the receiver r then: the acknowledged number goes to the acts, whatever the receiver's result. If its new
-- number is above its old one an answer is owed.
abbrev pub after_whole : Kept → ℕ → Gathering → Receiving Screenshot → DownValue → Kept
after_whole k now g r d =
    record k {
      acts = acked_to k.acts d.acked;
      gathering = g;
      receiver = r;
      owed = if nat_lt d.old d.new then owed_from k.owed now else k.owed;
      clock = now;
    }
