-- A client instance, and the acts typed at it.
use Rattle.std.specs.Prelude.{ℕ, max, List, [], ◌∷◌, ◌++◌, Option, None, Bool, true, false}
use Rattle.roam_screens.specs.Screenshot.{Screenshot}
use Rattle.roam_acts.specs.declared.acts.Act.{Act}
use Rattle.roam_acts.specs.Senders.{Typing, after_typing, start as no_acts}
use Rattle.roam_sync.specs.Receivers.{Receiving, start}
use Rattle.roam_wire.specs.Gatherers.{Gathering, nothing}
use Rattle.roam_wire.specs.Instructions.{UpValue}
use Rattle.roam_model.specs.Numbers.{first_screen}
use Rattle.roam_wire.specs.declared.versions.Version.{Version}
use Rattle.roam_wire.specs.declared.versions.Version.TheVariants.{Two}

-- the part of a client instance that a program keeps
pub record Kept : Type 0 where
  -- its version, and whether it only watches
  pub version : Version
  pub watches : Bool
  -- how many of the acts that were typed at it are acknowledged, and those that aren't
  pub acts : Typing
  -- the gathered fragments of the newest instruction to it
  pub gathering : Gathering
  -- the screens that an instruction may start from
  pub receiver : Receiving Screenshot
  -- when it last sent, and the greatest number of an act that was sent
  pub sent_at : Option ℕ
  pub sent_act : ℕ
  -- since when an answer is owed
  pub owed : Option ℕ
  -- the greatest moment so far
  pub clock : ℕ
  -- how many datagrams and how many instructions it sent
  pub datagrams : ℕ
  pub instructions : ℕ

-- a client instance: its kept part, and its histories, which no program keeps
pub record Client : Type 0 where
  -- whether there was such an instance
  pub made : Bool
  pub kept : Kept
  -- all acts that were typed at it
  pub typed : List Act
  -- all instructions that it sent, the first under the number 1
  pub instructions : List UpValue

-- the value before an instance
unfoldable pub nobody : Client
nobody =
    record {
      made = false;
      kept = record {
        version = Two;
        watches = false;
        acts = no_acts;
        gathering = nothing;
        receiver = start first_screen;
        sent_at = None;
        sent_act = 0;
        owed = None;
        clock = 0;
        datagrams = 0;
        instructions = 0;
      };
      typed = [];
      instructions = [];
    }

-- an instance at first
abbrev pub new_kept : Version → Bool → Kept
new_kept v watches = record nobody.kept { version = v; watches = watches }

abbrev pub new_client : Version → Bool → Client
new_client v watches = record nobody { made = true; kept = new_kept v watches }

-- the moment that the instance goes by: none below an earlier one
abbrev pub moment_of : Kept → ℕ → ℕ
moment_of k now = max now k.clock

-- the number and the screen that it shows
abbrev pub shown_number : Client → ℕ
shown_number c = c.kept.receiver.newest.number

abbrev pub shown_screen : Client → Screenshot
shown_screen c = c.kept.receiver.newest.state

-- one more act was typed
abbrev pub after_typed : Kept → Act → Kept
after_typed k act = record k { acts = after_typing k.acts act }

abbrev pub after_act : Client → Act → Client
after_act c act = record c { kept = after_typed c.kept act; typed = c.typed ++ act ∷ [] }
