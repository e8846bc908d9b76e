-- The server, and its record of each client instance.
use Rattle.std.specs.Prelude.{ℕ, ◌++◌, max, List, [], ◌∷◌, Option, None, Bool, true, false}
use Rattle.roam_screens.specs.Screenshot.{Screenshot}
use Rattle.roam_sync.specs.Senders.{Sending, start}
use Rattle.roam_wire.specs.Gatherers.{Gathering, nothing}
use Rattle.roam_wire.specs.Instructions.{DownValue}
use Rattle.roam_session.specs.Sessions.{SessionSize, Entry}
use Rattle.roam_model.specs.Numbers.{first_screen}
use Rattle.roam_model.specs.Texts.{Address}
use Rattle.roam_wire.specs.declared.versions.Version.{Version}
use Rattle.roam_wire.specs.declared.versions.Version.TheVariants.{Two}

-- the number of a datagram that came, and its source
pub record Note : Type 0 where
  pub number : ℕ
  pub source : Address

-- the server's record of a client instance
pub record Record : Type 0 where
  -- whether something came from it
  pub known : Bool
  -- the version of its first datagram, and whether that came from a watcher
  pub version : Version
  pub watches : Bool
  -- the gathered fragments of its newest instruction
  pub gathering : Gathering
  -- how many of its acts were taken
  pub taken : ℕ
  -- the screens that it may still need, and which were sent
  pub sender : Sending Screenshot
  -- when it was heard
  pub heard_at : ℕ
  -- the greatest number of a datagram that came, and its source
  pub latest : ℕ
  pub address : Address
  -- all that came, as a history: no program keeps it
  pub notes : List Note
  -- since when an answer is owed
  pub owed : Option ℕ
  -- how many datagrams were sent to it
  pub datagrams : ℕ
  -- all instructions that were sent to it, the first under the number 1: a program keeps their number
  pub instructions : List DownValue

abbrev pub nowhere : Address
nowhere = record { host = 0; port = 0 }

-- before anything came
unfoldable pub no_record : Record
no_record =
    record {
      known = false;
      version = Two;
      watches = false;
      gathering = nothing;
      taken = 0;
      sender = start first_screen;
      heard_at = 0;
      latest = 0;
      address = nowhere;
      notes = [];
      owed = None;
      datagrams = 0;
      instructions = [];
    }

pub record Server : Type 0 where
  pub session : ℕ
  -- the session's first size, and all that was put into it
  pub size : SessionSize
  pub log : List Entry
  -- the length of the log at the tick that made each number
  pub cuts : List ℕ
  -- when the newest number was made, and whether an input came since
  pub made_at : ℕ
  pub input : Bool
  -- the greatest moment so far
  pub clock : ℕ
  -- the record of each client instance, by its id
  pub records : ℕ → Record
  -- the ids of those that are known, in the order in which they came
  pub arrival : List ℕ

unfoldable pub new_server : ℕ → SessionSize → Server
new_server session size =
    record {
      session = session;
      size = size;
      log = [];
      cuts = [];
      made_at = 0;
      input = false;
      clock = 0;
      records = λ id. no_record;
      arrival = [];
    }

-- the moment that the server goes by: none below an earlier one
abbrev pub moment : Server → ℕ → ℕ
moment s now = max now s.clock

-- the server after one more input
abbrev pub after_input : Server → Entry → Server
after_input s entry = record s { log = s.log ++ entry ∷ []; input = true }
