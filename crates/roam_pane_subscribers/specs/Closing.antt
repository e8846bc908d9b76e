-- The server's own client instance, which closes panes.
use Rattle.std.specs.Prelude.{◌≡◌, ◌⊎◌, ◌+◌, ◌<◌, ◌%◌, ◌^◌, ℕ, false, List, [], ◌∷◌, ◌++◌, length, IsSome, Option, Some, None, Result, Ok, Vec}
use Rattle.std.specs.declared.alloc.Global.{Global}
use Rattle.std.specs.Option.{option_to_list}
use Rattle.roam_cells.specs.declared.faults.Fault.{Fault}
use Rattle.roam_acts.specs.declared.acts.Act.{Act}
use Rattle.roam_acts.specs.declared.acts.Act.TheVariants.{Focus, Close}
use Rattle.roam_wire.specs.declared.versions.Version.TheVariants.{Two}
use Rattle.roam_model.specs.Clients.{new_client}
use Rattle.roam_hub.specs.Clients.{ClientView, Hears, Sends, Stands, TypesAll}
use Rattle.roam_stream_framing.specs.Frames.{IsFilled}
use Rattle.roam_cells.specs.declared.addresses.Addr.{Addr}
use Rattle.roam_hub.specs.declared.clients.Heard.{Heard}
use Rattle.roam_pane_protocol.specs.Known.{pane_at}
use Rattle.roam_pane_protocol.specs.declared.pane_list.ListedPane.{ListedPane}
use Rattle.roam_pane_protocol.specs.declared.pane_list.PaneList.{PaneList}
use Rattle.roam_pane_subscribers.specs.declared.closing.Closer.{Closer}

-- the acts that focus a pane and close it, and then focus another if one is named
abbrev pub closing_acts : ℕ → Option ℕ → List Act
closing_acts pane None = Focus pane ∷ Close ∷ []
closing_acts pane (Some after) = Focus pane ∷ Close ∷ Focus after ∷ []

-- the address of the server's own instance
abbrev pub own_address : Addr
own_address = record { host = 0 ∷ 0 ∷ 0 ∷ 0 ∷ []; port = 0 }

-- its datagram is given, as much of it as fits
abbrev pub GivesOwn : List ℕ → List ℕ → Option (Addr × ℕ) → Type 0
GivesOwn datagram buf None = ⊥
GivesOwn datagram buf (Some came) = (came.0 ≡ own_address) × IsFilled datagram came.1 buf

-- this making of a pane is there
abbrev pub IsThere : PaneList → ℕ → ℕ → Type 0
IsThere panes pane generation = (listed : ListedPane) × (pane_at panes pane ≡ Some listed) × (listed.generation ≡ generation)

-- The instance of a closer. If it has none, the instance is a new one with the closer's session and id, and the next one gets another id.
abbrev pub IsStartOf : Option ClientView → Closer → ℕ → ClientView → Type 0
IsStartOf None old next start = Stands start old.session old.id (new_client Two false) × (next ≡ (old.id + 1) % 2 ^ 64)
IsStartOf (Some client) old next start = (start ≡ client) × (next ≡ old.id)

-- An instance typed the acts of a close, in one instruction behind those that it has, and its tick made these texts.
pub record TypesClose (start new : ClientView) (pane : ℕ) (after : Option ℕ) (now : ℕ) (texts : Vec (Vec ℕ Global) Global) : Type 0 where
  pub typed : ClientView
  pub types : TypesAll start (closing_acts pane after) (Ok tt) typed
  pub sends : Sends typed now (Ok texts) new
  pub acts : new.kept.acts.acts ≡ start.kept.acts.acts ++ closing_acts pane after

-- A close is under way: the instance of the session typed its acts, and the last datagram that its tick made waits.
pub record Closes (old new : Closer) (pane generation : ℕ) (after : Option ℕ) (now : ℕ) : Type 0 where
  pub start : ClientView
  pub is_start : IsStartOf old.client old new.id start
  pub sent : ClientView
  pub texts : Vec (Vec ℕ Global) Global
  pub types : TypesClose start sent pane after now texts
  pub client : new.client ≡ Some sent
  pub others : List (Vec ℕ Global)
  pub datagram : texts.items ≡ others ++ option_to_list new.datagram
  pub some : 0 < length texts.items → IsSome new.datagram
  pub closing : new.closing ≡ Some (pane, generation)
  pub session : new.session ≡ old.session

-- An answer arrived: the closer's instance got it, if there is one.
abbrev pub HearsAnswer : Option ClientView → Closer → Closer → List ℕ → ℕ → Type 0
HearsAnswer None old new bytes now = new ≡ old
HearsAnswer (Some client) old new bytes now =
    ((client.kept.acts.acts ≡ []) × (new ≡ old))
    ⊎ ((heard : Result Heard Fault) × (after : ClientView) × Hears client bytes now heard after
    × (new ≡ record old { client = Some after }))
