-- The parts that records share: the screens of the numbers that were made, and the diffs between them.
use Rattle.std.specs.Prelude.{◌≡◌, ℕ, ◌<◌, ◌≤◌, List, length, Some}
use Rattle.std.specs.List.{All, AllByRecursion, HoldsAt}
use Rattle.roam_screens.specs.Screenshot.{Screenshot}
use Rattle.roam_sync.specs.declared.senders.Held.{Held}
use Rattle.roam_sync.specs.Senders.{Sending, newest}
use Rattle.roam_wire.specs.declared.versions.Version.{Version}
use Rattle.roam_model.specs.Numbers.{first_screen}
use Rattle.roam_model.specs.Versions.{seen_by, difference_by, applied_by}
use Rattle.roam_hub.specs.Servers.{RecordView}
use Rattle.roam_hub.specs.declared.shared.SharedChange.{SharedChange}

-- ---- screens by number

-- a pair is of a number up to the newest, with its screen as a version is shown it
pub record IsMade (screens : ℕ → Screenshot) (most : ℕ) (version : Version) (h : Held Screenshot) : Type 0 where
  pub number : h.number ≤ most
  pub state : h.state ≡ seen_by version (screens h.number)

-- each pair of a sender is
pub record HoldsMade (screens : ℕ → Screenshot) (most : ℕ) (version : Version) (s : Sending Screenshot) : Type 0 where
  pub base : IsMade screens most version s.base
  pub later : AllByRecursion (IsMade screens most version) s.later

-- each pair of each record is
abbrev pub HoldMade : (ℕ → Screenshot) → ℕ → List (ℕ × RecordView) → Type 0
HoldMade screens most es = AllByRecursion (λ e. HoldsMade screens most e.1.version e.1.sender) es

-- There are screens by number: of 0 the blank one, of the newest number this one, and each pair of a record is a number with its screen.
pub record HaveScreens (most : ℕ) (screen : Screenshot) (es : List (ℕ × RecordView)) : Type 0 where
  pub screens : ℕ → Screenshot
  pub first : screens 0 ≡ first_screen
  pub last : screens most ≡ screen
  pub made : HoldMade screens most es

-- ---- diffs

-- a diff is that between the screens of its two numbers
pub record IsBetween (screens : ℕ → Screenshot) (c : SharedChange) : Type 0 where
  pub floor : c.down.floor ≡ c.down.old
  pub rises : c.down.old ≤ c.down.new
  pub change : c.down.change.items
      ≡ difference_by c.version (seen_by c.version (screens c.down.old)) (seen_by c.version (screens c.down.new))
  pub leads : applied_by c.version (seen_by c.version (screens c.down.old)) c.down.change.items
      ≡ Some (seen_by c.version (screens c.down.new))

abbrev pub AreBetween : (ℕ → Screenshot) → List SharedChange → Type 0
AreBetween screens cs = All (IsBetween screens) cs

-- a sender's pairs and diffs are of the same screens
pub record Agree (version : Version) (s : Sending Screenshot) (cs : List SharedChange) : Type 0 where
  pub screens : ℕ → Screenshot
  pub most : ℕ
  pub holds : HoldsMade screens most version s
  pub between : AreBetween screens cs

-- of whichever screens the sender's pairs and the diffs were, those that there are now are too
abbrev pub StayBetween : Version → Sending Screenshot → List SharedChange → List SharedChange → Type 0
StayBetween version s old new =
    (screens : ℕ → Screenshot) (most : ℕ) → HoldsMade screens most version s → AreBetween screens old → AreBetween screens new

-- the records, the screen of the newest number and the diffs are of the same screens
pub record GoTogether (most : ℕ) (screen : Screenshot) (es : List (ℕ × RecordView)) (cs : List SharedChange) : Type 0 where
  pub screens : ℕ → Screenshot
  pub last : screens most ≡ screen
  pub made : HoldMade screens most es
  pub between : AreBetween screens cs

-- if the record's pairs and the diffs were those of some screens, and the newest number has this one, the new ones are too
abbrev pub StayTogether : ℕ → Screenshot → RecordView → List SharedChange → List SharedChange → Type 0
StayTogether most screen v old new =
    (screens : ℕ → Screenshot) → screens most ≡ screen → HoldsMade screens most v.version v.sender → AreBetween screens old
    → AreBetween screens new

-- a diff that acknowledges so many acts
abbrev pub with_acked : SharedChange → ℕ → SharedChange
with_acked c acked = record c { down = record c.down { acked = acked } }

-- a diff of a version leads from one number to another
pub record IsFromTo (version : Version) (old new : ℕ) (c : SharedChange) : Type 0 where
  pub same : c.version ≡ version
  pub from : c.down.old ≡ old
  pub to : c.down.new ≡ new

-- such a diff is at a place
abbrev pub HasChange : List SharedChange → ℕ → Version → ℕ → ℕ → Type 0
HasChange cs at version old new = (at < length cs) × HoldsAt (IsFromTo version old new) cs at

-- a diff leads from a sender's base to its newest
pub record LeadsOver (version : Version) (s : Sending Screenshot) (c : SharedChange) : Type 0 where
  pub same : c.version ≡ version
  pub old : c.down.old ≡ s.base.number
  pub new : c.down.new ≡ (newest s).number
  pub floor : c.down.floor ≡ s.base.number
  pub rises : s.base.number ≤ (newest s).number
  pub change : c.down.change.items ≡ difference_by version s.base.state (newest s).state
  pub leads : applied_by version s.base.state c.down.change.items ≡ Some (newest s).state

-- such a diff is at a place
abbrev pub IsChangeFor : List SharedChange → ℕ → Version → Sending Screenshot → Type 0
IsChangeFor cs at version s = (at < length cs) × HoldsAt (LeadsOver version s) cs at
