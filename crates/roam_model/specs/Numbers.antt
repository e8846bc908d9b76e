-- Screens by their numbers: a number is a place in the session's log.
use Rattle.std.specs.Prelude.{◌≡◌, ℕ, ◌-◌, ◌≤◌, List, [], ◌∷◌, length, take, slice_index, ◌==◌, if◌then◌else◌}
use Rattle.roam_acts.specs.declared.acts.Act.{Act}
use Rattle.roam_screens.specs.Screenshot.{Screenshot, blank_screenshot}
use Rattle.roam_session.specs.Sessions.{SessionSize, Entry, Given, Did, Drained}
use Rattle.roam_session.specs.Faces.{face}
use Rattle.roam_model.specs.Versions.{seen_by}
use Rattle.roam_wire.specs.declared.versions.Version.{Version}

-- the screen that both ends begin with
unfoldable pub first_screen : Screenshot
first_screen = blank_screenshot 24 80

-- the length of the log at the tick that made the number; numbers are made from 1 on
abbrev pub cut_of : List ℕ → ℕ → ℕ
cut_of cuts n = slice_index cuts (n - 1)

-- the screen of a number, as an instance of a version is shown it: the session's face after the log's entries up to its cut
abbrev pub screen : Version → SessionSize → List Entry → List ℕ → ℕ → Screenshot
screen v size log cuts n = if n == 0 then first_screen else seen_by v (face size (take (cut_of cuts n) log))

-- a number was made, and this is its screen
pub record IsScreenOf (v : Version) (size : SessionSize) (log : List Entry) (cuts : List ℕ) (n : ℕ) (s : Screenshot) : Type 0 where
  pub made : n ≤ length cuts
  pub same : s ≡ screen v size log cuts n

-- the acts of a client instance that were taken, in their order
abbrev pub acts_of : ℕ → List Entry → List Act
acts_of id [] = []
acts_of id (Given pane bytes ∷ log) = acts_of id log
acts_of id (Did client act ∷ log) = if client == id then act ∷ acts_of id log else acts_of id log
acts_of id (Drained pane count ∷ log) = acts_of id log
