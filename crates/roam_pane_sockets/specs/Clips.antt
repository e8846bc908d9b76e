-- The texts for the clipboard that the programs of the panes said (this project's profile).
use Rattle.std.specs.Prelude.{ℕ, ◌≡◌, ◌-◌, List, [], Option, None, Some, ◌≤◌, slice_get}
use Rattle.roam_pane_protocol.specs.declared.clip_list.ClipList.{ClipList}
use Rattle.roam_pane_protocol.specs.Clips.{clips_at}
use Rattle.roam_pane_protocol.specs.declared.clip_list.ClipPane.{ClipPane}
use Rattle.roam_pane_sockets.specs.declared.panes.Pane.{Pane}
use Rattle.roam_pane_sockets.specs.Peers.{generation_in}

-- how many texts the program of a making of a pane has said
abbrev pub count_of : Option ℕ → Pane → Option ClipPane
count_of None pane = None
count_of (Some generation) pane = Some (record { generation = generation; clips = pane.pane_input.metadata.texts.said.clips })

-- how many that of a pane has said that is there
abbrev pub pane_clips : Option Pane → Option ClipPane
pane_clips None = None
pane_clips (Some pane) = count_of (generation_in pane.making) pane

-- a text, or nothing
abbrev pub clip_codes : Option (List ℕ) → List ℕ
clip_codes None = []
clip_codes (Some clip) = clip

-- the last text that the program of a pane said, in base64
abbrev pub pane_clip : Option Pane → List ℕ
pane_clip None = []
pane_clip (Some pane) = clip_codes pane.pane_input.metadata.texts.said.clip

-- that of a pane by its number
abbrev pub clip_of : List Pane → ℕ → List ℕ
clip_of panes p = pane_clip (slice_get panes (p - 1))

-- so many texts were said in the panes
pub record AreClips (panes : List Pane) (now : ClipList) : Type 0 where
  pub at : (p : ℕ) → 1 ≤ p → p ≤ 9 → clips_at now p ≡ pane_clips (slice_get panes (p - 1))
