-- The metadata of panes: modes, titles and bells (this project's profile).
use Rattle.std.specs.Prelude.{ℕ, ◌≡◌, ◌-◌, Bool, true, false, List, [], Option, None, Some, ◌≤◌, slice_get}
use Rattle.roam_pane_protocol.specs.MetadataLists.{metadata_at, without_new_bells}
use Rattle.roam_pane_protocol.specs.declared.metadata_list.MetadataList.{MetadataList}
use Rattle.roam_pane_protocol.specs.declared.metadata_list.MetadataPane.{MetadataPane}
use Rattle.roam_pane_sockets.specs.declared.panes.Pane.{Pane}
use Rattle.roam_pane_sockets.specs.Peers.{generation_in}

-- a title, or nothing
abbrev pub title_codes : Option (List ℕ) → List ℕ
title_codes None = []
title_codes (Some title) = title

-- the metadata of a generation of a pane
abbrev pub metadata_of : Option ℕ → Pane → Option MetadataPane
metadata_of None pane = None
metadata_of (Some generation) pane =
    Some (record { generation = generation; settings = pane.pane_input.metadata.settings; titles = pane.pane_input.metadata.texts.said.titles })

-- the metadata of an open pane
abbrev pub pane_metadata : Option Pane → Option MetadataPane
pane_metadata None = None
pane_metadata (Some pane) = metadata_of (generation_in pane.making) pane

-- the last title that the program of a pane said
abbrev pub pane_title : Option Pane → List ℕ
pane_title None = []
pane_title (Some pane) = title_codes pane.pane_input.metadata.texts.said.title

-- that of a pane by its number
abbrev pub title_of : List Pane → ℕ → List ℕ
title_of panes p = pane_title (slice_get panes (p - 1))

-- bells are limited in time: in between, the count is that of the last report
abbrev pub shown_bells : Bool → Option MetadataPane → Option MetadataPane → Option MetadataPane
shown_bells may_ring shown None = None
shown_bells true shown (Some b) = Some b
shown_bells false shown (Some b) = Some (without_new_bells shown b)

-- the metadata of the panes, with the bells that may be reported now
pub record AreMetadata (may_ring : Bool) (shown : MetadataList) (panes : List Pane) (now : MetadataList) : Type 0 where
  pub at : (p : ℕ) → 1 ≤ p → p ≤ 9 → metadata_at now p ≡ shown_bells may_ring (metadata_at shown p) (pane_metadata (slice_get panes (p - 1)))
