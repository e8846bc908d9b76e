-- The lines that carry metadata to a subscriber (this project's profile).
use Rattle.std.specs.Prelude.{ℕ, zero, suc, ◌≡◌, ◌⊎◌, ◌++◌, Bool, false, List, [], Option, Some, None, codes}
use Rattle.std.specs.Str.{bytes_eq}
use Rattle.roam_pane_protocol.specs.MetadataLists.{before_told, metadata_at}
use Rattle.roam_pane_protocol.specs.MetadataLines.{metadata_lines, metadata_texts}
use Rattle.roam_pane_protocol.specs.declared.metadata_list.MetadataList.{MetadataList}
use Rattle.roam_pane_protocol.specs.declared.metadata_list.MetadataPane.{MetadataPane}
use Rattle.roam_pane_subscribers.specs.declared.metadata_events.MetadataEvent.{MetadataEvent}
use Rattle.roam_pane_sockets.specs.declared.panes.Pane.{Pane}
use Rattle.roam_pane_sockets.specs.MetadataLists.{title_of}

-- a line asks for metadata
abbrev pub is_metadata_line : List ℕ → Bool
is_metadata_line line = bytes_eq line (codes "metadata")

-- nothing was asked for, sent or queued
pub record IsFreshMetadataEvent (a : MetadataEvent) : Type 0 where
  pub asked : a.is_asked ≡ false
  pub told : a.told ≡ None
  pub text : a.text.items ≡ []

-- ---- the news

-- the metadata of a pane that a program knows; a new program gets no bell that rang before
abbrev pub told_before : Option MetadataPane → Option MetadataPane
told_before None = None
told_before (Some b) = Some (before_told b)

abbrev pub told_at : Option MetadataList → Option MetadataPane → ℕ → Option MetadataPane
told_at None now p = told_before now
told_at (Some told) now p = metadata_at told p

-- the text of the new metadata of the first n panes, each with its last title
unfoldable pub metadata_news : ℕ → Option MetadataList → MetadataList → List Pane → List ℕ
metadata_news zero told now panes = []
metadata_news (suc n) told now panes =
    metadata_news n told now panes
    ++ metadata_texts (title_of panes (suc n)) (metadata_lines (suc n) (told_at told (metadata_at now (suc n)) (suc n)) (metadata_at now (suc n)))

-- New metadata takes the place of the old if no bytes are queued. Otherwise nothing changes.
abbrev pub Renews : MetadataList → List Pane → MetadataEvent → MetadataEvent → Type 0
Renews now panes old new =
    (new ≡ old)
    ⊎ ((new.is_asked ≡ old.is_asked) × (new.told ≡ Some now) × (new.text.items ≡ metadata_news 9 old.told now panes))
