-- The lines that carry clips to a subscriber (this project's profile).
use Rattle.std.specs.Prelude.{ℕ, zero, suc, ◌≡◌, ◌++◌, Bool, false, List, [], None, codes}
use Rattle.std.specs.Str.{bytes_eq}
use Rattle.roam_pane_protocol.specs.Clips.{clip_lines, clip_texts, clips_at}
use Rattle.roam_pane_protocol.specs.declared.clip_list.ClipList.{ClipList}
use Rattle.roam_pane_subscribers.specs.declared.clips.ClipsTold.{ClipsTold}
use Rattle.roam_pane_sockets.specs.declared.panes.Pane.{Pane}
use Rattle.roam_pane_sockets.specs.Clips.{clip_of}

-- a line asks for them
abbrev pub is_clips_line : List ℕ → Bool
is_clips_line line = bytes_eq line (codes "clipboard")

-- nothing was asked for, and none is known
pub record AreFreshClips (c : ClipsTold) : Type 0 where
  pub asked : c.is_asked ≡ false
  pub told : c.told ≡ None

-- ---- the news

-- the text of the new clips of the first n panes, each with the last clip that its count includes
unfoldable pub clip_news : ℕ → ClipList → ClipList → List Pane → List ℕ
clip_news zero told now panes = []
clip_news (suc n) told now panes =
    clip_news n told now panes ++ clip_texts (clip_of panes (suc n)) (clip_lines (suc n) (clips_at told (suc n)) (clips_at now (suc n)))
