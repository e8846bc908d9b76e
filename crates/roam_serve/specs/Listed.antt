-- The panes of a server, as subscribers get them.
use Rattle.std.specs.Prelude.{ℕ, ◌≡◌, true, false, length, Option, None, Some, min, ◌≤◌}
use Rattle.roam_pane_protocol.specs.declared.pane_list.PaneList.{PaneList}
use Rattle.roam_pane_protocol.specs.Known.{pane_at}
use Rattle.roam_pane_protocol.specs.declared.pane_list.ListedPane.{ListedPane}
use Rattle.roam_layout.specs.declared.rects.Rect.{Rect}
use Rattle.roam_session.specs.Generations.{generation_of}
use Rattle.roam_session.specs.Places.{focus_at, rect_at}
use Rattle.roam_model.specs.ServerArrivals.{alike}
use Rattle.roam_model.specs.Servers.{Server}

-- a pane that is there: its generation, its place and its size
abbrev pub pane_of : Option ℕ → Option Rect → Option ListedPane
pane_of None rect = None
pane_of (Some generation) None = None
pane_of (Some generation) (Some rect) =
    Some (record { generation = generation; row = rect.row; col = rect.col; rows = rect.rows; cols = rect.cols })

-- these are the panes of a server, the one in focus, and how many instances of each kind it knows
pub record ArePanesOf (s : Server) (known : PaneList) : Type 0 where
  pub panes : (p : ℕ) → 1 ≤ p → p ≤ 9 → pane_at known p ≡ pane_of (generation_of s.size s.log p) (rect_at s.size s.log p)
  pub focus : known.focus ≡ focus_at s.size s.log
  pub starts : known.clients ≡ Some (min (length (alike s false)) 65535)
  pub watchers : known.watchers ≡ Some (min (length (alike s true)) 65535)
