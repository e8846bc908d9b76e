-- The list of a session: its panes with places and sizes, the focus, and how many client instances are known.
use Rattle.std.specs.Prelude.{ℕ, Bool, ◌==◌, ◌&&◌, [], ◌∷◌, slice_index_or, Option, None}
use Rattle.roam_pane_protocol.specs.declared.pane_list.ListedPane.{ListedPane}
use Rattle.roam_pane_protocol.specs.declared.pane_list.PaneList.{PaneList}

-- nothing is known: no pane is there, none is in focus, and no number of client instances is known
abbrev pub nothing : PaneList
nothing =
    record {
      all = None ∷ None ∷ None ∷ None ∷ None ∷ None ∷ None ∷ None ∷ None ∷ None ∷ [];
      focus = 0;
      clients = None;
      watchers = None;
    }

-- the entry of a pane, if it is there
abbrev pub pane_at : PaneList → ℕ → Option ListedPane
pane_at known p = slice_index_or known.all p None

-- whether two panes are one, at one place and of one size
abbrev pub is_same : ListedPane → ListedPane → Bool
is_same one other =
    (one.generation == other.generation)
    && ((one.row == other.row) && ((one.col == other.col) && ((one.rows == other.rows) && (one.cols == other.cols))))

-- how many client instances that edit, and how many that watch, a server keeps at most
abbrev pub most_clients : ℕ
most_clients = 64

abbrev pub most_watchers : ℕ
most_watchers = 16
