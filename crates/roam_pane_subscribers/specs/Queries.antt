-- The lines that carry questions of panes' programs to a subscriber (this project's profile).
use Rattle.std.specs.Prelude.{ℕ, zero, suc, ◌≡◌, ◌++◌, Bool, false, List, [], None, codes}
use Rattle.std.specs.Str.{bytes_eq}
use Rattle.roam_pane_protocol.specs.Queries.{query_lines, queries_at}
use Rattle.roam_pane_protocol.specs.declared.query_list.QueryList.{QueryList}
use Rattle.roam_pane_subscribers.specs.declared.queries.QueriesTold.{QueriesTold}
use Rattle.roam_pane_sockets.specs.declared.panes.Pane.{Pane}
use Rattle.roam_pane_sockets.specs.Queries.{last_of}

-- a line asks for questions
abbrev pub is_queries_line : List ℕ → Bool
is_queries_line line = bytes_eq line (codes "queries")

-- nothing was asked for, and none is known
pub record AreFreshQueries (a : QueriesTold) : Type 0 where
  pub asked : a.is_asked ≡ false
  pub told : a.told ≡ None

-- ---- the news

-- the text of the new questions of the first n panes, each with its last questions
unfoldable pub query_news : ℕ → QueryList → QueryList → List Pane → List ℕ
query_news zero told now panes = []
query_news (suc n) told now panes =
    query_news n told now panes ++ query_lines (suc n) (queries_at told (suc n)) (queries_at now (suc n)) (last_of panes (suc n))
