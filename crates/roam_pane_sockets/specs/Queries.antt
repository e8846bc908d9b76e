-- The questions that the programs of the panes asked (this project's profile).
use Rattle.std.specs.Prelude.{ℕ, ◌≡◌, ◌-◌, List, [], Option, None, Some, ◌≤◌, slice_get}
use Rattle.roam_pane_metadata.specs.declared.queries.Query.{Query}
use Rattle.roam_pane_protocol.specs.Queries.{queries_at}
use Rattle.roam_pane_protocol.specs.declared.query_list.QueryList.{QueryList}
use Rattle.roam_pane_protocol.specs.declared.query_list.QueryPane.{QueryPane}
use Rattle.roam_pane_sockets.specs.declared.panes.Pane.{Pane}
use Rattle.roam_pane_sockets.specs.Peers.{generation_in}

-- how many questions the program of a making of a pane has asked
abbrev pub asked_of : Option ℕ → Pane → Option QueryPane
asked_of None pane = None
asked_of (Some generation) pane = Some (record { generation = generation; asked = pane.pane_input.metadata.asked.count })

-- how many that of a pane has asked that is there
abbrev pub pane_asked : Option Pane → Option QueryPane
pane_asked None = None
pane_asked (Some pane) = asked_of (generation_in pane.making) pane

-- its last questions
abbrev pub pane_queries : Option Pane → List Query
pane_queries None = []
pane_queries (Some pane) = pane.pane_input.metadata.asked.last

-- those of a pane by its number
abbrev pub last_of : List Pane → ℕ → List Query
last_of panes p = pane_queries (slice_get panes (p - 1))

-- so many questions were asked in the panes
pub record AreQueries (panes : List Pane) (now : QueryList) : Type 0 where
  pub at : (p : ℕ) → 1 ≤ p → p ≤ 9 → queries_at now p ≡ pane_asked (slice_get panes (p - 1))
