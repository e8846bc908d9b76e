-- Where the panes of a session are, and which of them is in focus.
use Rattle.std.specs.Prelude.{ℕ, List, Option}
use Rattle.roam_layout.specs.Rects.{rect_in}
use Rattle.roam_layout.specs.Layouts.{panes}
use Rattle.roam_layout.specs.declared.rects.Rect.{Rect}
use Rattle.roam_session.specs.Sessions.{Entry, SessionSize, session}

-- the rectangle of a pane that is there
abbrev pub rect_at : SessionSize → List Entry → ℕ → Option Rect
rect_at size log p = rect_in p (panes (session size log).plan)

-- the number of the pane in focus
abbrev pub focus_at : SessionSize → List Entry → ℕ
focus_at size log = (session size log).plan.focus
