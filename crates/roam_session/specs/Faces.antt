-- The screen that a session shows: the face of its layout and of the pictures of its panes (this project's profile).
use Rattle.std.specs.Prelude.{ℕ, List, slice_index, Option, Some, None}
use Rattle.roam_term.specs.Limits.{pane_lines}
use Rattle.roam_screens.specs.Screenshot.{Screenshot, blank_screenshot}
use Rattle.roam_term.specs.Picture.{picture}
use Rattle.roam_layout.specs.Faces.{face as face_of}
use Rattle.roam_session.specs.Panes.{Pane}
use Rattle.roam_session.specs.Sessions.{Entry, SessionSize, SessionState, session}

-- the picture of a pane at a view; a number without a pane shows nothing
abbrev pub picture_at : ℕ → Option Pane → Screenshot
picture_at view None = blank_screenshot 2 4
picture_at view (Some p) = picture p.rows p.cols pane_lines p.log view

-- the picture at a number, at its view in the layout
abbrev pub pictures_of : SessionState → ℕ → Screenshot
pictures_of s k = picture_at (slice_index s.plan.views k) (s.pane k)

-- the face of the session that a log makes
unfoldable pub face : SessionSize → List Entry → Screenshot
face size log = face_of (session size log).plan (pictures_of (session size log))
