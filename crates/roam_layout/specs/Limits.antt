-- The limits of a session (this project's profile).
use Rattle.std.specs.Prelude.{ℕ}

-- the least number of rows of a session
abbrev pub least_session_rows : ℕ
least_session_rows = 4

-- the least number of columns of a session
abbrev pub least_session_columns : ℕ
least_session_columns = 8

-- the most rows of its history that a pane's view may go back
abbrev pub most_view : ℕ
most_view = 500
