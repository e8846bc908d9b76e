-- Limits of a terminal (this project's profile).
use Rattle.std.specs.Prelude.{ℕ}

-- the most bytes that may wait for a pane's program
abbrev pub most_output : ℕ
most_output = 65536

-- the most bytes of a piece that a terminal is fed at once
abbrev pub longest_piece : ℕ
longest_piece = 1024

-- the lines of history that the terminal of a pane keeps
abbrev pub pane_lines : ℕ
pane_lines = 500
