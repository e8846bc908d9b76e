-- When an outer terminal is let go.
use Rattle.std.specs.Prelude.{ℕ, Bool, true, false, not, List}
use Rattle.roam_terminal_input.specs.Lines.{front_of}
use Rattle.roam_terminal_input.specs.declared.lines.Front.{Front}
use Rattle.roam_terminal_input.specs.declared.lines.Front.TheVariants.{Line, Part, TooLong}
use Rattle.roam_outer_terminal.specs.declared.terminal.State.{State}
use Rattle.roam_outer_terminal.specs.declared.terminal.State.TheVariants.{Here, Deaf, Left, Refused, Gone}
use Rattle.roam_outer_terminal.specs.declared.terminal.Terminal.{Terminal}

-- the first line is whole
abbrev pub is_line : Front → Bool
is_line (Line n) = true
is_line Part = false
is_line TooLong = false

-- the terminal is disconnected: it is gone, or it left and none of its lines is whole
abbrev pub is_let_go : State → List ℕ → Bool
is_let_go Here kept = false
is_let_go Deaf kept = false
is_let_go Left kept = not (is_line (front_of kept))
is_let_go Refused kept = false
is_let_go Gone kept = true

abbrev pub is_gone : {S : Type 0} → Terminal S → Bool
is_gone t = is_let_go t.state t.lines.kept
