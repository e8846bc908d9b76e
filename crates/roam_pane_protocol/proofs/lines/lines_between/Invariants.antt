use Rattle.std.proofs.Common.{◌≡◌, ◌-◌}
use Rattle.std.specs.Prelude.{string_bytes}
use Rattle.roam_pane_protocol.specs.Known.{pane_at}
use Rattle.roam_pane_protocol.specs.Lines.{lines_text, lines_to}
use Rattle.roam_pane_protocol.proofs.lines.lines_between.Given as goal

abbrev pub invariant-loop-pane : goal.invariant-loop-pane
invariant-loop-pane l = string_bytes l.text ≡ lines_text (lines_to (l.pane - 1) (pane_at l.told) (pane_at l.now))
