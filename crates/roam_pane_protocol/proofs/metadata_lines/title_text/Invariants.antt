use Rattle.std.proofs.Common.{◌≡◌, take}
use Rattle.std.specs.Prelude.{encode_utf8_all, string_bytes}
use Rattle.roam_pane_protocol.proofs.metadata_lines.title_text.Given as goal

abbrev pub invariant-loop-at : goal.invariant-loop-at
invariant-loop-at l = string_bytes l.text ≡ encode_utf8_all (take l.at l.title)
