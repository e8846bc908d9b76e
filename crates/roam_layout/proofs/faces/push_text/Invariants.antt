use Rattle.std.proofs.Common.{◌≡◌, ◌++◌, map, take}
use Rattle.roam_layout.specs.Faces.{character, reverse_style}
use Rattle.roam_layout.proofs.faces.push_text.Given as goal

abbrev pub invariant-loop-byte : goal.invariant-loop-byte
invariant-loop-byte l = l.cells.items ≡ l.initial.cells.items ++ map (λ b. character b reverse_style) (take l.byte-index l.text)
