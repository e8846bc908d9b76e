use Rattle.std.proofs.Common.{◌≡◌, ◌+◌, drop}
use Rattle.std.specs.Option.{option_map}
use Rattle.roam_terminal_input.specs.Entries.{cut_of}
use Rattle.roam_terminal_input.proofs.entries.cut_of.Given as goal

abbrev pub invariant-loop-at : goal.invariant-loop-at
invariant-loop-at l = cut_of l.text ≡ option_map (λ k. l.at + k) (cut_of (drop l.at l.text))
