use Rattle.std.proofs.Common.{◌≡◌, take, fold}
use Rattle.roam_grid.specs.Screen.{IsSameSize}
use Rattle.roam_term.specs.Marks.{marks_private_modes}
use Rattle.roam_term.specs.Terminal.{private_mode_set}
use Rattle.roam_term.proofs.canvases.Canvas.set_private_modes.Given as goal

abbrev pub invariant-loop-number : goal.invariant-loop-number
invariant-loop-number l = record {
  set : l.self.live ≡ fold (private_mode_set l.on) l.initial.self.live (take l.number-index l.numbers);
  marks : l.self.marks ≡ marks_private_modes l.on l.initial.self.live (take l.number-index l.numbers) l.initial.self.marks;
  size : IsSameSize l.initial.self.live.screen l.self.live.screen;
}
