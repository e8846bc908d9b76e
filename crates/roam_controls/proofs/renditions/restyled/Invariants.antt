use Rattle.std.proofs.Common.{◌≡◌, ◌≤◌, ◌-◌, length, take, fold}
use Rattle.roam_controls.specs.Renditions.{read_so_far, with_parameter}
use Rattle.roam_controls.specs.declared.renditions.Awaited.TheVariants.{Aspect}
use Rattle.roam_controls.proofs.renditions.restyled.Given as goal

abbrev pub invariant-loop-at : goal.invariant-loop-at
invariant-loop-at l = record {
  within : l.at ≤ length l.params;
  read : read_so_far l.restyling.ink.style l.restyling.awaited ≡ fold with_parameter (read_so_far l.fn.ink.style Aspect) (take l.at l.params);
  guard : l.restyling.ink.guarded ≡ l.fn.ink.guarded;
}

abbrev pub decreases-loop-at : goal.decreases-loop-at
decreases-loop-at l = length l.params - l.at
