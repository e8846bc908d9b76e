use Rattle.std.proofs.Common.{◌≡◌, ◌++◌, take}
use Rattle.roam_acts.specs.Bytes.{acts_text}
use Rattle.roam_acts.proofs.bytes.write_acts.Given as goal

-- the texts of the acts so far were added
abbrev pub invariant-loop-act : goal.invariant-loop-act
invariant-loop-act l = l.out.items ≡ l.initial.out.items ++ acts_text (take l.act-index l.acts)
