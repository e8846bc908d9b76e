use Rattle.std.proofs.Common.{take}
use Rattle.std.specs.List.{All}
use Rattle.roam_acts.specs.Acts.{HasKey}
use Rattle.roam_hub.proofs.clients.all_facts.Given as goal

-- those so far
abbrev pub invariant-loop-act : goal.invariant-loop-act
invariant-loop-act l = All HasKey (take l.act-index l.acts)
