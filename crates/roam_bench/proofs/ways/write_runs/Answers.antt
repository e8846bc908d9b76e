use Rattle.roam_bench.proofs.Letters.{letters}
use Rattle.roam_bench.proofs.ways.write_runs.Goals as goal

pub put_run-requires : goal.put_run-requires
put_run-requires c = record { printable = letters 1000 }
