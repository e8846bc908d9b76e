use Rattle.std.proofs.Common.{◌-◌}
use Rattle.roam_bench.proofs.Letters.{some_letters}
use Rattle.roam_bench.proofs.ways.write_lines.Goals as goal

pub put_run-requires : goal.put_run-requires
put_run-requires c = record { printable = some_letters 1000 (c.min.result - 0) }
