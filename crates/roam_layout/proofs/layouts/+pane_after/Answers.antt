use Rattle.roam_layout.proofs.Keeping.{after_short}
use Rattle.roam_layout.proofs.layouts.+pane_after.Goals as goal

pub returns-then-list-lt2 : goal.returns-then-list-lt2
returns-then-list-lt2 t c = record { pane = after_short c.args.first c.args.pane c.args.list.now c.if-list-lt2.true }
