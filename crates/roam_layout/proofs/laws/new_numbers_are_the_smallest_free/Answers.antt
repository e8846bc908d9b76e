use Rattle.roam_layout.proofs.Counting.{free_is_free, below_free}
use Rattle.roam_layout.proofs.laws.new_numbers_are_the_smallest_free.Goals as goal

pub returns-clause-free : goal.returns-clause-free
returns-clause-free c tree few = free_is_free tree few

pub returns-clause-smallest : goal.returns-clause-smallest
returns-clause-smallest c tree pane from below = below_free pane tree from below
