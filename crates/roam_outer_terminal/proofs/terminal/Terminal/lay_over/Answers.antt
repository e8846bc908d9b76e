use Rattle.roam_outer_terminal.proofs.Showing.{none_laid}
use Rattle.roam_outer_terminal.proofs.terminal.Terminal.lay_over.Goals as goal

pub returns-clause-hidden : goal.returns-clause-hidden
returns-clause-hidden g c = λ e.
    none_laid c.args.self.now.outer c.args.wanted c.put_forth.result c.args.self.now.waiting c.put_forth.new.waiting c.put_forth.ensures.lays e
