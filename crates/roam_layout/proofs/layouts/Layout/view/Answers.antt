use Rattle.std.proofs.Common.{arith, sym, ◌∙◌}
use Rattle.roam_layout.specs.Trees.{shape_of}
use Rattle.roam_layout.proofs.Keeping.{number_of}
use Rattle.roam_layout.proofs.layouts.Layout.view.Goals as goal

pub bounds-self-inside-from : goal.bounds-self-inside-from
bounds-self-inside-from c = let number = number_of c.args.pane (shape_of c.self.inside.tree) c.self.invariant.plan.numbers
    (sym c.has.ensures.has ∙ c.if-has.true) in omega (arith, number.1, c.from.ensures)
