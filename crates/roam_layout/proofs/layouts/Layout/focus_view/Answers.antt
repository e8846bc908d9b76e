use Rattle.std.proofs.Common.{arith}
use Rattle.roam_layout.specs.Trees.{shape_of}
use Rattle.roam_layout.proofs.Keeping.{number_of}
use Rattle.roam_layout.proofs.layouts.Layout.focus_view.Goals as goal

pub bounds-self-inside-from : goal.bounds-self-inside-from
bounds-self-inside-from c =
    let number = number_of c.self.inside.focus (shape_of c.self.inside.tree) c.self.invariant.plan.numbers c.self.invariant.plan.focus in
    omega (arith, number.1, c.from.ensures)
