use Rattle.std.proofs.Common.{◌≤◌, ap, arith, refl}
use Rattle.roam_rows.specs.Rows.{Rows}
use Rattle.roam_rows.proofs.Whole.{goes_up, goes_round, turned_on}
use Rattle.roam_rows.proofs.rings.Ring.turn.Goals as goal

pub invariant_of-self : goal.invariant_of-self
invariant_of-self c =
    let f = c.self.inside in
    let k = c.self.invariant in
    let rows_are = ap (λ (s : Rows). s.rows) c.self.view_is in
    let few : c.args.n ≤ f.rows = omega (arith, c.requires.few) in
    record {
      turned = turned_on f.rows f.cols f.first c.args.n c.bring_back-self-inside.result f.cells.items k.turned few c.bring_back-self-inside.ensures.row;
      lengths = k.lengths;
    }

pub returns : goal.returns
returns c =
    let f = c.self.inside in
    let k = c.self.invariant in
    let rows_are = ap (λ (s : Rows). s.rows) c.self.view_is in
    let few : c.args.n ≤ f.rows = omega (arith, c.requires.few) in
    record {
      turned = rw (← c.self.view_is) (record {
        rows = refl;
        cols = refl;
        first = c.bring_back-self-inside.ensures.row;
        up = goes_up f.rows f.cols f.first c.args.n c.bring_back-self-inside.result f.cells.items k.turned few c.bring_back-self-inside.ensures.row;
        round = goes_round f.rows f.cols f.first c.args.n c.bring_back-self-inside.result f.cells.items k.turned few c.bring_back-self-inside.ensures.row;
      });
    }
