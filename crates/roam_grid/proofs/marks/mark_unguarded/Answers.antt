use Rattle.std.proofs.Common.{◌≡◌, ◌∙◌, ℕ, Bool, ◌&&◌, eqb, ap, arith}
use Rattle.std.specs.Prelude.{slice_range}
use Rattle.roam_grid.specs.Marks.{also_marked, has_unguarded, unguarded_marked, is_some_unguarded}
use Rattle.roam_grid.proofs.Marked.{more_rows, no_rows}
use Rattle.roam_grid.proofs.marks.mark_unguarded.Goals as goal

pub loop-r-init : goal.loop-r-init
unfolding unguarded_marked
loop-r-init c =
    let a = c.args in
    let v = a.ring.now in
    record { marks = no_rows a.marks.now a.rows.0 (λ r. has_unguarded v.cols v.cells r a.columns.0 a.columns.1) c.told-marks }

pub loop-r-preserved : goal.loop-r-preserved
unfolding unguarded_marked
loop-r-preserved c =
    let a = c.args in
    let l = c.loop-r in
    let v = a.ring.now in
    let on : ℕ → Bool = λ r. has_unguarded v.cols v.cells r a.columns.0 a.columns.1 in
    let is : c.has_unguarded-on.result ≡ on l.r = c.has_unguarded-on.ensures.some ∙ ap (λ row. is_some_unguarded (slice_range row a.columns.0 a.columns.1)) c.row.ensures.row in
    record {
      marks =
          c.mark_where.ensures.marks ∙ ap (λ b. also_marked (λ r. eqb r l.r && b) l.marks) is
          ∙ ap (also_marked (λ r. eqb r l.r && on l.r)) l.invariant.marks
          ∙ more_rows a.marks.now a.rows.0 l.r on l.auto.r;
    }

pub returns : goal.returns
returns c =
    let a = c.args in
    let l = c.loop-r in
    let v = a.ring.now in
    let end : l.r ≡ a.rows.1 = omega (arith, c.loop-r-test.false, l.auto.r-end c.requires.rows.0) in
    record { marks = l.invariant.marks ∙ ap (λ r. unguarded_marked v.cols v.cells a.rows.0 r a.columns.0 a.columns.1 a.marks.now) end }
