use Rattle.std.proofs.Common.{◌≡◌, ◌∙◌, ◌-◌, Bool, true, ap, arith, length, replicate, take, drop, length-take, length-drop}
use borrow.Rule.Slice.PartMut.{put_mid}
use Rattle.roam_grid.proofs.Marked.{rows_are_marked}
use Rattle.roam_grid.proofs.marks.mark_rows.Goals as goal

pub returns : goal.returns
returns c =
    let a = c.args in
    let size = a.to - a.from in
    let part : length {A = Bool} (take size (drop a.from a.marks.now)) ≡ size = simp (length-take, length-drop) (omega (arith, c.told-marks, c.requires.range.1)) in
    let on : c.fill.new.self ≡ replicate size true = c.fill.ensures.after (λ y e. e) ∙ ap (λ n. replicate n true) part in
    record { marks = ap (put_mid a.from size a.marks.now) on ∙ rows_are_marked a.marks.now a.from a.to c.told-marks c.requires.range.0 c.requires.range.1 }
