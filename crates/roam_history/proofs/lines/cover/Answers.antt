use Rattle.std.proofs.Common.{◌≡◌, ◌-◌, ◌∙◌, ◌++◌, ap, arith, length, drop, max, replicate, take, length-append, length-drop, length-take}
use Rattle.roam_cells.specs.Glyph.{blank}
use Rattle.roam_history.proofs.Refitting.{covered}
use Rattle.roam_history.proofs.lines.cover.Goals as goal

pub returns-clause-each : goal.returns-clause-each
returns-clause-each c =
    let a = c.args in
    let line = a.line.now in
    let count = c.min-count.result in
    let size = c.max.result - count in
    let copied = c.copy_from_slice.new.self in
    let front : length copied ≡ count = c.copy_from_slice.ensures.len ∙ simp length-take (omega arith) in
    let part : length (take size (drop count (copied ++ drop count line))) ≡ size = simp (length-take, length-drop, length-append) (omega (arith, front)) in
    let size_is : size ≡ max a.written count - count = ap (λ n. n - count) c.max.ensures in
    let filled : c.fill.new.self ≡ replicate (max a.written count - count) blank =
    c.fill.ensures.after (λ y e. e) ∙ ap (λ n. replicate n c.blank.result) (part ∙ size_is) ∙ ap (replicate (max a.written count - count)) c.blank.ensures.cell in
    rw size_is (covered a.row.now line copied c.fill.new.self count a.written c.min-count.ensures c.requires.few c.requires.rest c.copy_from_slice.ensures.after filled)
