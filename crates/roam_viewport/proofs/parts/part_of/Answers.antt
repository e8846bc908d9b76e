use Rattle.std.proofs.Common.{◌∙◌, ℕ, Bool, ◌&&◌, refl, sym, ap, subst}
use Rattle.roam_viewport.specs.Parts.{cursor_in, is_inside}
use Rattle.roam_viewport.proofs.Parting.{parted, part_shown}
use Rattle.roam_screens.specs.Screenshot.{IsScreenshot}
use Rattle.roam_viewport.proofs.parts.part_of.Goals as goal

pub of_lines-requires-clause-screen : goal.of_lines-requires-clause-screen
of_lines-requires-clause-screen c =
    let part = c.args.part in
    let s = c.args.shot.now in
    let at = c.cursor-visible.ensures in
    let row = at.row ∙ ap (λ (k : ℕ). cursor_in part.row part.rows k) c.cursor.ensures.row in
    let col = at.col ∙ ap (λ (k : ℕ). cursor_in part.col part.cols k) c.cursor.ensures.col in
    let visible = at.visible ∙ (λ i. c.visible.ensures.visible i && (is_inside part.row part.rows (c.cursor.ensures.row i) && is_inside part.col part.cols (c.cursor.ensures.col i))) in
    let is = part_shown part c.args.masks.now s c.in_ok-lines.lines.items c.cursor-visible.result.0.0 c.cursor-visible.result.0.1
    c.cursor-visible.result.1 c.in_ok-lines.ensures.cells row col visible in
    subst IsScreenshot (sym is) (parted s c.facts.ensures.screenshot part c.args.masks.now (c.if-not-is_size.ensures.size.0 refl))

pub returns-clause-part : goal.returns-clause-part
returns-clause-part c =
    let part = c.args.part in
    let s = c.args.shot.now in
    let at = c.cursor-visible.ensures in
    let row = at.row ∙ ap (λ (k : ℕ). cursor_in part.row part.rows k) c.cursor.ensures.row in
    let col = at.col ∙ ap (λ (k : ℕ). cursor_in part.col part.cols k) c.cursor.ensures.col in
    let visible = at.visible ∙ (λ i. c.visible.ensures.visible i && (is_inside part.row part.rows (c.cursor.ensures.row i) && is_inside part.col part.cols (c.cursor.ensures.col i))) in
    c.of_lines.ensures.screen
    ∙ part_shown part c.args.masks.now s c.in_ok-lines.lines.items c.cursor-visible.result.0.0 c.cursor-visible.result.0.1
    c.cursor-visible.result.1 c.in_ok-lines.ensures.cells row col visible
