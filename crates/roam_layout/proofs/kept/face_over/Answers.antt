use Rattle.std.proofs.Common.{◌≡◌, ap, ◌∙◌}
use Rattle.roam_screens.specs.Screenshot.{Screenshot}
use Rattle.roam_layout.proofs.FaceOver.{over_is}
use Rattle.roam_layout.proofs.kept.face_over.Goals as goal

pub returns-clause-face : goal.returns-clause-face
returns-clause-face g c = λ picture show.
    let s = c.args.layout.now in
    let k = c.in_ok-shot.shot in
    let same : k ≡ c.args.kept.now = c.in_ok-shot.ensures.same in
    let m = c.put_marked.new.shot in
    let cursor = c.cursor-visible.ensures in
    c.set_cursor.ensures.screen
    ∙ over_is s picture k m c.cursor-visible.result.0.0 c.cursor-visible.result.0.1 c.cursor-visible.result.1 c.in_ok-put_marked.ensures.same
    (ap (λ (x : Screenshot). x.rows) same ∙ c.requires.size.0) (ap (λ (x : Screenshot). x.cols) same ∙ c.requires.size.1)
    c.facts.ensures.screenshot.count (c.in_ok-put_marked.ensures.rows picture show) (cursor.row picture show) (cursor.col picture show)
    (cursor.visible picture show)
