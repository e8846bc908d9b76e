use Rattle.std.proofs.Common.{◌≡◌, ◌+◌, ◌++◌, List, [], length, subst, sym, ap, ◌∙◌}
use Rattle.roam_cells.specs.Glyph.{Glyph}
use Rattle.roam_cells.specs.Place.{IsWholeRow, AreUnguarded}
use Rattle.roam_layout.specs.Faces.{face_row, picture_in}
use Rattle.roam_layout.proofs.FaceOver.{length-face_row}
use Rattle.roam_layout.proofs.Listed.{shows_by_number}
use Rattle.roam_layout.proofs.kept.put_row.Goals as goal

-- the line has the row alone
alone : (row now new old : List Glyph) → now ≡ new → new ≡ old ++ row → old ≡ [] → now ≡ row
alone row now new old value added cleared = value ∙ added ∙ ap (λ l. l ++ row) cleared

pub set_row-requires-clause-count : goal.set_row-requires-clause-count
set_row-requires-clause-count g c =
    let s = c.args.layout.now in
    let shots = g.P.Pictures.shots c.args.pictures.now in
    let show = shows_by_number s shots c.facts.ensures.plan c.requires.pictures in
    let line =
    alone (face_row s (picture_in shots) (c.args.row + 1)) c.deref.result.now _ _ c.deref.ensures.value
    (c.in_ok-push_row.ensures.row (picture_in shots) show) c.clear.ensures.items in
    ap length line ∙ length-face_row s (picture_in shots) (c.args.row + 1) ∙ sym c.requires.size.1

pub set_row-requires-clause-whole : goal.set_row-requires-clause-whole
set_row-requires-clause-whole g c =
    let s = c.args.layout.now in
    let shots = g.P.Pictures.shots c.args.pictures.now in
    let show = shows_by_number s shots c.facts.ensures.plan c.requires.pictures in
    let line =
    alone (face_row s (picture_in shots) (c.args.row + 1)) c.deref.result.now _ _ c.deref.ensures.value
    (c.in_ok-push_row.ensures.row (picture_in shots) show) c.clear.ensures.items in
    subst IsWholeRow (sym line) (c.in_ok-push_row.ensures.whole (picture_in shots) show)

pub set_row-requires-clause-unguarded : goal.set_row-requires-clause-unguarded
set_row-requires-clause-unguarded g c =
    let s = c.args.layout.now in
    let shots = g.P.Pictures.shots c.args.pictures.now in
    let show = shows_by_number s shots c.facts.ensures.plan c.requires.pictures in
    let line =
    alone (face_row s (picture_in shots) (c.args.row + 1)) c.deref.result.now _ _ c.deref.ensures.value
    (c.in_ok-push_row.ensures.row (picture_in shots) show) c.clear.ensures.items in
    subst AreUnguarded (sym line) (c.in_ok-push_row.ensures.unguarded (picture_in shots) show)
