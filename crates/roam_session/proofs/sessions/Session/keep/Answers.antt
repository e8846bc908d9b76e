use Rattle.std.proofs.Common.{◌≡◌, sym, ap, ◌∙◌, subst}
use Rattle.roam_screens.specs.Screenshot.{Screenshot}
use Rattle.roam_grid.specs.Marks.{all_off}
use Rattle.roam_layout.specs.Faces.{KeepsRows}
use Rattle.roam_session.specs.Stands.{SessionView, face_now, shown_by}
use Rattle.roam_session.proofs.KeepingRows.{face_kept}
use Rattle.roam_session.proofs.sessions.Session.keep.Goals as goal

pub invariant_of-self : goal.invariant_of-self
unfolding all_off
invariant_of-self c =
    let f = c.self.inside in
    let plan = f.layout in
    let face : c.args.shot ≡ face_now (record { plan = plan; terms = f.terms.items; marks = f.marks; kept = f.kept; generations = f.generations }) =
    c.requires.face ∙ ap face_now (sym c.self.view_is) in
    record {
      ten = c.self.invariant.ten;
      placed = c.self.invariant.placed;
      quiet = c.self.invariant.quiet;
      kept = subst (λ (s : Screenshot). KeepsRows all_off s plan (shown_by plan f.terms.items)) (sym face) (face_kept plan (shown_by plan f.terms.items));
    }

pub returns : goal.returns
unfolding all_off
returns c = record { kept = ap (λ (s : SessionView). record s { marks = all_off; kept = c.args.shot }) c.self.view_is }
