-- The face now: that of the log that a session models, and the part of it that the kept face has.
use Rattle.std.proofs.Common.{◌≡◌, ℕ, Bool, false, List, Option, Some, None, take, refl, sym, ap, ◌∙◌, subst, arith}
use Rattle.std.specs.Prelude.{slice_index}
use Rattle.std.proofs.lemmas.List.{get_or-take}
use Rattle.roam_cells.specs.Limits.{IsSize}
use Rattle.roam_screens.specs.Screenshot.{Screenshot}
use Rattle.roam_term.specs.Stands.{TermView}
use Rattle.roam_layout.specs.Layouts.{Plan, IsPlan}
use Rattle.roam_layout.specs.Faces.{face as face_of}
use Rattle.roam_layout.proofs.FaceOver.{face_rows}
use Rattle.roam_session.specs.Faces.{picture_at, face}
use Rattle.roam_session.specs.Panes.{Pane}
use Rattle.roam_session.specs.Sessions.{Entry, SessionSize, session}
use Rattle.roam_session.specs.Stands.{SessionView, IsSession, Stands, Agrees, KeptIn, face_now, shown_at, shown_by, term_at}
use Rattle.roam_session.proofs.Quiet.{shows_now}

shown_is : (view : ℕ) (o : Option TermView) (p : Option Pane) → Agrees o p → shown_at view o ≡ picture_at view p
shown_is view None None of = refl
shown_is view None (Some p) of = absurd of
shown_is view (Some t) None of = absurd of
shown_is view (Some t) (Some p) of = shows_now t p.rows p.cols 500 p.log view of.stands

pub face_is_now : (s : SessionView) (size : SessionSize) (log : List Entry) → Stands s size log → face_now s ≡ face size log
unfolding face
face_is_now s size log h =
    let d = session size log in
    ap (λ (p : Plan). face_of p (shown_by p s.terms)) h.plan
    ∙ (λ i. face_of d.plan (λ k. shown_is (slice_index d.plan.views k) (term_at s.terms k) (d.pane k) (h.panes k) i))

kept_now : (s : SessionView) → IsSession s → KeptIn s.kept (face_now s) s.plan.rows (take s.plan.rows s.marks)
kept_now s is r low off =
    is.kept r low (sym (get_or-take s.plan.rows s.marks r false low) ∙ off) ∙ sym (face_rows s.plan (shown_by s.plan s.terms) r low)

-- rows without a mark are in the kept face as in that of the log
pub kept_rows : (s : SessionView) (marks : List Bool) (size : SessionSize) (log : List Entry) → IsSession s → marks ≡ take s.plan.rows s.marks
    → Stands s size log → KeptIn s.kept (face size log) s.plan.rows marks
kept_rows s marks size log is e h =
    subst (λ (shot : Screenshot). KeptIn s.kept shot s.plan.rows marks) (face_is_now s size log h)
    (subst (KeptIn s.kept (face_now s) s.plan.rows) (sym e) (kept_now s is))

-- ---- sizes

-- the size of a layout is that of a screen
pub screen_size : (s : Plan) → IsPlan s → IsSize s.rows s.cols
screen_size s is = record {
  least_rows = omega (arith, is.size.0);
  most_rows = is.size.1;
  least_columns = omega (arith, is.size.2);
  most_columns = is.size.3;
}
