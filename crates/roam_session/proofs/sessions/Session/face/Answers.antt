use Rattle.std.proofs.Common.{◌≡◌, ℕ, sym, ap, ◌∙◌, subst}
use Rattle.std.specs.Prelude.{List, Option}
use Rattle.std.proofs.lemmas.Result.{IfOk-weaker}
use Rattle.roam_screens.specs.Screenshot.{Screenshot}
use Rattle.roam_term.specs.Stands.{TermView}
use Rattle.roam_layout.specs.Faces.{KeepsRows, Show, face as face_of}
use Rattle.roam_session.specs.Sessions.{Entry, SessionSize}
use Rattle.roam_session.specs.Faces.{face}
use Rattle.roam_session.specs.Pictures.{shots_of}
use Rattle.roam_session.specs.Stands.{Stands, ArePlaced, IsQuietAt, face_now, shown_by, term_at}
use Rattle.roam_session.proofs.FaceNow.{face_is_now}
use Rattle.roam_session.proofs.KeepingRows.{keeps_alike}
use Rattle.roam_session.proofs.Picturing.{are_there, are_pictures, are_screens, shots_show}
use Rattle.roam_session.proofs.sessions.Session.face.Goals as goal

pub invariant_of-pictures : goal.invariant_of-pictures
invariant_of-pictures c =
    let s = c.self.inside.layout in
    let ts = c.deref.result.now in
    let terms = sym c.deref.ensures.value in
    let placed = subst (ArePlaced s) terms c.self.invariant.placed in
    record {
      there = are_there s ts placed;
      screens =
          are_screens s ts c.facts.ensures.plan placed
          (subst (λ (us : List (Option TermView)). (k : ℕ) → IsQuietAt (term_at us k)) terms c.self.invariant.quiet);
    }

pub face_of-requires : goal.face_of-requires
face_of-requires c =
    let f = c.self.inside in
    let s = f.layout in
    let ts = c.deref.result.now in
    let terms = sym c.deref.ensures.value in
    let plan = c.facts.ensures.plan in
    let are = are_pictures s ts plan (subst (ArePlaced s) terms c.self.invariant.placed) in
    record {
      pictures = are;
      kept = λ picture show.
          keeps_alike s plan (shown_by s ts) picture (shots_of s ts) f.marks f.kept are (shots_show s ts) show
          (subst (λ (us : List (Option TermView)). KeepsRows f.marks f.kept s (shown_by s us)) terms c.self.invariant.kept);
    }

pub returns-clause-now : goal.returns-clause-now
returns-clause-now c =
    let s = c.self.inside.layout in
    let ts = c.deref.result.now in
    IfOk-weaker c.face_of.result (λ shot. (picture : ℕ → Screenshot) → Show picture (shots_of s ts) → shot ≡ face_of s picture)
    (λ shot. shot ≡ face_now c.args.self.now)
    (λ shot is.
    is (shown_by s ts) (shots_show s ts) ∙ ap (λ (us : List (Option TermView)). face_of s (shown_by s us)) c.deref.ensures.value
    ∙ ap face_now c.self.view_is) c.face_of.ensures.face

pub returns-clause-face : goal.returns-clause-face
returns-clause-face c =
    IfOk-weaker c.face_of.result (λ shot. shot ≡ face_now c.args.self.now)
    (λ shot. (size : SessionSize) (log : List Entry) → Stands c.args.self.now size log → shot ≡ face size log)
    (λ shot is size log h. is ∙ face_is_now c.args.self.now size log h) (returns-clause-now c)
