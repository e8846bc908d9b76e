use Rattle.std.proofs.Common.{◌≡◌, ℕ, Bool, true, false, Option, Some, None, if◌then◌else◌, refl, sym, ap, ◌∙◌}
use Rattle.std.specs.Prelude.{List, slice_index}
use Rattle.roam_screens.specs.Screenshot.{Screenshot}
use Rattle.roam_term.specs.Picture.{picture_of}
use Rattle.roam_term.specs.Stands.{TermView}
use Rattle.roam_layout.specs.Trees.{has}
use Rattle.roam_layout.specs.Layouts.{Plan}
use Rattle.roam_layout.specs.Faces.{picture_in}
use Rattle.roam_session.specs.Pictures.{shots_of}
use Rattle.roam_session.specs.Stands.{shown_at, term_at}
use Rattle.roam_session.proofs.Picturing.{shot_of, no_shot_of}
use Rattle.roam_session.proofs.pictures.cursor.Goals as goal

viewed : (there : Bool) (n v : ℕ) → Some v ≡ (if there then Some n else None) → (there ≡ true) × (v ≡ n)
viewed true n v e = (refl, cc)
viewed false n v e = cc

unviewed : (there : Bool) (n : ℕ) → None ≡ (if there then Some n else None) → there ≡ false
unviewed true n e = cc
unviewed false n e = refl

-- the picture of a pane that has a view
here : (s : Plan) (ts : List (Option TermView)) (p v : ℕ) (t : TermView) → Some v ≡ (if has p s.tree then Some (slice_index s.views p) else None)
    → term_at ts p ≡ Some t → picture_of t.live t.history v ≡ picture_in (shots_of s ts) p
here s ts p v t view term =
    let is = viewed (has p s.tree) (slice_index s.views p) v view in
    ap (λ n. shown_at n (Some t)) is.1 ∙ ap (shown_at (slice_index s.views p)) (sym term) ∙ sym (shot_of s ts p is.0)

pub returns-in-Some-clause-row : goal.returns-in-Some-clause-row
returns-in-Some-clause-row c =
    c.cursor_at.ensures.row
    ∙ ap (λ (x : Screenshot). x.cursor_row) (here c.args.layout.now c.args.terms.now c.args.pane _ _ c.in-Some.ensures.view c.term_of.ensures.term)

pub returns-in-Some-clause-col : goal.returns-in-Some-clause-col
returns-in-Some-clause-col c =
    c.cursor_at.ensures.col
    ∙ ap (λ (x : Screenshot). x.cursor_col) (here c.args.layout.now c.args.terms.now c.args.pane _ _ c.in-Some.ensures.view c.term_of.ensures.term)

pub returns-in-Some-clause-visible : goal.returns-in-Some-clause-visible
returns-in-Some-clause-visible c =
    c.cursor_at.ensures.visible
    ∙ ap (λ (x : Screenshot). x.visible) (here c.args.layout.now c.args.terms.now c.args.pane _ _ c.in-Some.ensures.view c.term_of.ensures.term)

pub returns-in-None-clause-row : goal.returns-in-None-clause-row
returns-in-None-clause-row c =
    let s = c.args.layout.now in
    let p = c.args.pane in
    ap (λ (x : Screenshot). x.cursor_row)
    (sym (no_shot_of s c.args.terms.now p (unviewed (has p s.tree) (slice_index s.views p) c.in-None.ensures.view)))

pub returns-in-None-clause-col : goal.returns-in-None-clause-col
returns-in-None-clause-col c =
    let s = c.args.layout.now in
    let p = c.args.pane in
    ap (λ (x : Screenshot). x.cursor_col)
    (sym (no_shot_of s c.args.terms.now p (unviewed (has p s.tree) (slice_index s.views p) c.in-None.ensures.view)))

pub returns-in-None-clause-visible : goal.returns-in-None-clause-visible
returns-in-None-clause-visible c =
    let s = c.args.layout.now in
    let p = c.args.pane in
    ap (λ (x : Screenshot). x.visible)
    (sym (no_shot_of s c.args.terms.now p (unviewed (has p s.tree) (slice_index s.views p) c.in-None.ensures.view)))
