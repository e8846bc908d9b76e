use Rattle.std.proofs.Common.{◌≡◌, ℕ, ◌<◌, ◌++◌, List, true, get_or, sym, ap, ◌∙◌, subst}
use Rattle.std.specs.Prelude.{IfOk}
use Rattle.roam_cells.specs.Place.{row_of}
use Rattle.roam_screens.specs.Screenshot.{Screenshot}
use Rattle.roam_layout.specs.Trees.{has}
use Rattle.roam_layout.specs.declared.rects.Rect.{Rect}
use Rattle.roam_session.specs.Stands.{shown_by}
use Rattle.roam_session.proofs.Picturing.{pane_there, shot_at}
use Rattle.roam_session.proofs.pictures.push_row_at.Goals as goal

pub push_row-requires : goal.push_row-requires
push_row-requires c =
    let s = c.args.layout.now in
    let k = c.args.index in
    let d : ℕ × Rect = (0, record { row = 0; col = 0; rows = 0; cols = 0 }) in
    let rects = sym c.rects.ensures.rects in
    record {
      pane = subst (λ (l : List (ℕ × Rect)). has (get_or l k d).0 s.tree ≡ true) rects (pane_there s c.facts.ensures.plan k d c.requires.index);
      there = c.requires.there;
      row = subst (λ (l : List (ℕ × Rect)). c.args.row < (shown_by s c.args.terms.now (get_or l k d).0).rows) rects
          (subst (λ (shot : Screenshot). c.args.row < shot.rows) (shot_at s c.args.terms.now k d c.requires.index) c.requires.row);
    }

pub returns : goal.returns
returns c =
    let s = c.args.layout.now in
    let k = c.args.index in
    let ts = c.args.terms.now in
    let d : ℕ × Rect = (0, record { row = 0; col = 0; rows = 0; cols = 0 }) in
    let same : shown_by s ts (get_or c.rects.result.now k d).0 ≡ _ =
    ap (λ (l : List (ℕ × Rect)). shown_by s ts (get_or l k d).0) c.rects.ensures.rects ∙ sym (shot_at s ts k d c.requires.index) in
    record {
      row = subst (λ (shot : Screenshot). IfOk c.push_row.result (λ _. c.push_row.new.cells.items ≡ c.args.cells.now.items
          ++ row_of shot.cols shot.cells c.args.row)) same c.push_row.ensures.row;
    }
