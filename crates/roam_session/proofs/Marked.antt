-- Marks put on row by row.
use Rattle.std.proofs.Common.{◌≡◌, ℕ, ◌+◌, ◌-◌, ◌<◌, Bool, true, false, ◌&&◌, ◌||◌, cond, eqb, leb, ltb, List, length, take, refl, ap, arith}
use Rattle.std.proofs.lemmas.Grind.{common_steps}
use Rattle.std.proofs.lemmas.List.{get_or-take}
use Rattle.roam_grid.specs.Marks.{is_marked, also_marked}
use Rattle.roam_grid.proofs.Marked.{marked_same, no_rows, more_rows}
use Rattle.roam_layout.specs.Rects.{within}
use Rattle.roam_layout.specs.declared.rects.Rect.{Rect}
use Rattle.roam_layout.proofs.Places.{within_range}
use Rattle.roam_session.specs.Marks.{is_touched}

-- those below a row that a test names
abbrev pub upto : ℕ → (ℕ → Bool) → List Bool → List Bool
upto n on marks = also_marked (λ r. leb 0 r && ltb r n && on r) marks

pub upto_none : (marks : List Bool) (on : ℕ → Bool) → length marks ≡ 200 → marks ≡ upto 0 on marks
upto_none marks on len = no_rows marks 0 on len

pub upto_more : (marks : List Bool) (n : ℕ) (on : ℕ → Bool)
    → also_marked (λ r. eqb r n && on n) (upto n on marks) ≡ upto (n + 1) on marks
upto_more marks n on = more_rows marks 0 n on (omega arith)

pub upto_all : (marks : List Bool) (n : ℕ) (on : ℕ → Bool) → n ≡ 200 → upto n on marks ≡ also_marked on marks
upto_all marks n on e = marked_same (λ r. leb 0 r && ltb r n && on r) on marks (λ r h. all r (on r) h)
  where
    all : (r : ℕ) (b : Bool) → r < 200 → (leb 0 r && ltb r n && b) ≡ b
    all r b h = grind (arith, common_steps)

-- a terminal's marks below its rows
pub touched_rows : (x : Rect) (view rows : ℕ) (named marks : List Bool)
    → also_marked (is_touched x view rows (take x.rows named)) marks ≡ also_marked (is_touched x view rows named) marks
touched_rows x view rows named marks =
    marked_same (is_touched x view rows (take x.rows named)) (is_touched x view rows named) marks
    (λ r h. ap (λ (b : Bool). cond (eqb view 0) b (within x.row x.rows (r + 1) || eqb (r + 1) rows)) (by_row r (within x.row x.rows (r + 1)) refl))
  where
    by_row : (r : ℕ) (b : Bool) → within x.row x.rows (r + 1) ≡ b
        → (b && is_marked (take x.rows named) (r + 1 - x.row)) ≡ (b && is_marked named (r + 1 - x.row))
    by_row r true e =
        let range = within_range x.row x.rows (r + 1) e in
        get_or-take x.rows named (r + 1 - x.row) false (omega (arith, range.0, range.1))
    by_row r false e = refl
