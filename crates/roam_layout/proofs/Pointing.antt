-- Where the face's cursor is.
use Rattle.std.proofs.Common.{◌≡◌, ℕ, ◌+◌, ◌-◌, ◌≤◌, Bool, true, List, refl, subst, ap, ◌∙◌, arith}
use Rattle.std.specs.List.{All}
use Rattle.std.proofs.lemmas.Bool.{eqb-true, cond_both}
use Rattle.roam_screens.specs.Screenshot.{Screenshot, IsScreenshot, IsPlace}
use Rattle.roam_layout.specs.Trees.{Shape, One, Two, has}
use Rattle.roam_layout.specs.Rects.{rects_of, spot, first_length, first_part, second_part, front, part, Fits}
use Rattle.roam_layout.specs.Layouts.{Plan, IsPlan, area, panes}
use Rattle.roam_layout.specs.Faces.{face, focus_rect, picture_in, ArePictures, Show}
use Rattle.roam_layout.proofs.Covering.{across_in, down_in}
use Rattle.roam_layout.proofs.Segments.{IsPictured, ArePictured, pictured_parts}
use Rattle.roam_layout.specs.declared.rects.Way.TheVariants.{Right, Down}
use Rattle.roam_layout.specs.declared.rects.Rect.{Rect}
use Rattle.roam_layout.proofs.Listed.{pictured_from, right_of_or, shows_by_number, focus_listed}

-- ---- the cursor

-- a rectangle within another
pub record IsPart (x y : Rect) : Type 0 where
  pub top : y.row ≤ x.row
  pub bottom : x.row + x.rows ≤ y.row + y.rows
  pub left : y.col ≤ x.col
  pub right : x.col + x.cols ≤ y.col + y.cols

part_of : (x y z : Rect) → IsPart x y → IsPart y z → IsPart x z
part_of x y z p q = record {
  top = omega (arith, p.top, q.top);
  bottom = omega (arith, p.bottom, q.bottom);
  left = omega (arith, p.left, q.left);
  right = omega (arith, p.right, q.right);
}

pub spot_in : (p : ℕ) (t : Shape) (x : Rect) → Fits t x → IsPart (spot p t x) x
spot_in p (One q) x fits = record { top = omega arith; bottom = omega arith; left = omega arith; right = omega arith }
spot_in p (Two Right g a b) x fits =
    let n = first_length Right g a b x in
    let bounds = across_in g a b x fits in
    let first : IsPart (front Right n x) x = record {
      top = omega arith;
      bottom = omega arith;
      left = omega arith;
      right = omega
          (arith, bounds.1);
    } in
    let second : IsPart (part Right (n + 1) (x.cols - n - 1) x) x = record {
      top = omega arith;
      bottom = omega arith;
      left = omega
          arith;
      right = omega (arith, bounds.1);
    } in
    let one = part_of (spot p a (front Right n x)) (front Right n x) x
    (spot_in p a (front Right n x) (omega (arith, fits.0), bounds.0)) first in
    let two = part_of (spot p b (part Right (n + 1) (x.cols - n - 1) x)) (part Right (n + 1) (x.cols - n - 1) x) x
    (spot_in p b (part Right (n + 1) (x.cols - n - 1) x) (omega (arith, fits.0), omega (arith, bounds.1))) second in
    cond_both (has p a) (spot p a (front Right n x)) (spot p b (part Right (n + 1) (x.cols - n - 1) x)) (λ (y : Rect). IsPart y x)
    (λ _. one) (λ _. two)
spot_in p (Two Down g a b) x fits =
    let n = first_length Down g a b x in
    let bounds = down_in g a b x fits in
    let first : IsPart (front Down n x) x = record {
      top = omega arith;
      bottom = omega
          (arith, bounds.1);
      left = omega arith;
      right = omega arith;
    } in
    let second : IsPart (part Down (n + 1) (x.rows - n - 1) x) x = record {
      top = omega arith;
      bottom = omega
          (arith, bounds.1);
      left = omega arith;
      right = omega arith;
    } in
    let one = part_of (spot p a (front Down n x)) (front Down n x) x (spot_in p a (front Down n x)
    (bounds.0, omega (arith, fits.1))) first in
    let two = part_of (spot p b (part Down (n + 1) (x.rows - n - 1) x)) (part Down (n + 1) (x.rows - n - 1) x) x
    (spot_in p b (part Down (n + 1) (x.rows - n - 1) x) (omega (arith, bounds.1), omega (arith, fits.1))) second in
    cond_both (has p a) (spot p a (front Down n x)) (spot p b (part Down (n + 1) (x.rows - n - 1) x)) (λ (y : Rect). IsPart y x)
    (λ _. one) (λ _. two)

pub spot_pictured : (picture : ℕ → Screenshot) (p : ℕ) (t : Shape) (x : Rect) → ArePictured picture (rects_of t x) → has p t ≡ true
    → IsPictured picture p (spot p t x)
spot_pictured picture p (One q) x are is = subst (λ n. IsPictured picture n x) (eqb-true q p is) are.0
spot_pictured picture p (Two w g a b) x are is =
    let parts = pictured_parts picture (rects_of a (first_part w g a b x)) (rects_of b (second_part w g a b x)) are in
    let one = spot_pictured picture p a (first_part w g a b x) parts.0 in
    let two = spot_pictured picture p b (second_part w g a b x) parts.1 in
    cond_both (has p a) (spot p a (first_part w g a b x)) (spot p b (second_part w g a b x)) (λ (y : Rect). IsPictured picture p y) one
    (λ e. two (right_of_or (has p a) (has p b) e is))

-- the cursor is on the screen
pub cursor_place : (s : Plan) (picture : ℕ → Screenshot) → IsPlan s → ArePictured picture (panes s)
    → IsPlace s.rows s.cols (face s picture).cursor_row (face s picture).cursor_col
cursor_place s picture plan are =
    let is = spot_pictured picture s.focus s.tree (area s.rows s.cols) are plan.focus in
    let in' = spot_in s.focus s.tree (area s.rows s.cols) plan.fits in
    let at = is.shot.cursor in
    record {
      row_from = omega (arith, in'.top, at.row_from);
      row_to = omega (arith, in'.bottom, at.row_to, is.rows, plan.size.0);
      col_from = omega (arith, in'.left, at.col_from);
      col_to = omega (arith, in'.right, at.col_to, is.cols, at.col_from);
    }

-- the cursor that is found by number
module _ (s : Plan) (ss : List (ℕ × Screenshot)) (plan : IsPlan s) (same : ArePictures (panes s) ss)
    (are : All (λ (x : ℕ × Screenshot). IsScreenshot x.1) ss) (rect : Rect)
    (p row col : ℕ) (rect_is : rect ≡ focus_rect s) (p_is : p ≡ s.focus) (row_is : row ≡ (picture_in ss p).cursor_row)
    (col_is : col ≡ (picture_in ss p).cursor_col) where
  pub listed_place : IsPlace s.rows s.cols (rect.row + row - 1) (rect.col + col - 1)
  listed_place =
      let picture = picture_in ss in
      let here = cursor_place s picture plan (pictured_from picture (panes s) ss same (shows_by_number s ss plan same) are) in
      rw (rect_is, row_is, col_is, p_is) here

  module _ (picture : ℕ → Screenshot) (show : Show picture ss) where
    pub listed_row : rect.row + row - 1 ≡ (face s picture).cursor_row
    listed_row = rw (rect_is, row_is, p_is, focus_listed s picture ss plan same show) refl

    pub listed_col : rect.col + col - 1 ≡ (face s picture).cursor_col
    listed_col = rw (rect_is, col_is, p_is, focus_listed s picture ss plan same show) refl

    pub listed_visible : (v : Bool) → v ≡ (picture_in ss p).visible → v ≡ (face s picture).visible
    listed_visible v e = e ∙ ap (λ n. (picture_in ss n).visible) p_is ∙ ap (λ (x : Screenshot). x.visible)
        (focus_listed s picture ss plan same show)
