-- Rows without a mark are in the kept face as the session shows them, after each call.
use Rattle.std.proofs.Common.{◌≡◌, ℕ, ◌+◌, ◌-◌, ◌<◌, ◌≤◌, Bool, true, false, ◌&&◌, ◌||◌, cond, eqb, List, Option, Some, None, refl, sym, ap, ◌∙◌, subst, arith}
use Rattle.std.specs.Prelude.{slice_index}
use Rattle.std.proofs.lemmas.Bool.{eqb-true, eq-eqb, false≢true, and_parts}
use Rattle.roam_acts.specs.declared.acts.Act.{Act}
use Rattle.roam_acts.specs.declared.acts.Act.TheVariants.{View}
use Rattle.roam_cells.specs.Place.{row_of}
use Rattle.roam_screens.specs.Screenshot.{Screenshot}
use Rattle.roam_grid.specs.Marks.{is_marked, all_off, all_on, also_marked}
use Rattle.roam_grid.proofs.Marked.{marked_at}
use Rattle.roam_grid.proofs.Named.{all_marked}
use Rattle.roam_term.specs.Picture.{picture_of}
use Rattle.roam_term.specs.Stands.{TermView, HasSize}
use Rattle.roam_layout.specs.Trees.{has}
use Rattle.roam_layout.specs.Rects.{rect_in, within, inside, hits}
use Rattle.roam_layout.specs.Layouts.{Plan, IsPlan, Laid, outcome_of, area, panes, edges}
use Rattle.roam_layout.specs.Faces.{first_with_place, cell_in, face_row, face, ArePictures, Show, KeepsRows}
use Rattle.roam_layout.specs.declared.rects.Rect.{Rect}
use Rattle.roam_layout.proofs.Covering.{covered}
use Rattle.roam_layout.proofs.FaceOver.{face_rows}
use Rattle.roam_layout.proofs.Listed.{pane_listed}
use Rattle.roam_layout.proofs.Places.{within_range}
use Rattle.roam_session.specs.Marks.{view_in, is_touched, touched_marks, loses_pane, loses_border, is_shown_anew, is_relaid, is_concerned, has_row}
use Rattle.roam_session.specs.Panes.{is_same_size}
use Rattle.roam_session.specs.Stands.{IsPlaced, ArePlaced, IsQuiet, IsQuietAt, shown_at, shown_by, term_at}
use Rattle.roam_session.specs.Steps.{IsGiven}
use Rattle.roam_session.specs.Queues.{ChangesAt, IsFed}
use Rattle.roam_session.proofs.Found.{found_is, found_same, pane_stays, border_stays, in_at, or_none}
use Rattle.roam_session.proofs.FaceRows.{row_same, status_same, cell_of_row}
use Rattle.roam_session.proofs.Picturing.{pane_there}
use Rattle.roam_session.proofs.Quiet.{read_rows}
use Rattle.roam_session.proofs.Rectangles.{found_by_number}
use Rattle.roam_session.proofs.SamePlans.{IsUnviewed, same_plan}

-- ---- marks

-- a row without a mark had none, and isn't named
pub unmarked : (names : ℕ → Bool) (marks : List Bool) (r : ℕ) → r < 200 → is_marked (also_marked names marks) r ≡ false
    → (is_marked marks r ≡ false) × (names r ≡ false)
unmarked names marks r low off = or_none (is_marked marks r) (names r) (sym (marked_at names marks r low) ∙ off)

untouched : (o : Option Rect) (v : Option ℕ) (rows : ℕ) (named marks : List Bool) (r : ℕ) → r < 200
    → is_marked (touched_marks o v rows named marks) r ≡ false → is_marked marks r ≡ false
untouched None v rows named marks r low off = off
untouched (Some x) None rows named marks r low off = off
untouched (Some x) (Some view) rows named marks r low off = (unmarked (is_touched x view rows named) marks r low off).0

pub all_kept : (kept : Screenshot) (plan : Plan) (picture : ℕ → Screenshot) → plan.rows ≤ 200 → KeepsRows all_on kept plan picture
all_kept kept plan picture few r low off = absurd (false≢true (sym off ∙ all_marked r (omega (arith, few, low))))

pub face_kept : (plan : Plan) (picture : ℕ → Screenshot) → KeepsRows all_off (face plan picture) plan picture
face_kept plan picture r low off = face_rows plan picture r low

-- ---- the panes of a layout

-- the entry found in a row is a pane of the layout, by its number
record IsPane (s : Plan) (r c : ℕ) (x : ℕ × Rect) : Type 0 where
  rect : rect_in x.0 (panes s) ≡ Some x.1
  there : has x.0 s.tree ≡ true
  row : within x.1.row x.1.rows r ≡ true
  col : within x.1.col x.1.cols c ≡ true

pane_of : (s : Plan) (r c : ℕ) (x : ℕ × Rect) → IsPlan s → first_with_place r c (panes s) ≡ Some x → IsPane s r c x
pane_of s r c x is e =
    let f = found_is r c x (panes s) e in
    let at = in_at x (panes s) x f.there in
    let parts = and_parts (within x.1.row x.1.rows r) (within x.1.col x.1.cols c) f.has in
    record {
      rect =
          subst (λ (y : ℕ × Rect). rect_in y.0 (panes s) ≡ Some y.1) at.2 (found_by_number s is at.0 x at.1);
      there = subst (λ (y : ℕ × Rect). has y.0 s.tree ≡ true) at.2 (pane_there s is at.0 x at.1);
      row = parts.0;
      col = parts.1;
    }

-- ---- lists of pictures

-- functions that show the pictures of a list make the same rows of the face
shown_alike : (s : Plan) → IsPlan s → (p q : ℕ → Screenshot) (ss : List (ℕ × Screenshot)) → ArePictures (panes s) ss → Show p ss → Show q ss
    → (r : ℕ) → face_row s q r ≡ face_row s p r
shown_alike s is p q ss are show_p show_q r = by_row (eqb r s.rows) refl
  where
    by_row : (b : Bool) → eqb r s.rows ≡ b → face_row s q r ≡ face_row s p r
    by_row true e = status_same s p q r e
    by_row false e =
        row_same s s p q r refl refl e (λ c. refl) (λ c. refl)
        (λ c x f. let there = (pane_of s r c x is f).there in
        ap (λ shot. cell_in x.1 shot r c) (sym (pane_listed s q x.0 ss are show_q there) ∙ pane_listed s p x.0 ss are show_p there))

pub keeps_alike : (s : Plan) → IsPlan s → (p q : ℕ → Screenshot) (ss : List (ℕ × Screenshot)) (marks : List Bool) (kept : Screenshot)
    → ArePictures (panes s) ss → Show p ss → Show q ss → KeepsRows marks kept s p → KeepsRows marks kept s q
keeps_alike s is p q ss marks kept are show_p show_q keeps r low off =
    keeps r low off ∙ sym (shown_alike s is p q ss are show_p show_q (r + 1))

-- ---- bytes

module _ (x : Rect) (view rows r c : ℕ) (bytes : List ℕ) (plan : Plan) (p : ℕ) (before after : List Bool) (t u : TermView)
    (fed : IsFed bytes plan p before after t u) (quiet : IsQuiet t) (size : HasSize t x.rows x.cols)
    (row : within x.row x.rows (r + 1) ≡ true) (col : within x.col x.cols c ≡ true)
    (off : is_touched x view rows fed.read.marks r ≡ false) where
  read_cell : cell_in x (shown_at view (Some u)) (r + 1) c ≡ cell_in x (shown_at view (Some t)) (r + 1) c
  read_cell = by_view (eqb view 0) refl off
    where
      by_view : (b : Bool) → eqb view 0 ≡ b
          → cond b (within x.row x.rows (r + 1) && is_marked fed.read.marks (r + 1 - x.row)) (within x.row x.rows (r + 1) || eqb (r + 1) rows) ≡ false
          → cell_in x (shown_at view (Some u)) (r + 1) c ≡ cell_in x (shown_at view (Some t)) (r + 1) c
      by_view true e h =
          let k = r + 1 - x.row in
          let range = within_range x.row x.rows (r + 1) row in
          let across = within_range x.col x.cols c col in
          let named : is_marked fed.read.marks k ≡ false = sym (ap (λ b. b && is_marked fed.read.marks k) row) ∙ h in
          let low : k < fed.read.live.screen.rows = omega (arith, range.0, range.1, size.0, fed.size.0) in
          let same = read_rows bytes t fed.read k quiet fed.fed low named in
          subst (λ (v : TermView). cell_in x (picture_of v.live v.history view) (r + 1) c ≡ cell_in x (picture_of t.live t.history view) (r + 1) c)
          (sym fed.quiet)
          (subst (λ (n : ℕ). cell_in x (picture_of fed.read.live fed.read.history n) (r + 1) c ≡ cell_in x (picture_of t.live t.history n) (r + 1) c)
          (sym (eqb-true view 0 e))
          (cell_of_row k (c - x.col) (picture_of t.live t.history 0) (picture_of fed.read.live fed.read.history 0) same
          (omega (arith, across.0, across.1, size.1))))
      by_view false e h = absurd (false≢true (sym h ∙ ap (λ b. b || eqb (r + 1) rows) row))

module _ (plan : Plan) (is : IsPlan plan) (p : ℕ) (bytes : List ℕ) (before after : List Bool) (ts us : List (Option TermView)) (kept : Screenshot)
    (placed : ArePlaced plan ts) (quiet : (k : ℕ) → IsQuietAt (term_at ts k))
    (changes : ChangesAt p (IsFed bytes plan p before after) ts us) (keeps : KeepsRows before kept plan (shown_by plan ts)) where
  module _ (t u : TermView) (t_is : term_at ts p ≡ Some t) (u_is : term_at us p ≡ Some u) (fed : IsFed bytes plan p before after t u) where
    here_off : (r c : ℕ) (x : Rect) → r < plan.rows → IsPane plan (r + 1) c (p, x) → is_marked after r ≡ false
        → is_touched x (slice_index plan.views p) plan.rows fed.read.marks r ≡ false
    here_off r c x low pane off =
        let view : view_in plan p ≡ Some (slice_index plan.views p) = ap (λ b. cond b (Some (slice_index plan.views p)) None) pane.there in
        (unmarked (is_touched x (slice_index plan.views p) plan.rows fed.read.marks) before r (omega (arith, low, is.size.1))
        (sym (ap (λ m. is_marked m r)
        (fed.marks ∙ ap (λ o. touched_marks o (view_in plan p) plan.rows fed.read.marks before) pane.rect
        ∙ ap (λ o. touched_marks (Some x) o plan.rows fed.read.marks before) view)) ∙ off)).1

    here : (r c : ℕ) (x : Rect) → r < plan.rows → IsPane plan (r + 1) c (p, x) → is_marked after r ≡ false
        → cell_in x (shown_by plan us p) (r + 1) c ≡ cell_in x (shown_by plan ts p) (r + 1) c
    here r c x low pane off =
        let view = slice_index plan.views p in
        let size : IsPlaced (Some x) (Some t) =
        subst (λ (o : Option TermView). IsPlaced (Some x) o) t_is (subst (λ (o : Option Rect). IsPlaced o (term_at ts p)) pane.rect (placed p)) in
        ap (λ o. cell_in x (shown_at view o) (r + 1) c) u_is
        ∙ read_cell x view plan.rows r c bytes plan p before after t u fed (subst IsQuietAt t_is (quiet p)) size pane.row pane.col
        (here_off r c x low pane off)
        ∙ sym (ap (λ o. cell_in x (shown_at view o) (r + 1) c) t_is)

    cell : (r c : ℕ) (x : ℕ × Rect) → r < plan.rows → IsPane plan (r + 1) c x → is_marked after r ≡ false
        → cell_in x.1 (shown_by plan us x.0) (r + 1) c ≡ cell_in x.1 (shown_by plan ts x.0) (r + 1) c
    cell r c x low pane off = by_number (eqb x.0 p) refl
      where
        by_number : (b : Bool) → eqb x.0 p ≡ b → cell_in x.1 (shown_by plan us x.0) (r + 1) c ≡ cell_in x.1 (shown_by plan ts x.0) (r + 1) c
        by_number true e =
            let same = eqb-true x.0 p e in
            subst (λ (k : ℕ). cell_in x.1 (shown_by plan us k) (r + 1) c ≡ cell_in x.1 (shown_by plan ts k) (r + 1) c) (sym same)
            (here r c x.1 low (subst (λ (k : ℕ). IsPane plan (r + 1) c (k, x.1)) same pane) off)
        by_number false e =
            ap (λ o. cell_in x.1 (shown_at (slice_index plan.views x.0) o) (r + 1) c)
            (changes.others x.0 (λ same. false≢true (sym e ∙ eq-eqb x.0 p same)))

    pub fed_keeps : KeepsRows after kept plan (shown_by plan us)
    fed_keeps r low off =
        let few : r < 200 = omega (arith, low, is.size.1) in
        let old = untouched (rect_in p (panes plan)) (view_in plan p) plan.rows fed.read.marks before r few
        (sym (ap (λ m. is_marked m r) fed.marks) ∙ off) in
        keeps r low old ∙ sym (by_row (eqb (r + 1) plan.rows) refl)
      where
        by_row : (b : Bool) → eqb (r + 1) plan.rows ≡ b → face_row plan (shown_by plan us) (r + 1) ≡ face_row plan (shown_by plan ts) (r + 1)
        by_row true e = status_same plan (shown_by plan ts) (shown_by plan us) (r + 1) e
        by_row false e =
            row_same plan plan (shown_by plan ts) (shown_by plan us) (r + 1) refl refl e (λ c. refl) (λ c. refl)
            (λ c x f. cell r c x low (pane_of plan (r + 1) c x is f) off)

-- ---- layout commands

same_rect_size : (x : Rect) → is_same_size x x ≡ true
same_rect_size x = ap (λ b. b && eqb x.cols x.cols) (eq-eqb x.rows x.rows refl) ∙ eq-eqb x.cols x.cols refl

given_same : (x : Rect) (o n : Option TermView) → IsGiven (Some x) (Some x) o n → n ≡ o
given_same x None None is = refl
given_same x None (Some new) is = absurd is
given_same x (Some old) None is = absurd is
given_same x (Some old) (Some new) is = ap Some (is.stays (same_rect_size x))

few_hits : (s : Plan) → IsPlan s → (r c : ℕ) → (hits r c (panes s) ≤ 1) × (hits r c (edges s) ≤ 1)
few_hits s is r c =
    let all = covered s.tree (area s.rows s.cols) is.fits r c in
    let one = once_low (inside r c (area s.rows s.cols)) in
    (omega (arith, all, one), omega (arith, all, one))
  where
    once_low : (b : Bool) → cond b 1 0 ≤ 1
    once_low true = omega arith
    once_low false = omega arith

unviewed : (act : Act) (t : Plan) (r : ℕ) (x : ℕ × Rect) → rect_in x.0 (panes t) ≡ Some x.1 → within x.1.row x.1.rows r ≡ true
    → is_shown_anew act t r ≡ false → IsUnviewed act t x.0
unviewed (View d) t r x rect row off =
    λ same. false≢true (sym off ∙ ap (λ k. has_row (rect_in k (panes t)) r) (sym same) ∙ ap (λ o. has_row o r) rect ∙ row)
unviewed act t r x rect row off = tt

module _ (act : Act) (old new : Plan) (is_old : IsPlan old) (is_new : IsPlan new) (e : outcome_of old act ≡ Laid new)
    (ts us : List (Option TermView)) (kept : Screenshot) (marks : List Bool)
    (given : (k : ℕ) → IsGiven (rect_in k (panes old)) (rect_in k (panes new)) (term_at ts k) (term_at us k))
    (keeps : KeepsRows marks kept old (shown_by old ts)) where
  module _ (r : ℕ) (low : r < new.rows) (off : is_concerned act old new r ≡ false) where
    first : ((eqb (r + 1) new.rows || is_shown_anew act new (r + 1)) ≡ false) × (is_relaid old new (r + 1) ≡ false)
    first = or_none (eqb (r + 1) new.rows || is_shown_anew act new (r + 1)) (is_relaid old new (r + 1)) off

    calm : (eqb (r + 1) new.rows ≡ false) × (is_shown_anew act new (r + 1) ≡ false)
    calm = or_none (eqb (r + 1) new.rows) (is_shown_anew act new (r + 1)) first.0

    abbrev gone : Bool
    gone = loses_pane (r + 1) (panes old) (panes new)

    abbrev come : Bool
    come = loses_pane (r + 1) (panes new) (panes old)

    abbrev gone' : Bool
    gone' = loses_border (r + 1) (edges old) (edges new)

    abbrev come' : Bool
    come' = loses_border (r + 1) (edges new) (edges old)

    three : ((gone || come || gone') ≡ false) × (come' ≡ false)
    three = or_none (gone || come || gone') come' first.1

    two : ((gone || come) ≡ false) × (gone' ≡ false)
    two = or_none (gone || come) gone' three.0

    one : (gone ≡ false) × (come ≡ false)
    one = or_none gone come two.0

    same_panes : (c : ℕ) → first_with_place (r + 1) c (panes new) ≡ first_with_place (r + 1) c (panes old)
    same_panes c =
        found_same (r + 1) c (panes old) (panes new) (few_hits old is_old (r + 1) c).0 (few_hits new is_new (r + 1) c).0
        (λ x i h. pane_stays (r + 1) (panes old) (panes new) one.0 x i h) (λ x i h. pane_stays (r + 1) (panes new) (panes old) one.1 x i h)

    same_edges : (c : ℕ) → first_with_place (r + 1) c (edges new) ≡ first_with_place (r + 1) c (edges old)
    same_edges c =
        found_same (r + 1) c (edges old) (edges new) (few_hits old is_old (r + 1) c).1 (few_hits new is_new (r + 1) c).1
        (λ x i h. border_stays (r + 1) (edges old) (edges new) two.1 x i h) (λ x i h. border_stays (r + 1) (edges new) (edges old) three.1 x i h)

    shown_same : (c : ℕ) (x : ℕ × Rect) → first_with_place (r + 1) c (panes old) ≡ Some x → shown_by new us x.0 ≡ shown_by old ts x.0
    shown_same c x f =
        let a = pane_of old (r + 1) c x is_old f in
        let b = pane_of new (r + 1) c x is_new (same_panes c ∙ f) in
        let term : term_at us x.0 ≡ term_at ts x.0 =
        given_same x.1 (term_at ts x.0) (term_at us x.0)
        (subst (λ (o : Option Rect). IsGiven (Some x.1) o (term_at ts x.0) (term_at us x.0)) b.rect
        (subst (λ (o : Option Rect). IsGiven o (rect_in x.0 (panes new)) (term_at ts x.0) (term_at us x.0)) a.rect (given x.0))) in
        let view = (same_plan act old new e).views x.0 a.there (unviewed act new (r + 1) x b.rect b.row calm.1) in
        ap (λ v. shown_at v (term_at us x.0)) view ∙ ap (shown_at (slice_index old.views x.0)) term

    same_row : face_row new (shown_by new us) (r + 1) ≡ face_row old (shown_by old ts) (r + 1)
    same_row =
        let size = (same_plan act old new e).size (r + 1) calm.1 in
        row_same old new (shown_by old ts) (shown_by new us) (r + 1) size.0 size.1 (sym (ap (eqb (r + 1)) size.0) ∙ calm.0) same_panes same_edges
        (λ c x f. ap (λ s. cell_in x.1 s (r + 1) c) (shown_same c x f))

  pub laid_keeps : KeepsRows (also_marked (is_concerned act old new) marks) kept new (shown_by new us)
  laid_keeps r low off =
      let parts = unmarked (is_concerned act old new) marks r (omega (arith, low, is_new.size.1)) off in
      let calm = calm r low parts.1 in
      let size = (same_plan act old new e).size (r + 1) calm.1 in
      ap (λ n. row_of n kept.cells r) size.1 ∙ keeps r (omega (arith, low, size.0)) parts.0 ∙ sym (same_row r low parts.1)
