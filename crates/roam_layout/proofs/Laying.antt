-- An act makes a layout of a layout, and its face is a screen.
use Rattle.std.proofs.Common.{◌≡◌, ℕ, zero, suc, ℤ, pos, negsuc, ◌+◌, ◌-◌, ◌*◌, ◌/◌, ◌%◌, ◌<◌, ◌≤◌, ◌+ℤ◌, nat_le, inl, inr, true, false, not, ◌&&◌, cond, eqb, List, [], ◌∷◌, set, length, get_or, replicate, Option, Some, None, refl, sym, ap, ◌∙◌, subst, arith, length-set, get_or-set_same, get_or-set_other}
use Rattle.std.specs.Char.{IsScalar}
use Rattle.std.specs.Prelude.{slice_set, slice_index}
use Rattle.std.specs.List.{All}
use Rattle.std.proofs.lemmas.Bool.{cond_both, cases_lt, cases_eq, leb-false}
use Rattle.std.proofs.lemmas.Bool.Decides.{nat_tests}
use Rattle.std.proofs.lemmas.List.{get_or_past, get_or-replicate}
use Rattle.roam_cells.specs.Glyph.{Glyph, IsShown, IsStyle, default_style, blank}
use Rattle.roam_cells.specs.Place.{IsWholeRow, AreUnguarded}
use Rattle.roam_screens.specs.Screenshot.{Screenshot, IsScreenshot}
use Rattle.roam_cells.proofs.Ascii.{ascii_width}
use Rattle.roam_cells.proofs.CellLists.{cell_shown, default_is_style, blank_shown}
use Rattle.roam_cells.proofs.Places.{get_or-table, place_of}
use Rattle.roam_acts.specs.declared.acts.Act.{Act}
use Rattle.roam_acts.specs.declared.acts.Act.TheVariants.{Key, SplitRight, SplitDown, Close, Focus, Next, Grow, Size, View}
use Rattle.roam_cells.specs.declared.faults.Fault.TheVariants.{BadSize, TooSmall, NoPane, PanesFull, LastPane}
use Rattle.roam_layout.specs.Trees.{Shape, One, Two, leaves, has, is_one, first_leaf, with_split, without_pane, heir, free_among, free}
use Rattle.roam_layout.specs.Rects.{spot, inside, Fits, fits_in, is_roomy, after_growth}
use Rattle.roam_layout.specs.Layouts.{Plan, Outcome, Laid, Refused, IsSessionSize, is_session_size, area, panes, edges, start, IsPlan, split, after, with_tree, view_in_range, outcome_of}
use Rattle.roam_layout.specs.Status.{status_row, IsPrintable}
use Rattle.roam_layout.specs.Faces.{character, reverse_style, first_with_place, border_cell, pane_cell, face_at, face_row, face}
use Rattle.roam_layout.specs.declared.rects.Way.{Way}
use Rattle.roam_layout.specs.declared.rects.Way.TheVariants.{Right, Down}
use Rattle.roam_layout.specs.declared.rects.Rect.{Rect}
use Rattle.roam_layout.proofs.Keeping.{plan_close, plan_focus, plan_split, plan_grow, next_in, number_of}
use Rattle.roam_layout.proofs.Segments.{ArePictured}
use Rattle.roam_layout.proofs.Beside.{IsSound, right_text, down_text}
use Rattle.roam_layout.proofs.Facing.{area_sound, text_sound, free_sound, length-status_row, face_count, face_whole, face_unguarded}
use Rattle.roam_layout.proofs.Pointing.{cursor_place}
use Rattle.roam_layout.proofs.Texts.{row_printable}

-- a layout whose views are in their range
pub record IsLayout (s : Plan) : Type 0 where
  pub plan : IsPlan s
  pub views : (k : ℕ) → get_or s.views k 0 ≤ 500

abbrev pub IfLaid : Outcome → Type 0
IfLaid (Laid s) = IsLayout s
IfLaid (Refused fault) = Unit {0}

-- ---- views

one_view : (views : List ℕ) (i v : ℕ) → i < length views → v ≤ 500 → ((k : ℕ) → get_or views k 0 ≤ 500) → (k : ℕ) → get_or
    (set views i v) k 0 ≤ 500
one_view views i v low small each k =
    elim (cases_eq k i) [
      | inl e ↦ subst (λ (n : ℕ). n ≤ 500) (sym (ap (λ j. get_or (set views i v) j 0) e ∙ get_or-set_same views i v 0 low)) small
      | inr ne ↦ subst (λ (n : ℕ). n ≤ 500) (sym (get_or-set_other views i k v 0 ne)) (each k)
    ]

viewed_low : (v : ℤ) → view_in_range v ≤ 500
viewed_low (pos n) = omega arith
viewed_low (negsuc n) = omega arith

first_views : (k : ℕ) → get_or (replicate {A = ℕ} 10 0) k 0 ≤ 500
first_views k =
    elim (cases_lt k 10) [
      | inl low ↦ omega (arith, get_or-replicate {A = ℕ} 10 k 0 0 low)
      | inr high ↦ omega (arith, get_or_past (replicate {A = ℕ} 10 0) k 0 high)
    ]

-- ---- acts

among_range : (n k : ℕ) (t : Shape) → (k ≤ free_among n k t) × (free_among n k t ≤ k + n)
among_range zero k t = (omega arith, omega arith)
among_range (suc n) k t =
    let rest = among_range n (k + 1) t in
    cond_both (has k t) (free_among n (k + 1) t) k (λ (m : ℕ). (k ≤ m) × (m ≤ k + suc n))
    (λ e. (omega (arith, rest.0), omega (arith, rest.1))) (λ e. (omega arith, omega arith))

session_size : (r c : ℕ) → is_session_size r c ≡ true → IsSessionSize r c
session_size r c h = (grind (arith, nat_tests), grind (arith, nat_tests), grind (arith, nat_tests), grind (arith, nat_tests))

fits_of : (t : Shape) (r : Rect) → fits_in t r ≡ true → Fits t r
fits_of t r h = (grind (arith, nat_tests), grind (arith, nat_tests))

module _ (s : Plan) (is : IsLayout s) where
  focus_low : s.focus < length s.views
  focus_low = omega (arith, (number_of s.focus s.tree is.plan.numbers is.plan.focus).1, is.plan.views)

  split_laid : (w : Way) → IfLaid (split w s)
  split_laid w =
      let n = free s.tree in
      let range = among_range 8 1 s.tree in
      let x = spot s.focus s.tree (area s.rows s.cols) in
      cond_both (nat_le 9 (length (leaves s.tree))) (Refused PanesFull) (cond (is_roomy w x) (Laid _) (Refused TooSmall)) IfLaid (λ e. tt)
      (λ e. cond_both (is_roomy w x) (Laid _) (Refused TooSmall) IfLaid
      (λ roomy. record {
        plan = plan_split s w (Two w (pos 0) (One s.focus) (One n)) s.tree (with_split w s.focus n s.tree) n
            (slice_set s.views n 0) refl refl refl range.0 (omega (arith, range.1)) refl
            (leb-false 9 (length (leaves s.tree)) e) (length-set s.views n 0 ∙ is.plan.views) roomy is.plan;
        views = one_view s.views n 0 (omega (arith, range.1, is.plan.views)) (omega arith) is.views;
      })
      (λ e. tt))

  tree_laid : (d : ℤ) (o : Option Shape) → after_growth s.focus d s.tree (area s.rows s.cols) ≡ o → IfLaid (with_tree s o)
  tree_laid d None e = tt
  tree_laid d (Some t) e = record { plan = plan_grow s d s.tree t (area s.rows s.cols) refl refl e is.plan; views = is.views }

  pub laid_kept : (act : Act) → IfLaid (outcome_of s act)
  laid_kept (Key k) = is
  laid_kept SplitRight = split_laid Right
  laid_kept SplitDown = split_laid Down
  laid_kept Close =
      cond_both (is_one s.focus s.tree) (Refused LastPane) (Laid _) IfLaid (λ e. tt)
      (λ e. record { plan = plan_close s s.tree (without_pane s.focus s.tree) (heir s.focus s.tree) refl refl refl is.plan; views = is.views })
  laid_kept (Focus p) =
      cond_both (has p s.tree) (Laid _) (Refused NoPane) IfLaid
      (λ e. record { plan = plan_focus s s.tree p refl e is.plan; views = is.views }) (λ e. tt)
  laid_kept Next = record {
    plan = plan_focus s s.tree (after (first_leaf s.tree) s.focus (leaves s.tree)) refl
        (next_in s.focus s.tree) is.plan;
    views = is.views;
  }
  laid_kept (Grow d) =
      cond_both (is_one s.focus s.tree) (Refused LastPane) (with_tree s (after_growth s.focus d s.tree (area s.rows s.cols))) IfLaid (λ e. tt)
      (λ e. tree_laid d (after_growth s.focus d s.tree (area s.rows s.cols)) refl)
  laid_kept (Size r c) =
      cond_both (is_session_size r c) (cond (fits_in s.tree (area r c)) (Laid _) (Refused TooSmall)) (Refused BadSize) IfLaid
      (λ size. cond_both (fits_in s.tree (area r c)) (Laid _) (Refused TooSmall) IfLaid
      (λ fits. record {
        plan = record {
          size = session_size r c size;
          fits = fits_of s.tree (area r c) fits;
          modest = is.plan.modest;
          numbers = is.plan.numbers;
          distinct = is.plan.distinct;
          focus = is.plan.focus;
          views = is.plan.views;
        };
        views = is.views;
      })
      (λ e. tt))
      (λ e. tt)
  laid_kept (View d) =
      let v = view_in_range (pos (slice_index s.views s.focus) +ℤ d) in
      record {
        plan = record {
          size = is.plan.size;
          fits = is.plan.fits;
          modest = is.plan.modest;
          numbers = is.plan.numbers;
          distinct = is.plan.distinct;
          focus = is.plan.focus;
          views = length-set s.views s.focus v ∙ is.plan.views;
        };
        views = one_view s.views s.focus v focus_low (viewed_low (pos (slice_index s.views s.focus) +ℤ d)) is.views;
      }

pub laid_layout : (s t : Plan) (act : Act) → IsLayout s → outcome_of s act ≡ Laid t → IsLayout t
laid_layout s t act is e = subst IfLaid e (laid_kept s is act)

-- a session begins with a layout
pub start_layout : (rows cols : ℕ) → IsSessionSize rows cols → IsLayout (start rows cols)
start_layout rows cols size = record {
  plan = record {
    size = size;
    fits = (omega (arith, size.0), omega (arith, size.2));
    modest = tt;
    numbers = (omega arith, omega arith);
    distinct = λ p. cond_both (eqb 1 p) 1 0 (λ (n : ℕ). n ≤ 1) (λ e. omega arith) (λ e. omega arith);
    focus = refl;
    views = refl;
  };
  views = first_views;
}

-- ---- the face

ascii_scalar : (b : ℕ) → b < 0x7F → IsScalar b
ascii_scalar b h = grind (arith, nat_tests)

reverse_is_style : IsStyle reverse_style
reverse_is_style = record { foreground = tt; background = tt }

printable_shown : (b : ℕ) → IsPrintable b → IsShown (character b reverse_style)
printable_shown b h =
    cell_shown b reverse_style false (ap (λ w. not (eqb w 0) && true && true) (ascii_width b h.0 h.1)) (ascii_scalar b h.1) reverse_is_style

border_shown : (o : Option (Way × Rect)) → IsShown (border_cell o)
border_shown None = blank_shown
border_shown (Some (Right, x)) = cell_shown 0x2502 default_style false right_text refl default_is_style
border_shown (Some (Down, x)) = cell_shown 0x2500 default_style false down_text refl default_is_style

-- a place of a screen, or past it, shows what some cell does
any_shown : (s : Screenshot) → IsScreenshot s → (k : ℕ) → IsShown (get_or s.cells k blank)
any_shown s is k =
    elim (cases_lt k (length s.cells)) [
      | inl inside ↦ is.shown k inside
      | inr past ↦ subst IsShown (sym (get_or_past s.cells k blank past)) blank_shown
    ]

panes_shown : (picture : ℕ → Screenshot) (xs : List (ℕ × Rect)) → ArePictured picture xs → (r c : ℕ) (border : Option (Way × Rect))
    → IsShown (pane_cell picture r c (first_with_place r c xs) border)
panes_shown picture [] are r c border = border_shown border
panes_shown picture (x ∷ xs) are r c border =
    let rest = panes_shown picture xs are.1 r c border in
    let shot = picture x.0 in
    cond_both (inside r c x.1) (Some x) (first_with_place r c xs) (λ (o : Option (ℕ × Rect)). IsShown (pane_cell picture r c o border))
    (λ e. any_shown shot are.0.shot ((r - x.1.row) * shot.cols + (c - x.1.col))) (λ e. rest)

module _ (s : Plan) (picture : ℕ → Screenshot) (is : IsLayout s) (are : ArePictured picture (panes s)) where
  printable : All IsPrintable (status_row s)
  printable = row_printable s (slice_index s.views s.focus) is.plan.numbers refl (omega (arith, is.views s.focus))

  sound : (r : ℕ) → r < s.rows → IsSound (face_row s picture (r + 1))
  sound r low =
      elim (cases_lt (r + 1) s.rows) [
        | inl above ↦ area_sound s picture is.plan are (r + 1) (omega arith) above
        | inr last ↦ text_sound s picture (r + 1) (omega (arith, low, last)) printable
      ]

  whole : (r : ℕ) → r < s.rows → IsWholeRow (face_row s picture (r + 1))
  whole r low = (sound r low).whole

  unguarded : (r : ℕ) → r < s.rows → AreUnguarded (face_row s picture (r + 1))
  unguarded r low = free_sound (face_row s picture (r + 1)) (sound r low)

  place_shown : (r c : ℕ) → c < s.cols → IsShown (face_at s picture r (c + 1))
  place_shown r c low =
      let back : c + 1 - 1 ≡ c = omega arith in
      let text = printable c 0 (omega (arith, length-status_row s, low)) in
      cond_both (eqb r s.rows) (character (slice_index (status_row s) (c + 1 - 1)) reverse_style)
      (pane_cell picture r (c + 1) (first_with_place r (c + 1) (panes s)) (first_with_place r (c + 1) (edges s))) IsShown
      (λ e. subst (λ (j : ℕ). IsShown (character (slice_index (status_row s) j) reverse_style)) (sym back) (printable_shown (slice_index (status_row s) c) text))
      (λ e. panes_shown picture (panes s) are r (c + 1) (first_with_place r (c + 1) (edges s)))

  -- the face of screens of the panes' sizes is a screen
  pub face_screen : IsScreenshot (face s picture)
  face_screen = record {
    size = record {
      least_rows = omega (arith, is.plan.size.0);
      most_rows = is.plan.size.1;
      least_columns = omega (arith, is.plan.size.2);
      most_columns = is.plan.size.3;
    };
    count = face_count s picture whole unguarded;
    cursor = cursor_place s picture is.plan are;
    whole = face_whole s picture whole unguarded;
    unguarded = face_unguarded s picture whole unguarded;
    shown = λ k low.
        let p = place_of s.rows s.cols k (omega (arith, low, face_count s picture whole unguarded)) in
        let f : ℕ → ℕ → Glyph = λ r c. face_at s picture (r + 1) (c + 1) in
        subst IsShown
        (sym (ap (λ j. get_or (face s picture).cells j blank) (sym p.2) ∙ get_or-table s.rows s.cols f (k / s.cols)
        (k % s.cols) blank p.0 p.1))
        (place_shown (k / s.cols + 1) (k % s.cols) p.1);
  }
