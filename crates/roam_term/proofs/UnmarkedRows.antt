-- A row without a mark shows the same cells as before, whatever functions come.
use Rattle.std.proofs.Common.{◌≡◌, ℕ, ◌+◌, ◌-◌, ◌*◌, ◌<◌, Bool, true, false, cond, min, List, [], ◌∷◌, ◌++◌, map, take, take_all, length, length-take, length-drop, get_or, refl, sym, ap, ◌∙◌, subst, arith}
use Rattle.std.specs.List.{flat_map}
use Rattle.std.proofs.lemmas.List.{same_lists, drop_all, get_or-map, length-map}
use Rattle.std.proofs.lemmas.List.Edits.{get_or-between}
use Rattle.roam_cells.specs.Glyph.{Glyph, blank}
use Rattle.roam_cells.specs.Place.{cell_at, row_of}
use Rattle.roam_cells.proofs.Places.{place_below}
use Rattle.roam_controls.specs.Commands.{command_of, parameters_of}
use Rattle.roam_grid.specs.Marks.{is_marked}
use Rattle.roam_history.specs.Histories.{Scrollback}
use Rattle.roam_text.specs.Functions.{functions_of}
use Rattle.roam_text.specs.declared.functions.Function.{Function}
use Rattle.roam_text.specs.declared.functions.Function.TheVariants.{Print, C0, C1, Esc, Csi, Size}
use Rattle.roam_term.specs.Marks.{marked_by, marked_through}
use Rattle.roam_term.specs.Picture.{shown_glyph, cells_in_view, picture_of, picture}
use Rattle.roam_term.specs.Terminal.{Live, Terminal, changed_by, live_after, run, started_terminal, started_live, term}
use Rattle.roam_term.specs.Unmarked.{IsSameRow, UnmarkedRowsStay}
use Rattle.roam_term.proofs.Adding.{off_before}
use Rattle.roam_term.proofs.Characters.{Each, IsProper, log_proper}
use Rattle.roam_term.proofs.Keeping.{IsLive, size_of, changed_lives, started_lives}
use Rattle.roam_term.proofs.Runs.{run-append, run-live}
use Rattle.roam_term.proofs.Staying.{Stays, commanded_stays, stays_then, none_off}

-- of one size, and showing the same in a row
record Keeps (l k : Live) (r : ℕ) : Type 0 where
  rows : k.screen.rows ≡ l.screen.rows
  cols : k.screen.cols ≡ l.screen.cols
  stays : Stays l k r

keeps : (l k : Live) (r : ℕ) → size_of k ≡ size_of l → Stays l k r → Keeps l k r
keeps l k r size stays = record { rows = ap (λ (p : ℕ × ℕ). p.0) size; cols = ap (λ (p : ℕ × ℕ). p.1) size; stays = stays }

changed_keeps : (f : Function) (l : Live) (m : List Bool) (r : ℕ) → r < 200 → IsProper f → IsLive l → is_marked (marked_by f l m) r ≡ false
    → Keeps l (changed_by f l) r
unfolding marked_by changed_by
changed_keeps (Size rows cols) l m r low h is off = none_off r low off
changed_keeps (Print c) l m r low h is off =
    keeps l (changed_by (Print c) l) r (changed_lives (Print c) l h is).size
    (commanded_stays (command_of (Print c)) (parameters_of (Print c)) l m r low is off)
changed_keeps (C0 b) l m r low h is off =
    keeps l (changed_by (C0 b) l) r (changed_lives (C0 b) l h is).size
    (commanded_stays (command_of (C0 b)) (parameters_of (C0 b)) l m r low is off)
changed_keeps (C1 b) l m r low h is off =
    keeps l (changed_by (C1 b) l) r (changed_lives (C1 b) l h is).size
    (commanded_stays (command_of (C1 b)) (parameters_of (C1 b)) l m r low is off)
changed_keeps (Esc inter b) l m r low h is off =
    keeps l (changed_by (Esc inter b) l) r (changed_lives (Esc inter b) l h is).size
    (commanded_stays (command_of (Esc inter b)) (parameters_of (Esc inter b)) l m r low is off)
changed_keeps (Csi marker params inter b) l m r low h is off =
    keeps l (changed_by (Csi marker params inter b) l) r (changed_lives (Csi marker params inter b) l h is).size
    (commanded_stays (command_of (Csi marker params inter b)) (parameters_of (Csi marker params inter b)) l m r low is off)

lived_keeps : (fs : List Function) (l : Live) (m : List Bool) (r : ℕ) → r < 200 → Each IsProper fs → IsLive l
    → is_marked (marked_through l fs m) r ≡ false → Keeps l (live_after l fs) r
lived_keeps [] l m r low h is off = record { rows = refl; cols = refl; stays = record { reverse = refl; cells = λ c p q. refl } }
lived_keeps (f ∷ fs) l m r low h is off =
    let k = changed_by f l in
    let n = marked_by f l m in
    let one = changed_keeps f l m r low h.0 is (off_before k fs n r low off) in
    let two = lived_keeps fs k n r low h.1 (changed_lives f l h.0 is).live off in
    record {
      rows = two.rows ∙ one.rows;
      cols = two.cols ∙ one.cols;
      stays = stays_then l k (live_after k fs) r one.rows one.cols one.stays two.stays;
    }

lived_is : (fs : List Function) (l : Live) → Each IsProper fs → IsLive l → IsLive (live_after l fs)
lived_is [] l h is = is
lived_is (f ∷ fs) l h is = lived_is fs (changed_by f l) h.1 (changed_lives f l h.0 is).live

each_front : {A : Type 0} (P : A → Type 0) (xs ys : List A) → Each P (xs ++ ys) → Each P xs
each_front P [] ys h = tt
each_front P (x ∷ xs) ys h = (h.0, each_front P xs ys h.1)

each_rest : {A : Type 0} (P : A → Type 0) (xs ys : List A) → Each P (xs ++ ys) → Each P ys
each_rest P [] ys h = h
each_rest P (x ∷ xs) ys h = each_rest P xs ys h.1

-- ---- at view 0

no_row : (b : Bool) (n : ℕ) → cond b 0 (min 0 n) ≡ 0
no_row true n = refl
no_row false n = omega arith

cells_shown : (l : Live) (h : Scrollback) → length l.screen.cells ≡ l.screen.rows * l.screen.cols
    → (picture_of l h 0).cells ≡ map (shown_glyph l.modes.reverse_screen) l.screen.cells
cells_shown l h size =
    let reversed = l.modes.reverse_screen in
    let n = l.screen.rows * l.screen.cols in
    ap (λ v. map (shown_glyph reversed) (cells_in_view v l h)) (no_row l.alternate (length h.rows))
    ∙ ap (λ (rows : List (List Glyph)). map (shown_glyph reversed) (take n (flat_map (λ (row : List Glyph). row) rows ++ l.screen.cells)))
    (drop_all (length h.rows - 0) h.rows (omega arith))
    ∙ ap (map (shown_glyph reversed)) (take_all n l.screen.cells (omega (arith, size)))

row_shown : (b : Bool) (rows cols r : ℕ) (xs ys : List Glyph) → length xs ≡ rows * cols → length ys ≡ rows * cols → r < rows
    → ((c : ℕ) → c < cols → cell_at cols ys r c ≡ cell_at cols xs r c)
    → row_of cols (map (shown_glyph b) ys) r ≡ row_of cols (map (shown_glyph b) xs) r
row_shown b rows cols r xs ys size-x size-y r_in each =
    let len : (zs : List Glyph) → length (row_of cols zs r) ≡ min ((r + 1) * cols - r * cols) (length zs - r * cols) =
    λ zs. simp (length-take, length-drop) refl in
    let place : (k : ℕ) → k < cols → r * cols + k < rows * cols = λ k h. place_below rows cols r k r_in h in
    let here : (k : ℕ) → k < length (row_of cols (map (shown_glyph b) ys) r) → k < cols = λ k h. omega (arith, h, len (map (shown_glyph b) ys)) in
    let at : (zs : List Glyph) → length zs ≡ rows * cols → (k : ℕ) (d : Glyph) → k < cols
    → get_or (row_of cols (map (shown_glyph b) zs) r) k d ≡ shown_glyph b (cell_at cols zs r k) =
    λ zs size k d h.
    get_or-between (map (shown_glyph b) zs) (r * cols) ((r + 1) * cols) k d (omega (arith, h))
    ∙ get_or-map (shown_glyph b) zs (r * cols + k) blank d (omega (arith, size, place k h)) in
    same_lists (row_of cols (map (shown_glyph b) ys) r) (row_of cols (map (shown_glyph b) xs) r)
    (len (map (shown_glyph b) ys)
    ∙ ap (λ n. min ((r + 1) * cols - r * cols) (n - r * cols)) (length-map ys (shown_glyph b) ∙ size-y ∙ sym (length-map xs (shown_glyph b) ∙ size-x))
    ∙ sym (len (map (shown_glyph b) xs)))
    (λ k d h. let q = here k h in at ys size-y k d q ∙ ap (shown_glyph b) (each k q) ∙ sym (at xs size-x k d q))

-- the same row at view 0
same_row : (l k : Live) (h j : Scrollback) (r : ℕ) → IsLive l → IsLive k → r < k.screen.rows → Keeps l k r
    → IsSameRow r (picture_of l h 0) (picture_of k j 0)
same_row l k h j r is later r_in keeps =
    let rows = l.screen.rows in
    let cols = l.screen.cols in
    let size : length k.screen.cells ≡ rows * cols =
    later.screen.cells.count ∙ ap (λ n. n * k.screen.cols) keeps.rows ∙ ap (λ n. rows * n) keeps.cols in
    let low : r < rows = omega (arith, keeps.rows, r_in) in
    record {
      cols = keeps.cols;
      row =
          ap (λ cells. row_of k.screen.cols cells r) (cells_shown k j later.screen.cells.count)
          ∙ ap (λ n. row_of n (map (shown_glyph k.modes.reverse_screen) k.screen.cells) r) keeps.cols
          ∙ ap (λ b. row_of cols (map (shown_glyph b) k.screen.cells) r) keeps.stays.reverse
          ∙ row_shown l.modes.reverse_screen rows cols r l.screen.cells k.screen.cells is.screen.cells.count size low
          (λ c q. keeps.stays.cells c low q)
          ∙ sym (ap (λ cells. row_of cols cells r) (cells_shown l h is.screen.cells.count));
    }

pub unmarked_rows_stay : UnmarkedRowsStay
unfolding term picture
unmarked_rows_stay rows cols lines log later fs marks size sizes gained r r_in off =
    let t = run (started_terminal rows cols lines) (functions_of log) in
    let u = run (started_terminal rows cols lines) (functions_of later) in
    let proper : Each IsProper (functions_of log ++ fs) = subst (Each IsProper) gained (log_proper later sizes) in
    let is : IsLive t.live =
    subst IsLive (sym (run-live (started_terminal rows cols lines) (functions_of log)))
    (lived_is (functions_of log) (started_live rows cols) (each_front IsProper (functions_of log) fs proper) (started_lives rows cols size)) in
    let rest = each_rest IsProper (functions_of log) fs proper in
    let live : u.live ≡ live_after t.live fs =
    ap (λ gs. (run (started_terminal rows cols lines) gs).live) gained
    ∙ ap (λ (x : Terminal). x.live) (run-append (started_terminal rows cols lines) (functions_of log) fs) ∙ run-live t fs in
    let after = subst IsLive (sym live) (lived_is fs t.live rest is) in
    let low : r < 200 = omega (arith, r_in, after.screen.frame.size.most_rows) in
    let keeps = subst (λ (k : Live). Keeps t.live k r) (sym live) (lived_keeps fs t.live marks r low rest is off) in
    same_row t.live u.live t.history u.history r is after r_in keeps
