-- The rows of a history are of its screen's width, whole, and of the code points of cells, whatever functions come.
use Rattle.std.proofs.Common.{◌≡◌, ℕ, zero, suc, ◌+◌, ◌-◌, ◌*◌, ◌<◌, ◌≤◌, inl, inr, Bool, true, false, ◌&&◌, cond, eqb, min, List, [], ◌∷◌, ◌++◌, map, length, get_or, replicate, Option, Some, None, refl, sym, ap, ◌∙◌, subst, arith}
use Rattle.std.proofs.lemmas.Bool.{cases_lt}
use Rattle.std.proofs.lemmas.List.{get_or_past}
use Rattle.std.proofs.lemmas.List.Edits.{get_or-between, length-between}
use Rattle.roam_cells.specs.Glyph.{Glyph, IsShown, is_wide, space_in, blank}
use Rattle.roam_cells.specs.Place.{cell_at, glyph_at, IsWholeLine, row_of}
use Rattle.roam_cells.specs.Width.{width_of}
use Rattle.roam_cells.proofs.Places.{row_from}
use Rattle.roam_charset.specs.Charsets.{mapped_by}
use Rattle.roam_charset.specs.Sets.{in_use}
use Rattle.roam_cells.proofs.CellLists.{space_in_shown, blank_shown}
use Rattle.roam_rows.proofs.Keeping.{either, line_same}
use Rattle.roam_history.specs.Histories.{Scrollback, IsRow}
use Rattle.roam_history.specs.Lines.{refitted_row}
use Rattle.roam_history.proofs.Refitting.{length-refitted_row, refitted_row_at, refitted_whole}
use Rattle.roam_grid.specs.Screen.{Screen}
use Rattle.roam_grid.specs.Writing.{columns, leaves_row, put_on}
use Rattle.roam_grid.specs.Frames.{leaving}
use Rattle.roam_grid.specs.declared.writing.Writing.{Writing}
use Rattle.roam_grid.proofs.Keeping as grid
use Rattle.roam_grid.proofs.Keeping.{IsSound}
use Rattle.roam_text.specs.Log.{Item}
use Rattle.roam_text.specs.Functions.{functions_of}
use Rattle.roam_text.specs.declared.functions.Function.{Function}
use Rattle.roam_text.specs.declared.functions.Function.TheVariants.{Print, C0, C1, Esc, Csi, Size}
use Rattle.roam_controls.specs.Commands.{command_of}
use Rattle.roam_controls.specs.declared.commands.Command.{Command}
use Rattle.roam_controls.specs.declared.commands.Command.TheVariants.{Nothing, Prints, Moves, Erases, Edits, Shifts, Sets, Reports, Repeats}
use Rattle.roam_controls.specs.declared.motions.Motion.{Motion}
use Rattle.roam_controls.specs.declared.motions.Motion.TheVariants.{LineFeed, Index, NextLine}
use Rattle.roam_controls.specs.declared.edits.Edit.{Edit}
use Rattle.roam_controls.specs.declared.edits.Edit.TheVariants.{ScrollUp}
use Rattle.roam_cells.specs.Limits.{IsSize}
use Rattle.roam_term.specs.Leaving.{top_rows, left_by_put, left_by_puts, left_by_motion, left_by_edit}
use Rattle.roam_term.specs.Screens.{AreSizes, size_after}
use Rattle.roam_term.specs.Terminal.{Live, Terminal, glyph_in, writing_under, on_main, left_by_character, left_by_repeat, left_by, rows_left, with_rows, history_after, after, run, term, started_terminal}
use Rattle.roam_term.proofs.Characters.{Each, each-append, each-drop, IsProper, log_proper}
use Rattle.roam_term.proofs.LastSizes.{size_by, sizes_by, log_sizes}
use Rattle.roam_term.proofs.Keeping.{IsLive, IsPrinted, size_of, glyph_shown, changed_lives, started_lives}

-- a row of whole characters, each with the code points of some cell
pub record IsLine (cols : ℕ) (row : List Glyph) : Type 0 where
  pub is : IsRow cols row
  pub shown : (k : ℕ) → IsShown (get_or row k blank)

-- ---- rows of a screen

row_line : (s : Screen) → IsSound s → (i : ℕ) → i < s.rows → IsLine s.cols (row_of s.cols s.cells i)
row_line s is i low =
    let row = row_of s.cols s.cells i in
    let one : (i + 1) * s.cols ≡ i * s.cols + s.cols = omega arith in
    let next = row_from s.cols (i + 1) s.rows 0 (omega (arith, low)) in
    let inner : (i + 1) * s.cols ≤ length s.cells = omega (arith, next, is.cells.count) in
    let count : length row ≡ s.cols = length-between s.cells (i * s.cols) ((i + 1) * s.cols) inner ∙ omega (arith, one) in
    let at : (c : ℕ) → c < s.cols → glyph_at row c ≡ cell_at s.cols s.cells i c =
    λ c q. get_or-between s.cells (i * s.cols) ((i + 1) * s.cols) c blank (omega (arith, one, q)) in
    record {
      is = record {
        count = count;
        whole = subst (λ (n : ℕ). IsWholeLine n (glyph_at row)) (sym count)
            (line_same s.cols (cell_at s.cols s.cells i) (glyph_at row) at (is.cells.whole i low));
      };
      shown = λ k. elim (cases_lt k s.cols) [
        | inl inside ↦ subst IsShown (sym (at k inside)) (is.cells.shown (i * s.cols + k))
        | inr past ↦ subst IsShown (sym (get_or_past row k blank (omega (arith, count, past)))) blank_shown
      ];
    }

top_lines : (n : ℕ) (s : Screen) → IsSound s → n ≤ s.rows → Each (IsLine s.cols) (top_rows n s)
top_lines zero s is few = tt
top_lines (suc n) s is few =
    each-append (IsLine s.cols) (top_rows n s) (row_of s.cols s.cells n ∷ []) (top_lines n s is (omega (arith, few)))
    (row_line s is n (omega (arith, few)), tt)

-- the rows at the top leave, or none
some_lines : (b : Bool) (n : ℕ) (s : Screen) → IsSound s → n ≤ s.rows → Each (IsLine s.cols) (cond b (top_rows n s) [])
some_lines b n s is few = either (Each (IsLine s.cols)) b (top_rows n s) [] (λ e. top_lines n s is few) (λ e. tt)

first_line : (b : Bool) (s : Screen) → IsSound s → Each (IsLine s.cols) (cond b (top_rows 1 s) [])
first_line b s is = some_lines b 1 s is (omega (arith, is.frame.size.least_rows))

puts_lines : (n : ℕ) (g : Glyph) (w : Writing) (s : Screen) → IsShown g → IsSound s → Each (IsLine s.cols)
    (left_by_puts (replicate n g) w s)
puts_lines zero g w s shown is = tt
puts_lines (suc n) g w s shown is =
    let history_after = grid.put_on_kept g w s shown is in
    each-append (IsLine s.cols) (left_by_put g w s) (left_by_puts (replicate n g) w (put_on g w s))
    (first_line (eqb s.top 0 && leaves_row (columns g) w s) s is)
    (subst (λ (cols : ℕ). Each (IsLine cols) (left_by_puts (replicate n g) w (put_on g w s))) history_after.cols
    (puts_lines n g w (put_on g w s) shown history_after.sound))

-- ---- the rows that a function scrolls off

motion_lines : (motion : Motion) (s : Screen) → IsSound s → Each (IsLine s.cols) (left_by_motion motion s)
motion_lines LineFeed s is = first_line (eqb s.top 0 && eqb s.row s.bottom) s is
motion_lines Index s is = first_line (eqb s.top 0 && eqb s.row s.bottom) s is
motion_lines NextLine s is = first_line (eqb s.top 0 && eqb s.row s.bottom) s is
motion_lines motion s is = tt

edit_lines : (edit : Edit) (s : Screen) → IsSound s → Each (IsLine s.cols) (left_by_edit edit s)
edit_lines (ScrollUp n) s is = some_lines (eqb s.top 0) (min n (s.bottom + 1)) s is (omega (arith, is.frame.margins.1))
edit_lines edit s is = tt

repeat_lines : (n : ℕ) (o : Option ℕ) (l : Live) → IsPrinted o → IsLive l → Each (IsLine l.screen.cols) (left_by_repeat n o l)
repeat_lines n None l h is = tt
repeat_lines n (Some c) l h is =
    either (Each (IsLine l.screen.cols)) (eqb (width_of c) 0) []
    (left_by_puts (replicate n (glyph_in c l.pen)) (writing_under l.modes) l.screen) (λ e. tt)
    (λ e. puts_lines n (glyph_in c l.pen) (writing_under l.modes) l.screen (glyph_shown c l.pen e h is.inks.pen) is.screen)

character_lines : (c : ℕ) (l : Live) → IsLive l → Each (IsLine l.screen.cols) (left_by_character c l)
character_lines c l is =
    let g = glyph_in c l.pen in
    let w = writing_under l.modes in
    either (Each (IsLine l.screen.cols)) (eqb (width_of c) 0) [] (left_by_put g w l.screen) (λ e. tt)
    (λ e. first_line (eqb l.screen.top 0 && leaves_row (columns g) w l.screen) l.screen is.screen)

command_lines : (command : Command) (l : Live) → IsLive l → Each (IsLine l.screen.cols) (left_by command l)
command_lines (Prints c) l is = character_lines (mapped_by (in_use l.sets) c) l is
command_lines (Moves motion) l is = motion_lines motion l.screen is.screen
command_lines (Edits edit) l is = edit_lines edit l.screen is.screen
command_lines (Repeats n) l is = repeat_lines n l.printed l is.printed is
command_lines Nothing l is = tt
command_lines (Erases erasure) l is = tt
command_lines (Shifts shift) l is = tt
command_lines (Sets setting) l is = tt
command_lines (Reports report) l is = tt

main_lines : (cols : ℕ) (alternate : Bool) (rows : List (List Glyph)) → Each (IsLine cols) rows → Each (IsLine cols)
    (on_main alternate rows)
main_lines cols true rows h = tt
main_lines cols false rows h = h

left_lines : (f : Function) (l : Live) → IsLive l → Each (IsLine l.screen.cols) (rows_left f l)
unfolding rows_left
left_lines (Size rows cols) l is =
    main_lines l.screen.cols l.alternate (top_rows (leaving rows l.screen) l.screen)
    (top_lines (leaving rows l.screen) l.screen is.screen (omega (arith, is.screen.frame.row_in)))
left_lines (Print c) l is = main_lines l.screen.cols l.alternate (left_by (command_of (Print c)) l)
    (command_lines (command_of (Print c)) l is)
left_lines (C0 b) l is = main_lines l.screen.cols l.alternate (left_by (command_of (C0 b)) l) (command_lines (command_of (C0 b)) l is)
left_lines (C1 b) l is = main_lines l.screen.cols l.alternate (left_by (command_of (C1 b)) l) (command_lines (command_of (C1 b)) l is)
left_lines (Esc inter b) l is = main_lines l.screen.cols l.alternate (left_by (command_of (Esc inter b)) l)
    (command_lines (command_of (Esc inter b)) l is)
left_lines (Csi marker params inter b) l is =
    main_lines l.screen.cols l.alternate (left_by (command_of (Csi marker params inter b)) l)
    (command_lines (command_of (Csi marker params inter b)) l is)

-- ---- the rows of a history

with_lines : (cols : ℕ) (rows : List (List Glyph)) (h : Scrollback) → Each (IsLine cols) rows → Each (IsLine cols) h.rows → Each
    (IsLine cols) (with_rows rows h).rows
with_lines cols rows h new old = each-drop (IsLine cols) (length (h.rows ++ rows) - h.lines) (h.rows ++ rows)
    (each-append (IsLine cols) h.rows rows old new)

refitted_line : (old cols : ℕ) (row : List Glyph) → IsLine old row → IsLine cols (refitted_row cols row)
refitted_line old cols row line =
    let count = length-refitted_row cols row in
    record {
      is = record { count = count; whole = refitted_whole cols row line.is.whole };
      shown = λ k. elim (cases_lt k cols) [
        | inl inside ↦
            subst IsShown (sym (refitted_row_at cols row k inside))
            (either IsShown (is_wide (glyph_at row k) && eqb (k + 1) cols) (space_in (glyph_at row k))
            (glyph_at row k)
            (λ e. space_in_shown (glyph_at row k) (line.shown k)) (λ e. line.shown k))
        | inr past ↦ subst IsShown
            (sym (get_or_past (refitted_row cols row) k blank (omega (arith, count, past)))) blank_shown
      ];
    }

refitted_lines : (old cols : ℕ) (rows : List (List Glyph)) → Each (IsLine old) rows → Each (IsLine cols) (map (refitted_row cols) rows)
refitted_lines old cols [] h = tt
refitted_lines old cols (row ∷ rows) h = (refitted_line old cols row h.0, refitted_lines old cols rows h.1)

kept_lines : (f : Function) (l : Live) (h : Scrollback) → IsLive l → Each (IsLine l.screen.cols) h.rows → Each
    (IsLine (size_by (size_of l) f).1) (history_after f l h).rows
unfolding history_after
kept_lines (Size rows cols) l h is lines =
    refitted_lines l.screen.cols cols (with_rows (rows_left (Size rows cols) l) h).rows
    (with_lines l.screen.cols (rows_left (Size rows cols) l) h (left_lines (Size rows cols) l is) lines)
kept_lines (Print c) l h is lines = with_lines l.screen.cols (rows_left (Print c) l) h (left_lines (Print c) l is) lines
kept_lines (C0 b) l h is lines = with_lines l.screen.cols (rows_left (C0 b) l) h (left_lines (C0 b) l is) lines
kept_lines (C1 b) l h is lines = with_lines l.screen.cols (rows_left (C1 b) l) h (left_lines (C1 b) l is) lines
kept_lines (Esc inter b) l h is lines = with_lines l.screen.cols (rows_left (Esc inter b) l) h (left_lines (Esc inter b) l is) lines
kept_lines (Csi marker params inter b) l h is lines =
    with_lines l.screen.cols (rows_left (Csi marker params inter b) l) h (left_lines (Csi marker params inter b) l is) lines

-- ---- a whole terminal

pub record IsTerm (p : ℕ × ℕ) (t : Terminal) : Type 0 where
  pub size : size_of t.live ≡ p
  pub live : IsLive t.live
  pub lines : Each (IsLine t.live.screen.cols) t.history.rows

after_is : (f : Function) (p : ℕ × ℕ) (t : Terminal) → IsProper f → IsTerm p t → IsTerm (size_by p f) (after f t)
after_is f p t h is =
    let step = changed_lives f t.live h is.live in
    record {
      size = step.size ∙ ap (λ (q : ℕ × ℕ). size_by q f) is.size;
      live = step.live;
      lines = subst (λ (cols : ℕ). Each (IsLine cols) (history_after f t.live t.history).rows) (sym (ap (λ (q : ℕ × ℕ). q.1) step.size))
          (kept_lines f t.live t.history is.live is.lines);
    }

run_is : (fs : List Function) (p : ℕ × ℕ) (t : Terminal) → Each IsProper fs → IsTerm p t → IsTerm (sizes_by p fs) (run t fs)
run_is [] p t h is = is
run_is (f ∷ fs) p t h is = run_is fs (size_by p f) (after f t) h.1 (after_is f p t h.0 is)

pub term_is : (rows cols lines : ℕ) (log : List Item) → IsSize rows cols → AreSizes log → IsTerm (size_after (rows, cols) log)
    (term rows cols lines log)
unfolding term
term_is rows cols lines log size sizes =
    subst (λ (p : ℕ × ℕ). IsTerm p (run (started_terminal rows cols lines) (functions_of log))) (log_sizes (rows, cols) log)
    (run_is (functions_of log) (rows, cols) (started_terminal rows cols lines) (log_proper log sizes)
    (record { size = refl; live = started_lives rows cols size; lines = tt }))
