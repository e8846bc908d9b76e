-- Functions mark the same rows whatever was marked before.
use Rattle.std.proofs.Common.{◌≡◌, ℕ, ◌+◌, ◌-◌, ◌<◌, Bool, true, false, not, ◌&&◌, ◌||◌, cond, eqb, leb, ltb, List, [], ◌∷◌, replicate, Option, Some, None, refl, sym, ap, ◌∙◌}
use Rattle.std.proofs.lemmas.List.{get_or-replicate}
use Rattle.roam_cells.specs.Glyph.{Glyph}
use Rattle.roam_cells.specs.Width.{width_of}
use Rattle.roam_charset.specs.Charsets.{mapped_by}
use Rattle.roam_charset.specs.Sets.{in_use}
use Rattle.roam_controls.specs.Commands.{command_of, parameters_of}
use Rattle.roam_controls.specs.declared.commands.Command.{Command}
use Rattle.roam_controls.specs.declared.commands.Command.TheVariants.{Prints, Moves, Erases, Edits, Sets, Repeats}
use Rattle.roam_controls.specs.declared.edits.Edit.{Edit}
use Rattle.roam_controls.specs.declared.edits.Edit.TheVariants.{InsertCells, DeleteCells, InsertLines, DeleteLines, ScrollUp, ScrollDown, Align}
use Rattle.roam_controls.specs.declared.erasures.Erasure.{Erasure}
use Rattle.roam_controls.specs.declared.erasures.Erasure.TheVariants.{InPage, InLine, SelectivelyInPage, SelectivelyInLine, Cells}
use Rattle.roam_controls.specs.declared.motions.Motion.{Motion}
use Rattle.roam_controls.specs.declared.motions.Motion.TheVariants.{LineFeed, Index, NextLine, ReverseIndex}
use Rattle.roam_controls.specs.declared.settings.Setting.{Setting}
use Rattle.roam_controls.specs.declared.settings.Setting.TheVariants.{PrivateMode, Reset}
use Rattle.roam_grid.specs.Cursor.{after_carriage_return}
use Rattle.roam_grid.specs.Editing.{is_between_margins}
use Rattle.roam_grid.specs.Erasing.{line_from, line_to, page_from, page_to}
use Rattle.roam_grid.specs.Marks.{is_marked, all_on, all_off, also_marked, row_marked, rows_marked, moved_marked, marks_scrolled, marks_indexed, marks_reverse_indexed, marks_lines_moved, marks_erased_in_page, unguarded_marked, marks_erased_selectively_in_line, marks_erased_selectively_in_page, marks_settled, marks_with_room, marks_put, marks_put_all, joins, marks_joined_in, marks_joined, has_unguarded}
use Rattle.roam_grid.specs.Screen.{Screen}
use Rattle.roam_grid.specs.Writing.{columns, wrap_done, with_room, put_on}
use Rattle.roam_cells.specs.declared.extents.Extent.{Extent}
use Rattle.roam_grid.specs.declared.writing.Writing.{Writing}
use Rattle.roam_grid.proofs.Marked.{marked_at}
use Rattle.roam_grid.proofs.Named.{all_marked}
use Rattle.roam_text.specs.declared.functions.Function.{Function}
use Rattle.roam_text.specs.declared.functions.Function.TheVariants.{Print, C0, C1, Esc, Csi, Size}
use Rattle.roam_term.specs.Marks.{marks_moved_by, marks_edited_by, marks_erased_by, marks_printed, marks_repeated, marks_chosen, marks_followed, marks_private_mode, marks_private_modes, marks_set_by, marks_performed, marked_by, marked_through}
use Rattle.roam_term.specs.Terminal.{Live, glyph_in, writing_under, is_alternate_mode, private_mode_set, changed_by}
use Rattle.roam_term.specs.Unmarked.{MarksAreAdded}

-- ---- what puts marks on

-- the marks that it puts on if none is on
abbrev pub Adds : (List Bool → List Bool) → Type 0
Adds f = (m : List Bool) (r : ℕ) → r < 200 → is_marked (f m) r ≡ (is_marked m r || is_marked (f all_off) r)

or_true : (b : Bool) → true ≡ (b || true)
or_true true = refl
or_true false = refl

or_false : (b : Bool) → b ≡ (b || false)
or_false true = refl
or_false false = refl

or_assoc : (a b c : Bool) → ((a || b) || c) ≡ (a || (b || c))
or_assoc true b c = refl
or_assoc false b c = refl

none_marked : (r : ℕ) → r < 200 → is_marked all_off r ≡ false
unfolding all_off
none_marked r h = get_or-replicate 200 r false false h

pub same_adds : Adds (λ m. m)
same_adds m r h = or_false (is_marked m r) ∙ sym (ap (λ b. is_marked m r || b) (none_marked r h))

all_adds : Adds (λ m. all_on)
all_adds m r h = all_marked r h ∙ or_true (is_marked m r) ∙ sym (ap (λ b. is_marked m r || b) (all_marked r h))

pub also_adds : (names : ℕ → Bool) → Adds (also_marked names)
also_adds names m r h =
    marked_at names m r h
    ∙ sym (ap (λ b. is_marked m r || b) (marked_at names all_off r h ∙ ap (λ b. b || names r) (none_marked r h)))

then_adds : (f g : List Bool → List Bool) → Adds f → Adds g → Adds (λ m. g (f m))
then_adds f g first second m r h =
    second (f m) r h ∙ ap (λ b. b || is_marked (g all_off) r) (first m r h)
    ∙ or_assoc (is_marked m r) (is_marked (f all_off) r) (is_marked (g all_off) r)
    ∙ sym (ap (λ b. is_marked m r || b) (second (f all_off) r h))

if_adds : (b : Bool) (f g : List Bool → List Bool) → Adds f → Adds g → Adds (λ m. cond b (f m) (g m))
if_adds true f g first second = first
if_adds false f g first second = second

-- ---- the grid's

moved_adds : (n from to : ℕ) → Adds (moved_marked n from to)
moved_adds n from to =
    if_adds (eqb n 0) (λ m. m) (rows_marked from to) same_adds (also_adds (λ r. leb from r && ltb r to))

index_adds : (s : Screen) → Adds (marks_indexed s)
unfolding marks_indexed
index_adds s = if_adds (eqb s.row s.bottom) (marks_scrolled 1 s) (λ m. m) (moved_adds 1 s.top (s.bottom + 1)) same_adds

reverse_adds : (s : Screen) → Adds (marks_reverse_indexed s)
reverse_adds s = if_adds (eqb s.row s.top) (marks_scrolled 1 s) (λ m. m) (moved_adds 1 s.top (s.bottom + 1)) same_adds

lines_adds : (n : ℕ) (s : Screen) → Adds (marks_lines_moved n s)
lines_adds n s =
    if_adds (is_between_margins s) (moved_marked n s.row (s.bottom + 1)) (λ m. m) (moved_adds n s.row (s.bottom + 1)) same_adds

row_adds : (row : ℕ) → Adds (row_marked row)
row_adds row = also_adds (λ r. eqb r row)

page_adds : (extent : Extent) (s : Screen) → Adds (marks_erased_in_page extent s)
page_adds extent s =
    then_adds (row_marked s.row) (rows_marked (page_from extent s.row) (page_to extent s.rows s.row)) (row_adds s.row)
    (also_adds (λ r. leb (page_from extent s.row) r && ltb r (page_to extent s.rows s.row)))

unguarded_adds : (cols : ℕ) (cells : List Glyph) (top bottom from to : ℕ) → Adds (unguarded_marked cols cells top bottom from to)
unfolding unguarded_marked
unguarded_adds cols cells top bottom from to = also_adds (λ r. leb top r && ltb r bottom && has_unguarded cols cells r from to)

selective_page_adds : (extent : Extent) (s : Screen) → Adds (marks_erased_selectively_in_page extent s)
selective_page_adds extent s =
    then_adds (marks_erased_selectively_in_line extent s)
    (unguarded_marked s.cols s.cells (page_from extent s.row) (page_to extent s.rows s.row) 0 s.cols)
    (unguarded_adds s.cols s.cells s.row (s.row + 1) (line_from extent s.col) (line_to extent s.cols s.col))
    (unguarded_adds s.cols s.cells (page_from extent s.row) (page_to extent s.rows s.row) 0 s.cols)

settled_adds : (s : Screen) → Adds (marks_settled s)
unfolding marks_settled
settled_adds s = if_adds s.pending (marks_indexed s) (λ m. m) (index_adds s) same_adds

room_adds : (width : ℕ) (w : Writing) (s : Screen) → Adds (marks_with_room width w s)
room_adds width w s =
    if_adds (eqb width 2 && eqb (s.col + 1) s.cols && w.wraps) (marks_indexed s) (λ m. m) (index_adds s) same_adds

put_adds : (x : Glyph) (w : Writing) (s : Screen) → Adds (marks_put x w s)
unfolding marks_put
put_adds x w s =
    let row = (with_room (columns x) w (wrap_done s)).row in
    then_adds (λ m. marks_with_room (columns x) w (wrap_done s) (marks_settled s m)) (row_marked row)
    (then_adds (marks_settled s) (marks_with_room (columns x) w (wrap_done s)) (settled_adds s) (room_adds (columns x) w (wrap_done s)))
    (row_adds row)

put_all_adds : (xs : List Glyph) (w : Writing) (s : Screen) → Adds (marks_put_all xs w s)
unfolding marks_put_all
put_all_adds [] w s = same_adds
put_all_adds (x ∷ xs) w s = then_adds (marks_put x w s) (marks_put_all xs w (put_on x w s)) (put_adds x w s) (put_all_adds xs w (put_on x w s))

joined_in_adds : (col c : ℕ) (s : Screen) → Adds (marks_joined_in col c s)
joined_in_adds col c s = also_adds (λ r. eqb r s.row && joins col c s)

joined_adds : (c : ℕ) (s : Screen) → Adds (marks_joined c s)
unfolding marks_joined
joined_adds c s =
    if_adds s.pending (marks_joined_in s.col c s) (λ m. cond (eqb s.col 0) m (marks_joined_in (s.col - 1) c s m)) (joined_in_adds s.col c s)
    (if_adds (eqb s.col 0) (λ m. m) (marks_joined_in (s.col - 1) c s) same_adds (joined_in_adds (s.col - 1) c s))

-- ---- the terminal's

motion_adds : (motion : Motion) (s : Screen) → Adds (marks_moved_by motion s)
motion_adds LineFeed s = index_adds s
motion_adds Index s = index_adds s
motion_adds NextLine s = index_adds (after_carriage_return s)
motion_adds ReverseIndex s = reverse_adds s
motion_adds motion s = same_adds

edit_adds : (edit : Edit) (s : Screen) → Adds (marks_edited_by edit s)
edit_adds (InsertCells n) s = moved_adds n s.row (s.row + 1)
edit_adds (DeleteCells n) s = moved_adds n s.row (s.row + 1)
edit_adds (InsertLines n) s = lines_adds n s
edit_adds (DeleteLines n) s = lines_adds n s
edit_adds (ScrollUp n) s = moved_adds n s.top (s.bottom + 1)
edit_adds (ScrollDown n) s = moved_adds n s.top (s.bottom + 1)
edit_adds Align s = all_adds

erasure_adds : (erasure : Erasure) (s : Screen) → Adds (marks_erased_by erasure s)
erasure_adds (InPage extent) s = page_adds extent s
erasure_adds (InLine extent) s = row_adds s.row
erasure_adds (SelectivelyInPage extent) s = selective_page_adds extent s
erasure_adds (SelectivelyInLine extent) s =
    unguarded_adds s.cols s.cells s.row (s.row + 1) (line_from extent s.col) (line_to extent s.cols s.col)
erasure_adds (Cells n) s = row_adds s.row

printed_adds : (c : ℕ) (l : Live) → Adds (marks_printed c l)
printed_adds c l =
    let d = mapped_by (in_use l.sets) c in
    if_adds (eqb (width_of d) 0) (marks_joined d l.screen) (marks_put (glyph_in d l.pen) (writing_under l.modes) l.screen)
    (joined_adds d l.screen) (put_adds (glyph_in d l.pen) (writing_under l.modes) l.screen)

repeated_adds : (n : ℕ) (o : Option ℕ) (l : Live) → Adds (marks_repeated n o l)
repeated_adds n None l = same_adds
repeated_adds n (Some c) l =
    let xs = replicate n (glyph_in c l.pen) in
    if_adds (eqb (width_of c) 0) (λ m. m) (marks_put_all xs (writing_under l.modes) l.screen) same_adds
    (put_all_adds xs (writing_under l.modes) l.screen)

chosen_adds : (on : Bool) (l : Live) → Adds (marks_chosen on l)
chosen_adds on l =
    if_adds (on && not l.alternate) (λ m. all_on) (λ m. cond (not on && l.alternate) all_on m) all_adds
    (if_adds (not on && l.alternate) (λ m. all_on) (λ m. m) all_adds same_adds)

private_adds : (on : Bool) (l : Live) (p : ℕ) → Adds (marks_private_mode on l p)
private_adds on l p =
    if_adds (is_alternate_mode p) (marks_chosen on l) (marks_followed p) (chosen_adds on l)
    (if_adds (eqb p 5) (λ m. all_on) (λ m. m) all_adds same_adds)

privates_add : (on : Bool) (ps : List ℕ) (l : Live) → Adds (marks_private_modes on l ps)
privates_add on [] l = same_adds
privates_add on (p ∷ ps) l =
    let k = private_mode_set on l p in
    then_adds (marks_private_mode on l p) (marks_private_modes on k ps) (private_adds on l p) (privates_add on ps k)

setting_adds : (setting : Setting) (params : List ℕ) (l : Live) → Adds (marks_set_by setting params l)
setting_adds (PrivateMode on) params l = privates_add on params l
setting_adds Reset params l = all_adds
setting_adds setting params l = same_adds

command_adds : (command : Command) (params : List ℕ) (l : Live) → Adds (marks_performed command params l)
command_adds (Prints c) params l = printed_adds c l
command_adds (Moves motion) params l = motion_adds motion l.screen
command_adds (Erases erasure) params l = erasure_adds erasure l.screen
command_adds (Edits edit) params l = edit_adds edit l.screen
command_adds (Sets setting) params l = setting_adds setting params l
command_adds (Repeats n) params l = repeated_adds n l.printed l
command_adds command params l = same_adds

function_adds : (f : Function) (l : Live) → Adds (marked_by f l)
unfolding marked_by
function_adds (Size rows cols) l = all_adds
function_adds (Print c) l = command_adds (command_of (Print c)) (parameters_of (Print c)) l
function_adds (C0 b) l = command_adds (command_of (C0 b)) (parameters_of (C0 b)) l
function_adds (C1 b) l = command_adds (command_of (C1 b)) (parameters_of (C1 b)) l
function_adds (Esc inter b) l = command_adds (command_of (Esc inter b)) (parameters_of (Esc inter b)) l
function_adds (Csi marker params inter b) l = command_adds (command_of (Csi marker params inter b)) (parameters_of (Csi marker params inter b)) l

through_adds : (l : Live) (fs : List Function) → Adds (marked_through l fs)
through_adds l [] = same_adds
through_adds l (f ∷ fs) = then_adds (marked_by f l) (marked_through (changed_by f l) fs) (function_adds f l) (through_adds (changed_by f l) fs)

pub marks_are_added : MarksAreAdded
marks_are_added l fs = through_adds l fs

-- a row without a mark afterwards had none
stays_by : (a b : Bool) → (a || b) ≡ false → a ≡ false
stays_by true b e = e
stays_by false b e = refl

pub off_before : (l : Live) (fs : List Function) (m : List Bool) (r : ℕ) → r < 200 → is_marked (marked_through l fs m) r ≡ false → is_marked m r ≡ false
off_before l fs m r h off = stays_by (is_marked m r) (is_marked (marked_through l fs all_off) r) (sym (through_adds l fs m r h) ∙ off)

pub privates_off : (on : Bool) (l : Live) (ps : List ℕ) (m : List Bool) (r : ℕ) → r < 200
    → is_marked (marks_private_modes on l ps m) r ≡ false → is_marked m r ≡ false
privates_off on l ps m r h off =
    stays_by (is_marked m r) (is_marked (marks_private_modes on l ps all_off) r) (sym (privates_add on ps l m r h) ∙ off)
