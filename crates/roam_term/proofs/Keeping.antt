-- The live state of a terminal keeps screens of one size, whatever functions come.
use Rattle.std.proofs.Common.{◌≡◌, ℕ, zero, suc, ◌-◌, ◌<◌, Bool, true, false, not, ◌&&◌, ◌||◌, cond, eqb, ltb, leb, max, List, [], ◌∷◌, length, get_or, replicate, Option, Some, None, refl, sym, ap, ◌∙◌, subst, arith}
use Rattle.std.specs.Char.{IsScalar}
use Rattle.std.specs.List.{fold}
use Rattle.std.specs.Prelude.{unwrap_or}
use Rattle.std.proofs.lemmas.Bool.{false≢true, ltb-true, ltb-false, or_parts}
use Rattle.roam_cells.specs.Glyph.{Glyph, IsShown, IsStyle, blank}
use Rattle.roam_cells.proofs.CellLists.{cell_shown, default_is_style}
use Rattle.roam_cells.specs.Limits.{IsSize}
use Rattle.roam_cells.specs.Width.{width_of}
use Rattle.roam_charset.specs.Charsets.{special_graphics, character_of, mapped_by}
use Rattle.roam_charset.specs.declared.charsets.Charset.{Charset}
use Rattle.roam_charset.specs.declared.charsets.Charset.TheVariants.{Ascii, UnitedKingdom, DecSpecialGraphics}
use Rattle.roam_charset.specs.Sets.{in_use, spent}
use Rattle.roam_rows.proofs.Keeping.{AreCells, either, blank_cells, sized_cells}
use Rattle.roam_grid.specs.Screen.{Screen}
use Rattle.roam_grid.specs.Scrolling.{with_margins}
use Rattle.roam_grid.specs.Cursor.{after_carriage_return, after_index, moved_up, moved_down, wrap_cleared}
use Rattle.roam_grid.specs.Writing.{put_on, put_all, joined_on}
use Rattle.roam_grid.specs.Frames.{after_restart, leaving}
use Rattle.roam_grid.proofs.Keeping as grid
use Rattle.roam_grid.proofs.Keeping.{IsSound, Kept, kept_same, kept_then}
use Rattle.roam_text.specs.declared.functions.Function.{Function}
use Rattle.roam_text.specs.declared.functions.Function.TheVariants.{Print, C0, C1, Esc, Csi, Size}
use Rattle.roam_controls.specs.declared.commands.Command.{Command}
use Rattle.roam_controls.specs.declared.commands.Command.TheVariants.{Nothing, Prints, Moves, Erases, Edits, Shifts, Sets, Reports, Repeats}
use Rattle.roam_controls.specs.declared.motions.Motion.{Motion}
use Rattle.roam_controls.specs.declared.motions.Motion.TheVariants.{Backspace, CarriageReturn, LineFeed, Index, NextLine, Up, Down, Right, Left, NextLines, PreviousLines, Column, Row, Position, ReverseIndex, Tab, BackTab}
use Rattle.roam_controls.specs.declared.edits.Edit.{Edit}
use Rattle.roam_controls.specs.declared.edits.Edit.TheVariants.{InsertCells, DeleteCells, InsertLines, DeleteLines, ScrollUp, ScrollDown, Align}
use Rattle.roam_controls.specs.declared.erasures.Erasure.{Erasure}
use Rattle.roam_controls.specs.declared.erasures.Erasure.TheVariants.{InPage, InLine, SelectivelyInPage, SelectivelyInLine, Cells}
use Rattle.roam_controls.specs.declared.shifts.Shift.{Shift}
use Rattle.roam_controls.specs.declared.settings.Setting.{Setting}
use Rattle.roam_controls.specs.declared.settings.Setting.TheVariants.{Mode, PrivateMode, Rendition, Margins, Guard, Keypad, Save, Restore, SoftReset, Reset, SetStop, ClearStop, ClearStops}
use Rattle.roam_controls.specs.declared.reports.Report.{Report}
use Rattle.roam_controls.specs.declared.modes.Modes.{Modes}
use Rattle.roam_controls.specs.Commands.{or_move, or_erase, or_edit, or_shift, or_set, or_report, c0_command, c1_command, escape_command, repeat_of, plain_command, marked_command, intermediate_command, sequence_command, forgets}
use Rattle.roam_controls.specs.Motions.{c0_motion, c1_motion, motion_of}
use Rattle.roam_controls.specs.Edits.{edit_of, hash_edit}
use Rattle.roam_controls.specs.Erasures.{erasure_of, private_erasure}
use Rattle.roam_controls.specs.Parameters.{first, count}
use Rattle.roam_controls.specs.Shifts.{c0_shift, c1_shift, locking_shift, designation_of}
use Rattle.roam_controls.specs.Settings.{c1_setting, setting_of, private_setting, quoted_setting, exclaimed_setting, escape_setting}
use Rattle.roam_controls.specs.Reports.{report_of, private_report, secondary_report}
use Rattle.roam_cells.specs.Inks.{InkValue}
use Rattle.roam_term.specs.declared.pens.Saved.{Saved}
use Rattle.roam_term.specs.Pens.{plain_pen, nothing_saved}
use Rattle.roam_term.specs.Edits.{edited_by}
use Rattle.roam_term.specs.Erasures.{erased_by}
use Rattle.roam_term.specs.Motions.{row_under, after_home, moved_by}
use Rattle.roam_term.specs.Settings.{bottom_of, margins_set, after_private_mode}
use Rattle.roam_term.specs.Terminal.{Live, glyph_in, writing_under, written_on, printed_on, repeated_on, saved_on, kept_of, keepsake, restored_to, is_alternate_mode, screens_switched, screen_blanked, alternate_shown, main_shown, screen_chosen, soft_reset, reset, mode_set, private_mode_set, set_by, performed_by, commanded_by, changed_by, sized_to, started_live}
use Rattle.roam_controls.specs.Modes.{with_private_mode}
use Rattle.roam_term.proofs.Characters.{Each, IsProper}
use Rattle.roam_term.proofs.Colours.{styled_is}
use Rattle.roam_term.proofs.LastSizes.{size_by}
use Rattle.roam_term.proofs.Resizes.{rows-sized, cols-sized}

-- ---- screens

moved_kept : (motion : Motion) (modes : Modes) (s : Screen) → IsSound s → Kept s (moved_by motion modes s)
moved_kept Backspace modes s is = grid.backspaced_kept s is
moved_kept CarriageReturn modes s is = grid.carried_kept s is
moved_kept LineFeed modes s is =
    let first = grid.indexed_kept s is in
    either (Kept s) modes.newline (after_carriage_return (after_index s)) (after_index s)
    (λ e. kept_then s (after_index s) (after_carriage_return (after_index s)) first (grid.carried_kept (after_index s) first.sound)) (λ e. first)
moved_kept Index modes s is = grid.indexed_kept s is
moved_kept NextLine modes s is =
    let first = grid.carried_kept s is in
    kept_then s (after_carriage_return s) (after_index (after_carriage_return s)) first (grid.indexed_kept (after_carriage_return s) first.sound)
moved_kept (Up n) modes s is = grid.moved_up_kept s is n
moved_kept (Down n) modes s is = grid.moved_down_kept s is n
moved_kept (Right n) modes s is = grid.moved_right_kept s is n
moved_kept (Left n) modes s is = grid.moved_left_kept s is n
moved_kept (NextLines n) modes s is =
    let first = grid.moved_down_kept s is n in
    kept_then s (moved_down n s) (after_carriage_return (moved_down n s)) first (grid.carried_kept (moved_down n s) first.sound)
moved_kept (PreviousLines n) modes s is =
    let first = grid.moved_up_kept s is n in
    kept_then s (moved_up n s) (after_carriage_return (moved_up n s)) first (grid.carried_kept (moved_up n s) first.sound)
moved_kept ReverseIndex modes s is = grid.reverse_indexed_kept s is
moved_kept (Tab n) modes s is = grid.tabbed_kept n s is
moved_kept (BackTab n) modes s is = grid.back_tabbed_kept n s is
moved_kept (Column col) modes s is = grid.moved_to_kept s is s.row (col - 1)
moved_kept (Row row) modes s is = grid.moved_to_kept s is (row_under modes.origin row s) s.col
moved_kept (Position row col) modes s is = grid.moved_to_kept s is (row_under modes.origin row s) (col - 1)

erased_kept : (erasure : Erasure) (s : Screen) → IsSound s → Kept s (erased_by erasure s)
erased_kept (InPage extent) s is = grid.erased_in_page_kept s is extent
erased_kept (InLine extent) s is = grid.erased_in_line_kept s is extent
erased_kept (SelectivelyInPage extent) s is = grid.erased_selectively_in_page_kept s is extent
erased_kept (SelectivelyInLine extent) s is = grid.erased_selectively_in_line_kept s is extent
erased_kept (Cells n) s is = grid.cells_erased_kept s is (max n 1)

edited_kept : (edit : Edit) (s : Screen) → IsSound s → Kept s (edited_by edit s)
edited_kept (InsertCells n) s is = grid.cells_inserted_kept s is n
edited_kept (DeleteCells n) s is = grid.cells_deleted_kept s is n
edited_kept (InsertLines n) s is = grid.lines_inserted_kept n s is
edited_kept (DeleteLines n) s is = grid.lines_deleted_kept n s is
edited_kept (ScrollUp n) s is = grid.scrolled_up_kept s is n
edited_kept (ScrollDown n) s is = grid.scrolled_down_kept s is n
edited_kept Align s is = grid.aligned_kept s is

homed_kept : (origin : Bool) (s : Screen) → IsSound s → Kept s (after_home origin s)
homed_kept origin s is = grid.moved_to_kept s is (row_under origin 1 s) 0

bottom_low : (bottom : ℕ) (s : Screen) → IsSound s → bottom_of bottom s < s.rows
bottom_low bottom s is =
    either (λ k. k < s.rows) (eqb bottom 0 || ltb s.rows bottom) (s.rows - 1) (bottom - 1)
    (λ e. omega (arith, is.frame.row_in))
    (λ e. omega (arith, is.frame.row_in, ltb-false s.rows bottom (or_parts (eqb bottom 0) (ltb s.rows bottom) e).1))

margins_kept : (top bottom : ℕ) (origin : Bool) (s : Screen) → IsSound s → Kept s (margins_set top bottom origin s)
margins_kept top bottom origin s is =
    let t = with_margins (top - 1) (bottom_of bottom s) s in
    either (Kept s) (ltb (top - 1) (bottom_of bottom s)) (after_home origin t) s
    (λ e. let first = grid.with_margins_kept s is (top - 1) (bottom_of bottom s) (ltb-true (top - 1) (bottom_of bottom s) e)
    (bottom_low bottom s is) in
    kept_then s t (after_home origin t) first (homed_kept origin t first.sound))
    (λ e. kept_same s is)

private_kept : (on : Bool) (p : ℕ) (s : Screen) → IsSound s → Kept s (after_private_mode on p s)
private_kept on p s is =
    let same = kept_same s is in
    either (Kept s) (eqb p 6) (after_home on s) (cond (eqb p 7) (cond on s (wrap_cleared s)) s) (λ e. homed_kept on s is)
    (λ e. either (Kept s) (eqb p 7) (cond on s (wrap_cleared s)) s
    (λ k. either (Kept s) on s (wrap_cleared s) (λ j. same) (λ j. grid.wrap_cleared_kept s is)) (λ k. same))

-- ---- characters

each_at : (xs : List ℕ) → Each IsScalar xs → (k : ℕ) → IsScalar (get_or xs k 0)
each_at [] h k = refl
each_at (x ∷ xs) h zero = h.0
each_at (x ∷ xs) h (suc k) = each_at xs h.1 k

graphics_scalar : Each IsScalar special_graphics
graphics_scalar = (
  refl,
  (
    refl,
    (
      refl,
      (
        refl,
        (
          refl,
          (
            refl,
            (
              refl,
              (
                refl,
                (
                  refl,
                  (
                    refl,
                    (
                      refl,
                      (
                        refl,
                        (
                          refl,
                          (
                            refl,
                            (
                              refl,
                              (
                                refl,
                                (
                                  refl,
                                  (
                                    refl,
                                    (
                                      refl,
                                      (
                                        refl,
                                        (
                                          refl,
                                          (
                                            refl,
                                            (refl, (refl, (refl, (refl, (refl, (refl, (refl, (refl, (refl, (refl, tt)))))))))),
                                          ),
                                        ),
                                      ),
                                    ),
                                  ),
                                ),
                              ),
                            ),
                          ),
                        ),
                      ),
                    ),
                  ),
                ),
              ),
            ),
          ),
        ),
      ),
    ),
  ),
)

character_scalar : (set : Charset) (c : ℕ) → IsScalar c → IsScalar (character_of set c)
character_scalar Ascii c h = h
character_scalar UnitedKingdom c h = either IsScalar (eqb c 0x23) 0xA3 c (λ e. refl) (λ e. h)
character_scalar DecSpecialGraphics c h =
    either IsScalar (leb 0x5F c && leb c 0x7E) (get_or special_graphics (c - 0x5F) 0) c
    (λ e. each_at special_graphics graphics_scalar (c - 0x5F)) (λ e. h)

mapped_scalar : (set : Charset) (c : ℕ) → IsScalar c → IsScalar (mapped_by set c)
unfolding mapped_by
mapped_scalar set c h = either IsScalar (leb 0x21 c && leb c 0x7E) (character_of set c) c (λ e. character_scalar set c h) (λ e. h)

pub glyph_shown : (c : ℕ) (pen : InkValue) → eqb (width_of c) 0 ≡ false → IsScalar c → IsStyle pen.style → IsShown (glyph_in c pen)
glyph_shown c pen e h is = cell_shown c pen.style pen.guarded (ap (λ v. not v && true && true) e) h is

-- ---- what lives

abbrev pub IsPrinted : Option ℕ → Type 0
IsPrinted None = Unit {0}
IsPrinted (Some c) = IsScalar c

-- the saved state has a style that exists
abbrev pub IsSaved : Option Saved → Type 0
IsSaved None = Unit {0}
IsSaved (Some k) = IsStyle k.pen.style

-- the pen and the saved states of both screens have styles that exist
pub record IsInked (ink : InkValue) (main other : Option Saved) : Type 0 where
  pub pen : IsStyle ink.style
  pub saved : IsSaved main
  pub alternate : IsSaved other

plain_inked : IsInked plain_pen None None
plain_inked = record { pen = default_is_style; saved = tt; alternate = tt }

-- both screens are sound and of one size, what REP repeats is a character, and all that is written is in styles that there are
pub record IsLive (l : Live) : Type 0 where
  pub screen : IsSound l.screen
  pub other : AreCells l.screen.rows l.screen.cols l.other
  pub printed : IsPrinted l.printed
  pub inks : IsInked l.pen l.saved l.saved_alternate

-- such a state, with screens of the size of another's
pub record Lives (l m : Live) : Type 0 where
  pub rows : m.screen.rows ≡ l.screen.rows
  pub cols : m.screen.cols ≡ l.screen.cols
  pub live : IsLive m

cells_of_size : (s t : Screen) (cells : List Glyph) → Kept s t → AreCells s.rows s.cols cells → AreCells t.rows t.cols cells
cells_of_size s t cells kept are =
    subst (λ (n : ℕ). AreCells n t.cols cells) (sym kept.rows) (subst (λ (n : ℕ). AreCells s.rows n cells) (sym kept.cols) are)

goes : (l m : Live) → IsLive l → Kept l.screen m.screen → m.other ≡ l.other → IsPrinted m.printed
    → IsInked m.pen m.saved m.saved_alternate → Lives l m
goes l m is kept same printed inks = record {
  rows = kept.rows;
  cols = kept.cols;
  live = record {
    screen = kept.sound;
    other = subst (λ (cells : List Glyph). AreCells m.screen.rows m.screen.cols cells) (sym same)
        (cells_of_size l.screen m.screen l.other kept is.other);
    printed = printed;
    inks = inks;
  };
}

stays : (l m : Live) → IsLive l → m.screen ≡ l.screen → m.other ≡ l.other → m.printed ≡ l.printed
    → IsInked m.pen m.saved m.saved_alternate → Lives l m
stays l m is screen other printed inks =
    goes l m is (subst (Kept l.screen) (sym screen) (kept_same l.screen is.screen)) other (subst IsPrinted (sym printed) is.printed) inks

lives_same : (l : Live) → IsLive l → Lives l l
lives_same l is = record { rows = refl; cols = refl; live = is }

lives_then : (l m n : Live) → Lives l m → Lives m n → Lives l n
lives_then l m n h k = record { rows = k.rows ∙ h.rows; cols = k.cols ∙ h.cols; live = k.live }

-- ---- printing

written_lives : (c : ℕ) (l : Live) → IsScalar c → IsLive l → Lives l (written_on c l)
written_lives c l h is =
    let t = put_on (glyph_in c l.pen) (writing_under l.modes) l.screen in
    either (Lives l) (eqb (width_of c) 0) (record l { screen = joined_on c l.screen }) (record l { screen = t; printed = Some c })
    (λ e. goes l (record l { screen = joined_on c l.screen }) is (grid.joined_on_kept c l.screen h is.screen) refl is.printed is.inks)
    (λ e. goes l (record l { screen = t; printed = Some c }) is
    (grid.put_on_kept (glyph_in c l.pen) (writing_under l.modes) l.screen (glyph_shown c l.pen e h is.inks.pen) is.screen) refl h is.inks)

printed_lives : (c : ℕ) (l : Live) → IsScalar c → IsLive l → Lives l (printed_on c l)
unfolding printed_on
printed_lives c l h is =
    let m : Live = record l { sets = spent l.sets } in
    let d = mapped_by (in_use l.sets) c in
    let first = stays l m is refl refl refl is.inks in
    lives_then l m (written_on d m) first (written_lives d m (mapped_scalar (in_use l.sets) c h) first.live)

repeated_lives : (n : ℕ) (o : Option ℕ) (l : Live) → IsPrinted o → IsLive l → Lives l (repeated_on n o l)
repeated_lives n None l h is = lives_same l is
repeated_lives n (Some c) l h is =
    let t = put_all (replicate n (glyph_in c l.pen)) (writing_under l.modes) l.screen in
    either (Lives l) (eqb (width_of c) 0) l (record l { screen = t }) (λ e. lives_same l is)
    (λ e. goes l (record l { screen = t }) is
    (grid.put_all_kept n (glyph_in c l.pen) (writing_under l.modes) l.screen (glyph_shown c l.pen e h is.inks.pen) is.screen) refl
    is.printed is.inks)

-- ---- settings

saved_lives : (l : Live) → IsLive l → Lives l (saved_on l)
saved_lives l is =
    either (Lives l) l.alternate (record l { saved_alternate = Some (keepsake l) }) (record l { saved = Some (keepsake l) })
    (λ e. stays l (record l { saved_alternate = Some (keepsake l) }) is refl refl refl
    (record { pen = is.inks.pen; saved = is.inks.saved; alternate = is.inks.pen }))
    (λ e. stays l (record l { saved = Some (keepsake l) }) is refl refl refl
    (record { pen = is.inks.pen; saved = is.inks.pen; alternate = is.inks.alternate }))

restored_lives : (k : Saved) (l : Live) → IsStyle k.pen.style → IsLive l → Lives l (restored_to k l)
restored_lives k l pen is = goes l (restored_to k l) is
    (grid.restored_kept l.screen is.screen k.row k.col (k.pending && l.modes.autowrap)) refl is.printed
    (record { pen = pen; saved = is.inks.saved; alternate = is.inks.alternate })

unwrapped_is : (o : Option Saved) → IsSaved o → IsStyle (unwrap_or o nothing_saved).pen.style
unwrapped_is None h = default_is_style
unwrapped_is (Some k) h = h

kept_is : (l : Live) → IsLive l → IsStyle (kept_of l).pen.style
kept_is l is =
    unwrapped_is (cond l.alternate l.saved_alternate l.saved)
    (either IsSaved l.alternate l.saved_alternate l.saved (λ e. is.inks.alternate) (λ e. is.inks.saved))

switched_lives : (l : Live) → IsLive l → Lives l (screens_switched l)
switched_lives l is = record {
  rows = refl;
  cols = refl;
  live = record {
    screen = record {
      frame = record {
        size = is.screen.frame.size;
        row_in = is.screen.frame.row_in;
        col_in = is.screen.frame.col_in;
        pends = λ e. absurd (false≢true e);
        margins = is.screen.frame.margins;
        stops = is.screen.frame.stops;
      };
      cells = is.other;
    };
    other = is.screen.cells;
    printed = is.printed;
    inks = is.inks;
  };
}

blanked_lives : (l : Live) → IsLive l → Lives l (screen_blanked l)
blanked_lives l is = goes l (screen_blanked l) is (grid.all_blank_kept l.screen is.screen) refl is.printed is.inks

alternate_lives : (p : ℕ) (l : Live) → IsLive l → Lives l (alternate_shown p l)
alternate_lives p l is =
    either (Lives l) (eqb p 1049) (screen_blanked (screens_switched (saved_on l))) (screens_switched l)
    (λ e. let a = saved_lives l is in
    let b = switched_lives (saved_on l) a.live in
    let c = blanked_lives (screens_switched (saved_on l)) b.live in
    lives_then l (saved_on l) (screen_blanked (screens_switched (saved_on l))) a
    (lives_then (saved_on l) (screens_switched (saved_on l)) (screen_blanked (screens_switched (saved_on l))) b c))
    (λ e. switched_lives l is)

main_lives : (p : ℕ) (l : Live) → IsLive l → Lives l (main_shown p l)
main_lives p l is =
    let m = screens_switched l in
    let b = switched_lives l is in
    either (Lives l) (eqb p 1047) (screens_switched (screen_blanked l)) (cond (eqb p 1049) (restored_to (kept_of m) m) m)
    (λ e. let a = blanked_lives l is in lives_then l (screen_blanked l) (screens_switched (screen_blanked l)) a (switched_lives (screen_blanked l) a.live))
    (λ e. either (Lives l) (eqb p 1049) (restored_to (kept_of m) m) m
    (λ k. lives_then l m (restored_to (kept_of m) m) b (restored_lives (kept_of m) m (kept_is m b.live) b.live)) (λ k. b))

chosen_lives : (alternate : Bool) (p : ℕ) (l : Live) → IsLive l → Lives l (screen_chosen alternate p l)
chosen_lives alternate p l is =
    either (Lives l) (alternate && not l.alternate) (alternate_shown p l) (cond (not alternate && l.alternate) (main_shown p l) l)
    (λ e. alternate_lives p l is)
    (λ e. either (Lives l) (not alternate && l.alternate) (main_shown p l) l (λ k. main_lives p l is) (λ k. lives_same l is))

reset_lives : (l : Live) → IsLive l → Lives l (reset l)
reset_lives l is =
    let kept = grid.restarted_kept l.screen is.screen in
    record {
      rows = kept.rows;
      cols = kept.cols;
      live = record {
        screen = kept.sound;
        other = cells_of_size l.screen (after_restart l.screen) (replicate (length l.other) blank) kept
            (subst (λ (n : ℕ). AreCells l.screen.rows l.screen.cols (replicate n blank)) (sym is.other.count)
            (blank_cells l.screen.rows l.screen.cols));
        printed = tt;
        inks = plain_inked;
      };
    }

modes_live : (on : Bool) (params : List ℕ) (l : Live) → IsLive l → Lives l (fold (mode_set on) l params)
modes_live on [] l is = lives_same l is
modes_live on (p ∷ params) l is =
    let m = mode_set on l p in
    let first = stays l m is refl refl refl is.inks in
    lives_then l m (fold (mode_set on) m params) first (modes_live on params m first.live)

pub private_lives : (on : Bool) (p : ℕ) (l : Live) → IsLive l → Lives l (private_mode_set on l p)
private_lives on p l is =
    let m : Live = record l { modes = with_private_mode on p l.modes; screen = after_private_mode on p l.screen } in
    either (Lives l) (is_alternate_mode p) (screen_chosen on p l) m (λ e. chosen_lives on p l is)
    (λ e. goes l m is (private_kept on p l.screen is.screen) refl is.printed is.inks)

privates_live : (on : Bool) (params : List ℕ) (l : Live) → IsLive l → Lives l (fold (private_mode_set on) l params)
privates_live on [] l is = lives_same l is
privates_live on (p ∷ params) l is =
    let m = private_mode_set on l p in
    let first = private_lives on p l is in
    lives_then l m (fold (private_mode_set on) m params) first (privates_live on params m first.live)

set_lives : (setting : Setting) (params : List ℕ) (l : Live) → IsLive l → Lives l (set_by setting params l)
set_lives (Mode on) params l is = modes_live on params l is
set_lives (PrivateMode on) params l is = privates_live on params l is
set_lives Rendition params l is = stays l (set_by Rendition params l) is refl refl refl
    (record { pen = styled_is params l.pen.style is.inks.pen; saved = is.inks.saved; alternate = is.inks.alternate })
set_lives (Margins top bottom) params l is =
    goes l (set_by (Margins top bottom) params l) is (margins_kept top bottom l.modes.origin l.screen is.screen) refl is.printed is.inks
set_lives (Guard on) params l is = stays l (set_by (Guard on) params l) is refl refl refl
    (record { pen = is.inks.pen; saved = is.inks.saved; alternate = is.inks.alternate })
set_lives (Keypad application) params l is = stays l (set_by (Keypad application) params l) is refl refl refl is.inks
set_lives Save params l is = saved_lives l is
set_lives Restore params l is = restored_lives (kept_of l) l (kept_is l is) is
set_lives SoftReset params l is =
    goes l (soft_reset l) is (grid.with_margins_kept l.screen is.screen 0 (l.screen.rows - 1)
    (omega (arith, is.screen.frame.size.least_rows))
    (omega (arith, is.screen.frame.size.least_rows))) refl is.printed plain_inked
set_lives Reset params l is = reset_lives l is
set_lives SetStop params l is = goes l (set_by SetStop params l) is (grid.stop_set_kept l.screen is.screen) refl is.printed is.inks
set_lives ClearStop params l is = goes l (set_by ClearStop params l) is (grid.stop_cleared_kept l.screen is.screen) refl is.printed
    is.inks
set_lives ClearStops params l is = goes l (set_by ClearStops params l) is (grid.stops_cleared_kept l.screen is.screen) refl is.printed
    is.inks

-- ---- commands

-- a command that prints prints a Unicode scalar value
abbrev IsSaid : Command → Type 0
IsSaid (Prints c) = IsScalar c
IsSaid Nothing = Unit {0}
IsSaid (Moves motion) = Unit {0}
IsSaid (Erases erasure) = Unit {0}
IsSaid (Edits edit) = Unit {0}
IsSaid (Shifts shift) = Unit {0}
IsSaid (Sets setting) = Unit {0}
IsSaid (Reports report) = Unit {0}
IsSaid (Repeats n) = Unit {0}

performed_lives : (command : Command) (params : List ℕ) (l : Live) → IsSaid command → IsLive l → Lives l (performed_by command params l)
performed_lives Nothing params l h is = lives_same l is
performed_lives (Prints c) params l h is = printed_lives c l h is
performed_lives (Moves motion) params l h is =
    goes l (performed_by (Moves motion) params l) is (moved_kept motion l.modes l.screen is.screen) refl is.printed is.inks
performed_lives (Erases erasure) params l h is =
    goes l (performed_by (Erases erasure) params l) is (erased_kept erasure l.screen is.screen) refl is.printed is.inks
performed_lives (Edits edit) params l h is =
    goes l (performed_by (Edits edit) params l) is (edited_kept edit l.screen is.screen) refl is.printed is.inks
performed_lives (Shifts shift) params l h is = stays l (performed_by (Shifts shift) params l) is refl refl refl is.inks
performed_lives (Sets setting) params l h is = set_lives setting params l is
performed_lives (Reports report) params l h is = lives_same l is
performed_lives (Repeats n) params l h is = repeated_lives n l.printed l is.printed is

commanded_lives : (command : Command) (params : List ℕ) (l : Live) → IsSaid command → IsLive l → Lives l (commanded_by command params l)
commanded_lives command params l h is =
    let m = performed_by command params l in
    let first = performed_lives command params l h is in
    either (Lives l) (forgets command) (record m { printed = None }) m
    (λ e. lives_then l m (record m { printed = None }) first
    (goes m (record m { printed = None }) first.live (kept_same m.screen first.live.screen) refl tt first.live.inks))
    (λ e. first)

-- ---- the table

said_move : (o : Option Motion) (other : Command) → IsSaid other → IsSaid (or_move o other)
said_move (Some motion) other h = tt
said_move None other h = h

said_erase : (o : Option Erasure) (other : Command) → IsSaid other → IsSaid (or_erase o other)
said_erase (Some erasure) other h = tt
said_erase None other h = h

said_edit : (o : Option Edit) (other : Command) → IsSaid other → IsSaid (or_edit o other)
said_edit (Some edit) other h = tt
said_edit None other h = h

said_shift : (o : Option Shift) (other : Command) → IsSaid other → IsSaid (or_shift o other)
said_shift (Some shift) other h = tt
said_shift None other h = h

said_set : (o : Option Setting) (other : Command) → IsSaid other → IsSaid (or_set o other)
said_set (Some setting) other h = tt
said_set None other h = h

said_report : (o : Option Report) (other : Command) → IsSaid other → IsSaid (or_report o other)
said_report (Some report) other h = tt
said_report None other h = h

said_c0 : (b : ℕ) → IsSaid (c0_command b)
said_c0 b = said_move (c0_motion b) (or_shift (c0_shift b) Nothing) (said_shift (c0_shift b) Nothing tt)

said_c1 : (b : ℕ) → IsSaid (c1_command b)
said_c1 b =
    said_move (c1_motion b) (or_shift (c1_shift b) (or_set (c1_setting b) Nothing))
    (said_shift (c1_shift b) (or_set (c1_setting b) Nothing) (said_set (c1_setting b) Nothing tt))

said_escape : (inter : List ℕ) (b : ℕ) → IsSaid (escape_command inter b)
said_escape [] b = said_shift (locking_shift b) (or_set (escape_setting b) Nothing) (said_set (escape_setting b) Nothing tt)
said_escape (i ∷ []) b = said_shift (designation_of i b) (or_edit (hash_edit i b) Nothing) (said_edit (hash_edit i b) Nothing tt)
said_escape (i ∷ j ∷ more) b = tt

said_plain : (params : List ℕ) (b : ℕ) → IsSaid (plain_command params b)
said_plain params b =
    let again = repeat_of params b in
    let fifth = or_report (report_of params b) again in
    let fourth = or_edit (edit_of params b) fifth in
    let third = or_erase (erasure_of params b) fourth in
    let second = or_move (motion_of params b) third in
    said_set (setting_of params b) second
    (said_move (motion_of params b) third (said_erase (erasure_of params b) fourth (said_edit (edit_of params b) fifth
    (said_report (report_of params b) again
    (either IsSaid (eqb b 0x62) (Repeats (count (first params))) Nothing (λ e. tt) (λ e. tt))))))

said_marked : (marker : ℕ) (params : List ℕ) (b : ℕ) → IsSaid (marked_command marker params b)
said_marked marker params b =
    let second = or_report (private_report params b) Nothing in
    let first = or_erase (private_erasure params b) second in
    either IsSaid (eqb marker 0x3F) (or_set (private_setting b) first)
    (cond (eqb marker 0x3E) (or_report (secondary_report params b) Nothing) Nothing)
    (λ e. said_set (private_setting b) first
    (said_erase (private_erasure params b) second (said_report (private_report params b) Nothing tt)))
    (λ e. either IsSaid (eqb marker 0x3E) (or_report (secondary_report params b) Nothing) Nothing
    (λ k. said_report (secondary_report params b) Nothing tt) (λ k. tt))

said_intermediate : (i : ℕ) (params : List ℕ) (b : ℕ) → IsSaid (intermediate_command i params b)
said_intermediate i params b =
    either IsSaid (eqb i 0x21) (or_set (exclaimed_setting b) Nothing) (cond (eqb i 0x22) (or_set (quoted_setting params b) Nothing) Nothing)
    (λ e. said_set (exclaimed_setting b) Nothing tt)
    (λ e. either IsSaid (eqb i 0x22) (or_set (quoted_setting params b) Nothing) Nothing
    (λ k. said_set (quoted_setting params b) Nothing tt) (λ k. tt))

said_sequence : (marker : Option ℕ) (params inter : List ℕ) (b : ℕ) → IsSaid (sequence_command marker params inter b)
said_sequence None params [] b = said_plain params b
said_sequence (Some marker) params [] b = said_marked marker params b
said_sequence None params (i ∷ []) b = said_intermediate i params b
said_sequence (Some marker) params (i ∷ []) b = tt
said_sequence None params (i ∷ j ∷ more) b = tt
said_sequence (Some marker) params (i ∷ j ∷ more) b = tt

-- ---- functions

sized_live : (rows cols : ℕ) (l : Live) → IsSize rows cols → IsLive l → IsLive (sized_to rows cols l)
sized_live rows cols l size is =
    let s = grid.resized_kept rows cols (leaving rows l.screen) l.screen size is.screen in
    let cells = sized_cells rows cols 0 (record { rows = l.screen.rows; cols = l.screen.cols; cells = l.other; first = 0 }) is.other in
    record {
      screen = s.sound;
      other = subst (λ (n : ℕ). AreCells n (sized_to rows cols l).screen.cols (sized_to rows cols l).other) (sym s.rows)
          (subst (λ (n : ℕ). AreCells rows n (sized_to rows cols l).other) (sym s.cols) cells);
      printed = tt;
      inks = is.inks;
    }

abbrev pub size_of : Live → ℕ × ℕ
size_of l = (l.screen.rows, l.screen.cols)

pub record Follows (f : Function) (l m : Live) : Type 0 where
  pub size : size_of m ≡ size_by (size_of l) f
  pub live : IsLive m

follows : (f : Function) (l m : Live) → size_by (size_of l) f ≡ size_of l → Lives l m → Follows f l m
follows f l m same h = record { size = (λ i. (h.rows i, h.cols i)) ∙ sym same; live = h.live }

pub changed_lives : (f : Function) (l : Live) → IsProper f → IsLive l → Follows f l (changed_by f l)
unfolding changed_by
changed_lives (Size rows cols) l h is = record {
  size =
      (λ i. (rows-sized rows cols l i, cols-sized rows cols l i));
  live = sized_live rows cols l h is;
}
changed_lives (Print c) l h is = follows (Print c) l (commanded_by (Prints c) [] l) refl (commanded_lives (Prints c) [] l h is)
changed_lives (C0 b) l h is = follows (C0 b) l (commanded_by (c0_command b) [] l) refl (commanded_lives (c0_command b) [] l (said_c0 b) is)
changed_lives (C1 b) l h is = follows (C1 b) l (commanded_by (c1_command b) [] l) refl (commanded_lives (c1_command b) [] l (said_c1 b) is)
changed_lives (Esc inter b) l h is =
    follows (Esc inter b) l (commanded_by (escape_command inter.items b) [] l) refl
    (commanded_lives (escape_command inter.items b) [] l (said_escape inter.items b) is)
changed_lives (Csi marker params inter b) l h is =
    follows (Csi marker params inter b) l (commanded_by (sequence_command marker params.items inter.items b) params.items l) refl
    (commanded_lives (sequence_command marker params.items inter.items b) params.items l
    (said_sequence marker params.items inter.items b) is)

pub started_lives : (rows cols : ℕ) → IsSize rows cols → IsLive (started_live rows cols)
started_lives rows cols size = record { screen = grid.start_sound rows cols size; other = blank_cells rows cols; printed = tt; inks = plain_inked }
