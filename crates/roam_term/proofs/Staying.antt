-- A row without a mark shows the same cells as before.
use Rattle.std.proofs.Common.{◌≡◌, ℕ, zero, suc, ◌-◌, ◌<◌, Bool, true, false, not, ◌&&◌, cond, eqb, ltb, max, List, [], ◌∷◌, replicate, Option, Some, None, refl, sym, ap, ◌∙◌, subst, arith}
use Rattle.std.specs.List.{fold}
use Rattle.std.proofs.lemmas.Bool.{false≢true}
use Rattle.roam_cells.specs.Glyph.{is_right_half}
use Rattle.roam_cells.specs.Place.{cell_at, glyph_at}
use Rattle.roam_cells.specs.Width.{width_of}
use Rattle.roam_charset.specs.Charsets.{mapped_by}
use Rattle.roam_charset.specs.Sets.{in_use, spent}
use Rattle.roam_controls.specs.Commands.{forgets}
use Rattle.roam_controls.specs.Modes.{with_mode, with_private_mode}
use Rattle.roam_controls.specs.declared.commands.Command.{Command}
use Rattle.roam_controls.specs.declared.commands.Command.TheVariants.{Nothing, Prints, Moves, Erases, Edits, Shifts, Sets, Reports, Repeats}
use Rattle.roam_controls.specs.declared.edits.Edit.{Edit}
use Rattle.roam_controls.specs.declared.edits.Edit.TheVariants.{InsertCells, DeleteCells, InsertLines, DeleteLines, ScrollUp, ScrollDown, Align}
use Rattle.roam_controls.specs.declared.erasures.Erasure.{Erasure}
use Rattle.roam_controls.specs.declared.erasures.Erasure.TheVariants.{InPage, InLine, SelectivelyInPage, SelectivelyInLine, Cells}
use Rattle.roam_controls.specs.declared.modes.Modes.{Modes}
use Rattle.roam_controls.specs.declared.motions.Motion.{Motion}
use Rattle.roam_controls.specs.declared.motions.Motion.TheVariants.{LineFeed, Index, NextLine, ReverseIndex}
use Rattle.roam_controls.specs.declared.settings.Setting.{Setting}
use Rattle.roam_controls.specs.declared.settings.Setting.TheVariants.{Mode, PrivateMode, Rendition, Margins, Guard, Keypad, Save, Restore, SoftReset, Reset, SetStop, ClearStop, ClearStops}
use Rattle.roam_grid.specs.Cursor.{after_backspace, after_carriage_return, after_index, moved_to, moved_up, moved_down, moved_right, moved_left, wrap_cleared, after_restoring}
use Rattle.roam_grid.specs.Laws.{ShowsUnmarked}
use Rattle.roam_grid.specs.Marks.{is_marked, all_on, marks_joined, marks_put, marks_put_all}
use Rattle.roam_grid.specs.Screen.{Screen, IsScreen}
use Rattle.roam_grid.specs.Scrolling.{with_margins}
use Rattle.roam_grid.specs.Tabbing.{after_tabs, after_back_tabs, stop_set, stop_cleared, stops_cleared}
use Rattle.roam_grid.specs.Writing.{put_on, put_all, joined_on}
use Rattle.roam_grid.proofs.Keeping as keeping
use Rattle.roam_grid.proofs.Keeping.{IsSound}
use Rattle.roam_grid.proofs.Named.{all_marked}
use Rattle.roam_grid.proofs.Unmarked as grid
use Rattle.roam_grid.proofs.UnmarkedPuts as puts
use Rattle.roam_rows.proofs.Keeping.{either}
use Rattle.roam_term.specs.Edits.{edited_by}
use Rattle.roam_term.specs.Erasures.{erased_by}
use Rattle.roam_term.specs.Marks.{marks_moved_by, marks_edited_by, marks_erased_by, marks_written, marks_printed, marks_repeated, marks_chosen, marks_followed, marks_private_mode, marks_private_modes, marks_set_by, marks_performed}
use Rattle.roam_term.specs.Motions.{after_home, moved_by}
use Rattle.roam_term.specs.Settings.{bottom_of, margins_set, after_private_mode}
use Rattle.roam_term.specs.Terminal.{Live, glyph_in, writing_under, written_on, printed_on, repeated_on, saved_on, keepsake, is_alternate_mode, alternate_shown, main_shown, screen_chosen, mode_set, private_mode_set, set_by, performed_by, commanded_by}
use Rattle.roam_term.proofs.Adding.{privates_off}
use Rattle.roam_term.proofs.Keeping.{IsLive, private_lives}

-- two live states show the same in a row
pub record Stays (l k : Live) (r : ℕ) : Type 0 where
  pub reverse : k.modes.reverse_screen ≡ l.modes.reverse_screen
  pub cells : (c : ℕ) → r < l.screen.rows → c < l.screen.cols
      → cell_at l.screen.cols k.screen.cells r c ≡ cell_at l.screen.cols l.screen.cells r c

-- the same cells
same : (l k : Live) (r : ℕ) → k.modes.reverse_screen ≡ l.modes.reverse_screen → k.screen.cells ≡ l.screen.cells → Stays l k r
same l k r reverse cells = record { reverse = reverse; cells = λ c p q. ap (λ x. cell_at l.screen.cols x r c) cells }

itself : (l : Live) (r : ℕ) → Stays l l r
itself l r = same l l r refl refl

-- by the grid's law
by_grid : (l : Live) (t : Screen) (m new : List Bool) (r : ℕ) → ShowsUnmarked l.screen t m new → is_marked new r ≡ false
    → Stays l (record l { screen = t }) r
by_grid l t m new r shows off = record { reverse = refl; cells = λ c p q. shows.shows r c p q off }

-- no row is without a mark if all are on
pub none_off : {A : Type 0} (r : ℕ) → r < 200 → is_marked all_on r ≡ false → A
none_off r low off = absurd (false≢true (sym off ∙ all_marked r low))

-- one of two ways
one_of : (l : Live) (r : ℕ) (b : Bool) (m1 m2 : List Bool) (k1 k2 : Live) → (is_marked m1 r ≡ false → Stays l k1 r)
    → (is_marked m2 r ≡ false → Stays l k2 r) → is_marked (cond b m1 m2) r ≡ false → Stays l (cond b k1 k2) r
one_of l r true m1 m2 k1 k2 one two off = one off
one_of l r false m1 m2 k1 k2 one two off = two off

screen_of : (s : Screen) → IsSound s → IsScreen s
screen_of s is = record { frame = is.frame; size = is.cells.count; whole = is.cells.whole }

-- ---- printing

written_stays : (c : ℕ) (l : Live) (m : List Bool) (r : ℕ) → IsSound l.screen → is_marked (marks_written c l m) r ≡ false
    → Stays l (written_on c l) r
written_stays c l m r is off =
    let g = glyph_in c l.pen in
    let w = writing_under l.modes in
    one_of l r (eqb (width_of c) 0) (marks_joined c l.screen m) (marks_put g w l.screen m) (record l { screen = joined_on c l.screen })
    (record l { screen = put_on g w l.screen; printed = Some c })
    (λ e. by_grid l (joined_on c l.screen) m (marks_joined c l.screen m) r (puts.joined_shows l.screen m (screen_of l.screen is) c) e)
    (λ e. let h = by_grid l (put_on g w l.screen) m (marks_put g w l.screen m) r (puts.put_shows g w l.screen m (screen_of l.screen is) refl) e in
    record { reverse = refl; cells = h.cells })
    off

printed_stays : (c : ℕ) (l : Live) (m : List Bool) (r : ℕ) → IsSound l.screen → is_marked (marks_printed c l m) r ≡ false
    → Stays l (printed_on c l) r
unfolding printed_on
printed_stays c l m r is off =
    let k : Live = record l { sets = spent l.sets } in
    let h = written_stays (mapped_by (in_use l.sets) c) k m r is off in
    record { reverse = h.reverse; cells = h.cells }

no_half : (n : ℕ) (c : ℕ) (l : Live) (k : ℕ) → is_right_half (glyph_at (replicate n (glyph_in c l.pen)) k) ≡ false
no_half zero c l k = refl
no_half (suc n) c l zero = refl
no_half (suc n) c l (suc k) = no_half n c l k

repeated_stays : (n : ℕ) (o : Option ℕ) (l : Live) (m : List Bool) (r : ℕ) → IsSound l.screen → is_marked (marks_repeated n o l m) r ≡ false
    → Stays l (repeated_on n o l) r
repeated_stays n None l m r is off = itself l r
repeated_stays n (Some c) l m r is off =
    let xs = replicate n (glyph_in c l.pen) in
    let w = writing_under l.modes in
    one_of l r (eqb (width_of c) 0) m (marks_put_all xs w l.screen m) l (record l { screen = put_all xs w l.screen }) (λ e. itself l r)
    (λ e. by_grid l (put_all xs w l.screen) m (marks_put_all xs w l.screen m) r
    (puts.put_all_shows xs w l.screen m (screen_of l.screen is) (λ k h. no_half n c l k)) e)
    off

-- ---- moves, edits, erasures

moved_stays : (motion : Motion) (l : Live) (m : List Bool) (r : ℕ) → IsSound l.screen → is_marked (marks_moved_by motion l.screen m) r ≡ false
    → Stays l (record l { screen = moved_by motion l.modes l.screen }) r
unfolding after_backspace after_carriage_return moved_up moved_down moved_right moved_left moved_to after_tabs after_back_tabs
moved_stays LineFeed l m r is off =
    let s = l.screen in
    let h = by_grid l (after_index s) m (marks_moved_by LineFeed s m) r (grid.index_shows s m (screen_of s is)) off in
    either (λ (t : Screen). Stays l (record l { screen = t }) r) l.modes.newline (after_carriage_return (after_index s)) (after_index s)
    (λ e. record { reverse = refl; cells = h.cells }) (λ e. h)
moved_stays Index l m r is off = by_grid l (after_index l.screen) m (marks_moved_by Index l.screen m) r (grid.index_shows l.screen m (screen_of l.screen is)) off
moved_stays NextLine l m r is off =
    let s = after_carriage_return l.screen in
    let h = grid.index_shows s m (screen_of s (keeping.carried_kept l.screen is).sound) in
    record { reverse = refl; cells = λ c p q. h.shows r c p q off }
moved_stays ReverseIndex l m r is off =
    by_grid l (moved_by ReverseIndex l.modes l.screen) m (marks_moved_by ReverseIndex l.screen m) r (grid.reverse_shows l.screen m (screen_of l.screen is)) off
moved_stays motion l m r is off = same l (record l { screen = moved_by motion l.modes l.screen }) r refl refl

module _ (l : Live) (m : List Bool) (r : ℕ) (is : IsSound l.screen) where
  abbrev s : Screen
  s = l.screen

  abbrev whole : IsScreen s
  whole = screen_of s is

  edited_stays : (edit : Edit) → r < 200 → is_marked (marks_edited_by edit s m) r ≡ false → Stays l (record l { screen = edited_by edit s }) r
  edited_stays (InsertCells n) low off =
      by_grid l (edited_by (InsertCells n) s) m (marks_edited_by (InsertCells n) s m) r (grid.inserted_shows s m whole n) off
  edited_stays (DeleteCells n) low off =
      by_grid l (edited_by (DeleteCells n) s) m (marks_edited_by (DeleteCells n) s m) r (grid.deleted_shows s m whole n) off
  edited_stays (InsertLines n) low off =
      by_grid l (edited_by (InsertLines n) s) m (marks_edited_by (InsertLines n) s m) r (grid.lines_inserted_show s m whole n) off
  edited_stays (DeleteLines n) low off =
      by_grid l (edited_by (DeleteLines n) s) m (marks_edited_by (DeleteLines n) s m) r (grid.lines_deleted_show s m whole n) off
  edited_stays (ScrollUp n) low off =
      by_grid l (edited_by (ScrollUp n) s) m (marks_edited_by (ScrollUp n) s m) r (grid.up_shows s m whole n) off
  edited_stays (ScrollDown n) low off =
      by_grid l (edited_by (ScrollDown n) s) m (marks_edited_by (ScrollDown n) s m) r (grid.down_shows s m whole n) off
  edited_stays Align low off = none_off r low off

  erased_stays : (erasure : Erasure) → is_marked (marks_erased_by erasure s m) r ≡ false → Stays l (record l { screen = erased_by erasure s }) r
  erased_stays (InPage x) off =
      by_grid l (erased_by (InPage x) s) m (marks_erased_by (InPage x) s m) r (grid.page_shows s m whole x) off
  erased_stays (InLine x) off =
      by_grid l (erased_by (InLine x) s) m (marks_erased_by (InLine x) s m) r (grid.line_shows s m whole x) off
  erased_stays (SelectivelyInPage x) off =
      by_grid l (erased_by (SelectivelyInPage x) s) m (marks_erased_by (SelectivelyInPage x) s m) r (grid.page_shows_selective s m whole x) off
  erased_stays (SelectivelyInLine x) off =
      by_grid l (erased_by (SelectivelyInLine x) s) m (marks_erased_by (SelectivelyInLine x) s m) r (grid.line_shows_selective s m whole x) off
  erased_stays (Cells n) off =
      by_grid l (erased_by (Cells n) s) m (marks_erased_by (Cells n) s m) r (grid.erased_shows s m whole (max n 1) (omega arith)) off

-- ---- settings

chosen_stays : (on : Bool) (p : ℕ) (l : Live) (m : List Bool) (r : ℕ) → r < 200 → is_marked (marks_chosen on l m) r ≡ false
    → Stays l (screen_chosen on p l) r
chosen_stays on p l m r low off =
    one_of l r (on && not l.alternate) all_on (cond (not on && l.alternate) all_on m) (alternate_shown p l)
    (cond (not on && l.alternate) (main_shown p l) l) (λ e. none_off r low e)
    (λ e. one_of l r (not on && l.alternate) all_on m (main_shown p l) l (λ e. none_off r low e) (λ e. itself l r) e)
    off

-- a private mode but DECSCNM leaves it
reverse_same : (on : Bool) (p : ℕ) (m : Modes) → eqb p 5 ≡ false → (with_private_mode on p m).reverse_screen ≡ m.reverse_screen
reverse_same on p m other =
    let P : Modes → Type 0 = λ x. x.reverse_screen ≡ m.reverse_screen in
    let f = record m { bracketed_paste = on } in
    let e = cond (eqb p 2004) f m in
    let d = cond (eqb p 25) (record m { cursor_visible = on }) e in
    let c = cond (eqb p 7) (record m { autowrap = on }) d in
    let b = cond (eqb p 6) (record m { origin = on }) c in
    let a = cond (eqb p 5) (record m { reverse_screen = on }) b in
    either P (eqb p 1) (record m { cursor_keys = on }) a (λ h. refl)
    (λ h. either P (eqb p 5) (record m { reverse_screen = on }) b (λ h. absurd (false≢true (sym other ∙ h)))
    (λ h. either P (eqb p 6) (record m { origin = on }) c (λ h. refl)
    (λ h. either P (eqb p 7) (record m { autowrap = on }) d (λ h. refl)
    (λ h. either P (eqb p 25) (record m { cursor_visible = on }) e (λ h. refl)
    (λ h. either P (eqb p 2004) f m (λ h. refl) (λ h. refl))))))

private_cells : (on : Bool) (p : ℕ) (s : Screen) → (after_private_mode on p s).cells ≡ s.cells
unfolding moved_to wrap_cleared
private_cells on p s =
    let P : Screen → Type 0 = λ x. x.cells ≡ s.cells in
    let b = cond on s (wrap_cleared s) in
    either P (eqb p 6) (after_home on s) (cond (eqb p 7) b s) (λ h. refl)
    (λ h. either P (eqb p 7) b s (λ h. either P on s (wrap_cleared s) (λ h. refl) (λ h. refl)) (λ h. refl))

followed_stays : (on : Bool) (p : ℕ) (l : Live) (m : List Bool) (r : ℕ) → r < 200 → (b : Bool) → eqb p 5 ≡ b
    → is_marked (cond b all_on m) r ≡ false
    → Stays l (record l { modes = with_private_mode on p l.modes; screen = after_private_mode on p l.screen }) r
followed_stays on p l m r low true e off = none_off r low off
followed_stays on p l m r low false e off =
    same l (record l { modes = with_private_mode on p l.modes; screen = after_private_mode on p l.screen }) r
    (reverse_same on p l.modes e) (private_cells on p l.screen)

private_stays : (on : Bool) (p : ℕ) (l : Live) (m : List Bool) (r : ℕ) → r < 200 → is_marked (marks_private_mode on l p m) r ≡ false
    → Stays l (private_mode_set on l p) r
private_stays on p l m r low off =
    one_of l r (is_alternate_mode p) (marks_chosen on l m) (marks_followed p m) (screen_chosen on p l)
    (record l { modes = with_private_mode on p l.modes; screen = after_private_mode on p l.screen })
    (λ e. chosen_stays on p l m r low e) (λ e. followed_stays on p l m r low (eqb p 5) refl e) off

-- one after another, of one size
pub stays_then : (l k j : Live) (r : ℕ) → k.screen.rows ≡ l.screen.rows → k.screen.cols ≡ l.screen.cols → Stays l k r → Stays k j r → Stays l j r
stays_then l k j r rows cols one two = record {
  reverse = two.reverse ∙ one.reverse;
  cells = λ c p q.
      subst (λ (n : ℕ). cell_at n j.screen.cells r c ≡ cell_at n k.screen.cells r c) cols
      (two.cells c (omega (arith, rows, p)) (omega (arith, cols, q)))
      ∙ one.cells c p q;
}

privates_stay : (on : Bool) (ps : List ℕ) (l : Live) (m : List Bool) (r : ℕ) → r < 200 → IsLive l
    → is_marked (marks_private_modes on l ps m) r ≡ false → Stays l (fold (private_mode_set on) l ps) r
privates_stay on [] l m r low is off = itself l r
privates_stay on (p ∷ ps) l m r low is off =
    let k = private_mode_set on l p in
    let n = marks_private_mode on l p m in
    let lives = private_lives on p l is in
    stays_then l k (fold (private_mode_set on) k ps) r lives.rows lives.cols
    (private_stays on p l m r low (privates_off on k ps n r low off))
    (privates_stay on ps k n r low lives.live off)

mode_reverse : (on : Bool) (p : ℕ) (m : Modes) → (with_mode on p m).reverse_screen ≡ m.reverse_screen
mode_reverse on p m =
    let P : Modes → Type 0 = λ x. x.reverse_screen ≡ m.reverse_screen in
    let a = record m { newline = on } in
    either P (eqb p 4) (record m { insert = on }) (cond (eqb p 20) a m) (λ h. refl) (λ h. either P (eqb p 20) a m (λ h. refl) (λ h. refl))

modes_stay : (on : Bool) (ps : List ℕ) (l : Live) (r : ℕ) → Stays l (fold (mode_set on) l ps) r
modes_stay on [] l r = itself l r
modes_stay on (p ∷ ps) l r =
    let k = mode_set on l p in
    stays_then l k (fold (mode_set on) k ps) r refl refl (same l k r (mode_reverse on p l.modes) refl) (modes_stay on ps k r)

margins_cells : (top bottom : ℕ) (origin : Bool) (s : Screen) → (margins_set top bottom origin s).cells ≡ s.cells
unfolding moved_to with_margins
margins_cells top bottom origin s =
    either (λ (x : Screen). x.cells ≡ s.cells) (ltb (top - 1) (bottom_of bottom s))
    (after_home origin (with_margins (top - 1) (bottom_of bottom s) s)) s (λ h. refl) (λ h. refl)

saved_stays : (l : Live) (r : ℕ) → Stays l (saved_on l) r
saved_stays l r =
    either (λ (k : Live). Stays l k r) l.alternate (record l { saved_alternate = Some (keepsake l) }) (record l { saved = Some (keepsake l) })
    (λ h. record { reverse = refl; cells = λ c p q. refl }) (λ h. record { reverse = refl; cells = λ c p q. refl })

setting_stays : (setting : Setting) (params : List ℕ) (l : Live) (m : List Bool) (r : ℕ) → r < 200 → IsLive l
    → is_marked (marks_set_by setting params l m) r ≡ false → Stays l (set_by setting params l) r
unfolding with_margins after_restoring stop_set stop_cleared stops_cleared
setting_stays (Mode on) params l m r low is off = modes_stay on params l r
setting_stays (PrivateMode on) params l m r low is off = privates_stay on params l m r low is off
setting_stays Rendition params l m r low is off = same l (set_by Rendition params l) r refl refl
setting_stays (Margins top bottom) params l m r low is off =
    same l (set_by (Margins top bottom) params l) r refl (margins_cells top bottom l.modes.origin l.screen)
setting_stays (Guard on) params l m r low is off = same l (set_by (Guard on) params l) r refl refl
setting_stays (Keypad on) params l m r low is off = same l (set_by (Keypad on) params l) r refl refl
setting_stays Save params l m r low is off = saved_stays l r
setting_stays Restore params l m r low is off = same l (set_by Restore params l) r refl refl
setting_stays SoftReset params l m r low is off = same l (set_by SoftReset params l) r refl refl
setting_stays Reset params l m r low is off = none_off r low off
setting_stays SetStop params l m r low is off = same l (set_by SetStop params l) r refl refl
setting_stays ClearStop params l m r low is off = same l (set_by ClearStop params l) r refl refl
setting_stays ClearStops params l m r low is off = same l (set_by ClearStops params l) r refl refl

-- ---- commands and functions

performed_stays : (command : Command) (params : List ℕ) (l : Live) (m : List Bool) (r : ℕ) → r < 200 → IsLive l
    → is_marked (marks_performed command params l m) r ≡ false → Stays l (performed_by command params l) r
performed_stays Nothing params l m r low is off = itself l r
performed_stays (Prints c) params l m r low is off = printed_stays c l m r is.screen off
performed_stays (Moves motion) params l m r low is off = moved_stays motion l m r is.screen off
performed_stays (Erases erasure) params l m r low is off = erased_stays l m r is.screen erasure off
performed_stays (Edits edit) params l m r low is off = edited_stays l m r is.screen edit low off
performed_stays (Shifts shift) params l m r low is off = same l (performed_by (Shifts shift) params l) r refl refl
performed_stays (Sets setting) params l m r low is off = setting_stays setting params l m r low is off
performed_stays (Reports report) params l m r low is off = itself l r
performed_stays (Repeats n) params l m r low is off = repeated_stays n l.printed l m r is.screen off

pub commanded_stays : (command : Command) (params : List ℕ) (l : Live) (m : List Bool) (r : ℕ) → r < 200 → IsLive l
    → is_marked (marks_performed command params l m) r ≡ false → Stays l (commanded_by command params l) r
commanded_stays command params l m r low is off =
    let k = performed_by command params l in
    let h = performed_stays command params l m r low is off in
    either (λ (j : Live). Stays l j r) (forgets command) (record k { printed = None }) k
    (λ e. record { reverse = h.reverse; cells = h.cells }) (λ e. h)
