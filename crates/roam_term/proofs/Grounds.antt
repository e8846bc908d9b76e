-- The effect of control functions and characters on a ground terminal.
use Rattle.std.proofs.Common.{◌≡◌, ◌≤◌, ◌<◌, ℕ, zero, suc, ◌+◌, ◌-◌, ◌*◌, Bool, true, false, ◌&&◌, ltb, nat_lt, List, get_or, replicate, Option, Some, None, refl, sym, ap, ◌∙◌, subst, arith}
use Rattle.std.specs.Prelude.{if◌then◌else◌}
use Rattle.roam_cells.specs.Glyph.{Glyph, blank, default_style}
use Rattle.roam_cells.specs.Place.{cell_at}
use Rattle.roam_screens.specs.Screenshot.{blank_screenshot}
use Rattle.roam_cells.specs.declared.styles.Style.{Style}
use Rattle.roam_cells.proofs.Places.{get_or-table, length-table}
use Rattle.roam_grid.specs.Erasing.{page_blanked}
use Rattle.roam_grid.specs.Frames.{after_restart}
use Rattle.roam_grid.specs.Writing.{columns, joined_on}
use Rattle.roam_cells.specs.declared.extents.Extent.TheVariants.{All}
use Rattle.roam_rows.specs.Places.{Fresh, are_joined, in_row, mapped_cells, moved_at}
use Rattle.roam_rows.specs.Writing.{writing_source}
use Rattle.roam_rows.proofs.Mending.{mended-blank}
use Rattle.roam_rows.proofs.Vertical.{shown_by}
use Rattle.roam_text.specs.declared.functions.Function.TheVariants.{Print}
use Rattle.roam_cells.specs.declared.styles.Colour.TheVariants.{Rgb}
use Rattle.roam_controls.specs.Renditions.{coloured_style}
use Rattle.roam_term.specs.ControlFunctions.{hide_cursor, show_cursor, erase_all, place_cursor, reset_all, set_style, plain_style, mixture, layer_code}
use Rattle.roam_term.specs.Ground.{IsGround, ShowsScreen, IsSized, in_style}
use Rattle.roam_term.specs.GroundFunctions.{CursorIsPlaced, StyleIsSet, MixtureIsSet, CursorIsHidden, CursorIsShown, AllIsErased, CharacterIsPrinted, CharacterIsJoined, AllIsReset, character_in, with_cell}
use Rattle.roam_term.specs.Terminal.{Live, changed_by, reset}
use Rattle.roam_term.proofs.Cells.{by, written_half}
use Rattle.roam_term.proofs.Steps.{Constants, at_work, goes, restyles, mixes, hides, reveals, erases, joins, print_is, advances, pends, inked_hit}

-- the parts that stay
abbrev pub constants_of : Live → Constants
constants_of t =
    record {
      rows = t.screen.rows;
      cols = t.screen.cols;
      stops = t.screen.stops;
      other = t.other;
      modes = t.modes;
      sets = t.sets;
      saved = t.saved;
      saved_alternate = t.saved_alternate;
    }

-- a ground terminal with other cells, another cursor and another style
module _ (t : Live) (h : IsGround t) where
  standing : (cells : List Glyph) (row col : ℕ) (pending : Bool) (g : Style) (visible : Bool) (printed : Option ℕ)
      → in_style g (record t {
        screen = record t.screen { cells = cells; row = row; col = col; pending = pending };
        modes = record t.modes { cursor_visible = visible };
        printed = printed;
      })
      ≡ at_work (constants_of t) cells row col pending g visible printed
  standing cells row col pending g visible printed i = record {
    screen = record {
      rows = t.screen.rows;
      cols = t.screen.cols;
      cells = cells;
      row = row;
      col = col;
      pending = pending;
      top = h.top i;
      bottom = h.bottom i;
      stops = t.screen.stops;
    };
    other = t.other;
    alternate = h.main i;
    pen = record { style = g; guarded = false };
    modes = record {
      insert = h.replaces i;
      newline = t.modes.newline;
      cursor_keys = t.modes.cursor_keys;
      reverse_screen = h.reverse i;
      origin = h.origin i;
      autowrap = h.wraps i;
      cursor_visible = visible;
      bracketed_paste = t.modes.bracketed_paste;
      application_keypad = t.modes.application_keypad;
    };
    sets = record { g0 = h.ascii i; g1 = t.sets.g1; g2 = t.sets.g2; g3 = t.sets.g3; locked = h.locked i; single = h.single i };
    saved = t.saved;
    saved_alternate = t.saved_alternate;
    printed = printed;
  }

  pub in_a_style : (g : Style)
      → in_style g t ≡ at_work (constants_of t) t.screen.cells t.screen.row t.screen.col t.screen.pending g t.modes.cursor_visible t.printed
  in_a_style g = standing t.screen.cells t.screen.row t.screen.col t.screen.pending g t.modes.cursor_visible t.printed

  -- as it is, in the default style
  pub at_rest : t ≡ at_work (constants_of t) t.screen.cells t.screen.row t.screen.col t.screen.pending default_style t.modes.cursor_visible t.printed
  at_rest = ap (λ p. record t { pen = p }) h.pen ∙ in_a_style default_style

-- ---- ED 2

pub erased_shows : (rows cols : ℕ) (cells : List Glyph) (row col r c : ℕ) → r < rows → c < cols
    → cell_at cols (mapped_cells rows cols cells (page_blanked All row col)) r c ≡ blank
erased_shows rows cols cells row col r c p q =
    let source = page_blanked All row col in
    get_or-table rows cols (moved_at cols cells source) r c blank p q
    ∙ shown_by cols cells source r c (Fresh blank) (Fresh blank) (Fresh blank) refl refl refl
    ∙ mended-blank (ltb (c + 1) cols && are_joined (Fresh blank) (Fresh blank)) (ltb 0 c && are_joined (Fresh blank) (Fresh blank))

-- ---- the laws

pub cursor_is_placed : CursorIsPlaced
cursor_is_placed t g row col h a b c d =
    let k = constants_of t in
    ap (changed_by (place_cursor row col)) (in_a_style t h g)
    ∙ goes k t.screen.cells t.screen.row t.screen.col t.screen.pending g t.modes.cursor_visible t.printed row col a b c d
    ∙ sym (standing t h t.screen.cells (row - 1) (col - 1) false g t.modes.cursor_visible None)

pub style_is_set : StyleIsSet
style_is_set t g s h indexed =
    ap (changed_by (set_style s)) (in_a_style t h g)
    ∙ restyles (constants_of t) t.screen.cells t.screen.row t.screen.col t.screen.pending g t.modes.cursor_visible t.printed s indexed.foreground indexed.background
    ∙ sym (standing t h t.screen.cells t.screen.row t.screen.col t.screen.pending (plain_style s) t.modes.cursor_visible None)

pub mixture_is_set : MixtureIsSet
mixture_is_set t s layer r g b h is =
    ap (changed_by (mixture (layer_code layer) r g b)) (in_a_style t h s)
    ∙ mixes (constants_of t) t.screen.cells t.screen.row t.screen.col t.screen.pending s t.modes.cursor_visible t.printed layer r g b is
    ∙ sym (standing t h t.screen.cells t.screen.row t.screen.col t.screen.pending (coloured_style layer (Rgb r g b) s) t.modes.cursor_visible None)

pub cursor_is_hidden : CursorIsHidden
cursor_is_hidden t g h =
    ap (changed_by hide_cursor) (in_a_style t h g)
    ∙ hides (constants_of t) t.screen.cells t.screen.row t.screen.col t.screen.pending g t.modes.cursor_visible t.printed
    ∙ sym (standing t h t.screen.cells t.screen.row t.screen.col t.screen.pending g false None)

pub cursor_is_shown : CursorIsShown
cursor_is_shown t g h =
    ap (changed_by show_cursor) (in_a_style t h g)
    ∙ reveals (constants_of t) t.screen.cells t.screen.row t.screen.col t.screen.pending g t.modes.cursor_visible t.printed
    ∙ sym (standing t h t.screen.cells t.screen.row t.screen.col t.screen.pending g true None)

pub all_is_erased : AllIsErased
all_is_erased t g h =
    let cells = mapped_cells t.screen.rows t.screen.cols t.screen.cells (page_blanked All t.screen.row t.screen.col) in
    record {
      cells = cells;
      is =
          ap (changed_by erase_all) (in_a_style t h g)
          ∙ erases (constants_of t) t.screen.cells t.screen.row t.screen.col t.screen.pending g t.modes.cursor_visible t.printed
          ∙ sym (standing t h cells t.screen.row t.screen.col false g t.modes.cursor_visible None);
      count = length-table t.screen.rows t.screen.cols _;
      shows = erased_shows t.screen.rows t.screen.cols t.screen.cells t.screen.row t.screen.col;
    }

pub character_is_printed : CharacterIsPrinted
character_is_printed t g c h free some fits =
    let k = constants_of t in
    let x = character_in g c in
    let row = t.screen.row in
    let col = t.screen.col in
    let cells = t.screen.cells in
    let visible = t.modes.cursor_visible in
    let after = with_cell x t.screen in
    let put : changed_by (Print c) (in_style g t) ≡ _ =
    ap (changed_by (Print c)) (in_a_style t h g ∙ ap (λ b. at_work k cells row col b g visible t.printed) free)
    ∙ print_is k cells row col c g visible t.printed some h.row_in h.col_in fits in
    record {
      inside = λ less.
          put ∙ ap (λ s. record (at_work k cells row col false g visible t.printed) { screen = s; printed = Some c }) (advances k cells row col x (columns x) less)
          ∙ sym (standing t h after row (col + columns x) false g visible (Some c));
      last = λ most.
          put ∙ ap (λ s. record (at_work k cells row col false g visible t.printed) { screen = s; printed = Some c }) (pends k cells row col x (columns x) most)
          ∙ sym (standing t h after row (t.screen.cols - 1) true g visible (Some c));
      there = inked_hit k cells row col c g visible t.printed some h.row_in h.col_in fits;
      half = λ wide.
          get_or-table t.screen.rows t.screen.cols (moved_at t.screen.cols cells (in_row row (writing_source x col))) row (col + 1) _ h.row_in (fits wide)
          ∙ ap (λ b. moved_at t.screen.cols cells (by b x row col) row (col + 1)) wide ∙ written_half x t.screen.cols cells row col wide;
    }

pub character_is_joined : CharacterIsJoined
character_is_joined t g c h joiner =
    let e = in_a_style t h g in
    ap (changed_by (Print c)) e
    ∙ joins (constants_of t) c joiner t.screen.cells t.screen.row t.screen.col t.screen.pending g t.modes.cursor_visible t.printed
    ∙ sym (ap (λ (u : Live). record u { screen = joined_on c u.screen }) e)

-- ---- RIS

each_blank : (n k : ℕ) → get_or (replicate n blank) k blank ≡ blank
each_blank zero k = refl
each_blank (suc n) zero = refl
each_blank (suc n) (suc k) = each_blank n k

blank_if : (b : Bool) (x : Glyph) → x ≡ blank → (if b then x else blank) ≡ blank
blank_if true x e = e
blank_if false x e = refl

resets : (t : Live) → changed_by reset_all t ≡ reset t
unfolding changed_by
resets t = refl

reset_ground : (t : Live) → 1 ≤ t.screen.rows → 1 ≤ t.screen.cols → IsGround (reset t)
unfolding after_restart
reset_ground t tall broad = record {
  main = refl;
  row_in = omega (arith, tall);
  col_in = omega (arith, broad);
  top = refl;
  bottom = refl;
  ascii = refl;
  locked = refl;
  single = refl;
  replaces = refl;
  origin = refl;
  reverse = refl;
  wraps = refl;
  pen = refl;
}

reset_shows : (t : Live) (height width : ℕ) → height ≤ t.screen.rows → width ≤ t.screen.cols → ShowsScreen (reset t) (blank_screenshot height width)
unfolding after_restart
reset_shows t height width low narrow = record {
  rows = low;
  cols = narrow;
  places = λ i j p q.
      each_blank (t.screen.rows * t.screen.cols) (i * t.screen.cols + j)
      ∙ sym (blank_if (nat_lt i height && nat_lt j width) (cell_at width (replicate (height * width) blank) i j) (each_blank (height * width) (i * width + j)));
  cursor_row = refl;
  cursor_col = refl;
  visible = refl;
}

reset_sized : (t : Live) → IsSized t (reset t)
unfolding after_restart
reset_sized t = record { rows = refl; cols = refl }

pub all_is_reset : AllIsReset
all_is_reset t tall broad =
    let is = resets t in
    record {
      ground = subst IsGround (sym is) (reset_ground t tall broad);
      shows = λ height width low narrow. subst (λ u. ShowsScreen u (blank_screenshot height width)) (sym is) (reset_shows t height width low narrow);
      size = subst (IsSized t) (sym is) (reset_sized t);
    }
