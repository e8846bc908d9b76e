-- A plain terminal is brought to its ground state, except for its screen.
use Rattle.std.proofs.Common.{◌≡◌, ◌<◌, ℕ, ◌-◌, min, Bool, true, false, List, [], ◌∷◌, Option, None, refl, ap, ◌∙◌, arith}
use Rattle.std.specs.Prelude.{if◌then◌else◌}
use Rattle.std.proofs.lemmas.Bool.{lt-ltb}
use Rattle.roam_cells.specs.Glyph.{Glyph, default_style}
use Rattle.roam_cells.specs.declared.styles.Style.{Style}
use Rattle.roam_charset.specs.declared.charsets.Charset.{Charset}
use Rattle.roam_charset.specs.declared.charsets.Charset.TheVariants.{Ascii}
use Rattle.roam_charset.specs.declared.sets.Element.{Element}
use Rattle.roam_charset.specs.declared.sets.Element.TheVariants.{G0}
use Rattle.roam_grid.specs.Cursor.{moved_to}
use Rattle.roam_grid.specs.Scrolling.{with_margins}
use Rattle.roam_term.specs.ControlFunctions.{set_style}
use Rattle.roam_term.specs.Terminal.{Live, changed_by, live_after}
use Rattle.roam_term.proofs.Grounds.{constants_of}
use Rattle.roam_term.proofs.Steps.{Constants, at_work, restyles}
use Rattle.roam_repaint.specs.Repainted.{IsPlain}
use Rattle.roam_repaint.specs.Repainting.{designate_ascii, invoke_g0, wrap_on, full_margins}

-- a plain terminal, by what may be otherwise
module _ (k : Constants) where
  abbrev plain_work : List Glyph → ℕ → ℕ → Bool → ℕ → ℕ → Style → Bool → Bool → Charset → Element → Option ℕ → Live
  plain_work cells row col pending top bottom g wraps visible set locked printed =
      record {
        screen =
            record {
              rows = k.rows;
              cols = k.cols;
              cells = cells;
              row = row;
              col = col;
              pending = pending;
              top = top;
              bottom = bottom;
              stops = k.stops;
            };
        other = k.other;
        alternate = false;
        pen = record { style = g; guarded = false };
        modes = record k.modes { insert = false; reverse_screen = false; origin = false; autowrap = wraps; cursor_visible = visible };
        sets = record k.sets { g0 = set; locked = locked; single = None };
        saved = k.saved;
        saved_alternate = k.saved_alternate;
        printed = printed;
      }

  module _ (cells : List Glyph) (row col : ℕ) (pending : Bool) (top bottom : ℕ) (g : Style) (wraps visible : Bool) (set : Charset) (locked : Element)
      (printed : Option ℕ) where
    designates : changed_by designate_ascii (plain_work cells row col pending top bottom g wraps visible set locked printed)
        ≡ plain_work cells row col pending top bottom g wraps visible Ascii locked None
    unfolding changed_by
    designates = refl

    invokes : changed_by invoke_g0 (plain_work cells row col pending top bottom g wraps visible set locked printed)
        ≡ plain_work cells row col pending top bottom g wraps visible set G0 None
    unfolding changed_by
    invokes = refl

    wraps-on : changed_by wrap_on (plain_work cells row col pending top bottom g wraps visible set locked printed)
        ≡ plain_work cells row col pending top bottom g true visible set locked None
    unfolding changed_by
    wraps-on = refl

    abbrev margined : Bool → Live
    margined b =
        record (plain_work cells row col pending top bottom g wraps visible set locked printed) {
          screen =
              if b then (plain_work cells (min 0 (k.rows - 1)) (min 0 (k.cols - 1)) false 0 (k.rows - 1) g wraps visible set locked None).screen
              else (plain_work cells row col pending top bottom g wraps visible set locked None).screen;
          printed = None;
        }

    margins_full : 1 < k.rows → 0 < k.cols
        → changed_by full_margins (plain_work cells row col pending top bottom g wraps visible set locked printed)
        ≡ plain_work cells 0 0 false 0 (k.rows - 1) g wraps visible set locked None
    unfolding changed_by moved_to with_margins
    margins_full tall broad =
        let row_is : min 0 (k.rows - 1) ≡ 0 = omega arith in
        let col_is : min 0 (k.cols - 1) ≡ 0 = omega arith in
        ap margined (lt-ltb 0 (k.rows - 1) (omega (arith, tall)))
        ∙ ap (λ x. plain_work cells x (min 0 (k.cols - 1)) false 0 (k.rows - 1) g wraps visible set locked None) row_is
        ∙ ap (λ x. plain_work cells 0 x false 0 (k.rows - 1) g wraps visible set locked None) col_is

-- it is one of these
plain-is : (t : Live) → IsPlain t
    → t ≡ plain_work (constants_of t) t.screen.cells t.screen.row t.screen.col t.screen.pending t.screen.top t.screen.bottom t.pen.style
    t.modes.autowrap t.modes.cursor_visible t.sets.g0 t.sets.locked t.printed
plain-is t h i = record {
  screen = t.screen;
  other = t.other;
  alternate = h.main i;
  pen = record { style = t.pen.style; guarded = h.unguarded i };
  modes = record {
    insert = h.replaces i;
    newline = t.modes.newline;
    cursor_keys = t.modes.cursor_keys;
    reverse_screen = h.reverse i;
    origin = h.origin i;
    autowrap = t.modes.autowrap;
    cursor_visible = t.modes.cursor_visible;
    bracketed_paste = t.modes.bracketed_paste;
    application_keypad = t.modes.application_keypad;
  };
  sets = record { g0 = t.sets.g0; g1 = t.sets.g1; g2 = t.sets.g2; g3 = t.sets.g3; locked = t.sets.locked; single = h.single i };
  saved = t.saved;
  saved_alternate = t.saved_alternate;
  printed = t.printed;
}

pub grounded : (t : Live) → IsPlain t → 1 < t.screen.rows → 0 < t.screen.cols
    → live_after t (designate_ascii ∷ invoke_g0 ∷ wrap_on ∷ full_margins ∷ set_style default_style ∷ [])
    ≡ at_work (constants_of t) t.screen.cells 0 0 false default_style t.modes.cursor_visible None
grounded t h tall broad =
    let k = constants_of t in
    let cells = t.screen.cells in
    let row = t.screen.row in
    let col = t.screen.col in
    let pending = t.screen.pending in
    let top = t.screen.top in
    let bottom = t.screen.bottom in
    let g = t.pen.style in
    let wraps = t.modes.autowrap in
    let visible = t.modes.cursor_visible in
    ap (λ u. live_after u (designate_ascii ∷ invoke_g0 ∷ wrap_on ∷ full_margins ∷ set_style default_style ∷ [])) (plain-is t h)
    ∙ ap (λ u. live_after u (invoke_g0 ∷ wrap_on ∷ full_margins ∷ set_style default_style ∷ []))
    (designates k cells row col pending top bottom g wraps visible t.sets.g0 t.sets.locked t.printed)
    ∙ ap (λ u. live_after u (wrap_on ∷ full_margins ∷ set_style default_style ∷ []))
    (invokes k cells row col pending top bottom g wraps visible Ascii t.sets.locked None)
    ∙ ap (λ u. live_after u (full_margins ∷ set_style default_style ∷ []))
    (wraps-on k cells row col pending top bottom g wraps visible Ascii G0 None)
    ∙ ap (changed_by (set_style default_style)) (margins_full k cells row col pending top bottom g true visible Ascii G0 None tall broad)
    ∙ restyles k cells 0 0 false g visible None default_style tt tt
