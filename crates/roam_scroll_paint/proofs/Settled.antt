-- The text before the rows and behind them.
use Rattle.std.proofs.Common.{◌≡◌, ℕ, ◌-◌, Bool, false, List, [], ◌∷◌, ◌++◌, Option, refl, sym, ap, ◌∙◌, append_assoc}
use Rattle.std.specs.List.{flat_map}
use Rattle.std.proofs.lemmas.List.{append-nil}
use Rattle.std.proofs.lemmas.Grind.{flat_map-append}
use Rattle.roam_cells.specs.Glyph.{default_style}
use Rattle.roam_cells.specs.declared.styles.Style.{Style}
use Rattle.roam_screens.specs.Screenshot.{Screenshot}
use Rattle.roam_term.specs.Ground.{shown_at}
use Rattle.roam_paint.specs.Painting.{same_size}
use Rattle.roam_scroll_paint.specs.declared.bands.Band.{Band}
use Rattle.roam_scroll_paint.specs.Bands.{FitsBand, drawn_over, preparing}
use Rattle.roam_scroll_paint.specs.Sequences.{text_of}
use Rattle.roam_scroll_paint.specs.Styles.{styled_from}
use Rattle.roam_scroll_paint.specs.Rows.{placing_at, AddsRows}
use Rattle.roam_scroll_paint.specs.Painting.{settling, hiding, revealing, IsBody, IsPaintingText}

pub settling_text : (t : List ℕ) (new : Screenshot) (g : Style)
    → (t ++ flat_map text_of (styled_from g default_style)) ++ text_of (placing_at (new.cursor_row - 1) (new.cursor_col - 1))
    ≡ t ++ flat_map text_of (settling new g)
settling_text t new g =
    let a = styled_from g default_style in
    let f = placing_at (new.cursor_row - 1) (new.cursor_col - 1) in
    append_assoc t (flat_map text_of a) (text_of f)
    ∙ ap (λ l. t ++ (flat_map text_of a ++ l)) (sym (append-nil (text_of f)))
    ∙ ap (λ l. t ++ l) (sym (flat_map-append text_of a (f ∷ [])))

pub body_is : (old new : Screenshot) (band : Option Band) (style : Style) (before one two after : List ℕ) → FitsBand new.rows band
    → one ≡ before ++ flat_map text_of (preparing (same_size old new) band)
    → AddsRows (drawn_over old new band) (shown_at new) new.cols new.rows style one two
    → after ≡ two ++ flat_map text_of (settling new style) → IsBody old new before after
body_is old new band style before one two after fits p rows q =
    let a = preparing (same_size old new) band in
    let c = settling new style in
    record {
      band = band;
      fits = fits;
      style = style;
      rows = rows.functions;
      drawn = rows.drawn;
      added =
          q ∙ ap (λ l. l ++ flat_map text_of c) (rows.added ∙ ap (λ l. l ++ flat_map text_of rows.functions) p)
          ∙ append_assoc (before ++ flat_map text_of a) (flat_map text_of rows.functions) (flat_map text_of c)
          ∙ append_assoc before (flat_map text_of a) (flat_map text_of rows.functions ++ flat_map text_of c)
          ∙ ap (λ l. before ++ (flat_map text_of a ++ l)) (sym (flat_map-append text_of rows.functions c))
          ∙ ap (λ l. before ++ l) (sym (flat_map-append text_of a (rows.functions ++ c)));
    }

-- a body with what hides the cursor and shows it, or without
pub painting_is : (old new : Screenshot) (body text : List ℕ) (b : Bool) → IsBody old new [] body → (b ≡ false → old.visible ≡ new.visible)
    → text ≡ flat_map text_of (hiding b) ++ (body ++ flat_map text_of (revealing b new.visible)) → IsPaintingText old new text
painting_is old new body text b h stays is =
    let a = preparing (same_size old new) h.band in
    let c = settling new h.style in
    let d = revealing b new.visible in
    let first = hiding b in
    let tail : flat_map text_of (a ++ (h.rows ++ c)) ++ flat_map text_of d ≡ flat_map text_of (a ++ (h.rows ++ (c ++ d))) =
    sym (flat_map-append text_of (a ++ (h.rows ++ c)) d)
    ∙ ap (flat_map text_of) (append_assoc a (h.rows ++ c) d ∙ ap (λ l. a ++ l) (append_assoc h.rows c d)) in
    record {
      functions = first ++ (a ++ (h.rows ++ (c ++ d)));
      spelled =
          is ∙ ap (λ l. flat_map text_of first ++ (l ++ flat_map text_of d)) h.added ∙ ap (λ l. flat_map text_of first ++ l) tail
          ∙ sym (flat_map-append text_of first (a ++ (h.rows ++ (c ++ d))));
      painting = record {
        band = h.band;
        fits = h.fits;
        style = h.style;
        rows = h.rows;
        drawn = h.drawn;
        hides = b;
        stays = stays;
        all = refl;
      };
    }
