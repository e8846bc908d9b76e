-- The text that the code writes is that of the definitions.
use Rattle.std.proofs.Common.{◌≡◌, ℕ, ◌-◌, List, [], ◌∷◌, ◌++◌, map, arith, refl, sym, ap, ◌∙◌, append_assoc}
use Rattle.std.specs.Prelude.{if◌then◌else◌}
use Rattle.std.specs.Char.{encode_utf8}
use Rattle.std.specs.Fmt.{digits}
use Rattle.std.specs.List.{flat_map}
use Rattle.std.proofs.lemmas.Grind.{flat_map-append}
use Rattle.roam_cells.specs.Glyph.{Glyph}
use Rattle.roam_cells.specs.Place.{cell_at}
use Rattle.roam_screens.specs.Screenshot.{Screenshot, IsScreenshot}
use Rattle.roam_paint.proofs.Places.{shown_inside}
use Rattle.roam_paint.specs.Painting.{functions_between, text_between}
use Rattle.roam_paint.specs.Sequences.{spelling_of}
use Rattle.roam_text.specs.declared.functions.Function.{Function}
use Rattle.roam_text.specs.declared.functions.Function.TheVariants.{Print}
use Rattle.roam_term.specs.ControlFunctions.{restyle}
use Rattle.roam_repaint.specs.Repainting.{Repaint, cell_there, finishing, rewritten, wrap_off, other_screen, repainting_rest, repaint_text}

-- texts of functions come one behind another
pub texts_append : (b : List ℕ) (fs gs : List Function)
    → (b ++ flat_map spelling_of fs) ++ flat_map spelling_of gs ≡ b ++ flat_map spelling_of (fs ++ gs)
texts_append b fs gs =
    append_assoc b (flat_map spelling_of fs) (flat_map spelling_of gs) ∙ ap (λ l. b ++ l) (sym (flat_map-append spelling_of fs gs))

abbrev pub opening_text : List ℕ
opening_text = 0x1B ∷ 0x28 ∷ 0x42 ∷ 0x0F ∷ 0x1B ∷ 0x5B ∷ 0x3F ∷ 0x37 ∷ 0x68 ∷ 0x1B ∷ 0x5B ∷ 0x30 ∷ 0x72 ∷ 0x1B ∷ 0x5B ∷ 0x30 ∷ 0x6D ∷ []

pub whole_text : (b : List ℕ) (r : Repaint)
    → ((b ++ opening_text) ++ text_between (other_screen r.shot) r.shot) ++ flat_map spelling_of (finishing r) ≡ b ++ repaint_text r
unfolding repainting_rest text_between digits
whole_text b r =
    let painted = flat_map spelling_of (functions_between (other_screen r.shot) r.shot) in
    let end = flat_map spelling_of (finishing r) in
    ap (λ l. l ++ end) (append_assoc b opening_text painted)
    ∙ append_assoc b (opening_text ++ painted) end
    ∙ ap (λ l. b ++ (opening_text ++ l)) (sym (flat_map-append spelling_of (functions_between (other_screen r.shot) r.shot) (finishing r)))

printed : (points : List ℕ) → flat_map spelling_of (map Print points) ≡ flat_map encode_utf8 points
printed [] = refl
printed (c ∷ cs) = ap (λ l. encode_utf8 c ++ l) (printed cs)

-- a cell's style, and its code points
pub cell_text : (b : List ℕ) (x : Glyph)
    → (b ++ flat_map spelling_of (restyle x.style)) ++ flat_map encode_utf8 x.points ≡ b ++ flat_map spelling_of (rewritten x)
cell_text b x =
    ap (λ l. (b ++ flat_map spelling_of (restyle x.style)) ++ l) (sym (printed x.points)) ∙ texts_append b (restyle x.style) (map Print x.points)

-- the terminal's state at the end
pub finishing_text : (b : List ℕ) (r : Repaint)
    → ((b ++ flat_map spelling_of (if r.pending then rewritten (cell_there r.shot) else [])) ++ flat_map spelling_of (restyle r.style))
    ++ flat_map spelling_of (if r.wraps then [] else wrap_off ∷ [])
    ≡ b ++ flat_map spelling_of (finishing r)
finishing_text b r =
    let one = if r.pending then rewritten (cell_there r.shot) else [] in
    let two = restyle r.style in
    let three = if r.wraps then [] else wrap_off ∷ [] in
    texts_append (b ++ flat_map spelling_of one) two three ∙ texts_append b one (two ++ three)

-- the cell at the cursor is one of the screen's
pub there_is : (s : Screenshot) → IsScreenshot s → cell_there s ≡ cell_at s.cols s.cells (s.cursor_row - 1) (s.cursor_col - 1)
there_is s h =
    let row_to = h.cursor.row_to in
    let row_from = h.cursor.row_from in
    let col_to = h.cursor.col_to in
    let col_from = h.cursor.col_from in
    shown_inside s (s.cursor_row - 1) (s.cursor_col - 1) (omega (arith, row_to, row_from)) (omega (arith, col_to, col_from))

-- DECAWM is reset
pub wraps_off : flat_map spelling_of (wrap_off ∷ []) ≡ 0x1B ∷ 0x5B ∷ 0x3F ∷ 0x37 ∷ 0x6C ∷ []
unfolding digits
wraps_off = refl
