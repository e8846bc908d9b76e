-- Cells that say their styles in full have no mixtures, and so have those that are brought to a size or put into places.
use Rattle.std.proofs.Common.{◌≡◌, ℕ, zero, suc, ◌+◌, ◌*◌, ◌/◌, ◌%◌, ◌<◌, Bool, true, false, cond, eqb, ltb, leb, ◌&&◌, List, [], ◌∷◌, length, get_or, drop, set, Some, None, refl, sym, ap, subst, ◌∙◌, arith, inl, inr}
use Rattle.std.specs.Prelude.{All, option_and_then, slice_index}
use Rattle.std.proofs.lemmas.Bool.{and_from, ltb-true, cases_Bool}
use Rattle.std.proofs.lemmas.Option.{cond_some, option_and_then_some}
use Rattle.std.proofs.lemmas.List.Elements.{All-nil, All-cons, All-head, All-tail, All-set, All-from_get_or}
use Rattle.byteorder.specs.Endian.{big_number}
use Rattle.roam_cells.specs.declared.styles.Style.{Style}
use Rattle.roam_cells.specs.declared.styles.Colour.{Colour}
use Rattle.roam_cells.specs.declared.styles.Colour.TheVariants.{Default, Index}
use Rattle.roam_cells.specs.Glyph.{Glyph, is_text, is_wide, space_in, blank}
use Rattle.roam_screens.specs.Narrow.{IsOldScreenshot, is_plain_colour, is_plain_style}
use Rattle.roam_cells.specs.Place.{cell_at}
use Rattle.roam_screens.specs.Screenshot.{Screenshot}
use Rattle.roam_cells.proofs.Places.{get_or-table, place_of, place_below}
use Rattle.roam_update.specs.CellText.{Front, points_read, colour_read, style_of, whole_style, is_style, glyph_of, glyph_read, cell_size, cell_read, cells_read}
use Rattle.roam_update.specs.ChangeText.{may_begin, runs_read}
use Rattle.roam_update.specs.Put.{runs_put}
use Rattle.roam_update.specs.Runs.{Run, with_cells_at, patched_cells}
use Rattle.roam_update.specs.Sizes.{sized_cells, sized_at}
use Rattle.roam_update.specs.Styles.{Form, Whole, is_used_up}
use Rattle.roam_update.proofs.Plain.{if_some}
use Rattle.roam_update.proofs.Sizing.{length_sized}

abbrev pub IsShort : Glyph → Type 0
IsShort g = is_plain_style g.style ≡ true

-- ---- cells that are read

colour_short : (kind index : ℕ) (c : Colour) → colour_read kind index ≡ Some c → is_plain_colour c ≡ true
colour_short kind index c e =
    elim (cases_Bool (eqb kind 0 && eqb index 0)) [
      | inl h ↦ let f : Some Default ≡ Some c = rw h at e in let same : Default ≡ c = cc in ap is_plain_colour (sym same)
      | inr h ↦
          let f : cond (eqb kind 1) (Some (Index index)) None ≡ Some c = rw h at e in
          let a = cond_some (eqb kind 1) (Index index) c f in
          ap is_plain_colour (sym a.1)
    ]

style_short : (text : List ℕ) (s : Style) → whole_style text ≡ Some s → is_plain_style s ≡ true
style_short text s e =
    let f = slice_index text 1 in
    option_and_then_some
    (λ (fore : Colour). option_and_then (λ back. Some (style_of f fore back)) (colour_read (slice_index text 4) (slice_index text 5)))
    (colour_read (slice_index text 2) (slice_index text 3)) s e (λ fore p q.
    option_and_then_some (λ (back : Colour). Some (style_of f fore back)) (colour_read (slice_index text 4) (slice_index text 5)) s q (λ back r t.
    let same : style_of f fore back ≡ s = cc in
    subst (λ (x : Style). is_plain_style x ≡ true) same
    (and_from (is_plain_colour fore) (is_plain_colour back) (colour_short (slice_index text 2) (slice_index text 3) fore p) (colour_short (slice_index text 4) (slice_index text 5) back r))))

glyph_of_style : (ps : List ℕ) (style : Style) (g : Glyph) → is_plain_style style ≡ true → glyph_of ps style ≡ Some g → IsShort g
glyph_of_style ps style g h e =
    let a = cond_some (is_style style && is_text ps) (record { points = ps; style = style; guarded = false }) g e in
    subst IsShort a.1 h

glyph_short : (text : List ℕ) (g : Glyph) → glyph_read Whole text ≡ Some g → IsShort g
glyph_short text g e =
    let a = if_some (leb 6 (length text) && leb (slice_index text 0) 3) _ g e in
    option_and_then_some (λ (style : Style). option_and_then (λ points. glyph_of points style) (points_read (slice_index text 0) (drop 6 text))) (whole_style text) g a.1 (λ style h k.
    option_and_then_some (λ (points : List ℕ). glyph_of points style) (points_read (slice_index text 0) (drop 6 text)) g k (λ ps j o.
    glyph_of_style ps style g (style_short text style h) o))

-- cells that are read so, behind which styles are said in full
record AreShort (cs : Front (List Glyph)) : Type 0 where
  short : All IsShort cs.value
  form : cs.form ≡ Whole

cells_short : (n : ℕ) (text : List ℕ) (cs : Front (List Glyph)) → cells_read Whole n text ≡ Some cs → AreShort cs
unfolding cells_read
cells_short zero text cs e =
    let none : record { value = []; rest = text; form = Whole } ≡ cs = cc in
    subst AreShort none (record { short = All-nil IsShort; form = refl })
cells_short (suc n) text cs e =
    option_and_then_some
    (λ (c : Front Glyph). option_and_then (λ more. Some (record { value = c.value ∷ more.value; rest = more.rest; form = more.form })) (cells_read c.form n c.rest)) (cell_read Whole text) cs e (λ c f g.
    option_and_then_some (λ (more : Front (List Glyph)). Some (record { value = c.value ∷ more.value; rest = more.rest; form = more.form })) (cells_read c.form n c.rest) cs g (λ more h k.
    option_and_then_some (λ (x : Glyph). Some (record { value = x; rest = drop (cell_size Whole text) text; form = Whole })) (glyph_read Whole text) c f (λ x m o.
    let one : record { value = x; rest = drop (cell_size Whole text) text; form = Whole } ≡ c = cc in
    let here : IsShort c.value = subst (λ (y : Front Glyph). IsShort y.value) one (glyph_short text x m) in
    let whole : c.form ≡ Whole = ap (λ (y : Front Glyph). y.form) (sym one) in
    let rest = cells_short n c.rest more (ap (λ (w : Form). cells_read w n c.rest) (sym whole) ∙ h) in
    let same : record { value = c.value ∷ more.value; rest = more.rest; form = more.form } ≡ cs = cc in
    subst AreShort same (record { short = All-cons IsShort c.value more.value here rest.short; form = rest.form }))))

abbrev AreShortRuns : List Run → Type 0
AreShortRuns runs = All (λ (run : Run). All IsShort run.cells) runs

runs_short : (n least end : ℕ) (text : List ℕ) (runs : List Run) → runs_read Whole n least end text ≡ Some runs → AreShortRuns runs
unfolding runs_read
runs_short zero least end text runs e =
    let a = if_some (eqb (length text) 0 && is_used_up Whole) (Some []) runs e in
    let none : [] ≡ runs = cc a.1 in
    subst AreShortRuns none (All-nil (λ (run : Run). All IsShort run.cells))
runs_short (suc n) least end text runs e =
    let a = if_some (may_begin least end text) _ runs e in
    let first = big_number 4 text in
    let len = big_number 4 (drop 4 text) in
    option_and_then_some
    (λ (cs : Front (List Glyph)). option_and_then (λ (more : List Run). Some (record { first = first; cells = cs.value } ∷ more)) (runs_read cs.form n (first + len + 1) end cs.rest))
    (cells_read Whole len (drop 8 text)) runs a.1 (λ cs f g.
    let here = cells_short len (drop 8 text) cs f in
    option_and_then_some (λ (more : List Run). Some (record { first = first; cells = cs.value } ∷ more)) (runs_read cs.form n (first + len + 1) end cs.rest) runs g (λ more h k.
    let same : record { first = first; cells = cs.value } ∷ more ≡ runs = cc in
    let rest = runs_short n (first + len + 1) end cs.rest more (ap (λ (w : Form). runs_read w n (first + len + 1) end cs.rest) (sym here.form) ∙ h) in
    subst AreShortRuns same (All-cons (λ (run : Run). All IsShort run.cells) (record { first = first; cells = cs.value }) more here.short rest)))

-- ---- cells that are put into places

placed_short : (cells : List Glyph) (k : ℕ) (gs : List Glyph) → All IsShort cells → All IsShort gs → All IsShort (with_cells_at cells k gs)
unfolding with_cells_at
placed_short cells k [] h p = h
placed_short cells k (g ∷ gs) h p =
    placed_short (set cells k g) (k + 1) gs (All-set IsShort cells k g (All-head IsShort g gs p) h) (All-tail IsShort g gs p)

patched_short : (cells : List Glyph) (runs : List Run) → All IsShort cells → AreShortRuns runs → All IsShort (patched_cells cells runs)
unfolding patched_cells
patched_short cells [] h p = h
patched_short cells (run ∷ runs) h p =
    patched_short (with_cells_at cells run.first run.cells) runs
    (placed_short cells run.first run.cells h (All-head (λ (r : Run). All IsShort r.cells) run runs p)) (All-tail (λ (r : Run). All IsShort r.cells) run runs p)

pub put_short : (n least : ℕ) (cells : List Glyph) (text : List ℕ) (after : List Glyph) → All IsShort cells → runs_put Whole n least cells text ≡ Some after
    → All IsShort after
put_short n least cells text after h e =
    option_and_then_some (λ (runs : List Run). Some (patched_cells cells runs)) (runs_read Whole n least (length cells) text) after e (λ runs f g.
    let same : patched_cells cells runs ≡ after = cc in
    subst (All IsShort) same (patched_short cells runs h (runs_short n least (length cells) text runs f)))

-- ---- cells that are brought to a size

module _ (cols : ℕ) (s : Screenshot) (r c : ℕ) (h : IsOldScreenshot s) where
  abbrev old : Glyph
  old = cell_at s.cols s.cells r c

  old_short : r < s.rows → c < s.cols → IsShort old
  old_short p q = h.plain (r * s.cols + c) (omega (arith, h.screenshot.count, place_below s.rows s.cols r c p q))

  kept_short : (x y z : Bool) → ltb r s.rows ≡ x → ltb c s.cols ≡ y → IsShort (cond (x && y) (cond z (space_in old) old) blank)
  kept_short true true true a b = old_short (ltb-true r s.rows a) (ltb-true c s.cols b)
  kept_short true true false a b = old_short (ltb-true r s.rows a) (ltb-true c s.cols b)
  kept_short true false z a b = refl
  kept_short false y z a b = refl

  sized_at_short : IsShort (sized_at cols s r c)
  sized_at_short = kept_short (ltb r s.rows) (ltb c s.cols) (eqb (c + 1) cols && is_wide old) refl refl

pub sized_short : (rows cols : ℕ) (s : Screenshot) → IsOldScreenshot s → All IsShort (sized_cells rows cols s)
sized_short rows cols s h =
    All-from_get_or IsShort (sized_cells rows cols s) blank (λ k p.
    let at = place_of rows cols k (subst (λ (n : ℕ). k < n) (length_sized rows cols s) p) in
    let is : sized_at cols s (k / cols) (k % cols) ≡ get_or (sized_cells rows cols s) k blank =
    sym (get_or-table rows cols (sized_at cols s) (k / cols) (k % cols) blank at.0 at.1) ∙ ap (λ (j : ℕ). get_or (sized_cells rows cols s) j blank) at.2 in
    subst IsShort is (sized_at_short cols s (k / cols) (k % cols) h))
