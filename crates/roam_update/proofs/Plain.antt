-- Cells that are read, brought to a size or put into places are ones that a screen may show.
use Rattle.std.proofs.Common.{◌≡◌, ℕ, zero, suc, ◌+◌, ◌*◌, ◌/◌, ◌%◌, ◌<◌, Bool, true, false, cond, eqb, ltb, leb, ◌&&◌, List, [], ◌∷◌, length, get_or, drop, set, Option, Some, None, refl, sym, ap, subst, ◌∙◌, arith, length-set}
use Rattle.std.specs.Prelude.{All, option_and_then, slice_index}
use Rattle.std.specs.Char.{IsScalar}
use Rattle.std.proofs.lemmas.Bool.{and_parts, ltb-true}
use Rattle.std.proofs.lemmas.Option.{cond_some, option_and_then_some}
use Rattle.std.proofs.lemmas.List.Elements.{All-nil, All-cons, All-head, All-tail, All-set, All-from_get_or}
use Rattle.byteorder.specs.Endian.{big_number}
use Rattle.roam_cells.specs.declared.styles.Style.{Style}
use Rattle.roam_cells.specs.Glyph.{Glyph, is_text, is_wide, space_in, blank}
use Rattle.roam_cells.specs.Place.{cell_at}
use Rattle.roam_screens.specs.Screenshot.{Screenshot, IsScreenshot}
use Rattle.roam_cells.proofs.CellLists.{space_in_shown, blank_shown}
use Rattle.roam_cells.proofs.Places.{get_or-table, place_of, place_below}
use Rattle.roam_update.specs.CellText.{Front, IsPlain, is_scalar, is_style, point_read, points_read, style_read, form_after, head_size, glyph_of, glyph_read, cell_size, cell_read, cells_read}
use Rattle.roam_update.specs.Styles.{Form, is_used_up}
use Rattle.roam_update.specs.ChangeText.{may_begin, runs_read}
use Rattle.roam_update.specs.Put.{runs_put}
use Rattle.roam_update.specs.Runs.{Run, with_cells_at, patched_cells}
use Rattle.roam_update.specs.Sizes.{sized_cells, sized_at}
use Rattle.roam_update.proofs.Sizing.{length_sized}
use Rattle.roam_update.proofs.Testing.{scalar_is, style_is}

-- ---- cells that are read

module _ {A : Type 0} where
  -- there is a result if the test is true
  pub if_some : (b : Bool) (o : Option A) (y : A) → cond b o None ≡ Some y → (b ≡ true) × (o ≡ Some y)
  if_some true o y e = (refl, e)
  if_some false o y e = absurd cc

pub point_scalar : (text : List ℕ) (c : ℕ) → point_read text ≡ Some c → IsScalar c
point_scalar text c e =
    let a = cond_some (leb 4 (length text) && is_scalar (big_number 4 text)) (big_number 4 text) c e in
    let b = and_parts (leb 4 (length text)) (is_scalar (big_number 4 text)) a.0 in
    subst IsScalar a.1 (scalar_is (big_number 4 text) b.1)

points_scalar : (n : ℕ) (text : List ℕ) (ps : List ℕ) → points_read n text ≡ Some ps → All IsScalar ps
points_scalar zero text ps e = let none : [] ≡ ps = cc in subst (All IsScalar) none (All-nil IsScalar)
points_scalar (suc n) text ps e =
    option_and_then_some (λ c. option_and_then (λ cs. Some (c ∷ cs)) (points_read n (drop 4 text))) (point_read text) ps e (λ c f g.
    option_and_then_some (λ (cs : List ℕ). Some (c ∷ cs)) (points_read n (drop 4 text)) ps g (λ cs h k.
    let same : c ∷ cs ≡ ps = cc in
    subst (All IsScalar) same (All-cons IsScalar c cs (point_scalar text c f) (points_scalar n (drop 4 text) cs h))))

glyph_of_plain : (ps : List ℕ) (style : Style) (g : Glyph) → All IsScalar ps → glyph_of ps style ≡ Some g → IsPlain g
glyph_of_plain ps style g h e =
    let a = cond_some (is_style style && is_text ps) (record { points = ps; style = style; guarded = false }) g e in
    let both = and_parts (is_style style) (is_text ps) a.0 in
    subst IsPlain a.1 (record { shown = record { text = both.1; scalars = h; style = style_is style both.0 }; unguarded = refl })

pub glyph_plain : (f : Form) (text : List ℕ) (g : Glyph) → glyph_read f text ≡ Some g → IsPlain g
glyph_plain f text g e =
    let m = head_size f in
    let a = if_some (leb m (length text) && leb (slice_index text 0) 3) _ g e in
    option_and_then_some (λ style. option_and_then (λ points. glyph_of points style) (points_read (slice_index text 0) (drop m text))) (style_read f text) g a.1 (λ style h k.
    option_and_then_some (λ (points : List ℕ). glyph_of points style) (points_read (slice_index text 0) (drop m text)) g k (λ ps j o.
    glyph_of_plain ps style g (points_scalar (slice_index text 0) (drop m text) ps j) o))

pub cells_plain : (form : Form) (n : ℕ) (text : List ℕ) (cs : Front (List Glyph)) → cells_read form n text ≡ Some cs → All IsPlain cs.value
unfolding cells_read
cells_plain form zero text cs e =
    let none : record { value = []; rest = text; form = form } ≡ cs = cc in
    subst (λ (f : Front (List Glyph)). All IsPlain f.value) none (All-nil IsPlain)
cells_plain form (suc n) text cs e =
    option_and_then_some
    (λ c. option_and_then (λ more. Some (record { value = c.value ∷ more.value; rest = more.rest; form = more.form })) (cells_read c.form n c.rest)) (cell_read form text) cs e (λ c f g.
    option_and_then_some (λ (more : Front (List Glyph)). Some (record { value = c.value ∷ more.value; rest = more.rest; form = more.form })) (cells_read c.form n c.rest) cs g (λ more h k.
    option_and_then_some (λ (x : Glyph). Some (record { value = x; rest = drop (cell_size form text) text; form = form_after form text })) (glyph_read form text) c f (λ x m o.
    let one : record { value = x; rest = drop (cell_size form text) text; form = form_after form text } ≡ c = cc in
    let here : IsPlain c.value = subst (λ (y : Front Glyph). IsPlain y.value) one (glyph_plain form text x m) in
    let same : record { value = c.value ∷ more.value; rest = more.rest; form = more.form } ≡ cs = cc in
    subst (λ (y : Front (List Glyph)). All IsPlain y.value) same (All-cons IsPlain c.value more.value here (cells_plain c.form n c.rest more h)))))

abbrev pub ArePlain : List Run → Type 0
ArePlain runs = All (λ (run : Run). All IsPlain run.cells) runs

pub runs_plain : (form : Form) (n least end : ℕ) (text : List ℕ) (runs : List Run) → runs_read form n least end text ≡ Some runs → ArePlain runs
unfolding runs_read
runs_plain form zero least end text runs e =
    let a = if_some (eqb (length text) 0 && is_used_up form) (Some []) runs e in
    let none : [] ≡ runs = cc a.1 in
    subst ArePlain none (All-nil (λ (run : Run). All IsPlain run.cells))
runs_plain form (suc n) least end text runs e =
    let a = if_some (may_begin least end text) _ runs e in
    let first = big_number 4 text in
    let len = big_number 4 (drop 4 text) in
    option_and_then_some
    (λ (cs : Front (List Glyph)). option_and_then (λ (more : List Run). Some (record { first = first; cells = cs.value } ∷ more)) (runs_read cs.form n (first + len + 1) end cs.rest))
    (cells_read form len (drop 8 text)) runs a.1 (λ cs f g.
    option_and_then_some (λ (more : List Run). Some (record { first = first; cells = cs.value } ∷ more)) (runs_read cs.form n (first + len + 1) end cs.rest) runs g (λ more h k.
    let same : record { first = first; cells = cs.value } ∷ more ≡ runs = cc in
    subst ArePlain same
    (All-cons (λ (run : Run). All IsPlain run.cells) (record { first = first; cells = cs.value }) more (cells_plain form len (drop 8 text) cs f) (runs_plain cs.form n (first + len + 1) end cs.rest more h))))

-- ---- cells that are put into places

placed_plain : (cells : List Glyph) (k : ℕ) (gs : List Glyph) → All IsPlain cells → All IsPlain gs → All IsPlain (with_cells_at cells k gs)
unfolding with_cells_at
placed_plain cells k [] h p = h
placed_plain cells k (g ∷ gs) h p =
    placed_plain (set cells k g) (k + 1) gs (All-set IsPlain cells k g (All-head IsPlain g gs p) h) (All-tail IsPlain g gs p)

pub patched_plain : (cells : List Glyph) (runs : List Run) → All IsPlain cells → ArePlain runs → All IsPlain (patched_cells cells runs)
unfolding patched_cells
patched_plain cells [] h p = h
patched_plain cells (run ∷ runs) h p =
    patched_plain (with_cells_at cells run.first run.cells) runs
    (placed_plain cells run.first run.cells h (All-head (λ (r : Run). All IsPlain r.cells) run runs p)) (All-tail (λ (r : Run). All IsPlain r.cells) run runs p)

pub put_plain : (form : Form) (n least : ℕ) (cells : List Glyph) (text : List ℕ) (after : List Glyph) → All IsPlain cells → runs_put form n least cells text ≡ Some after → All IsPlain after
put_plain form n least cells text after h e =
    option_and_then_some (λ (runs : List Run). Some (patched_cells cells runs)) (runs_read form n least (length cells) text) after e (λ runs f g.
    let same : patched_cells cells runs ≡ after = cc in
    subst (All IsPlain) same (patched_plain cells runs h (runs_plain form n least (length cells) text runs f)))

placed_length : (cells : List Glyph) (k : ℕ) (gs : List Glyph) → length (with_cells_at cells k gs) ≡ length cells
unfolding with_cells_at
placed_length cells k [] = refl
placed_length cells k (g ∷ gs) = placed_length (set cells k g) (k + 1) gs ∙ length-set cells k g

pub patched_length : (cells : List Glyph) (runs : List Run) → length (patched_cells cells runs) ≡ length cells
unfolding patched_cells
patched_length cells [] = refl
patched_length cells (run ∷ runs) = patched_length (with_cells_at cells run.first run.cells) runs ∙ placed_length cells run.first run.cells

pub put_length : (form : Form) (n least : ℕ) (cells : List Glyph) (text : List ℕ) (after : List Glyph) → runs_put form n least cells text ≡ Some after → length after ≡ length cells
put_length form n least cells text after e =
    option_and_then_some (λ (runs : List Run). Some (patched_cells cells runs)) (runs_read form n least (length cells) text) after e (λ runs f g.
    let same : patched_cells cells runs ≡ after = cc in
    sym (ap length same) ∙ patched_length cells runs)

-- ---- cells that are brought to a size

module _ (cols : ℕ) (s : Screenshot) (r c : ℕ) (h : IsScreenshot s) where
  abbrev old : Glyph
  old = cell_at s.cols s.cells r c

  old_plain : r < s.rows → c < s.cols → IsPlain old
  old_plain p q =
      let k : r * s.cols + c < length s.cells = omega (arith, h.count, place_below s.rows s.cols r c p q) in
      record { shown = h.shown (r * s.cols + c) k; unguarded = h.unguarded (r * s.cols + c) k }

  kept_plain : (x y z : Bool) → ltb r s.rows ≡ x → ltb c s.cols ≡ y → IsPlain (cond (x && y) (cond z (space_in old) old) blank)
  kept_plain true true true a b =
      let was = old_plain (ltb-true r s.rows a) (ltb-true c s.cols b) in
      record { shown = space_in_shown old was.shown; unguarded = was.unguarded }
  kept_plain true true false a b = old_plain (ltb-true r s.rows a) (ltb-true c s.cols b)
  kept_plain true false z a b = record { shown = blank_shown; unguarded = refl }
  kept_plain false y z a b = record { shown = blank_shown; unguarded = refl }

  pub sized_at_plain : IsPlain (sized_at cols s r c)
  sized_at_plain = kept_plain (ltb r s.rows) (ltb c s.cols) (eqb (c + 1) cols && is_wide old) refl refl

pub sized_plain : (rows cols : ℕ) (s : Screenshot) → IsScreenshot s → All IsPlain (sized_cells rows cols s)
sized_plain rows cols s h =
    All-from_get_or IsPlain (sized_cells rows cols s) blank (λ k p.
    let at = place_of rows cols k (subst (λ (n : ℕ). k < n) (length_sized rows cols s) p) in
    let is : sized_at cols s (k / cols) (k % cols) ≡ get_or (sized_cells rows cols s) k blank =
    sym (get_or-table rows cols (sized_at cols s) (k / cols) (k % cols) blank at.0 at.1) ∙ ap (λ (j : ℕ). get_or (sized_cells rows cols s) j blank) at.2 in
    subst IsPlain is (sized_at_plain cols s (k / cols) (k % cols) h))
