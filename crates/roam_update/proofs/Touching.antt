-- How many cells are read, and that a base brought to a size has whole characters.
use Rattle.std.proofs.Common.{◌≡◌, ℕ, zero, suc, ◌+◌, ◌-◌, ◌<◌, Bool, true, false, cond, eqb, ltb, ◌&&◌, List, [], ◌∷◌, length, Some, refl, sym, ap, ◌∙◌, arith}
use Rattle.std.specs.Prelude.{option_and_then}
use Rattle.std.proofs.lemmas.Bool.{false≢true, ltb-true, eq-eqb}
use Rattle.std.proofs.lemmas.Option.{option_and_then_some}
use Rattle.roam_cells.specs.Glyph.{Glyph, is_wide, is_right_half, right_of, space_in, blank, is_wide_text, is_empty_text}
use Rattle.roam_cells.specs.Place.{cell_at, IsWholeAt, IsWholeLine, AreWhole}
use Rattle.roam_screens.specs.Screenshot.{Screenshot, IsScreenshot}
use Rattle.roam_cells.proofs.Places.{get_or-table}
use Rattle.roam_cells.proofs.CellLists.{is_wide-blank}
use Rattle.roam_update.specs.CellText.{Front, cell_read, cells_read}
use Rattle.roam_update.specs.Styles.{Form}
use Rattle.roam_update.specs.Sizes.{sized_cells, sized_at}
use Rattle.roam_update.proofs.Sizing.{kept_at}

pub cells_count : (form : Form) (n : ℕ) (text : List ℕ) (cs : Front (List Glyph)) → cells_read form n text ≡ Some cs → length cs.value ≡ n
unfolding cells_read
cells_count form zero text cs e = let none : record { value = []; rest = text; form = form } ≡ cs = cc in sym (ap (λ (f : Front (List Glyph)). length f.value) none)
cells_count form (suc n) text cs e =
    option_and_then_some
    (λ c. option_and_then (λ more. Some (record { value = c.value ∷ more.value; rest = more.rest; form = more.form })) (cells_read c.form n c.rest)) (cell_read form text) cs e (λ c f g.
    option_and_then_some (λ (more : Front (List Glyph)). Some (record { value = c.value ∷ more.value; rest = more.rest; form = more.form })) (cells_read c.form n c.rest) cs g (λ more h k.
    let same : record { value = c.value ∷ more.value; rest = more.rest; form = more.form } ≡ cs = cc in
    sym (ap (λ (f : Front (List Glyph)). length f.value) same) ∙ ap suc (cells_count c.form n c.rest more h)))

-- ---- rows

-- a property of a row's columns is one of any other row with the same cells
pub line_like : (cols : ℕ) (a b : ℕ → Glyph) → ((c : ℕ) → c < cols → a c ≡ b c) → IsWholeLine cols a → IsWholeLine cols b
line_like cols a b like h c p =
    record {
      wide = λ w.
          let both = (h c p).wide (ap is_wide (like c p) ∙ w) in
          (both.0, sym (like (c + 1) both.0) ∙ both.1 ∙ ap right_of (like c p));
      half = λ w.
          let both = (h c p).half (ap is_right_half (like c p) ∙ w) in
          (both.0, sym (ap is_wide (like (c - 1) (omega (arith, p)))) ∙ both.1);
    }

-- ---- a base brought to a size

module _ (cols : ℕ) (s : Screenshot) (h : IsScreenshot s) where
  abbrev old : ℕ → ℕ → Glyph
  old r c = cell_at s.cols s.cells r c

  wide_no_half : (ps : List ℕ) → is_empty_text ps ≡ true → is_wide_text ps ≡ false
  wide_no_half [] e = refl
  wide_no_half (p ∷ ps) e = absurd (false≢true e)

  -- a cell that is wide or a right half was there, and was not cut
  module _ (r c : ℕ) where
    was_there : (x y z : Bool) → ltb r s.rows ≡ x → ltb c s.cols ≡ y → (eqb (c + 1) cols && is_wide (old r c)) ≡ z
        → (P : Glyph → Type 0) → (P (space_in (old r c)) → ⊥) → (P blank → ⊥) → P (cond (x && y) (cond z (space_in (old r c)) (old r c)) blank)
        → (r < s.rows) × (c < s.cols) × ((eqb (c + 1) cols && is_wide (old r c)) ≡ false) × P (old r c)
    was_there true true true a b e P no_space no_blank h = absurd (no_space h)
    was_there true true false a b e P no_space no_blank h = (ltb-true r s.rows a, ltb-true c s.cols b, e, h)
    was_there true false z a b e P no_space no_blank h = absurd (no_blank h)
    was_there false y z a b e P no_space no_blank h = absurd (no_blank h)

    found : (P : Glyph → Type 0) → (P (space_in (old r c)) → ⊥) → (P blank → ⊥) → P (sized_at cols s r c)
        → (r < s.rows) × (c < s.cols) × ((eqb (c + 1) cols && is_wide (old r c)) ≡ false) × P (old r c)
    found P no_space no_blank h = was_there (ltb r s.rows) (ltb c s.cols) (eqb (c + 1) cols && is_wide (old r c)) refl refl refl P no_space no_blank h

  narrow_space : (g : Glyph) → is_wide (space_in g) ≡ true → ⊥
  narrow_space g e = false≢true (sym is_wide-blank ∙ e)

  not_last : (c : ℕ) (b : Bool) → b ≡ true → (eqb (c + 1) cols && b) ≡ false → ¬ (c + 1 ≡ cols)
  not_last c b w e n = false≢true (sym e ∙ ap (λ (x : Bool). eqb (c + 1) cols && x) w ∙ ap (λ (x : Bool). x && true) (eq-eqb (c + 1) cols n))

  whole_at : (r c : ℕ) → c < cols → IsWholeAt cols (sized_at cols s r) c
  whole_at r c p =
      record {
        wide = λ w.
            let f = found r c (λ g. is_wide g ≡ true) (narrow_space (old r c)) (λ e. false≢true (sym is_wide-blank ∙ e)) w in
            let both = (h.whole r f.0 c f.1).wide f.3 in
            let n = not_last c (is_wide (old r c)) f.3 f.2 in
            let room : c + 1 < cols = omega (arith, p, n) in
            let narrow : is_wide (old r (c + 1)) ≡ false = ap is_wide both.1 in
            let here : sized_at cols s r c ≡ old r c = kept_at cols s r c f.0 f.1 (λ e. absurd (n e)) in
            (room, kept_at cols s r (c + 1) f.0 both.0 (λ e. narrow) ∙ both.1 ∙ ap right_of (sym here));
        half = λ w.
            let f = found r c (λ g. is_right_half g ≡ true) false≢true false≢true w in
            let both = (h.whole r f.0 c f.1).half f.3 in
            let back : c - 1 + 1 ≡ c = omega (arith, both.0) in
            (both.0, ap is_wide (kept_at cols s r (c - 1) f.0 (omega (arith, f.1)) (λ e. absurd (omega (arith, e, back, p)))) ∙ both.1);
      }

pub sized_whole : (rows cols : ℕ) (s : Screenshot) → IsScreenshot s → AreWhole rows cols (sized_cells rows cols s)
sized_whole rows cols s h r p =
    line_like cols (sized_at cols s r) (cell_at cols (sized_cells rows cols s) r) (λ c q. sym (get_or-table rows cols (sized_at cols s) r c blank p q)) (λ c q. whole_at cols s h r c q)
