-- A row more.
use Rattle.std.proofs.Common.{◌≡◌, ◌≤◌, ◌<◌, ℕ, suc, ◌+◌, ◌*◌, false, inl, inr, List, [], ◌++◌, length, get_or, sym, ap, ◌∙◌, subst, arith, add-one, append_assoc}
use Rattle.std.specs.List.{flat_map}
use Rattle.std.proofs.lemmas.Bool.{cases_lt}
use Rattle.std.proofs.lemmas.List.{append-nil, get_or_past}
use Rattle.std.proofs.lemmas.Grind.{flat_map-append}
use Rattle.roam_cells.specs.Glyph.{Glyph, blank, default_style}
use Rattle.roam_cells.specs.Place.{glyph_at, row_of}
use Rattle.roam_cells.specs.declared.styles.Style.{Style}
use Rattle.roam_screens.specs.Screenshot.{Screenshot}
use Rattle.roam_screens.proofs.Lined.{row_at, length-row}
use Rattle.roam_term.specs.Ground.{shown_at}
use Rattle.roam_paint.specs.Painting.{Places}
use Rattle.roam_paint.proofs.Places.{shown_inside, shown_right}
use Rattle.roam_scroll_paint.specs.Sequences.{text_of}
use Rattle.roam_scroll_paint.specs.Rows.{Marks, KeepsMarks, row_functions, row_style_left, IsPlan, AreDrawn, nothing, stays, written, AddsRow, AddsRows}

-- a row of a screen shows the same as the screen there
pub row_shows : (p : Screenshot) (r c : ℕ) → r < p.rows → length p.cells ≡ p.rows * p.cols → shown_at p r c ≡ glyph_at (row_of p.cols p.cells r) c
row_shows p r c low count =
    elim (cases_lt c p.cols) [
      | inl q ↦ shown_inside p r c low q ∙ sym (row_at p.cols p.cells r c q)
      | inr q ↦ shown_right p r c q ∙ sym (get_or_past (row_of p.cols p.cells r) c blank (omega (arith, length-row p.rows p.cols p.cells r count low, q)))
    ]

-- marks that cover what differs make a plan
pub plan_of : (over new : Places) (cols r end : ℕ) (first second third : Marks) (was cells : List Glyph)
    → length cells ≡ cols → length third ≡ cols
    → ((c : ℕ) → over r c ≡ glyph_at was c) → ((c : ℕ) → new r c ≡ glyph_at cells c)
    → ((c : ℕ) → c < length cells → get_or first c false ≡ false → glyph_at was c ≡ glyph_at cells c)
    → KeepsMarks first second → KeepsMarks second third
    → end ≤ length cells → ((c : ℕ) → end ≤ c → c < length cells → glyph_at cells c ≡ blank)
    → IsPlan over new cols r third end
plan_of over new cols r end first second third was cells len marks_len shows is covers one two inside blanks = record {
  covers = λ c p off. shows c ∙ covers c (omega (arith, p, len)) (one c (two c off)) ∙ sym (is c);
  short = λ c p. get_or_past third c false (omega (arith, p, marks_len));
  inside = omega (arith, inside, len);
  blanks = λ c p q. is c ∙ blanks c p (omega (arith, q, len));
}

-- a row that is written
pub adds_written : (over new : Places) (cols r end : ℕ) (g h : Style) (before after : List ℕ) (marks : Marks) → IsPlan over new cols r marks end
    → after ≡ before ++ flat_map text_of (row_functions marks new cols r end g) → h ≡ row_style_left marks new cols r end g
    → AddsRow over new cols r g h before after
adds_written over new cols r end g h before after marks plan is left = record {
  functions = row_functions marks new cols r end g;
  added = is;
  drawn = λ fs drawn.
      subst (λ n. AreDrawn over new cols n h (fs ++ row_functions marks new cols r end g)) (sym (add-one r))
      (subst (λ s. AreDrawn over new cols (suc r) s (fs ++ row_functions marks new cols r end g)) (sym left) (written r end g fs marks drawn plan));
}

-- and one that stays
pub adds_nothing : (over new : Places) (cols r : ℕ) (g : Style) (before : List ℕ) → ((c : ℕ) → c < cols → over r c ≡ new r c)
    → AddsRow over new cols r g g before before
adds_nothing over new cols r g before same_row = record {
  functions = [];
  added = sym (append-nil before);
  drawn = λ fs drawn.
      subst (λ n. AreDrawn over new cols n g (fs ++ [])) (sym (add-one r))
      (subst (λ l. AreDrawn over new cols (suc r) g l) (sym (append-nil fs)) (stays r g fs drawn same_row));
}

-- rows so far, and one more
pub adds_first : (over new : Places) (cols : ℕ) (before : List ℕ) → AddsRows over new cols 0 default_style before before
adds_first over new cols before = record { functions = []; added = sym (append-nil before); drawn = nothing }

pub adds_more : (over new : Places) (cols r : ℕ) (g h : Style) (start before after : List ℕ) → AddsRows over new cols r g start before
    → AddsRow over new cols r g h before after → AddsRows over new cols (r + 1) h start after
adds_more over new cols r g h start before after rows row = record {
  functions = rows.functions ++ row.functions;
  added =
      row.added ∙ ap (λ l. l ++ flat_map text_of row.functions) rows.added
      ∙ append_assoc start (flat_map text_of rows.functions) (flat_map text_of row.functions)
      ∙ ap (λ l. start ++ l) (sym (flat_map-append text_of rows.functions row.functions));
  drawn = row.drawn rows.functions rows.drawn;
}
