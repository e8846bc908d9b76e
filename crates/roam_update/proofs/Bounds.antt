-- How long a diff's text with a table may be: 33 bytes a place, of which 9 are in the table, and 16.
use Rattle.std.proofs.Common.{◌≡◌, ℕ, ◌+◌, ◌*◌, ◌≤◌, Bool, true, false, List, [], ◌∷◌, ◌++◌, length, refl, sym, ap, ◌∙◌, arith, inl, inr, length-append}
use Rattle.std.specs.Prelude.{All}
use Rattle.std.proofs.lemmas.Bool.{cases_Bool}
use Rattle.std.proofs.lemmas.List.Elements.{All-head, All-tail}
use Rattle.roam_cells.specs.Glyph.{Glyph}
use Rattle.roam_screens.specs.Screenshot.{Screenshot, IsScreenshot}
use Rattle.roam_cells.specs.Same.{same}
use Rattle.roam_update.specs.CellText.{IsPlain, cell_text, cells_text}
use Rattle.roam_update.specs.ChangeText.{run_text, runs_text}
use Rattle.roam_update.specs.Runs.{Run, lead, runs_from}
use Rattle.roam_update.specs.Shots.{difference_two}
use Rattle.roam_update.specs.Sizes.{sized_cells}
use Rattle.roam_update.proofs.CellAgain.{few_points, length_cell}
use Rattle.roam_update.proofs.Sizing.{area, length_sized}
use Rattle.roam_update.proofs.Stretches.{lead_same, lead_more, lead_none, runs_same, runs_inside, runs_begin, runs_none}
use Rattle.roam_update.specs.Styles.{Form, Numbered, styles_used}
use Rattle.roam_update.specs.TableText.{entry_text, table_text}
use Rattle.roam_update.specs.Shots.{change_to}
use Rattle.roam_cells.specs.declared.styles.Style.{Style}
use Rattle.byteorder.specs.Endian.{big_bytes}
use Rattle.roam_update.proofs.ChangeAgain.{is_change_to}
use Rattle.roam_update.proofs.TableAgain.{length_entry}
use Rattle.roam_update.proofs.UsedUp.{count_all}
use Rattle.roam_update.proofs.Testing.{all_plain}

-- how cells say their styles by a table
abbrev by : List Style → Form
by table = Numbered table 0

module _ (table : List Style) where
  cell_bound : (g : Glyph) → IsPlain g → length (cell_text (by table) g) ≤ 16
  cell_bound g h = omega (arith, length_cell (by table) g, few_points g.points h.shown.text)

  -- the bytes of the rest of the run that has begun, and of the runs that follow
  abbrev weight : Bool → ℕ → List Glyph → List Glyph → ℕ
  weight true k bs cs = length (cells_text (by table) (lead bs cs)) + length (runs_text (by table) (runs_from true k bs cs))
  weight false k bs cs = length (runs_text (by table) (runs_from false k bs cs))

  none : (inside : Bool) (k : ℕ) (cs : List Glyph) → weight inside k [] cs ≡ 0
  none true k cs = rw (lead_none cs, runs_none true k cs) refl
  none false k cs = rw (runs_none false k cs) refl

  weight_same : (inside : Bool) (k : ℕ) (b c : Glyph) (bs cs : List Glyph) → same b c ≡ true → weight inside k (b ∷ bs) (c ∷ cs) ≡ weight false (k + 1) bs cs
  weight_same true k b c bs cs e =
      ap (λ (l : List Glyph). length (cells_text (by table) l) + length (runs_text (by table) (runs_from true k (b ∷ bs) (c ∷ cs)))) (lead_same b c bs cs e)
      ∙ ap (λ (l : List Run). 0 + length (runs_text (by table) l)) (runs_same b c bs cs true k e) ∙ omega arith
  weight_same false k b c bs cs e = ap (λ (l : List Run). length (runs_text (by table) l)) (runs_same b c bs cs false k e)

  weight_differs : (inside : Bool) (k : ℕ) (b c : Glyph) (bs cs : List Glyph) → same b c ≡ false
      → weight inside k (b ∷ bs) (c ∷ cs) ≤ 8 + length (cell_text (by table) c) + weight true (k + 1) bs cs
  weight_differs true k b c bs cs e =
      let a = ap (λ (l : List Glyph). length (cells_text (by table) l)) (lead_more b c bs cs e) in
      let s = length-append (cell_text (by table) c) (cells_text (by table) (lead bs cs)) in
      let r = ap (λ (l : List Run). length (runs_text (by table) l)) (runs_inside b c bs cs k e) in
      omega (arith, a, s, r)
  weight_differs false k b c bs cs e =
      let first : Run = record { first = k; cells = c ∷ lead bs cs } in
      let rest = runs_text (by table) (runs_from true (k + 1) bs cs) in
      let r = ap (λ (l : List Run). length (runs_text (by table) l)) (runs_begin b c bs cs k e) in
      let s = length-append (run_text (by table) first) rest in
      let t = length-append (cell_text (by table) c) (cells_text (by table) (lead bs cs)) in
      omega (arith, r, s, t)

  bound : (inside : Bool) (k : ℕ) (bs cs : List Glyph) → length bs ≡ length cs → All IsPlain cs → weight inside k bs cs ≤ 24 * length cs
  bound inside k [] cs h p = let z = none inside k cs in omega (arith, z)
  bound inside k (b ∷ bs) [] h p = absurd (omega arith)
  bound inside k (b ∷ bs) (c ∷ cs) h p =
      let tail = All-tail IsPlain c cs p in
      elim (cases_Bool (same b c)) [
        | inl e ↦
            let more = bound false (k + 1) bs cs (omega (arith, h)) tail in
            let is = weight_same inside k b c bs cs e in
            omega (arith, more, is)
        | inr e ↦
            let more = bound true (k + 1) bs cs (omega (arith, h)) tail in
            let is = weight_differs inside k b c bs cs e in
            let cell = cell_bound c (All-head IsPlain c cs p) in
            omega (arith, more, is, cell)
      ]

-- a diff has at most 3,300,016 bytes
length_table : (table : List Style) → length (table_text table) ≡ 9 * length table
length_table [] = refl
length_table (s ∷ table) = omega (arith, length-append (entry_text s) (table_text table), length_entry s, length_table table)

pub most_two : (base s : Screenshot) → IsScreenshot s → length (difference_two base s) ≤ 3300016
most_two base s h =
    let start = sized_cells s.rows s.cols base in
    let runs = (change_to base s).runs in
    let table = styles_used [] runs in
    let len : length start ≡ length s.cells = length_sized s.rows s.cols base ∙ sym h.count in
    let few = area s.rows s.cols h.size.most_rows h.size.most_columns in
    let styles = count_all (s.rows * s.cols) runs (is_change_to base s h).apart in
    let body = bound table false 0 start s.cells len (all_plain s.cells h.shown h.unguarded) in
    let rest = big_bytes 4 (length runs) ++ runs_text (by table) runs in
    omega (arith, few, styles, body, h.count, length_table table, length-append (table_text table) rest)
