-- A spelling by the table as far as it has grown is one by the whole table; the growth of forms.
use Rattle.std.proofs.Common.{◌≡◌, ℕ, ◌+◌, ◌≤◌, true, false, List, [], ◌∷◌, ◌++◌, length, refl, sym, ap, subst, ◌∙◌, arith, inl, inr, append_assoc}
use Rattle.std.proofs.lemmas.Bool.{cases_Bool}
use Rattle.byteorder.specs.Endian.{big_bytes}
use Rattle.roam_cells.specs.Glyph.{Glyph}
use Rattle.roam_cells.specs.declared.styles.Style.{Style}
use Rattle.roam_update.specs.CellText.{cell_text, cells_text, points_text}
use Rattle.roam_update.specs.ChangeText.{run_text, runs_text}
use Rattle.roam_update.specs.Numbers.{styles_in, form_in, styles_of, form_with, form_over, form_behind, cells_said, run_said, runs_said}
use Rattle.roam_update.specs.Runs.{Run}
use Rattle.roam_update.specs.Styles.{Form, Whole, Numbered, with_style, styles_after, styles_used, number_in}
use Rattle.roam_update.specs.declared.numbers.Numbers.{Numbers}
use Rattle.roam_update.proofs.UsedUp.{Extends, extends_again, grows, cells_extend, runs_extend, number_kept, count_one}

-- ---- forms

pub over_table : (table : List Style) (used : ℕ) (gs : List Glyph) → form_over (Numbered table used) gs ≡ Numbered (styles_after table gs) used
unfolding form_over styles_after
over_table table used [] = refl
over_table table used (g ∷ gs) = over_table (with_style table g.style) used gs

pub behind_table : (table : List Style) (used : ℕ) (runs : List Run) → form_behind (Numbered table used) runs ≡ Numbered (styles_used table runs) used
unfolding form_behind styles_used
behind_table table used [] = refl
behind_table table used (run ∷ runs) =
    ap (λ (f : Form). form_behind f runs) (over_table table used run.cells) ∙ behind_table (styles_after table run.cells) used runs

over_whole : (gs : List Glyph) → form_over Whole gs ≡ Whole
unfolding form_over
over_whole [] = refl
over_whole (g ∷ gs) = over_whole gs

-- styles by their numbers
pub styles_are : (n : Numbers) (table : List Style) → form_in n ≡ Numbered table 0 → styles_in n ≡ table
styles_are n table e =
    elim (cases_Bool n.whole) [
      | inl h ↦ let none : Whole ≡ Numbered table 0 = rw h at e in cc
      | inr h ↦ let some : Numbered (styles_in n) 0 ≡ Numbered table 0 = rw h at e in cc
    ]

pub form_full : (n : Numbers) → n.whole ≡ true → form_in n ≡ Whole
form_full n h = rw h refl

pub form_numbered : (n : Numbers) → n.whole ≡ false → form_in n ≡ Numbered (styles_in n) 0
form_numbered n h = rw h refl

count_with : (f : Form) (s : Style) → length (styles_of (form_with f s)) ≤ length (styles_of f) + 1
count_with Whole s = omega arith
count_with (Numbered table used) s = count_one table s

pub count_form : (f g : Form) (s : Style) → g ≡ form_with f s → length (styles_of g) ≤ length (styles_of f) + 1
count_form f g s e = let n = count_with f s in omega (arith, n, ap (λ (x : Form). length (styles_of x)) e)

count_all : (f : Form) (gs : List Glyph) → length (styles_of (form_over f gs)) ≤ length (styles_of f) + length gs
unfolding form_over
count_all f [] = omega arith
count_all f (g ∷ gs) = let n = count_with f g.style in let m = count_all (form_with f g.style) gs in omega (arith, n, m)

pub count_over : (f g : Form) (gs : List Glyph) → g ≡ form_over f gs → length (styles_of g) ≤ length (styles_of f) + length gs
count_over f g gs e = let n = count_all f gs in omega (arith, n, ap (λ (x : Form). length (styles_of x)) e)

-- ---- texts

cells_same : (table whole : List Style) (gs : List Glyph) → Extends (styles_after table gs) whole
    → cells_said (Numbered table 0) gs ≡ cells_text (Numbered whole 0) gs
unfolding cells_said styles_after
cells_same table whole [] p = refl
cells_same table whole (g ∷ gs) p =
    let next = with_style table g.style in
    let longer : Extends next whole = extends_again next (styles_after next gs) whole (cells_extend next gs) p in
    let number : number_in next g.style ≡ number_in whole g.style = sym (number_kept next whole g.style longer (grows table g.style).has) in
    ap (λ (n : ℕ). (length g.points ∷ (big_bytes 3 n ++ points_text g.points)) ++ cells_said (Numbered next 0) gs) number
    ∙ ap (λ (t : List ℕ). cell_text (Numbered whole 0) g ++ t) (cells_same next whole gs p)

pub runs_same : (table whole : List Style) (runs : List Run) → styles_used table runs ≡ whole
    → runs_said (Numbered table 0) runs ≡ runs_text (Numbered whole 0) runs
unfolding runs_said styles_used
runs_same table whole [] e = refl
runs_same table whole (run ∷ runs) e =
    let next = styles_after table run.cells in
    let longer : Extends next whole = subst (Extends next) e (runs_extend next runs) in
    ap (λ (f : Form). run_said (Numbered table 0) run ++ runs_said f runs) (over_table table 0 run.cells)
    ∙ ap (λ (t : List ℕ). (big_bytes 4 run.first ++ (big_bytes 4 (length run.cells) ++ t)) ++ runs_said (Numbered next 0) runs) (cells_same table whole run.cells longer)
    ∙ ap (λ (t : List ℕ). run_text (Numbered whole 0) run ++ t) (runs_same next whole runs e)

cells_whole : (gs : List Glyph) → cells_said Whole gs ≡ cells_text Whole gs
unfolding cells_said
cells_whole [] = refl
cells_whole (g ∷ gs) = ap (λ (t : List ℕ). cell_text Whole g ++ t) (cells_whole gs)

-- a full spelling needs no table
pub runs_whole : (runs : List Run) → runs_said Whole runs ≡ runs_text Whole runs
unfolding runs_said
runs_whole [] = refl
runs_whole (run ∷ runs) =
    ap (λ (f : Form). run_said Whole run ++ runs_said f runs) (over_whole run.cells)
    ∙ ap (λ (t : List ℕ). (big_bytes 4 run.first ++ (big_bytes 4 (length run.cells) ++ t)) ++ runs_said Whole runs) (cells_whole run.cells)
    ∙ ap (λ (t : List ℕ). run_text Whole run ++ t) (runs_whole runs)

-- one cell more is said
pub cells_step : (text : List ℕ) (f : Form) (g : Glyph) (gs : List Glyph)
    → (text ++ cell_text (form_with f g.style) g) ++ cells_said (form_with f g.style) gs ≡ text ++ cells_said f (g ∷ gs)
unfolding cells_said
cells_step text f g gs = append_assoc text (cell_text (form_with f g.style) g) (cells_said (form_with f g.style) gs)

pub forms_step : (f : Form) (g : Glyph) (gs : List Glyph) → form_over (form_with f g.style) gs ≡ form_over f (g ∷ gs)
unfolding form_over
forms_step f g gs = refl

pub cells_end : (f : Form) → cells_said f [] ≡ []
unfolding cells_said
cells_end f = refl

pub forms_end : (f : Form) → form_over f [] ≡ f
unfolding form_over
forms_end f = refl

-- cells are said part by part
pub cells_split : (f : Form) (xs ys : List Glyph) → cells_said f (xs ++ ys) ≡ cells_said f xs ++ cells_said (form_over f xs) ys
unfolding cells_said form_over
cells_split f [] ys = refl
cells_split f (x ∷ xs) ys =
    let next = form_with f x.style in
    ap (λ (t : List ℕ). cell_text next x ++ t) (cells_split next xs ys) ∙ sym (append_assoc (cell_text next x) (cells_said next xs) (cells_said (form_over next xs) ys))

pub forms_split : (f : Form) (xs ys : List Glyph) → form_over f (xs ++ ys) ≡ form_over (form_over f xs) ys
unfolding form_over
forms_split f [] ys = refl
forms_split f (x ∷ xs) ys = forms_split (form_with f x.style) xs ys

-- one run more is said
pub runs_step : (text : List ℕ) (f : Form) (run : Run) (runs : List Run)
    → (text ++ run_said f run) ++ runs_said (form_over f run.cells) runs ≡ text ++ runs_said f (run ∷ runs)
unfolding runs_said
runs_step text f run runs = append_assoc text (run_said f run) (runs_said (form_over f run.cells) runs)

pub used_step : (f : Form) (run : Run) (runs : List Run) → form_behind (form_over f run.cells) runs ≡ form_behind f (run ∷ runs)
unfolding form_behind
used_step f run runs = refl

pub runs_end : (f : Form) → runs_said f [] ≡ []
unfolding runs_said
runs_end f = refl

pub used_end : (f : Form) → form_behind f [] ≡ f
unfolding form_behind
used_end f = refl
