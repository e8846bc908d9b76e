-- A spelled diff is read again. The diff from a base to a screen, applied to the base, gives the screen.
use Rattle.std.proofs.Common.{◌≡◌, ℕ, ◌+◌, ◌*◌, ◌^◌, ◌<◌, ◌≤◌, Bool, true, false, cond, eqb, leb, ◌&&◌, List, [], ◌∷◌, ◌++◌, length, drop, Option, Some, None, refl, sym, ap, subst, ◌∙◌, arith}
use Rattle.std.specs.Prelude.{All, option_and_then}
use Rattle.std.proofs.lemmas.Bool.{le-leb}
use Rattle.std.proofs.lemmas.List.Elements.{All-head, All-tail}
use Rattle.byteorder.specs.Endian.{big_bytes, big_number}
use Rattle.byteorder.specs.Numbers.{big_number-reads_back}
use Rattle.roam_cells.specs.Glyph.{Glyph}
use Rattle.roam_screens.specs.Screenshot.{Screenshot, IsScreenshot}
use Rattle.roam_update.specs.CellText.{Front, IsPlain, bit, cells_text, cells_read}
use Rattle.roam_update.specs.ChangeText.{Change, IsChange, AreShort, runs_text, head_of, change_text, runs_read, head_at, has_head, change_of, body_read, change_read}
use Rattle.roam_update.specs.Runs.{Run, AreApart, runs_between}
use Rattle.roam_update.specs.Shots.{change_to}
use Rattle.roam_update.specs.Sizes.{sized_cells}
use Rattle.roam_update.specs.Tested.{is_size}
use Rattle.roam_update.specs.declared.change_text.Head.{Head}
use Rattle.roam_update.specs.Styles.{Form, Whole}
use Rattle.roam_update.proofs.CellAgain.{cells_again}
use Rattle.roam_update.proofs.Forms.{past_all, TakesRuns, IsForm, form_past_all, runs_past_all, short_runs}
use Rattle.roam_update.proofs.Parting.{apart_between, plain_from, runs_few}
use Rattle.roam_update.proofs.Plain.{ArePlain}
use Rattle.roam_update.proofs.Sizing.{area, length_sized}
use Rattle.roam_update.proofs.Testing.{all_plain, is_size_of}

-- ---- runs

abbrev some_runs : List Run → Option (List Run)
some_runs runs = Some runs

abbrev body : Form → ℕ → ℕ → ℕ → ℕ → List ℕ → Option (List Run)
body form n end f l tail =
    option_and_then (λ cs. option_and_then (λ rs. some_runs (record { first = f; cells = cs.value } ∷ rs)) (runs_read cs.form n (f + l + 1) end cs.rest)) (cells_read form l tail)

abbrev HasPlain : Run → Type 0
HasPlain run = All IsPlain run.cells

pub runs_again : (form : Form) (rs : List Run) (least end : ℕ) → end < 256 ^ 4 → AreApart least end rs → ArePlain rs → IsForm form → TakesRuns form rs
    → runs_read form (length rs) least end (runs_text form rs) ≡ some_runs rs
unfolding runs_read AreApart
runs_again form [] least end h k p is takes = rw takes refl
runs_again form (r ∷ rs) least end h k p is takes =
    let f = r.first in
    let l = length r.cells in
    let tail = cells_text form r.cells ++ runs_text form rs in
    let t = big_bytes 4 f ++ (big_bytes 4 l ++ tail) in
    let within = k.0 in
    let next = past_all form r.cells in
    let first : big_number 4 t ≡ f = big_number-reads_back 4 f (big_bytes 4 l ++ tail) (omega (arith, h, within.to)) in
    let len : big_number 4 (drop 4 t) ≡ l = big_number-reads_back 4 l tail (omega (arith, h, within.to)) in
    let long : leb 8 (length t) ≡ true = le-leb _ _ (omega arith) in
    let a : leb least f ≡ true = le-leb _ _ within.from in
    let b : leb 1 l ≡ true = le-leb _ _ within.some in
    let c : leb (f + l) end ≡ true = le-leb _ _ within.to in
    ap (λ (x : ℕ). cond (leb 8 (length t) && (leb least x && (leb 1 (big_number 4 (drop 4 t)) && leb (x + big_number 4 (drop 4 t)) end))) (body form (length rs) end x (big_number 4 (drop 4 t)) tail) None) first
    ∙ ap (λ (x : ℕ). cond (leb 8 (length t) && (leb least f && (leb 1 x && leb (f + x) end))) (body form (length rs) end f x tail) None) len
    ∙ ap (λ (x : Bool). cond (x && (leb least f && (leb 1 l && leb (f + l) end))) (body form (length rs) end f l tail) None) long
    ∙ ap (λ (x : Bool). cond (x && (leb 1 l && leb (f + l) end)) (body form (length rs) end f l tail) None) a
    ∙ ap (λ (x : Bool). cond (x && leb (f + l) end) (body form (length rs) end f l tail) None) b
    ∙ ap (λ (x : Bool). cond x (body form (length rs) end f l tail) None) c
    ∙ ap (λ (o : Option (Front (List Glyph))). option_and_then (λ cs. option_and_then (λ xs. some_runs (record { first = f; cells = cs.value } ∷ xs)) (runs_read cs.form (length rs) (f + l + 1) end cs.rest)) o)
    (cells_again form r.cells (runs_text form rs) (All-head HasPlain r rs p) is takes.0)
    ∙ ap (λ (t : List ℕ). option_and_then (λ xs. some_runs (r ∷ xs)) (runs_read next (length rs) (f + l + 1) end t)) (sym (runs_past_all form r.cells rs))
    ∙ ap (λ (o : Option (List Run)). option_and_then (λ xs. some_runs (r ∷ xs)) o)
    (runs_again next rs (f + l + 1) end h k.1 (All-tail HasPlain r rs p) (form_past_all form r.cells is) takes.1)

-- ---- the whole text

pub bit_back : (b : Bool) → eqb (bit b) 1 ≡ b
bit_back true = refl
bit_back false = refl

pub bit_few : (b : Bool) → leb (bit b) 1 ≡ true
bit_few true = refl
bit_few false = refl

abbrev some_change : Change → Option Change
some_change x = Some x

abbrev made : Head → Option (List Run) → Option Change
made h o = option_and_then (λ runs. some_change (change_of h runs)) o

-- a spelled diff is read
pub change_again : (x : Change) → IsChange x → AreShort x.runs → change_read (change_text x) ≡ some_change x
change_again x is short =
    let t = change_text x in
    let n = x.rows * x.cols in
    let few : n ≤ 100000 = area x.rows x.cols is.size.most_rows is.size.most_columns in
    let count = runs_few 0 n x.runs (omega arith) is.apart in
    let rows : big_number 2 t ≡ x.rows = big_number-reads_back 2 x.rows (drop 2 t) (omega (arith, is.size.most_rows)) in
    let cols : big_number 2 (drop 2 t) ≡ x.cols = big_number-reads_back 2 x.cols (drop 4 t) (omega (arith, is.size.most_columns)) in
    let row : big_number 2 (drop 4 t) ≡ x.cursor_row = big_number-reads_back 2 x.cursor_row (drop 6 t) (omega (arith, is.row)) in
    let col : big_number 2 (drop 6 t) ≡ x.cursor_col = big_number-reads_back 2 x.cursor_col (drop 8 t) (omega (arith, is.col)) in
    let runs : big_number 4 (drop 9 t) ≡ length x.runs = big_number-reads_back 4 (length x.runs) (runs_text Whole x.runs) (omega (arith, count, few)) in
    let long : leb 13 (length t) ≡ true = le-leb _ _ (omega arith) in
    let fits : is_size (big_number 2 t) (big_number 2 (drop 2 t)) ≡ true =
    ap (λ (r : ℕ). is_size r (big_number 2 (drop 2 t))) rows ∙ ap (is_size x.rows) cols ∙ is_size_of x.rows x.cols is.size in
    let there : has_head t ≡ true =
    ap (λ (y : Bool). y && (leb (bit x.visible) 1 && is_size (big_number 2 t) (big_number 2 (drop 2 t)))) long
    ∙ ap (λ (y : Bool). y && is_size (big_number 2 t) (big_number 2 (drop 2 t))) (bit_few x.visible) ∙ fits in
    let head : head_at t ≡ head_of x = λ i. record {
      rows = rows i;
      cols = cols i;
      cursor_row = row i;
      cursor_col = col i;
      visible = bit_back x.visible i;
      runs = runs i;
    } in
    ap (λ (y : Bool). cond y (made (head_at t) (body_read (head_at t) t)) None) there
    ∙ ap (λ (h : Head). made h (body_read h t)) head
    ∙ ap (made (head_of x)) (runs_again Whole x.runs 0 n (omega (arith, few)) is.apart is.plain tt (short_runs x.runs short))

-- ---- screens

-- the diff from a base to a screen is one
pub is_change_to : (base s : Screenshot) → IsScreenshot s → IsChange (change_to base s)
is_change_to base s h =
    let start = sized_cells s.rows s.cols base in
    let len : length start ≡ length s.cells = length_sized s.rows s.cols base ∙ sym h.count in
    record {
      size = h.size;
      row = omega (arith, h.cursor.row_to, h.size.most_rows);
      col = omega (arith, h.cursor.col_to, h.size.most_columns);
      apart = subst (λ (n : ℕ). AreApart 0 n (runs_between start s.cells)) h.count (apart_between start s.cells len);
      plain = plain_from false 0 start s.cells (all_plain s.cells h.shown h.unguarded);
    }
