-- A diff spelled with a table is read again. The diff from a base to a screen, applied to the base, gives the screen.
use Rattle.std.proofs.Common.{◌≡◌, ℕ, ◌*◌, ◌≤◌, Bool, true, false, cond, leb, ◌&&◌, List, [], ◌∷◌, ◌++◌, length, drop, Option, Some, None, refl, sym, ap, subst, ◌∙◌, arith, append_assoc, length-append, inl, inr}
use Rattle.std.specs.Prelude.{option_and_then, slice_get}
use Rattle.std.proofs.lemmas.Bool.{le-leb, cases_Bool}
use Rattle.std.proofs.lemmas.List.{append-nil}
use Rattle.byteorder.specs.Endian.{big_bytes, big_number}
use Rattle.byteorder.specs.Numbers.{big_number-reads_back}
use Rattle.roam_screens.specs.Screenshot.{Screenshot, IsScreenshot}
use Rattle.roam_cells.specs.declared.styles.Style.{Style}
use Rattle.roam_cells.specs.declared.styles.Colour.{Colour}
use Rattle.roam_cells.specs.declared.styles.Colour.TheVariants.{Default, Index, Rgb}
use Rattle.roam_update.specs.CellText.{bit, flags, style_of}
use Rattle.roam_update.specs.ChangeText.{Change, IsChange, head_of, change_of, runs_read, runs_text}
use Rattle.roam_update.specs.Runs.{Run}
use Rattle.roam_update.specs.Shots.{applied_two, change_to, difference_two, if_screenshot, screen_by}
use Rattle.roam_update.specs.Sizes.{sized_cells}
use Rattle.roam_update.specs.Styles.{Numbered, has_style, styles_used}
use Rattle.roam_update.specs.TableText.{Table, colour_text, entry_text, table_text, tabled_text, entry_read, table_read, has_front, front_at, numbered_read, table_in, tabled_read}
use Rattle.roam_update.specs.Tested.{is_size}
use Rattle.roam_update.specs.declared.change_text.Head.{Head}
use Rattle.roam_update.proofs.CellAgain.{flags_again}
use Rattle.roam_update.proofs.ChangeAgain.{runs_again, bit_back, bit_few, is_change_to}
use Rattle.roam_update.proofs.Forms.{IsTable}
use Rattle.roam_update.proofs.Parting.{runs_few}
use Rattle.roam_update.proofs.Patching.{patched_between}
use Rattle.roam_update.proofs.Sizing.{area, length_sized}
use Rattle.roam_update.proofs.Testing.{is_screenshot_of, is_size_of}
use Rattle.roam_update.proofs.UsedUp.{IsOnce, number_below, number_stays, once_runs, once_none, table_taken, count_all}

-- ---- the table

colours_again : (f : ℕ) (fore back : Colour) (rest : List ℕ)
    → entry_read (f ∷ ((colour_text fore ++ colour_text back) ++ rest)) ≡ Some (style_of f fore back)
colours_again f Default Default rest = refl
colours_again f Default (Index n) rest = refl
colours_again f Default (Rgb r g b) rest = refl
colours_again f (Index n) Default rest = refl
colours_again f (Index n) (Index m) rest = refl
colours_again f (Index n) (Rgb r g b) rest = refl
colours_again f (Rgb x y z) Default rest = refl
colours_again f (Rgb x y z) (Index n) rest = refl
colours_again f (Rgb x y z) (Rgb r g b) rest = refl

pub length_colour : (c : Colour) → length (colour_text c) ≡ 4
length_colour Default = refl
length_colour (Index n) = refl
length_colour (Rgb r g b) = refl

pub length_entry : (s : Style) → length (entry_text s) ≡ 9
length_entry s = omega (arith, length-append (colour_text s.foreground) (colour_text s.background), length_colour s.foreground, length_colour s.background)

entry_again : (s : Style) (rest : List ℕ) → entry_read (entry_text s ++ rest) ≡ Some s
entry_again s rest = colours_again (flags s) s.foreground s.background rest ∙ ap (λ (t : Style). Some t) (flags_again s)

entry_passed : (fore back : Colour) (f : ℕ) (rest : List ℕ) → drop 9 (f ∷ ((colour_text fore ++ colour_text back) ++ rest)) ≡ rest
entry_passed Default Default f rest = refl
entry_passed Default (Index n) f rest = refl
entry_passed Default (Rgb r g b) f rest = refl
entry_passed (Index n) Default f rest = refl
entry_passed (Index n) (Index m) f rest = refl
entry_passed (Index n) (Rgb r g b) f rest = refl
entry_passed (Rgb x y z) Default f rest = refl
entry_passed (Rgb x y z) (Index n) f rest = refl
entry_passed (Rgb x y z) (Rgb r g b) f rest = refl

placed_next : (before : List Style) (s : Style) (more : List Style) → slice_get (before ++ s ∷ more) (length before) ≡ Some s
placed_next [] s more = refl
placed_next (t ∷ before) s more = placed_next before s more

-- the next style of a table without repetitions is none of those before it
new_style : (before : List Style) (s : Style) (more : List Style) → IsOnce (before ++ s ∷ more) → has_style before s ≡ false
new_style before s more once =
    elim (cases_Bool (has_style before s)) [
      | inl e ↦
          let here = once (length before) s (placed_next before s more) in
          let there = number_stays before (s ∷ more) s e in
          absurd (omega (arith, here, there, number_below before s e))
      | inr e ↦ e
    ]

abbrev some_table : List Style → List ℕ → Option Table
some_table styles rest = Some (record { styles = styles; rest = rest })

abbrev then_table : ℕ → List Style → List ℕ → Option Style → Option Table
then_table n before text o = option_and_then (λ s. table_read n (before ++ s ∷ []) (drop 9 text)) o

abbrev new_one : List Style → Option Style → Option Style
new_one before o = option_and_then (λ (s : Style). cond (has_style before s) None (Some s)) o

table_again : (before table : List Style) (rest : List ℕ) → IsOnce (before ++ table)
    → table_read (length table) before (table_text table ++ rest) ≡ some_table (before ++ table) rest
unfolding table_read
table_again before [] rest once = ap (λ (t : List Style). some_table t rest) (sym (append-nil before))
table_again before (s ∷ table) rest once =
    let text = table_text (s ∷ table) ++ rest in
    let split : text ≡ entry_text s ++ (table_text table ++ rest) = append_assoc (entry_text s) (table_text table) rest in
    let long : leb 9 (length text) ≡ true =
    le-leb _ _ (omega (arith, ap length split, length-append (entry_text s) (table_text table ++ rest), length_entry s)) in
    let step : (before ++ s ∷ []) ++ table ≡ before ++ s ∷ table = append_assoc before (s ∷ []) table in
    let once_more : IsOnce ((before ++ s ∷ []) ++ table) = subst IsOnce (sym step) once in
    ap (λ (b : Bool). then_table (length table) before text (cond b (new_one before (entry_read text)) None)) long
    ∙ ap (λ (o : Option Style). then_table (length table) before text (new_one before o)) (ap entry_read split ∙ entry_again s (table_text table ++ rest))
    ∙ ap (λ (b : Bool). then_table (length table) before text (cond b None (Some s))) (new_style before s table once)
    ∙ ap (λ (t : List ℕ). table_read (length table) (before ++ s ∷ []) (drop 9 t)) split
    ∙ ap (table_read (length table) (before ++ s ∷ [])) (entry_passed s.foreground s.background (flags s) (table_text table ++ rest))
    ∙ table_again (before ++ s ∷ []) table rest once_more
    ∙ ap (λ (t : List Style). some_table t rest) step

-- ---- the whole text

abbrev some_change : Change → Option Change
some_change x = Some x

abbrev then_runs : ℕ → Head → Table → Option Change
then_runs end h table = option_and_then (λ runs. some_change (change_of h runs)) (numbered_read end table)

-- a spelled diff is read
pub tabled_again : (x : Change) → IsChange x → tabled_read (tabled_text x) ≡ some_change x
tabled_again x is =
    let t = tabled_text x in
    let table = styles_used [] x.runs in
    let runs = runs_text (Numbered table 0) x.runs in
    let rest = big_bytes 4 (length x.runs) ++ runs in
    let behind = table_text table ++ rest in
    let n = x.rows * x.cols in
    let few : n ≤ 100000 = area x.rows x.cols is.size.most_rows is.size.most_columns in
    let count = runs_few 0 n x.runs (omega arith) is.apart in
    let styles = count_all n x.runs is.apart in
    let once : IsOnce table = once_runs [] x.runs once_none in
    let rows : big_number 2 t ≡ x.rows = big_number-reads_back 2 x.rows (drop 2 t) (omega (arith, is.size.most_rows)) in
    let cols : big_number 2 (drop 2 t) ≡ x.cols = big_number-reads_back 2 x.cols (drop 4 t) (omega (arith, is.size.most_columns)) in
    let row : big_number 2 (drop 4 t) ≡ x.cursor_row = big_number-reads_back 2 x.cursor_row (drop 6 t) (omega (arith, is.row)) in
    let col : big_number 2 (drop 6 t) ≡ x.cursor_col = big_number-reads_back 2 x.cursor_col (drop 8 t) (omega (arith, is.col)) in
    let numbers : big_number 3 (drop 9 t) ≡ length table = big_number-reads_back 3 (length table) behind (omega (arith, styles, few)) in
    let number : big_number 4 rest ≡ length x.runs = big_number-reads_back 4 (length x.runs) runs (omega (arith, count, few)) in
    let long : leb 12 (length t) ≡ true = le-leb _ _ (omega arith) in
    let fits : is_size (big_number 2 t) (big_number 2 (drop 2 t)) ≡ true =
    ap (λ (r : ℕ). is_size r (big_number 2 (drop 2 t))) rows ∙ ap (is_size x.rows) cols ∙ is_size_of x.rows x.cols is.size in
    let there : has_front t ≡ true =
    ap (λ (y : Bool). y && (leb (bit x.visible) 1 && is_size (big_number 2 t) (big_number 2 (drop 2 t)))) long
    ∙ ap (λ (y : Bool). y && is_size (big_number 2 t) (big_number 2 (drop 2 t))) (bit_few x.visible) ∙ fits in
    let head : front_at t ≡ record (head_of x) { runs = 0 } = λ i. record {
      rows = rows i;
      cols = cols i;
      cursor_row = row i;
      cursor_col = col i;
      visible = bit_back x.visible i;
      runs = 0;
    } in
    let end : big_number 2 t * big_number 2 (drop 2 t) ≡ n = λ i. rows i * cols i in
    let tables : table_in t ≡ some_table table rest = ap (λ (k : ℕ). table_read k [] behind) numbers ∙ table_again [] table rest once in
    let enough : leb 4 (length rest) ≡ true = le-leb _ _ (omega arith) in
    let whole : IsTable table = record { few = omega (arith, styles, few); once = once } in
    ap (λ (y : Bool). cond y (option_and_then (then_runs (big_number 2 t * big_number 2 (drop 2 t)) (front_at t)) (table_in t)) None) there
    ∙ ap (λ (o : Option Table). option_and_then (then_runs (big_number 2 t * big_number 2 (drop 2 t)) (front_at t)) o) tables
    ∙ ap (λ (h : Head). then_runs (big_number 2 t * big_number 2 (drop 2 t)) h (record { styles = table; rest = rest })) head
    ∙ ap (λ (k : ℕ). then_runs k (record (head_of x) { runs = 0 }) (record { styles = table; rest = rest })) end
    ∙ ap (λ (b : Bool). option_and_then (λ (rs : List Run). some_change (change_of (head_of x) rs)) (cond b (runs_read (Numbered table 0) (big_number 4 rest) 0 n runs) None)) enough
    ∙ ap (λ (k : ℕ). option_and_then (λ (rs : List Run). some_change (change_of (head_of x) rs)) (runs_read (Numbered table 0) k 0 n runs)) number
    ∙ ap (λ (o : Option (List Run)). option_and_then (λ (rs : List Run). some_change (change_of (head_of x) rs)) o)
    (runs_again (Numbered table 0) x.runs 0 n (omega (arith, few)) is.apart is.plain whole (table_taken x.runs))

-- ---- screens

abbrev some_screenshot : Screenshot → Option Screenshot
some_screenshot s = Some s

-- applying the diff to the base gives the screen
pub leads_two : (base s : Screenshot) → IsScreenshot s → applied_two base (difference_two base s) ≡ some_screenshot s
leads_two base s h =
    let start = sized_cells s.rows s.cols base in
    let len : length start ≡ length s.cells = length_sized s.rows s.cols base ∙ sym h.count in
    let same : screen_by base (change_to base s) ≡ s = λ i. record {
      rows = s.rows;
      cols = s.cols;
      cells = patched_between start s.cells len i;
      cursor_row = s.cursor_row;
      cursor_col = s.cursor_col;
      visible = s.visible;
    } in
    ap (λ (o : Option Change). option_and_then (λ x. if_screenshot (screen_by base x)) o) (tabled_again (change_to base s) (is_change_to base s h))
    ∙ ap if_screenshot same ∙ ap (λ (b : Bool). cond b (some_screenshot s) None) (is_screenshot_of s h)
