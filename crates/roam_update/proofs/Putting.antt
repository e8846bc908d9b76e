-- Reading the text of one thing more, and putting it into its place.
use Rattle.std.proofs.Common.{◌≡◌, ℕ, zero, suc, ◌+◌, ◌-◌, ◌*◌, ◌<◌, ◌≤◌, true, false, cond, eqb, leb, ◌&&◌, List, [], ◌∷◌, length, drop, set, Option, Some, None, refl, sym, ap, ◌∙◌, arith}
use Rattle.std.specs.Prelude.{IfSome, option_and_then}
use Rattle.std.proofs.lemmas.List.{drop-drop, length-drop}
use Rattle.std.proofs.lemmas.Option.{cond_some, option_and_then_some}
use Rattle.std.proofs.lemmas.Bool.{ne_eqb, and_parts, and_right, leb-true}
use Rattle.byteorder.specs.Endian.{big_number}
use Rattle.roam_cells.specs.Glyph.{Glyph, is_text}
use Rattle.roam_cells.specs.declared.styles.Style.{Style}
use Rattle.roam_update.specs.Runs.{Run, with_cells_at, patched_cells}
use Rattle.roam_update.specs.CellText.{Front, is_scalar, point_read, points_read, is_style, glyph_of, glyph_read, cell_size, form_after, cells_read}
use Rattle.roam_update.specs.Styles.{Form, Whole, is_used_up}
use Rattle.roam_update.specs.ChangeText.{runs_read, may_begin}
use Rattle.roam_update.specs.Put.{cells_put, runs_put}

abbrev made : Style → Option (List ℕ) → Option Glyph
made style points = option_and_then (λ points. glyph_of points style) points

pub second_none : (n : ℕ) (text : List ℕ) (first : ℕ) (style : Style) → 2 ≤ n → point_read text ≡ Some first → point_read (drop 4 text) ≡ None → None ≡ made style (points_read n text)
second_none zero text first style h e f = absurd (omega arith)
second_none (suc zero) text first style h e f = absurd (omega arith)
second_none (suc (suc n)) text first style h e f = rw (e, f) refl

pub third_none : (n : ℕ) (text : List ℕ) (first second : ℕ) (style : Style) → 3 ≤ n → point_read text ≡ Some first → point_read (drop 4 text) ≡ Some second
    → point_read (drop 8 text) ≡ None → None ≡ made style (points_read n text)
third_none zero text first second style h e f g = absurd (omega arith)
third_none (suc zero) text first second style h e f g = absurd (omega arith)
third_none (suc (suc zero)) text first second style h e f g = absurd (omega arith)
third_none (suc (suc (suc n))) text first second style h e f g = rw (e, f, drop-drop 4 4 text, g) refl

pub three : (n : ℕ) (text : List ℕ) (first second third : ℕ) (style : Style) → is_style style ≡ true → n ≡ 3 → point_read text ≡ Some first → point_read (drop 4 text) ≡ Some second
    → point_read (drop 8 text) ≡ Some third → cond (is_text (first ∷ second ∷ third ∷ [])) (Some (record { points = first ∷ second ∷ third ∷ []; style = style; guarded = false })) None
    ≡ made style (points_read n text)
three n text first second third style is h e f g = rw (h, e, f, drop-drop 4 4 text, g, is) refl

point_long : (text : List ℕ) (c : ℕ) → point_read text ≡ Some c → 4 ≤ length text
point_long text c e =
    let a = cond_some (leb 4 (length text) && is_scalar (big_number 4 text)) (big_number 4 text) c e in
    leb-true 4 (length text) (and_parts (leb 4 (length text)) (is_scalar (big_number 4 text)) a.0).0

-- the code points that are read have four bytes each
pub points_long : (n : ℕ) (text : List ℕ) (points : List ℕ) → points_read n text ≡ Some points → 4 * n ≤ length text
points_long zero text points e = omega arith
points_long (suc n) text points e =
    option_and_then_some (λ c. option_and_then (λ cs. Some (c ∷ cs)) (points_read n (drop 4 text))) (point_read text) points e (λ c f g.
    option_and_then_some (λ (cs : List ℕ). Some (c ∷ cs)) (points_read n (drop 4 text)) points g (λ cs h k.
    let rest = points_long n (drop 4 text) cs h in
    let here = point_long text c f in
    omega (arith, rest, here, length-drop 4 text)))

-- there is a third code point if there are twelve bytes
pub three_long : (o : Option Glyph) (text : List ℕ) (n third : ℕ) → n ≤ 3 → point_read (drop 8 text) ≡ Some third → IfSome o (λ _. 4 * n ≤ length text)
three_long None text n third h e = tt
three_long (Some g) text n third h e = let long = point_long (drop 8 text) third e in omega (arith, h, long, length-drop 8 text)

pub cells_put_none : (f : Form) (n first : ℕ) (cells : List Glyph) (text : List ℕ) → n ≡ 0 → cells_put f n first cells text ≡ Some (record { value = cells; rest = text; form = f })
unfolding cells_read with_cells_at
cells_put_none f zero first cells text h = refl
cells_put_none f (suc n) first cells text h = absurd (omega arith)

abbrev pub laid : ℕ → List Glyph → Front (List Glyph) → Option (Front (List Glyph))
laid first cells cs = Some (record { value = with_cells_at cells first cs.value; rest = cs.rest; form = cs.form })

abbrev after : Glyph → Front (List Glyph) → Option (Front (List Glyph))
after g cs = Some (record { value = g ∷ cs.value; rest = cs.rest; form = cs.form })

regroup : (first : ℕ) (cells : List Glyph) (g : Glyph) (o : Option (Front (List Glyph)))
    → option_and_then (laid first cells) (option_and_then (after g) o) ≡ option_and_then (laid (first + 1) (set cells first g)) o
unfolding with_cells_at
regroup first cells g None = refl
regroup first cells g (Some cs) = refl

pub cells_put_suc : (f : Form) (n first : ℕ) (cells : List Glyph) (text : List ℕ) (g : Glyph) → glyph_read f text ≡ Some g
    → cells_put f (suc n) first cells text ≡ cells_put (form_after f text) n (first + 1) (set cells first g) (drop (cell_size f text) text)
unfolding cells_read
cells_put_suc f n first cells text g e = rw e (regroup first cells g (cells_read (form_after f text) n (drop (cell_size f text) text)))

pub cells_put_more : (f : Form) (n first : ℕ) (cells : List Glyph) (text : List ℕ) (g : Glyph) → 1 ≤ n → glyph_read f text ≡ Some g
    → cells_put f n first cells text ≡ cells_put (form_after f text) (n - 1) (first + 1) (set cells first g) (drop (cell_size f text) text)
cells_put_more f zero first cells text g h e = absurd (omega arith)
cells_put_more f (suc n) first cells text g h e =
    let one : n ≡ suc n - 1 = omega arith in
    cells_put_suc f n first cells text g e ∙ ap (λ (k : ℕ). cells_put (form_after f text) k (first + 1) (set cells first g) (drop (cell_size f text) text)) one

pub cells_put_go : (f next : Form) (n k first : ℕ) (cells : List Glyph) (text : List ℕ) (g : Glyph) (size : ℕ) → k < n → glyph_read f text ≡ Some g → size ≡ cell_size f text
    → next ≡ form_after f text
    → cells_put next (n - (k + 1)) (first + (k + 1)) (set cells (first + k) g) (drop size text) ≡ cells_put f (n - k) (first + k) cells text
cells_put_go f next n k first cells text g size h e s t =
    let a : n - (k + 1) ≡ n - k - 1 = omega arith in
    let b : first + (k + 1) ≡ first + k + 1 = omega arith in
    rw (a, b, s, t) (sym (cells_put_more f (n - k) (first + k) cells text g (omega arith) e))

pub cells_put_fails : (f : Form) (n first : ℕ) (cells : List Glyph) (text : List ℕ) → 1 ≤ n → glyph_read f text ≡ None → cells_put f n first cells text ≡ None
unfolding cells_read
cells_put_fails f zero first cells text h e = absurd (omega arith)
cells_put_fails f (suc n) first cells text h e = rw e refl

-- ---- runs

abbrev first_of : List ℕ → ℕ
first_of text = big_number 4 text

abbrev len_of : List ℕ → ℕ
len_of text = big_number 4 (drop 4 text)

abbrev patch : List Glyph → List Run → Option (List Glyph)
patch cells rs = Some (patched_cells cells rs)

abbrev ran : ℕ → List Glyph → List Run → Option (List Run)
ran first cs rs = Some (record { first = first; cells = cs } ∷ rs)

pub runs_put_whole : (f : Form) (n least : ℕ) (cells : List Glyph) (text : List ℕ) → n ≡ 0 → length text ≡ 0 → is_used_up f ≡ true → runs_put f n least cells text ≡ Some cells
unfolding runs_read patched_cells
runs_put_whole f zero least cells text h e u = rw (e, u) refl
runs_put_whole f (suc n) least cells text h e u = absurd (omega arith)

pub runs_put_more_text : (f : Form) (n least : ℕ) (cells : List Glyph) (text : List ℕ) → n ≡ 0 → 1 ≤ length text → runs_put f n least cells text ≡ None
unfolding runs_read
runs_put_more_text f zero least cells text h e = let no : eqb (length text) 0 ≡ false = ne_eqb (length text) 0 (λ z. omega (arith, z)) in rw no refl
runs_put_more_text f (suc n) least cells text h e = absurd (omega arith)

pub runs_put_unused : (f : Form) (n least : ℕ) (cells : List Glyph) (text : List ℕ) → n ≡ 0 → is_used_up f ≡ false → runs_put f n least cells text ≡ None
unfolding runs_read
runs_put_unused f zero least cells text h u = rw (and_right (eqb (length text) 0) (is_used_up f) u) refl
runs_put_unused f (suc n) least cells text h u = absurd (omega arith)

pub runs_put_refused : (f : Form) (n least : ℕ) (cells : List Glyph) (text : List ℕ) → 1 ≤ n → may_begin least (length cells) text ≡ false → runs_put f n least cells text ≡ None
unfolding runs_read
runs_put_refused f zero least cells text h e = absurd (omega arith)
runs_put_refused f (suc n) least cells text h e = rw e refl

abbrev rest_of : ℕ → ℕ → List ℕ → Front (List Glyph) → Option (List Run)
rest_of n end text cs = option_and_then (ran (first_of text) cs.value) (runs_read cs.form n (first_of text + len_of text + 1) end cs.rest)

abbrev maybe : Front (List Glyph) → Option (Front (List Glyph))
maybe f = Some f

none_laid : (first : ℕ) (cells : List Glyph) (o : Option (Front (List Glyph))) (n end : ℕ) (text : List ℕ) → option_and_then (laid first cells) o ≡ None
    → option_and_then (patch cells) (option_and_then (rest_of n end text) o) ≡ None
none_laid first cells None n end text e = refl
none_laid first cells (Some cs) n end text e = absurd cc

pub runs_put_fails : (f : Form) (n least : ℕ) (cells : List Glyph) (text : List ℕ) → 1 ≤ n → may_begin least (length cells) text ≡ true
    → cells_put f (len_of text) (first_of text) cells (drop 8 text) ≡ None → runs_put f n least cells text ≡ None
unfolding runs_read
runs_put_fails f zero least cells text h e g = absurd (omega arith)
runs_put_fails f (suc n) least cells text h e g = rw e (none_laid (first_of text) cells (cells_read f (len_of text) (drop 8 text)) n (length cells) text g)

abbrev some_of : Option (Front (List Glyph)) → Front (List Glyph)
some_of None = record { value = []; rest = []; form = Whole }
some_of (Some f) = f

pub some_path : {a b : Front (List Glyph)} → maybe a ≡ maybe b → a ≡ b
some_path e = ap some_of e

regroup_runs : (cells : List Glyph) (text : List ℕ) (cs : List Glyph) (o : Option (List Run))
    → option_and_then (patch cells) (option_and_then (ran (first_of text) cs) o) ≡ option_and_then (patch (with_cells_at cells (first_of text) cs)) o
unfolding patched_cells
regroup_runs cells text cs None = refl
regroup_runs cells text cs (Some rs) = refl

abbrev front : Form → List Glyph → List ℕ → Option (Front (List Glyph))
front f cells rest = Some (record { value = cells; rest = rest; form = f })

some_laid : (next : Form) (cells : List Glyph) (o : Option (Front (List Glyph))) (n end : ℕ) (text : List ℕ) (after : List Glyph) (rest : List ℕ)
    → option_and_then (laid (first_of text) cells) o ≡ front next after rest → length after ≡ end
    → option_and_then (patch cells) (option_and_then (rest_of n end text) o) ≡ runs_put next n (first_of text + len_of text + 1) after rest
some_laid next cells None n end text after rest e h = absurd cc
some_laid next cells (Some cs) n end text after rest e h =
    let both = some_path e in
    let here : with_cells_at cells (first_of text) cs.value ≡ after = ap (λ (f : Front (List Glyph)). f.value) both in
    let left : cs.rest ≡ rest = ap (λ (f : Front (List Glyph)). f.rest) both in
    let form : cs.form ≡ next = ap (λ (f : Front (List Glyph)). f.form) both in
    rw (← here, ← left, ← form) (regroup_runs cells text cs.value (runs_read cs.form n (first_of text + len_of text + 1) end cs.rest)
    ∙ ap (λ (k : ℕ). option_and_then (patch (with_cells_at cells (first_of text) cs.value)) (runs_read cs.form n (first_of text + len_of text + 1) k cs.rest)) (sym (ap length here ∙ h)))

pub runs_put_more : (f next : Form) (n least : ℕ) (cells : List Glyph) (text : List ℕ) (after : List Glyph) (rest : List ℕ) → 1 ≤ n → may_begin least (length cells) text ≡ true
    → cells_put f (len_of text) (first_of text) cells (drop 8 text) ≡ front next after rest → length after ≡ length cells
    → runs_put f n least cells text ≡ runs_put next (n - 1) (first_of text + len_of text + 1) after rest
unfolding runs_read
runs_put_more f next zero least cells text after rest h e g k = absurd (omega arith)
runs_put_more f next (suc n) least cells text after rest h e g k =
    let one : n ≡ suc n - 1 = omega arith in
    rw e (some_laid next cells (cells_read f (len_of text) (drop 8 text)) n (length cells) text after rest g k)
    ∙ ap (λ (m : ℕ). runs_put next m (first_of text + len_of text + 1) after rest) one

pub runs_put_go : (f after_form : Form) (n k least next : ℕ) (cells : List Glyph) (text : List ℕ) (after : List Glyph) (rest : List ℕ) → k < n → may_begin least (length cells) text ≡ true
    → cells_put f (len_of text) (first_of text) cells (drop 8 text) ≡ front after_form after rest → length after ≡ length cells → next ≡ first_of text + len_of text + 1
    → runs_put after_form (n - (k + 1)) next after rest ≡ runs_put f (n - k) least cells text
runs_put_go f after_form n k least next cells text after rest h e g l s =
    let a : n - (k + 1) ≡ n - k - 1 = omega arith in
    rw (a, s) (sym (runs_put_more f after_form (n - k) least cells text after rest (omega arith) e g l))

-- the facts about a run that may begin
pub record Begins (least last first len : ℕ) : Type 0 where
  pub some : 1 ≤ len
  pub to : first + len ≤ last

pub begin_facts : (least last : ℕ) (text : List ℕ) → may_begin least last text ≡ true → Begins least last (big_number 4 text) (big_number 4 (drop 4 text))
begin_facts least last text e =
    let a = and_parts (leb 8 (length text)) _ e in
    let b = and_parts (leb least (big_number 4 text)) _ a.1 in
    let c = and_parts (leb 1 (big_number 4 (drop 4 text))) (leb (big_number 4 text + big_number 4 (drop 4 text)) last) b.1 in
    record { some = leb-true _ _ c.0; to = leb-true _ _ c.1 }

-- the steps of the loop over the runs of a text
pub ruleset put_steps = (runs_put_whole, runs_put_more_text, runs_put_unused, runs_put_refused, runs_put_fails, runs_put_go)
