-- Text that is printed at once.
use Rattle.std.proofs.Common.{◌≡◌, ◌≤◌, ◌<◌, ℕ, zero, suc, ◌-◌, ◌==◌, Bool, true, false, not, List, [], ◌∷◌, ◌++◌, map, length, get_or, Option, Some, None, refl, sym, ap, ◌∙◌, arith, replicate}
use Rattle.std.specs.Prelude.{if◌then◌else◌, unwrap_or, nat_le, ◌&&◌}
use Rattle.roam_cells.proofs.Ascii.{ascii_width}
use Rattle.roam_charset.specs.Charsets.{mapped_by}
use Rattle.roam_charset.specs.Sets.{set_in, in_use, spent}
use Rattle.roam_charset.specs.declared.charsets.Charset.TheVariants.{Ascii}
use Rattle.roam_charset.specs.declared.sets.Sets.{Sets}
use Rattle.roam_text.specs.declared.functions.Function.{Function}
use Rattle.roam_text.specs.declared.functions.Function.TheVariants.{Print}
use Rattle.roam_text.specs.Functions.{ArePlain}
use Rattle.roam_grid.specs.declared.writing.Writing.{Writing}
use Rattle.roam_grid.specs.Marks.{marks_put, marks_put_all}
use Rattle.roam_grid.specs.Screen.{Screen}
use Rattle.roam_cells.specs.Glyph.{Glyph, is_cell_text}
use Rattle.roam_cells.specs.Inks.{InkValue}
use Rattle.roam_cells.specs.Width.{width_of}
use Rattle.roam_grid.specs.Writing.{put_on, put_all, joined_on}
use Rattle.roam_history.specs.Histories.{Scrollback}
use Rattle.roam_term.specs.Leaving.{left_by_put, left_by_puts}
use Rattle.roam_term.specs.Terminal.{Live, glyph_in, writing_under, written_on, printed_on, printed_all, changed_by, answer, live_after, kept_by, answers_after, history_after, rows_left, on_main, with_rows, left_by_character}
use Rattle.roam_term.proofs.Scrollback.{main_none, main_then, few_kept}
use Rattle.roam_term.proofs.Lists.{append-nil}

pub changed-print : (b : ℕ) (l : Live) → changed_by (Print b) l ≡ printed_on b l
unfolding changed_by
changed-print b l = refl

pub answer-print : (b : ℕ) (l : Live) → answer (Print b) l ≡ []
unfolding answer
answer-print b l = refl

-- a printed character answers nothing, and a function after it answers the same as there
pub answered-after : (b : ℕ) (f : Function) (l : Live) → answers_after l (Print b ∷ f ∷ []) ≡ answer f (printed_on b l)
answered-after b f l =
    ap (λ a. a ++ (answer f (changed_by (Print b) l) ++ [])) (answer-print b l)
    ∙ append-nil (answer f (changed_by (Print b) l)) ∙ ap (answer f) (changed-print b l)

pub lived-prints : (l : Live) (bs : List ℕ) → live_after l (map Print bs) ≡ printed_all l bs
lived-prints l [] = refl
lived-prints l (b ∷ bs) = lived-prints (changed_by (Print b) l) bs ∙ ap (λ k. printed_all k bs) (changed-print b l)

pub answered-prints : (l : Live) (bs : List ℕ) → answers_after l (map Print bs) ≡ []
answered-prints l [] = refl
answered-prints l (b ∷ bs) =
    ap (λ a. a ++ answers_after (changed_by (Print b) l) (map Print bs)) (answer-print b l) ∙ answered-prints (changed_by (Print b) l) bs

-- ---- printable ASCII in ASCII

pub plain_at : (bs : List ℕ) (i : ℕ) → ArePlain bs → i < length bs → (0x20 ≤ get_or bs i 0) × (get_or bs i 0 < 0x7F)
plain_at [] i plain h = absurd (omega arith)
plain_at (b ∷ bs) zero plain h = (plain.0, plain.1)
plain_at (b ∷ bs) (suc i) plain h = plain_at bs i plain.2 (omega arith)

either_way : (b : Bool) (c : ℕ) → (if b then c else c) ≡ c
either_way true c = refl
either_way false c = refl

pub mapped-ascii : (sets : Sets) (b : ℕ) → set_in sets.locked sets ≡ Ascii → sets.single ≡ None → mapped_by (in_use sets) b ≡ b
unfolding mapped_by
mapped-ascii sets b locked single =
    let set : in_use sets ≡ Ascii = ap (λ o. set_in (unwrap_or o sets.locked) sets) single ∙ locked in
    ap (λ k. mapped_by k b) set ∙ either_way (nat_le 0x21 b && nat_le b 0x7E) b

spent-none : (sets : Sets) → sets.single ≡ None → spent sets ≡ sets
spent-none sets single i = record { g0 = sets.g0; g1 = sets.g1; g2 = sets.g2; g3 = sets.g3; locked = sets.locked; single = sym single i }

-- printable ASCII is written as it is
pub printed-plain : (b : ℕ) (s : Live) → 0x20 ≤ b → b < 0x7F → set_in s.sets.locked s.sets ≡ Ascii → s.sets.single ≡ None
    → printed_on b s ≡ record s { screen = put_on (glyph_in b s.pen) (writing_under s.modes) s.screen; printed = Some b }
unfolding printed_on
printed-plain b s low high locked single =
    ap (λ c. written_on c (record s { sets = spent s.sets })) (mapped-ascii s.sets b locked single)
    ∙ ap (λ k. written_on b (record s { sets = k })) (spent-none s.sets single)
    ∙ ap
    (λ w.
    if w == 0 then record s { screen = joined_on b s.screen }
    else record s { screen = put_on (glyph_in b s.pen) (writing_under s.modes) s.screen; printed = Some b })
    (ascii_width b low high)

-- the last character of a run
pub last_printed : Option ℕ → List ℕ → Option ℕ
last_printed o [] = o
last_printed o (b ∷ bs) = last_printed (Some b) bs

more : (n : ℕ) → suc (suc n) - 1 ≡ suc (suc n - 1)
more n = omega arith

-- a run is written cell by cell
pub printed-run : (s : Live) (bs : List ℕ) → ArePlain bs → set_in s.sets.locked s.sets ≡ Ascii → s.sets.single ≡ None
    → printed_all s bs ≡ record s { screen = put_all (map (λ b. glyph_in b s.pen) bs) (writing_under s.modes) s.screen; printed = last_printed s.printed bs }
unfolding put_all last_printed
printed-run s [] plain locked single = refl
printed-run s (b ∷ bs) plain locked single =
    ap (λ k. printed_all k bs) (printed-plain b s plain.0 plain.1 locked single)
    ∙ printed-run (record s { screen = put_on (glyph_in b s.pen) (writing_under s.modes) s.screen; printed = Some b }) bs plain.2 locked single

pub last_printed-is : (o : Option ℕ) (bs : List ℕ) → 0 < length bs → last_printed o bs ≡ Some (get_or bs (length bs - 1) 0)
unfolding last_printed
last_printed-is o [] h = absurd (omega arith)
last_printed-is o (b ∷ []) h = refl
last_printed-is o (b ∷ c ∷ bs) h = last_printed-is (Some b) (c ∷ bs) (omega arith) ∙ ap Some (ap (λ i. get_or (b ∷ c ∷ bs) i 0) (sym (more (length bs))))

-- the row that a printed character makes leave
pub kept-print : (b : ℕ) (l : Live) (h : Scrollback) → history_after (Print b) l h ≡ with_rows (on_main l.alternate (left_by_character (mapped_by (in_use l.sets) b) l)) h
unfolding history_after rows_left
kept-print b l h = refl

left-plain : (b : ℕ) (s : Live) → 0x20 ≤ b → b < 0x7F → set_in s.sets.locked s.sets ≡ Ascii → s.sets.single ≡ None
    → left_by_character (mapped_by (in_use s.sets) b) s ≡ left_by_put (glyph_in b s.pen) (writing_under s.modes) s.screen
left-plain b s low high locked single =
    ap (λ c. left_by_character c s) (mapped-ascii s.sets b locked single)
    ∙ ap (λ w. if w == 0 then [] else left_by_put (glyph_in b s.pen) (writing_under s.modes) s.screen) (ascii_width b low high)

-- and those of a run
pub kept-run : (s : Live) (bs : List ℕ) (h : Scrollback) → ArePlain bs → set_in s.sets.locked s.sets ≡ Ascii → s.sets.single ≡ None → length h.rows ≤ h.lines
    → kept_by s (map Print bs) h ≡ with_rows (on_main s.alternate (left_by_puts (map (λ b. glyph_in b s.pen) bs) (writing_under s.modes) s.screen)) h
kept-run s [] h plain locked single few = sym (main_none s.alternate h few)
kept-run s (b ∷ bs) h plain locked single few =
    let next : Live = record s { screen = put_on (glyph_in b s.pen) (writing_under s.modes) s.screen; printed = Some b } in
    let row = left_by_put (glyph_in b s.pen) (writing_under s.modes) s.screen in
    ap (λ k. kept_by (changed_by (Print b) s) (map Print bs) k)
    (kept-print b s h ∙ ap (λ rows. with_rows (on_main s.alternate rows) h) (left-plain b s plain.0 plain.1 locked single))
    ∙ ap (λ l. kept_by l (map Print bs) (with_rows (on_main s.alternate row) h)) (changed-print b s ∙ printed-plain b s plain.0 plain.1 locked single)
    ∙ kept-run next bs (with_rows (on_main s.alternate row) h) plain.2 locked single (few_kept (on_main s.alternate row) h)
    ∙ main_then s.alternate row (left_by_puts (map (λ b. glyph_in b s.pen) bs) (writing_under s.modes) next.screen) h

-- a cell that is written so many times is written once, and then one time less
pub put_step : (g : Glyph) (w : Writing) (s : Screen) (n m : ℕ) → n ≡ suc m → put_all (replicate n g) w s ≡ put_all (replicate m g) w (put_on g w s)
unfolding put_all
put_step g w s n m e = ap (λ k. put_all (replicate k g) w s) e

pub put_none : (g : Glyph) (w : Writing) (s : Screen) (n : ℕ) → n ≡ 0 → put_all (replicate n g) w s ≡ s
unfolding put_all
put_none g w s n e = ap (λ k. put_all (replicate k g) w s) e

pub marks_step : (g : Glyph) (w : Writing) (s : Screen) (marks : List Bool) (n m : ℕ) → n ≡ suc m
    → marks_put_all (replicate n g) w s marks ≡ marks_put_all (replicate m g) w (put_on g w s) (marks_put g w s marks)
unfolding marks_put_all
marks_step g w s marks n m e = ap (λ k. marks_put_all (replicate k g) w s marks) e

pub marks_none : (g : Glyph) (w : Writing) (s : Screen) (marks : List Bool) (n : ℕ) → n ≡ 0 → marks_put_all (replicate n g) w s marks ≡ marks
unfolding marks_put_all
marks_none g w s marks n e = ap (λ k. marks_put_all (replicate k g) w s marks) e

inked_by : (b : Bool) (x cell : Glyph) → (if (not b && true) && true then Some x else None) ≡ Some cell → (b ≡ false) × (cell ≡ x)
inked_by true x cell e = absurd cc
inked_by false x cell e = (refl, cc)

-- a cell of one character, which has a width
pub inked : (c : ℕ) (pen : InkValue) (cell : Glyph) → (if is_cell_text (c ∷ []) then Some (glyph_in c pen) else None) ≡ Some cell
    → ((width_of c == 0) ≡ false) × (cell ≡ glyph_in c pen)
inked c pen cell e = inked_by (width_of c == 0) (glyph_in c pen) cell e

inkless_by : (b : Bool) (x : Glyph) → (if (not b && true) && true then Some x else None) ≡ None → b ≡ true
inkless_by true x e = refl
inkless_by false x e = absurd cc

-- a character that makes no cell by itself has no width
pub inkless : (c : ℕ) (pen : InkValue) → (if is_cell_text (c ∷ []) then Some (glyph_in c pen) else None) ≡ None
    → (width_of c == 0) ≡ true
inkless c pen e = inkless_by (width_of c == 0) (glyph_in c pen) e
