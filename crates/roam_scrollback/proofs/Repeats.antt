-- REP, cell by cell.
use Rattle.std.proofs.Common.{◌≡◌, ℕ, suc, ◌==◌, false, cond, List, [], ◌++◌, replicate, Option, Some, None, refl, sym, ap, subst, ◌∙◌, append_assoc}
use Rattle.std.specs.Prelude.{IsSomeAnd}
use Rattle.std.proofs.lemmas.List.{append-nil}
use Rattle.roam_cells.specs.Glyph.{Glyph}
use Rattle.roam_cells.specs.Width.{width_of}
use Rattle.roam_controls.specs.declared.commands.Command.TheVariants.{Repeats}
use Rattle.roam_grid.specs.Screen.{Screen}
use Rattle.roam_grid.specs.Writing.{put_on, put_all}
use Rattle.roam_grid.specs.declared.writing.Writing.{Writing}
use Rattle.roam_term.specs.Leaving.{left_by_put}
use Rattle.roam_term.specs.Terminal.{Live, glyph_in, writing_under, commanded_by, repeated_on}
use Rattle.roam_term.proofs.Prints.{put_step, put_none}
use Rattle.roam_scrollback.specs.Lines.{LeftRow, LinesView, rows_with, Writes}
use Rattle.roam_scrollback.specs.Sources.{rows_by_puts, wraps_puts}
use Rattle.roam_scrollback.specs.Wraps.{wraps_put}
use Rattle.roam_scrollback.specs.declared.wraps.Wrap.{Wrap}
use Rattle.roam_scrollback.proofs.Writing.{writes-then}

-- some of all rows were written, and the rest is to come
pub record HasWritten (start now : LinesView) (rest all : List LeftRow) : Type 0 where
  pub rows : List LeftRow
  pub written : Writes start now rows
  pub all_are : rows ++ rest ≡ all

-- the effect of one REP on a terminal that keeps a character
abbrev pub Keeps : Option ℕ → Glyph → Live → Type 0
Keeps o g s = IsSomeAnd o (λ c. ((width_of c == 0) ≡ false) × (g ≡ glyph_in c s.pen))

pub again-one : (o : Option ℕ) (s : Live) (g : Glyph) → s.printed ≡ o → Keeps o g s
    → commanded_by (Repeats 1) [] s ≡ record s { screen = put_on g (writing_under s.modes) s.screen }
again-one None s g e h = absurd h
again-one (Some c) s g e h =
    ap (λ o. repeated_on 1 o s) e
    ∙ ap (λ b. cond b s (record s { screen = put_all (replicate 1 (glyph_in c s.pen)) (writing_under s.modes) s.screen })) h.0
    ∙ ap (λ x. record s { screen = put_all (replicate 1 x) (writing_under s.modes) s.screen }) (sym h.1)
    ∙ ap (λ t. record s { screen = t })
    (put_step g (writing_under s.modes) s.screen 1 0 refl ∙ put_none g (writing_under s.modes) (put_on g (writing_under s.modes) s.screen) 0 refl)

-- and so many times
pub again-all : (n : ℕ) (o : Option ℕ) (s : Live) (g : Glyph) → s.printed ≡ o → Keeps o g s
    → commanded_by (Repeats n) [] s ≡ record s { screen = put_all (replicate n g) (writing_under s.modes) s.screen }
again-all n None s g e h = absurd h
again-all n (Some c) s g e h =
    ap (λ o. repeated_on n o s) e
    ∙ ap (λ b. cond b s (record s { screen = put_all (replicate n (glyph_in c s.pen)) (writing_under s.modes) s.screen })) h.0
    ∙ ap (λ x. record s { screen = put_all (replicate n x) (writing_under s.modes) s.screen }) (sym h.1)

pub wraps_step : (g : Glyph) (w : Writing) (s : Screen) (wraps : List Wrap) (n m : ℕ) → n ≡ suc m
    → wraps_puts (replicate n g) w s wraps ≡ wraps_puts (replicate m g) w (put_on g w s) (wraps_put g w s wraps)
wraps_step g w s wraps n m e = ap (λ k. wraps_puts (replicate k g) w s wraps) e

pub wraps_none : (g : Glyph) (w : Writing) (s : Screen) (wraps : List Wrap) (n : ℕ) → n ≡ 0 → wraps_puts (replicate n g) w s wraps ≡ wraps
wraps_none g w s wraps n e = ap (λ k. wraps_puts (replicate k g) w s wraps) e

pub rows_step : (g : Glyph) (w : Writing) (s : Screen) (wraps : List Wrap) (n m : ℕ) → n ≡ suc m
    → rows_by_puts (replicate n g) w s wraps
    ≡ rows_with (left_by_put g w s) wraps ++ rows_by_puts (replicate m g) w (put_on g w s) (wraps_put g w s wraps)
rows_step g w s wraps n m e = ap (λ k. rows_by_puts (replicate k g) w s wraps) e

pub rows_none : (g : Glyph) (w : Writing) (s : Screen) (wraps : List Wrap) (n : ℕ) → n ≡ 0 → rows_by_puts (replicate n g) w s wraps ≡ []
rows_none g w s wraps n e = ap (λ k. rows_by_puts (replicate k g) w s wraps) e

-- rows were written, of those that were to come
pub has-then : (a b c : LinesView) (xs rest more all : List LeftRow) → HasWritten a b more all → Writes b c xs → more ≡ xs ++ rest → HasWritten a c rest all
has-then a b c xs rest more all p q e = record {
  rows = p.rows ++ xs;
  written = writes-then a b c p.rows xs p.written q;
  all_are = append_assoc p.rows xs rest ∙ ap (λ l. p.rows ++ l) (sym e) ∙ p.all_are;
}

pub has-all : (a b : LinesView) (rest all : List LeftRow) → HasWritten a b rest all → rest ≡ [] → Writes a b all
has-all a b rest all p e =
    subst (λ l. Writes a b l) (sym (append-nil p.rows) ∙ ap (λ l. p.rows ++ l) (sym e) ∙ p.all_are) p.written
