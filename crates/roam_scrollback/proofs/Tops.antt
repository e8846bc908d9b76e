-- The rows at the top of a screen, each with its flag.
use Rattle.std.proofs.Common.{◌≡◌, ℕ, zero, suc, ◌+◌, List, [], ◌∷◌, ◌++◌, length, drop, get_or, length-append, refl, ap, ◌∙◌, arith}
use Rattle.std.proofs.lemmas.Grind.{get_or_after_one}
use Rattle.roam_cells.specs.Glyph.{Glyph}
use Rattle.roam_cells.specs.Place.{row_of}
use Rattle.roam_grid.specs.Screen.{Screen}
use Rattle.roam_term.specs.Leaving.{top_rows}
use Rattle.roam_scrollback.specs.Lines.{rows_with}
use Rattle.roam_scrollback.specs.Wraps.{wrap_at}
use Rattle.roam_scrollback.specs.declared.wraps.Wrap.{Wrap}
use Rattle.roam_scrollback.specs.declared.wraps.Wrap.TheVariants.{Ends}

later-on : (wraps : List Wrap) (k : ℕ) → wrap_at (drop 1 wraps) k ≡ wrap_at wraps (k + 1)
later-on wraps k = get_or_after_one wraps k Ends ∙ ap (λ i. get_or wraps i Ends) (one k)
  where
    one : (k : ℕ) → 1 + k ≡ k + 1
    one k = omega arith

rows_with-snoc : (rows : List (List Glyph)) (row : List Glyph) (wraps : List Wrap)
    → rows_with (rows ++ row ∷ []) wraps ≡ rows_with rows wraps ++ record { wrap = wrap_at wraps (length rows); cells = row } ∷ []
rows_with-snoc [] row wraps = refl
rows_with-snoc (r ∷ rows) row wraps =
    ap (λ l. record { wrap = wrap_at wraps 0; cells = r } ∷ l)
    (rows_with-snoc rows row (drop 1 wraps)
    ∙ ap (λ b. rows_with rows (drop 1 wraps) ++ record { wrap = b; cells = row } ∷ []) (later-on wraps (length rows) ∙ ap (wrap_at wraps) (next (length rows))))
  where
    next : (n : ℕ) → n + 1 ≡ suc n
    next n = omega arith

top-length : (n : ℕ) (s : Screen) → length (top_rows n s) ≡ n
top-length zero s = refl
top-length (suc n) s =
    length-append (top_rows n s) (row_of s.cols s.cells n ∷ []) ∙ ap (λ k. k + 1) (top-length n s) ∙ omega arith

pub top-more : (n m : ℕ) (s : Screen) (wraps : List Wrap) → m ≡ suc n
    → rows_with (top_rows m s) wraps ≡ rows_with (top_rows n s) wraps ++ record { wrap = wrap_at wraps n; cells = row_of s.cols s.cells n } ∷ []
top-more n m s wraps e =
    ap (λ k. rows_with (top_rows k s) wraps) e ∙ rows_with-snoc (top_rows n s) (row_of s.cols s.cells n) wraps
    ∙ ap (λ k. rows_with (top_rows n s) wraps ++ record { wrap = wrap_at wraps k; cells = row_of s.cols s.cells n } ∷ []) (top-length n s)
