-- Lists of cells: when two are one, and how many rows they make; and blanks.
use Rattle.std.proofs.Common.{◌≡◌, ℕ, ◌+◌, ◌*◌, ◌/◌, ◌%◌, ◌<◌, All, List, [], ◌∷◌, Bool, true, false, not, ◌&&◌, eqb, refl, length, get_or, replicate, sym, ap, ◌∙◌, arith}
use Rattle.std.specs.Char.{IsScalar}
use Rattle.std.proofs.lemmas.List.Elements.{All-nil, All-cons}
use Rattle.std.proofs.lemmas.List.{same_lists, get_or_default, get_or-replicate}
use Rattle.std.proofs.Math.Nat.{mul-div_cancel, mod-add-div'}
use Rattle.roam_cells.specs.Glyph.{Glyph, IsShown, IsStyle, is_wide, is_cell_text, space_in, right_of, default_style, blank}
use Rattle.roam_cells.specs.declared.styles.Style.{Style}
use Rattle.roam_cells.specs.Place.{cell_at}
use Rattle.roam_cells.specs.Width.{width-space}
use Rattle.roam_cells.proofs.Places.{place_below}

pub is_wide-blank : is_wide blank ≡ false
is_wide-blank = ap (λ w. eqb w 2) width-space

-- each place of a blank screen is blank
pub blank_at : (rows cols r c : ℕ) → r < rows → c < cols → cell_at cols (replicate (rows * cols) blank) r c ≡ blank
blank_at rows cols r c p q = get_or-replicate (rows * cols) (r * cols + c) blank blank (place_below rows cols r c p q)

-- a list of one scalar value
pub one_scalar : (c : ℕ) → IsScalar c → All IsScalar (c ∷ [])
one_scalar c h = All-cons IsScalar c [] h (All-nil IsScalar)

-- a code point that makes a cell, in a style that there is
pub cell_shown : (c : ℕ) (style : Style) (guarded : Bool) → is_cell_text (c ∷ []) ≡ true → IsScalar c → IsStyle style
    → IsShown (record { points = c ∷ []; style = style; guarded = guarded })
cell_shown c style guarded e h is = record { text = e; scalars = one_scalar c h; style = is }

-- a space in the style of what some cell shows
pub space_in_shown : (g : Glyph) → IsShown g → IsShown (space_in g)
space_in_shown g h = cell_shown 32 g.style g.guarded (ap (λ w. not (eqb w 0) && true && true) width-space) refl h.style

-- the default style is one that there is
pub default_is_style : IsStyle default_style
default_is_style = record { foreground = tt; background = tt }

pub blank_shown : IsShown blank
blank_shown = cell_shown 32 default_style false (ap (λ w. not (eqb w 0) && true && true) width-space) refl default_is_style

-- a right half in the style of what some cell shows
pub half_shown : (g : Glyph) → IsShown g → IsShown (right_of g)
half_shown g h = record { text = refl; scalars = All-nil IsScalar; style = h.style }

-- lists with the same cell at each place are one
pub same_cells : (xs ys : List Glyph) → length xs ≡ length ys → ((k : ℕ) → k < length xs → get_or xs k blank ≡ get_or ys k blank) → xs ≡ ys
same_cells xs ys len each =
    same_lists xs ys len
    (λ k d h. get_or_default xs k d blank h ∙ each k h ∙ get_or_default ys k blank d (omega (arith, len, h)))

-- a number of whole rows is the length by the columns
pub rows_are : (n rows cols : ℕ) → 0 < cols → n ≡ rows * cols → rows ≡ n / cols
rows_are n rows cols p e = sym (mul-div_cancel rows p) ∙ ap (λ k. k / cols) (sym e)

-- whole rows leave no rest
pub no_rest : (n rows cols : ℕ) → 0 < cols → n ≡ rows * cols → n % cols ≡ 0
no_rest n rows cols p e =
    let all = mod-add-div' n cols in
    let same = ap (λ k. k * cols) (rows_are n rows cols p e) in
    omega (arith, all, same)

-- no rest is left by whole rows
pub whole_rows : (n cols : ℕ) → n % cols ≡ 0 → n ≡ n / cols * cols
whole_rows n cols e = let all = mod-add-div' n cols in omega (arith, all)
