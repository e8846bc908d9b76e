-- The functions that set a style in place of another one: all of it, or its additions (SGR, ECMA-48 8.3.117).
use Rattle.std.specs.Prelude.{ℕ, ◌&&◌, ◌||◌, not, nat_lt, nat_le, Bool, true, false, if◌then◌else◌, List, [], ◌∷◌, ◌++◌, length, None}
use Rattle.roam_cells.specs.Same.{same_colour, same_style}
use Rattle.roam_cells.specs.declared.styles.Style.{Style}
use Rattle.roam_cells.specs.declared.styles.Colour.{Colour}
use Rattle.roam_cells.specs.declared.styles.Colour.TheVariants.{Default, Index, Rgb}
use Rattle.roam_text.specs.declared.functions.Function.{Function}
use Rattle.roam_term.specs.ControlFunctions.{csi, restyle}

-- a parameter for a flag that comes
abbrev pub flag_added : Bool → Bool → ℕ → List ℕ
flag_added before after code = if (after && not before) then code ∷ [] else []

-- the parameters of a colour: the default, one of the table, a mixture (ISO 8613-6)
abbrev pub colour_words : ℕ → ℕ → Colour → List ℕ
colour_words code ending Default = ending ∷ []
colour_words code ending (Index n) = code ∷ 5 ∷ n ∷ []
colour_words code ending (Rgb r g b) = code ∷ 2 ∷ r ∷ g ∷ b ∷ []

-- and if another colour is set
abbrev pub colour_added : Colour → Colour → ℕ → ℕ → List ℕ
colour_added before after code ending = if same_colour before after then [] else colour_words code ending after

-- the parameters for all that a style has and another one hasn't
unfoldable pub change_codes : Style → Style → List ℕ
change_codes g s =
    ((((((((flag_added g.bold s.bold 1 ++ flag_added g.faint s.faint 2) ++ flag_added g.italic s.italic 3)
    ++ flag_added g.underline s.underline 4) ++ flag_added g.blink s.blink 5) ++ flag_added g.reverse s.reverse 7)
    ++ flag_added g.conceal s.conceal 8) ++ flag_added g.strike s.strike 9)
    ++ colour_added g.foreground s.foreground 38 39) ++ colour_added g.background s.background 48 49

-- whether a flag of one style isn't in the other
abbrev pub ends_flag : Style → Style → Bool
ends_flag g s =
    (g.bold && not s.bold) || ((g.faint && not s.faint) || ((g.italic && not s.italic) || ((g.underline && not s.underline)
    || ((g.blink && not s.blink) || ((g.reverse && not s.reverse) || ((g.conceal && not s.conceal) || (g.strike && not s.strike)))))))

abbrev pub is_default : Colour → Bool
is_default Default = true
is_default (Index n) = false
is_default (Rgb r g b) = false

-- one colour goes back to the default, and the other isn't kept: then all is said anew, which is shorter
abbrev pub ends_alone : Colour → Colour → Colour → Colour → Bool
ends_alone before after other_before other_after =
    not (is_default before) && (is_default after && (is_default other_after || not (same_colour other_before other_after)))

-- the additions to a style, if they are shorter; a sequence has at most sixteen parameters
unfoldable pub adds : Style → Style → Bool
adds g s =
    not (ends_flag g s)
    && (not (ends_alone g.foreground s.foreground g.background s.background)
    && (not (ends_alone g.background s.background g.foreground s.foreground)
    && (nat_lt 0 (length (change_codes g s)) && nat_le (length (change_codes g s)) 16)))

-- a style is set in place of another one: by its additions, or whole
abbrev pub changing : Style → Style → List Function
changing g s = if adds g s then csi None (change_codes g s) 0x6D ∷ [] else restyle s

-- and nothing if it is already set
abbrev pub styled_from : Style → Style → List Function
styled_from g s = if same_style s g then [] else changing g s
