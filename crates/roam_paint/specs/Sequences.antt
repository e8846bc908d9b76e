-- How control functions and characters are spelled.
use Rattle.std.specs.Prelude.{ℕ, List, [], ◌∷◌, ◌++◌, Option, Some, None, decimal}
use Rattle.std.specs.Char.{encode_utf8}
use Rattle.roam_text.specs.declared.functions.Function.{Function}
use Rattle.roam_text.specs.declared.functions.Function.TheVariants.{Print, Esc, Csi}

-- parameters in decimal, parted by 3B (ECMA-48 5.4.2)
abbrev pub parameter_text : List ℕ → List ℕ
parameter_text [] = []
parameter_text (p ∷ []) = decimal p
parameter_text (p ∷ q ∷ params) = decimal p ++ 0x3B ∷ parameter_text (q ∷ params)

-- a private marker, if there is one
abbrev pub marker_text : Option ℕ → List ℕ
marker_text None = []
marker_text (Some mark) = mark ∷ []

-- a character in UTF-8, ESC with a final byte, or a control sequence after ESC [ (ECMA-48 5.3 and 5.4); a painter uses nothing else
abbrev pub spelling_of : Function → List ℕ
spelling_of (Print c) = encode_utf8 c
spelling_of (Esc inter last) = 0x1B ∷ last ∷ []
spelling_of (Csi mark params inter last) = 0x1B ∷ 0x5B ∷ marker_text mark ++ (parameter_text params.items ++ last ∷ [])
spelling_of f = []
