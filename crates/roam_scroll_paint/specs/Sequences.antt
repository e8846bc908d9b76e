-- The spelling of control functions and characters, if a parameter may be left out.
use Rattle.std.specs.Prelude.{ℕ, ◌-◌, ◌==◌, ◌&&◌, not, Bool, false, if◌then◌else◌, List, [], ◌∷◌, ◌++◌}
use Rattle.roam_text.specs.declared.functions.Function.{Function}
use Rattle.roam_text.specs.declared.functions.Function.TheVariants.{C0, C1, Csi}
use Rattle.roam_paint.specs.Sequences.{marker_text, spelling_of}

-- whether there is one parameter, and it is 0
abbrev pub is_one_zero : List ℕ → Bool
is_one_zero [] = false
is_one_zero (p ∷ []) = p == 0
is_one_zero (p ∷ q ∷ params) = false

-- A control, a C1 control after ESC (ECMA-48 5.3), and a control sequence. Its only parameter isn't written if it is 0, except for SGR's
-- (ECMA-48 5.4.2: the default). Everything else is spelled in full.
abbrev pub text_of : Function → List ℕ
text_of (C0 b) = b ∷ []
text_of (C1 b) = 0x1B ∷ (b - 0x40) ∷ []
text_of (Csi mark params inter last) =
    if (not (last == 0x6D) && is_one_zero params.items) then 0x1B ∷ 0x5B ∷ marker_text mark ++ last ∷ []
    else spelling_of (Csi mark params inter last)
text_of f = spelling_of f
