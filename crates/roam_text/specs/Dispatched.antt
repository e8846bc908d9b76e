-- The functions of a dispatched byte, with the parameters and intermediate bytes that the reader lends.
use Rattle.std.specs.Prelude.{ℕ, Bool, true, false, List, [], ◌∷◌, Option, None, Some}
use Rattle.roam_text.specs.declared.functions.Function.{Function}
use Rattle.roam_text.specs.declared.functions.Function.TheVariants.{Print as FunctionPrint, C0 as FunctionC0, C1 as FunctionC1, Esc as FunctionEsc, Csi as FunctionCsi}
use Rattle.roam_text.specs.declared.functions.Dispatch.{Dispatch}
use Rattle.roam_text.specs.declared.functions.Dispatch.TheVariants.{Print, C0, C1, Esc, Csi}
use Rattle.roam_text.specs.declared.parsers.Parser.{Parser}
use Rattle.roam_text.specs.declared.functions.Dispatched.{Dispatched}
use Rattle.roam_text.specs.declared.functions.Dispatched.TheVariants.{Nothing, One, AfterReplacement}

-- the function of a dispatch, with these parameters and intermediate bytes
abbrev pub function_of : Dispatch → List ℕ → List ℕ → Function
function_of (Print c) params inter = FunctionPrint c
function_of (C0 b) params inter = FunctionC0 b
function_of (C1 b) params inter = FunctionC1 b
function_of (Esc last) params inter = FunctionEsc (record { items = inter }) last
function_of (Csi mark last) params inter = FunctionCsi mark (record { items = params }) (record { items = inter }) last

-- the function of a dispatch, if there is one
abbrev pub functions_with : Option Dispatch → List ℕ → List ℕ → List Function
functions_with None params inter = []
functions_with (Some d) params inter = function_of d params inter ∷ []

-- the function that a parser returned, with the kept parts of its sequence
abbrev pub answer_functions : Option Dispatch → Parser → List Function
answer_functions d p = functions_with d p.sequence.params.items p.sequence.inter.items

-- U+FFFD is printed, or falls into a control string
abbrev pub replacement : Bool → List Function
replacement true = FunctionPrint 0xFFFD ∷ []
replacement false = []

-- the functions of a dispatched value
abbrev pub functions_by : Dispatched → List ℕ → List ℕ → List Function
functions_by Nothing params inter = []
functions_by (One d) params inter = function_of d params inter ∷ []
functions_by (AfterReplacement d) params inter = FunctionPrint 0xFFFD ∷ function_of d params inter ∷ []
