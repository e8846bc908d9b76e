-- The questions and emissions of bytes behind others.
use Rattle.std.proofs.Common.{◌≡◌, ◌+◌, ℕ, false, List, [], ◌∷◌, ◌++◌, map, length, ap, ◌∙◌}
use Rattle.std.specs.List.{flat_map}
use Rattle.std.proofs.lemmas.List.{append-nil, map-append}
use Rattle.std.proofs.lemmas.List.Concat.{flat_map-append}
use Rattle.roam_text.specs.Log.{Byte}
use Rattle.roam_text.specs.Functions.{functions_of}
use Rattle.roam_text.specs.Strings.{Strings, strings_of}
use Rattle.roam_text.proofs.Fronts.{functions-nil}
use Rattle.roam_text.proofs.StringMoves.{strings-nil}
use Rattle.roam_text.proofs.Growth.{functions_of-front}
use Rattle.roam_text.proofs.StringLogs.{strings_of-front}
use Rattle.roam_pane_metadata.specs.declared.queries.Query.{Query}
use Rattle.roam_pane_metadata.specs.Settings.{fresh_settings}
use Rattle.roam_pane_metadata.specs.Queries.{asked_after, asked_by_string, asked_in, asked_next, by_functions, by_strings, queries_of}
use Rattle.roam_pane_metadata.specs.ScreenModes.{fresh_modes}
use Rattle.roam_pane_metadata.specs.Emissions.{Emission, Says, resets_of, spoken_of, emitted_after, emitted_by, emissions_of}
use Rattle.roam_pane_metadata.proofs.Folds.{asked-more}
use Rattle.roam_pane_metadata.proofs.Ordered.{both-counted, byte-behind, later-behind, next-is, none-later}

-- those of the functions and of the strings of a front are a front of all
pub functions-grow : (before more : List ℕ) → (later : List Query) × (by_functions (before ++ more) ≡ by_functions before ++ later)
functions-grow before more =
    let front = functions_of-front (map Byte before) (map Byte more) in (
      _,
      ap (λ l. asked_in fresh_settings fresh_modes (functions_of l)) (map-append Byte before more)
          ∙ ap (asked_in fresh_settings fresh_modes) front.1
          ∙ asked-more (functions_of (map Byte before)) front.0 fresh_settings fresh_modes,
    )

pub strings-grow : (before more : List ℕ) → (later : List Query) × (by_strings (before ++ more) ≡ by_strings before ++ later)
strings-grow before more =
    let front = strings_of-front (map Byte before) (map Byte more) in (
      flat_map asked_by_string front.0,
      ap (λ l. flat_map asked_by_string (strings_of l)) (map-append Byte before more)
          ∙ ap (flat_map asked_by_string) front.1
          ∙ flat_map-append asked_by_string (strings_of (map Byte before)) front.0,
    )

pub resets-grow : (before more : List ℕ) → (later : List Emission) × (resets_of (before ++ more) ≡ resets_of before ++ later)
resets-grow before more =
    let front = functions_of-front (map Byte before) (map Byte more) in (
      flat_map emitted_by front.0,
      ap (λ l. flat_map emitted_by (functions_of l)) (map-append Byte before more)
          ∙ ap (flat_map emitted_by) front.1
          ∙ flat_map-append emitted_by (functions_of (map Byte before)) front.0,
    )

pub spoken-grow : (before more : List ℕ) → (later : List Emission) × (spoken_of (before ++ more) ≡ spoken_of before ++ later)
spoken-grow before more =
    let front = strings_of-front (map Byte before) (map Byte more) in (
      map Says front.0,
      ap (λ l. map Says (strings_of l)) (map-append Byte before more)
          ∙ ap (map Says) front.1
          ∙ map-append Says (strings_of (map Byte before)) front.0,
    )

-- ---- questions

-- the questions of bytes, and of those behind them
pub asked-behind : (before xs ys : List ℕ) → asked_after before (xs ++ ys) ≡ asked_after before xs ++ asked_after (before ++ xs) ys
asked-behind = later-behind by_functions by_strings

pub asked-byte : (bytes : List ℕ) (b : ℕ) → queries_of (bytes ++ b ∷ []) ≡ queries_of bytes ++ asked_next bytes b
asked-byte = byte-behind by_functions by_strings

-- bytes that add nothing to either ask nothing
pub none-asked : (before run : List ℕ) → by_functions (before ++ run) ≡ by_functions before → by_strings (before ++ run) ≡ by_strings before
    → asked_after before run ≡ []
none-asked = none-later by_functions by_strings functions-grow strings-grow

-- a byte's questions are those that it adds to both lists
pub asked-by : (bytes : List ℕ) (b : ℕ) (fs ss : List Query) → by_functions (bytes ++ b ∷ []) ≡ by_functions bytes ++ fs
    → by_strings (bytes ++ b ∷ []) ≡ by_strings bytes ++ ss → asked_next bytes b ≡ fs ++ ss
asked-by = next-is by_functions by_strings

functions-none : by_functions [] ≡ []
functions-none = ap (asked_in fresh_settings fresh_modes) functions-nil

strings-none : by_strings [] ≡ []
strings-none = ap (λ (s : Strings). flat_map asked_by_string s.ended) strings-nil

pub queries-counted : (bytes : List ℕ) → length (queries_of bytes) ≡ length (by_functions bytes) + length (by_strings bytes)
queries-counted = both-counted by_functions by_strings functions-grow strings-grow functions-none strings-none

-- ---- utterances

pub emitted-behind : (before xs ys : List ℕ) → emitted_after before (xs ++ ys) ≡ emitted_after before xs ++ emitted_after (before ++ xs) ys
emitted-behind = later-behind resets_of spoken_of

-- a byte's emissions are those that it adds to both lists
pub emitted-by : (bytes : List ℕ) (b : ℕ) (fs ss : List Emission) → resets_of (bytes ++ b ∷ []) ≡ resets_of bytes ++ fs
    → spoken_of (bytes ++ b ∷ []) ≡ spoken_of bytes ++ ss → emissions_of (bytes ++ b ∷ []) ≡ emissions_of bytes ++ (fs ++ ss)
emitted-by bytes b fs ss f s =
    byte-behind resets_of spoken_of bytes b ∙ ap (λ l. emissions_of bytes ++ l) (next-is resets_of spoken_of bytes b fs ss f s)

-- bytes that add nothing to either utter nothing
pub none-emitted : (bytes run : List ℕ) → resets_of (bytes ++ run) ≡ resets_of bytes → spoken_of (bytes ++ run) ≡ spoken_of bytes
    → emissions_of (bytes ++ run) ≡ emissions_of bytes
none-emitted bytes run f s =
    emitted-behind [] bytes run
    ∙ ap (λ l. emissions_of bytes ++ l) (none-later resets_of spoken_of resets-grow spoken-grow bytes run f s)
    ∙ append-nil (emissions_of bytes)

pub resets-none : resets_of [] ≡ []
resets-none = ap (flat_map emitted_by) functions-nil

pub spoken-none : spoken_of [] ≡ []
spoken-none = ap (λ (s : Strings). map Says s.ended) strings-nil

pub emissions-counted : (bytes : List ℕ) → length (emissions_of bytes) ≡ length (resets_of bytes) + length (spoken_of bytes)
emissions-counted = both-counted resets_of spoken_of resets-grow spoken-grow resets-none spoken-none
