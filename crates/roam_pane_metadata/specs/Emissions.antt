-- The emissions of a program, in order: control strings, and the reset that removes a title.
use Rattle.std.specs.Prelude.{ℕ, ◌≡◌, ◌≤◌, ◌<◌, Bool, true, false, List, [], ◌∷◌, map, None, is_some, cond}
use Rattle.std.specs.List.{flat_map, fold}
use Rattle.roam_text.specs.declared.functions.Function.{Function}
use Rattle.roam_text.specs.declared.functions.Function.TheVariants.{Esc}
use Rattle.roam_text.specs.Log.{Byte}
use Rattle.roam_text.specs.Functions.{functions_of}
use Rattle.roam_text.specs.Strings.{ControlString, strings_of}
use Rattle.roam_pane_metadata.specs.Settings.{counted, most_counted, resets}
use Rattle.roam_pane_metadata.specs.InOrder.{in_order, later_in_order}
use Rattle.roam_pane_metadata.specs.Texts.{Said, nothing_said, said_by}

-- a control string that counts, or a reset
pub data Emission : Type 0 where
  Says : ControlString → Emission
  TakesBack : Emission

-- whether a function is RIS (ECMA-48 8.3.105)
abbrev pub is_reset : Function → Bool
is_reset (Esc inter last) = resets inter.items last
is_reset f = false

-- a reset, if it is one
abbrev pub reset_if : Bool → List Emission
reset_if true = TakesBack ∷ []
reset_if false = []

-- the emissions of a control function: RIS is a reset, and others are nothing
abbrev pub emitted_by : Function → List Emission
emitted_by f = reset_if (is_reset f)

-- the emissions of the control functions of some bytes
abbrev pub resets_of : List ℕ → List Emission
resets_of bytes = flat_map emitted_by (functions_of (map Byte bytes))

-- the emissions of their control strings
abbrev pub spoken_of : List ℕ → List Emission
spoken_of bytes = map Says (strings_of (map Byte bytes))

-- the emissions of the program that wrote these bytes: both kinds, in the order in which they were written
abbrev pub emissions_of : List ℕ → List Emission
emissions_of bytes = in_order resets_of spoken_of bytes

-- the emissions of bytes behind others
abbrev pub emitted_after : List ℕ → List ℕ → List Emission
emitted_after before more = later_in_order resets_of spoken_of before more

-- the control string of an utterance, if it is one
abbrev pub string_in : Emission → List ControlString
string_in (Says string) = string ∷ []
string_in TakesBack = []

-- RIS resets the title to its first value: there is none (ECMA-48 8.3.105). A removed title is counted as another one. A text for the
-- clipboard stays, since it was delivered.
abbrev pub without_title : Said → Said
without_title s = record s { title = None; titles = cond (is_some s.title) (counted s.titles) s.titles }

-- the stored texts after an emission
abbrev pub after_emission : Said → Emission → Said
after_emission s (Says string) = said_by s string
after_emission s TakesBack = without_title s

-- the stored texts after some emissions
abbrev pub said_of : List Emission → Said
said_of emitted = fold after_emission nothing_said emitted

-- A comparison of counts finds news: no count falls, and if one is equal so is the counted value, up to the largest count.
pub record IsCounted (old new : Said) : Type 0 where
  pub titles : old.titles ≤ new.titles
  pub title : new.titles ≡ old.titles → new.titles < most_counted → new.title ≡ old.title
  pub clips : old.clips ≤ new.clips
  pub clip : new.clips ≡ old.clips → new.clips < most_counted → new.clip ≡ old.clip

-- some of a list, in its order: control strings may be left out, a reset never
pub data IsPartOf : List Emission → List Emission → Type 0 where
  nothing_left : IsPartOf [] []
  kept_one : (u : Emission) (kept all : List Emission) → IsPartOf kept all → IsPartOf (u ∷ kept) (u ∷ all)
  left_out : (string : ControlString) (kept all : List Emission) → IsPartOf kept all → IsPartOf kept (Says string ∷ all)
