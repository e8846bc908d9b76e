-- The result of a function that reads the text behind a line's head. No public clause cites it.
use Rattle.std.specs.Prelude.{◌≡◌, ◌⊎◌, ℕ, List, Result, MatchResult}
use Rattle.roam_world_script.specs.declared.kinds.Kind.{Kind}
use Rattle.roam_world_script.specs.declared.lines.Line.{Line}
use Rattle.roam_world_script.specs.declared.lines.LineFault.{LineFault}
use Rattle.roam_world_script.specs.declared.lines.LineFault.TheVariants.{BadEvent, OutOfMemory}
use Rattle.roam_world_script.specs.Values.{LineValue, IsLine}
use Rattle.roam_world_script.specs.Kinds.{kind_of}
use Rattle.roam_world_script.specs.Lines.{IsArgument, value_of}

-- a line of this kind that has these bytes after its head
pub record IsLineWith (kind : Kind) (text : List ℕ) (l : LineValue) : Type 0 where
  pub same_kind : kind_of l ≡ kind
  pub in_range : IsLine l
  pub argument : IsArgument l text

-- no line of this kind has them
abbrev pub IsNoLineWith : Kind → List ℕ → Type 0
IsNoLineWith kind text = (l : LineValue) → IsLineWith kind text l → ⊥

-- a line of this kind was read, or there is none, or memory is wanting
abbrev pub IsRead : Kind → List ℕ → Result Line LineFault → Type 0
IsRead kind text r =
    MatchResult r (λ l. IsLineWith kind text (value_of l)) (λ e. (e ≡ OutOfMemory) ⊎ ((e ≡ BadEvent) × IsNoLineWith kind text))
