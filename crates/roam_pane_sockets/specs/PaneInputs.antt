-- The way from a pane's program to the pane's terminal.
use Rattle.std.specs.Prelude.{ℕ, ◌≡◌, ◌⊎◌, ◌++◌, Bool, List, [], is_some}
use Rattle.roam_pane_metadata.specs.Metadata.{Stands}
use Rattle.roam_pane_sockets.specs.FilterStages.{Goes, PassesOn, TakesMore, taken_in}
use Rattle.roam_pane_sockets.specs.declared.pane_inputs.PaneInput.{PaneInput}

-- In the generation of a pane, the program sent one list of bytes and the terminal got another: the same, or the normalized one if that is
-- asked for. The metadata read what the program sent.
pub record Carries (pane_input : PaneInput) (came given : List ℕ) : Type 0 where
  pub goes : Goes pane_input.filter_stage came given
  pub metadata : Stands pane_input.metadata came

-- no bytes arrived in this generation of the pane, and later ones pass a filter or don't
pub record IsFreshPaneInput (pane_input : PaneInput) (is_normalized : Bool) : Type 0 where
  pub kind : is_some pane_input.filter_stage ≡ is_normalized
  pub carries : Carries pane_input [] []

-- This many queued bytes go on at a moment, or, if more may be read, queued bytes and a new piece. An open update stays from its beginning
-- until it is over.
abbrev pub HandsOn : ℕ → PaneInput → PaneInput → ℕ → Type 0
HandsOn now old new count =
    PassesOn now old.filter_stage new.filter_stage count
    ⊎ ((piece : List ℕ) × TakesMore old.filter_stage × PassesOn now (taken_in piece old.filter_stage) new.filter_stage count)

-- a piece came of its program, or none, and these bytes are handed to its terminal
pub record Brings (old new : PaneInput) (bytes : List ℕ) : Type 0 where
  pub piece : List ℕ
  pub carries : (came given : List ℕ) → Carries old came given → Carries new (came ++ piece) (given ++ bytes)
  pub kind : is_some new.filter_stage ≡ is_some old.filter_stage

-- this piece came of its program, and these bytes, so many, are handed to its terminal
pub record IsBrought (piece : List ℕ) (now : ℕ) (old new : PaneInput) (count : ℕ) (bytes : List ℕ) : Type 0 where
  pub carries : (came given : List ℕ) → Carries old came given → Carries new (came ++ piece) (given ++ bytes)
  pub kind : is_some new.filter_stage ≡ is_some old.filter_stage
  pub through : PassesOn now (taken_in piece old.filter_stage) new.filter_stage count

-- some piece did
abbrev pub BringsPiece : ℕ → PaneInput → PaneInput → ℕ → List ℕ → Type 0
BringsPiece now old new count bytes = (piece : List ℕ) × IsBrought piece now old new count bytes
