-- The bytes written to a terminal of a run lead a terminal to its noted screen.
use Rattle.std.specs.Prelude.{◌≡◌, ◌⊎◌, ℕ, List, [], ◌∷◌, ◌++◌, Option, Some, None}
use Rattle.std.specs.Io.KnownBytes.{Appends}
use Rattle.roam_cells.specs.declared.addresses.Addr.{Addr}
use Rattle.roam_overlay.specs.Overlays.{OverlayOf, laid_over}
use Rattle.roam_viewport.specs.Parts.{part_of}
use Rattle.roam_viewport.specs.declared.parts.Part.{Part}
use Rattle.roam_display_records.specs.declared.records.Record.{Record}
use Rattle.roam_screens.specs.Screenshot.{Screenshot}
use Rattle.roam_display_state.specs.Leading.{IsSaid}
use Rattle.roam_display_state.specs.Saying.{texts_of}
use Rattle.roam_display_state.specs.DisplayState.{DisplayStateView}
use Rattle.roam_text.specs.Log.{Item}
use Rattle.roam_turns.specs.Calls.{PortCall}
use Rattle.roam_turns.specs.Painting.{DisplaysNoted, Fits, ShowsAt}
use Rattle.roam_turns.specs.declared.outer.Noted.{Noted}
use Rattle.roam_outer_terminal.specs.Overlaid.{on_show}
use Rattle.roam_shared_client.specs.Running.{Asks, Came, IsStep, RunStep, RunsBy, Took}
use Rattle.roam_shared_client.specs.Sharing.{Shared}
use Rattle.roam_outer_terminal.specs.declared.terminal.Terminal.{Terminal}
use Rattle.roam_shared_client_laws.specs.Lines.{came_in}

-- the screens that the instance showed after each step of a run
abbrev pub screens_in : {S : Type 0} (remaining contents : S → Option (List ℕ)) (to : Addr) (steps : List (RunStep S))
    (calls calls' : Option (List PortCall)) (old new : Shared S) → RunsBy remaining contents to steps calls calls' old new
    → List Screenshot
screens_in remaining contents to [] calls calls' old new h = []
screens_in remaining contents to (step ∷ steps) calls calls' old new h =
    h.0.client.kept.receiver.newest.state ∷ screens_in remaining contents to steps h.1 calls' h.0 new h.3

-- a terminal has the rows and columns of each of these screens at least
abbrev pub FitsAll : (rows cols lines : ℕ) → List Item → List Screenshot → Type 0
FitsAll rows cols lines log [] = Unit {0}
FitsAll rows cols lines log (s ∷ screens) = Fits rows cols lines log s × FitsAll rows cols lines log screens

-- A text leads any terminal of at least the size of these screens, in any state, to the noted screen with its overlay, as a ground terminal
-- of its size.
abbrev pub LeadsAny : List Screenshot → List ℕ → Option Noted → Type 0
LeadsAny screens text None = Unit {0}
LeadsAny screens text (Some noted) =
    (rows cols lines : ℕ) (log : List Item) → DisplaysNoted rows cols lines log None → FitsAll rows cols lines log screens
    → ShowsAt rows cols lines log text noted.screen

-- something is one of these
abbrev pub IsOneOf : {X : Type 0} → X → List X → Type 0
IsOneOf x [] = ⊥
IsOneOf x (y ∷ ys) = (y ≡ x) ⊎ IsOneOf x ys

-- a noted screen is one of these screens
abbrev pub IsNotedOf : List Screenshot → Option Noted → Type 0
IsNotedOf screens None = Unit {0}
IsNotedOf screens (Some noted) = IsOneOf noted.screen screens

-- A terminal at the other end of one of these streams. Its noted screen is one that was shown. Its bytes, written and queued, are two
-- parts: those before it was last painted anew, and a text that leads any terminal to the noted screen with its overlay.
pub record IsLed {S : Type 0} (contents : S → Option (List ℕ)) (came : List S) (screens : List Screenshot) (t : Terminal S) : Type 0 where
  pub stream : S
  pub is : IsOneOf stream came
  pub noted : IsNotedOf screens t.outer
  pub written : List ℕ
  pub appended : Appends (contents stream) (contents t.stream) written
  pub before : List ℕ
  pub since : List ℕ
  pub parts : written ++ t.waiting ≡ before ++ since
  pub leads : LeadsAny screens since (on_show t.over t.outer)

-- ---- in records

-- one of these terminals has this overlay
abbrev pub HasOverlay : {S : Type 0} → OverlayOf → List (Terminal S) → Type 0
HasOverlay overlay [] = ⊥
HasOverlay overlay (t ∷ all) = (t.predicting ≡ Some overlay) ⊎ HasOverlay overlay all

-- a terminal had this overlay once it was painted in a step, at this moment
abbrev pub IsLaidIn : {S : Type 0} (remaining contents : S → Option (List ℕ)) (to : Addr) (overlay : OverlayOf) (now : ℕ) (step : RunStep S)
    (calls calls' : Option (List PortCall)) (old new : Shared S) → IsStep remaining contents to step calls calls' old new → Type 0
IsLaidIn remaining contents to overlay now (Asks call) calls calls' old new h = ⊥
IsLaidIn remaining contents to overlay now (Came stream) calls calls' old new h = ⊥
IsLaidIn remaining contents to overlay now (Took silence wait) calls calls' old new h =
    (now ≡ silence.moment) × HasOverlay overlay h.painted

-- the same of a step of a run
abbrev pub WasLaid : {S : Type 0} (remaining contents : S → Option (List ℕ)) (to : Addr) (steps : List (RunStep S))
    (calls calls' : Option (List PortCall)) (old new : Shared S) → RunsBy remaining contents to steps calls calls' old new
    → OverlayOf → ℕ → Type 0
WasLaid remaining contents to [] calls calls' old new h overlay now = ⊥
WasLaid remaining contents to (step ∷ steps) calls calls' old new h overlay now =
    IsLaidIn remaining contents to overlay now step calls h.1 old h.0 h.2
    ⊎ WasLaid remaining contents to steps h.1 calls' h.0 new h.3 overlay now

-- a screen that was shown, without an overlay, or with one of these overlays at its moment
abbrev pub IsLaidOf : (OverlayOf → ℕ → Type 0) → List Screenshot → Screenshot → Type 0
IsLaidOf laid screens s =
    (base : Screenshot) × IsOneOf base screens
    × ((s ≡ base) ⊎ ((overlay : OverlayOf) × (now : ℕ) × laid overlay now × (s ≡ laid_over overlay base now)))

-- the screen to show is a part of such a screen, except for masked cells
abbrev pub IsPartOf : (OverlayOf → ℕ → Type 0) → List Screenshot → List Part → Option Screenshot → Type 0
IsPartOf laid screens masks None = Unit {0}
IsPartOf laid screens masks (Some view) = (part : Part) × (s : Screenshot) × IsLaidOf laid screens s × (view ≡ part_of part masks s)

-- A terminal with records at the other end of one of these streams. Its noted screen is one that was shown. Its bytes, written and queued,
-- are those before records began, and then records. The paintings since it was last painted anew lead any terminal of at least each sent
-- size to the screen to show, whose size was sent last. That screen is a part of one of these screens, with or without one of these
-- overlays.
pub record IsToldAs {S : Type 0} (laid : OverlayOf → ℕ → Type 0) (contents : S → Option (List ℕ)) (came : List S) (screens : List Screenshot) (t : Terminal S)
    (display_state : DisplayStateView) : Type 0 where
  pub stream : S
  pub is : IsOneOf stream came
  pub noted : IsNotedOf screens t.outer
  pub written : List ℕ
  pub appended : Appends (contents stream) (contents t.stream) written
  pub before : List ℕ
  pub said : List Record
  pub parts : written ++ t.waiting ≡ before ++ texts_of said
  pub leads : IsSaid said display_state
  pub shows : IsPartOf laid screens display_state.masks display_state.view

-- so it is of a terminal that asked for records, and of one that didn't
abbrev pub IsFollowed : {S : Type 0} → (OverlayOf → ℕ → Type 0) → (S → Option (List ℕ)) → List S → List Screenshot → Terminal S
    → Option DisplayStateView → Type 0
IsFollowed laid contents came screens t None = IsLed contents came screens t
IsFollowed laid contents came screens t (Some display_state) = IsToldAs laid contents came screens t display_state

abbrev pub AreLed : {S : Type 0} → (OverlayOf → ℕ → Type 0) → (S → Option (List ℕ)) → List S → List Screenshot → List (Terminal S) → Type 0
AreLed laid contents came screens [] = Unit {0}
AreLed laid contents came screens (t ∷ all) = IsFollowed laid contents came screens t t.display_state × AreLed laid contents came screens all

-- ---- the law

-- Each terminal after a run that begins without terminals has this property, with the overlays that its terminals had when they were
-- painted.
abbrev pub PaintingsLead : {S : Type 0} → (S → Option (List ℕ)) → (S → Option (List ℕ)) → Type 0
PaintingsLead {S} remaining contents =
    (to : Addr) (steps : List (RunStep S)) (calls calls' : Option (List PortCall)) (old new : Shared S) → old.all ≡ []
    → (h : RunsBy remaining contents to steps calls calls' old new)
    → AreLed (WasLaid remaining contents to steps calls calls' old new h) contents (came_in steps) (screens_in remaining contents to steps calls calls' old new h) new.all
