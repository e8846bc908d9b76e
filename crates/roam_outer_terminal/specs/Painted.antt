-- An outer terminal is painted from what its client instance shows.
use Rattle.std.specs.Prelude.{◌≡◌, ◌⊎◌, ℕ, List, [], ◌++◌, Bool, true, false, not, nat_le, ◌&&◌, ◌||◌, Option, Some, None, is_some, if◌then◌else◌}
use Rattle.roam_hub.specs.Clients.{ClientView}
use Rattle.roam_overlay.specs.Overlays.{OverlayOf, Judges, Loses, shown_over}
use Rattle.roam_display_records.specs.declared.records.Record.{Record}
use Rattle.roam_screens.specs.Screenshot.{Screenshot}
use Rattle.roam_display_state.specs.Saying.{texts_of}
use Rattle.roam_display_state.specs.DisplayState.{DisplayStateView, Tells, TellsLook, TellsTaken}
use Rattle.roam_turns.specs.Painting.{IsNoted, LeadsSized}
use Rattle.roam_turns.specs.declared.outer.Noted.{Noted}
use Rattle.roam_outer_terminal.specs.Overlaid.{IsOver, on_show}
use Rattle.roam_outer_terminal.specs.Silence.{seconds_of}
use Rattle.roam_outer_terminal.specs.Terminals.{has_predictions}
use Rattle.roam_outer_terminal.specs.Writing.{is_empty}
use Rattle.roam_outer_terminal.specs.declared.silence.Silence.{Silence}
use Rattle.roam_outer_terminal.specs.declared.terminal.State.{State}
use Rattle.roam_outer_terminal.specs.declared.terminal.State.TheVariants.{Here, Deaf, Left, Refused, Gone}
use Rattle.roam_outer_terminal.specs.declared.terminal.Terminal.{Terminal}

abbrev pub is_here : State → Bool
is_here Here = true
is_here Deaf = false
is_here Left = false
is_here Refused = false
is_here Gone = false

-- the terminal shows no notice of silence, or gets it in records
abbrev pub is_open : {S : Type 0} → Terminal S → Bool
is_open t = is_some t.display_state || not (is_some t.told)

-- the terminal can be painted: it is connected, shows no notice of silence outside records, and has no queued bytes
abbrev pub is_ready : {S : Type 0} → Terminal S → Bool
is_ready t = is_here t.state && (is_open t && is_empty t.waiting)

-- the screen that an instance shows, and its number
abbrev pub shown_of : ClientView → Noted
shown_of client = record { number = client.kept.receiver.newest.number; screen = client.kept.receiver.newest.state }

-- The predictions of a terminal are judged at a moment by the screen that is noted of it. They stay as they are only if no screen is noted, or
-- the terminal has no predictions.
pub data IsJudged (now : ℕ) (client : ClientView) (noted : Option Noted) (old new : Option OverlayOf) : Type 0 where
  judged : (n : Noted) (o o' : OverlayOf) → noted ≡ Some n → old ≡ Some o → new ≡ Some o'
      → Judges n.number n.screen client.kept.acts.acked now o o' → IsJudged now client noted old new
  no_screen : noted ≡ None → new ≡ old → IsJudged now client noted old new
  no_predictions : old ≡ None → new ≡ old → IsJudged now client noted old new

-- There was no memory to keep the noted screen: no prediction is judged by it, and all of them end.
pub record LosesPredictions (now : ℕ) (client : ClientView) (outer : Option Noted) (old new : Option OverlayOf) : Type 0 where
  pub n : Noted
  pub o : OverlayOf
  pub o' : OverlayOf
  pub noted : outer ≡ Some n
  pub was : old ≡ Some o
  pub is : new ≡ Some o'
  pub loses : Loses n.number n.screen client.kept.acts.acked now o o'

-- they are judged, or lost
abbrev pub MayJudge : ℕ → ClientView → Option Noted → Option OverlayOf → Option OverlayOf → Type 0
MayJudge now client noted old new = IsJudged now client noted old new ⊎ LosesPredictions now client noted old new

-- the instance's screen is noted: it was painted, or one of its number was noted before
abbrev pub IsShownNow : ClientView → Option Noted → Option Noted → Type 0
IsShownNow client old new =
    (new ≡ Some (shown_of client)) ⊎ (IsNoted client.kept.receiver.newest.number old × (new ≡ old))

-- the overlay of a noted screen at a moment, if predictions are shown
abbrev pub over_of : ℕ → Option OverlayOf → Option Noted → Option Screenshot
over_of now None noted = None
over_of now (Some predicting) None = None
over_of now (Some predicting) (Some noted) = shown_over predicting noted.screen now

-- the wanted overlay: none once nothing was heard for ten seconds
abbrev pub wanted_over : Silence → Option OverlayOf → Option Noted → Option Screenshot
wanted_over silence predicting noted = if nat_le 10 (seconds_of silence) then None else over_of silence.moment predicting noted

-- no prediction is shown once nothing was heard for ten seconds
abbrev pub IsHidden : Silence → Option Screenshot → Type 0
IsHidden silence over = nat_le 10 (seconds_of silence) ≡ true → over ≡ None

-- A terminal was painted: its queued bytes lead it from its old screen to its new one, the noted screen with the predictions. The noted
-- screen is the instance's. It stays the old one if that has the same number or memory was refused. Without memory to take an overlay back,
-- none is noted.
pub record Paints {S : Type 0} (silence : Silence) (client : ClientView) (old new : Terminal S) : Type 0 where
  pub ready : is_ready old ≡ true
  pub untold : is_some old.display_state ≡ false
  pub noted : Option Noted
  pub is_noted : (noted ≡ Some (shown_of client)) ⊎ ((noted ≡ old.outer) ⊎ (noted ≡ None))
  pub stays : (new.outer ≡ noted) ⊎ (new.outer ≡ None)
  pub leads : LeadsSized (on_show old.over old.outer) new.waiting (on_show new.over new.outer)
  pub judged : MayJudge silence.moment client noted old.predicting new.predicting
  pub over : IsOver silence.moment new.predicting new.outer new.over
  pub hidden : IsHidden silence new.over
  pub others : new
      ≡ record old { outer = new.outer; predicting = new.predicting; over = new.over; waiting = new.waiting }

-- ---- in records

-- the screen to show on a terminal with a noted screen: its overlay, if there is one
abbrev pub shown_screen : Option Screenshot → Noted → Screenshot
shown_screen None noted = noted.screen
shown_screen (Some over) noted = over

-- the noted screen was sent if it was requested, then the terminal's screen with its overlay
abbrev pub TellsNoted : Option Noted → Option Screenshot → List Record → DisplayStateView → DisplayStateView → Type 0
TellsNoted None over said old new = (said ≡ []) × (new ≡ old)
TellsNoted (Some noted) over said old new =
    (mid : DisplayStateView) × (looked : List Record) × (shown : List Record) × TellsLook noted.screen looked old mid
    × Tells (shown_screen over noted) shown mid new × (said ≡ looked ++ shown)

-- The records, behind the queued bytes: first the taken lines, given the number of acknowledged acts; then the requested screen; then the
-- screen to show.
pub record TellsIt {S : Type 0} (acknowledged : ℕ) (before : DisplayStateView) (old new : Terminal S) : Type 0 where
  pub between : DisplayStateView
  pub after : DisplayStateView
  pub taken : List Record
  pub shown : List Record
  pub tells_taken : TellsTaken acknowledged taken before between
  pub tells_noted : TellsNoted old.outer old.over shown between after
  pub is : new ≡ record old { display_state = Some after; waiting = old.waiting ++ texts_of (taken ++ shown) }

-- A terminal with records got them. The noted screens are whole, and predictions are made and judged from them. The noted screen is the
-- instance's; it stays the old one if that has the same number or memory was refused.
pub record TellsAll {S : Type 0} (silence : Silence) (client : ClientView) (old new : Terminal S) : Type 0 where
  pub ready : is_ready old ≡ true
  pub before : DisplayStateView
  pub was : old.display_state ≡ Some before
  pub mid : Terminal S
  pub noted : (mid.outer ≡ Some (shown_of client)) ⊎ (mid.outer ≡ old.outer)
  pub judged : MayJudge silence.moment client mid.outer old.predicting mid.predicting
  pub over : IsOver silence.moment mid.predicting mid.outer mid.over
  pub hidden : IsHidden silence mid.over
  pub others : mid ≡ record old { outer = mid.outer; predicting = mid.predicting; over = mid.over }
  pub tells : TellsIt client.kept.acts.acked before mid new

-- a ready terminal was painted, or got its screen in records; another is unchanged
pub data MayPaint {S : Type 0} (silence : Silence) (client : ClientView) (old new : Terminal S) : Type 0 where
  painted : Paints silence client old new → MayPaint silence client old new
  told : TellsAll silence client old new → MayPaint silence client old new
  not_ready : is_ready old ≡ false → new ≡ old → MayPaint silence client old new

-- a terminal has predictions
abbrev pub is_predicting : {S : Type 0} → Terminal S → Bool
is_predicting t = has_predictions t.predicting
