-- The lines that a client instance takes from an outer terminal: in order, each once.
use Rattle.std.specs.Prelude.{◌≡◌, ◌≢◌, ℕ, ◌+◌, ◌<◌, Bool, true, false, not, nat_lt, List, [], ◌∷◌, ◌++◌, length, Option, Some, None}
use Rattle.std.specs.List.{fold}
use Rattle.std.specs.Io.KnownBytes.{Consumes}
use Rattle.roam_acts.specs.declared.acts.Act.{Act}
use Rattle.roam_acts.specs.Senders.{HasNoRoom, IsShort, last_number}
use Rattle.roam_prediction.specs.Predictions.{none}
use Rattle.roam_prediction.specs.Laws.{after}
use Rattle.roam_hub.specs.Clients.{ClientView, keeping, after_typed_all}
use Rattle.roam_overlay.specs.Delays.{no_delay}
use Rattle.roam_overlay.specs.Overlays.{OverlayOf, line_steps, next_number, screen_or}
use Rattle.roam_screens.specs.Screenshot.{Screenshot}
use Rattle.roam_terminal_input.specs.Entries.{Says, acts_in}
use Rattle.roam_terminal_input.specs.declared.entries.Entry.{Entry}
use Rattle.roam_terminal_input.specs.declared.entries.Entry.TheVariants.{Acts, Paste, Events, Repaint, Watch, Prediction, Look, LookStyled, Show, End}
use Rattle.roam_terminal_input.specs.declared.entries.Predicting.{Predicting}
use Rattle.roam_terminal_input.specs.declared.entries.Predicting.TheVariants.{Always, Adaptive, Never}
use Rattle.roam_terminal_input.specs.Lines.{ended_all}
use Rattle.roam_outer_terminal.specs.declared.terminal.State.{State}
use Rattle.roam_outer_terminal.specs.declared.terminal.State.TheVariants.{Here, Deaf, Left, Refused, Gone}

-- whether a terminal only watches after an entry
abbrev pub watches_after : Entry → Bool → Bool
watches_after (Acts acts) watches = watches
watches_after (Paste acts) watches = watches
watches_after Events watches = watches
watches_after Repaint watches = watches
watches_after Watch watches = true
watches_after (Prediction predicting) watches = watches
watches_after Look watches = watches
watches_after LookStyled watches = watches
watches_after (Show showing) watches = watches
watches_after End watches = watches

-- a line ends the instance if it asks for that and its terminal isn't read-only
abbrev pub ends_by : Bool → Entry → Bool
ends_by watches (Acts acts) = false
ends_by watches (Paste acts) = false
ends_by watches Events = false
ends_by watches Repaint = false
ends_by watches Watch = false
ends_by watches (Prediction predicting) = false
ends_by watches Look = false
ends_by watches LookStyled = false
ends_by watches (Show showing) = false
ends_by watches End = not watches

-- the taken line asked for the end
abbrev pub asks_end : Bool → Option Entry → Bool
asks_end watches None = false
asks_end watches (Some entry) = ends_by watches entry

-- the acts of a line that are typed: none of a terminal that only watches
abbrev pub acts_by : Bool → List Act → List Act
acts_by false acts = acts
acts_by true acts = []

abbrev pub typed_by : Bool → Entry → List Act
typed_by watches entry = acts_by watches (acts_in entry)

-- these lines were taken of a terminal, which only watches then or not, and these acts typed
abbrev pub TakesAll : List (List ℕ) → Bool → Bool → List Act → Type 0
TakesAll [] watches watches' acts = (watches' ≡ watches) × (acts ≡ [])
TakesAll (line ∷ lines) watches watches' acts =
    (entry : Entry) × (rest : List Act) × Says line entry × (acts ≡ typed_by watches entry ++ rest)
    × TakesAll lines (watches_after entry watches) watches' rest

-- after these bytes of its stream these acts of a terminal were typed: those of the lines that the bytes begin with
pub record Stands (kept : List ℕ) (watches : Bool) (log : List ℕ) (typed : List Act) : Type 0 where
  pub lines : List (List ℕ)
  pub is : log ≡ ended_all lines ++ kept
  pub takes : TakesAll lines false watches typed

-- these acts were typed at an instance, in their order
abbrev pub Types : List Act → ClientView → ClientView → Type 0
Types acts old new = new ≡ keeping old (after_typed_all old.kept acts)

-- A call of `hear` read these bytes of a terminal's stream and typed these acts: the next ones of its lines, while it stays connected.
pub record Hears (before after : Option (List ℕ)) (kept kept' : List ℕ) (watches watches' : Bool) (state' : State)
    (client client' : ClientView) : Type 0 where
  pub bytes : List ℕ
  pub acts : List Act
  pub consumed : Consumes before after bytes
  pub typed : Types acts client client'
  pub stands : state' ≢ Gone → (log : List ℕ) (all : List Act) → Stands kept watches log all
      → Stands kept' watches' (log ++ bytes) (all ++ acts)

-- ---- whose lines are taken

-- more of a terminal may come
abbrev pub is_read : State → Bool
is_read Here = true
is_read Deaf = true
is_read Left = false
is_read Refused = false
is_read Gone = false

-- its lines are taken: also those that came whole before it left
abbrev pub is_heard : State → Bool
is_heard Here = true
is_heard Deaf = true
is_heard Left = true
is_heard Refused = false
is_heard Gone = false

-- the most unacknowledged acts with which another line is taken
abbrev pub most_acts : ℕ
most_acts = 64

-- why acts aren't typed now: too many would be unacknowledged, the instance only watches, or its numbers are spent
pub data Holds (acts : List Act) (client : ClientView) : Type 0 where
  many : most_acts < length client.kept.acts.acts + length acts → Holds acts client
  watching : client.kept.watches ≡ true → Holds acts client
  full : HasNoRoom client.kept.acts (length acts) → Holds acts client
  spent : IsShort client.kept.acts (length acts) → Holds acts client

-- ---- the predictions

-- the predictions of a terminal after the acts of its line were typed, the first under a number, while its instance showed a screen
abbrev pub predictions_after : Bool → ℕ → List Act → Screenshot → Option OverlayOf → Option OverlayOf
predictions_after pasted first acts shown None = None
predictions_after pasted first acts shown (Some o) =
    Some (record o { predictions = fold after o.predictions (line_steps pasted first acts (screen_or o.seen shown)) })

-- the number of the next act of an instance
abbrev pub first_number : ClientView → ℕ
first_number client = next_number (last_number client.kept.acts)

-- adaptive display of predictions, as a line asks for it; none if it wants no predictions
abbrev pub adaptive_of : Predicting → Option Bool
adaptive_of Always = Some false
adaptive_of Adaptive = Some true
adaptive_of Never = None

-- predictions that begin anew
abbrev pub fresh_predictions : Bool → OverlayOf
fresh_predictions adaptive = record { predictions = none; adaptive = adaptive; delays = no_delay; seen = None }

-- Predictions begin anew, as a line asks. There are none if it wants none, if the terminal is read-only, or if memory was refused.
pub data IsSet (predicting : Predicting) (watches : Bool) (new : Option OverlayOf) : Type 0 where
  no_predictions : new ≡ None → IsSet predicting watches new
  fresh : (adaptive : Bool) → watches ≡ false → adaptive_of predicting ≡ Some adaptive → new ≡ Some (fresh_predictions adaptive)
      → IsSet predicting watches new

-- acts of a line that was taken are predicted, but of a terminal that only watches
abbrev pub predictions_by : Bool → Bool → List Act → ClientView → Option OverlayOf → Option OverlayOf
predictions_by true pasted acts client old = old
predictions_by false pasted acts client old = predictions_after pasted (first_number client) acts client.kept.receiver.newest.state old

-- something is predicted
abbrev pub has_predictions : Option OverlayOf → Bool
has_predictions None = false
has_predictions (Some o) = nat_lt 0 (length o.predictions.list)

-- the effect of a taken line on predictions: its acts are predicted; it says when to show predictions; or nothing changes
abbrev pub Predictions : Bool → Entry → ClientView → Option OverlayOf → Option OverlayOf → Type 0
Predictions watches (Acts acts) client old new = new ≡ predictions_by watches false acts.items client old
Predictions watches (Paste acts) client old new = new ≡ predictions_by watches true acts.items client old
Predictions watches Events client old new = new ≡ old
Predictions watches Repaint client old new = new ≡ old
Predictions watches Watch client old new = new ≡ old
Predictions watches (Prediction predicting) client old new = IsSet predicting watches new
Predictions watches Look client old new = new ≡ old
Predictions watches LookStyled client old new = new ≡ old
Predictions watches (Show showing) client old new = new ≡ old
Predictions watches End client old new = new ≡ old

-- ---- a line at a time

-- bytes were read from a stream, and are kept behind the kept ones unless the terminal is disconnected
pub record Reads (before after : Option (List ℕ)) (kept kept' : List ℕ) (state' : State) : Type 0 where
  pub bytes : List ℕ
  pub consumed : Consumes before after bytes
  pub kept_on : state' ≢ Gone → kept' ≡ kept ++ bytes
