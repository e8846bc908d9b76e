-- The questions of a script to a world, as text (this project's profile).
use Rattle.std.specs.Prelude.{ℕ, List, [], ◌∷◌, ◌++◌, codes, decimal, Option, Some, None, Bool, true, false}
use Rattle.hex.specs.Hex.{encode_lower}
use Rattle.roam_cells.specs.declared.faults.Fault.TheVariants.{NoPane}
use Rattle.roam_session.specs.Faces.{face}
use Rattle.roam_session.specs.Refusals.{output_at}
use Rattle.roam_model.specs.Clients.{Client, shown_number, shown_screen}
use Rattle.roam_model.specs.Worlds.{World}
use Rattle.roam_world_script.specs.Values.{LineValue, Session, Start, Watch, PaneBytes, Typed, ServerTick, ClientTick, ToServer, ToClient, Drained, Show, Face, Output}
use Rattle.roam_world_run.specs.Replies.{fault_line}
use Rattle.roam_show.specs.ShowText.{screen_text}

-- the number and the screen that a client instance shows
abbrev pub shown_text : Client → List ℕ
shown_text c = codes "state " ++ decimal (shown_number c) ++ codes "\n" ++ screen_text (shown_screen c)

-- the screen of the instance in a slot, if there is one
abbrev pub slot_text : (ℕ → Client) → Option ℕ → List ℕ
slot_text clients None = codes "refused\n"
slot_text clients (Some id) = shown_text (clients id)

-- the screen that the session shows
unfoldable pub face_text : World → List ℕ
face_text w = screen_text (face w.server.size w.server.log)

-- bytes in lower-case hexadecimal, or a dash
abbrev pub bytes_line : List ℕ → List ℕ
bytes_line [] = codes "-\n"
bytes_line (b ∷ bs) = encode_lower (b ∷ bs) ++ 10 ∷ []

-- the bytes queued for a pane's program; if there is no such pane, that refusal
abbrev pub waiting_text : Option (List ℕ) → List ℕ
waiting_text None = fault_line NoPane
waiting_text (Some waiting) = bytes_line waiting

-- the text of a line's question
abbrev pub asked_in : World → LineValue → Option (List ℕ)
asked_in w (Show slot) = Some (slot_text w.clients (w.slots slot))
asked_in w Face = Some (face_text w)
asked_in w (Output pane) = Some (waiting_text (output_at w.server.size w.server.log pane))
asked_in w (Session id rows cols) = None
asked_in w (Start slot id version) = None
asked_in w (Watch slot id) = None
asked_in w (PaneBytes pane bytes) = None
asked_in w (Typed slot act) = None
asked_in w (ServerTick now) = None
asked_in w (ClientTick slot now) = None
asked_in w (ToServer number port now) = None
asked_in w (ToClient slot number now) = None
asked_in w (Drained pane count) = None

-- a line asks for nothing
abbrev pub asks_nothing : LineValue → Bool
asks_nothing (Show slot) = false
asks_nothing Face = false
asks_nothing (Output pane) = false
asks_nothing l = true
