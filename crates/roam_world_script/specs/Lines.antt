-- The lines of a script as text (this project's profile). One space separates words; decimals have no plus and no leading zero.
use Rattle.std.specs.Prelude.{◌≡◌, ◌⊎◌, ℕ, ◌<◌, List, [], ◌∷◌, ◌++◌, length, decimal, Ok}
use Rattle.hex.specs.Hex.{decode_of}
use Rattle.roam_acts.specs.Lines.{Spells as SpellsAct}
use Rattle.roam_tokens.specs.Numbers.{IsId}
use Rattle.roam_world_script.specs.declared.lines.Line.{Line}
use Rattle.roam_world_script.specs.declared.lines.Line.TheVariants as line
use Rattle.roam_wire.specs.declared.versions.Version.{Version}
use Rattle.roam_wire.specs.declared.versions.Version.TheVariants.{One}
use Rattle.roam_wire.specs.Versions.{number_of_version}
use Rattle.roam_world_script.specs.Values.{LineValue, Session, Start, Watch, PaneBytes, Typed, ServerTick, ClientTick, ToServer, ToClient, Drained, Show, Face, Output}
use Rattle.roam_world_script.specs.Kinds.{head_of, kind_of}
use Rattle.roam_world_script.specs.declared.kinds.Kind.TheVariants.{PaneBytes as PaneBytesKind}

-- the value of a line of the code
abbrev pub value_of : Line → LineValue
value_of (line.Session id rows cols) = Session id rows cols
value_of (line.Start slot id version) = Start slot id version
value_of (line.Watch slot id) = Watch slot id
value_of (line.PaneBytes pane bytes) = PaneBytes pane bytes.items
value_of (line.Typed slot act) = Typed slot act
value_of (line.ServerTick now) = ServerTick now
value_of (line.ClientTick slot now) = ClientTick slot now
value_of (line.ToServer number port now) = ToServer number port now
value_of (line.ToClient slot number now) = ToClient slot number now
value_of (line.Drained pane count) = Drained pane count
value_of (line.Show slot) = Show slot
value_of line.Face = Face
value_of (line.Output pane) = Output pane

-- bytes in pairs of hexadecimal digits, in either case; at least one byte
pub record AreBytes (text bytes : List ℕ) : Type 0 where
  pub some : 0 < length text
  pub pairs : decode_of text ≡ Ok bytes

-- an id, and a version behind it; the first may be left out
abbrev pub IsStart : ℕ → Version → List ℕ → Type 0
IsStart id version text =
    (word : List ℕ) × IsId word id × (((version ≡ One) × (text ≡ word)) ⊎ (text ≡ word ++ 0x20 ∷ decimal (number_of_version version)))

-- the text allowed behind the head of a line
abbrev pub IsArgument : LineValue → List ℕ → Type 0
IsArgument (Session id rows cols) text = (word : List ℕ) × IsId word id × (text ≡ word ++ 0x20 ∷ (decimal rows ++ 0x20 ∷ decimal cols))
IsArgument (Start slot id version) text = (rest : List ℕ) × IsStart id version rest × (text ≡ decimal slot ++ 0x20 ∷ rest)
IsArgument (Watch slot id) text = (word : List ℕ) × IsId word id × (text ≡ decimal slot ++ 0x20 ∷ word)
IsArgument (PaneBytes pane bytes) text = (word : List ℕ) × AreBytes word bytes × (text ≡ decimal pane ++ 0x20 ∷ word)
IsArgument (Typed slot act) text = (words : List ℕ) × SpellsAct words act × (text ≡ decimal slot ++ 0x20 ∷ words)
IsArgument (ServerTick now) text = text ≡ decimal now
IsArgument (ClientTick slot now) text = text ≡ decimal slot ++ 0x20 ∷ decimal now
IsArgument (ToServer number port now) text = text ≡ decimal number ++ 0x20 ∷ (decimal port ++ 0x20 ∷ decimal now)
IsArgument (ToClient slot number now) text = text ≡ decimal slot ++ 0x20 ∷ (decimal number ++ 0x20 ∷ decimal now)
IsArgument (Drained pane count) text = text ≡ decimal pane ++ 0x20 ∷ decimal count
IsArgument (Show slot) text = text ≡ decimal slot
IsArgument Face text = text ≡ []
IsArgument (Output pane) text = text ≡ decimal pane

-- the meaning of a line: its head, and a text allowed behind it
abbrev pub Says : List ℕ → LineValue → Type 0
Says line l = (text : List ℕ) × (line ≡ head_of (kind_of l) ++ text) × IsArgument l text

-- a line begins as one of a pane's bytes does
abbrev pub BeginsPane : List ℕ → Type 0
BeginsPane line = (text : List ℕ) × (line ≡ head_of PaneBytesKind ++ text)
