-- The kinds of lines, and how a line of each begins (this project's profile).
use Rattle.std.specs.Prelude.{ℕ, List, [], ◌∷◌, codes, Option, nat_eq}
use Rattle.std.specs.List.{find, starts_with}
use Rattle.roam_world_script.specs.Values.{LineValue}
use Rattle.roam_world_script.specs.Values as value
use Rattle.roam_world_script.specs.declared.kinds.Kind.{Kind}
use Rattle.roam_world_script.specs.declared.kinds.Kind.TheVariants.{Session, Start, Watch, PaneBytes, Typed, ServerTick, ClientTick, ToServer, ToClient, Drained, Show, Face, Output}

-- the kind of a line
abbrev pub kind_of : LineValue → Kind
kind_of (value.Session _ _ _) = Session
kind_of (value.Start _ _ _) = Start
kind_of (value.Watch _ _) = Watch
kind_of (value.PaneBytes _ _) = PaneBytes
kind_of (value.Typed _ _) = Typed
kind_of (value.ServerTick _) = ServerTick
kind_of (value.ClientTick _ _) = ClientTick
kind_of (value.ToServer _ _ _) = ToServer
kind_of (value.ToClient _ _ _) = ToClient
kind_of (value.Drained _ _) = Drained
kind_of (value.Show _) = Show
kind_of value.Face = Face
kind_of (value.Output _) = Output

-- how a line of this kind begins
abbrev pub head_of : Kind → List ℕ
head_of Session = codes "session "
head_of Start = codes "start "
head_of Watch = codes "watch "
head_of PaneBytes = codes "pane "
head_of Typed = codes "type "
head_of ServerTick = codes "stick "
head_of ClientTick = codes "ctick "
head_of ToServer = codes "up "
head_of ToClient = codes "down "
head_of Drained = codes "drained "
head_of Show = codes "show "
head_of Face = codes "face"
head_of Output = codes "out "

-- every kind
abbrev pub kinds : List Kind
kinds =
    Session ∷ Start ∷ Watch ∷ PaneBytes ∷ Typed ∷ ServerTick ∷ ClientTick ∷ ToServer ∷ ToClient ∷ Drained ∷ Show ∷ Face ∷ Output ∷ []

-- the kind of a list with whose head a line begins
abbrev pub headed_in : List Kind → List ℕ → Option Kind
headed_in all line = find (λ kind. starts_with nat_eq line (head_of kind)) all
