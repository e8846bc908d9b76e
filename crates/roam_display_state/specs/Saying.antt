-- The records sent to a terminal, and the paintings in them (this project's profile).
use Rattle.std.specs.Prelude.{◌≡◌, ℕ, List, [], ◌∷◌, ◌++◌}
use Rattle.std.specs.List.{flat_map}
use Rattle.roam_display_records.specs.Records.{text_of}
use Rattle.roam_display_records.specs.declared.records.Record.{Record}
use Rattle.roam_display_records.specs.declared.records.Record.TheVariants.{Events, Size, Place, Paint, Anew, Screen, Silent, Heard, Refused, Taken, Full}

-- how records are written, one after the other
abbrev pub texts_of : List Record → List ℕ
texts_of said = flat_map text_of said

-- the bytes that a record paints on the terminal
abbrev pub painting_in : Record → List ℕ
painting_in Events = []
painting_in (Size rows cols) = []
painting_in (Place row col) = []
painting_in (Paint text) = text.now
painting_in (Anew text) = text.now
painting_in (Screen text) = []
painting_in (Silent seconds) = []
painting_in Heard = []
painting_in (Refused line words) = []
painting_in (Taken lines) = []
painting_in Full = []

-- the paintings of records, joined
abbrev pub paintings_in : List Record → List ℕ
paintings_in said = flat_map painting_in said
