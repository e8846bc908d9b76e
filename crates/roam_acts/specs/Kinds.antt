-- The kinds of acts, and the head of each in lines and bytes (this project's profile).
use Rattle.std.specs.Prelude.{ℕ, ◌==◌, List, [], ◌∷◌, codes, Option}
use Rattle.std.specs.List.{find, starts_with}
use Rattle.roam_acts.specs.declared.acts.Act.{Act}
use Rattle.roam_acts.specs.declared.acts.Act.TheVariants as act
use Rattle.roam_keys.specs.declared.keys.Key.{Key}
use Rattle.roam_keys.specs.declared.keys.Key.TheVariants as key
use Rattle.roam_acts.specs.declared.kinds.Kind.{Kind}
use Rattle.roam_acts.specs.declared.kinds.Kind.TheVariants.{Char, Named, SplitRight, SplitDown, Close, Focus, Next, Grow, Size, View}
use Rattle.std.specs.Prelude.{nat_eq}

-- an act by a key is the act of a character or that of a named key
abbrev pub kind_of_key : Key → Kind
kind_of_key (key.Char _) = Char
kind_of_key _ = Named

-- the kind of an act
abbrev pub kind_of : Act → Kind
kind_of (act.Key k) = kind_of_key k
kind_of act.SplitRight = SplitRight
kind_of act.SplitDown = SplitDown
kind_of act.Close = Close
kind_of (act.Focus _) = Focus
kind_of act.Next = Next
kind_of (act.Grow _) = Grow
kind_of (act.Size _ _) = Size
kind_of (act.View _) = View

-- a kind's line in the table of kinds
pub record Entry : Type 0 where
  pub tag : ℕ
  pub width : ℕ
  pub head : List ℕ

-- the table of kinds: the first byte in bytes, the number of bytes behind it, and the beginning of a line
abbrev pub entry_of : Kind → Entry
entry_of Char = record { tag = 0x01; width = 4; head = codes "char " }
entry_of Named = record { tag = 0x02; width = 1; head = codes "key " }
entry_of SplitRight = record { tag = 0x10; width = 0; head = codes "split right" }
entry_of SplitDown = record { tag = 0x11; width = 0; head = codes "split down" }
entry_of Close = record { tag = 0x12; width = 0; head = codes "close" }
entry_of Focus = record { tag = 0x13; width = 1; head = codes "focus " }
entry_of Next = record { tag = 0x14; width = 0; head = codes "next" }
entry_of Grow = record { tag = 0x15; width = 2; head = codes "grow " }
entry_of Size = record { tag = 0x16; width = 4; head = codes "size " }
entry_of View = record { tag = 0x17; width = 2; head = codes "view " }

-- the first byte
abbrev pub tag_of : Kind → ℕ
tag_of kind = (entry_of kind).tag

-- how many bytes follow it
abbrev pub width_of : Kind → ℕ
width_of kind = (entry_of kind).width

-- how a line of this kind begins
abbrev pub head_of : Kind → List ℕ
head_of kind = (entry_of kind).head

-- every kind
abbrev pub kinds : List Kind
kinds = Char ∷ Named ∷ SplitRight ∷ SplitDown ∷ Close ∷ Focus ∷ Next ∷ Grow ∷ Size ∷ View ∷ []

-- the kind of a list that has this tag
abbrev pub tagged_in : List Kind → ℕ → Option Kind
tagged_in all tag = find (λ kind. tag_of kind == tag) all

-- the kind of a list with whose head a line begins
abbrev pub headed_in : List Kind → List ℕ → Option Kind
headed_in all line = find (λ kind. starts_with nat_eq line (head_of kind)) all
