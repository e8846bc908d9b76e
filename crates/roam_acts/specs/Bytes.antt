-- Acts as bytes: the one text of a list of acts (this project's profile). Numbers are big-endian.
use Rattle.std.specs.Prelude.{◌≡◌, ℕ, List, [], ◌∷◌, ◌++◌, flat_map}
use Rattle.std.specs.Int.{w16, cast_unsigned}
use Rattle.byteorder.specs.Endian.{big_bytes}
use Rattle.roam_acts.specs.declared.acts.Act.{Act}
use Rattle.roam_acts.specs.declared.acts.Act.TheVariants.{SplitRight, SplitDown, Close, Focus, Next, Grow, Size, View}
use Rattle.roam_acts.specs.declared.acts.Act.TheVariants as act
use Rattle.roam_keys.specs.declared.keys.Key.{Key}
use Rattle.roam_keys.specs.declared.keys.Key.TheVariants.{Char}
use Rattle.roam_acts.specs.Acts.{IsAct}
use Rattle.roam_acts.specs.Keys.{number_of}
use Rattle.roam_acts.specs.Kinds.{kind_of, tag_of}

-- a character's code point, and the number of every other key
abbrev pub key_fields : Key → List ℕ
key_fields (Char c) = big_bytes 4 c
key_fields key = number_of key ∷ []

-- the fields behind an act's tag; a number with a sign is in two's complement
abbrev pub fields_of : Act → List ℕ
fields_of (act.Key key) = key_fields key
fields_of SplitRight = []
fields_of SplitDown = []
fields_of Close = []
fields_of (Focus pane) = pane ∷ []
fields_of Next = []
fields_of (Grow by) = big_bytes 2 (cast_unsigned w16 by)
fields_of (Size rows cols) = big_bytes 2 rows ++ big_bytes 2 cols
fields_of (View by) = big_bytes 2 (cast_unsigned w16 by)

-- the text of an act
abbrev pub act_text : Act → List ℕ
act_text a = tag_of (kind_of a) ∷ fields_of a

-- the text of a list of acts
abbrev pub acts_text : List Act → List ℕ
acts_text acts = flat_map act_text acts

-- bytes begin with the text of an act in its ranges
pub record BeginsWithAct (bytes : List ℕ) : Type 0 where
  pub act : Act
  pub rest : List ℕ
  pub is : IsAct act
  pub begins : bytes ≡ act_text act ++ rest
