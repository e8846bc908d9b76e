-- Fragments of a text, some of them missing.
use Rattle.std.specs.Prelude.{ℕ, ◌+◌, Bool, true, false, List, [], ◌∷◌, ◌++◌, Vec, Option, Some, None}
use Rattle.std.specs.declared.alloc.Global.{Global}

-- the content of a place
abbrev pub seen_fragment : Option (Vec ℕ Global) → Option (List ℕ)
seen_fragment None = None
seen_fragment (Some v) = Some v.items

abbrev pub seen : List (Option (Vec ℕ Global)) → List (Option (List ℕ))
seen [] = []
seen (p ∷ ps) = seen_fragment p ∷ seen ps

-- how many are missing
abbrev pub count_missing : List (Option (List ℕ)) → ℕ
count_missing [] = 0
count_missing (None ∷ ps) = 1 + count_missing ps
count_missing (Some text ∷ ps) = count_missing ps

-- none is missing
abbrev pub all_there : List (Option (List ℕ)) → Bool
all_there [] = true
all_there (None ∷ ps) = false
all_there (Some text ∷ ps) = all_there ps

-- those that are there, one after the other
abbrev pub text_of : List (Option (List ℕ)) → List ℕ
text_of [] = []
text_of (None ∷ ps) = text_of ps
text_of (Some text ∷ ps) = text ++ text_of ps
