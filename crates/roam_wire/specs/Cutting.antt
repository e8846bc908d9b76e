-- Cutting: the fragments in which a text is sent (this project's profile).
use Rattle.std.specs.Prelude.{◌≡◌, ℕ, zero, suc, ◌+◌, ◌<◌, ◌≤◌, List, [], ◌∷◌, ◌++◌, length, take, drop, map, get_or, Vec}
use Rattle.std.specs.declared.alloc.Global.{Global}
use Rattle.roam_wire.specs.declared.versions.Version.{Version}
use Rattle.roam_wire.specs.Versions.{most_fragments}

-- the fragments of a text, of the given length, and the rest; the second number is at least the text's length
abbrev pub cut_within : ℕ → ℕ → List ℕ → List (List ℕ)
cut_within size zero text = []
cut_within size (suc n) [] = []
cut_within size (suc n) (x ∷ xs) = take size (x ∷ xs) ∷ cut_within size n (drop size (x ∷ xs))

-- the fragments of a text: 1,200 bytes each, and the rest
unfoldable pub fragments_of : List ℕ → List (List ℕ)
fragments_of text = cut_within 1200 (length text) text

-- fragments one after the other
abbrev pub joined_fragments : List (List ℕ) → List ℕ
joined_fragments [] = []
joined_fragments (fragment ∷ fragments) = fragment ++ joined_fragments fragments

-- a length that the fragment at this place of so many may have: 1 to 1,200, and 1,200 before the last
pub record HasLength (index count len : ℕ) : Type 0 where
  pub low : 1 ≤ len
  pub high : len ≤ 1200
  pub whole : index + 1 < count → len ≡ 1200

-- fragments as datagrams of a version may carry them
pub record AreSendable (v : Version) (fragments : List (List ℕ)) : Type 0 where
  pub few : length fragments ≤ most_fragments v
  pub lengths : (i : ℕ) → i < length fragments → HasLength i (length fragments) (length (get_or fragments i []))

-- the contents of lists of bytes in memory
abbrev pub texts_of : List (Vec ℕ Global) → List (List ℕ)
texts_of vs = map (λ v. v.items) vs
