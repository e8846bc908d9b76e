-- Arrivals: the effect of sent fragments on a gatherer, whichever of them arrive, how often and in which order.
use Rattle.std.specs.Prelude.{◌≡◌, ℕ, zero, suc, ◌+◌, max, Bool, true, false, ◌||◌, ◌&&◌, List, [], ◌∷◌, length, slice_get, Option, Some, None, nat_lt, ◌==◌, if◌then◌else◌}
use Rattle.roam_wire.specs.Cutting.{joined_fragments}
use Rattle.roam_wire.specs.Gatherers.{FragmentValue, Gathering, nothing, Answer, Part, Old, Whole, gather}

-- a fragment as it was cut under its id; `cuts` gives the fragments of each id
pub record IsFragmentOf (cuts : ℕ → List (List ℕ)) (p : FragmentValue) : Type 0 where
  pub count : p.count ≡ length (cuts p.id)
  pub there : slice_get (cuts p.id) p.index ≡ Some p.payload

-- each of these was cut under its id
abbrev pub AreFragmentsOf : (ℕ → List (List ℕ)) → List FragmentValue → Type 0
AreFragmentsOf cuts [] = Unit {0}
AreFragmentsOf cuts (p ∷ ps) = IsFragmentOf cuts p × AreFragmentsOf cuts ps

-- the gathered fragments after a result; a refusal changes nothing
abbrev pub after : Gathering → Option (Answer × Gathering) → Gathering
after g None = g
after g (Some answered) = answered.1

-- the state of a new gatherer after these fragments arrived, the latest first
abbrev pub gathered_of : List FragmentValue → Gathering
gathered_of [] = nothing
gathered_of (p ∷ ps) = after (gathered_of ps) (gather (gathered_of ps) p)

-- the highest id that arrived
abbrev pub highest : List FragmentValue → ℕ
highest [] = 0
highest (p ∷ ps) = max p.id (highest ps)

-- the fragment of this id and index arrived
abbrev pub has_arrived : ℕ → List FragmentValue → ℕ → Bool
has_arrived id [] index = false
has_arrived id (p ∷ ps) index = (p.id == id && p.index == index) || has_arrived id ps index

-- so many numbers from one on pass
abbrev pub each_from : ℕ → ℕ → (ℕ → Bool) → Bool
each_from start zero passes = true
each_from start (suc n) passes = passes start && each_from (start + 1) n passes

-- each fragment of this id arrived
abbrev pub have_all_arrived : (ℕ → List (List ℕ)) → ℕ → List FragmentValue → Bool
have_all_arrived cuts id ps = each_from 0 (length (cuts id)) (has_arrived id ps)

-- The result for a fragment after others, the latest first: old if a higher id or the fragment itself came before. Whole if each fragment
-- of its id has come now, with the text that was cut under the id.
abbrev pub answer_to : (ℕ → List (List ℕ)) → List FragmentValue → FragmentValue → Answer
answer_to cuts ps p =
    if nat_lt p.id (highest ps) || has_arrived p.id ps p.index then Old
    else if have_all_arrived cuts p.id (p ∷ ps) then Whole (joined_fragments (cuts p.id))
    else Part

-- the gathered fragments were cut under the current id
pub record GathersOf (cuts : ℕ → List (List ℕ)) (g : Gathering) : Type 0 where
  pub count : length g.fragments ≡ length (cuts g.id)
  pub there : (i : ℕ) (fragment : List ℕ) → slice_get g.fragments i ≡ Some (Some fragment) → slice_get (cuts g.id) i ≡ Some fragment

-- a whole text is the one that was cut under the id
abbrev pub IsCutText : List (List ℕ) → Answer → Type 0
IsCutText fragments Part = Unit {0}
IsCutText fragments Old = Unit {0}
IsCutText fragments (Whole text) = text ≡ joined_fragments fragments

-- A fragment is taken: the gathered fragments are then those cut under the higher of both ids, and a whole text was cut under the
-- fragment's.
abbrev pub GathersWell : (ℕ → List (List ℕ)) → Gathering → FragmentValue → Option (Answer × Gathering) → Type 0
GathersWell cuts g p None = ⊥
GathersWell cuts g p (Some answered) = GathersOf cuts answered.1 × (answered.1.id ≡ max g.id p.id) × IsCutText (cuts p.id) answered.0
