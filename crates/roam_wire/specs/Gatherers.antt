-- Gathering: the state of a gatherer, and the effect of a fragment (this project's profile).
use Rattle.std.specs.Prelude.{◌≡◌, ℕ, Bool, true, false, not, ◌||◌, ◌&&◌, List, [], length, replicate, is_some, slice_set, get_or, unwrap_or, Option, Some, None, nat_lt, nat_le, ◌==◌, if◌then◌else◌}
use Rattle.roam_wire.specs.Datagrams.{DatagramValue}
use Rattle.roam_wire.specs.Fragments.{all_there, text_of}
use Rattle.roam_wire.specs.declared.gatherers.Gathered.{Gathered}
use Rattle.roam_wire.specs.declared.gatherers.Gathered.TheVariants as gathered
use Rattle.roam_wire.specs.declared.gatherers.Undo.{Undo}
use Rattle.roam_wire.specs.declared.gatherers.Undo.TheVariants as undo

-- a fragment of the instruction with this id
pub record FragmentValue : Type 0 where
  pub id : ℕ
  pub index : ℕ
  pub count : ℕ
  pub payload : List ℕ

-- the fragment that a datagram carries
abbrev pub fragment_of : DatagramValue → FragmentValue
fragment_of d = record { id = d.id; index = d.index; count = d.count; payload = d.payload }

-- the id of the instruction that is gathered, and its fragments by their index
pub record Gathering : Type 0 where
  pub id : ℕ
  pub fragments : List (Option (List ℕ))

-- nothing was gathered yet; ids begin at 1
abbrev pub nothing : Gathering
nothing = record { id = 0; fragments = [] }

-- the gathered fragments, and those before the last fragment, if they are available
pub record GathererValue : Type 0 where
  pub current : Gathering
  pub before : Option Gathering

-- the result of a gatherer for a fragment
pub data Answer : Type 0 where
  Part : Answer
  Old : Answer
  Whole : List ℕ → Answer

abbrev pub answer_of : Gathered → Answer
answer_of gathered.Part = Part
answer_of gathered.Old = Old
answer_of (gathered.Whole text) = Whole text.items

-- for a new fragment: whole, with the payloads joined in the order of their index, if none is missing now
abbrev pub answer_in : List (Option (List ℕ)) → Answer
answer_in ps = if all_there ps then Whole (text_of ps) else Part

-- these fragments and a new one
abbrev pub with_fragment : List (Option (List ℕ)) → FragmentValue → Answer × Gathering
with_fragment ps p =
    let fragments = slice_set ps p.index (Some p.payload) in
    (answer_in fragments, record { id = p.id; fragments = fragments })

-- The result for a fragment, and the gathered fragments then; none if it does not belong to the gathered instruction. In this order: an id
-- below the current one is old, and so is the current one if it is whole. An index that isn't below its count is none. A higher id begins
-- anew. Another count under the current id is none. A fragment that is there is old.
abbrev pub gather : Gathering → FragmentValue → Option (Answer × Gathering)
gather g p =
    if nat_lt p.id g.id || (p.id == g.id && all_there g.fragments) then Some (Old, g)
    else if nat_le p.count p.index then None
    else if nat_lt g.id p.id then Some (with_fragment (replicate p.count None) p)
    else if not (length g.fragments == p.count) then None
    else if is_some (get_or g.fragments p.index None) then Some (Old, g)
    else Some (with_fragment g.fragments p)

-- a fragment that is missing: one that begins an instruction anew, or that isn't there of the current one
abbrev pub is_missing : Gathering → FragmentValue → Bool
is_missing g p =
    if nat_lt p.id g.id || (p.id == g.id && all_there g.fragments) then false
    else if nat_le p.count p.index then false
    else if nat_lt g.id p.id then true
    else if not (length g.fragments == p.count) then false
    else not (is_some (get_or g.fragments p.index None))

-- the gathered fragments once the last one is taken back
abbrev pub untaken : GathererValue → GathererValue
untaken g = record { current = unwrap_or g.before g.current; before = None }

-- the fragments before the last one, by its undo
abbrev pub before_of : Gathering → Undo → Option Gathering
before_of g undo.Nothing = None
before_of g undo.Same = Some g
before_of g (undo.Fragment index) = Some (record g { fragments = slice_set g.fragments index None })
before_of g (undo.Start id fragments) = Some (record { id = id; fragments = fragments })

-- the fragment that would be taken out is there
abbrev pub IsSound : List (Option (List ℕ)) → Undo → Type 0
IsSound fragments (undo.Fragment index) = is_some (get_or fragments index None) ≡ true
IsSound fragments _ = Unit {0}
