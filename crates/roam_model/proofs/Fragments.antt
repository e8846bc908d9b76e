-- Instructions by their ids, and their fragments.
use Rattle.std.proofs.Common.{◌≡◌, ℕ, zero, suc, ◌+◌, ◌≤◌, List, [], ◌∷◌, ◌++◌, length, Option, Some, None, refl, sym, ap, ◌∙◌, subst, arith, length-append}
use Rattle.std.specs.Prelude.{slice_get}
use Rattle.std.specs.List.{enumerate_from}
use Rattle.roam_wire.specs.Cutting.{fragments_of, joined_fragments}
use Rattle.roam_wire.specs.Gatherers.{FragmentValue, Gathering, nothing, fragment_of}
use Rattle.roam_wire.specs.AnyOrder.{IsFragmentOf}
use Rattle.roam_wire.proofs.Cuts.{joined-fragments}
use Rattle.roam_model.specs.Lists.{IsIn}
use Rattle.roam_model.specs.Texts.{datagram_with, datagrams_of}
use Rattle.roam_model.specs.Holds.{instruction_of, fragments_by, cuts_of, Gathers}
use Rattle.roam_model.proofs.Members.{IsIn-map, IsIn-enumerate, IsIn-slice_get, slice_get-within, slice_get-more, slice_get-last}
use Rattle.roam_wire.specs.declared.versions.Version.{Version}
use Rattle.roam_wire.specs.declared.datagrams.Kind.{Kind}
use Rattle.roam_wire.specs.Datagrams.{DatagramValue}

numbered-within : {V : Type 0} (vs : List V) (n : ℕ) (v : V) → instruction_of vs n ≡ Some v → n ≤ length vs
numbered-within vs zero v e = omega arith
numbered-within vs (suc n) v e = let lt = slice_get-within vs n v e in omega arith

pub numbered-is_in : {V : Type 0} (vs : List V) (n : ℕ) (v : V) → instruction_of vs n ≡ Some v → IsIn v vs
numbered-is_in vs zero v e = absurd (cc)
numbered-is_in vs (suc n) v e = IsIn-slice_get v n vs e

numbered-more : {V : Type 0} (vs ws : List V) (n : ℕ) → n ≤ length vs → instruction_of (vs ++ ws) n ≡ instruction_of vs n
numbered-more vs ws zero le = refl
numbered-more vs ws (suc n) le = slice_get-more vs ws n (omega arith)

pub numbered-last : {V : Type 0} (vs : List V) (v : V) → instruction_of (vs ++ v ∷ []) (length vs + 1) ≡ Some v
numbered-last vs v = let n : length vs + 1 ≡ suc (length vs) = omega arith in ap (instruction_of (vs ++ v ∷ [])) n ∙ slice_get-last vs v

pub cuts-more : {V : Type 0} (text_of : V → List ℕ) (vs ws : List V) (n : ℕ) → n ≤ length vs
    → cuts_of text_of (vs ++ ws) n ≡ cuts_of text_of vs n
cuts-more text_of vs ws n le = ap (fragments_by text_of) (numbered-more vs ws n le)

pub cuts-last : {V : Type 0} (text_of : V → List ℕ) (vs : List V) (v : V)
    → cuts_of text_of (vs ++ v ∷ []) (length vs + 1) ≡ fragments_of (text_of v)
cuts-last text_of vs v = ap (fragments_by text_of) (numbered-last vs v)

-- an instruction that a fragment is of
pub fragment_is : {V : Type 0} (text_of : V → List ℕ) (vs : List V) (p : FragmentValue) → IsFragmentOf (cuts_of text_of vs) p
    → (v : V) × (instruction_of vs p.id ≡ Some v)
fragment_is {V} text_of vs p is = go (instruction_of vs p.id) refl is.there
  where
    go : (o : Option V) → instruction_of vs p.id ≡ o → slice_get (fragments_by text_of o) p.index ≡ Some p.payload
        → (v : V) × (instruction_of vs p.id ≡ Some v)
    go None e f = absurd (cc)
    go (Some v) e f = (v, e)

pub fragment_low : {V : Type 0} (text_of : V → List ℕ) (vs : List V) (p : FragmentValue) → IsFragmentOf (cuts_of text_of vs) p → p.id ≤ length vs
fragment_low text_of vs p is = let v = fragment_is text_of vs p is in numbered-within vs p.id v.0 v.1

pub fragment-more : {V : Type 0} (text_of : V → List ℕ) (vs ws : List V) (p : FragmentValue) → IsFragmentOf (cuts_of text_of vs) p
    → IsFragmentOf (cuts_of text_of (vs ++ ws)) p
fragment-more text_of vs ws p is =
    let same = cuts-more text_of vs ws p.id (fragment_low text_of vs p is) in
    record { count = is.count ∙ ap length (sym same); there = ap (λ (xs : List (List ℕ)). slice_get xs p.index) same ∙ is.there }

pub gathers-more : {V : Type 0} (text_of : V → List ℕ) (vs ws : List V) (g : Gathering) → Gathers text_of vs g
    → Gathers text_of (vs ++ ws) g
gathers-more text_of vs ws g is =
    let same = cuts-more text_of vs ws g.id is.low in
    let low = is.low in
    record {
      of = record {
        count = is.of.count ∙ ap length (sym same);
        there =
            (λ i x e. ap (λ (xs : List (List ℕ)). slice_get xs i) same ∙ is.of.there i x e);
      };
      low = omega (arith, low, length-append vs ws);
    }

pub gathers-nothing : {V : Type 0} (text_of : V → List ℕ) (vs : List V) → Gathers text_of vs nothing
gathers-nothing text_of vs = record { of = record { count = refl; there = (λ i x e. absurd (cc)) }; low = omega arith }

-- a text is that of one of these instructions
pub record IsTextOf {V : Type 0} (text_of : V → List ℕ) (vs : List V) (text : List ℕ) : Type 0 where
  pub value : V
  pub there : IsIn value vs
  pub is : text ≡ text_of value

-- a text that comes whole is that of an instruction
pub whole_is : {V : Type 0} (text_of : V → List ℕ) (vs : List V) (p : FragmentValue) (text : List ℕ) → IsFragmentOf (cuts_of text_of vs) p
    → text ≡ joined_fragments (cuts_of text_of vs p.id)
    → IsTextOf text_of vs text
whole_is text_of vs p text is e =
    let v = fragment_is text_of vs p is in
    record {
      value = v.0;
      there = numbered-is_in vs p.id v.0 v.1;
      is = e ∙ ap (λ o. joined_fragments (fragments_by text_of o)) v.1
          ∙ joined-fragments (text_of v.0);
    }

-- the datagrams of an instruction are its fragments
pub record IsPacked {V : Type 0} (text_of : V → List ℕ) (vs : List V) (version : Version) (kind : Kind) (session client : ℕ)
    (d : DatagramValue) : Type 0 where
  pub version_is : d.version ≡ version
  pub kind_is : d.kind ≡ kind
  pub session_is : d.session ≡ session
  pub client_is : d.client ≡ client
  pub fragment : IsFragmentOf (cuts_of text_of vs) (fragment_of d)

pub packed_is : {V : Type 0} (text_of : V → List ℕ) (vs : List V) (v : V) (version : Version) (kind : Kind) (session client before : ℕ)
    (d : DatagramValue)
    → IsIn d (datagrams_of version kind session client before (length vs + 1) (fragments_of (text_of v)))
    → IsPacked text_of (vs ++ v ∷ []) version kind session client d
packed_is {V} text_of vs v version kind session client before d i =
    let m = IsIn-map (datagram_with version kind session client before (length vs + 1) (length (fragments_of (text_of v)))) d
    (enumerate_from 0 (fragments_of (text_of v))) i in
    let n = IsIn-enumerate 0 (fragments_of (text_of v)) m.0 m.1 in
    let last = cuts-last text_of vs v in
    let at : m.0.0 ≡ n.0 = n.1 ∙ (let z : 0 + n.0 ≡ n.0 = omega arith in z) in
    record {
      version_is = ap (λ (x : DatagramValue). x.version) (sym m.2);
      kind_is = ap (λ (x : DatagramValue). x.kind) (sym m.2);
      session_is = ap (λ (x : DatagramValue). x.session) (sym m.2);
      client_is = ap (λ (x : DatagramValue). x.client) (sym m.2);
      fragment = subst (λ (x : DatagramValue). IsFragmentOf (cuts_of text_of (vs ++ v ∷ [])) (fragment_of x)) m.2 (record {
        count = ap length (sym last);
        there = ap (λ (xs : List (List ℕ)). slice_get xs m.0.0) last ∙ ap (slice_get (fragments_of (text_of v))) at ∙ n.2;
      });
    }
