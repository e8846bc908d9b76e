-- The results of lookups in the tables of keys and kinds.
use Rattle.std.proofs.Common.{◌≡◌, ℕ, Bool, true, false, cond, eqb, List, [], ◌∷◌, Option, Some, ◌⊎◌, inl, inr, refl, sym, ap, ◌∙◌, ◌++◌, ◌≤◌, length, drop, arith}
use Rattle.std.specs.List.{find, list_all, starts_with}
use Rattle.std.specs.Prelude.{nat_eq}
use Rattle.std.specs.Str.{bytes_eq}
use Rattle.std.proofs.lemmas.Bool.Decides.{Decides-eqb}
use Rattle.std.proofs.lemmas.List.{length-append}
use Rattle.std.proofs.lemmas.Slice.Eq.{bytes_eq-Decides, starts_is}
use Rattle.std.proofs.lemmas.Bool.{and_parts, eqb-true}
use Rattle.roam_keys.specs.declared.keys.Key.{Key}
use Rattle.roam_keys.specs.declared.keys.Key.TheVariants.{Char}
use Rattle.roam_acts.specs.declared.kinds.Kind.{Kind}
use Rattle.roam_acts.specs.declared.kinds.Kind.TheVariants as kind
use Rattle.roam_acts.specs.Acts.{IsKey}
use Rattle.roam_acts.specs.Keys.{name_of, named_in, named_keys, number_of, numbered_in}
use Rattle.roam_acts.specs.Kinds.{head_of, headed_in, kinds, kind_of_key, tag_of, tagged_in}
use Rattle.roam_acts.specs.Bytes.{key_fields}
use Rattle.roam_acts.specs.Lines.{IsKeyArgument}

chosen : {X : Type 0} (b : Bool) (y x : X) (r : Option X) → cond b (Some y) r ≡ Some x → ((b ≡ true) × (y ≡ x)) ⊎ (r ≡ Some x)
chosen true y x r e = inl (refl, cc)
chosen false y x r e = inr e

-- a found element passes, and was in the list
pub found : {X : Type 0} (p q : X → Bool) (xs : List X) (x : X) → list_all q xs ≡ true → find p xs ≡ Some x → (p x ≡ true) × (q x ≡ true)
found p q [] x all e = absurd cc
found p q (y ∷ ys) x all e =
    let both = and_parts (q y) (list_all q ys) all in
    elim (chosen (p y) y x (find p ys) e) [
      | inl here ↦ (sym (ap p here.1) ∙ here.0, sym (ap q here.1) ∙ both.0)
      | inr there ↦ found p q ys x both.1 there
    ]

-- ---- kinds

pub tagged_again : (k : Kind) → tagged_in kinds (tag_of k) ≡ Some k
tagged_again kind.Char = refl
tagged_again kind.Named = refl
tagged_again kind.SplitRight = refl
tagged_again kind.SplitDown = refl
tagged_again kind.Close = refl
tagged_again kind.Focus = refl
tagged_again kind.Next = refl
tagged_again kind.Grow = refl
tagged_again kind.Size = refl
tagged_again kind.View = refl

always : Kind → Bool
always _ = true

all_always : (ks : List Kind) → list_all always ks ≡ true
unfolding always
all_always [] = refl
all_always (k ∷ ks) = all_always ks

pub tag_found : (tag : ℕ) (k : Kind) → tagged_in kinds tag ≡ Some k → tag_of k ≡ tag
tag_found tag k e = eqb-true _ _ (found (λ x. eqb (tag_of x) tag) always kinds k (all_always kinds) e).0

pub headed_again : (k : Kind) (text : List ℕ) → headed_in kinds (head_of k ++ text) ≡ Some k
headed_again kind.Char text = refl
headed_again kind.Named text = refl
headed_again kind.SplitRight text = refl
headed_again kind.SplitDown text = refl
headed_again kind.Close text = refl
headed_again kind.Focus text = refl
headed_again kind.Next text = refl
headed_again kind.Grow text = refl
headed_again kind.Size text = refl
headed_again kind.View text = refl

pub head_found : (line : List ℕ) (k : Kind) → headed_in kinds line ≡ Some k → line ≡ head_of k ++ drop (length (head_of k)) line
head_found line k e =
    let passes = (found (λ x. starts_with nat_eq line (head_of x)) always kinds k (all_always kinds) e).0 in
    (starts_is Decides-eqb line (head_of k) (starts_with nat_eq line (head_of k)) refl).0 passes

pub head_fits : (line : List ℕ) (k : Kind) → headed_in kinds line ≡ Some k → length (head_of k) ≤ length line
head_fits line k e = omega (arith, ap length (head_found line k e), length-append (head_of k) (drop (length (head_of k)) line))

-- ---- keys

is_named : Key → Bool
is_named (Char _) = false
is_named _ = true

pub record IsNamed (k : Key) : Type 0 where
  pub is_key : IsKey k
  pub kind : kind_of_key k ≡ kind.Named
  pub fields : key_fields k ≡ number_of k ∷ []
  pub same_argument : (text : List ℕ) → text ≡ name_of k → IsKeyArgument k text

named : (k : Key) → is_named k ≡ true → IsNamed k
unfolding is_named
named (Char _) e = absurd cc
named _ e = record { is_key = tt; kind = refl; fields = refl; same_argument = λ text h. h }

pub number_found : (number : ℕ) (k : Key) → numbered_in named_keys number ≡ Some k → IsNamed k × (number_of k ≡ number)
unfolding is_named
number_found number k e =
    let both = found (λ x. eqb (number_of x) number) is_named named_keys k refl e in
    (named k both.1, eqb-true _ _ both.0)

pub record IsNameOf (text : List ℕ) (k : Key) : Type 0 where
  pub is_key : IsKey k
  pub kind : kind_of_key k ≡ kind.Named
  pub argument : IsKeyArgument k text

pub name_found : (text : List ℕ) (k : Key) → named_in named_keys text ≡ Some k → IsNameOf text k
unfolding is_named
name_found text k e =
    let both = found (λ x. bytes_eq (name_of x) text) is_named named_keys k refl e in
    let n = named k both.1 in
    record { is_key = n.is_key; kind = n.kind; argument = n.same_argument text (sym ((bytes_eq-Decides (name_of k) text).0 both.0)) }
