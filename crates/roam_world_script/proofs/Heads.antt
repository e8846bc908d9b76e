-- The head of a line gives its kind.
use Rattle.std.proofs.Common.{◌≡◌, ℕ, Bool, true, false, cond, List, [], ◌∷◌, Option, Some, None, ◌⊎◌, inl, inr, refl, sym, ap, subst, ◌∙◌, ◌++◌, ◌≤◌, length, drop, arith}
use Rattle.std.proofs.Math.Seq.{drop-append_seam}
use Rattle.std.specs.List.{find, starts_with}
use Rattle.std.specs.Option.{ok_or, option_map}
use Rattle.std.specs.Prelude.{nat_eq, Ok, Err, Result, IfOk, IsErrAnd, MatchResult}
use Rattle.std.proofs.lemmas.Bool.Decides.{Decides-eqb}
use Rattle.std.proofs.lemmas.List.{length-append}
use Rattle.std.proofs.lemmas.Slice.Eq.{starts_is}
use Rattle.roam_world_script.specs.declared.kinds.Kind.{Kind}
use Rattle.roam_world_script.specs.declared.kinds.Kind.TheVariants as kind
use Rattle.roam_world_script.specs.declared.lines.Line.{Line}
use Rattle.roam_world_script.specs.declared.lines.LineFault.{LineFault}
use Rattle.roam_world_script.specs.declared.lines.LineFault.TheVariants.{BadEvent, OutOfMemory}
use Rattle.roam_world_script.specs.Values.{LineValue, IsLine}
use Rattle.roam_world_script.specs.Kinds.{head_of, headed_in, kind_of, kinds}
use Rattle.roam_world_script.specs.Lines.{BeginsPane, IsArgument, Says, value_of}
use Rattle.roam_tokens.specs.Words.{first_word}
use Rattle.roam_world_script.specs.Reading.{byte_in, bytes_in, each_of, pair_of, plain_in, two_in}
use Rattle.roam_world_script.specs.Arguments.{IsRead, IsLineWith, IsNoLineWith}
use Rattle.roam_world_script.proofs.Telling.{IsPlain, OneAct, one_line, pane_bytes_none, plain_again, plain_found}

chosen : {X : Type 0} (b : Bool) (y x : X) (r : Option X) → cond b (Some y) r ≡ Some x → ((b ≡ true) × (y ≡ x)) ⊎ (r ≡ Some x)
chosen true y x r e = inl (refl, cc)
chosen false y x r e = inr e

-- an element that a search found passes its test
found : {X : Type 0} (p : X → Bool) (xs : List X) (x : X) → find p xs ≡ Some x → p x ≡ true
found p [] x e = absurd cc
found p (y ∷ ys) x e = elim (chosen (p y) y x (find p ys) e) [
  | inl here ↦ sym (ap p here.1) ∙ here.0
  | inr there ↦ found p ys x there
]

headed_again : (k : Kind) (text : List ℕ) → headed_in kinds (head_of k ++ text) ≡ Some k
headed_again kind.Session text = refl
headed_again kind.Start text = refl
headed_again kind.Watch text = refl
headed_again kind.PaneBytes text = refl
headed_again kind.Typed text = refl
headed_again kind.ServerTick text = refl
headed_again kind.ClientTick text = refl
headed_again kind.ToServer text = refl
headed_again kind.ToClient text = refl
headed_again kind.Drained text = refl
headed_again kind.Show text = refl
headed_again kind.Face text = refl
headed_again kind.Output text = refl

head_found : (line : List ℕ) (k : Kind) → headed_in kinds line ≡ Some k → line ≡ head_of k ++ drop (length (head_of k)) line
head_found line k e =
    let passes = found (λ x. starts_with nat_eq line (head_of x)) kinds k e in
    (starts_is Decides-eqb line (head_of k) (starts_with nat_eq line (head_of k)) refl).0 passes

-- a line whose kind has an error of its own begins like a line of pane bytes
pub begins_pane : (line : List ℕ) (k : Kind) → headed_in kinds line ≡ Some k → k ≡ kind.PaneBytes → BeginsPane line
begins_pane line k e is = (_, head_found line kind.PaneBytes (e ∙ ap Some is))

pub head_fits : (line : List ℕ) (k : Kind) → headed_in kinds line ≡ Some k → length (head_of k) ≤ length line
head_fits line k e = omega (arith, ap length (head_found line k e), length-append (head_of k) (drop (length (head_of k)) line))

-- a line that is said has a head, and its argument behind it
pub said : (line : List ℕ) (l : LineValue) → Says line l → (headed_in kinds line ≡ Some (kind_of l)) × IsArgument l (drop (length
    (head_of (kind_of l))) line)
said line l s =
    let head = head_of (kind_of l) in
    let behind : drop (length head) line ≡ s.0 = ap (drop (length head)) s.1 ∙ drop-append_seam head s.0 in
    (ap (headed_in kinds) s.1 ∙ headed_again (kind_of l) s.0, subst (IsArgument l) (sym behind) s.2)

-- a line of a known kind is given by the text behind its head
tells : (line : List ℕ) (k : Kind) (l : LineValue) → headed_in kinds line ≡ Some k → IsLine l → Says line l
    → IsLineWith k (drop (length (head_of k)) line) l
tells line k l e is s =
    let both = said line l s in
    let one : Some k ≡ Some (kind_of l) = sym e ∙ both.0 in
    let same : kind_of l ≡ k = cc in
    record { same_kind = same; in_range = is; argument = subst (λ (x : Kind). IsArgument l (drop (length (head_of x)) line)) same both.1 }

pub plain_read : (k : Kind) (text : List ℕ) (r : Option Line) → ((k ≡ kind.PaneBytes) → ⊥) → ((k ≡ kind.Typed) → ⊥)
    → option_map value_of r ≡ plain_in k text → IsRead k text (ok_or r BadEvent)
plain_read k text (Some m) no_bytes no_act e = plain_found k text (value_of m) (sym e)
plain_read k text None no_bytes no_act e = inr (refl, nothing)
  where
    nothing : IsNoLineWith k text
    nothing l t =
        let plain : IsPlain (kind_of l) = (λ p. no_bytes (sym t.same_kind ∙ p), λ p. no_act (sym t.same_kind ∙ p)) in
        let read : plain_in k text ≡ Some l = sym (ap (λ (x : Kind). plain_in x text) t.same_kind)
        ∙ plain_again l text plain t.in_range t.argument in
        absurd cc

pub is_found : (line text : List ℕ) (k : Kind) (r : Result Line LineFault) → headed_in kinds line ≡ Some k
    → text ≡ drop (length (head_of k)) line → IsRead k text r → IfOk r (λ l. IsLine (value_of l) × Says line (value_of l))
is_found line text k (Err fault) e is h = tt
is_found line text k (Ok l) e is h =
    (h.in_range, (text, head_found line k e ∙ (λ i. head_of (sym h.same_kind i) ++ sym is i), h.argument))

pub is_only : (line text : List ℕ) (k : Kind) (r : Result Line LineFault) → OneAct → headed_in kinds line ≡ Some k
    → text ≡ drop (length (head_of k)) line → IsRead k text r
    → (l : LineValue) → IsLine l → Says line l → MatchResult r (λ m. value_of m ≡ l) (λ e. e ≡ OutOfMemory)
is_only line text k (Ok m) one e is h l in_range s =
    one_line one k text (value_of m) l h (subst (λ (t : List ℕ). IsLineWith k t l) (sym is) (tells line k l e in_range s))
is_only line text k (Err fault) one e is (inl full) l in_range s = full
is_only line text k (Err fault) one e is (inr bad) l in_range s =
    absurd (bad.1 l (subst (λ (t : List ℕ). IsLineWith k t l) (sym is) (tells line k l e in_range s)))

-- no bytes were read, or memory is wanting for them
pub bytes_unread : (text : List ℕ) (words : List ℕ × List ℕ) (pane : ℕ) (fault : LineFault) (r : Result Line LineFault)
    → first_word text ≡ Some words
    → byte_in words.0 ≡ Some pane → (fault ≡ OutOfMemory) ⊎ ((fault ≡ BadEvent) × (bytes_in words.1 ≡ None)) → IsErrAnd r (λ e. e ≡ fault)
    → IsRead kind.PaneBytes text r
bytes_unread text words pane fault (Ok l) is first why h = absurd h
bytes_unread text words pane fault (Err e) is first (inl full) h = inl (h ∙ full)
bytes_unread text words pane fault (Err e) is first (inr bad) h =
    let none : two_in byte_in bytes_in text ≡ None = ap (each_of byte_in bytes_in) is ∙ (λ i. pair_of (first i) (bad.1 i)) in
    inr (h ∙ bad.0, pane_bytes_none text none)

pub one_value : OneAct → (line : List ℕ) (a b : LineValue) → IsLine a → IsLine b → Says line a → Says line b → a ≡ b
one_value one line a b p q s t =
    one_line one (kind_of b) (drop (length (head_of (kind_of b))) line) a b (tells line (kind_of b) a (said line b t).0 p s) (tells line
    (kind_of b) b (said line b t).0 q t)
