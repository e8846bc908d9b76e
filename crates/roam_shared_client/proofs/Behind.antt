-- The noted screens of terminals were shown before, whatever is shown later.
use Rattle.std.proofs.Common.{◌≡◌, ℕ, Bool, true, false, List, [], ◌∷◌, ◌++◌, Option, None, Some, sym, subst, arith, ◌∙◌, ap, append-nil, length, take, drop, inl, inr}
use Rattle.std.proofs.Math.Seq.{drop-length, take-length}
use Rattle.std.specs.Prelude.{◌⊎◌}
use Rattle.std.specs.List.{All, items_where_true}
use Rattle.std.specs.List.Retain.{IsFiltered}
use Rattle.std.proofs.lemmas.List.Elements.{All-cons, All-head, All-tail}
use Rattle.roam_screens.specs.Screenshot.{Screenshot}
use Rattle.roam_turns.specs.Painting.{Follows, IsBehind}
use Rattle.roam_turns.specs.declared.outer.Noted.{Noted}
use Rattle.roam_shared_client.specs.Sharing.{AreEachBehind}
use Rattle.roam_outer_terminal.specs.declared.terminal.Terminal.{Terminal}

follows_both : (n n' n'' : ℕ) (s s' s'' : Screenshot) → Follows n s n' s' → Follows n' s' n'' s'' → Follows n s n'' s''
follows_both n n' n'' s s' s'' h k =
    let a = h.rises in
    let b = k.rises in
    record { rises = omega arith; same = λ e. h.same (omega (arith, e, a, b)) ∙ k.same (omega (arith, e, a, b)) }

pub behind_later : (outer : Option Noted) (n n' : ℕ) (s s' : Screenshot) → Follows n s n' s' → IsBehind outer n s → IsBehind outer n' s'
behind_later None n n' s s' k h = tt
behind_later (Some noted) n n' s s' k h = follows_both noted.number n n' noted.screen s s' h k

pub each_later : {S : Type 0} (all : List (Terminal S)) (n n' : ℕ) (s s' : Screenshot) → Follows n s n' s' → AreEachBehind all n s
    → AreEachBehind all n' s'
each_later all n n' s s' k h = λ i d lt. behind_later _ n n' s s' k (h i d lt)

-- of a terminal that is as it was, or of which nothing is known
pub behind_kept : (old new : Option Noted) (n : ℕ) (s : Screenshot) → (new ≡ old) ⊎ (new ≡ None) → IsBehind old n s → IsBehind new n s
behind_kept old new n s (inl same) h = subst (λ o. IsBehind o n s) (sym same) h
behind_kept old new n s (inr none) h = subst (λ o. IsBehind o n s) (sym none) tt

pub each_cons : {S : Type 0} (first : Terminal S) (others : List (Terminal S)) (n : ℕ) (s : Screenshot) → IsBehind first.outer n s
    → AreEachBehind others n s → AreEachBehind (first ∷ others) n s
each_cons first others n s h k = All-cons (λ t. IsBehind t.outer n s) first others h k

pub each_head : {S : Type 0} (first : Terminal S) (others : List (Terminal S)) (n : ℕ) (s : Screenshot) → AreEachBehind (first ∷ others) n s
    → IsBehind first.outer n s
each_head first others n s h = All-head (λ t. IsBehind t.outer n s) first others h

pub each_tail : {S : Type 0} (first : Terminal S) (others : List (Terminal S)) (n : ℕ) (s : Screenshot) → AreEachBehind (first ∷ others) n s
    → AreEachBehind others n s
each_tail first others n s h = All-tail (λ t. IsBehind t.outer n s) first others h

-- one more behind the others
pub each_last : {S : Type 0} (all : List (Terminal S)) (last : Terminal S) (n : ℕ) (s : Screenshot) → AreEachBehind all n s
    → IsBehind last.outer n s → AreEachBehind (all ++ last ∷ []) n s
each_last [] last n s h k = each_cons last [] n s k (λ i d lt. absurd (omega (arith, lt)))
each_last (t ∷ all) last n s h k = each_cons t (all ++ last ∷ []) n s (each_head t all n s h) (each_last all last n s (each_tail t all n s h) k)

chosen : {X : Type 0} (P : X → Type 0) (bs : List Bool) (xs : List X) → All P xs → All P (items_where_true bs xs)
chosen P [] xs h = λ k d lt. absurd (omega (arith, lt))
chosen P (b ∷ bs) [] h = λ k d lt. absurd (omega (arith, lt))
chosen P (true ∷ bs) (x ∷ xs) h = All-cons P x _ (All-head P x xs h) (chosen P bs xs (All-tail P x xs h))
chosen P (false ∷ bs) (x ∷ xs) h = chosen P bs xs (All-tail P x xs h)

pub each_filtered : {S F : Type 0} (R : F → Terminal S → Bool → F → Type 0) (f : F) (xs ys : List (Terminal S)) (n : ℕ) (s : Screenshot)
    → IsFiltered R f xs ys → AreEachBehind xs n s → AreEachBehind ys n s
each_filtered R f xs ys n s is h =
    subst (λ l. AreEachBehind l n s) (sym is.4) (chosen (λ t. IsBehind t.outer n s) is.0 xs h)

-- a part put back into a list of its length is the whole list
pub whole_back : {X : Type 0} (n : ℕ) (new old : List X) → length new ≡ length old → n ≡ length old
    → take n (new ++ drop (length new) old) ≡ new
whole_back n new old len is =
    let rest : drop (length new) old ≡ [] = ap (λ k. drop k old) len ∙ drop-length old in
    ap (λ l. take n (new ++ l)) rest ∙ (ap (λ l. take n l) (append-nil new) ∙ (ap (λ k. take k new) (is ∙ sym len) ∙ take-length new))
