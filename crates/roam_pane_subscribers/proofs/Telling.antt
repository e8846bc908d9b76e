-- The news to programs, one after another.
use Rattle.std.proofs.Common.{◌≡◌, ◌≤◌, ℕ, List, [], ◌∷◌, ◌++◌, refl, sym, subst, ap, ◌∙◌, arith, append_assoc, append-nil, length, take, drop, Option, Some, None}
use Rattle.std.specs.Prelude.{IfSome, Result, Ok, Err, is_ok, is_err, if◌then◌else◌, false}
use Rattle.std.proofs.Math.Seq.{drop-length, take-length}
use Rattle.std.proofs.lemmas.List.Concat.{flat_map-append}
use Rattle.std.proofs.lemmas.List.Elements.{All-append, All-cons, All-nil}
use Rattle.roam_pane_protocol.specs.declared.pane_list.PaneList.{PaneList}
use Rattle.roam_pane_subscribers.specs.Subscribing.{HaveCome, IsFresh, IsReply, Replies, Tells, WasTold, joined, turned}
use Rattle.roam_pane_subscribers.specs.declared.subscribing.Subscriber.{Subscriber}

-- nothing was said
pub none_said : {S : Type 0} (old new : Subscriber S) → new.told ≡ old.told
    → new.metadata_event.text ≡ old.metadata_event.text → new.waiting.items ≡ old.waiting.items → Replies old new
none_said old new told beside same = record {
  told = told;
  beside = beside;
  replies = [];
  each = All-nil IsReply;
  waiting = same ∙ sym (append-nil old.waiting.items);
}

pub one_said : {S : Type 0} (old new : Subscriber S) (reply : List ℕ) → IsReply reply → new.told ≡ old.told
    → new.metadata_event.text ≡ old.metadata_event.text → new.waiting.items ≡ old.waiting.items ++ reply → Replies old new
one_said old new reply is told beside same = record {
  told = told;
  beside = beside;
  replies = reply ∷ [];
  each = All-cons IsReply reply [] is (All-nil IsReply);
  waiting = same ∙ ap (λ t. old.waiting.items ++ t) (sym (append-nil reply));
}

pub both_said : {S : Type 0} (old mid new : Subscriber S) → Replies old mid → Replies mid new → Replies old new
both_said old mid new p q = record {
  told = q.told ∙ p.told;
  beside = q.beside ∙ p.beside;
  replies = p.replies ++ q.replies;
  each = All-append IsReply p.replies q.replies p.each q.each;
  waiting =
      q.waiting
      ∙ ap (λ t. t ++ joined q.replies) p.waiting
      ∙ append_assoc old.waiting.items (joined p.replies) (joined q.replies)
      ∙ ap (λ t. old.waiting.items ++ t) (sym (flat_map-append (λ (text : List ℕ). text) p.replies q.replies));
}

-- ---- one program after the other

pub told_by : {S : Type 0} (contents : S → Option (List ℕ)) (now : PaneList) (old mid new : Subscriber S) (stream : Option S) → Replies old mid
    → IfSome stream (λ _. Tells contents now mid new) → IfSome stream (λ _. WasTold contents now old new)
told_by contents now old mid new None p q = tt
told_by contents now old mid new (Some stream) p q = record { mid = mid; replies = p; tells = q }

-- ---- those that come

pub none_came : {S : Type 0} (all : List (Subscriber S)) → HaveCome all all
none_came all = record { came = []; fresh = All-nil IsFresh; behind = sym (append-nil all) }

pub one_came : {S : Type 0} (all : List (Subscriber S)) (f : Subscriber S) → IsFresh f → HaveCome all (all ++ f ∷ [])
one_came all f is = record { came = f ∷ []; fresh = All-cons IsFresh f [] is (All-nil IsFresh); behind = refl }

pub more_came : {S : Type 0} (olds all new : List (Subscriber S)) → HaveCome olds all → HaveCome all new → HaveCome olds new
more_came olds all new p q = record {
  came = p.came ++ q.came;
  fresh = All-append IsFresh p.came q.came p.fresh q.fresh;
  behind = q.behind ∙ ap (λ t. t ++ q.came) p.behind ∙ append_assoc olds p.came q.came;
}

-- ---- room for more

pub grown : {A B X : Type 0} (r : Result A B) (items more old : List X) → items ≡ (if is_ok r then more else old) → is_err r ≡ false
    → items ≡ more
grown (Ok a) items more old e is = e
grown (Err b) items more old e is = absurd cc

pub pushed : {S A B : Type 0} (r : Result A B) (items old : List (Subscriber S)) (f : Subscriber S) → IsFresh f
    → items ≡ (if is_ok r then old ++ f ∷ [] else old) → HaveCome old items
pushed (Ok a) items old f is e = subst (λ l. HaveCome old l) (sym e) (one_came old f is)
pushed (Err b) items old f is e = subst (λ l. HaveCome old l) (sym e) (none_came old)

-- a part put back into a list of its length is the whole list
pub whole_back : {X : Type 0} (n : ℕ) (new old : List X) → length new ≡ length old → n ≡ length old
    → take n (new ++ drop (length new) old) ≡ new
whole_back n new old len is =
    let rest : drop (length new) old ≡ [] = ap (λ k. drop k old) len ∙ drop-length old in
    ap (λ l. take n (new ++ l)) rest ∙ (ap (λ l. take n l) (append-nil new) ∙ (ap (λ k. take k new) (is ∙ sym len) ∙ take-length new))

-- a list of at most one element is its own rotation
pub few_turned : {X : Type 0} (xs : List X) → length xs ≤ 1 → xs ≡ turned xs
few_turned [] few = refl
few_turned (x ∷ []) few = refl
few_turned (x ∷ y ∷ xs) few = absurd (omega (arith, few))
