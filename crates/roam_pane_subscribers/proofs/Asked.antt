-- The results of lines, one after another, and the acts that a close types.
use Rattle.roam_terminal_input.specs.Lines.{IsFirst}
use Rattle.std.proofs.Common.{◌≡◌, ℕ, ◌+◌, drop, length, List, [], ◌∷◌, ◌++◌, Option, Some, None, true, false, Bool}
use Rattle.std.proofs.Common.{refl, sym, subst, ap, ◌∙◌, append_assoc, append-nil}
use Rattle.std.specs.Prelude.{◌↔◌, IfOk, IfSome, IsSome, Result, Ok, Err, Vec}
use Rattle.std.specs.declared.alloc.Global.{Global}
use Rattle.roam_cells.specs.declared.faults.Fault.{Fault}
use Rattle.roam_acts.specs.declared.acts.Act.{Act}
use Rattle.roam_model.specs.Clients.{Kept, after_typed}
use Rattle.roam_hub.specs.Clients.{ClientView, Sends, TypesAll, after_typed_all}
use Rattle.roam_hub.specs.Clients.Sends.{quiet, spent as sends_spent, sent, no_memory as sends_no_memory}
use Rattle.roam_hub.specs.Clients.TypesAll.{watching, full, spent, typed as typed_now, no_memory}
use Rattle.roam_pane_protocol.specs.Closes.{Acts, IsAlone, IsClose, close_text, is_making}
use Rattle.roam_pane_protocol.specs.declared.closes.Close.{Close}
use Rattle.roam_pane_protocol.specs.declared.closes.Closing.{Closing}
use Rattle.roam_pane_protocol.specs.declared.closes.Closing.TheVariants as closing
use Rattle.roam_pane_protocol.specs.declared.pane_list.PaneList.{PaneList}
use Rattle.roam_pane_subscribers.specs.Asking.{AsksFor, DoesLine, IsAsked, IsClosing}
use Rattle.roam_pane_subscribers.specs.Asking.{host, metadata, clips, queries, bad, gone, last, closes, refused}
use Rattle.roam_pane_subscribers.specs.Closing.{TypesClose, closing_acts}
use Rattle.roam_pane_subscribers.specs.declared.closing.Closer.{Closer}

-- ---- the acts of a close

fold_acts : (k : Kept) (acts : List Act) → (after_typed_all k acts).acts.acts ≡ k.acts.acts ++ acts
fold_acts k [] = sym (append-nil k.acts.acts)
fold_acts k (act ∷ acts) = fold_acts (after_typed k act) acts ∙ append_assoc k.acts.acts (act ∷ []) acts

acts_typed : (start typed : ClientView) (acts : List Act) → TypesAll start acts (Ok tt) typed
    → typed.kept.acts.acts ≡ start.kept.acts.acts ++ acts
acts_typed start typed acts h = elim h [
  | watching w r same ↦ absurd cc
  | full w f r same ↦ absurd cc
  | spent w s r same ↦ absurd cc
  | typed_now w f s r is ↦ ap (λ (v : ClientView). v.kept.acts.acts) is ∙ fold_acts start.kept acts
  | no_memory w f s l r same ↦ absurd cc
]

acts_sent : (typed new : ClientView) (now : ℕ) (texts : Vec (Vec ℕ Global) Global) → Sends typed now (Ok texts) new
    → new.kept.acts.acts ≡ typed.kept.acts.acts
acts_sent typed new now texts h = elim h [
  | quiet none due r text is ↦ ap (λ (v : ClientView). v.kept.acts.acts) is
  | sends_spent due s r same ↦ absurd cc
  | sent all due s r text is ↦ ap (λ (v : ClientView). v.kept.acts.acts) is
  | sends_no_memory due s r same ↦ absurd cc
]

pub types_close : (start typed new : ClientView) (pane : ℕ) (after : Option ℕ) (now : ℕ)
    (r : Result (Vec (Vec ℕ Global) Global) Fault) → TypesAll start (closing_acts pane after) (Ok tt) typed → Sends typed now r new
    → IfOk r (λ texts. TypesClose start new pane after now texts)
types_close start typed new pane after now (Err fault) types sends = tt
types_close start typed new pane after now (Ok texts) types sends = record {
  typed = typed;
  types = types;
  sends = sends;
  acts = acts_sent typed new now texts sends ∙ acts_typed start typed (closing_acts pane after) types;
}

-- ---- the request of a line

pub asks_for : (r : Option Close) (line : List ℕ) (close : Close) → r ≡ Some close
    → IfSome r (λ c. IsClose c × (line ≡ close_text c)) → AsksFor line close
asks_for r line close is found =
    let here = subst (λ o. IfSome o (λ c. IsClose c × (line ≡ close_text c))) is found in
    record { is = here.0; text = here.1 }

pub may_close : (r : Closing) (now : PaneList) (pane generation : ℕ) (after : Option ℕ) → r ≡ closing.Acts after
    → ((r ≡ closing.Gone) ↔ (is_making now pane generation ≡ false))
    → ((r ≡ closing.LastPane) ↔ ((is_making now pane generation ≡ true) × IsAlone now pane))
    → (is_making now pane generation ≡ true) × (IsAlone now pane → ⊥)
may_close r now pane generation after is as_gone as_last = by (is_making now pane generation) refl
  where
    by : (making : Bool) → is_making now pane generation ≡ making
        → (is_making now pane generation ≡ true) × (IsAlone now pane → ⊥)
    by true here = (here, λ alone. let both = as_last.1 (here, alone) in cc)
    by false here = let none = as_gone.1 here in absurd cc

pub focus_is : (r : Closing) (after pane : Option ℕ) → r ≡ closing.Acts after → Acts r pane → after ≡ pane
focus_is r after pane is acts = subst (λ c. Acts c pane) is acts

-- ---- one line after another

none_under_way : (now : PaneList) (moment : ℕ) (new : Closer) → new.closing ≡ None
    → IfSome new.closing (λ making. IsClosing now moment new making)
none_under_way now moment new none = subst (λ o. IfSome o (λ making. IsClosing now moment new making)) (sym none) tt

pub asked_none : (now : PaneList) (moment : ℕ) (closer : Closer) → IsAsked now moment closer closer
asked_none now moment closer = record { busy = λ h. refl; asked = λ none. none_under_way now moment closer none }

not_free : (o : Option (ℕ × ℕ)) → o ≡ None → IsSome o → ⊥
not_free o none some = let no = subst (λ p. IsSome p) none some in cc

-- no close is under way, and so none was before a step that leaves one that is
pub still_none : (mid new : Closer) → (IsSome mid.closing → new ≡ mid) → new.closing ≡ None → mid.closing ≡ None
still_none mid new busy none = by mid.closing refl
  where
    by : (o : Option (ℕ × ℕ)) → mid.closing ≡ o → mid.closing ≡ None
    by None is = is
    by (Some making) is = ap (λ (c : Closer). c.closing) (sym (busy (subst (λ o. IsSome o) (sym is) refl))) ∙ none

pub asked_by : (now : PaneList) (line : List ℕ) (moment : ℕ) (old new : Closer) (said : List ℕ) → old.closing ≡ None
    → DoesLine now line moment old new said → IsAsked now moment old new
asked_by now line moment old new said free does = record {
  busy = λ some. absurd (not_free old.closing free some);
  asked = λ none. elim does [
    | host word same is ↦ none_under_way now moment new (ap (λ (c : Closer). c.closing) same ∙ free)
    | metadata word same is ↦ none_under_way now moment new (ap (λ (c : Closer). c.closing) same ∙ free)
    | clips word same is ↦ none_under_way now moment new (ap (λ (c : Closer). c.closing) same ∙ free)
    | queries word same is ↦ none_under_way now moment new (ap (λ (c : Closer). c.closing) same ∙ free)
    | bad other unasked unwanted unheard words same is ↦ none_under_way now moment new (ap (λ (c : Closer). c.closing) same ∙ free)
    | gone close asked making same is ↦ none_under_way now moment new (ap (λ (c : Closer). c.closing) same ∙ free)
    | last close asked making alone same is ↦ none_under_way now moment new (ap (λ (c : Closer). c.closing) same ∙ free)
    | closes close asked making alone by is ↦
        subst (λ o. IfSome o (λ pair. IsClosing now moment new pair)) (sym by.closing) (close, old, asked.is, refl, making, by)
    | refused close asked making alone same datagram is ↦ none_under_way now moment new (same ∙ free)
  ];
}

pub asked_more : (now : PaneList) (moment : ℕ) (old mid new : Closer) → IsAsked now moment old mid → IsAsked now moment mid new
    → IsAsked now moment old new
asked_more now moment old mid new p q = record {
  busy = λ some. let first = p.busy some in q.busy (subst (λ (c : Closer). IsSome c.closing) (sym first) some) ∙ first;
  asked = λ none. by mid.closing refl none;
}
  where
    by : (o : Option (ℕ × ℕ)) → mid.closing ≡ o → old.closing ≡ None
        → IfSome new.closing (λ making. IsClosing now moment new making)
    by None is none = q.asked is
    by (Some making) is none =
        let same = q.busy (subst (λ o. IsSome o) (sym is) refl) in
        subst (λ (c : Closer). IfSome c.closing (λ m. IsClosing now moment c m)) (sym same) (p.asked none)

-- the first line is taken
pub taken : (kept line new : List ℕ) → IsFirst kept line (drop (length line + 1) kept)
    → ((l rest : List ℕ) → IsFirst kept l rest → new ≡ rest)
    → IsFirst kept line new
taken kept line new first took = subst (λ rest. IsFirst kept line rest) (sym (took line (drop (length line + 1) kept) first)) first
