-- The model of a client instance of the code, at its calls.
use Rattle.std.proofs.Common.{◌≡◌, ◌⊎◌, ℕ, ◌<◌, Bool, false, List, [], ◌∷◌, length, inl, inr, refl, ◌∙◌, ap, sym, subst}
use Rattle.std.specs.Prelude.{◌↔◌, Result, Ok, Err, OnOk, OnErr, IfErr, IsErrOf}
use Rattle.std.specs.List.{All}
use Rattle.std.proofs.lemmas.List.{append_assoc, append-nil}
use Rattle.std.proofs.lemmas.List.Elements.{All-append, All-push}
use Rattle.roam_cells.specs.declared.faults.Fault.{Fault}
use Rattle.roam_cells.specs.declared.faults.Fault.TheVariants.{OutOfMemory, Busy, Spent}
use Rattle.roam_acts.specs.declared.acts.Act.{Act}
use Rattle.roam_acts.specs.Acts.{IsAct}
use Rattle.roam_acts.specs.Senders.{Typing, after_typing, after_typing_all, HasNoRoom, IsShort}
use Rattle.roam_model.specs.Clients.{Kept, after_typed}
use Rattle.roam_hub.specs.Clients.{ClientView, keeping, after_typed_all, TypesAll}
use Rattle.roam_hub.specs.Clients.TypesAll.{full, spent, typed, no_memory}

-- each act is still one
pub acts_typed : (r : Result (Unit {0}) Fault) (old new : Typing) (act : Act) → OnOk r (new ≡ after_typing old act) → OnErr r (new ≡ old)
    → All IsAct old.acts → IsAct act → All IsAct new.acts
acts_typed (Ok u) old new act ok err all one =
    subst (λ (s : Typing). All IsAct s.acts) (sym ok) (All-push IsAct old.acts act all one)
acts_typed (Err f) old new act ok err all one = subst (λ (s : Typing). All IsAct s.acts) (sym err) all

pub all_acts_typed : (r : Result (Unit {0}) Fault) (old new : Typing) (acts : List Act) → OnOk r (new ≡ after_typing_all old acts)
    → OnErr r (new ≡ old) → All IsAct old.acts → All IsAct acts → All IsAct new.acts
all_acts_typed (Ok u) old new acts ok err all more =
    subst (λ (s : Typing). All IsAct s.acts) (sym ok) (All-append IsAct old.acts acts all more)
all_acts_typed (Err f) old new acts ok err all more = subst (λ (s : Typing). All IsAct s.acts) (sym err) all

-- ---- several acts

-- the kept part of an instance once several acts were typed
kept_typed : (k : Kept) (acts : List Act) → record k { acts = after_typing_all k.acts acts } ≡ after_typed_all k acts
kept_typed k [] = ap (λ (xs : List Act). record k { acts = record k.acts { acts = xs } }) (append-nil k.acts.acts)
kept_typed k (act ∷ acts) =
    ap (λ (xs : List Act). record k { acts = record k.acts { acts = xs } }) (sym (append_assoc k.acts.acts (act ∷ []) acts))
    ∙ kept_typed (after_typed k act) acts

-- the result of typing them, and the instance afterwards
pub types_all : (v : ClientView) (acts : List Act) (r : Result (Unit {0}) Fault) (new : Typing) → v.kept.watches ≡ false
    → OnOk r (new ≡ after_typing_all v.kept.acts acts) → IsErrOf r Busy ↔ HasNoRoom v.kept.acts (length acts)
    → IsErrOf r Spent ↔ IsShort v.kept.acts (length acts) → (IsErrOf r OutOfMemory → 0 < length acts) → OnErr r (new ≡ v.kept.acts)
    → IfErr r (λ e. (e ≡ OutOfMemory) ⊎ (e ≡ Busy) ⊎ (e ≡ Spent)) → TypesAll v acts r (keeping v (record v.kept { acts = new }))
types_all v acts (Ok u) new edits ok busy short memory err fault =
    typed edits (λ h. absurd (let z = busy.1 h in cc)) (λ h. absurd (let z = short.1 h in cc)) refl
    (ap (λ (x : Typing). keeping v (record v.kept { acts = x })) ok ∙ ap (keeping v) (kept_typed v.kept acts))
types_all v acts (Err f) new edits ok busy short memory err fault = go fault
  where
    stays : keeping v (record v.kept { acts = new }) ≡ v
    stays = λ i. keeping v (record v.kept { acts = err i })

    go : (f ≡ OutOfMemory) ⊎ (f ≡ Busy) ⊎ (f ≡ Spent) → TypesAll v acts (Err f) (keeping v (record v.kept { acts = new }))
    go (inl m) =
        no_memory edits (λ h. let z : Err f ≡ Err Busy = busy.1 h in absurd (cc))
        (λ h. let z : Err f ≡ Err Spent = short.1 h in absurd (cc)) (memory (ap (λ e. Err e) m)) (ap (λ e. Err e) m) stays
    go (inr (inl b)) = full edits (busy.0 (ap (λ e. Err e) b)) (ap (λ e. Err e) b) stays
    go (inr (inr s)) = spent edits (short.0 (ap (λ e. Err e) s)) (ap (λ e. Err e) s) stays
