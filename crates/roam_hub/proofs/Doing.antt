-- Acts are done one after another.
use Rattle.std.proofs.Common.{◌≡◌, ℕ, zero, suc, ◌+◌, ◌<◌, ◌≤◌, List, [], ◌∷◌, ◌++◌, length, map, take, drop, true, false, Option, Some, None, ◌⊎◌, inl, inr, get_or, refl, sym, ap, ◌∙◌, subst, cond, arith}
use Rattle.std.proofs.lemmas.List.{append_assoc, append-nil, map-append}
use Rattle.std.specs.Prelude.{is_some, IfSome, IfNone}
use Rattle.roam_cells.specs.declared.faults.Fault.{Fault}
use Rattle.roam_cells.specs.declared.faults.Fault.TheVariants.{OutOfMemory, Busy}
use Rattle.roam_acts.specs.declared.acts.Act.{Act}
use Rattle.roam_session.specs.Sessions.{SessionSize, Entry, Did}
use Rattle.roam_session.specs.Refusals.{stops}
use Rattle.roam_session.specs.Stands.{SessionView, Stands, Appends}
use Rattle.roam_model.specs.ServerArrivals.{reach}
use Rattle.roam_hub.specs.Records.{taking, TakesActs, all, full, no_memory}

-- the first k acts are done
pub record AreDone (size : SessionSize) (log : List Entry) (id : ℕ) (acts : List Act) (k : ℕ) (state : SessionView) : Type 0 where
  pub stands : Stands state size (log ++ map (Did id) (take k acts))
  pub reach : reach size log id acts ≡ k + Rattle.roam_model.specs.ServerArrivals.reach size (log ++ map (Did id) (take k acts)) id (drop k acts)

none_done : (size : SessionSize) (log : List Entry) (id : ℕ) (acts : List Act) → log ++ map (Did id) (take 0 acts) ≡ log
none_done size log id [] = append-nil log
none_done size log id (a ∷ acts) = append-nil log

drop_none : (acts : List Act) → drop 0 acts ≡ acts
drop_none [] = refl
drop_none (a ∷ acts) = refl

pub done_first : (size : SessionSize) (log : List Entry) (id : ℕ) (acts : List Act) (state : SessionView) → Stands state size log
    → AreDone size log id acts 0 state
done_first size log id acts state st =
    record {
      stands = subst (λ (l : List Entry). Stands state size l) (sym (none_done size log id acts)) st;
      reach =
          (let z : reach size log id acts ≡ 0 + reach size log id acts = omega arith in z)
          ∙ sym (λ i. 0 + reach size (none_done size log id acts i) id (drop_none acts i));
    }

take_next : (acts : List Act) (k : ℕ) (d : Act) → k < length acts → take (suc k) acts ≡ take k acts ++ get_or acts k d ∷ []
take_next [] k d low = absurd (omega arith)
take_next (b ∷ acts) zero d low = refl
take_next (b ∷ acts) (suc k) d low = ap (λ (xs : List Act). b ∷ xs) (take_next acts k d (omega arith))

drop_next : (acts : List Act) (k : ℕ) (d : Act) → k < length acts → drop k acts ≡ get_or acts k d ∷ drop (suc k) acts
drop_next [] k d low = absurd (omega arith)
drop_next (b ∷ acts) zero d low = ap (λ (xs : List Act). b ∷ xs) (sym (drop_none acts))
drop_next (b ∷ acts) (suc k) d low = drop_next acts k d (omega arith)

log_next : (log : List Entry) (id : ℕ) (acts : List Act) (k : ℕ) (d : Act) → k < length acts
    → log ++ map (Did id) (take (suc k) acts) ≡ (log ++ map (Did id) (take k acts)) ++ Did id (get_or acts k d) ∷ []
log_next log id acts k d low =
    ap (λ (xs : List Act). log ++ map (Did id) xs) (take_next acts k d low)
    ∙ ap (λ (xs : List Entry). log ++ xs) (map-append (Did id) (take k acts) (get_or acts k d ∷ []))
    ∙ sym (append_assoc log (map (Did id) (take k acts)) (Did id (get_or acts k d) ∷ []))

-- the next is done
pub done_more : (size : SessionSize) (log : List Entry) (id : ℕ) (acts : List Act) (k : ℕ) (d : Act) (old new : SessionView)
    → k < length acts → AreDone size log id acts k old → Appends old new (Did id (get_or acts k d))
    → ((l : List Entry) → Stands old size l → stops size l (get_or acts k d) ≡ false) → AreDone size log id acts (k + 1) new
done_more size log id acts k d old new low done more free =
    subst (λ (n : ℕ). AreDone size log id acts n new) (let z : suc k ≡ k + 1 = omega arith in z) (record {
      stands = subst (λ (l : List Entry). Stands new size l) (sym (log_next log id acts k d low)) (more size _ done.stands);
      reach =
          done.reach ∙ ap (λ (xs : List Act). k + reach size (log ++ map (Did id) (take k acts)) id xs) (drop_next acts k d low)
          ∙ ap (λ b. k + cond b 0 (suc (reach size ((log ++ map (Did id) (take k acts)) ++ Did id (get_or acts k d) ∷ []) id
          (drop (suc k) acts)))) (free _ done.stands)
          ∙ (let z : k + suc (reach size ((log ++ map (Did id) (take k acts)) ++ Did id (get_or acts k d) ∷ []) id (drop (suc k) acts))
          ≡ suc k + reach size ((log ++ map (Did id) (take k acts)) ++ Did id (get_or acts k d) ∷ []) id (drop (suc k) acts) = omega arith
          in z)
          ∙ ap (λ (l : List Entry). suc k + reach size l id (drop (suc k) acts)) (sym (log_next log id acts k d low));
    })

-- the next stops: its queue is full, or memory is wanting
pub done_stopped : (size : SessionSize) (log : List Entry) (id : ℕ) (acts : List Act) (k n : ℕ) (d : Act) (old new : SessionView)
    (r : Option Fault)
    → k < length acts → n ≡ k → AreDone size log id acts k old → is_some r ≡ true
    → ((l : List Entry) → Stands old size l
    → IfSome r (λ fault. ((fault ≡ OutOfMemory) × (stops size l (get_or acts k d) ≡ false))
    ⊎ ((fault ≡ Busy) × (stops size l (get_or acts k d) ≡ true))))
    → IfSome r (λ _. new ≡ old) → TakesActs size log id acts (taking n r) new
done_stopped size log id acts k n d old new None low at done some why same = absurd (cc)
done_stopped size log id acts k n d old new (Some fault) low at done some why same =
    elim (why _ done.stands) [
      | inl memory ↦
          let free : reach size log id acts
          ≡ k + suc (reach size ((log ++ map (Did id) (take k acts)) ++ Did id (get_or acts k d) ∷ []) id (drop (suc k) acts)) =
          done.reach ∙ ap (λ (xs : List Act). k + reach size (log ++ map (Did id) (take k acts)) id xs) (drop_next acts k d low)
          ∙ ap (λ b. k + cond b 0 (suc (reach size ((log ++ map (Did id) (take k acts)) ++ Did id (get_or acts k d) ∷ []) id
          (drop (suc k) acts)))) memory.1 in
          no_memory k (omega (arith, free)) (λ i. taking (at i) (Some (memory.0 i)))
          (subst (λ (x : SessionView). Stands x size (log ++ map (Did id) (take k acts))) (sym same) done.stands)
      | inr busy ↦
          let here : reach size log id acts ≡ k =
          done.reach ∙ ap (λ (xs : List Act). k + reach size (log ++ map (Did id) (take k acts)) id xs) (drop_next acts k d low)
          ∙ ap (λ b. k + cond b 0 (suc (reach size ((log ++ map (Did id) (take k acts)) ++ Did id (get_or acts k d) ∷ []) id
          (drop (suc k) acts)))) busy.1
          ∙ (let z : k + 0 ≡ k = omega arith in z) in
          full (subst (λ (m : ℕ). m < length acts) (sym here) low) (λ i. taking ((at ∙ sym here) i) (Some (busy.0 i)))
          (subst (λ (m : ℕ). Stands new size (log ++ map (Did id) (take m acts))) (sym here)
          (subst (λ (x : SessionView). Stands x size (log ++ map (Did id) (take k acts))) (sym same) done.stands))
    ]

take_whole : (acts : List Act) (k : ℕ) → length acts ≤ k → take k acts ≡ acts
take_whole [] zero low = refl
take_whole [] (suc k) low = refl
take_whole (a ∷ acts) zero low = absurd (omega arith)
take_whole (a ∷ acts) (suc k) low = ap (λ (xs : List Act). a ∷ xs) (take_whole acts k (omega arith))

drop_whole : (acts : List Act) (k : ℕ) → length acts ≤ k → drop k acts ≡ []
drop_whole [] zero low = refl
drop_whole [] (suc k) low = refl
drop_whole (a ∷ acts) zero low = absurd (omega arith)
drop_whole (a ∷ acts) (suc k) low = drop_whole acts k (omega arith)

-- none is left
pub done_all : (size : SessionSize) (log : List Entry) (id : ℕ) (acts : List Act) (k n : ℕ) (state : SessionView) → length acts ≤ k
    → k ≤ length acts → n ≡ k → AreDone size log id acts k state → TakesActs size log id acts (taking n None) state
done_all size log id acts k n state low high at done =
    let same : k ≡ length acts = omega arith in
    all
    (done.reach ∙ ap (λ (xs : List Act). k + reach size (log ++ map (Did id) (take k acts)) id xs) (drop_whole acts k low)
    ∙ (let z : k + 0 ≡ length acts = omega arith in z))
    (λ i. taking ((at ∙ same) i) None)
    (subst (λ (xs : List Act). Stands state size (log ++ map (Did id) xs)) (take_whole acts k low) done.stands)

pub at_none : (r : Option Fault) (P : Type 0) → is_some r ≡ false → IfNone r P → P
at_none None P none p = p
at_none (Some fault) P none p = absurd (cc)
