-- The states of a receiver stay in order.
use Rattle.std.proofs.Common.{◌≡◌, ℕ, ◌<◌, ◌≤◌, leb, List, [], ◌∷◌, ◌++◌, refl, arith, inl, inr}
use Rattle.std.proofs.lemmas.Bool.{cases_Bool}
use Rattle.roam_sync.specs.declared.receivers.Pair.{Pair}
use Rattle.roam_sync.specs.Receivers.{AreBelow, first_number, from_floor}

first_number-push : {S : Type 0} (ps : List (Pair S)) (q : Pair S) (n : ℕ) → first_number (ps ++ q ∷ []) n ≡ first_number ps q.number
first_number-push [] q n = refl
first_number-push (p ∷ ps) q n = refl

-- one more above the others
pub AreBelow-push : {S : Type 0} (ps : List (Pair S)) (q : Pair S) (n : ℕ) → AreBelow ps q.number → q.number < n → AreBelow (ps ++ q ∷ []) n
AreBelow-push [] q n rising lt = (lt, tt)
AreBelow-push (p ∷ ps) q n rising lt = (rw (first_number-push ps q n) rising.0, AreBelow-push ps q n rising.1 lt)

-- without those below the floor
pub AreBelow-floor : {S : Type 0} (floor : ℕ) (ps : List (Pair S)) (n : ℕ) → AreBelow ps n
    → (first_number ps n ≤ first_number (from_floor floor ps) n) × AreBelow (from_floor floor ps) n
AreBelow-floor floor [] n rising = (omega arith, tt)
AreBelow-floor floor (p ∷ ps) n rising =
    let rest = AreBelow-floor floor ps n rising.1 in
    elim (cases_Bool (leb floor p.number)) [
      | inl e ↦ rw e (omega arith, (omega (arith, rest.0, rising.0), rest.1))
      | inr e ↦ rw e (omega (arith, rest.0, rising.0), rest.1)
    ]
