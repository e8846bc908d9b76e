-- The numbers that each end of a link has, before and after its steps.
use Rattle.std.proofs.Common.{◌≡◌, ℕ, ◌<◌, ◌≤◌, true, false, eqb, leb, List, [], ◌∷◌, ◌++◌, length, map, filter, refl, sym, ap, ◌∙◌, inl, inr, arith}
use Rattle.std.specs.Prelude.{is_none}
use Rattle.std.proofs.lemmas.Bool.{cases_Bool}
use Rattle.std.proofs.lemmas.Bool.Decides.{nat_tests}
use Rattle.std.proofs.lemmas.List.{map-append, length-map}
use Rattle.roam_sync.specs.declared.senders.Held.{Held}
use Rattle.roam_sync.specs.declared.receivers.Pair.{Pair}
use Rattle.roam_sync.specs.declared.receivers.Step.TheVariants as step
use Rattle.roam_sync.specs.Senders.{AreAbove, last_of, after_ack, is_held, mark_base, mark_last}
use Rattle.roam_sync.specs.Receivers.{Receiving, pairs, first_number, AreBelow, state_at, from_floor, step_for}
use Rattle.roam_sync.specs.Links.{IsAmong, IsRising}
use Rattle.roam_sync.proofs.Numbers.{among_right}

-- ---- a sender's

module _ {S : Type 0} where
  abbrev pub held_numbers : List (Held S) → List ℕ
  held_numbers hs = map (λ h. h.number) hs

  pub above_all : (n m : ℕ) (hs : List (Held S)) → AreAbove n hs → IsAmong m (held_numbers hs) → n < m
  above_all n m [] rising among = absurd among
  above_all n m (h ∷ hs) rising among =
      elim among [
        | inl e ↦ let lt = rising.0 in omega arith
        | inr rest ↦ let lt = rising.0 in let up = above_all h.number m hs rising.1 rest in omega arith
      ]

  pub held_rises : (n : ℕ) (hs : List (Held S)) → AreAbove n hs → IsRising (n ∷ held_numbers hs)
  held_rises n [] rising = ((λ m a. absurd a), tt)
  held_rises n (h ∷ hs) rising = ((λ m a. above_all n m (h ∷ hs) rising a), held_rises h.number hs rising.1)

  pub base_least : (base : Held S) (hs : List (Held S)) (m : ℕ) → AreAbove base.number hs
      → IsAmong m (held_numbers (base ∷ hs)) → base.number ≤ m
  base_least base hs m rising among =
      elim among [ inl e ↦ omega arith | inr rest ↦ let up = above_all base.number m hs rising rest in omega arith ]

  pub last_among : (base : Held S) (hs : List (Held S)) → IsAmong (last_of base hs).number (held_numbers (base ∷ hs))
  last_among base [] = inl refl
  last_among base (h ∷ hs) = inr (last_among h hs)

  pub last_greatest : (base : Held S) (hs : List (Held S)) (m : ℕ) → AreAbove base.number hs
      → IsAmong m (held_numbers (base ∷ hs)) → m ≤ (last_of base hs).number
  last_greatest base [] m rising among = elim among [ inl e ↦ omega arith | inr rest ↦ absurd rest ]
  last_greatest base (h ∷ hs) m rising among =
      elim among [
        | inl e ↦ let lt = rising.0 in let up = last_greatest h hs h.number rising.1 (inl refl) in omega arith
        | inr rest ↦ last_greatest h hs m rising.1 rest
      ]

  -- an acknowledgement of a kept number
  pub acked_held : (hs : List (Held S)) (k : ℕ) → is_held hs k ≡ true → IsAmong k (held_numbers hs)
  acked_held [] k there = absurd cc
  acked_held (h ∷ hs) k there =
      elim (cases_Bool (eqb h.number k)) [
        | inl e ↦ inl (grind (arith, nat_tests))
        | inr e ↦ inr (acked_held hs k (rw e at there))
      ]

  pub acked_base : (all : Held S × List (Held S)) (hs : List (Held S)) (k : ℕ) → is_held hs k ≡ true → (after_ack all hs k).0.number ≡ k
  acked_base all [] k there = absurd cc
  acked_base all (h ∷ hs) k there =
      elim (cases_Bool (eqb h.number k)) [
        | inl e ↦ rw e (grind (arith, nat_tests))
        | inr e ↦ rw e (acked_base all hs k (rw e at there))
      ]

  pub acked_among : (all : Held S × List (Held S)) (n m : ℕ) (hs : List (Held S)) (k : ℕ) → AreAbove n hs → is_held hs k ≡ true → k ≤ m
      → IsAmong m (held_numbers hs) → IsAmong m (held_numbers ((after_ack all hs k).0 ∷ (after_ack all hs k).1))
  acked_among all n m [] k rising there le among = absurd cc
  acked_among all n m (h ∷ hs) k rising there le among =
      elim (cases_Bool (eqb h.number k)) [
        | inl e ↦ rw e among
        | inr e ↦
            let still : is_held hs k ≡ true = rw e at there in
            let lt = above_all h.number k hs rising.1 (acked_held hs k still) in
            rw e (elim among [
              | inl same ↦ absurd (omega arith)
              | inr rest ↦ acked_among all h.number m hs k rising.1 still le rest
            ])
      ]

  pub acked_last : (all : Held S × List (Held S)) (base : Held S) (hs : List (Held S)) (k : ℕ) → is_held hs k ≡ true
      → last_of (after_ack all hs k).0 (after_ack all hs k).1 ≡ last_of base hs
  acked_last all base [] k there = absurd cc
  acked_last all base (h ∷ hs) k there =
      elim (cases_Bool (eqb h.number k)) [
        | inl e ↦ rw e refl
        | inr e ↦ rw e (acked_last all h hs k (rw e at there))
      ]

  -- a sending
  pub marked_numbers : (hs : List (Held S)) → held_numbers (mark_last hs) ≡ held_numbers hs
  marked_numbers [] = refl
  marked_numbers (h ∷ []) = refl
  marked_numbers (h ∷ g ∷ hs) = ap (λ ns. h.number ∷ ns) (marked_numbers (g ∷ hs))

  marked_last : (base h : Held S) (hs : List (Held S)) → (last_of base (mark_last (h ∷ hs))).number ≡ (last_of h hs).number
  marked_last base h [] = refl
  marked_last base h (g ∷ hs) = marked_last h g hs

  pub marked_newest : (base : Held S) (hs : List (Held S)) → (last_of (mark_base base hs) (mark_last hs)).number ≡ (last_of base hs).number
  marked_newest base [] = refl
  marked_newest base (h ∷ hs) = marked_last base h hs

-- ---- a receiver's

module _ {S : Type 0} where
  abbrev pub had_numbers : List (Pair S) → List ℕ
  had_numbers ps = map (λ p. p.number) ps

  first_least : (ps : List (Pair S)) (n m : ℕ) → AreBelow ps n → IsAmong m (had_numbers ps ++ n ∷ []) → first_number ps n ≤ m
  first_least [] n m rising among = elim among [ inl e ↦ omega arith | inr rest ↦ absurd rest ]
  first_least (p ∷ ps) n m rising among =
      elim among [
        | inl e ↦ omega arith
        | inr rest ↦ let lt = rising.0 in let low = first_least ps n m rising.1 rest in omega arith
      ]

  rises_to : (ps : List (Pair S)) (n : ℕ) → AreBelow ps n → IsRising (had_numbers ps ++ n ∷ [])
  rises_to [] n rising = ((λ m a. absurd a), tt)
  rises_to (p ∷ ps) n rising =
      ((λ m a. let lt = rising.0 in let low = first_least ps n m rising.1 a in omega arith), rises_to ps n rising.1)

  most_to : (ps : List (Pair S)) (n m : ℕ) → AreBelow ps n → IsAmong m (had_numbers ps ++ n ∷ []) → m ≤ n
  most_to [] n m rising among = elim among [ inl e ↦ omega arith | inr rest ↦ absurd rest ]
  most_to (p ∷ ps) n m rising among =
      elim among [
        | inl e ↦
            let lt = rising.0 in
            let low = first_least ps n n rising.1 (among_right n (had_numbers ps) (n ∷ []) (inl refl)) in
            omega arith
        | inr rest ↦ most_to ps n m rising.1 rest
      ]

  pub numbers_of_pairs : (ps : List (Pair S)) (p : Pair S) → had_numbers (ps ++ p ∷ []) ≡ had_numbers ps ++ p.number ∷ []
  numbers_of_pairs ps p = map-append (λ q. q.number) ps (p ∷ [])

  pub had_rises : (ps : List (Pair S)) (p : Pair S) → AreBelow ps p.number → IsRising (had_numbers (ps ++ p ∷ []))
  had_rises ps p rising = rw (numbers_of_pairs ps p) (rises_to ps p.number rising)

  pub newest_greatest : (ps : List (Pair S)) (p : Pair S) (m : ℕ) → AreBelow ps p.number
      → IsAmong m (had_numbers (ps ++ p ∷ [])) → m ≤ p.number
  newest_greatest ps p m rising among = most_to ps p.number m rising (rw (numbers_of_pairs ps p) at among)

  pub newest_among : (ps : List (Pair S)) (p : Pair S) → IsAmong p.number (had_numbers (ps ++ p ∷ []))
  newest_among ps p = rw (numbers_of_pairs ps p) (among_right p.number (had_numbers ps) (p.number ∷ []) (inl refl))

  pub floor_numbers : (floor : ℕ) (ps : List (Pair S)) → had_numbers (from_floor floor ps) ≡ filter (leb floor) (had_numbers ps)
  floor_numbers floor [] = refl
  floor_numbers floor (p ∷ ps) =
      elim (cases_Bool (leb floor p.number)) [
        | inl e ↦ rw e (ap (λ ns. p.number ∷ ns) (floor_numbers floor ps))
        | inr e ↦ rw e (floor_numbers floor ps)
      ]

  pub floor_length : (floor : ℕ) (ps : List (Pair S)) → length (from_floor floor ps) ≡ length (filter (leb floor) (had_numbers ps))
  floor_length floor ps = sym (length-map (from_floor floor ps) (λ p. p.number)) ∙ ap length (floor_numbers floor ps)

  -- a number that is there is found
  pub found : (n : ℕ) (ps : List (Pair S)) → IsAmong n (had_numbers ps) → is_none (state_at n ps) ≡ false
  found n [] among = absurd among
  found n (p ∷ ps) among =
      elim (cases_Bool (eqb p.number n)) [
        | inl e ↦ rw e refl
        | inr e ↦ rw e (elim among [ inl same ↦ absurd (grind (arith, nat_tests)) | inr rest ↦ found n ps rest ])
      ]

  -- the facts about a new update
  pub fresh_means : (r : Receiving S) (old new floor : ℕ) → step_for r old new floor ≡ step.New
      → (r.newest.number < new) × (length (from_floor floor (pairs r)) ≤ 7)
  fresh_means r old new floor is =
      elim (cases_Bool (leb new r.newest.number)) [
        | inl a ↦ absurd (let no : step.Old ≡ step.New = rw a at is in cc)
        | inr a ↦
            elim (cases_Bool (is_none (state_at old (pairs r)))) [
              | inl b ↦ absurd (let no : step.Gap ≡ step.New = rw (a, b) at is in cc)
              | inr b ↦
                  elim (cases_Bool (leb 8 (length (from_floor floor (pairs r))))) [
                    | inl e ↦ absurd (let no : step.Gap ≡ step.New = rw (a, b, e) at is in cc)
                    | inr e ↦ (grind (arith, nat_tests), grind (arith, nat_tests))
                  ]
            ]
      ]

  -- the facts about an update above the newest, from a state that is there, with room for its own
  pub meets_new : (r : Receiving S) (old new floor : ℕ) → r.newest.number < new → IsAmong old (had_numbers (pairs r))
      → length (from_floor floor (pairs r)) ≤ 7 → step_for r old new floor ≡ step.New
  meets_new r old new floor above there room =
      let a : leb new r.newest.number ≡ false = grind (arith, nat_tests) in
      let e : leb 8 (length (from_floor floor (pairs r))) ≡ false = grind (arith, nat_tests) in
      rw (a, found old (pairs r) there, e) refl

  pub meets_old : (r : Receiving S) (old new floor : ℕ) → new ≤ r.newest.number → step_for r old new floor ≡ step.Old
  meets_old r old new floor low =
      let a : leb new r.newest.number ≡ true = grind (arith, nat_tests) in
      rw a refl
