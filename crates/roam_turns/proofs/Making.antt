-- Calls that are made one after another.
use Rattle.std.proofs.Common.{◌≡◌, ℕ, suc, ◌+◌, inl, inr, List, [], ◌∷◌, ◌++◌, append-nil, append_assoc, map, refl, sym, ◌∙◌, ap, subst, Option, Some, None}
use Rattle.roam_cells.specs.declared.addresses.Addr.{Addr}
use Rattle.roam_turns.specs.Calls.{PortCall, Tells, RunOf}
use Rattle.roam_turns.specs.Calls.PortCall.{NothingReceived}
use Rattle.roam_turns.specs.Parts.{Call, port_calls, core_calls, Then, Each, Receives, ReceivesUpTo, Makes}
use Rattle.roam_turns.specs.Parts.Call.{Port, Core}

-- ---- the recorded calls

pub tells_none : {C : Type 0} (a : Option (List C)) → Tells a a []
tells_none None = tt
tells_none (Some xs) = sym (append-nil xs)

pub tells_both : {C : Type 0} (a b c : Option (List C)) (xs ys : List C) → Tells a b xs → Tells b c ys → Tells a c (xs ++ ys)
tells_both None None None xs ys h k = tt
tells_both None None (Some zs) xs ys h k = k
tells_both None (Some us) c xs ys h k = absurd h
tells_both (Some us) None None xs ys h k = tt
tells_both (Some us) None (Some zs) xs ys h k = absurd k
tells_both (Some us) (Some vs) None xs ys h k = tt
tells_both (Some us) (Some vs) (Some zs) xs ys h k = k ∙ (ap (λ l. l ++ ys) h ∙ append_assoc us xs ys)

-- ---- which calls they are

pub ports_both : {C : Type 0} (xs ys : List (Call C)) → port_calls (xs ++ ys) ≡ port_calls xs ++ port_calls ys
ports_both [] ys = refl
ports_both (Port call ∷ xs) ys = ap (λ l. call ∷ l) (ports_both xs ys)
ports_both (Core call ∷ xs) ys = ports_both xs ys

pub cores_both : {C : Type 0} (xs ys : List (Call C)) → core_calls (xs ++ ys) ≡ core_calls xs ++ core_calls ys
cores_both [] ys = refl
cores_both (Port call ∷ xs) ys = cores_both xs ys
cores_both (Core call ∷ xs) ys = ap (λ l. call ∷ l) (cores_both xs ys)

pub ports_in : (C : Type 0) (sent : List PortCall) → port_calls {C = C} (map Port sent) ≡ sent
ports_in C [] = refl
ports_in C (call ∷ sent) = ap (λ l. call ∷ l) (ports_in C sent)

pub cores_in : (C : Type 0) (sent : List PortCall) → core_calls {C = C} (map Port sent) ≡ []
cores_in C [] = refl
cores_in C (call ∷ sent) = cores_in C sent

pub runs_both : {S C : Type 0} (step : S → C → S → Type 0) (old mid new : S) (xs ys : List C) → RunOf step old xs mid
    → RunOf step mid ys new → RunOf step old (xs ++ ys) new
runs_both step old mid new [] ys h k = subst (λ s. RunOf step s ys new) h k
runs_both step old mid new (x ∷ xs) ys h k = (h.0, h.1, runs_both step h.0 mid new xs ys h.2 k)

-- ---- parts

-- just these calls
abbrev pub Just : {C : Type 0} → List (Call C) → List (Call C) → Type 0
Just xs = λ calls. calls ≡ xs

-- with what may still come it is the whole
abbrev pub Until : {C : Type 0} → (Whole Rest : List (Call C) → Type 0) → List (Call C) → Type 0
Until {C} Whole Rest calls = (rest : List (Call C)) → Rest rest → Whole (calls ++ rest)

module _ {C S : Type 0} (step : S → C → S → Type 0) where
  pub makes_none : {told : Option (List PortCall)} {made : Option (List C)} {s : S} → Makes step (Just []) told told made made s s
  makes_none {told} {made} = record { calls = []; part = refl; tells = tells_none told; makes = tells_none made; runs = refl }

  pub makes_as : (P Q : List (Call C) → Type 0) {told told' : Option (List PortCall)} {made made' : Option (List C)} {s s' : S}
      → Makes step P told told' made made' s s' → ((xs : List (Call C)) → P xs → Q xs) → Makes step Q told told' made made' s s'
  makes_as P Q h is =
      record { calls = h.calls; part = is h.calls h.part; tells = h.tells; makes = h.makes; runs = h.runs }

  -- two parts make a third
  pub makes_both : (P Q R : List (Call C) → Type 0) {told told' told'' : Option (List PortCall)} {made made' made'' : Option (List C)}
      {s s' s'' : S} → Makes step P told told' made made' s s' → Makes step Q told' told'' made' made'' s' s''
      → ((xs ys : List (Call C)) → P xs → Q ys → R (xs ++ ys)) → Makes step R told told'' made made'' s s''
  makes_both P Q R {told} {told'} {told''} {made} {made'} {made''} {s} {s'} {s''} h k is =
      record {
        calls = h.calls ++ k.calls;
        part = is h.calls k.calls h.part k.part;
        tells = subst (Tells told told'') (sym (ports_both h.calls k.calls)) (tells_both told told' told'' _ _ h.tells k.tells);
        makes = subst (Tells made made'') (sym (cores_both h.calls k.calls)) (tells_both made made' made'' _ _ h.makes k.makes);
        runs = subst (λ calls. RunOf step s calls s'') (sym (cores_both h.calls k.calls)) (runs_both step s s' s'' _ _ h.runs k.runs);
      }

  pub makes_then : (P Q : List (Call C) → Type 0) {told told' told'' : Option (List PortCall)} {made made' made'' : Option (List C)}
      {s s' s'' : S} → Makes step P told told' made made' s s' → Makes step Q told' told'' made' made'' s' s''
      → Makes step (Then P Q) told told'' made made'' s s''
  makes_then P Q h k =
      makes_both P Q (Then P Q) h k
      (λ xs ys first later. record { before = xs; after = ys; all = refl; first = first; later = later })

  -- one more call of a port
  pub makes_port : (xs : List (Call C)) (call : PortCall) {told told' told'' : Option (List PortCall)} {made made' : Option (List C)}
      {s s' : S} → Makes step (Just xs) told told' made made' s s' → Tells told' told'' (call ∷ [])
      → Makes step (Just (xs ++ Port call ∷ [])) told told'' made made' s s'
  makes_port xs call {made'} h tells =
      makes_both (Just xs) (Just (Port call ∷ [])) (Just (xs ++ Port call ∷ [])) h
      (record { calls = Port call ∷ []; part = refl; tells = tells; makes = tells_none made'; runs = refl })
      (λ us vs e f. ap (λ l. l ++ vs) e ∙ ap (λ l. xs ++ l) f)

  -- one more call of the core
  pub makes_core : (xs : List (Call C)) (call : C) {told told' : Option (List PortCall)} {made made' made'' : Option (List C)}
      {s s' s'' : S} → Makes step (Just xs) told told' made made' s s' → Tells made' made'' (call ∷ []) → step s' call s''
      → Makes step (Just (xs ++ Core call ∷ [])) told told' made made'' s s''
  makes_core xs call {told'} {s''} h makes steps =
      makes_both (Just xs) (Just (Core call ∷ [])) (Just (xs ++ Core call ∷ [])) h
      (record { calls = Core call ∷ []; part = refl; tells = tells_none told'; makes = makes; runs = (s'', steps, refl) })
      (λ us vs e f. ap (λ l. l ++ vs) e ∙ ap (λ l. xs ++ l) f)

  -- calls of ports alone
  pub makes_ports : (sent : List PortCall) {told told' : Option (List PortCall)} {made : Option (List C)} {s : S}
      → Tells told told' sent → Makes step (Just (map Port sent)) told told' made made s s
  makes_ports sent {told} {told'} {made} {s} tells =
      record {
        calls = map Port sent;
        part = refl;
        tells = subst (Tells told told') (sym (ports_in C sent)) tells;
        makes = subst (Tells made made) (sym (cores_in C sent)) (tells_none made);
        runs = subst (λ calls. RunOf step s calls s) (sym (cores_in C sent)) refl;
      }

  -- ---- in a loop

  pub until_start : (Whole : List (Call C) → Type 0) {told : Option (List PortCall)} {made : Option (List C)} {s : S}
      → Makes step (Until Whole Whole) told told made made s s
  until_start Whole {told} {made} =
      record { calls = []; part = λ rest h. h; tells = tells_none told; makes = tells_none made; runs = refl }

  pub until_more : (Whole Rest Rest' P : List (Call C) → Type 0) {told told' told'' : Option (List PortCall)}
      {made made' made'' : Option (List C)} {s s' s'' : S} → Makes step (Until Whole Rest) told told' made made' s s'
      → Makes step P told' told'' made' made'' s' s'' → ((xs ys : List (Call C)) → P xs → Rest' ys → Rest (xs ++ ys))
      → Makes step (Until Whole Rest') told told'' made made'' s s''
  until_more Whole Rest Rest' P h k is =
      makes_both (Until Whole Rest) P (Until Whole Rest') h k
      (λ xs ys first p rest later. subst Whole (sym (append_assoc xs ys rest)) (first (ys ++ rest) (is ys rest p later)))

  pub until_ends : (Whole Rest P : List (Call C) → Type 0) {told told' told'' : Option (List PortCall)}
      {made made' made'' : Option (List C)} {s s' s'' : S} → Makes step (Until Whole Rest) told told' made made' s s'
      → Makes step P told' told'' made' made'' s' s'' → ((xs : List (Call C)) → P xs → Rest xs)
      → Makes step Whole told told'' made made'' s s''
  until_ends Whole Rest P h k is =
      makes_both (Until Whole Rest) P Whole h k (λ xs ys first p. first ys (is ys p))

  pub until_done : (Whole Rest : List (Call C) → Type 0) {told told' : Option (List PortCall)} {made made' : Option (List C)} {s s' : S}
      → Makes step (Until Whole Rest) told told' made made' s s' → Rest [] → Makes step Whole told told' made made' s s'
  until_done Whole Rest h none =
      makes_as (Until Whole Rest) Whole h (λ xs first. subst Whole (append-nil xs) (first [] none))

-- ---- one for each number

pub each_none : {C : Type 0} (Part : ℕ → List (Call C) → Type 0) (at left : ℕ) → left ≡ 0 → Each Part at left []
unfolding Each
each_none Part at left e = subst (λ n. Each Part at n []) (sym e) refl

pub each_one_more : {C : Type 0} (Part : ℕ → List (Call C) → Type 0) (at n left : ℕ) → left ≡ suc n → (xs ys : List (Call C)) → Part at xs
    → Each Part (at + 1) n ys → Each Part at left (xs ++ ys)
unfolding Each
each_one_more Part at n left e xs ys first later =
    let more : Each Part at (suc n) (xs ++ ys) = record { before = xs; after = ys; all = refl; first = first; later = later } in
    subst (λ k. Each Part at k (xs ++ ys)) (sym e) more

-- ---- receives

pub receives_none : {C : Type 0} (IsGiven : Addr → List ℕ → C → Type 0) (room left : ℕ) → left ≡ 0 → ReceivesUpTo IsGiven room left []
unfolding ReceivesUpTo
receives_none IsGiven room left e = subst (λ n. ReceivesUpTo IsGiven room n []) (sym e) refl

pub receives_no_more : {C : Type 0} (IsGiven : Addr → List ℕ → C → Type 0) (room n left : ℕ) → left ≡ suc n → (xs : List (Call C))
    → xs ≡ Port (NothingReceived room) ∷ [] → ReceivesUpTo IsGiven room left xs
unfolding ReceivesUpTo
receives_no_more IsGiven room n left e xs is =
    let none : ReceivesUpTo IsGiven room (suc n) xs = inl is in subst (λ k. ReceivesUpTo IsGiven room k xs) (sym e) none

pub receives_one_more : {C : Type 0} (IsGiven : Addr → List ℕ → C → Type 0) (room n left : ℕ) → left ≡ suc n → (xs ys : List (Call C))
    → Receives IsGiven room xs → ReceivesUpTo IsGiven room n ys → ReceivesUpTo IsGiven room left (xs ++ ys)
unfolding ReceivesUpTo
receives_one_more IsGiven room n left e xs ys first later =
    let more : ReceivesUpTo IsGiven room (suc n) (xs ++ ys) =
    inr (record { before = xs; after = ys; all = refl; first = first; later = later }) in
    subst (λ k. ReceivesUpTo IsGiven room k (xs ++ ys)) (sym e) more
