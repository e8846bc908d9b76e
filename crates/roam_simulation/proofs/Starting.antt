-- A client instances.
use Rattle.std.proofs.Common.{◌≡◌, ℕ, ◌<◌, ◌⊎◌, List, [], ◌∷◌, ◌++◌, length, set, Some, Bool, true, false, refl, sym, subst, inl, inr, arith}
use Rattle.std.specs.Prelude.{nat_eq, ◌||◌}
use Rattle.std.specs.List.{list_any}
use Rattle.std.proofs.lemmas.Bool.Decides.{nat_tests}
use Rattle.roam_cells.specs.declared.faults.Fault.TheVariants.{OutOfMemory}
use Rattle.roam_model.specs.Lists.{IsIn, with_value}
use Rattle.roam_wire.specs.declared.versions.Version.{Version}
use Rattle.roam_model.specs.Clients.{new_client}
use Rattle.roam_model.specs.Worlds.{World, Start, Done, Failed, Refused, after_start}
use Rattle.roam_model.specs.Steps.{used, started, unfit, is_unfit, no_memory}
use Rattle.roam_hub.specs.Clients.{ClientView, Stands as ClientStands}
use Rattle.roam_simulation.specs.Worlds.{WorldView, StartsStand, Stands, Steps}
use Rattle.roam_simulation.proofs.Slots.{starts_new}

any_cases : (a b : Bool) → (a || b) ≡ true → (a ≡ true) ⊎ (b ≡ true)
any_cases true b e = inl refl
any_cases false b e = inr e

none_parts : (a b : Bool) → (a || b) ≡ false → (a ≡ false) × (b ≡ false)
none_parts true b e = absurd (cc)
none_parts false b e = (refl, e)

is_in : (id : ℕ) (ids : List ℕ) → list_any (λ (x : ℕ). nat_eq x id) ids ≡ true → IsIn id ids
is_in id [] e = absurd (cc)
is_in id (x ∷ ids) e =
    elim (any_cases (nat_eq x id) (list_any (λ (y : ℕ). nat_eq y id) ids) e)
    [ inl f ↦ inl (grind (arith, nat_tests)) | inr f ↦ inr (is_in id ids f) ]

not_in : (id : ℕ) (ids : List ℕ) → list_any (λ (x : ℕ). nat_eq x id) ids ≡ false → IsIn id ids → ⊥
not_in id [] e i = i
not_in id (x ∷ ids) e i =
    let p = none_parts (nat_eq x id) (list_any (λ (y : ℕ). nat_eq y id) ids) e in
    elim i [ inl h ↦ (let f = p.0 in let z : ⊥ = grind (arith, nat_tests) in z) | inr h ↦ not_in id ids p.1 h ]

pub steps_unfit : (v : WorldView) (w : World) (slot id : ℕ) (version : Version) (watches : Bool) → Stands v w
    → is_unfit version watches ≡ true → Steps w (Start slot id version watches) Refused v
steps_unfit v w slot id version watches st e =
    record { left = w; step = unfit e refl refl; stands = st; memory = λ want. absurd want }

pub steps_used : (v : WorldView) (w : World) (slot id : ℕ) (version : Version) (watches : Bool) → Stands v w
    → list_any (λ (x : ℕ). nat_eq x id) v.used ≡ true → Steps w (Start slot id version watches) Refused v
steps_used v w slot id version watches st e =
    record {
      left = w;
      step = used (st.starts.just id (is_in id v.used e)) refl refl;
      stands = st;
      memory = λ want. absurd want;
    }

not_made : (v : WorldView) (w : World) (id : ℕ) → Stands v w → list_any (λ (x : ℕ). nat_eq x id) v.used ≡ false
    → (w.clients id).made ≡ false
not_made v w id st e = go (w.clients id).made refl
  where
    go : (b : Bool) → (w.clients id).made ≡ b → (w.clients id).made ≡ false
    go true f = absurd (not_in id v.used e (st.starts.all id f))
    go false f = f

-- there is no memory for an instance
pub steps_not_started : (v : WorldView) (w : World) (slot id : ℕ) (version : Version) (watches : Bool) → Stands v w
    → list_any (λ (x : ℕ). nat_eq x id) v.used ≡ false → is_unfit version watches ≡ false
    → Steps w (Start slot id version watches) (Failed OutOfMemory) v
steps_not_started v w slot id version watches st e fit =
    record { left = w; step = no_memory refl refl; stands = st; memory = λ want. (not_made v w id st e, fit) }

-- the list of the ids that were used can be another one that is the same
pub used_same : (v : WorldView) (w : World) (ids : List ℕ) → Stands v w → ids ≡ v.used → Stands (record v { used = ids }) w
used_same v w ids st e = subst (λ xs. Stands (record v { used = xs }) w) (sym e) st

pub steps_started : (v : WorldView) (w : World) (slot id : ℕ) (version : Version) (watches : Bool) (client : ClientView) (ids : List ℕ)
    → Stands v w → slot < length v.slots
    → list_any (λ (x : ℕ). nat_eq x id) v.used ≡ false → is_unfit version watches ≡ false
    → ClientStands client v.session id (new_client version watches) → ids ≡ v.used ++ id ∷ []
    → Steps w (Start slot id version watches) Done (record v { slots = set v.slots slot (Some client); used = ids })
steps_started v w slot id version watches client ids st lt e fit stands more =
    record {
      left = after_start w slot id version watches;
      step = started free fit refl refl;
      stands =
          record {
            session = st.session;
            server = st.server;
            starts =
                subst (λ (xs : List ℕ). StartsStand w.server.session (set v.slots slot (Some client)) xs (with_value w.clients id (new_client version watches))
                (with_value w.slots slot (Some id))) (sym more)
                (starts_new w.server.session v.slots v.used w.clients w.slots slot id client (new_client version watches) st.starts lt free refl
                (subst (λ (n : ℕ). ClientStands client n id (new_client version watches)) st.session stands));
            sent = st.sent;
          };
      memory = λ want. absurd want;
    }
  where
    free : (w.clients id).made ≡ false
    free = not_made v w id st e
