-- The client instances in the slots, if one of them is another than before.
use Rattle.std.proofs.Common.{◌≡◌, ℕ, zero, suc, ◌<◌, ◌≤◌, ◌≢◌, get_or, List, [], ◌∷◌, ◌++◌, length, set, Option, Some, None, Bool, true, false, refl, sym, ap, ◌∙◌, subst, inl, inr, arith, cond, get_or-set_same, get_or-set_other}
use Rattle.std.specs.Prelude.{nat_eq}
use Rattle.std.proofs.lemmas.Bool.Decides.{nat_tests}
use Rattle.std.proofs.lemmas.Option.{slice_get-get_or}
use Rattle.roam_model.specs.Lists.{IsIn, with_value}
use Rattle.roam_model.specs.Clients.{Client}
use Rattle.roam_model.specs.Servers.{Server}
use Rattle.roam_model.specs.Worlds.{World, with_server, with_client}
use Rattle.roam_model.proofs.Members.{IsIn-append_left, IsIn-append_right, IsIn-push_cases, on_put, put_same}
use Rattle.roam_hub.specs.Clients.{ClientView, Stands as ClientStands}
use Rattle.roam_hub.specs.Servers.{ServerView, Stands as ServerStands}
use Rattle.roam_simulation.specs.Worlds.{WorldView, start_in, Fills, StartsStand, Stands}

-- ---- one slot

-- the instance in a slot, by the definitions
pub record Sits (w : World) (slot : ℕ) (v : ClientView) : Type 0 where
  pub id : ℕ
  pub at : w.slots slot ≡ Some id
  pub stands : ClientStands v w.server.session id (w.clients id)
  pub made : (w.clients id).made ≡ true

pub sits : (v : WorldView) (w : World) (slot : ℕ) (c : ClientView) → Stands v w → start_in v.slots slot ≡ Some c → Sits w slot c
sits v w slot c st at =
    go (w.slots slot) refl (subst (λ (o : Option ClientView). Fills w.server.session w.clients o (w.slots slot)) at (st.starts.filled slot))
  where
    go : (o : Option ℕ) → w.slots slot ≡ o → Fills w.server.session w.clients (Some c) o → Sits w slot c
    go None e f = absurd f
    go (Some id) e f = record { id = id; at = e; stands = f; made = st.starts.made slot id e }

pub vacant : (v : WorldView) (w : World) (slot : ℕ) → Stands v w → start_in v.slots slot ≡ None → w.slots slot ≡ None
vacant v w slot st at =
    go (w.slots slot) refl (subst (λ (o : Option ClientView). Fills w.server.session w.clients o (w.slots slot)) at (st.starts.filled slot))
  where
    go : (o : Option ℕ) → w.slots slot ≡ o → Fills w.server.session w.clients None o → w.slots slot ≡ None
    go None e f = e
    go (Some id) e f = absurd f

same_some : (a b : Option ClientView) → Some a ≡ Some b → a ≡ b
same_some a b e = cc

-- reading a slot gives the instance there
pub start_read : (slots : List (Option ClientView)) (slot : ℕ) (o p : Option ClientView) → slot < length slots → o ≡ get_or slots slot o
    → o ≡ p → start_in slots slot ≡ p
start_read slots slot o p lt is e =
    same_some (get_or slots slot None) (get_or slots slot o)
    (sym (slice_get-get_or slots slot None lt) ∙ slice_get-get_or slots slot o lt) ∙ sym is ∙ e

-- past the slots there is none
pub start_past : (slots : List (Option ClientView)) (slot : ℕ) → length slots ≤ slot → start_in slots slot ≡ None
start_past [] slot le = refl
start_past (o ∷ slots) zero le = absurd (omega arith)
start_past (o ∷ slots) (suc n) le = start_past slots n (omega arith)

-- ---- one slot of all

not_same : (x slot : ℕ) → nat_eq x slot ≡ false → x ≢ slot
not_same x slot e f = grind (arith, nat_tests)

-- if another instance is in one slot, the others are filled as before
filled-set : (session : ℕ) (slots : List (Option ClientView)) (slot : ℕ) (v : ClientView) (clients : ℕ → Client) (ids : ℕ → Option ℕ)
    → slot < length slots → Fills session clients (Some v) (ids slot)
    → ((x : ℕ) → nat_eq x slot ≡ false → Fills session clients (start_in slots x) (ids x)) → (x : ℕ)
    → Fills session clients (start_in (set slots slot (Some v)) x) (ids x)
filled-set session slots slot v clients ids lt here others x = go (nat_eq x slot) refl
  where
    go : (b : Bool) → nat_eq x slot ≡ b → Fills session clients (start_in (set slots slot (Some v)) x) (ids x)
    go true e =
        let same : slot ≡ x = grind (arith, nat_tests) in
        subst (λ (y : ℕ). Fills session clients (start_in (set slots slot (Some v)) y) (ids y)) same
        (subst (λ (o : Option ClientView). Fills session clients o (ids slot))
        (sym (get_or-set_same slots slot (Some v) None lt)) here)
    go false e =
        subst (λ (o : Option ClientView). Fills session clients o (ids x))
        (sym (get_or-set_other slots slot x (Some v) None (not_same x slot e))) (others x e)

-- an instance that isn't in a slot can be another
fills-put : (session : ℕ) (clients : ℕ → Client) (id : ℕ) (c : Client) (o : Option ClientView) (i : Option ℕ) → (i ≡ Some id → ⊥)
    → Fills session clients o i → Fills session (with_value clients id c) o i
fills-put session clients id c None None not f = tt
fills-put session clients id c None (Some j) not f = absurd f
fills-put session clients id c (Some v) None not f = absurd f
fills-put session clients id c (Some v) (Some j) not f = go (nat_eq j id) refl
  where
    go : (b : Bool) → nat_eq j id ≡ b → ClientStands v session j (cond b c (clients j))
    go true e = let same : j ≡ id = grind (arith, nat_tests) in absurd (not (ap (λ (n : ℕ). Some n) same))
    go false e = f

-- nothing is different but how the instance in a slot is kept
pub starts_kept : (session : ℕ) (slots : List (Option ClientView)) (used : List ℕ) (clients : ℕ → Client) (ids : ℕ → Option ℕ)
    (slot id : ℕ) (v : ClientView) → StartsStand session slots used clients ids → slot < length slots → ids slot ≡ Some id
    → ClientStands v session id (clients id) → StartsStand session (set slots slot (Some v)) used clients ids
starts_kept session slots used clients ids slot id v st lt at stands =
    record {
      filled =
          filled-set session slots slot v clients ids lt
          (subst (λ (i : Option ℕ). Fills session clients (Some v) i) (sym at) stands) (λ x ne. st.filled x);
      made = st.made;
      once = st.once;
      all = st.all;
      just = st.just;
    }

-- the instance in a slot is another
pub starts_put : (session : ℕ) (slots : List (Option ClientView)) (used : List ℕ) (clients : ℕ → Client) (ids : ℕ → Option ℕ)
    (slot id : ℕ) (v : ClientView) (c : Client) → StartsStand session slots used clients ids → slot < length slots → ids slot ≡ Some id
    → c.made ≡ true → ClientStands v session id c → StartsStand session (set slots slot (Some v)) used (with_value clients id c) ids
starts_put session slots used clients ids slot id v c st lt at made stands =
    record {
      filled =
          filled-set session slots slot v (with_value clients id c) ids lt
          (subst (λ (i : Option ℕ). Fills session (with_value clients id c) (Some v) i) (sym at)
          (subst (λ (k : Client). ClientStands v session id k) (sym (put_same clients id c)) stands))
          (λ x ne. fills-put session clients id c (start_in slots x) (ids x) (λ e. not_same x slot ne (st.once x slot id e at))
          (st.filled x));
      made =
          λ x j e. on_put (λ (k : ℕ) (d : Client). ids x ≡ Some k → d.made ≡ true) clients id c (λ _. made) (λ k ne. st.made x k) j e;
      once = st.once;
      all =
          λ j. on_put (λ (k : ℕ) (d : Client). d.made ≡ true → IsIn k used) clients id c (λ _. st.all id (st.made slot id at))
          (λ k ne. st.all k) j;
      just =
          λ j. on_put (λ (k : ℕ) (d : Client). IsIn k used → d.made ≡ true) clients id c (λ _. made) (λ k ne. st.just k) j;
    }

-- an instance of an id that wasn't used
pub starts_new : (session : ℕ) (slots : List (Option ClientView)) (used : List ℕ) (clients : ℕ → Client) (ids : ℕ → Option ℕ)
    (slot id : ℕ) (v : ClientView) (c : Client) → StartsStand session slots used clients ids → slot < length slots
    → (clients id).made ≡ false → c.made ≡ true → ClientStands v session id c
    → StartsStand session (set slots slot (Some v)) (used ++ id ∷ []) (with_value clients id c) (with_value ids slot (Some id))
starts_new session slots used clients ids slot id v c st lt free made stands =
    record {
      filled =
          filled-set session slots slot v (with_value clients id c) (with_value ids slot (Some id)) lt
          (subst (λ (i : Option ℕ). Fills session (with_value clients id c) (Some v) i) (sym (put_same ids slot (Some id)))
          (subst (λ (k : Client). ClientStands v session id k) (sym (put_same clients id c)) stands))
          (on_put (λ (x : ℕ) (i : Option ℕ). nat_eq x slot ≡ false → Fills session (with_value clients id c) (start_in slots x) i) ids slot
          (Some id) (λ ne. let z : ⊥ = grind (arith, nat_tests) in absurd z)
          (λ x ne same. fills-put session clients id c (start_in slots x) (ids x) (unheld x) (st.filled x)));
      made =
          λ x j. on_put (λ (y : ℕ) (i : Option ℕ). i ≡ Some j → (with_value clients id c j).made ≡ true) ids slot (Some id)
          (λ e. is_made j (inj id j e)) (λ y ne e. was_made y j e) x;
      once = λ x y j e f. once x y j e f;
      all =
          λ j. on_put (λ (k : ℕ) (d : Client). d.made ≡ true → IsIn k (used ++ id ∷ [])) clients id c
          (λ _. IsIn-append_right id used (id ∷ []) (inl refl)) (λ k ne m. IsIn-append_left k used (id ∷ []) (st.all k m)) j;
      just =
          λ j. on_put (λ (k : ℕ) (d : Client). IsIn k (used ++ id ∷ []) → d.made ≡ true) clients id c (λ _. made)
          (λ k ne i. elim (IsIn-push_cases k id used i)
          [ inl a ↦ st.just k a | inr e ↦ (let z : ⊥ = grind (arith, nat_tests) in absurd z) ]) j;
    }
  where
    inj : (i j : ℕ) → Some i ≡ Some j → i ≡ j
    inj i j e = cc

    unheld : (x : ℕ) → ids x ≡ Some id → ⊥
    unheld x e = let z : true ≡ false = sym (st.made x id e) ∙ free in absurd (cc)

    is_made : (j : ℕ) → id ≡ j → (with_value clients id c j).made ≡ true
    is_made j e = subst (λ (k : ℕ). (with_value clients id c k).made ≡ true) e (ap (λ (d : Client). d.made) (put_same clients id c) ∙ made)

    was_made : (y j : ℕ) → ids y ≡ Some j → (with_value clients id c j).made ≡ true
    was_made y j e =
        on_put (λ (k : ℕ) (d : Client). ids y ≡ Some k → d.made ≡ true) clients id c (λ _. made) (λ k ne. st.made y k) j e

    once : (x y j : ℕ) → with_value ids slot (Some id) x ≡ Some j → with_value ids slot (Some id) y ≡ Some j → x ≡ y
    once x y j = go (nat_eq x slot) (nat_eq y slot) refl refl
      where
        go : (a b : Bool) → nat_eq x slot ≡ a → nat_eq y slot ≡ b → cond a (Some id) (ids x) ≡ Some j → cond b (Some id) (ids y) ≡ Some j
            → x ≡ y
        go true true p q e f = grind (arith, nat_tests)
        go true false p q e f = absurd (unheld y (f ∙ sym e))
        go false true p q e f = absurd (unheld x (e ∙ sym f))
        go false false p q e f = st.once x y j e f

-- ---- the world then

pub stands_kept : (v : WorldView) (w : World) (slot : ℕ) (c c' : ClientView) → Stands v w → slot < length v.slots → (s : Sits w slot c)
    → ClientStands c' w.server.session s.id (w.clients s.id) → Stands (record v { slots = set v.slots slot (Some c') }) w
stands_kept v w slot c c' st lt s stands =
    record {
      session = st.session;
      server = st.server;
      starts = starts_kept w.server.session v.slots v.used w.clients w.slots slot s.id c' st.starts lt s.at stands;
      sent = st.sent;
    }

pub stands_put : (v : WorldView) (w : World) (slot : ℕ) (c c' : ClientView) (k : Client) → Stands v w → slot < length v.slots
    → (s : Sits w slot c) → k.made ≡ true → ClientStands c' w.server.session s.id k
    → Stands (record v { slots = set v.slots slot (Some c') }) (with_client w s.id k)
stands_put v w slot c c' k st lt s made stands =
    record {
      session = st.session;
      server = st.server;
      starts = starts_put w.server.session v.slots v.used w.clients w.slots slot s.id c' k st.starts lt s.at made stands;
      sent = st.sent;
    }

-- nothing is different but the server
pub stands_served : (v : WorldView) (w : World) (server : ServerView) (s : Server) → Stands v w → s.session ≡ w.server.session
    → ServerStands server s → Stands (record v { server = server }) (with_server w s)
stands_served v w server s st same stands =
    record {
      session = st.session ∙ sym same;
      server = stands;
      starts = subst (λ (n : ℕ). StartsStand n v.slots v.used w.clients w.slots) (sym same) st.starts;
      sent = st.sent;
    }

-- nor that, but for how it is kept
pub stands_serving : (v : WorldView) (w : World) (server : ServerView) → Stands v w → ServerStands server w.server
    → Stands (record v { server = server }) w
stands_serving v w server st stands = record { session = st.session; server = stands; starts = st.starts; sent = st.sent }
