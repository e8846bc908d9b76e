-- A pty host takes its place, and each subscriber still gets the news.
use Rattle.std.proofs.Common.{◌≡◌, ℕ, ◌-◌, Bool, eqb, List, [], ◌∷◌, Option, Some, None, sym, subst, inl, inr}
use Rattle.std.proofs.lemmas.Bool.{cases_Bool}
use Rattle.std.specs.List.{AllZip}
use Rattle.std.specs.Prelude.{IfSome, if◌then◌else◌}
use Rattle.roam_pane_protocol.specs.declared.pane_list.PaneList.{PaneList}
use Rattle.roam_pane_subscribers.specs.Subscribing.{IsTold, WasTold, is_there}
use Rattle.roam_pane_subscribers.specs.Seats.{any_new, first_stay, has_host, kept_place, let_go, places_for, seated, seated_by}
use Rattle.roam_pane_subscribers.specs.declared.subscribing.Subscriber.{Subscriber}
use Rattle.roam_pane_subscribers.specs.declared.seats.Role.{Role}
use Rattle.roam_pane_subscribers.specs.declared.seats.Role.TheVariants.{Other, New, Host}

module _ {S : Type 0} (contents : S → Option (List ℕ)) (now : PaneList) where
  -- the role of a subscriber isn't part of its news
  role_told : (old f : Subscriber S) (stream : Option S) → IfSome stream (λ _. WasTold contents now old f)
      → IfSome stream (λ _. WasTold contents now old (record f { role = Host }))
  role_told old f None t = tt
  role_told old f (Some stream) t = record {
    mid = t.mid;
    replies = t.replies;
    tells = record { told = t.tells.told; count = t.tells.count; whole = t.tells.whole; waiting = t.tells.waiting; wrote = t.tells.wrote };
  }

  by_role : (any later : Bool) (old f : Subscriber S) (role : Role) → IsTold contents now old f → IsTold contents now old (seated_by role any later f)
  by_role any later old f Other t = t
  by_role any later old f New t =
      elim (cases_Bool later) [
        | inl e ↦ rw e tt
        | inr e ↦ rw e (role_told old f f.program.stream t)
      ]
  by_role any later old f Host t =
      elim (cases_Bool any) [
        | inl e ↦ rw e tt
        | inr e ↦ rw e t
      ]

  seated_told : (any : Bool) (olds all : List (Subscriber S)) → AllZip (IsTold contents now) olds all → AllZip (IsTold contents now) olds (seated any all)
  seated_told any [] [] t = t
  seated_told any [] (f ∷ fs) t = absurd t
  seated_told any (old ∷ olds) [] t = absurd t
  seated_told any (old ∷ olds) (f ∷ fs) t = (by_role any (any_new fs) old f f.role t.0, seated_told any olds fs t.1)

  stays_told : (n : ℕ) (old f : Subscriber S) → IsTold contents now old f → IsTold contents now old (if eqb n 0 then let_go f else f)
  stays_told n old f t =
      elim (cases_Bool (eqb n 0)) [
        | inl e ↦ rw e tt
        | inr e ↦ rw e t
      ]

  kept_told : (n : ℕ) (olds all : List (Subscriber S)) → AllZip (IsTold contents now) olds all → AllZip (IsTold contents now) olds (first_stay n all)
  kept_told n [] [] t = t
  kept_told n [] (f ∷ fs) t = absurd t
  kept_told n (old ∷ olds) [] t = absurd t
  kept_told n (old ∷ olds) (f ∷ fs) t =
      elim (cases_Bool (is_there f)) [
        | inl e ↦ rw e (stays_told n old f t.0, kept_told (n - 1) olds fs t.1)
        | inr e ↦ rw e (t.0, kept_told n olds fs t.1)
      ]

  pub each_told : (olds all new : List (Subscriber S)) → new ≡ kept_place (seated (any_new all) all) → AllZip (IsTold contents now) olds all
      → AllZip (IsTold contents now) olds new
  each_told olds all new is t =
      subst (λ l. AllZip (IsTold contents now) olds l) (sym is) (kept_told (places_for (has_host (seated (any_new all) all))) olds (seated (any_new all) all) (seated_told (any_new all) olds all t))
