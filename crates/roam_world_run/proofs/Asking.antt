-- The questions to a world, in terms of the models of its parts.
use Rattle.std.proofs.Common.{◌≡◌, ℕ, List, length, codes, Option, Some, None, refl, sym, subst, ap, ◌++◌, ◌∙◌, append_assoc}
use Rattle.std.specs.Option.{option_map}
use Rattle.std.specs.Prelude.{Ok, Err, OnOk, Result, unwrap_or}
use Rattle.std.specs.Fmt.{decimal}
use Rattle.roam_screens.specs.Screenshot.{Screenshot}
use Rattle.roam_session.specs.Refusals.{none_refused}
use Rattle.roam_session.specs.Queues.{IsCopied}
use Rattle.roam_model.specs.Clients.{Client, shown_number, shown_screen}
use Rattle.roam_hub.specs.Clients.{ClientView, Stands as ClientStands}
use Rattle.roam_simulation.specs.Worlds.{Fills}
use Rattle.roam_world_run.specs.Asked.{bytes_line, slot_text, waiting_text}
use Rattle.roam_show.specs.ShowText.{screen_text}
use Rattle.roam_show.proofs.Copies.{whole_copy}

pub ok_then : {A E P Q : Type 0} (r : Result A E) → OnOk r P → (P → Q) → OnOk r Q
ok_then (Ok a) h f = f h
ok_then (Err e) h f = tt

-- the instance of the definitions that is in a slot of the code
pub record IsStart (session : ℕ) (clients : ℕ → Client) (ids : Option ℕ) (v : ClientView) : Type 0 where
  pub id : ℕ
  pub is : ids ≡ Some id
  pub stands : ClientStands v session id (clients id)

pub filled : (session : ℕ) (clients : ℕ → Client) (o : Option ClientView) (ids : Option ℕ) (v : ClientView) → o ≡ Some v
    → Fills session clients o ids → IsStart session clients ids v
filled session clients None ids v e h = absurd cc
filled session clients (Some u) None v e h = absurd h
filled session clients (Some u) (Some id) v e h =
    let same : u ≡ v = cc in
    record { id = id; is = refl; stands = subst (λ (x : ClientView). ClientStands x session id (clients id)) same h }

-- all bytes were copied
pub all_wait : (o : Option (List ℕ)) (n len : ℕ) (old new : List ℕ) → len ≡ unwrap_or (option_map (λ (waiting : List ℕ). length waiting)
    o) 0 → length old ≡ len
    → None ≡ none_refused o → IsCopied n old new o → waiting_text o ≡ bytes_line new
all_wait None n len old new is long e h = absurd h
all_wait (Some waiting) n len old new is long e h = ap bytes_line (whole_copy n len waiting old new is long h.0 h.1)

-- an instance's number was written, and then its screen
pub client_text : (clients : ℕ → Client) (ids : Option ℕ) (id number : ℕ) (shot : Screenshot) (old mid new : List ℕ) → ids ≡ Some id
    → number ≡ shown_number (clients id) → shot ≡ shown_screen (clients id) → mid ≡ old ++ (codes "state " ++ decimal number ++ codes "\n")
    → new ≡ mid ++ screen_text shot → new ≡ old ++ slot_text clients ids
client_text clients ids id number shot old mid new is same_number same_shot m n =
    n
    ∙ (λ i. m i ++ screen_text shot)
    ∙ append_assoc old (codes "state " ++ decimal number ++ codes "\n") (screen_text shot)
    ∙ (λ i. old ++ ((codes "state " ++ decimal (same_number i) ++ codes "\n") ++ screen_text (same_shot i)))
    ∙ ap (λ (o : Option ℕ). old ++ slot_text clients o) (sym is)
