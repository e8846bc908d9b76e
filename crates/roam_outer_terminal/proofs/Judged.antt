-- The predictions of a terminal are judged or lost, and the instance's screen is noted or the old one is.
use Rattle.std.proofs.Common.{◌≡◌, ◌⊎◌, Option, Some, None, Result, Ok, Err, inl, inr}
use Rattle.std.specs.Prelude.{OnErr, OnOk}
use Rattle.roam_cells.specs.declared.faults.Fault.{Fault}
use Rattle.roam_hub.specs.Clients.{ClientView}
use Rattle.roam_turns.specs.declared.outer.Noted.{Noted}
use Rattle.roam_outer_terminal.specs.Painted.{IsShownNow, shown_of}

-- what follows at an answer without a refusal, or at a refusal
pub on_ok : (A B : Type 0) (answer : Result (Unit {0}) Fault) → (A → B) → OnOk answer A → OnOk answer B
on_ok A B (Ok u) f a = f a
on_ok A B (Err fault) f a = tt

pub on_err : (A B : Type 0) (answer : Result (Unit {0}) Fault) → (A → B) → OnErr answer A → OnErr answer B
on_err A B (Ok u) f a = tt
on_err A B (Err fault) f a = f a

-- one of two, by the answer
pub may_judge : (A B : Type 0) (answer : Result (Unit {0}) Fault) → OnOk answer A → OnErr answer B → A ⊎ B
may_judge A B (Ok u) a b = inl a
may_judge A B (Err fault) a b = inr b

-- the instance's screen is noted, or the old one, or none
pub noted_or : (client : ClientView) (old new : Option Noted) (answer : Result (Unit {0}) Fault) → OnOk answer (IsShownNow client old new)
    → OnErr answer ((new ≡ old) ⊎ (new ≡ None)) → (new ≡ Some (shown_of client)) ⊎ ((new ≡ old) ⊎ (new ≡ None))
noted_or client old new (Ok u) (inl is) refused = inl is
noted_or client old new (Ok u) (inr both) refused = inr (inl both.1)
noted_or client old new (Err fault) noted refused = inr refused
