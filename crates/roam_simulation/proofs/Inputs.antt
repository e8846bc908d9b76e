-- Bytes from a pane's program, and bytes to it.
use Rattle.std.proofs.Common.{◌≡◌, ℕ, ◌+◌, ◌*◌, ◌<◌, List, length, Option, Some, None, Bool, true, false, refl, sym, ap, subst}
use Rattle.std.specs.Prelude.{Result, Ok, Err, nat_lt, if◌then◌else◌}
use Rattle.std.specs.Option.{option_map}
use Rattle.roam_cells.specs.declared.faults.Fault.{Fault}
use Rattle.roam_cells.specs.declared.faults.Fault.TheVariants.{Busy, NoPane, TooLong}
use Rattle.roam_session.specs.Sessions.{Given, Drained}
use Rattle.roam_session.specs.Refusals.{bytes_refused, output_at}
use Rattle.roam_term.specs.Limits.{longest_piece, most_output}
use Rattle.roam_model.specs.Servers.{after_input}
use Rattle.roam_model.specs.Worlds.{World, PaneBytes, Drain, Reply, Done, Refused, Failed, with_server}
use Rattle.roam_model.specs.Steps.{refused, taken, no_pane, too_many, gone}
use Rattle.roam_hub.specs.Servers.{ServerView, Feeds, refused as feed_refused, taken as feed_taken, Drains, no_pane as drains_none, gone as drains_gone}
use Rattle.roam_simulation.specs.Worlds.{IsWant, WorldView, Stands, Steps}
use Rattle.roam_simulation.proofs.Slots.{stands_served, stands_serving}

-- how a call is answered that answers nothing but refusals
abbrev pub done_by : Result (Unit {0}) Fault → Reply
done_by (Ok x) = Done
done_by (Err fault) = Failed fault

-- a piece is not refused for want of memory
chosen : (a b : Bool) (fault : Fault) → (if a then Some TooLong else if b then Some Busy else None) ≡ Some fault → IsWant (Failed fault) → ⊥
chosen true b fault e want = let is : TooLong ≡ fault = cc in subst (λ x. IsWant (Failed x)) (sym is) want
chosen false true fault e want = let is : Busy ≡ fault = cc in subst (λ x. IsWant (Failed x)) (sym is) want
chosen false false fault e want = absurd cc

no_want : (bytes : List ℕ) (o : Option (List ℕ)) (fault : Fault) → bytes_refused bytes o ≡ Some fault → IsWant (Failed fault) → ⊥
no_want bytes None fault e want = let is : NoPane ≡ fault = cc in subst (λ x. IsWant (Failed x)) (sym is) want
no_want bytes (Some waiting) fault e want =
    chosen (nat_lt longest_piece (length bytes)) (nat_lt most_output (length waiting + 12 * length bytes)) fault e want

pub steps_fed : (v : WorldView) (w : World) (pane : ℕ) (bytes : List ℕ) (result : Result (Unit {0}) Fault) (server : ServerView)
    → Stands v w → Feeds w.server pane bytes result server → Steps w (PaneBytes pane bytes) (done_by result) (record v { server = server })
steps_fed v w pane bytes result server st (feed_refused fault why e stands) =
    record {
      left = w;
      step = refused fault why (ap done_by e) refl;
      stands = stands_serving v w server st stands;
      memory = λ want. no_want bytes (output_at w.server.size w.server.log pane) fault why (subst (λ r. IsWant (done_by r)) e want);
    }
steps_fed v w pane bytes result server st (feed_taken why e stands) =
    record {
      left = with_server w (after_input w.server (Given pane bytes));
      step = taken why (ap done_by e) refl;
      stands = stands_served v w server (after_input w.server (Given pane bytes)) st refl stands;
      memory = λ want. subst (λ r. IsWant (done_by r)) e want;
    }

pub steps_drained : (v : WorldView) (w : World) (pane n : ℕ) (result : Result (Unit {0}) Fault) (server : ServerView)
    → Stands v w → Drains w.server pane n result server → Steps w (Drain pane n) (done_by result) (record v { server = server })
steps_drained v w pane n result server st (drains_none why e stands) =
    record {
      left = w;
      step = no_pane why (ap done_by e) refl;
      stands = stands_serving v w server st stands;
      memory = λ want. subst (λ r. IsWant (done_by r)) e want;
    }
steps_drained v w pane n result server st (drains_gone output at le e stands) =
    record {
      left = with_server w (after_input w.server (Drained pane n));
      step = gone output at le (ap done_by e) refl;
      stands = stands_served v w server (after_input w.server (Drained pane n)) st refl stands;
      memory = λ want. subst (λ r. IsWant (done_by r)) e want;
    }

waiting : (o : Option (List ℕ)) (n : ℕ) → Some n ≡ option_map (λ (xs : List ℕ). length xs) o
    → (xs : List ℕ) × (o ≡ Some xs) × (length xs ≡ n)
waiting None n e = absurd (cc)
waiting (Some xs) n e = (xs, refl, let z : length xs ≡ n = cc in z)

pub steps_too_many : (v : WorldView) (w : World) (pane n len : ℕ) → Stands v w
    → Some len ≡ option_map (λ (xs : List ℕ). length xs) (output_at w.server.size w.server.log pane) → len < n
    → Steps w (Drain pane n) Refused v
steps_too_many v w pane n len st e lt =
    let o = waiting (output_at w.server.size w.server.log pane) len e in
    record {
      left = w;
      step = too_many o.0 o.1 (subst (λ (k : ℕ). k < n) (sym o.2) lt) refl refl;
      stands = st;
      memory = λ want. want;
    }
