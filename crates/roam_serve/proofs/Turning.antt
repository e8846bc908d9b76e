-- One turn more of a server.
use Rattle.std.proofs.Common.{◌≡◌, ℕ, suc, ◌+◌, List, Option, None, refl, sym, subst, arith}
use Rattle.roam_hub.specs.Servers.{ServerView}
use Rattle.roam_turns.specs.Calls.{PortCall}
use Rattle.roam_turns.specs.Cores.{server_step}
use Rattle.roam_turns.specs.Parts.{Makes}
use Rattle.roam_turns.specs.Turns.{ServeTurn}
use Rattle.roam_serve.specs.Runs.{RunsTurns, ServesTurns}

pub no_turns : (server : ServerView) → ServesTurns 0 server server
unfolding ServesTurns
no_turns server = refl

pub turn_more : (n : ℕ) (old mid new : ServerView) → ServesTurns n old mid → Makes server_step ServeTurn None None None None mid new
    → ServesTurns (n + 1) old new
unfolding ServesTurns
turn_more n old mid new before turn =
    let e : n + 1 ≡ suc n = omega arith in
    subst (λ k. ServesTurns k old new) (sym e) (mid, before, turn)

-- a turn of ports that record their calls is one of ports that don't
pub untold : (t t' : Option (List PortCall)) (old new : ServerView) → Makes server_step ServeTurn t t' None None old new
    → Makes server_step ServeTurn None None None None old new
untold t t' old new makes = record { calls = makes.calls; part = makes.part; tells = tt; makes = makes.makes; runs = makes.runs }

module _ {P : Type 0} (told : P → Option (List PortCall)) (mends : P → P → Type 0) (follows : ℕ → ServerView → P → P → Type 0)
    (asked : ℕ) where
  pub no_run : (ports : P) (server : ServerView) → RunsTurns told mends follows asked 0 ports ports server server
  unfolding RunsTurns
  no_run ports server = (refl, refl)

  pub run_more : (n : ℕ) (first before mended turned last : P) (old mid new : ServerView)
      → RunsTurns told mends follows asked n first before old mid → mends before mended → told mended ≡ told before
      → Makes server_step ServeTurn (told mended) (told turned) None None mid new → follows asked new turned last
      → told last ≡ told turned → RunsTurns told mends follows asked (n + 1) first last old new
  unfolding RunsTurns
  run_more n first before mended turned last old mid new runs mend silent turn follow still =
      let e : n + 1 ≡ suc n = omega arith in
      subst (λ k. RunsTurns told mends follows asked k first last old new) (sym e)
      (mid, before, mended, turned, runs, mend, silent, turn, follow, still)
