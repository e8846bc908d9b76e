use Rattle.std.proofs.Common.{◌≡◌, ◌+◌, List}
use Rattle.roam_session.specs.Sessions.{SessionSize, Entry}
use Rattle.roam_session.specs.Stands.{Stands}
use Rattle.roam_hub.proofs.Doing.{AreDone}
use Rattle.roam_hub.proofs.taking.take_acts.Given as goal

-- the acts so far are done, and counted
abbrev pub invariant-loop-act : goal.invariant-loop-act
invariant-loop-act l =
    record {
      taken : l.taken ≡ l.act-index;
      taker : l.taker ≡ l.fn.taker + l.act-index;
      done : (size : SessionSize) (log : List Entry) → Stands l.fn.session size log
          → AreDone size log l.client l.acts l.act-index l.session;
    }
