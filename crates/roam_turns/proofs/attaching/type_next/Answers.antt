use Rattle.std.proofs.Common.{refl, [], ◌∷◌, false}
use Rattle.std.specs.Option.{option_copied}
use Rattle.roam_turns.specs.Calls.ClientCall.{Typed}
use Rattle.roam_turns.specs.Parts.Call.{Core}
use Rattle.roam_turns.specs.Turns.{Types}
use Rattle.roam_turns.proofs.Making.{Just, makes_none, makes_core, makes_as}
use Rattle.roam_turns.proofs.Starts.{follows_none}
use Rattle.roam_turns.proofs.attaching.type_next.Goals as goal

pub returns-in-None-clause-types : goal.returns-in-None-clause-types
returns-in-None-clause-types g c told =
    makes_as g.C.ClientCore.step (Just []) (Types (option_copied c.args.next) false) (makes_none g.C.ClientCore.step)
    (λ xs e. rw c.in-None.is (refl, e))

pub returns-in-None-clause-follows : goal.returns-in-None-clause-follows
returns-in-None-clause-follows g c = follows_none _ _

pub returns-in-Some-clause-types : goal.returns-in-Some-clause-types
returns-in-Some-clause-types g c told =
    let step = g.C.ClientCore.step in
    let call = Typed c.in-Some.act.now c.typed.result in
    makes_as step (Just (Core call ∷ [])) (Types (option_copied c.args.next) c.is_ok.result)
    (makes_core step [] call (makes_none step) c.typed.ensures.tells c.typed.ensures.step)
    (λ xs e. rw c.in-Some.is (c.typed.result, c.is_ok.ensures.value, e))
