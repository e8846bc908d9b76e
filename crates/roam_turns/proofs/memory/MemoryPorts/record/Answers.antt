use Rattle.std.proofs.Common.{◌≡◌, ◌∷◌, ◌++◌, [], rules, inr, subst, sym, true}
use Rattle.std.specs.Prelude.{◌≤◌, ◌⊎◌, IfOk, is_err, vec_capacity, vec_len}
use Rattle.roam_turns.proofs.Losing.{lost}
use Rattle.roam_turns.proofs.memory.MemoryPorts.record.Goals as goal

pub returns-then-is_err-clause-room : goal.returns-then-is_err-clause-room
returns-then-is_err-clause-room c =
    let old = c.args.self.now.told in
    let failed : is_err c.push.result ≡ true = search rules in
    subst (λ call. IfOk call (λ it. (c.push.new.self.items ≡ old.items ++ it ∷ [])
    ⊎ ((c.push.new.self.items ≡ old.items) × (vec_capacity old ≤ vec_len old)))) (sym c.in-Ok.is)
    (inr (lost c.push.result c.push.new.self.items _ old.items _ c.push.ensures.items c.push.ensures.full failed))
