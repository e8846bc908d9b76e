use Rattle.std.proofs.Common.{◌≡◌, IfOk, ◌+◌, ◌-◌, length, take, drop, sym, ap, ◌∙◌, subst}
use Rattle.roam_normalize.specs.Normalized.{Goes, behind, normalized}
use Rattle.roam_normalize.proofs.Going.{run-within}
use Rattle.roam_normalize.proofs.Translating.{run-on, all-read, rest-held, front-on}
use Rattle.roam_normalize.proofs.filters.translate.Goals as goal

pub returns-then-taken-eq0-clause-out : goal.returns-then-taken-eq0-clause-out
returns-then-taken-eq0-clause-out c =
    let bytes = c.args.bytes.now in
    let at = c.loop-at.at in
    let same = c.same_run-same.result in
    let so_far = run-on bytes at c.loop-at.out.items c.loop-at.invariant.1 same c.same_run-same.ensures.same
    ∙ ap (λ l. behind l (normalized (drop (at + same) bytes))) (sym c.in_ok-extend_from_slice.ensures.items) in
    subst (λ l. IfOk c.ended.result (λ t. t.out.items ≡ l))
    (rest-held bytes (at + same) c.extend_from_slice.new.self.items so_far c.push_front.new.out.items
    (subst (λ n. Goes n (take (length bytes - (at + same)) (drop (at + same) bytes)) c.extend_from_slice.new.self.items c.push_front.new.out.items)
    c.if-taken-eq0.true c.in_ok-taken.ensures.front)).0 c.ended.ensures.out

pub returns-then-taken-eq0-clause-held : goal.returns-then-taken-eq0-clause-held
returns-then-taken-eq0-clause-held c =
    let bytes = c.args.bytes.now in
    let at = c.loop-at.at in
    let same = c.same_run-same.result in
    let so_far = run-on bytes at c.loop-at.out.items c.loop-at.invariant.1 same c.same_run-same.ensures.same
    ∙ ap (λ l. behind l (normalized (drop (at + same) bytes))) (sym c.in_ok-extend_from_slice.ensures.items) in
    subst (λ l. IfOk c.ended.result (λ t. t.held.items ≡ l))
    (rest-held bytes (at + same) c.extend_from_slice.new.self.items so_far c.push_front.new.out.items
    (subst (λ n. Goes n (take (length bytes - (at + same)) (drop (at + same) bytes)) c.extend_from_slice.new.self.items c.push_front.new.out.items)
    c.if-taken-eq0.true c.in_ok-taken.ensures.front)).1 c.ended.ensures.held

pub loop-at-preserved : goal.loop-at-preserved
loop-at-preserved c =
    let bytes = c.args.bytes.now in
    let at = c.loop-at.at in
    let same = c.same_run-same.result in
    let so_far = run-on bytes at c.loop-at.out.items c.loop-at.invariant.1 same c.same_run-same.ensures.same
    ∙ ap (λ l. behind l (normalized (drop (at + same) bytes))) (sym c.in_ok-extend_from_slice.ensures.items) in (
      run-within bytes (at + same) c.in_ok-taken.taken (run-within bytes at same c.loop-at.invariant.0 c.same_run-same.ensures.within) c.in_ok-taken.ensures.within,
      front-on bytes (at + same) c.extend_from_slice.new.self.items so_far c.in_ok-taken.taken c.push_front.new.out.items c.if-taken-eq0.false c.in_ok-taken.ensures.front,
    )

pub returns-clause-out : goal.returns-clause-out
returns-clause-out c =
    subst (λ l. IfOk c.ended-2.result (λ t. t.out.items ≡ l))
    (all-read c.args.bytes.now c.loop-at.at c.loop-at.out.items c.loop-at.invariant.1 c.loop-at-test.false).0 c.ended-2.ensures.out

pub returns-clause-held : goal.returns-clause-held
returns-clause-held c =
    subst (λ l. IfOk c.ended-2.result (λ t. t.held.items ≡ l))
    (all-read c.args.bytes.now c.loop-at.at c.loop-at.out.items c.loop-at.invariant.1 c.loop-at-test.false).1 c.ended-2.ensures.held
