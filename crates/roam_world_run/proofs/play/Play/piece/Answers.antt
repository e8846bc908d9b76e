use Rattle.std.proofs.Common.{◌≡◌, ◌+◌, ◌++◌, [], ◌∷◌, ◌⊎◌, inr, refl, take, drop, get_or, sym, subst, ap, arith}
use Rattle.std.proofs.KnownBytes.{Keeps-refl}
use Rattle.roam_faults.specs.declared.faults.RunFault.TheVariants as run
use Rattle.roam_world_run.specs.Scripts.{Stage, Stopped}
use Rattle.roam_faults.specs.Streams.{IsOneLine}
use Rattle.roam_world_run.specs.Scripts as script
use Rattle.roam_world_run.specs.Played.{Fails, IsAt, HasPlayed}
use Rattle.roam_world_run.proofs.Playing.{cut_at, fed_as, fed_byte, fed_line, fed_nothing, has_end, more_at, passed, stopped, stopped_at}
use Rattle.roam_world_run.proofs.play.Play.piece.Goals.{then-byte-eq10+in_ok-line, else-byte-eq10+in_ok-push}
use Rattle.roam_world_run.proofs.play.Play.piece.Goals as goal

pub loop-byte-init : goal.loop-byte-init
loop-byte-init g c = record {
  fed = λ stage at one. fed_nothing stage c.args.begun.now.items (g.W.Write.contents c.args.writer.now) c.args.self.now.world
      c.args.self.now.lines at one;
  most = omega arith;
}

pub returns-in_err-line-clause-stopped : goal.returns-in_err-line-clause-stopped
returns-in_err-line-clause-stopped g c =
    let fault = c.in_err-line.field-0.0 in
    let old = c.args.begun.now.items in
    let text = c.args.piece.now in
    let i = c.loop-byte.byte-index in
    let before = g.W.Write.contents c.args.writer.now in
    let between = g.W.Write.contents c.loop-byte.writer in
    let after = g.W.Write.contents c.line.new.writer in
    let begun = c.loop-byte.begun.items in
    passed c.from_residual.result fault
    (λ e. (stage : Stage) → IsAt c.args.self.now.world stage → IsOneLine old
    → (e ≡ run.Write) ⊎ Stopped stage (old ++ text) before after c.args.self.now.lines e)
    c.from_residual.ensures.1
    (λ stage at one.
    let f = c.loop-byte.invariant.fed stage at one in
    let fails = subst (λ t. Fails f.left (c.loop-byte.self.lines + 1) t between after fault) c.as_slice.ensures.value
    (c.in_err-line.ensures.fails f.left f.at) in
    subst (λ t. (fault ≡ run.Write) ⊎ Stopped stage (old ++ t) before after c.args.self.now.lines fault) (cut_at text i 10
    c.loop-byte-test.true c.if-byte-eq10.true)
    (stopped_at stage old (take i text) begun (10 ∷ drop (i + 1) text) before between c.loop-byte.self.world c.args.self.now.lines
    c.loop-byte.self.lines f after fault (has_end begun (drop (i + 1) text)) fails))

pub returns-in_err-push-clause-stopped : goal.returns-in_err-push-clause-stopped
returns-in_err-push-clause-stopped g c =
    let fault = run.Core c.in_err-push.field-0.0 in
    let old = c.args.begun.now.items in
    let text = c.args.piece.now in
    let i = c.loop-byte.byte-index in
    let byte = get_or text i 0 in
    let before = g.W.Write.contents c.args.writer.now in
    let between = g.W.Write.contents c.loop-byte.writer in
    let begun = c.loop-byte.begun.items in
    passed c.from_residual-in_err-push.result fault
    (λ e. (stage : Stage) → IsAt c.args.self.now.world stage → IsOneLine old
    → (e ≡ run.Write) ⊎ Stopped stage (old ++ text) before between c.args.self.now.lines e)
    c.from_residual-in_err-push.ensures.1
    (λ stage at one.
    let f = c.loop-byte.invariant.fed stage at one in
    subst (λ t. (fault ≡ run.Write) ⊎ Stopped stage (old ++ t) before between c.args.self.now.lines fault) (cut_at text i byte
    c.loop-byte-test.true refl)
    (inr (stopped stage old (take i text) begun (byte ∷ drop (i + 1) text) before between c.loop-byte.self.world c.args.self.now.lines
    c.loop-byte.self.lines f between fault (Keeps-refl between) (script.no_memory (ap run.Core c.in_err-push.ensures.fault)))))

pub loop-byte-preserved : goal.loop-byte-preserved
loop-byte-preserved g c =
    let text = c.args.piece.now in
    let i = c.loop-byte.byte-index in
    let byte = get_or text i 0 in
    let old = c.args.begun.now.items in
    let begun = c.loop-byte.begun.items in
    let before = g.W.Write.contents c.args.writer.now in
    let between = g.W.Write.contents c.loop-byte.writer in
    let n = c.args.self.now.lines in
    let counted = c.loop-byte.self.lines in
    elim c.if-byte-eq10.branch [
      | then-byte-eq10+in_ok-line w ↦
          rw (w.self-is, w.begun-is, w.writer-is) (record {
            fed = λ stage at one.
                let f = c.loop-byte.invariant.fed stage at one in
                let after = g.W.Write.contents w.line.new.writer in
                let told = subst (λ t. HasPlayed f.left t between after w.line.new.self.world) w.as_slice.ensures.value
                (w.in_ok-line.ensures.told f.left f.at) in
                fed_as stage old (take i text ++ 10 ∷ []) (take (i + 1) text) [] w.clear.new.self.items before after
                w.line.new.self.world n (counted + 1) w.line.new.self.lines
                (more_at text i 10 c.loop-byte-test.true w.if-byte-eq10.true) (sym w.clear.ensures.items) (sym w.in_ok-line.ensures.lines)
                (fed_line stage old (take i text) begun before between after c.loop-byte.self.world w.line.new.self.world n counted f told);
            most = omega (arith, w.in_ok-line.ensures.lines, c.loop-byte.invariant.most);
          })
      | else-byte-eq10+in_ok-push w ↦
          rw (w.self-is, w.begun-is, w.writer-is) (record {
            fed = λ stage at one.
                let f = c.loop-byte.invariant.fed stage at one in
                fed_as stage old (take i text ++ byte ∷ []) (take (i + 1) text) (begun ++ byte ∷ []) w.push.new.begun.items before
                between c.loop-byte.self.world n counted counted
                (more_at text i byte c.loop-byte-test.true refl) (sym w.in_ok-push.ensures.pushed) refl
                (fed_byte stage old (take i text) begun before between c.loop-byte.self.world n counted byte f w.if-byte-eq10.false);
            most = omega (arith, c.loop-byte.invariant.most);
          })
    ]
