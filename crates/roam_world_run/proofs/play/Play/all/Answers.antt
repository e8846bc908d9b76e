use Rattle.std.proofs.Common.{◌≡◌, ◌+◌, ◌++◌, [], List, ℕ, ◌⊎◌, take, inr, refl, sym, subst, arith}
use Rattle.std.proofs.lemmas.List.{length-take}
use Rattle.std.specs.Io.KnownBytes.{Consumes}
use Rattle.std.proofs.KnownBytes.{Consumes-nil, Consumes-trans, Consumes-kept}
use Rattle.roam_faults.specs.declared.faults.RunFault.TheVariants as run
use Rattle.roam_world_run.specs.Scripts.{Before, Stopped}
use Rattle.roam_world_run.specs.Played.{Fails, HasPlayed}
use Rattle.roam_world_run.proofs.Asking.{ok_then}
use Rattle.roam_world_run.proofs.Playing.{consumes_nothing, fed_as, fed_more, fed_nothing, if_err_then, no_bytes, passed, prints_all, stopped_in, stopped_last, stopped_unread, with_log}
use Rattle.roam_world_run.proofs.play.Play.all.Goals as goal

pub loop-init : goal.loop-init
loop-init g c = (
  [],
  Consumes-nil _,
  fed_as Before [] [] [] [] c.new-begun.result.items (g.W.Write.contents c.args.writer.now) (g.W.Write.contents c.args.writer.now) _ 0 0
      _ refl (sym c.new-begun.ensures.items) (sym c.requires.none)
      (fed_nothing Before [] (g.W.Write.contents c.args.writer.now) _ 0 c.requires.before no_bytes),
  omega (arith, c.requires.none),
)

pub returns-in_default-clause-stopped : goal.returns-in_default-clause-stopped
returns-in_default-clause-stopped g c =
    let log = c.loop.invariant.0 in
    inr (
      log,
      Consumes-kept _ _ _ log c.loop.invariant.1 c.in_default.ensures.bytes,
      stopped_unread log c.loop.begun.items (g.W.Write.contents c.args.writer.now) (g.W.Write.contents c.loop.writer) c.loop.self.world
          c.loop.self.lines c.loop.invariant.2,
    )

pub returns-then-count-eq0-clause-played : goal.returns-then-count-eq0-clause-played
returns-then-count-eq0-clause-played g c = ok_then c.line.result c.line.ensures.told (λ told.
    let log = c.loop.invariant.0 in
    let f = c.loop.invariant.2 in
    let between = g.W.Write.contents c.loop.writer in
    let after = g.W.Write.contents c.line.new.writer in
    let line = subst (λ t. HasPlayed f.left t between after c.line.new.self.world) c.as_slice.ensures.value (told f.left f.at) in (
      log,
      consumes_nothing _ _ _ log c.read.new.buf c.in-Ok.count c.if-count-eq0.true c.loop.invariant.1 c.in-Ok.ensures.bytes.0,
      c.in-Ok.ensures.bytes.1 c.if-count-eq0.true (omega (arith, c.read.auto.buf)),
      prints_all log c.loop.begun.items (g.W.Write.contents c.args.writer.now) between c.loop.self.world c.loop.self.lines f after
          c.line.new.self.world line,
    ))

pub returns-then-count-eq0-clause-stopped : goal.returns-then-count-eq0-clause-stopped
returns-then-count-eq0-clause-stopped g c =
    let log = c.loop.invariant.0 in
    let f = c.loop.invariant.2 in
    let before = g.W.Write.contents c.args.writer.now in
    let between = g.W.Write.contents c.loop.writer in
    let after = g.W.Write.contents c.line.new.writer in
    let read = consumes_nothing _ _ _ log c.read.new.buf c.in-Ok.count c.if-count-eq0.true c.loop.invariant.1 c.in-Ok.ensures.bytes.0 in
    if_err_then c.line.result _ _ c.line.ensures.fails (λ e h.
    let fails = subst (λ t. Fails f.left (c.loop.self.lines + 1) t between after e) c.as_slice.ensures.value (h f.left f.at) in
    with_log log _ _ before after e read (stopped_last log c.loop.begun.items before between c.loop.self.world c.loop.self.lines f after
    e fails))

pub returns-in_err-piece-clause-stopped : goal.returns-in_err-piece-clause-stopped
returns-in_err-piece-clause-stopped g c =
    let log = c.loop.invariant.0 in
    let f = c.loop.invariant.2 in
    let before = g.W.Write.contents c.args.writer.now in
    let between = g.W.Write.contents c.loop.writer in
    let after = g.W.Write.contents c.piece.new.writer in
    let bytes = take c.in-Ok.count c.read.new.buf in
    let read = Consumes-trans _ _ _ log bytes c.loop.invariant.1 c.in-Ok.ensures.bytes.0 in
    let fault = c.in_err-piece.field-0.0 in
    let stops = c.in_err-piece.ensures.stopped f.left f.at f.are.last in
    passed c.from_residual.result fault
    (λ e. (e ≡ run.Write) ⊎ ((x : List ℕ) × Consumes (g.R.Read.remaining c.args.reader.now) (g.R.Read.remaining c.read.new.self) x ×
    Stopped Before x before after 0 e))
    c.from_residual.ensures.1
    (stopped_in log c.loop.begun.items before between c.loop.self.world c.loop.self.lines f bytes after (g.R.Read.remaining
    c.args.reader.now) (g.R.Read.remaining c.read.new.self) fault stops read)

pub loop-preserved : goal.loop-preserved
loop-preserved g c =
    let log = c.loop.invariant.0 in
    let f = c.loop.invariant.2 in
    let before = g.W.Write.contents c.args.writer.now in
    let between = g.W.Write.contents c.loop.writer in
    let after = g.W.Write.contents c.piece.new.writer in
    let bytes = take c.in-Ok.count c.read.new.buf in
    let fed = c.in_ok-piece.ensures.fed f.left f.at f.are.last in (
      log ++ bytes,
      Consumes-trans _ _ _ log bytes c.loop.invariant.1 c.in-Ok.ensures.bytes.0,
      fed_more Before log c.loop.begun.items bytes c.piece.new.begun.items before between after c.loop.self.world c.piece.new.self.world
          0 c.loop.self.lines c.piece.new.self.lines f fed,
      omega (arith, c.in_ok-piece.ensures.most, c.loop.invariant.3, length-take c.in-Ok.count c.read.new.buf, c.read.auto.buf),
    )
