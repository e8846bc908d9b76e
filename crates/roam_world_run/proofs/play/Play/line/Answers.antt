use Rattle.std.proofs.Common.{◌≡◌, true, false, ◌∙◌, sym, subst, string_bytes}
use Rattle.std.specs.Io.KnownBytes.{Appends}
use Rattle.roam_world_script.specs.Lines.{value_of}
use Rattle.roam_world_script.specs.Skipped.{is_skipped}
use Rattle.roam_world_run.specs.Scripts.{IsEvent}
use Rattle.roam_world_run.proofs.Asking.{ok_then}
use Rattle.roam_world_run.proofs.Playing.{fails_misplaced, fails_refused, told_said, told_skipped}
use Rattle.roam_world_run.proofs.play.Play.line.Goals as goal

pub returns-then-is_skipped-clause-told : goal.returns-then-is_skipped-clause-told
returns-then-is_skipped-clause-told g c = λ stage at.
    let is : is_skipped c.args.line.now ≡ true = sym c.is_skipped.ensures.skipped ∙ c.if-is_skipped.true in
    told_skipped stage c.args.line.now (g.W.Write.contents c.args.writer.now) c.args.self.now.world is at

pub returns-in_err-text-clause-fails : goal.returns-in_err-text-clause-fails
returns-in_err-text-clause-fails g c =
    let kept : is_skipped c.args.line.now ≡ false = sym c.is_skipped.ensures.skipped ∙ c.if-is_skipped.false in
    let event : IsEvent c.args.line.now (value_of c.in-Ok.line) = record {
      kept = kept;
      in_range = c.in-Ok.ensures.found.0;
      says =
          c.in-Ok.ensures.found.1;
    } in
    fails_refused c.from_residual.result c.args.self.now.world _ c.args.line.now (value_of c.in-Ok.line) (g.W.Write.contents
    c.args.writer.now) c.in_err-text.field-0.0 c.from_residual.ensures.1 event c.in_err-text.ensures.refused

pub returns-in-Some-clause-told : goal.returns-in-Some-clause-told
returns-in-Some-clause-told g c = ok_then c.tell.result c.tell.ensures.told (λ written stage at.
    let kept : is_skipped c.args.line.now ≡ false = sym c.is_skipped.ensures.skipped ∙ c.if-is_skipped.false in
    let event : IsEvent c.args.line.now (value_of c.in-Ok.line) = record {
      kept = kept;
      in_range = c.in-Ok.ensures.found.0;
      says =
          c.in-Ok.ensures.found.1;
    } in
    let answer = (rw c.in-Some.is at c.in_ok-text.ensures.answered) stage at in
    let told = subst (λ t. Appends (g.W.Write.contents c.args.writer.now) (g.W.Write.contents c.tell.new.writer) t)
    c.as_str.ensures.value written in
    told_said stage c.args.line.now (value_of c.in-Ok.line) (string_bytes c.in-Some.text) (g.W.Write.contents c.args.writer.now)
    (g.W.Write.contents c.tell.new.writer) c.answer.new.world event answer told)

pub returns-in-None-clause-fails : goal.returns-in-None-clause-fails
returns-in-None-clause-fails g c = λ stage at.
    let kept : is_skipped c.args.line.now ≡ false = sym c.is_skipped.ensures.skipped ∙ c.if-is_skipped.false in
    let event : IsEvent c.args.line.now (value_of c.in-Ok.line) = record {
      kept = kept;
      in_range = c.in-Ok.ensures.found.0;
      says =
          c.in-Ok.ensures.found.1;
    } in
    let out = (rw c.in-None.is at c.in_ok-text.ensures.misplaced) stage at in
    fails_misplaced stage _ c.args.line.now (value_of c.in-Ok.line) (g.W.Write.contents c.args.writer.now) event out
