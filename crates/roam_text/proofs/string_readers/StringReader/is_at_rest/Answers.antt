use Rattle.std.proofs.Common.{sym, ap, ◌∙◌}
use Rattle.roam_text.specs.StringPhases.{StringView}
use Rattle.roam_text.proofs.Bytes.{true≢false}
use Rattle.roam_text.proofs.Empty.{empty-is}
use Rattle.roam_text.proofs.StringLogs.{rests}
use Rattle.roam_text.proofs.string_readers.StringReader.is_at_rest.Goals as goal
use Rattle.roam_text.proofs.string_readers.StringReader.is_at_rest.Goals.{in-Ground, in_default}

pub returns-then-matches : goal.returns-then-matches
returns-then-matches c = record {
  rests = λ is log follows.
      let empty = sym (ap (λ (v : StringView). v.pending) c.self.view_is) ∙ empty-is c.self.inside.decoder.pending.items (sym is ∙ c.is_empty.ensures) in
      rests c.args.self.now empty (elim c.match-matches.branch [ in-Ground w ↦ sym (ap (λ (v : StringView). v.phase) c.self.view_is) ∙ w.in-Ground.is | in_default w ↦ absurd (true≢false (sym c.if-matches.true ∙ w.matches-is)) ]) log follows;
}
