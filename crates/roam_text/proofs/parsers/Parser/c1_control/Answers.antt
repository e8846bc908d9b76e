use Rattle.std.proofs.Common.{◌∙◌, ap, sym}
use Rattle.roam_text.specs.EscapeSequences.{c1_control}
use Rattle.roam_text.specs.Residual.{all_of}
use Rattle.roam_text.proofs.Entries.{control_sequence-entry}
use Rattle.roam_text.proofs.parsers.Parser.c1_control.Goals as goal

pub returns-in-SequenceIntroducer : goal.returns-in-SequenceIntroducer
returns-in-SequenceIntroducer c = record {
  given = λ rest. ap (λ k. all_of (c1_control k rest)) c.in-SequenceIntroducer.is ∙ control_sequence-entry rest
      ∙ sym (c.begin_control_sequence.ensures.given rest);
}
