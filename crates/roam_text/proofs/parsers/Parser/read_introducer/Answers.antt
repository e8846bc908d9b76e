use Rattle.std.proofs.Common.{◌∷◌, sym, ap, ◌∙◌}
use Rattle.roam_text.specs.Log.{character}
use Rattle.roam_text.specs.Functions.{functions}
use Rattle.roam_text.specs.Residual.{given_in}
use Rattle.roam_text.specs.declared.parsers.Phase.TheVariants.{InEscapeSequence}
use Rattle.roam_text.proofs.Entries.{functions-escape_sequence, introducer-entry}
use Rattle.roam_text.proofs.Empty.{empty-is}
use Rattle.roam_text.proofs.parsers.Parser.read_introducer.Goals as goal

pub returns-else-byte-ne27-clause-read : goal.returns-else-byte-ne27-clause-read
returns-else-byte-ne27-clause-read c done rest =
    let p = c.args.self.now in
    ap (λ phase. given_in phase p.sequence (character c.args.byte ∷ rest)) c.in-Ground.is
    ∙ ap (λ b. functions (character b ∷ rest)) c.if-byte-ne27.false
    ∙ functions-escape_sequence 0x1B rest ∙ sym (c.begin_escape_sequence.ensures.given rest)

pub returns-else-not-is_empty-clause-read : goal.returns-else-not-is_empty-clause-read
returns-else-not-is_empty-clause-read c done rest =
    let p = c.args.self.now in
    ap (λ phase. given_in phase p.sequence (character c.args.byte ∷ rest)) c.in-InEscapeSequence.is
    ∙ ap (λ b. given_in InEscapeSequence p.sequence (character b ∷ rest)) c.if-byte-ne91.false
    ∙ introducer-entry p.sequence rest c.if-self.false (empty-is p.sequence.inter.items (c.if-not-is_empty.ensures)) ∙ sym (c.begin_control_sequence.ensures.given rest)
