-- Control sequences without a private marker and without intermediate bytes.
use Rattle.std.specs.Prelude.{◌≡◌, false, [], None}
use Rattle.roam_text.specs.declared.parsers.Phase.TheVariants.{InControlSequence}
use Rattle.roam_text.specs.declared.parsers.Parser.{Parser}

-- such a sequence has come but for its final byte, and it isn't ignored
pub record IsPlain (p : Parser) : Type 0 where
  pub phase : p.phase ≡ InControlSequence
  pub ignored : p.sequence.ignored ≡ false
  pub mark : p.sequence.mark ≡ None
  pub inter : p.sequence.inter.items ≡ []
