-- Readers between characters and between sequences.
use Rattle.std.proofs.Common.{◌++◌, sym, ap, ◌∙◌}
use Rattle.roam_text.specs.Functions.{functions}
use Rattle.roam_text.specs.Log.{signs}
use Rattle.roam_text.specs.Residual.{given_in}
use Rattle.roam_paint.specs.Ground.{ReaderRests}

pub reader_rests : ReaderRests
reader_rests reader log stands rest = record {
  whole = sym stands.pending ∙ rest.1;
  to_come = λ more. stands.to_come more ∙ ap (λ k. functions (signs log) ++ given_in k reader.parser.sequence more) rest.0;
}
