use Rattle.std.proofs.Common.{refl, arith}
use Rattle.roam_cells.specs.Inks.{flags_of}
use Rattle.roam_cells.proofs.Digits.{ink_back}
use Rattle.roam_cells.proofs.inks.Ink.new.Goals as goal

pub returns : goal.returns
unfolding flags_of
returns c = record {
  ink = ink_back c.args.style c.args.guard _ _ _ _
      (omega (
        arith,
        c.digit.ensures.digit,
        c.digit-2.ensures.digit,
        c.digit-3.ensures.digit,
        c.digit-4.ensures.digit,
        c.digit-5.ensures.digit,
        c.digit-6.ensures.digit,
        c.digit-7.ensures.digit,
        c.digit-8.ensures.digit,
        c.digit-9.ensures.digit,
      )) c.number_of.ensures.back c.number_of-2.ensures.back refl
      (omega (
        arith,
        c.digit.ensures.one,
        c.digit-2.ensures.one,
        c.digit-3.ensures.one,
        c.digit-4.ensures.one,
        c.digit-5.ensures.one,
        c.digit-6.ensures.one,
        c.digit-7.ensures.one,
        c.digit-8.ensures.one,
        c.digit-9.ensures.one,
      )) c.number_of.ensures.few;
}
