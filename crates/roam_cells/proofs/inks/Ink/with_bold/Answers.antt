use Rattle.std.proofs.Common.{◌+◌, ◌-◌, ◌*◌, ◌/◌, ◌%◌, refl, ap, ◌∙◌, arith}
use Rattle.roam_cells.specs.Inks.{InkValue, digit_back, digits_back, flags_of, ink_numbered, style_of}
use Rattle.roam_cells.proofs.Digits.{ink_back}
use Rattle.roam_cells.proofs.inks.Ink.with_bold.Goals as goal

pub returns : goal.returns
unfolding flags_of ink_numbered style_of
returns c =
    let n = c.self.inside.number in
    let was = ink_numbered n in
    let digits = n % 512 - 2 * (n / 2 % 2) + 2 * c.digit.result in
    record {
      ink = ink_back (record was.style { bold = c.args.on }) was.guarded digits (n / 512 % 33554432) (n / 512 / 33554432) _
          (omega (arith, c.digit.ensures.digit, digits_back n, digit_back (n % 512 / 2))) refl refl
          (omega (arith, c.digit.ensures.one)) (omega (arith, c.digit.ensures.one)) c.self.invariant.foreground
          ∙ ap (λ (v : InkValue). record v { style = record v.style { bold = c.args.on } }) c.self.view_is;
    }
