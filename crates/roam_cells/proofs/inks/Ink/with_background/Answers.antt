use Rattle.std.proofs.Common.{◌/◌, ◌%◌, refl, sym, ap, ◌∙◌, arith}
use Rattle.roam_cells.specs.Inks.{InkValue, digits_back, flags_of, ink_numbered, style_of}
use Rattle.roam_cells.proofs.Digits.{ink_back}
use Rattle.roam_cells.proofs.inks.Ink.with_background.Goals as goal

pub returns : goal.returns
unfolding flags_of ink_numbered style_of
returns c =
    let n = c.self.inside.number in
    let was = ink_numbered n in
    record {
      ink = ink_back (record was.style { background = c.args.colour }) was.guarded (n % 512) (n / 512 % 33554432) c.number_of.result _
          (sym (digits_back n)) refl c.number_of.ensures.back (omega arith) (omega arith) c.self.invariant.foreground
          ∙ ap (λ (v : InkValue). record v { style = record v.style { background = c.args.colour } }) c.self.view_is;
    }
