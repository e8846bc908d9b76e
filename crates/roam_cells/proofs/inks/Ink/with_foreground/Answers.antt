use Rattle.std.proofs.Common.{◌/◌, ◌%◌, refl, sym, ap, ◌∙◌, arith}
use Rattle.roam_cells.specs.Inks.{InkValue, digits_back, flags_of, ink_numbered, style_of}
use Rattle.roam_cells.proofs.Digits.{ink_back}
use Rattle.roam_cells.proofs.inks.Ink.with_foreground.Goals as goal

pub returns : goal.returns
unfolding flags_of ink_numbered style_of
returns c =
    let n = c.self.inside.number in
    let was = ink_numbered n in
    record {
      ink = ink_back (record was.style { foreground = c.args.colour }) was.guarded (n % 512) c.number_of.result (n / 512 / 33554432) _
          (sym (digits_back n)) c.number_of.ensures.back refl (omega arith) (omega arith) c.number_of.ensures.few
          ∙ ap (λ (v : InkValue). record v { style = record v.style { foreground = c.args.colour } }) c.self.view_is;
    }
