use Rattle.std.proofs.Common.{sym, ap, ◌∙◌, arith}
use Rattle.roam_controls.specs.Aspects.{aspect_of}
use Rattle.roam_controls.proofs.Rows.{row_at, aspect-is, none-above}
use Rattle.roam_controls.proofs.renditions.with_aspect.Goals as goal

pub with_digits-requires : goal.with_digits-requires
with_digits-requires c =
    let row = row_at c.args.param c.if-param-lt108.true in
    record { aspect = (aspect_of c.args.param, row.aspect, c.mask_at.ensures.mask, c.digits_at.ensures.digits) }

pub returns-then-param-lt108 : goal.returns-then-param-lt108
returns-then-param-lt108 c =
    let row = row_at c.args.param c.if-param-lt108.true in
    record {
      set = c.with_digits.ensures.shown (aspect_of c.args.param) row.aspect c.mask_at.ensures.mask c.digits_at.ensures.digits
          ∙ ap (λ style. record c.args.ink { style = style }) (sym (aspect-is c.args.param c.args.ink.style));
    }

pub returns-else-param-lt108 : goal.returns-else-param-lt108
returns-else-param-lt108 c =
    record { set = ap (λ style. record c.args.ink { style = style }) (sym (none-above c.args.param c.args.ink.style (omega (arith, c.if-param-lt108.false)))) }
