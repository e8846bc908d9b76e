use Rattle.std.proofs.Common.{ap, ◌∙◌, arith}
use Rattle.roam_cells.specs.Inks.{InkValue}
use Rattle.roam_cells.specs.Aspects.{showing}
use Rattle.roam_cells.proofs.Aspected.{says_so}
use Rattle.roam_cells.proofs.inks.Ink.with_digits.Goals as goal

pub overflow_add-result : goal.overflow_add-result
overflow_add-result c =
    let e = c.requires.aspect in
    let says = says_so c.self.inside.number c.self.invariant c.args.mask c.args.digits e.0 e.1 e.2 e.3 in
    omega (arith, says.few)

pub invariant_of-result : goal.invariant_of-result
invariant_of-result c =
    let e = c.requires.aspect in
    (says_so c.self.inside.number c.self.invariant c.args.mask c.args.digits e.0 e.1 e.2 e.3).number

pub returns : goal.returns
returns c =
    record {
      shown = λ e h m d.
          (says_so c.self.inside.number c.self.invariant c.args.mask c.args.digits e h m d).value
          ∙ ap (λ (v : InkValue). record v { style = showing e v.style }) c.self.view_is;
    }
