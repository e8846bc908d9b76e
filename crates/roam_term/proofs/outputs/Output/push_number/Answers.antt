use Rattle.std.proofs.Common.{◌≡◌, ◌++◌, ◌∙◌, length, ap, arith, length-append, decimal}
use Rattle.std.proofs.lemmas.Fmt.{length-decimal-le}
use Rattle.roam_term.proofs.outputs.Output.push_number.Goals as goal

pub returns-clause-short : goal.returns-clause-short
returns-clause-short c small =
    let e : c.push.new.self ≡ c.args.self.now ++ decimal c.args.n = c.push.ensures.waiting ∙ ap (λ l. c.args.self.now ++ l) (c.as_bytes.ensures.value ∙ c.format.ensures.text) in
    omega (arith, ap length e, length-append c.args.self.now (decimal c.args.n), length-decimal-le 3 c.args.n (omega arith) small (omega arith))
