use Rattle.std.proofs.Common.{◌≡◌, ◌<◌, ◌^◌, None, ◌∙◌, sym, ap, rules, arith}
use Rattle.roam_tokens.specs.Numbers.{number_in}
use Rattle.roam_tokens.proofs.Spelled.{no_parse, no_text}
use Rattle.roam_tokens.proofs.numbers.number.Goals as goal

pub returns-in_err-text-clause-number : goal.returns-in_err-text-clause-number
returns-in_err-text-clause-number c =
    let small : c.args.most < 2 ^ 64 = omega arith in
    c.from_residual.ensures ∙ sym (no_text c.args.most c.args.text.now c.from_utf8.result _ _ small c.in_err-text.ensures.value
    c.from_utf8.ensures.cases)

pub returns-in_err-number-clause-number : goal.returns-in_err-number-clause-number
returns-in_err-number-clause-number c =
    let small : c.args.most < 2 ^ 64 = omega arith in
    let same : c.in_ok-text.text.now ≡ c.args.text.now = search rules in
    let none : number_in c.args.most c.in_ok-text.text.now ≡ None = no_parse c.args.most c.in_ok-text.text.now c.parse.result small
    c.in_err-number.ensures.value c.parse.ensures.value.0 in
    c.from_residual-in_err-number.ensures ∙ sym none ∙ ap (number_in c.args.most) same
