use Rattle.std.proofs.Common.{◌≡◌, None, ◌∙◌, sym, ap, rules}
use Rattle.roam_acts.specs.Reading.{integer_in}
use Rattle.roam_acts.proofs.Numbers.{no_parse, no_text}
use Rattle.roam_acts.proofs.lines.number.Goals as goal

pub returns-in_err-text : goal.returns-in_err-text
returns-in_err-text c = record {
  number = c.from_residual.ensures ∙ sym (no_text c.args.text.now c.from_utf8.result _ _ c.in_err-text.ensures.value c.from_utf8.ensures.cases);
}

pub returns-in_err-number : goal.returns-in_err-number
returns-in_err-number c =
    let same : c.in_ok-text.text.now ≡ c.args.text.now = search rules in
    let none : integer_in c.in_ok-text.text.now ≡ None = no_parse c.in_ok-text.text.now c.parse.result c.in_err-number.ensures.value c.parse.ensures.value.0 in
    record { number = c.from_residual-in_err-number.ensures ∙ sym none ∙ ap integer_in same }
