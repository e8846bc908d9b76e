use Rattle.std.proofs.Common.{refl, inr, rules, ◌≡◌, None, Some}
use Rattle.roam_world_script.specs.Reading.{slot_in}
use Rattle.roam_world_script.proofs.Telling.{typed_found, typed_no_act, typed_no_slot, typed_no_word}
use Rattle.roam_world_script.proofs.lines.typed.Goals as goal

pub returns-in_default-clause-read : goal.returns-in_default-clause-read
returns-in_default-clause-read c = inr (refl, typed_no_word c.args.text.now c.in_default.ensures.word)

pub returns-in_default-slot-clause-read : goal.returns-in_default-slot-clause-read
returns-in_default-slot-clause-read c =
    let none : slot_in c.in-Some.first.now ≡ None = search rules in
    inr (refl, typed_no_slot c.args.text.now (c.in-Some.first.now, c.in-Some.rest.now) c.in-Some.ensures.word none)

pub returns-in-Ok-clause-read : goal.returns-in-Ok-clause-read
returns-in-Ok-clause-read c =
    let slot : slot_in c.in-Some.first.now ≡ Some c.in-Some-slot.slot = search rules in
    typed_found c.args.text.now (c.in-Some.first.now, c.in-Some.rest.now) c.in-Some-slot.slot c.in-Ok.act c.in-Some.ensures.word
    slot c.in-Ok.ensures.found.0 c.in-Ok.ensures.found.1

pub returns-in-Err-clause-read : goal.returns-in-Err-clause-read
returns-in-Err-clause-read c = inr (
  refl,
  typed_no_act c.args.text.now (c.in-Some.first.now, c.in-Some.rest.now) c.in-Some.ensures.word (λ act is spells. let
      ok = c.in-Err.ensures.only act is spells in absurd cc),
)
