use Rattle.std.proofs.Common.{◌≡◌, Some, sym, ap, ◌∙◌, rules}
use Rattle.std.specs.Prelude.{IsTrue}
use Rattle.roam_screens.specs.Lines.{cells_in_order}
use Rattle.roam_screens.specs.Screenshot.{Screenshot}
use Rattle.roam_update.specs.Tabled.{head_of_text}
use Rattle.roam_update.proofs.Applying.{not_whole, has_start, shown, is_screen}
use Rattle.roam_update.proofs.shots.changed.Goals as goal

pub returns-in_err-lines-clause-bad : goal.returns-in_err-lines-clause-bad
returns-in_err-lines-clause-bad c = λ e.
    let read : head_of_text c.args.text.now ≡ Some c.in-Some.head = sym c.read.ensures.head ∙ c.in-Some.is in
    not_whole c.args.base.now c.args.text.now c.in-Some.head read (c.in_err-lines.ensures.bad (search rules))

pub returns-in_err-lines-clause-memory : goal.returns-in_err-lines-clause-memory
returns-in_err-lines-clause-memory c = λ e.
    let read : head_of_text c.args.text.now ≡ Some c.in-Some.head = sym c.read.ensures.head ∙ c.in-Some.is in
    let there : IsTrue c.is_place.result = search rules in
    has_start c.args.base.now c.args.text.now c.in-Some.head read (c.is_place.ensures.place.0 there) (c.in_err-lines.ensures.memory (search rules))

pub screen-requires-clause-screen : goal.screen-requires-clause-screen
screen-requires-clause-screen c =
    let h = c.in-Some.head in
    let read : head_of_text c.args.text.now ≡ Some h = sym c.read.ensures.head ∙ c.in-Some.is in
    let there : IsTrue c.is_place.result = search rules in
    let lines = c.in_ok-lines.ensures in
    is_screen c.args.base.now c.args.text.now h read (cells_in_order c.in_ok-lines.lines.items) lines.ok c.facts.ensures.screenshot (c.is_place.ensures.place.0 there) lines.whole

pub returns-clause-ok : goal.returns-clause-ok
returns-clause-ok c =
    let h = c.in-Some.head in
    let read : head_of_text c.args.text.now ≡ Some h = sym c.read.ensures.head ∙ c.in-Some.is in
    let there : IsTrue c.is_place.result = search rules in
    let lines = c.in_ok-lines.ensures in
    let cells = cells_in_order c.in_ok-lines.lines.items in
    let s = is_screen c.args.base.now c.args.text.now h read cells lines.ok c.facts.ensures.screenshot (c.is_place.ensures.place.0 there) lines.whole in
    shown c.args.base.now c.args.text.now h read cells lines.ok s ∙ ap (λ (x : Screenshot). Some x) (sym c.screen.ensures.screen)
