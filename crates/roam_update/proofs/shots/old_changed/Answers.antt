use Rattle.std.proofs.Common.{◌≡◌, Some, subst, sym, ap, ◌∙◌, rules}
use Rattle.std.specs.Prelude.{IsTrue}
use Rattle.roam_screens.specs.Lines.{cells_in_order}
use Rattle.roam_screens.specs.Narrow.{IsOldScreenshot}
use Rattle.roam_screens.specs.Screenshot.{Screenshot}
use Rattle.roam_update.specs.Tabled.{old_head_of_text}
use Rattle.roam_update.proofs.OldApplying.{not_whole, shown, is_screen}
use Rattle.roam_update.proofs.shots.old_changed.Goals as goal

pub returns-in_err-lines-clause-bad : goal.returns-in_err-lines-clause-bad
returns-in_err-lines-clause-bad c = λ e.
    let read : old_head_of_text c.args.text.now ≡ Some c.in-Some.head = sym c.read_old.ensures.head ∙ c.in-Some.is in
    not_whole c.args.base.now c.args.text.now c.in-Some.head read (c.in_err-lines.ensures.bad (search rules))

pub screen-requires-clause-screen : goal.screen-requires-clause-screen
screen-requires-clause-screen c =
    let h = c.in-Some.head in
    let read : old_head_of_text c.args.text.now ≡ Some h = sym c.read_old.ensures.head ∙ c.in-Some.is in
    let there : IsTrue c.is_place.result = search rules in
    let small : IsTrue c.is_old_size.result = search rules in
    let lines = c.in_ok-lines.ensures in
    (is_screen c.args.base.now c.args.text.now h read (cells_in_order c.in_ok-lines.lines.items) lines.ok c.requires.old (c.is_old_size.ensures.old.0 small)
    (c.is_place.ensures.place.0 there) lines.whole).screenshot

pub returns-clause-ok : goal.returns-clause-ok
returns-clause-ok c =
    let h = c.in-Some.head in
    let read : old_head_of_text c.args.text.now ≡ Some h = sym c.read_old.ensures.head ∙ c.in-Some.is in
    let there : IsTrue c.is_place.result = search rules in
    let small : IsTrue c.is_old_size.result = search rules in
    let lines = c.in_ok-lines.ensures in
    let cells = cells_in_order c.in_ok-lines.lines.items in
    let s = is_screen c.args.base.now c.args.text.now h read cells lines.ok c.requires.old (c.is_old_size.ensures.old.0 small) (c.is_place.ensures.place.0 there) lines.whole in
    shown c.args.base.now c.args.text.now h read cells lines.ok s ∙ ap (λ (x : Screenshot). Some x) (sym c.screen.ensures.screen)

pub returns-clause-shown : goal.returns-clause-shown
returns-clause-shown c =
    let h = c.in-Some.head in
    let read : old_head_of_text c.args.text.now ≡ Some h = sym c.read_old.ensures.head ∙ c.in-Some.is in
    let there : IsTrue c.is_place.result = search rules in
    let small : IsTrue c.is_old_size.result = search rules in
    let lines = c.in_ok-lines.ensures in
    subst IsOldScreenshot (sym c.screen.ensures.screen)
    (is_screen c.args.base.now c.args.text.now h read (cells_in_order c.in_ok-lines.lines.items) lines.ok c.requires.old (c.is_old_size.ensures.old.0 small)
    (c.is_place.ensures.place.0 there) lines.whole)
