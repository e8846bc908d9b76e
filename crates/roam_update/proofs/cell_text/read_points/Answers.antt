use Rattle.std.proofs.Common.{◌≡◌, drop, Some, None, sym, ◌∙◌, ap, arith, rules}
use Rattle.std.proofs.lemmas.List.{take_rest}
use Rattle.roam_update.specs.CellText.{point_read}
use Rattle.roam_update.proofs.Putting.{second_none, third_none, three, three_long}
use Rattle.roam_update.proofs.cell_text.read_points.Goals as goal

pub returns-in_err-second-clause-cell : goal.returns-in_err-second-clause-cell
returns-in_err-second-clause-cell c =
    let text = c.args.text.now in
    let e : point_read text ≡ Some c.in_ok-first.first = sym c.read_point.ensures.point ∙ c.in_ok-first.was in
    let f : point_read (drop 4 text) ≡ None = ap point_read (sym (take_rest text 4)) ∙ sym c.read_point-2.ensures.point ∙ c.in_err-second.was in
    let none : c.from_residual-in_err-second.result ≡ None = search rules in
    none ∙ second_none c.args.count text c.in_ok-first.first c.args.style (omega arith) e f

pub returns-in_err-third-clause-cell : goal.returns-in_err-third-clause-cell
returns-in_err-third-clause-cell c =
    let text = c.args.text.now in
    let e : point_read text ≡ Some c.in_ok-first.first = sym c.read_point.ensures.point ∙ c.in_ok-first.was in
    let f : point_read (drop 4 text) ≡ Some c.in_ok-second.second = ap point_read (sym (take_rest text 4)) ∙ sym c.read_point-2.ensures.point ∙ c.in_ok-second.was in
    let g : point_read (drop 8 text) ≡ None = ap point_read (sym (take_rest text 8)) ∙ sym c.read_point-3.ensures.point ∙ c.in_err-third.was in
    let none : c.from_residual-in_err-third.result ≡ None = search rules in
    none ∙ third_none c.args.count text c.in_ok-first.first c.in_ok-second.second c.args.style (omega arith) e f g

pub returns-clause-cell : goal.returns-clause-cell
returns-clause-cell c =
    let text = c.args.text.now in
    let e : point_read text ≡ Some c.in_ok-first.first = sym c.read_point.ensures.point ∙ c.in_ok-first.was in
    let f : point_read (drop 4 text) ≡ Some c.in_ok-second.second = ap point_read (sym (take_rest text 4)) ∙ sym c.read_point-2.ensures.point ∙ c.in_ok-second.was in
    let g : point_read (drop 8 text) ≡ Some c.in_ok-third.third = ap point_read (sym (take_rest text 8)) ∙ sym c.read_point-3.ensures.point ∙ c.in_ok-third.was in
    c.of-2.ensures.cell ∙ three c.args.count text c.in_ok-first.first c.in_ok-second.second c.in_ok-third.third c.args.style c.requires.style (omega arith) e f g

pub returns-clause-long : goal.returns-clause-long
returns-clause-long c =
    let text = c.args.text.now in
    let g : point_read (drop 8 text) ≡ Some c.in_ok-third.third = ap point_read (sym (take_rest text 8)) ∙ sym c.read_point-3.ensures.point ∙ c.in_ok-third.was in
    three_long c.of-2.result text c.args.count c.in_ok-third.third (omega arith) g
