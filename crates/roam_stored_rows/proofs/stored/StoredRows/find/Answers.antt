use Rattle.std.proofs.Common.{rules, ◌≡◌, ◌<◌, ℕ, Bool, List, Option, length, sym, subst}
use Rattle.roam_stored_rows.specs.Finding.{IsFoundAt, IsNearestAt, is_folded, letters_in}
use Rattle.roam_stored_rows.proofs.Letters.{spelled-some}
use Rattle.roam_stored_rows.proofs.Numbers.{letters-some, none-empty, number}
use Rattle.roam_stored_rows.proofs.stored.StoredRows.find.Goals as goal

pub returns-then-is_empty-clause-found : goal.returns-then-is_empty-clause-found
returns-then-is_empty-clause-found c =
    none-empty c.args.self.now c.args.text.now c.args.low c.args.high (let e : length c.args.text.now ≡ 0 = search rules in e)

pub search-requires-clause-some : goal.search-requires-clause-some
search-requires-clause-some c =
    let some : 0 < length c.args.text.now = search rules in
    subst (λ (l : List ℕ). 0 < length l) (sym c.in_ok-sought.ensures.needle)
    (spelled-some (letters_in c.args.text.now) (letters-some c.args.text.now some))

pub returns-in-Some-clause-found : goal.returns-in-Some-clause-found
returns-in-Some-clause-found c =
    let text = letters_in c.args.text.now in
    let rows = c.self.inside.rows in
    let from = c.place_of-from.result in
    let to = c.place_of-to.result in
    let near : IsNearestAt c.args.way (is_folded text) text rows from to c.in-Some.at =
    subst (λ (b : Bool). IsNearestAt c.args.way b text rows from to c.in-Some.at) c.in_ok-sought.ensures.folded
    (subst (λ (o : Option ℕ). IsFoundAt c.args.way c.in_ok-sought.sought.folded text rows from to o) c.in-Some.is
    (c.in_ok-found.ensures.found text c.in_ok-sought.ensures.needle)) in
    number c.args.way c.args.self.now c.self.inside.first rows text c.args.low c.args.high from to
    c.in-Some.at c.self.view_is (search rules) (search rules) near
