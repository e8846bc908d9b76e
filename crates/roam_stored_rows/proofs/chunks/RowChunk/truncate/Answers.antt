use Rattle.std.proofs.Common.{◌≡◌, ◌≤◌, arith, take, subst, ◌∙◌, List}
use Rattle.std.proofs.lemmas.List.{take-map}
use Rattle.std.specs.List.{All}
use Rattle.roam_stored_rows.specs.Chunks.{IsPlaceOf}
use Rattle.roam_stored_rows.specs.declared.chunks.Place.{Place}
use Rattle.roam_stored_rows.proofs.Placing.{rows-take, all-take}
use Rattle.roam_stored_rows.proofs.chunks.RowChunk.truncate.Goals as goal

pub returns : goal.returns
returns c =
    let text = c.self.inside.text.items in
    let places = c.self.inside.places.items in
    let count = c.args.count in
    let end = c.end_of-end.result in
    let rest : c.truncate.new.self.items ≡ take count places = c.truncate.ensures.items in
    let within : All (IsPlaceOf text) (take count places) = all-take (IsPlaceOf text) count places c.self.invariant in
    let below : All (λ (p : Place). p.end ≤ end) (take count places) =
    subst (λ (l : List Place). All (λ (p : Place). p.end ≤ end) l) (c.deref.ensures.value ∙ rest) c.end_of-end.ensures.last in
    let same = rows-take text end (take count places) within below in
    record { first = grind (arith, same, rest, c.truncate-2.ensures.items, c.self.view_is, take-map) }
