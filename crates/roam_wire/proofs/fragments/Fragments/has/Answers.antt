use Rattle.std.proofs.Common.{◌≡◌, ◌<◌, ap, length, get_or, None, sym, ◌∙◌, arith, List, Option, ℕ, Vec}
use Rattle.std.specs.declared.alloc.Global.{Global}
use Rattle.std.specs.Prelude.{is_some}
use Rattle.roam_wire.specs.Fragments.{seen, seen_fragment}
use Rattle.roam_wire.proofs.Places.{length-seen, get_seen, is_some-seen}
use Rattle.roam_wire.proofs.fragments.Fragments.has.Goals as goal

pub index-requires : goal.index-requires
index-requires c =
    let is : seen c.self.inside.places.items ≡ c.args.self.now = c.self.view_is in
    let same = length-seen c.self.inside.places.items in
    omega (arith, same, ap length is, c.self.inside.places.ok)

pub returns : goal.returns
returns c =
    let is : seen c.self.inside.places.items ≡ c.args.self.now = c.self.view_is in
    let same = length-seen c.self.inside.places.items in
    let low : c.args.index < length c.self.inside.places.items = omega (arith, same, ap length is) in
    record {
      there = c.is_some.ensures
          ∙ sym (is_some-seen c.index.result.now)
          ∙ ap (λ (o : Option (Vec ℕ Global)). is_some (seen_fragment o)) c.index.ensures
          ∙ ap (λ (o : Option (List ℕ)). is_some o) (sym (get_seen c.self.inside.places.items c.args.index c.index.result.now low))
          ∙ ap (λ (ps : List (Option (List ℕ))). is_some (get_or ps c.args.index None)) is;
    }
