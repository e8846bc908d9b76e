use Rattle.std.proofs.Common.{◌≡◌, ap, length, arith}
use Rattle.roam_wire.specs.Fragments.{seen}
use Rattle.roam_wire.proofs.Places.{length-seen}
use Rattle.roam_wire.proofs.fragments.Fragments.len.Goals as goal

pub returns : goal.returns
returns c =
    let is : seen c.self.inside.places.items ≡ c.args.self.now = c.self.view_is in
    let same = length-seen c.self.inside.places.items in
    record { len = omega (arith, same, ap length is) }
