use Rattle.std.proofs.Common.{◌∷◌, ap}
use Rattle.roam_normalize.specs.Normalized.{Normalized}
use Rattle.roam_normalize.proofs.Naming.{title-broken, title-cancelled, title-full, title-goes, title-out}
use Rattle.roam_normalize.proofs.laws.titles_are_taken_out.Goals as goal

pub returns-clause-out : goal.returns-clause-out
returns-clause-out c title more are few =
    ap (λ (m : Normalized). m.out) (title-goes title (0x1B ∷ 0x5C ∷ more) 2 (title-out title more are few))

pub returns-clause-cancelled : goal.returns-clause-cancelled
returns-clause-cancelled c title more b are few is =
    ap (λ (m : Normalized). m.out) (title-goes title (b ∷ more) 1 (title-cancelled title more b are few is))

pub returns-clause-broken : goal.returns-clause-broken
returns-clause-broken c title more d are few is =
    ap (λ (m : Normalized). m.out) (title-goes title (0x1B ∷ d ∷ more) 0 (title-broken title more d are few is))

pub returns-clause-full : goal.returns-clause-full
returns-clause-full c title more b are full =
    ap (λ (m : Normalized). m.out) (title-goes title (b ∷ more) 0 (title-full title more b are full))
