use Rattle.std.proofs.Common.{◌∷◌}
use Rattle.roam_normalize.proofs.Naming.{title-full, title-named, title-out, titles-cut}
use Rattle.roam_normalize.proofs.laws.titles_are_named.Goals as goal

pub returns-clause-named : goal.returns-clause-named
returns-clause-named c title more are few = title-named title (0x1B ∷ 0x5C ∷ more) 2 (title-out title more are few)

pub returns-clause-full : goal.returns-clause-full
returns-clause-full c title more b are full = title-named title (b ∷ more) 0 (title-full title more b are full)

pub returns-clause-cut : goal.returns-clause-cut
returns-clause-cut c = titles-cut
