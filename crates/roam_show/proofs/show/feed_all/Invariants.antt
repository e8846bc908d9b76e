use Rattle.std.proofs.Common.{◌≡◌, ℕ, List, [], map}
use Rattle.std.specs.Io.KnownBytes.{Consumes}
use Rattle.roam_text.specs.Log.{Byte}
use Rattle.roam_term.specs.Terminal.{reports}
use Rattle.roam_term.specs.Stands.{Stands}
use Rattle.roam_show.proofs.show.feed_all.Given as goal

abbrev pub invariant-loop : goal.invariant-loop
invariant-loop g l = (log : List ℕ) × Consumes (g.R.Read.remaining l.initial.reader) (g.R.Read.remaining l.reader) log
    × ((rows cols lines : ℕ) → Stands l.initial.term rows cols lines [] →
    (Stands l.term rows cols lines (map Byte log)) × (l.report.items ≡ reports rows cols lines (map Byte log)))
    × (l.term.waiting ≡ [])
