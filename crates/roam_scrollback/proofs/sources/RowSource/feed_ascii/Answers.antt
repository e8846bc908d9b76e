use Rattle.std.proofs.Common.{◌≡◌, ◌++◌, map, take, subst, arith}
use Rattle.roam_text.specs.Log.{Byte}
use Rattle.roam_scrollback.specs.Sources.{Sheds}
use Rattle.roam_scrollback.proofs.Shedding.{sheds-then}
use Rattle.roam_scrollback.proofs.sources.RowSource.feed_ascii.Goals as goal

pub returns-clause-sheds : goal.returns-clause-sheds
returns-clause-sheds c =
    let piece = c.args.piece.now in
    let none = c.feed_plain-count in
    let rest = c.feed_sequence in
    let nothing : none.result ≡ 0 = omega (arith, c.if-count-gt0.false) in
    subst (λ n. Sheds c.args.self.now rest.new.self c.args.lines.now rest.new.lines rest.result.cleared
    (map Byte (take n piece ++ take rest.result.count piece))) nothing
    (sheds-then c.args.self.now none.new.self rest.new.self c.args.lines.now _ rest.new.lines rest.result.cleared (take none.result piece)
    (take rest.result.count piece) none.ensures.sheds rest.ensures.sheds)
