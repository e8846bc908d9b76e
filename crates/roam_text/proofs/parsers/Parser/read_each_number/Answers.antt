use Rattle.std.proofs.Common.{take, get_or, map, sym, ap, subst, ◌∙◌, ◌++◌, arith, refl}
use Rattle.std.proofs.lemmas.List.{take_more}
use Rattle.roam_text.specs.Log.{character}
use Rattle.roam_text.specs.Functions.{AreAscii}
use Rattle.roam_text.specs.Residual.{outcome}
use Rattle.roam_text.proofs.Asciis.{ascii-more, characters-more}
use Rattle.roam_text.proofs.parsers.Parser.read_each_number.Goals as goal

pub loop-count-preserved : goal.loop-count-preserved
loop-count-preserved c =
    let piece = c.args.piece.now in
    let n = c.loop-count.count in
    let more = take_more piece n 0 c.loop-count-test.true in (
      omega arith,
      subst AreAscii (sym more) (ascii-more (take n piece) (get_or piece n 0) c.loop-count.invariant.1 (c.if-read_number.ensures.ascii refl)),
      λ rest. ap (λ l. outcome c.args.self.now (map character l ++ rest)) more
          ∙ characters-more c.args.self.now c.loop-count.self c.read_number.new.self (take n piece) (get_or piece n 0)
          c.loop-count.invariant.2 (c.if-read_number.ensures.read refl) rest,
      c.read_number.ensures.phase,
    )
