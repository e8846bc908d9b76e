use Rattle.std.proofs.Common.{◌≡◌, ◌<◌, ◌+◌, ◌-◌, ◌∷◌, ◌++◌, List, length, take, drop, get_or, map, sym, ap, subst, ◌∙◌, arith}
use Rattle.std.proofs.lemmas.List.{take_more}
use Rattle.roam_text.specs.Log.{Sign, character}
use Rattle.roam_text.specs.Functions.{AreAscii}
use Rattle.roam_text.specs.Residual.{outcome, given_in}
use Rattle.roam_text.specs.declared.parsers.Parser.{Parser}
use Rattle.roam_text.specs.declared.parsers.Sequence.{Sequence}
use Rattle.roam_text.proofs.Asciis.{ascii-joined, ascii-more, characters-joined, characters-more, front-joined}
use Rattle.roam_text.proofs.Numbers.{short-front, separator-read, parameters-come}
use Rattle.roam_text.proofs.parsers.Parser.read_short_numbers.Goals as goal

pub returns-then-piece-end-ge64-clause-ascii : goal.returns-then-piece-end-ge64-clause-ascii
returns-then-piece-end-ge64-clause-ascii c =
    let piece = c.args.piece.now in
    let at = c.loop-at.at in
    subst AreAscii (sym (short-front piece at c.read_short_number-digits.result c.read_short_number-digits.ensures.few c.loop-at-test.true))
    (ascii-joined (take at piece) _ c.loop-at.invariant.ascii c.read_short_number-digits.ensures.ascii)

pub returns-then-piece-end-ge64-clause-read : goal.returns-then-piece-end-ge64-clause-read
returns-then-piece-end-ge64-clause-read c rest =
    let piece = c.args.piece.now in
    let at = c.loop-at.at in
    ap (λ l. outcome c.args.self.now (map character l ++ rest)) (short-front piece at c.read_short_number-digits.result c.read_short_number-digits.ensures.few c.loop-at-test.true)
    ∙ characters-joined c.args.self.now c.loop-at.self c.read_short_number-digits.new.self (take at piece) _
    c.loop-at.invariant.read c.read_short_number-digits.ensures.read rest

pub returns-then-piece-end-ne59-clause-ascii : goal.returns-then-piece-end-ne59-clause-ascii
returns-then-piece-end-ne59-clause-ascii c =
    let piece = c.args.piece.now in
    let at = c.loop-at.at in
    let end = at + c.read_short_number-digits.result in
    let short : AreAscii (take end piece) =
    subst AreAscii (sym (short-front piece at c.read_short_number-digits.result c.read_short_number-digits.ensures.few c.loop-at-test.true))
    (ascii-joined (take at piece) _ c.loop-at.invariant.ascii c.read_short_number-digits.ensures.ascii) in
    let b = c.read_each_number.result in
    subst AreAscii (sym (front-joined piece end b)) (ascii-joined (take end piece) (take b (take (length piece - end) (drop end piece))) short c.read_each_number.ensures.ascii)

pub returns-then-piece-end-ne59-clause-read : goal.returns-then-piece-end-ne59-clause-read
returns-then-piece-end-ne59-clause-read c rest =
    let piece = c.args.piece.now in
    let at = c.loop-at.at in
    let end = at + c.read_short_number-digits.result in
    let short : (rest : List Sign) → outcome c.args.self.now (map character (take end piece) ++ rest) ≡ outcome c.read_short_number-digits.new.self rest =
    λ rest. ap (λ l. outcome c.args.self.now (map character l ++ rest)) (short-front piece at c.read_short_number-digits.result c.read_short_number-digits.ensures.few c.loop-at-test.true)
    ∙ characters-joined c.args.self.now c.loop-at.self c.read_short_number-digits.new.self (take at piece) _
    c.loop-at.invariant.read c.read_short_number-digits.ensures.read rest in
    let b = c.read_each_number.result in
    ap (λ l. outcome c.args.self.now (map character l ++ rest)) (front-joined piece end b)
    ∙ characters-joined c.args.self.now c.read_short_number-digits.new.self c.read_each_number.new.self (take end piece) (take b (take (length piece - end) (drop end piece)))
    short c.read_each_number.ensures.read rest

pub loop-at-preserved : goal.loop-at-preserved
loop-at-preserved c =
    let piece = c.args.piece.now in
    let at = c.loop-at.at in
    let d = c.read_short_number-digits.result in
    let few = c.read_short_number-digits.ensures.few in
    let end = at + d in
    let mid = c.read_short_number-digits.new.self in
    let new : Parser = record { phase = mid.phase; sequence = c.end_number.new.self } in
    let front = short-front piece at d few c.loop-at-test.true in
    let short-ascii : AreAscii (take end piece) =
    subst AreAscii (sym front) (ascii-joined (take at piece) _ c.loop-at.invariant.ascii c.read_short_number-digits.ensures.ascii) in
    let short : (rest : List Sign) → outcome c.args.self.now (map character (take end piece) ++ rest) ≡ outcome mid rest =
    λ rest. ap (λ l. outcome c.args.self.now (map character l ++ rest)) front
    ∙ characters-joined c.args.self.now c.loop-at.self mid (take at piece) _ c.loop-at.invariant.read c.read_short_number-digits.ensures.read rest in
    let inside : end < length piece = omega (arith, few, c.loop-at-test.true) in
    let more = take_more piece end 0 inside in
    let is : get_or piece end 0 ≡ 59 = c.if-piece-end-ne59.false in
    record {
      within = omega (arith, few, c.loop-at-test.true);
      ascii = subst AreAscii (sym more) (ascii-more (take end piece) (get_or piece end 0) short-ascii (omega (arith, is)));
      read = λ rest. ap (λ l. outcome c.args.self.now (map character l ++ rest)) more
          ∙ characters-more c.args.self.now mid new (take end piece) (get_or piece end 0) short
          (λ rest. ap (λ b. outcome mid (character b ∷ rest)) is
          ∙ separator-read mid c.read_short_number-digits.ensures.phase c.read_short_number-digits.ensures.place rest
          ∙ sym (ap (λ q. given_in mid.phase q rest) c.end_number.ensures.sequence)) rest;
      phase = c.read_short_number-digits.ensures.phase;
      place = λ e. parameters-come (sym (ap (λ (q : Sequence). q.place) c.end_number.ensures.sequence) ∙ e);
    }

pub returns-clause-ascii : goal.returns-clause-ascii
returns-clause-ascii c =
    let piece = c.args.piece.now in
    let at = c.loop-at.at in
    let b = c.read_each_number-2.result in
    subst AreAscii (sym (front-joined piece at b)) (ascii-joined (take at piece) (take b (take (length piece - at) (drop at piece))) c.loop-at.invariant.ascii c.read_each_number-2.ensures.ascii)

pub returns-clause-read : goal.returns-clause-read
returns-clause-read c rest =
    let piece = c.args.piece.now in
    let at = c.loop-at.at in
    let b = c.read_each_number-2.result in
    ap (λ l. outcome c.args.self.now (map character l ++ rest)) (front-joined piece at b)
    ∙ characters-joined c.args.self.now c.loop-at.self c.read_each_number-2.new.self (take at piece) (take b (take (length piece - at) (drop at piece)))
    c.loop-at.invariant.read c.read_each_number-2.ensures.read rest
