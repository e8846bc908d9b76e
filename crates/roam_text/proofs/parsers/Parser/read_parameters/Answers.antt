use Rattle.std.proofs.Common.{length, ◌-◌, take, drop, map, sym, ap, subst, ◌∙◌, ◌++◌}
use Rattle.roam_text.specs.Log.{character}
use Rattle.roam_text.specs.Functions.{AreAscii}
use Rattle.roam_text.specs.Residual.{outcome}
use Rattle.roam_text.proofs.Asciis.{ascii-joined, characters-joined, front-joined}
use Rattle.roam_text.proofs.parsers.Parser.read_parameters.Goals as goal

pub returns-in-InControlSequence-clause-ascii : goal.returns-in-InControlSequence-clause-ascii
returns-in-InControlSequence-clause-ascii c =
    let piece = c.args.piece.now in
    let a = c.read_introducers-begun.result in
    let b = c.read_numbers.result in
    subst AreAscii (sym (front-joined piece a b)) (ascii-joined (take a piece) (take b (take (length piece - a) (drop a piece))) c.read_introducers-begun.ensures.ascii c.read_numbers.ensures.ascii)

pub returns-in-InControlSequence-clause-read : goal.returns-in-InControlSequence-clause-read
returns-in-InControlSequence-clause-read c rest =
    let piece = c.args.piece.now in
    let a = c.read_introducers-begun.result in
    let b = c.read_numbers.result in
    ap (λ l. outcome c.args.self.now (map character l ++ rest)) (front-joined piece a b)
    ∙ characters-joined c.args.self.now c.read_introducers-begun.new.self c.read_numbers.new.self (take a piece) (take b (take (length piece - a) (drop a piece)))
    c.read_introducers-begun.ensures.read c.read_numbers.ensures.read rest
