use Rattle.std.proofs.Common.{refl, ap, ◌∙◌, arith}
use Rattle.bstr.specs.Utf8.{Decoded}
use Rattle.roam_text.proofs.Leading.{two-alone, three-alone}
use Rattle.roam_text.proofs.decoders.decode_first.Goals as goal

pub returns-then-begins_three-clause-char : goal.returns-then-begins_three-clause-char
returns-then-begins_three-clause-char c =
    let first = c.if-begins_three.ensures.first refl in
    c.decode-then-begins_three.ensures.char
    ∙ ap (λ (d : Decoded). d.char) (three-alone c.args.piece.now (omega (arith, c.if-piece-lt3.false)) first.0 first.1)

pub returns-then-begins_three-clause-size : goal.returns-then-begins_three-clause-size
returns-then-begins_three-clause-size c =
    let first = c.if-begins_three.ensures.first refl in
    c.decode-then-begins_three.ensures.size
    ∙ ap (λ (d : Decoded). d.size) (three-alone c.args.piece.now (omega (arith, c.if-piece-lt3.false)) first.0 first.1)

pub returns-then-begins_two-clause-char : goal.returns-then-begins_two-clause-char
returns-then-begins_two-clause-char c =
    let first = c.if-begins_two.ensures.first refl in
    c.decode-then-begins_two.ensures.char
    ∙ ap (λ (d : Decoded). d.char) (two-alone c.args.piece.now (omega (arith, c.if-piece-lt3.false)) first.0 first.1)

pub returns-then-begins_two-clause-size : goal.returns-then-begins_two-clause-size
returns-then-begins_two-clause-size c =
    let first = c.if-begins_two.ensures.first refl in
    c.decode-then-begins_two.ensures.size
    ∙ ap (λ (d : Decoded). d.size) (two-alone c.args.piece.now (omega (arith, c.if-piece-lt3.false)) first.0 first.1)
