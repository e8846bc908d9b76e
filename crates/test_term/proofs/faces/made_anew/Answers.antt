use Rattle.std.proofs.Common.{◌<◌, true, false, sym, ◌∙◌, arith}
use Rattle.std.proofs.lemmas.Bool.{false≢true}
use Rattle.std.proofs.lemmas.List.{get_or-replicate}
use Rattle.test_term.proofs.faces.made_anew.Goals as goal

-- no mark is off
pub face_over-requires-clause-kept : goal.face_over-requires-clause-kept
face_over-requires-clause-kept c =
    λ picture show r p off.
    let below : r < 200 = omega (arith, p) in
    absurd (false≢true (sym off ∙ get_or-replicate 200 r true false below))
