use Rattle.std.proofs.Common.{◌≡◌, ◌<◌, ◌++◌, ap, sym, ◌∙◌, length, List, ℕ, Vec, arith}
use Rattle.std.specs.declared.alloc.Global.{Global}
use Rattle.std.proofs.lemmas.Bool.{eqb-true, eqb-false}
use Rattle.roam_wire.specs.Cutting.{fragments_of, texts_of}
use Rattle.roam_wire.proofs.Cuts.{fragment_more, no_more}
use Rattle.roam_wire.proofs.cutting.fragments_of.Goals as goal

pub loop-rest-preserved : goal.loop-rest-preserved
loop-rest-preserved c =
    let rest = c.loop-rest.rest.now in
    let some : length rest ≡ 0 → ⊥ = eqb-false _ _ (sym c.is_empty.ensures ∙ c.loop-rest-test.true) in
    let long : 0 < length rest = omega arith in
    let so = fragment_more c.loop-rest.fragments.items c.in_ok-from_slice.field-0 rest c.split_at.result.1.now c.args.text.now c.min.result long c.min.ensures
    (c.in_ok-from_slice.ensures.items ∙ c.split_at.ensures.front) c.split_at.ensures.back c.loop-rest.invariant in
    ap (λ (vs : List (Vec ℕ Global)). texts_of vs ++ fragments_of c.split_at.result.1.now) c.in_ok-push.ensures.items ∙ so

pub returns : goal.returns
returns c =
    record { fragments = no_more (texts_of c.loop-rest.fragments.items) c.loop-rest.rest.now c.args.text.now (eqb-true _ _ (sym c.is_empty.ensures ∙ c.loop-rest-test.false)) c.loop-rest.invariant }
