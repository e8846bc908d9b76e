use Rattle.std.proofs.Common.{◌≡◌, ◌+◌, ◌-◌, ◌++◌, ℕ, List, [], ◌∷◌, Some, None, drop, length, arith, ap, sym, subst, ◌∙◌, add-zero, append_assoc, append-nil, length-drop}
use Rattle.std.specs.Option.{option_map}
use Rattle.std.proofs.lemmas.List.{drop-drop}
use Rattle.roam_row_files.specs.Changes.{RowChange, said}
use Rattle.roam_row_files.specs.Reading.{IsLastCheck, Reads, check_of, goes, stops}
use Rattle.roam_row_files.specs.Records.{front_of, records_of}
use Rattle.roam_row_files.proofs.Beginnings.{same-reading}
use Rattle.roam_row_files.proofs.Checks.{later-step, record-more}
use Rattle.roam_row_files.proofs.replays.last_checkpoint.Goals as goal

pub loop-change-preserved : goal.loop-change-preserved
loop-change-preserved c =
    let bytes = c.args.bytes.now in
    let at = c.loop-change.end in
    let size = c.in-Some.size in
    let change = said c.in-Some.change in
    let front : front_of (drop at bytes) ≡ Some (change, size) =
    subst (λ (b : List ℕ). front_of b ≡ Some (change, size)) c.split_at.ensures.back c.in-Some.ensures.front in
    let left : length c.split_at.result.1.now ≡ length bytes - at = ap length c.split_at.ensures.back ∙ length-drop at bytes in
    let (done, sum, last, reads) = c.loop-change.invariant.done in
    let place : at + size ≡ length (records_of (done ++ change ∷ [])) = omega (arith, sum, c.in-Some.ensures.size, record-more done change) in
    record {
      within = omega (arith, left, c.in-Some.ensures.within.1, c.loop-change.invariant.within);
      done = (
        done ++ change ∷ [],
        place,
        later-step c.checkpoint_of.result change (at + size) c.loop-change.found c.later-found.result done c.checkpoint_of.ensures.check
            c.later-found.ensures.later place last,
        λ changes more r.
            let behind : Reads (drop size (drop at bytes)) changes more = subst (λ (b : List ℕ). Reads b changes more) (sym (drop-drop size at bytes)) r in
            let all = reads (change ∷ changes) (size + more) (goes (drop at bytes) change size changes more front behind) in
            let end : at + (size + more) ≡ at + size + more = omega arith in
            subst (λ k. Reads bytes ((done ++ change ∷ []) ++ changes) k) end
            (subst (λ (l : List RowChange). Reads bytes l (at + (size + more))) (sym (append_assoc done (change ∷ []) changes)) all),
      );
    }

pub returns : goal.returns
returns c =
    let bytes = c.args.bytes.now in
    let at = c.loop-change.end in
    let front : front_of (drop at bytes) ≡ None =
    subst (λ (b : List ℕ). front_of b ≡ None) c.split_at.ensures.back c.in_default.ensures.front in
    let (done, sum, last, reads) = c.loop-change.invariant.done in
    let read : Reads bytes done at =
    subst (λ k. Reads bytes done k) (add-zero at)
    (subst (λ (l : List RowChange). Reads bytes l (at + 0)) (append-nil done) (reads [] 0 (stops (drop at bytes) front))) in
    record {
      last = λ changes end r.
          let same = same-reading bytes done changes at end read r in
          subst (λ (l : List RowChange). IsLastCheck l (option_map check_of c.loop-change.found)) (sym same.0) last;
    }
