-- The last checkpoint of changes, after one change more.
use Rattle.std.proofs.Common.{◌≡◌, ℕ, ◌+◌, ◌||◌, Bool, true, false, MatchOption, List, [], ◌∷◌, ◌++◌, Option, Some, None, length, refl, sym, ap, subst, ◌∙◌, append_assoc, append-nil, length-append}
use Rattle.std.specs.List.{list_any}
use Rattle.std.specs.Option.{option_map}
use Rattle.std.proofs.lemmas.List.Concat.{flat_map-append}
use Rattle.roam_row_files.specs.Changes.{RowChange, checks}
use Rattle.roam_row_files.specs.Reading.{IsLastCheck, check_of, is_check}
use Rattle.roam_row_files.specs.declared.changes.Checkpoint.{Checkpoint}
use Rattle.roam_row_files.specs.Records.{record_of, records_of}

first-false : (a b : Bool) → (a || b) ≡ false → (a ≡ false) × (b ≡ false)
first-false true b e = absurd (let k : ⊥ = cc in k)
first-false false b e = (refl, e)

any-push : (changes : List RowChange) (change : RowChange) → list_any is_check changes ≡ false → is_check change ≡ false
    → list_any is_check (changes ++ change ∷ []) ≡ false
any-push [] change h e = ap (λ b. b || false) e
any-push (c ∷ cs) change h e =
    let both = first-false (is_check c) (list_any is_check cs) h in
    ap (λ b. b || list_any is_check (cs ++ change ∷ [])) both.0 ∙ any-push cs change both.1 e

pub record-more : (done : List RowChange) (change : RowChange) → length (records_of (done ++ change ∷ [])) ≡ length (records_of done) + length (record_of change)
record-more done change =
    ap length (flat_map-append record_of done (change ∷ []) ∙ ap (λ (l : List ℕ). records_of done ++ l) (append-nil (record_of change)))
    ∙ length-append (records_of done) (record_of change)

pub check-step : (done : List RowChange) (change : RowChange) (n : ℕ) → n ≡ length (records_of (done ++ change ∷ [])) → is_check change ≡ true
    → IsLastCheck (done ++ change ∷ []) (Some (change, n))
check-step done change n e h = (done, [], refl, h, refl, e)

pub other-step : (done : List RowChange) (found : Option (RowChange × ℕ)) (change : RowChange) → IsLastCheck done found → is_check change ≡ false
    → IsLastCheck (done ++ change ∷ []) found
other-step done None change h e = any-push done change h e
other-step done (Some last) change h e =
    let (before, behind, is, check, none, end) = h in (
      before,
      behind ++ change ∷ [],
      ap (λ (l : List RowChange). l ++ change ∷ []) is ∙ append_assoc before (last.0 ∷ behind) (change ∷ []),
      check,
      any-push behind change none e,
      end,
    )

pub later-step : (point : Option Checkpoint) (change : RowChange) (end : ℕ) (found result : Option (Checkpoint × ℕ)) (done : List RowChange)
    → MatchOption point (is_check change ≡ false) (λ p. (is_check change ≡ true) × (change ≡ checks p.count p.rows p.cols p.text.now))
    → MatchOption point (result ≡ found) (λ p. result ≡ Some (p, end)) → end ≡ length (records_of (done ++ change ∷ []))
    → IsLastCheck done (option_map check_of found) → IsLastCheck (done ++ change ∷ []) (option_map check_of result)
later-step None change end found result done h e n w =
    subst (λ (o : Option (Checkpoint × ℕ)). IsLastCheck (done ++ change ∷ []) (option_map check_of o)) (sym e)
    (other-step done (option_map check_of found) change w h)
later-step (Some p) change end found result done h e n w =
    let check : RowChange = checks p.count p.rows p.cols p.text.now in
    let place : end ≡ length (records_of (done ++ check ∷ [])) =
    n ∙ ap (λ (x : RowChange). length (records_of (done ++ x ∷ []))) h.1 in
    subst (λ (o : Option (Checkpoint × ℕ)). IsLastCheck (done ++ change ∷ []) (option_map check_of o)) (sym e)
    (subst (λ (x : RowChange). IsLastCheck (done ++ x ∷ []) (Some (check, end))) (sym h.1) (check-step done check end place refl))
