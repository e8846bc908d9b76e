-- The state while the lines of a text are read.
use Rattle.std.proofs.Common.{◌≡◌, ℕ, suc, ◌+◌, List, [], ◌∷◌, ◌++◌, length, sym, ap, ◌∙◌, arith}
use Rattle.std.proofs.lemmas.List.{append_assoc, append-nil, length-append}
use Rattle.roam_acts.specs.declared.acts.Act.{Act}
use Rattle.roam_terminal_input.specs.Keys.{IsLineOf, AreLinesOf, FailsAt}

-- the acts of these lines are those read and then those of the rest
pub record SoFar (lines : List (List ℕ)) (acts : List Act) (rest : List (List ℕ)) : Type 0 where
  pub found : (more : List Act) → AreLinesOf rest more → AreLinesOf lines (acts ++ more)
  pub only : (all : List Act) → AreLinesOf lines all → (more : List Act) × (all ≡ acts ++ more) × AreLinesOf rest more
  pub fails : (k : ℕ) → FailsAt k rest → FailsAt (length acts + k) lines

pub one_more : (lines : List (List ℕ)) (acts : List Act) (line : List ℕ) (rest : List (List ℕ)) (act : Act) → SoFar lines acts (line ∷ rest)
    → IsLineOf line act → ((a : Act) → IsLineOf line a → act ≡ a) → SoFar lines (acts ++ act ∷ []) rest
one_more lines acts line rest act s is unique =
    record {
      found = λ more h. rw (append_assoc acts (act ∷ []) more) (s.found (act ∷ more) (is, h));
      only = λ all h. by all (s.only all h);
      fails = λ k h. rw (counted k) (s.fails (suc k) ((act, is), h));
    }
  where
    counted : (k : ℕ) → length (acts ++ act ∷ []) + k ≡ length acts + suc k
    counted k = omega (arith, length-append acts (act ∷ []))

    by : (all : List Act) → ((more : List Act) × (all ≡ acts ++ more) × AreLinesOf (line ∷ rest) more)
        → ((more : List Act) × (all ≡ (acts ++ act ∷ []) ++ more) × AreLinesOf rest more)
    by all ([], e, h) = absurd h
    by all (a ∷ more, e, h) =
        let same : act ≡ a = unique a h.0 in
        (more, e ∙ (ap (λ (x : Act). acts ++ x ∷ more) (sym same) ∙ sym (append_assoc acts (act ∷ []) more)), h.1)

-- ---- at the end, and at a line that is no act

module _ (lines : List (List ℕ)) (acts : List Act) where
  pub all_found : SoFar lines acts [] → AreLinesOf lines acts
  all_found s = rw (sym (append-nil acts)) (s.found [] tt)

  pub all_only : SoFar lines acts [] → (all : List Act) → AreLinesOf lines all → acts ≡ all
  all_only s all h = by (s.only all h)
    where
      by : ((more : List Act) × (all ≡ acts ++ more) × AreLinesOf [] more) → acts ≡ all
      by ([], e, none) = sym (e ∙ append-nil acts)
      by (a ∷ more, e, none) = absurd none

  pub none_here : (line : List ℕ) (rest : List (List ℕ)) → SoFar lines acts (line ∷ rest) → ((a : Act) → IsLineOf line a → ⊥)
      → FailsAt (length acts) lines
  none_here line rest s none =
      let e : length acts + 0 ≡ length acts = omega arith in
      rw (sym e) (s.fails 0 none)

  pub not_these : (line : List ℕ) (rest : List (List ℕ)) → SoFar lines acts (line ∷ rest) → ((a : Act) → IsLineOf line a → ⊥)
      → (all : List Act) → AreLinesOf lines all → ⊥
  not_these line rest s none all h = by (s.only all h)
    where
      by : ((more : List Act) × (all ≡ acts ++ more) × AreLinesOf (line ∷ rest) more) → ⊥
      by ([], e, is) = is
      by (a ∷ more, e, is) = none a is.0
