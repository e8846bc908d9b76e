-- The first line of a stream's bytes.
use Rattle.std.proofs.Common.{◌≡◌, ℕ, ◌+◌, ◌<◌, Bool, true, false, eqb, List, [], ◌∷◌, ◌++◌, length, take, drop, get_or, Option, Some, None, refl, sym, ap, ◌∙◌, arith, subst}
use Rattle.std.specs.Prelude.{if◌then◌else◌, nat_lt}
use Rattle.std.specs.List.{position}
use Rattle.std.proofs.lemmas.Bool.{eqb-true}
use Rattle.std.proofs.lemmas.List.{length-take-le, take-append-drop, take_more}
use Rattle.std.proofs.lemmas.List.Quantifiers.{position-Some}
use Rattle.roam_terminal_input.specs.declared.lines.Front.TheVariants.{Line, Part, TooLong}
use Rattle.roam_terminal_input.specs.Lines.{IsFirst, front_by, front_of, longest_line}
use Rattle.roam_faults.specs.Streams.{ended_line}

-- a byte ends a line
abbrev pub is_end : ℕ → Bool
is_end byte = eqb byte 10

by_none : (t : Bool) (n : ℕ) → (if t then TooLong else Part) ≡ Line n → ⊥
by_none true n e = cc
by_none false n e = cc

by_some : (t : Bool) (end n : ℕ) → (if t then TooLong else Line end) ≡ Line n → end ≡ n
by_some true end n e = absurd cc
by_some false end n e = cc

-- a whole first line has its end
pub line_end : (kept : List ℕ) (n : ℕ) → front_of kept ≡ Line n → (n < length kept) × (get_or kept n 0 ≡ 10)
line_end kept n e = by (position is_end kept) refl e
  where
    by : (p : Option ℕ) → position is_end kept ≡ p → front_by p (length kept) ≡ Line n → (n < length kept) × (get_or kept n 0 ≡ 10)
    by None is f = absurd (by_none (nat_lt longest_line (length kept)) n f)
    by (Some i) is f =
        let same : i ≡ n = by_some (nat_lt longest_line i) i n f in
        let found = position-Some is_end kept i 0 is in
        subst (λ (k : ℕ). (k < length kept) × (get_or kept k 0 ≡ 10)) same (found.0, eqb-true _ _ found.1)

-- the bytes are that line with its end, and then the rest
pub first_is_ended : (kept line rest : List ℕ) → IsFirst kept line rest → kept ≡ ended_line line ++ rest
first_is_ended kept line rest is =
    let n = length line in
    let end = line_end kept n is.front in
    let more : take (n + 1) kept ≡ take n kept ++ 10 ∷ [] = rw (take_more kept n 0 end.0, end.1) refl in
    rw (is.rest_is) (sym (take-append-drop (n + 1) kept) ∙ ap (λ (l : List ℕ). l ++ drop (n + 1) kept)
    (more ∙ ap (λ (l : List ℕ). l ++ 10 ∷ []) (sym is.line_is)))

-- a whole first line is the bytes before its end
pub line_first : (kept : List ℕ) (n : ℕ) → front_of kept ≡ Line n → IsFirst kept (take n kept) (drop (n + 1) kept)
line_first kept n e =
    let end = line_end kept n e in
    let len : length (take n kept) ≡ n = length-take-le n kept (omega (arith, end.0)) in
    record {
      front = e ∙ ap (λ (k : ℕ). Line k) (sym len);
      line_is = ap (λ (k : ℕ). take k kept) (sym len);
      rest_is = ap (λ (k : ℕ). drop (k + 1) kept) (sym len);
    }
