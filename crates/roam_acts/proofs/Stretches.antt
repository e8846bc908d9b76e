-- The fresh acts of a stretch follow the acts taken.
use Rattle.std.proofs.Common.{◌≡◌, ℕ, ◌+◌, ◌-◌, ◌≤◌, true, false, ltb, List, [], ◌++◌, length, take, drop, inl, inr, sym, ap, ◌∙◌, arith, append_assoc, append-nil}
use Rattle.std.proofs.Math.Seq.{take-append_seam}
use Rattle.std.proofs.lemmas.Bool.{cases_lt, le-ltb, lt-ltb}
use Rattle.std.proofs.lemmas.List.{drop-append-le, drop-drop, drop_all, length-append, length-take-le, take-append-drop}
use Rattle.roam_acts.specs.declared.acts.Act.{Act}
use Rattle.roam_acts.specs.Senders.{IsStretch}
use Rattle.roam_acts.specs.Takers.{fresh_of}

-- a front with what follows it is a longer front
front : (all more rest : List Act) (n : ℕ) → n ≤ length all → drop n all ≡ more ++ rest → take n all ++ more ≡ take (n + length more) all
front all more rest n le e =
    let begins = take n all in
    let len : length (begins ++ more) ≡ n + length more = omega (arith, length-append begins more, length-take-le n all le) in
    let whole : all ≡ (begins ++ more) ++ rest = sym (take-append-drop n all) ∙ ap (λ (t : List Act). begins ++ t) e ∙ sym (append_assoc begins more rest) in
    sym (take-append_seam (begins ++ more) rest) ∙ (λ i. take (len i) (sym whole i))

none : (all : List Act) (n : ℕ) → take n all ++ [] ≡ take (n + 0) all
none all n = append-nil (take n all) ∙ ap (λ (k : ℕ). take k all) (omega arith)

fresh_rest : (all acts : List Act) (taken first : ℕ) → first ≤ taken + 1 → taken ≤ length all → IsStretch all first acts → take taken all ++ drop (taken + 1 - first) acts ≡ take (taken + length (drop (taken + 1 - first) acts)) all
fresh_rest all acts taken first near le s =
    let n = taken + 1 - first in
    let xs = drop (first - 1) all in
    let there : drop n xs ≡ drop taken all = drop-drop n (first - 1) all ∙ ap (λ (k : ℕ). drop k all) (omega (arith, near, s.low)) in
    elim (cases_lt (length acts) n) [
      | inl past ↦ let empty : drop n acts ≡ [] = drop_all n acts (omega (arith, past)) in rw empty (none all taken)
      | inr within ↦
          let cut : xs ≡ acts ++ drop s.count xs = sym (take-append-drop s.count xs) ∙ ap (λ (t : List Act). t ++ drop s.count xs) (sym s.is) in
          front all (drop n acts) (drop s.count xs) taken le (sym there ∙ ap (drop n) cut ∙ drop-append-le n acts (drop s.count xs) within)
    ]

pub follow : (all acts : List Act) (taken first : ℕ) → taken ≤ length all → IsStretch all first acts → take taken all ++ fresh_of taken first acts ≡ take (taken + length (fresh_of taken first acts)) all
follow all acts taken first le s =
    elim (cases_lt (taken + 1) first) [
      | inl gap ↦ let far : ltb (taken + 1) first ≡ true = lt-ltb (taken + 1) first gap in rw far (none all taken)
      | inr near ↦ let close : ltb (taken + 1) first ≡ false = le-ltb (taken + 1) first near in rw close (fresh_rest all acts taken first near le s)
    ]
