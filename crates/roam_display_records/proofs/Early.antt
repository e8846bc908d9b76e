-- No line is reported too early.
use Rattle.std.proofs.Common.{◌≡◌, ◌⊎◌, ℕ, suc, ◌+◌, ◌-◌, ◌^◌, ◌≤◌, max, false, ltb, List, [], ◌∷◌, ◌++◌, length, length-append, Option, Some, None, refl, sym, ap, subst, ◌∙◌, arith, inl, inr}
use Rattle.std.proofs.lemmas.Bool.{cases_Bool, ltb-true, ltb-false, le-ltb}
use Rattle.std.proofs.lemmas.List.{append-nil, append_assoc}
use Rattle.std.proofs.lemmas.List.Elements.{All-append, All-cons, All-filter, All-head, All-nil, All-tail, filter-append}
use Rattle.std.specs.List.{All, fold}
use Rattle.roam_display_records.specs.Taken.{AreBelow, NeverTooEarly, TakenStep, TakenView, acknowledged_of, done, first_done, joined, lines_in, most_waiting, next_line, nothing_taken, still_waiting, taken_step, took, waits_for, with_act}
use Rattle.roam_display_records.specs.Taken.TakenStep.{Line, Acknowledged}

-- ---- the first lines that are done

most : (a : ℕ) (log : List (Option ℕ)) → first_done a log ≤ length log
most a [] = omega arith
most a (None ∷ log) = let m = most a log in omega (arith, m)
most a (Some act ∷ log) =
    let m = most a log in
    elim (cases_Bool (ltb a act)) [
      | inl e ↦ rw e (omega arith)
      | inr e ↦ rw e (omega (arith, m))
    ]

more : (a : ℕ) (log other : List (Option ℕ)) → first_done a log ≤ first_done a (log ++ other)
more a [] other = omega arith
more a (None ∷ log) other = let m = more a log other in omega (arith, m)
more a (Some act ∷ log) other =
    let m = more a log other in
    elim (cases_Bool (ltb a act)) [
      | inl e ↦ rw e (omega arith)
      | inr e ↦ rw e (omega (arith, m))
    ]

-- if all are done, those of the following lines are too
all_done : (a : ℕ) (log other : List (Option ℕ)) → length log ≤ first_done a log → length log + first_done a other ≤ first_done a (log ++ other)
all_done a [] other h = omega arith
all_done a (None ∷ log) other h = let m = all_done a log other (omega (arith, h)) in omega (arith, m)
all_done a (Some act ∷ log) other h =
    elim (cases_Bool (ltb a act)) [
      | inl e ↦ let no : suc (length log) ≤ 0 = rw e at h in absurd (omega (arith, no))
      | inr e ↦
          let on : suc (length log) ≤ 1 + first_done a log = rw e at h in
          let m = all_done a log other (omega (arith, on)) in
          rw e (omega (arith, m))
    ]

-- ---- the waiting lines

abbrev top : ℕ
top = 2 ^ 64 - 1

abbrev left : ℕ → List (ℕ × ℕ) → List (ℕ × ℕ)
left a waiting = still_waiting a waiting

abbrev AreUpTo : ℕ → List (ℕ × ℕ) → Type 0
AreUpTo n waiting = All (λ (e : ℕ × ℕ). e.0 ≤ n) waiting

raised : (l n : ℕ) (ws : List (ℕ × ℕ)) → l ≤ n → AreUpTo l ws → AreUpTo n ws
raised l n ws le all = λ k d h. omega (arith, le, all k d h)

-- a line that no longer waits for so many acts doesn't for more
twice : (acts a : ℕ) (ws : List (ℕ × ℕ)) → acts ≤ a → left a (left acts ws) ≡ left a ws
twice acts a [] le = refl
twice acts a (e ∷ ws) le =
    let rest = twice acts a ws le in
    elim (cases_Bool (ltb acts e.1)) [
      | inl y ↦ rw (y, rest) refl
      | inr n ↦
          let low = ltb-false acts e.1 n in
          let past : ltb a e.1 ≡ false = le-ltb a e.1 (omega (arith, low, le)) in
          rw (n, past) rest
    ]

-- the last one waits for another act too: as many lines wait, each up to the same
joined_up : (n act : ℕ) (ws : List (ℕ × ℕ)) → AreUpTo n ws → AreUpTo n (joined act ws)
joined_up n act [] all = all
joined_up n act (e ∷ []) all = All-cons (λ (e : ℕ × ℕ). e.0 ≤ n) (with_act act e) [] (All-head (λ (e : ℕ × ℕ). e.0 ≤ n) e [] all) (All-nil (λ (e : ℕ × ℕ). e.0 ≤ n))
joined_up n act (e ∷ f ∷ fs) all =
    All-cons (λ (e : ℕ × ℕ). e.0 ≤ n) e (joined act (f ∷ fs)) (All-head (λ (e : ℕ × ℕ). e.0 ≤ n) e (f ∷ fs) all)
    (joined_up n act (f ∷ fs) (All-tail (λ (e : ℕ × ℕ). e.0 ≤ n) e (f ∷ fs) all))

pub joined_last : (act : ℕ) (ws : List (ℕ × ℕ)) (e : ℕ × ℕ) → joined act (ws ++ e ∷ []) ≡ ws ++ with_act act e ∷ []
joined_last act [] e = refl
joined_last act (w ∷ []) e = refl
joined_last act (w ∷ v ∷ ws) e = ap (λ (t : List (ℕ × ℕ)). w ∷ t) (joined_last act (v ∷ ws) e)

-- ---- the facts after each step

record Holds (a : ℕ) (t : TakenView) (log : List (Option ℕ)) : Type 0 where
  lines : (t.lines ≡ length log) ⊎ (t.lines ≡ top)
  low : t.lines ≤ top
  below : AreUpTo t.lines t.waiting
  early : done t.lines (left a t.waiting) ≤ first_done a log

module _ (a : ℕ) (t : TakenView) (log : List (Option ℕ)) (h : Holds a t log) where
  abbrev next : ℕ
  next = next_line t.lines

  up : t.lines ≤ next
  up = let l = h.low in omega (arith, l)

  -- as many lines as there are now, or as many as can be counted
  next_lines : (last : Option ℕ) → (next ≡ length (log ++ last ∷ [])) ⊎ (next ≡ top)
  next_lines last =
      let long = length-append log (last ∷ []) in
      elim (cases_Bool (ltb t.lines top)) [
        | inl y ↦
            let below = ltb-true t.lines top y in
            elim h.lines [
              | inl e ↦ inl (omega (arith, e, below, long))
              | inr e ↦ inr (omega (arith, e))
            ]
        | inr n ↦ let past = ltb-false t.lines top n in inr (omega (arith, past))
      ]

  -- if all taken lines are done, one line more is, if its acts are
  on : (last : Option ℕ) → first_done a (last ∷ []) ≡ 1 → t.lines ≤ first_done a log → next ≤ first_done a (log ++ last ∷ [])
  on last one all =
      let m = more a log (last ∷ []) in
      elim h.lines [
        | inl e ↦
            let least : length log ≤ first_done a log = omega (arith, e, all) in
            let done = all_done a log (last ∷ []) least in
            omega (arith, done, e, one)
        | inr e ↦ omega (arith, e, m, all)
      ]

  -- the waiting lines in front keep their places
  front : (last : Option ℕ) (ws others : List (ℕ × ℕ)) → done t.lines ws ≤ first_done a log
      → (t.lines ≤ first_done a log → done next others ≤ first_done a (log ++ last ∷ [])) → done next (ws ++ others) ≤ first_done a (log ++ last ∷ [])
  front last [] others e by = by e
  front last (w ∷ ws) others e by = let m = more a log (last ∷ []) in omega (arith, e, m)

  acts_done : (act : ℕ) → ltb a act ≡ false → first_done a (Some act ∷ []) ≡ 1
  acts_done act n = rw n refl

  alone : (act : ℕ) → t.lines ≤ first_done a log → done next (left a ((next, act) ∷ [])) ≤ first_done a (log ++ Some act ∷ [])
  alone act all =
      let m = more a log (Some act ∷ []) in
      elim (cases_Bool (ltb a act)) [
        | inl y ↦ rw y (omega (arith, all, m))
        | inr n ↦ rw n (on (Some act) (acts_done act n) all)
      ]

  last_one : (act : ℕ) (e : ℕ × ℕ) → e.0 ≤ t.lines → done t.lines (left a (e ∷ [])) ≤ first_done a log
      → done next (left a (with_act act e ∷ [])) ≤ first_done a (log ++ Some act ∷ [])
  last_one act e low is =
      let m = more a log (Some act ∷ []) in
      elim (cases_Bool (ltb a (max e.1 act))) [
        | inl y ↦
            let line : e.0 - 1 ≤ first_done a log =
            elim (cases_Bool (ltb a e.1)) [
              | inl w ↦ let there : e.0 - 1 ≤ first_done a log = rw w at is in there
              | inr n ↦ let all : t.lines ≤ first_done a log = rw n at is in omega (arith, all, low)
            ] in
            rw y (omega (arith, line, m))
        | inr n ↦
            let past = ltb-false a (max e.1 act) n in
            let first : ltb a e.1 ≡ false = le-ltb a e.1 (omega (arith, past)) in
            let second : ltb a act ≡ false = le-ltb a act (omega (arith, past)) in
            let all : t.lines ≤ first_done a log = rw first at is in
            rw n (on (Some act) (acts_done act second) all)
      ]

  joined_early : (act : ℕ) (e : ℕ × ℕ) (ws : List (ℕ × ℕ)) → AreUpTo t.lines (e ∷ ws) → done t.lines (left a (e ∷ ws)) ≤ first_done a log
      → done next (left a (joined act (e ∷ ws))) ≤ first_done a (log ++ Some act ∷ [])
  joined_early act e [] all is = last_one act e (All-head (λ (e : ℕ × ℕ). e.0 ≤ t.lines) e [] all) is
  joined_early act e (f ∷ fs) all is =
      let m = more a log (Some act ∷ []) in
      elim (cases_Bool (ltb a e.1)) [
        | inl y ↦ let there : e.0 - 1 ≤ first_done a log = rw y at is in rw y (omega (arith, there, m))
        | inr n ↦
            let rest : done t.lines (left a (f ∷ fs)) ≤ first_done a log = rw n at is in
            rw n (joined_early act f fs (All-tail (λ (e : ℕ × ℕ). e.0 ≤ t.lines) e (f ∷ fs) all) rest)
      ]

  -- ---- a line without acts

  none_early : done next (left a t.waiting) ≤ first_done a (log ++ None ∷ [])
  none_early =
      subst (λ (ws : List (ℕ × ℕ)). done next ws ≤ first_done a (log ++ None ∷ [])) (append-nil (left a t.waiting))
      (front None (left a t.waiting) [] h.early (λ all. on None refl all))

  -- ---- a line with acts

  behind_early : (act : ℕ) → done next (left a (t.waiting ++ (next, act) ∷ [])) ≤ first_done a (log ++ Some act ∷ [])
  behind_early act =
      subst (λ (ws : List (ℕ × ℕ)). done next ws ≤ first_done a (log ++ Some act ∷ []))
      (sym (filter-append (λ (e : ℕ × ℕ). ltb a e.1) t.waiting ((next, act) ∷ [])))
      (front (Some act) (left a t.waiting) (left a ((next, act) ∷ [])) h.early (alone act))

  some_early : (act : ℕ) (ws : List (ℕ × ℕ)) → t.waiting ≡ ws → done next (left a (waits_for next act ws)) ≤ first_done a (log ++ Some act ∷ [])
  some_early act [] is = subst (λ (ws : List (ℕ × ℕ)). done next (left a (ws ++ (next, act) ∷ [])) ≤ first_done a (log ++ Some act ∷ [])) is (behind_early act)
  some_early act (e ∷ ws) is =
      let all : AreUpTo t.lines (e ∷ ws) = subst (AreUpTo t.lines) is h.below in
      let early : done t.lines (left a (e ∷ ws)) ≤ first_done a log = subst (λ (ws : List (ℕ × ℕ)). done t.lines (left a ws) ≤ first_done a log) is h.early in
      elim (cases_Bool (ltb (length (e ∷ ws)) most_waiting)) [
        | inl y ↦ rw y (subst (λ (ws : List (ℕ × ℕ)). done next (left a (ws ++ (next, act) ∷ [])) ≤ first_done a (log ++ Some act ∷ [])) is (behind_early act))
        | inr n ↦ rw n (joined_early act e ws all early)
      ]

  some_up : (act : ℕ) → AreUpTo next (waits_for next act t.waiting)
  some_up act =
      let all = raised t.lines next t.waiting up h.below in
      elim (cases_Bool (ltb (length t.waiting) most_waiting)) [
        | inl y ↦
            rw y (All-append (λ (e : ℕ × ℕ). e.0 ≤ next) t.waiting ((next, act) ∷ []) all
            (All-cons (λ (e : ℕ × ℕ). e.0 ≤ next) (next, act) [] (omega arith) (All-nil (λ (e : ℕ × ℕ). e.0 ≤ next))))
        | inr n ↦ rw n (joined_up next act t.waiting all)
      ]

  line_holds : (last : Option ℕ) → Holds a (took last t) (log ++ last ∷ [])
  line_holds None = record { lines = next_lines None; low = omega arith; below = raised t.lines next t.waiting up h.below; early = none_early }
  line_holds (Some act) = record { lines = next_lines (Some act); low = omega arith; below = some_up act; early = some_early act t.waiting refl }

  acts_hold : (acts : ℕ) → acts ≤ a → Holds a (acknowledged_of acts t) log
  acts_hold acts le = record {
    lines = h.lines;
    low = h.low;
    below = All-filter (λ (e : ℕ × ℕ). ltb acts e.1) (λ (e : ℕ × ℕ). e.0 ≤ t.lines) t.waiting h.below;
    early = subst (λ (ws : List (ℕ × ℕ)). done t.lines ws ≤ first_done a log) (sym (twice acts a t.waiting le)) h.early;
  }

-- ---- all steps

steps_hold : (a : ℕ) (steps : List TakenStep) (t : TakenView) (log : List (Option ℕ)) → Holds a t log → AreBelow a steps
    → Holds a (fold taken_step t steps) (log ++ lines_in steps)
steps_hold a [] t log h low = subst (Holds a t) (sym (append-nil log)) h
steps_hold a (Line last ∷ steps) t log h low =
    subst (Holds a (fold taken_step (took last t) steps)) (append_assoc log (last ∷ []) (lines_in steps))
    (steps_hold a steps (took last t) (log ++ last ∷ []) (line_holds a t log h last) low)
steps_hold a (Acknowledged acts ∷ steps) t log h low = steps_hold a steps (acknowledged_of acts t) log (acts_hold a t log h acts low.0) low.1

nothing_holds : (a : ℕ) → Holds a nothing_taken []
nothing_holds a = record { lines = inl refl; low = omega arith; below = All-nil (λ (e : ℕ × ℕ). e.0 ≤ 0); early = omega arith }

pub never_early : NeverTooEarly
never_early steps a low = (steps_hold a steps nothing_taken [] (nothing_holds a) low).early

-- ---- the case that as many wait as are kept apart

pub joined_is : (line act : ℕ) (items kept pushed : List (ℕ × ℕ)) (last before most : ℕ) → most_waiting ≤ length items → items ≡ kept ++ (last, before) ∷ []
    → pushed ≡ kept ++ (last, most) ∷ [] → most ≡ max before act → pushed ≡ waits_for line act items
joined_is line act items kept pushed last before most full is was m =
    let past : ltb (length items) most_waiting ≡ false = le-ltb (length items) most_waiting full in
    was
    ∙ ap (λ (k : ℕ). kept ++ (last, k) ∷ []) m
    ∙ sym (joined_last act kept (last, before))
    ∙ ap (joined act) (sym is)
    ∙ sym (rw past refl)
