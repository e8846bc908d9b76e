-- The results of functions and of strings, in the order of the bytes: none is lost, and none doubled.
use Rattle.std.proofs.Common.{◌≡◌, ◌+◌, ℕ, List, [], ◌∷◌, ◌++◌, length, length-append, drop, refl, sym, ap, ◌∙◌, arith, append_assoc}
use Rattle.std.proofs.lemmas.List.{append-nil}
use Rattle.std.proofs.Math.Seq.{drop-append_seam, drop-length}
use Rattle.roam_pane_metadata.specs.InOrder.{behind, in_order, later_in_order, next_in_order}

none-more : {A : Type 0} (xs : List A) → length xs ≡ 0 → xs ≡ []
none-more [] none = refl
none-more (x ∷ xs) none = absurd (omega (arith, none))

-- a list that grows twice and stays equal did not grow
grew-none : {A : Type 0} (xs a b mid : List A) → mid ≡ xs ++ a → mid ++ b ≡ xs → mid ≡ xs
grew-none xs a b mid is back =
    let one : length mid ≡ length xs + length a = ap length is ∙ length-append xs a in
    let two : length mid + length b ≡ length xs = sym (length-append mid b) ∙ ap length back in
    is ∙ ap (λ l. xs ++ l) (none-more a (omega (arith, one, two))) ∙ append-nil xs

none-behind : {A : Type 0} (xs ys : List A) → ys ≡ xs → behind xs ys ≡ []
none-behind xs ys same = ap (λ l. drop (length xs) l) same ∙ drop-length xs

module _ {A : Type 0} (fs ss : List ℕ → List A) where
  -- the additions of bytes, and of those behind them
  pub later-behind : (before xs ys : List ℕ)
      → later_in_order fs ss before (xs ++ ys) ≡ later_in_order fs ss before xs ++ later_in_order fs ss (before ++ xs) ys
  later-behind before [] ys = ap (λ l. later_in_order fs ss l ys) (sym (append-nil before))
  later-behind before (b ∷ xs) ys =
      ap (λ l. next_in_order fs ss before b ++ l) (later-behind (before ++ b ∷ []) xs ys)
      ∙ ap (λ l. next_in_order fs ss before b ++ (later_in_order fs ss (before ++ b ∷ []) xs ++ later_in_order fs ss l ys))
      (append_assoc before (b ∷ []) xs)
      ∙ sym (append_assoc (next_in_order fs ss before b) (later_in_order fs ss (before ++ b ∷ []) xs)
      (later_in_order fs ss (before ++ b ∷ xs) ys))

  pub byte-behind : (bytes : List ℕ) (b : ℕ) → in_order fs ss (bytes ++ b ∷ []) ≡ in_order fs ss bytes ++ next_in_order fs ss bytes b
  byte-behind bytes b = later-behind [] bytes (b ∷ []) ∙ ap (λ l. in_order fs ss bytes ++ l) (append-nil (next_in_order fs ss bytes b))

  -- a byte's additions are those that it adds to both lists
  pub next-is : (bytes : List ℕ) (b : ℕ) (f s : List A) → fs (bytes ++ b ∷ []) ≡ fs bytes ++ f → ss (bytes ++ b ∷ []) ≡ ss bytes ++ s
      → next_in_order fs ss bytes b ≡ f ++ s
  next-is bytes b f s ef es =
      ap (λ l. behind (fs bytes) l ++ behind (ss bytes) (ss (bytes ++ b ∷ []))) ef
      ∙ ap (λ l. l ++ behind (ss bytes) (ss (bytes ++ b ∷ []))) (drop-append_seam (fs bytes) f)
      ∙ ap (λ l. f ++ behind (ss bytes) l) es
      ∙ ap (λ l. f ++ l) (drop-append_seam (ss bytes) s)

  module _ (fs-grow : (before more : List ℕ) → (later : List A) × (fs (before ++ more) ≡ fs before ++ later))
      (ss-grow : (before more : List ℕ) → (later : List A) × (ss (before ++ more) ≡ ss before ++ later)) where
    -- bytes that add nothing to either add nothing
    pub none-later : (before run : List ℕ) → fs (before ++ run) ≡ fs before → ss (before ++ run) ≡ ss before
        → later_in_order fs ss before run ≡ []
    none-later before [] f s = refl
    none-later before (b ∷ run) f s =
        let mid = before ++ b ∷ [] in
        let whole = append_assoc before (b ∷ []) run in
        let f1 = fs-grow before (b ∷ []) in
        let f2 = fs-grow mid run in
        let s1 = ss-grow before (b ∷ []) in
        let s2 = ss-grow mid run in
        let fun : fs mid ≡ fs before = grew-none (fs before) f1.0 f2.0 (fs mid) f1.1 (sym f2.1 ∙ ap fs whole ∙ f) in
        let str : ss mid ≡ ss before = grew-none (ss before) s1.0 s2.0 (ss mid) s1.1 (sym s2.1 ∙ ap ss whole ∙ s) in
        ap (λ l. (l ++ behind (ss before) (ss mid)) ++ later_in_order fs ss mid run) (none-behind (fs before) (fs mid) fun)
        ∙ ap (λ l. l ++ later_in_order fs ss mid run) (none-behind (ss before) (ss mid) str)
        ∙ none-later mid run (ap fs whole ∙ f ∙ sym fun) (ap ss whole ∙ s ∙ sym str)

    all-counted : (before more : List ℕ)
        → (length (fs before) + length (ss before)) + length (later_in_order fs ss before more)
        ≡ length (fs (before ++ more)) + length (ss (before ++ more))
    all-counted before [] =
        let same = append-nil before in
        let f : length (fs (before ++ [])) ≡ length (fs before) = ap (λ l. length (fs l)) same in
        let s : length (ss (before ++ [])) ≡ length (ss before) = ap (λ l. length (ss l)) same in
        omega (arith, f, s)
    all-counted before (b ∷ more) =
        let mid = before ++ b ∷ [] in
        let f = fs-grow before (b ∷ []) in
        let s = ss-grow before (b ∷ []) in
        let fun : length (fs mid) ≡ length (fs before) + length f.0 = ap length f.1 ∙ length-append (fs before) f.0 in
        let str : length (ss mid) ≡ length (ss before) + length s.0 = ap length s.1 ∙ length-append (ss before) s.0 in
        let next : length (next_in_order fs ss before b) ≡ length f.0 + length s.0 =
        ap length (next-is before b f.0 s.0 f.1 s.1) ∙ length-append f.0 s.0 in
        let whole : length (later_in_order fs ss before (b ∷ more))
        ≡ length (next_in_order fs ss before b) + length (later_in_order fs ss mid more) =
        length-append (next_in_order fs ss before b) (later_in_order fs ss mid more) in
        let rest = all-counted mid more in
        let same = append_assoc before (b ∷ []) more in
        let ef : length (fs (mid ++ more)) ≡ length (fs (before ++ b ∷ more)) = ap (λ l. length (fs l)) same in
        let es : length (ss (mid ++ more)) ≡ length (ss (before ++ b ∷ more)) = ap (λ l. length (ss l)) same in
        omega (arith, fun, str, next, whole, rest, ef, es)

    -- as many as there are of both
    pub both-counted : fs [] ≡ [] → ss [] ≡ [] → (bytes : List ℕ) → length (in_order fs ss bytes) ≡ length (fs bytes) + length (ss bytes)
    both-counted none-f none-s bytes =
        let f : length (fs []) ≡ 0 = ap length none-f in
        let s : length (ss []) ≡ 0 = ap length none-s in
        let all = all-counted [] bytes in
        omega (arith, f, s, all)
