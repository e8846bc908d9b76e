-- Lines of rows that are written one after another.
use Rattle.std.proofs.Common.{◌≡◌, true, ◌⊎◌, inl, inr, ℕ, ◌+◌, ◌≤◌, ◌<◌, List, min, [], ◌∷◌, ◌++◌, length, take, take_all, replicate, length-append, refl, sym, ap, ◌∙◌, arith, append_assoc}
use Rattle.std.specs.List.{flat_map}
use Rattle.std.proofs.lemmas.Bool.{cases_lt}
use Rattle.std.proofs.lemmas.List.{append-nil, take-append-le}
use Rattle.std.proofs.lemmas.List.Concat.{flat_map-append}
use Rattle.std.proofs.Math.Seq.{take-append-add}
use Rattle.roam_cells.specs.Glyph.{Glyph, blank}
use Rattle.roam_scrollback.specs.Lines.{LeftRow, LinesView, line_of, most_kept, most_lost, newest, text_row, Writes}
use Rattle.roam_scrollback.specs.RowText.{line_text}
use Rattle.roam_scrollback.specs.Wraps.{is_on}
use Rattle.roam_scrollback.specs.declared.wraps.Wrap.{Wrap}
use Rattle.roam_scrollback.proofs.Keeping.{keeps-all, keeps-then, newest-twice}
use Rattle.roam_scrollback.proofs.RowTexts.{line-blanks}

-- a row that was lent without blanks at its end was written
pub wrote : (old new : LinesView) (wrap : Wrap) (xs : List Glyph) (n : ℕ) → (is_on wrap ≡ true → n ≡ 0) → old.lost ≡ 0
    → new ≡ record old { text = old.text ++ line_text wrap xs; count = old.count + 1; kept = new.kept }
    → new.kept ≡ newest most_kept (old.kept ++ text_row (record { wrap = wrap; cells = xs ++ replicate n blank }) ∷ [])
    → Writes old new (record { wrap = wrap; cells = xs ++ replicate n blank } ∷ [])
wrote old new wrap xs n full none is keeps = record {
  written = 1;
  few = omega arith;
  text =
      ap (λ (v : LinesView). v.text) is
      ∙ ap (λ l. old.text ++ l) (sym (append-nil (line_text wrap xs)))
      ∙ ap (λ l. old.text ++ (l ++ [])) (sym (line-blanks wrap xs n full));
  count = ap (λ (v : LinesView). v.count) is;
  lost = ap (λ (v : LinesView). v.lost) is ∙ omega (arith, none);
  none = λ p. absurd (omega (arith, p, none));
  kept = λ _. ap (newest most_kept) keeps
      ∙ newest-twice most_kept (old.kept ++ text_row (record { wrap = wrap; cells = xs ++ replicate n blank }) ∷ []);
  none_kept = λ h. absurd (omega (arith, h));
  same_kept = λ e. cc;
}

-- a row was lost
pub lost-one : (old mid new : LinesView) (row : LeftRow) → mid ≡ record old { kept = mid.kept }
    → new ≡ record mid { lost = min most_lost (mid.lost + 1); kept = [] } → Writes old new (row ∷ [])
lost-one old mid new row same is = record {
  written = 0;
  few = omega arith;
  text = ap (λ (v : LinesView). v.text) is ∙ ap (λ (v : LinesView). v.text) same ∙ sym (append-nil old.text);
  count = ap (λ (v : LinesView). v.count) is ∙ ap (λ (v : LinesView). v.count) same ∙ omega arith;
  lost = ap (λ (v : LinesView). v.lost) is ∙ ap (λ (v : LinesView). min most_lost (v.lost + 1)) same;
  none = λ _. refl;
  kept = λ h. let lost = ap (λ (v : LinesView). v.lost) is in absurd (omega (arith, lost, h));
  none_kept = λ _. ap (λ (v : LinesView). v.kept) is;
  same_kept = λ e. cc;
}

-- nothing came
pub writes-none : (v : LinesView) → v.lost ≤ most_lost → Writes v v []
writes-none v fits = record {
  written = 0;
  few = omega arith;
  text = sym (append-nil v.text);
  count = omega arith;
  lost = omega (arith, fits);
  none = λ p. refl;
  kept = λ _. keeps-all v.kept;
  none_kept = λ h. absurd (omega (arith, h));
  same_kept = λ _. refl;
}

-- all of the first part, or nothing of the second
parts : (xs ys : List LeftRow) (m n : ℕ) → (m ≡ length xs) ⊎ ((n ≡ 0) × (m ≤ length xs)) → take m xs ++ take n ys ≡ take (m + n) (xs ++ ys)
parts xs ys m n (inl e) =
    ap (λ l. l ++ take n ys) (take_all m xs (omega (arith, e)))
    ∙ sym (ap (λ k. take (k + n) (xs ++ ys)) e ∙ take-append-add xs ys n)
parts xs ys m n (inr h) =
    let plus : m + n ≡ m = omega (arith, h.0) in
    ap (λ k. take m xs ++ take k ys) h.0 ∙ append-nil (take m xs)
    ∙ sym (ap (λ k. take k (xs ++ ys)) plus ∙ take-append-le m xs ys h.1)

-- rows came, and then more
module _ (a b c : LinesView) (xs ys : List LeftRow) (p : Writes a b xs) (q : Writes b c ys) where
  all_or_none : (p.written ≡ length xs) ⊎ ((q.written ≡ 0) × (p.written ≤ length xs))
  all_or_none = elim (cases_lt p.written (length xs)) [
    | inl h ↦ inr (q.none (omega (arith, p.lost, h)), p.few)
    | inr h ↦ inl (omega (arith, h, p.few))
  ]

  long : length (xs ++ ys) ≡ length xs + length ys
  long = length-append xs ys

  nothing : (xs ys : List LeftRow) → xs ++ ys ≡ [] → (xs ≡ []) × (ys ≡ [])
  nothing [] ys e = (refl, e)
  nothing (x ∷ xs) ys e = cc

  empty : (ys : List LeftRow) → length ys ≡ 0 → ys ≡ []
  empty [] e = refl
  empty (y ∷ ys) e = absurd (omega (arith, e))

  -- a row of either part was lost
  unkept : p.written + q.written < length xs + length ys → c.kept ≡ []
  unkept less = elim (cases_lt q.written (length ys)) [
    | inl h ↦ q.none_kept h
    | inr h ↦ q.same_kept (empty ys (all-lost h)) ∙ p.none_kept (omega (arith, less, h, q.few))
  ]
    where
      all-lost : length ys ≤ q.written → length ys ≡ 0
      all-lost h =
          let first : p.written < length xs = omega (arith, less, h, q.few) in
          let none = q.none (omega (arith, p.lost, first)) in omega (arith, h, none)

  pub writes-then : Writes a c (xs ++ ys)
  writes-then = record {
    written = p.written + q.written;
    few = omega (arith, long, p.few, q.few);
    text =
        q.text ∙ ap (λ l. l ++ flat_map line_of (take q.written ys)) p.text
        ∙ append_assoc a.text (flat_map line_of (take p.written xs)) (flat_map line_of (take q.written ys))
        ∙ ap (λ l. a.text ++ l) (sym (flat_map-append line_of (take p.written xs) (take q.written ys)))
        ∙ ap (λ l. a.text ++ flat_map line_of l) (parts xs ys p.written q.written all_or_none);
    count = omega (arith, p.count, q.count);
    lost = omega (arith, p.lost, q.lost, long, p.few, q.few);
    none = λ h. omega (arith, p.none h, q.none (omega (arith, h, p.lost)));
    kept = λ h. keeps-then a.kept b.kept c.kept xs ys (p.kept (omega (arith, h, q.lost))) (q.kept h);
    none_kept = λ h. unkept (omega (arith, h, long));
    same_kept = λ e. q.same_kept (nothing xs ys e).1 ∙ p.same_kept (nothing xs ys e).0;
  }
