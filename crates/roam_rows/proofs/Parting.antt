-- A boundary of a row that is cut.
use Rattle.std.proofs.Common.{◌≡◌, ◌≢◌, ℕ, zero, suc, ◌+◌, ◌-◌, ◌<◌, ◌≤◌, inl, inr, Bool, true, false, not, cond, ◌&&◌, ◌||◌, List, [], ◌∷◌, length, get_or, set, refl, sym, ap, ◌∙◌, arith, length-set, get_or-set_same, get_or-set_other}
use Rattle.std.proofs.lemmas.Bool.{false≢true, cases_lt, cases_eq}
use Rattle.std.proofs.lemmas.Grind.{common_steps}
use Rattle.roam_cells.specs.Glyph.{Glyph, is_wide, is_right_half, space_in, blank}
use Rattle.roam_cells.specs.Place.{glyph_at, IsWholeRow}
use Rattle.roam_rows.specs.Row.{mended_glyph}
use Rattle.roam_rows.specs.Halves.{AreParted, cut_at, cut_twice, cut_unguarded}
use Rattle.roam_rows.proofs.Mending.{mended_same, mended-mended, by_left, by_right}

hit : (col c : ℕ) → c ≡ col → cut_at col c ≡ true
hit col c p = grind (arith, common_steps)

pub miss : (col c : ℕ) → c ≢ col → cut_at col c ≡ false
miss col c p = grind (arith, common_steps)

not_or : (a b : Bool) → (not a && not b) ≡ not (a || b)
not_or true b = refl
not_or false b = refl

guard_by : (x : Glyph) (a b : Bool) → (cond a (space_in x) (cond b (space_in x) x)).guarded ≡ x.guarded
guard_by x true b = refl
guard_by x false true = refl
guard_by x false false = refl

pub past_end : (xs : List Glyph) (c : ℕ) → length xs ≤ c → glyph_at xs c ≡ blank
past_end [] c h = refl
past_end (x ∷ xs) zero h = absurd (omega arith)
past_end (x ∷ xs) (suc c) h = past_end xs c (omega arith)

-- two cells that are made spaces
module _ (col : ℕ) (old : List Glyph) (right left : Glyph) where
  pub part_is : 0 < col → col < length old → IsWholeRow old
      → is_right_half right ≡ true → right ≡ glyph_at old col → left ≡ glyph_at old (col - 1)
      → AreParted (cut_at col) old (set (set old (col - 1) (space_in left)) col (space_in right))
  part_is pos col_in whole half right_is left_is =
      let one = set old (col - 1) (space_in left) in
      let half_at : is_right_half (glyph_at old col) ≡ true = ap is_right_half (sym right_is) ∙ half in
      let wide_at : is_wide (glyph_at old (col - 1)) ≡ true = ((whole col col_in).half half_at).1 in
      record {
        len = length-set one col (space_in right) ∙ length-set old (col - 1) (space_in left);
        each = λ c q.
            let x = glyph_at old c in
            elim (cases_eq c col) [
              | inl e ↦
                  ap (λ k. get_or (set one col (space_in right)) k blank) e ∙ get_or-set_same one col (space_in right) blank (omega (arith, length-set old (col - 1) (space_in left)))
                  ∙ ap space_in (right_is ∙ ap (glyph_at old) (sym e))
                  ∙ sym (ap (λ b. mended_glyph x (not (cut_at col (c + 1))) (not b)) (hit col c e) ∙ by_right x (not (cut_at col (c + 1))) (ap (λ k. is_right_half (glyph_at old k)) e ∙ half_at))
              | inr other ↦
                  let moved_on : get_or (set one col (space_in right)) c blank ≡ get_or one c blank = get_or-set_other one col c (space_in right) blank other in
                  elim (cases_eq (c + 1) col) [
                    | inl e ↦
                        let at : c ≡ col - 1 = omega arith in
                        moved_on ∙ ap (λ k. get_or one k blank) at ∙ get_or-set_same old (col - 1) (space_in left) blank (omega arith)
                        ∙ ap space_in (left_is ∙ ap (glyph_at old) (sym at))
                        ∙ sym (ap (λ b. mended_glyph x (not b) (not (cut_at col c))) (hit col (c + 1) e) ∙ by_left x (not (cut_at col c)) (ap (λ k. is_wide (glyph_at old k)) at ∙ wide_at))
                    | inr apart ↦
                        moved_on ∙ get_or-set_other old (col - 1) c (space_in left) blank (λ h. apart (omega (arith, h)))
                        ∙ sym (mended_same x (not (cut_at col (c + 1))) (not (cut_at col c)) (λ w. ap not (miss col (c + 1) apart)) (λ w. ap not (miss col c other)))
                  ]
            ];
      }

-- no right half is in the column, or the row ends before it
pub part_none : (col : ℕ) (old : List Glyph) → IsWholeRow old → (0 < col → col < length old → is_right_half (glyph_at old col) ≡ false) → AreParted (cut_at col) old old
part_none col old whole none = record {
  len = refl;
  each = λ c q. sym (mended_same (glyph_at old c) (not (cut_at col (c + 1))) (not (cut_at col c))
      (λ w. ap not (miss col (c + 1) (λ e.
      let next = (whole c q).wide w in
      absurd (false≢true (sym (none (omega arith) (omega (arith, next.0))) ∙ ap (λ k. is_right_half (glyph_at old k)) (sym e) ∙ ap is_right_half next.1)))))
      (λ w. ap not (miss col c (λ e.
      let before = (whole c q).half w in
      absurd (false≢true (sym (none (omega (arith, before.0)) (omega arith)) ∙ ap (λ k. is_right_half (glyph_at old k)) (sym e) ∙ w))))));
}

-- no boundary within the row is cut
pub uncut : (cut : ℕ → Bool) (old : List Glyph) → IsWholeRow old → ((c : ℕ) → c < length old → cut c ≡ false) → AreParted cut old old
uncut cut old whole none = record {
  len = refl;
  each = λ c q. sym (mended_same (glyph_at old c) (not (cut (c + 1))) (not (cut c)) (λ w. ap not (none (c + 1) (((whole c q).wide w).0))) (λ h. ap not (none c q)));
}

-- cuts one after the other
part_all : (one_cut other_cut : ℕ → Bool) (old mid new : List Glyph) → AreParted one_cut old mid → AreParted other_cut mid new → AreParted (λ c. one_cut c || other_cut c) old new
part_all one_cut other_cut old mid new one two = record {
  len = two.len ∙ one.len;
  each = λ c q.
      let x = glyph_at old c in
      two.each c (omega (arith, one.len)) ∙ ap (λ y. mended_glyph y (not (other_cut (c + 1))) (not (other_cut c))) (one.each c q)
      ∙ mended-mended x (not (one_cut (c + 1))) (not (one_cut c)) (not (other_cut (c + 1))) (not (other_cut c))
      ∙ ap (λ b. mended_glyph x b (not (one_cut c) && not (other_cut c))) (not_or (one_cut (c + 1)) (other_cut (c + 1)))
      ∙ ap (λ b. mended_glyph x (not (one_cut (c + 1) || other_cut (c + 1))) b) (not_or (one_cut c) (other_cut c));
}

pub part_both : (col last : ℕ) (old mid new : List Glyph) → AreParted (cut_at col) old mid → AreParted (cut_at last) mid new → AreParted (cut_twice col last) old new
part_both col last = part_all (cut_at col) (cut_at last)

-- mending keeps the guard
guard_kept : (x : Glyph) (a b : Bool) → (mended_glyph x a b).guarded ≡ x.guarded
guard_kept x a b = guard_by x (is_wide x && not a) (is_right_half x && not b)

pub guards_same : (cut : ℕ → Bool) (old new : List Glyph) → AreParted cut old new → (c : ℕ) → (glyph_at new c).guarded ≡ (glyph_at old c).guarded
guards_same cut old new parted c =
    elim (cases_lt c (length old)) [
      | inl q ↦ ap (λ (x : Glyph). x.guarded) (parted.each c q) ∙ guard_kept (glyph_at old c) (not (cut (c + 1))) (not (cut c))
      | inr q ↦ ap (λ (x : Glyph). x.guarded) (past_end new c (omega (arith, parted.len)) ∙ sym (past_end old c q))
    ]

cuts_same : (one_cut other_cut : ℕ → Bool) (old new : List Glyph) → ((c : ℕ) → one_cut c ≡ other_cut c) → AreParted one_cut old new → AreParted other_cut old new
cuts_same one_cut other_cut old new same parted = record {
  len = parted.len;
  each = λ c q.
      parted.each c q ∙ ap (λ b. mended_glyph (glyph_at old c) (not b) (not (one_cut c))) (same (c + 1)) ∙ ap (λ b. mended_glyph (glyph_at old c) (not (other_cut (c + 1))) (not b)) (same c);
}

-- the boundaries before two columns are cut unless the cells there are guarded
abbrev pub cut_open : List Glyph → ℕ → ℕ → ℕ → Bool
cut_open row from to c = cut_unguarded row from c || cut_unguarded row to c

pub part_open : (from to : ℕ) (old mid new : List Glyph) → AreParted (cut_unguarded old from) old mid → AreParted (cut_unguarded mid to) mid new → AreParted (cut_open old from to) old new
part_open from to old mid new one two =
    cuts_same (λ c. cut_unguarded old from c || cut_unguarded mid to c) (cut_open old from to) old new
    (λ c. ap (λ b. cut_unguarded old from c || (cut_at to c && not b)) (guards_same (cut_unguarded old from) old mid one c))
    (part_all (cut_unguarded old from) (cut_unguarded mid to) old mid new one two)

no_cut : (b : Bool) → (b && false) ≡ false
no_cut true = refl
no_cut false = refl

-- a guarded pair isn't parted
pub part_guarded : (col : ℕ) (row : List Glyph) → IsWholeRow row → (col < length row → (glyph_at row col).guarded ≡ true) → AreParted (cut_unguarded row col) row row
part_guarded col row whole guarded =
    uncut (cut_unguarded row col) row whole (λ c q.
    elim (cases_eq c col) [
      | inl e ↦ ap (λ b. cut_at col c && not b) (ap (λ k. (glyph_at row k).guarded) e ∙ guarded (omega arith)) ∙ no_cut (cut_at col c)
      | inr ne ↦ ap (λ b. b && not (glyph_at row c).guarded) (miss col c ne)
    ])
