-- Whole rows: blanked, copied and turned.
use Rattle.std.proofs.Common.{◌≡◌, ◌≢◌, ℕ, ◌+◌, ◌-◌, ◌*◌, ◌<◌, ◌≤◌, inl, inr, List, length, get_or, set, max, refl, sym, ap, ◌∙◌, arith}
use Rattle.std.proofs.lemmas.Bool.{cases_lt, cases_eq}
use Rattle.std.proofs.lemmas.Grind.{common_steps}
use Rattle.std.specs.List.{CopiedTo, SameBelow, SameFrom}
use Rattle.roam_cells.specs.Glyph.{Glyph, blank}
use Rattle.roam_cells.specs.Place.{cell_at}
use Rattle.roam_rows.specs.Turned.{IsTurned, in_order, brought_back}
use Rattle.roam_rows.specs.Vertical.{AreBlanked, AreLifted, AreLowered}
use Rattle.roam_rows.specs.Kept.{AreLengths}
use Rattle.roam_rows.proofs.Turning.{turned_at, blanked_more}
use Rattle.roam_rows.proofs.Vertical.{rows_whole, blanked_whole, turned_by, next_in, gone_up}
use Rattle.roam_rows.proofs.Written.{still_lengths, past_length, row_here, rest_same}

-- one row becomes blank
module _ (rows cols first R at a u : ℕ) (old new : List Glyph) (lengths : List ℕ) (turned : IsTurned rows cols first old) (kept : AreLengths rows cols old lengths) (R_in : R < rows)
    (at_is : at ≡ brought_back rows (first + R)) (at_in : at < rows) (a_is : a ≡ at * cols) (u_is : u ≡ get_or lengths at 0) (len : length new ≡ length old)
    (before : (k : ℕ) → k < a → get_or new k blank ≡ get_or old k blank) (inside : (k : ℕ) → a ≤ k → k < a + u → get_or new k blank ≡ blank)
    (after : (k : ℕ) → a + u ≤ k → get_or new k blank ≡ get_or old k blank) where
  u_in : u ≤ cols
  u_in = omega (arith, u_is, kept.low at at_in)

  past : (k : ℕ) → a + cols ≤ k → get_or new k blank ≡ get_or old k blank
  past k h = after k (omega (arith, u_in))

  all : (c : ℕ) → c < cols → get_or new (a + c) blank ≡ blank
  all c q = elim (cases_lt c u) [
    | inl low ↦ inside (a + c) (omega arith) (omega arith)
    | inr high ↦ after (a + c) (omega arith) ∙ past_length rows cols at a c old lengths kept at_in a_is (omega (arith, u_is)) q
  ]

  pub row_blanked : AreBlanked rows cols R (R + 1) (in_order cols first old) (in_order cols first new)
  row_blanked =
      let others = rest_same rows cols first R at a old new lengths turned kept R_in at_is at_in a_is len before past in
      record {
        inside = λ r c p q h.
            let e : r ≡ R = omega arith in
            ap (λ j. cell_at cols (in_order cols first new) j c) e ∙ row_here rows cols first R at a old new lengths turned kept R_in at_is at_in a_is len before past c h ∙ all c h;
        above = λ r c p q. others r c (omega arith) q (λ e. absurd (omega arith));
        below = λ r c p h q. others r c h q (λ e. absurd (omega arith));
      }

  pub blank_kept : (IsTurned rows cols first new) × (AreLengths rows cols new (set lengths at 0))
  blank_kept = (
    turned_by rows cols first first old new turned len turned.first_in (blanked_whole rows cols R (R + 1) (in_order cols first old) (in_order cols first new) turned.whole row_blanked),
    still_lengths rows cols first R at a old new lengths turned kept R_in at_is at_in a_is len before past 0 (omega arith) (λ c p q. all c q),
  )

-- one row becomes what another is
module _ (rows cols first S T s t from to u : ℕ) (old new : List Glyph) (lengths : List ℕ) (turned : IsTurned rows cols first old) (kept : AreLengths rows cols old lengths) (S_in : S < rows) (T_in : T < rows)
    (s_is : s ≡ brought_back rows (first + S)) (s_in : s < rows) (t_is : t ≡ brought_back rows (first + T)) (t_in : t < rows) (from_is : from ≡ s * cols) (to_is : to ≡ t * cols)
    (u_is : u ≡ get_or lengths s 0) (len : length new ≡ length old)
    (before : (k : ℕ) → k < to → get_or new k blank ≡ get_or old k blank)
    (here : (c : ℕ) → c < cols → get_or new (to + c) blank ≡ get_or old (from + c) blank)
    (after : (k : ℕ) → to + cols ≤ k → get_or new k blank ≡ get_or old k blank) where
  pub copied_here : (c : ℕ) → c < cols → cell_at cols (in_order cols first new) T c ≡ cell_at cols (in_order cols first old) S c
  copied_here c q =
      row_here rows cols first T t to old new lengths turned kept T_in t_is t_in to_is len before after c q ∙ here c q
      ∙ sym (turned_at rows cols first old S c turned.size turned.first_in S_in q ∙ ap (λ j. cell_at cols old j c) (sym s_is) ∙ ap (λ j. get_or old (j + c) blank) (sym from_is))

  pub copied_other : (r c : ℕ) → r < rows → c < cols → r ≢ T → cell_at cols (in_order cols first new) r c ≡ cell_at cols (in_order cols first old) r c
  copied_other = rest_same rows cols first T t to old new lengths turned kept T_in t_is t_in to_is len before after

  pub copy_kept : (IsTurned rows cols first new) × (AreLengths rows cols new (set lengths t u))
  copy_kept = (
    turned_by rows cols first first old new turned len turned.first_in (rows_whole rows cols (in_order cols first old) (in_order cols first new) turned.whole (λ r p.
        elim (cases_eq r T) [
          | inl e ↦ inl (S, S_in, λ c q. ap (λ j. cell_at cols (in_order cols first new) j c) e ∙ copied_here c q)
          | inr ne ↦ inl (r, p, λ c q. copied_other r c p q ne)
        ])),
    still_lengths rows cols first T t to old new lengths turned kept T_in t_is t_in to_is len before after u (omega (arith, u_is, kept.low s s_in))
        (λ c p q. here c q ∙ past_length rows cols s from c old lengths kept s_in from_is (omega (arith, u_is)) q),
  )

round_index : (rows first n r : ℕ) → first < rows → n ≤ rows → r < rows → rows ≤ r + n → brought_back rows (brought_back rows (first + n) + r) ≡ brought_back rows (first + (r + n - rows))
round_index rows first n r p q h k = grind (arith, common_steps)

-- the rows begin later
module _ (rows cols first n next : ℕ) (buffer : List Glyph) (turned : IsTurned rows cols first buffer) (few : n ≤ rows) (next_is : next ≡ brought_back rows (first + n)) where
  pub goes_up : (r c : ℕ) → r + n < rows → c < cols → cell_at cols (in_order cols next buffer) r c ≡ cell_at cols (in_order cols first buffer) (r + n) c
  goes_up r c p q = ap (λ j. cell_at cols (in_order cols j buffer) r c) next_is ∙ gone_up rows cols first n buffer turned.size turned.first_in few r c p q

  low : next < rows
  low = omega (arith, next_is, next_in rows first n turned.first_in few)

  pub goes_round : (r c : ℕ) → r < rows → rows ≤ r + n → c < cols → cell_at cols (in_order cols next buffer) r c ≡ cell_at cols (in_order cols first buffer) (r + n - rows) c
  goes_round r c p h q =
      turned_at rows cols next buffer r c turned.size low p q
      ∙ ap (λ j. cell_at cols buffer (brought_back rows (j + r)) c) next_is
      ∙ ap (λ j. cell_at cols buffer j c) (round_index rows first n r turned.first_in few p h)
      ∙ sym (turned_at rows cols first buffer (r + n - rows) c turned.size turned.first_in (omega arith) q)

  pub turned_on : IsTurned rows cols next buffer
  turned_on =
      turned_by rows cols first next buffer buffer turned refl low
      (rows_whole rows cols (in_order cols first buffer) (in_order cols next buffer) turned.whole (λ r p.
      elim (cases_lt (r + n) rows) [
        | inl goes ↦ inl (r + n, goes, λ c q. goes_up r c goes q)
        | inr back ↦ inl (r + n - rows, omega arith, λ c q. goes_round r c p back q)
      ]))

-- one more row is blank
pub blanked_next : (rows cols from r : ℕ) (old mid new : List Glyph) → r < rows → from ≤ r → AreBlanked rows cols from r old mid → AreBlanked rows cols r (r + 1) mid new
    → AreBlanked rows cols from (r + 1) old new
blanked_next rows cols from r old mid new r_in low was one =
    blanked_more rows cols from r old mid new r_in was low (λ c q. one.inside r c (omega arith) (omega arith) q)
    (λ s c p q ne. elim (cases_lt s r) [
      | inl before ↦ one.above s c before q
      | inr after ↦ one.below s c (omega (arith, ne)) p q
    ])

pub blanked_none : (rows cols from : ℕ) (old : List Glyph) → AreBlanked rows cols from from old old
blanked_none rows cols from old = record {
  inside = λ r c p q h. absurd (omega arith);
  above = λ r c p q. refl;
  below = λ r c p h q. refl;
}

pub lifted_none : (rows cols from n : ℕ) (old : List Glyph) → AreLifted rows cols from from n old old
lifted_none rows cols from n old = record {
  inside = λ r c p q h. absurd (omega arith);
  above = λ r c p q. refl;
  below = λ r c p h q. refl;
}

pub lowered_none : (rows cols to n : ℕ) (old : List Glyph) → AreLowered rows cols to to n old old
lowered_none rows cols to n old = record {
  inside = λ r c p q h. absurd (omega arith);
  above = λ r c p q. refl;
  below = λ r c p h q. refl;
}

-- the cells in use of one row are copied, and the cells in use past them are blanked
module _ (rows cols first s t from to u v w : ℕ) (old mid new : List Glyph) (lengths : List ℕ) (turned : IsTurned rows cols first old) (kept : AreLengths rows cols old lengths)
    (s_in : s < rows) (t_in : t < rows) (from_is : from ≡ s * cols) (to_is : to ≡ t * cols) (u_is : u ≡ get_or lengths s 0) (v_is : v ≡ get_or lengths t 0) (w_is : w ≡ max u v)
    (copied : (CopiedTo old mid from to (from + u - from)) × (SameBelow old mid to) × (SameFrom old mid (to + (from + u - from))))
    (before : (k : ℕ) → k < to + u → get_or new k blank ≡ get_or mid k blank) (inside : (k : ℕ) → to + u ≤ k → k < to + w → get_or new k blank ≡ blank)
    (after : (k : ℕ) → to + w ≤ k → get_or new k blank ≡ get_or mid k blank) where
  size_is : from + u - from ≡ u
  size_is = omega arith

  few : u ≤ cols
  few = omega (arith, u_is, kept.low s s_in)

  few' : v ≤ cols
  few' = omega (arith, v_is, kept.low t t_in)

  pub copied_by : ((k : ℕ) → k < to → get_or new k blank ≡ get_or old k blank)
      × ((c : ℕ) → c < cols → get_or new (to + c) blank ≡ get_or old (from + c) blank)
      × ((k : ℕ) → to + cols ≤ k → get_or new k blank ≡ get_or old k blank)
  copied_by = (
    λ k h. before k (omega arith) ∙ copied.1 k blank h,
    λ c q. elim (cases_lt c u) [
      | inl low ↦
          let back : from + (to + c - to) ≡ from + c = omega arith in
          before (to + c) (omega arith) ∙ copied.0 (to + c) blank (omega arith) (omega (arith, size_is)) ∙ ap (λ j. get_or old j blank) back
      | inr high ↦
          elim (cases_lt c w) [
            | inl within ↦ inside (to + c) (omega arith) (omega arith)
            | inr past ↦
                after (to + c) (omega arith) ∙ copied.2 (to + c) blank (omega (arith, size_is))
                ∙ past_length rows cols t to c old lengths kept t_in to_is (omega (arith, v_is, w_is)) q
          ]
          ∙ sym (past_length rows cols s from c old lengths kept s_in from_is (omega (arith, u_is)) q)
    ],
    λ k h. after k (omega (arith, w_is, few, few')) ∙ copied.2 k blank (omega (arith, size_is, few)),
  )
