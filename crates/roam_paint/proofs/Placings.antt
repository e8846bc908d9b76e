-- The cursor is placed exactly at the beginnings of widened runs.
use Rattle.std.proofs.Common.{◌≡◌, ◌≤◌, ◌<◌, ℕ, zero, suc, ◌+◌, ◌-◌, Bool, true, false, not, ◌&&◌, ◌||◌, inl, inr, List, [], ◌∷◌, ◌++◌, map, refl, sym, ap, ◌∙◌, subst, arith}
use Rattle.std.specs.Prelude.{◌⊎◌, if◌then◌else◌, nat_lt}
use Rattle.std.proofs.lemmas.Bool.{false≢true, cases_Bool, cases_lt, lt-ltb}
use Rattle.roam_cells.specs.Glyph.{is_wide, is_right_half}
use Rattle.roam_screens.specs.Screenshot.{Screenshot, IsScreenshot}
use Rattle.roam_cells.specs.declared.styles.Style.{Style}
use Rattle.roam_cells.specs.declared.styles.Colour.{Colour}
use Rattle.roam_cells.specs.declared.styles.Colour.TheVariants.{Default, Index, Rgb}
use Rattle.roam_text.specs.declared.functions.Function.{Function}
use Rattle.roam_text.specs.declared.functions.Function.TheVariants.{Print, Csi}
use Rattle.roam_cells.specs.Same.{same_style}
use Rattle.roam_term.specs.ControlFunctions.{place_cursor, set_mixture, restyle}
use Rattle.roam_paint.specs.Painting.{Places, differs, is_drawn, goes_on, placing, styling, drawn_cell, style_in, drawn_row, style_at, drawn_rows}
use Rattle.roam_term.specs.Ground.{shown_at}
use Rattle.roam_paint.specs.Runs.{BeginsRun, IsAmong, CursorIsPlacedByRuns}
use Rattle.roam_paint.proofs.Walk.{wide_text-some, drawn_second}
use Rattle.roam_paint.proofs.Whole.{wide_shown, half_shown}

-- ---- functions among others

among-left : (f : Function) (xs ys : List Function) → IsAmong f xs → IsAmong f (xs ++ ys)
among-left f [] ys h = absurd h
among-left f (x ∷ xs) ys h = elim h [ inl a ↦ inl a | inr b ↦ inr (among-left f xs ys b) ]

among-right : (f : Function) (xs ys : List Function) → IsAmong f ys → IsAmong f (xs ++ ys)
among-right f [] ys h = h
among-right f (x ∷ xs) ys h = inr (among-right f xs ys h)

among-either : (f : Function) (xs ys : List Function) → IsAmong f (xs ++ ys) → IsAmong f xs ⊎ IsAmong f ys
among-either f [] ys h = inr h
among-either f (x ∷ xs) ys h = elim h [
  | inl a ↦ inl (inl a)
  | inr b ↦ elim (among-either f xs ys b) [ inl c ↦ inl (inr c) | inr c ↦ inr c ]
]

abbrev last_of : Function → ℕ
last_of (Csi mark params inter last) = last
last_of f = 0

abbrev params_of : Function → List ℕ
params_of (Csi mark params inter last) = params.items
params_of f = []

abbrev head_of : List ℕ → ℕ
head_of [] = 0
head_of (x ∷ xs) = x

abbrev next_of : List ℕ → ℕ
next_of [] = 0
next_of (x ∷ xs) = head_of xs

place-same : (r c i j : ℕ) → place_cursor (r + 1) (c + 1) ≡ place_cursor (i + 1) (j + 1) → (r ≡ i) × (c ≡ j)
place-same r c i j e =
    let row : r + 1 ≡ i + 1 = ap (λ f. head_of (params_of f)) e in
    let col : c + 1 ≡ j + 1 = ap (λ f. next_of (params_of f)) e in
    (omega (arith, row), omega (arith, col))

no-mixture : (r c n : ℕ) (x : Colour) → IsAmong (place_cursor r c) (set_mixture n x) → ⊥
no-mixture r c n Default h = h
no-mixture r c n (Index k) h = h
no-mixture r c n (Rgb x y z) h = elim h [
  | inl e ↦ let last : 0x48 ≡ 0x6D = ap last_of e in omega (arith, last)
  | inr x ↦ x
]

no-style : (r c : ℕ) (s : Style) (b : Bool) → IsAmong (place_cursor r c) (if b then [] else restyle s) → ⊥
no-style r c s true h = h
no-style r c s false h = elim h [
  | inl e ↦ let last : 0x48 ≡ 0x6D = ap last_of e in omega (arith, last)
  | inr x ↦ elim (among-either (place_cursor r c) (set_mixture 38 s.foreground) (set_mixture 48 s.background) x) [
    | inl a ↦ no-mixture r c 38 s.foreground a
    | inr b ↦ no-mixture r c 48 s.background b
  ]
]

no-print : (r c : ℕ) (ps : List ℕ) → IsAmong (place_cursor r c) (map Print ps) → ⊥
no-print r c [] h = h
no-print r c (p ∷ ps) h = elim h [
  | inl e ↦ let last : 0x48 ≡ 0 = ap last_of e in omega (arith, last)
  | inr k ↦ no-print r c ps k
]

-- ---- the places at which the cursor is placed

module _ (d : ℕ → ℕ → Bool) (new : Places) where
  record IsPlaced (r c : ℕ) : Type 0 where
    pub drawn : is_drawn d new r c ≡ true
    pub starts : goes_on d r c ≡ false

  moved : (r c i j : ℕ) → r ≡ i → c ≡ j → IsPlaced i j → IsPlaced r c
  moved r c i j p q h = subst (λ x. IsPlaced x c) (sym p) (subst (IsPlaced i) (sym q) h)

  cell-among : (r c i j : ℕ) (g : Style) → IsAmong (place_cursor (r + 1) (c + 1)) (drawn_cell d new i j g) → IsPlaced r c
  unfolding drawn_cell
  cell-among r c i j g h =
      let f = place_cursor (r + 1) (c + 1) in
      let chars = map Print (new i j).points in
      let set = styling (new i j).style g in
      let all = placing d i j ++ (set ++ chars) in
      elim (cases_Bool (is_drawn d new i j)) [
        | inr t ↦ absurd (subst (λ b. IsAmong f (if b then all else [])) t h)
        | inl t ↦
            elim (among-either f (placing d i j) (set ++ chars) (subst (λ b. IsAmong f (if b then all else [])) t h)) [
              | inr b ↦ elim (among-either f set chars b) [
                | inl s ↦ absurd (no-style (r + 1) (c + 1) (new i j).style (same_style (new i j).style g) s)
                | inr p ↦ absurd (no-print (r + 1) (c + 1) (new i j).points p)
              ]
              | inl a ↦
                  elim (cases_Bool (goes_on d i j)) [
                    | inl k ↦ absurd (subst (λ b. IsAmong f (if b then [] else place_cursor (i + 1) (j + 1) ∷ [])) k a)
                    | inr k ↦ elim (subst (λ b. IsAmong f (if b then [] else place_cursor (i + 1) (j + 1) ∷ [])) k a) [
                      | inl e ↦ let same = place-same r c i j e in moved r c i j same.0 same.1 (record { drawn = t; starts = k })
                      | inr x ↦ absurd x
                    ]
                  ]
            ]
      ]

  row-among : (r c i : ℕ) (g : Style) (k : ℕ) → IsAmong (place_cursor (r + 1) (c + 1)) (drawn_row d new i g k) → IsPlaced r c
  row-among r c i g zero h = absurd h
  row-among r c i g (suc k) h =
      elim (among-either (place_cursor (r + 1) (c + 1)) (drawn_row d new i g k) (drawn_cell d new i k (style_in d new i g k)) h) [
        | inl a ↦ row-among r c i g k a
        | inr b ↦ cell-among r c i k (style_in d new i g k) b
      ]

  rows-among : (r c cols n : ℕ) → IsAmong (place_cursor (r + 1) (c + 1)) (drawn_rows d new cols n) → IsPlaced r c
  rows-among r c cols zero h = absurd h
  rows-among r c cols (suc n) h =
      elim (among-either (place_cursor (r + 1) (c + 1)) (drawn_rows d new cols n) (drawn_row d new n (style_at d new cols n) cols) h) [
        | inl a ↦ rows-among r c cols n a
        | inr b ↦ row-among r c n (style_at d new cols n) cols b
      ]

  cell-places : (r c : ℕ) (g : Style) → IsPlaced r c → IsAmong (place_cursor (r + 1) (c + 1)) (drawn_cell d new r c g)
  unfolding drawn_cell
  cell-places r c g h =
      let f = place_cursor (r + 1) (c + 1) in
      let more = styling (new r c).style g ++ map Print (new r c).points in
      subst (λ b. IsAmong f (if b then placing d r c ++ more else [])) (sym h.drawn)
      (among-left f (placing d r c) more (subst (λ b. IsAmong f (if b then [] else f ∷ [])) (sym h.starts) (inl refl)))

  row-places : (r c : ℕ) (g : Style) (k : ℕ) → c < k → IsPlaced r c → IsAmong (place_cursor (r + 1) (c + 1)) (drawn_row d new r g k)
  row-places r c g zero low h = absurd (omega (arith, low))
  row-places r c g (suc k) low h =
      let f = place_cursor (r + 1) (c + 1) in
      let s = style_in d new r g k in
      elim (cases_lt c k) [
        | inl a ↦ among-left f (drawn_row d new r g k) (drawn_cell d new r k s) (row-places r c g k a h)
        | inr a ↦
            let e : c ≡ k = omega (arith, low, a) in
            among-right f (drawn_row d new r g k) (drawn_cell d new r k s) (subst (λ x. IsAmong f (drawn_cell d new r x s)) e (cell-places r c s h))
      ]

  rows-places : (r c cols n : ℕ) → r < n → c < cols → IsPlaced r c → IsAmong (place_cursor (r + 1) (c + 1)) (drawn_rows d new cols n)
  rows-places r c cols zero low narrow h = absurd (omega (arith, low))
  rows-places r c cols (suc n) low narrow h =
      let f = place_cursor (r + 1) (c + 1) in
      let g = style_at d new cols n in
      elim (cases_lt r n) [
        | inl a ↦ among-left f (drawn_rows d new cols n) (drawn_row d new n g cols) (rows-places r c cols n a narrow h)
        | inr a ↦
            let e : r ≡ n = omega (arith, low, a) in
            among-right f (drawn_rows d new cols n) (drawn_row d new n g cols) (subst (λ x. IsAmong f (drawn_row d new x g cols)) e (row-places r c g cols narrow h))
      ]

-- ---- a run from its first place on

module _ (d : ℕ → ℕ → Bool) (cols r from : ℕ) where
  record IsFront (to : ℕ) : Type 0 where
    pub some : from < to
    pub inside : to ≤ cols
    pub all : (c : ℕ) → from ≤ c → c < to → d r c ≡ true

  record IsWhole : Type 0 where
    pub to : ℕ
    pub front : IsFront to
    pub most : to < cols → d r to ≡ false

  longest : (n k : ℕ) → k + n ≡ cols → IsFront k → IsWhole
  longest zero k e front = record { to = k; front = front; most = λ h. absurd (omega (arith, e, h)) }
  longest (suc n) k e front =
      elim (cases_Bool (d r k)) [
        | inr same ↦ record { to = k; front = front; most = λ h. same }
        | inl differing ↦
            let some = front.some in
            longest n (k + 1) (omega (arith, e))
            (record {
              some = omega (arith, some);
              inside = omega (arith, e);
              all = λ c low high. elim (cases_lt c k) [
                | inl a ↦ front.all c low a
                | inr a ↦ let same : c ≡ k = omega (arith, high, a) in ap (d r) same ∙ differing
              ];
            })
      ]

  whole : from < cols → d r from ≡ true → IsWhole
  whole inside differing =
      longest (cols - (from + 1)) (from + 1) (omega (arith, inside))
      (record {
        some = omega arith;
        inside = omega (arith, inside);
        all = λ c low high. let same : c ≡ from = omega (arith, low, high) in ap (d r) same ∙ differing;
      })

-- ---- both ways

drawn_first : (h a w b : Bool) → h ≡ false → a ≡ true → (not h && (a || (w && b))) ≡ true
drawn_first true a w b p q = absurd (false≢true (sym p))
drawn_first false true w b p q = refl
drawn_first false false w b p q = absurd (false≢true q)

drawn_half : (h b : Bool) → (not h && b) ≡ true → h ≡ false
drawn_half true b e = absurd (false≢true e)
drawn_half false b e = refl

drawn_wide : (h a w b : Bool) → (not h && (a || (w && b))) ≡ true → a ≡ false → (w ≡ true) × (b ≡ true)
drawn_wide true a w b e k = absurd (false≢true e)
drawn_wide false true w b e k = absurd (false≢true (sym k))
drawn_wide false false true b e k = (refl, e)
drawn_wide false false false b e k = absurd (false≢true e)

before_start : (z a b : Bool) → (z && (a && b)) ≡ false → z ≡ true → b ≡ true → a ≡ false
before_start true true true e p q = absurd (false≢true (sym e))
before_start true false b e p q = refl
before_start true true false e p q = absurd (false≢true q)
before_start false a b e p q = absurd (false≢true p)

starts_after : (z a b : Bool) → a ≡ false → (z && (a && b)) ≡ false
starts_after true true b e = absurd (false≢true (sym e))
starts_after true false b e = refl
starts_after false a b e = refl

starts_new : (z a b : Bool) → b ≡ false → (z && (a && b)) ≡ false
starts_new z a true e = absurd (false≢true (sym e))
starts_new true true false e = refl
starts_new true false false e = refl
starts_new false a false e = refl

module _ (old new : Screenshot) (painting : IsScreenshot new) where
  abbrev d : ℕ → ℕ → Bool
  d = differs old new

  abbrev at : Places
  at = shown_at new

  begins-here : (r c : ℕ) → c < new.cols → IsPlaced d at r c → BeginsRun old new r c
  begins-here r c inside h =
      elim (cases_Bool (d r c)) [
        | inl differing ↦
            let run = whole d new.cols r c inside differing in
            record {
              from = c;
              to = run.to;
              run = record {
                some = run.front.some;
                inside = run.front.inside;
                all = run.front.all;
                least = λ low. before_start (nat_lt 0 c) (d r (c - 1)) (d r c) h.starts (lt-ltb 0 c low) differing;
                most = run.most;
              };
              widened = sym (ap (λ b. if b then c - 1 else c) (drawn_half (is_right_half (at r c)) (d r c || (is_wide (at r c) && d r (c + 1))) h.drawn));
            }
        | inr same ↦
            let both = drawn_wide (is_right_half (at r c)) (d r c) (is_wide (at r c)) (d r (c + 1)) h.drawn same in
            let half = wide_shown new painting r c both.0 in
            let run = whole d new.cols r (c + 1) half.0 both.1 in
            let back : c + 1 - 1 ≡ c = omega arith in
            record {
              from = c + 1;
              to = run.to;
              run = record {
                some = run.front.some;
                inside = run.front.inside;
                all = run.front.all;
                least = λ low. ap (d r) back ∙ same;
                most = run.most;
              };
              widened = sym (ap (λ x. if is_right_half x then c + 1 - 1 else c + 1) half.1 ∙ back);
            }
      ]

  places-here : (r c : ℕ) → BeginsRun old new r c → IsPlaced d at r c
  places-here r c h =
      let from = h.from in
      let run = h.run in
      let some = run.some in
      let differing : d r from ≡ true = run.all from (omega arith) some in
      elim (cases_Bool (is_right_half (at r from))) [
        | inl half ↦
            let left = half_shown new painting r from half in
            let low = left.0 in
            let on : from - 1 + 1 ≡ from = omega (arith, low) in
            moved d at r c r (from - 1) refl (h.widened ∙ ap (λ b. if b then from - 1 else from) half)
            (record {
              drawn = drawn_second (is_right_half (at r (from - 1))) (d r (from - 1)) (is_wide (at r (from - 1))) (d r (from - 1 + 1))
                  (wide_text-some (at r (from - 1)).points left.1) left.1 (ap (d r) on ∙ differing);
              starts = starts_new (nat_lt 0 (from - 1)) (d r (from - 1 - 1)) (d r (from - 1)) (run.least low);
            })
        | inr full ↦
            moved d at r c r from refl (h.widened ∙ ap (λ b. if b then from - 1 else from) full)
            (record {
              drawn = drawn_first (is_right_half (at r from)) (d r from) (is_wide (at r from)) (d r (from + 1)) full differing;
              starts = elim (cases_lt 0 from) [
                | inl low ↦ starts_after (nat_lt 0 from) (d r (from - 1)) (d r from) (run.least low)
                | inr none ↦
                    let zero_is : from ≡ 0 = omega (arith, none) in
                    ap (λ x. nat_lt 0 x && (d r (from - 1) && d r from)) zero_is
              ];
            })
      ]

pub cursor_is_placed_by_runs : CursorIsPlacedByRuns
cursor_is_placed_by_runs old new painting r c r_in c_in = record {
  placed = λ h. rows-places (differs old new) (shown_at new) r c new.cols new.rows r_in c_in (places-here old new painting r c h);
  begins = λ h. begins-here old new painting r c c_in (rows-among (differs old new) (shown_at new) r c new.cols new.rows h);
}
