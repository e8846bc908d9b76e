-- Rows that become blank, go up and go down, in terms of the value alone.
use Rattle.std.proofs.Common.{◌≡◌, ℕ, ◌+◌, ◌-◌, ◌*◌, ◌<◌, ◌≤◌, inl, inr, min, List, length, sym, ap, ◌∙◌, arith}
use Rattle.std.proofs.lemmas.Bool.{cases_eq}
use Rattle.roam_cells.specs.Glyph.{Glyph}
use Rattle.roam_cells.specs.Place.{cell_at}
use Rattle.roam_rows.specs.Places.{mapped_cells}
use Rattle.roam_rows.specs.Turned.{brought_back}
use Rattle.roam_rows.specs.Rows.{Rows, AreRows, mapped_rows}
use Rattle.roam_rows.specs.Erasing.{rows_blanked}
use Rattle.roam_rows.specs.Scrolling.{up, down, all_up, all_down, turned_up, turned_down}
use Rattle.roam_rows.specs.Vertical.{AreBlanked, AreLifted, AreLowered, IsSameShape, AreTurned, IsCopied}
use Rattle.roam_rows.proofs.Edits.{rows_by}
use Rattle.roam_rows.proofs.Vertical.{rows_blanked_is, up_is, down_is}

-- rows are their parts
pub rows_are : (x : Rows) (r c f : ℕ) (l : List Glyph) → x.rows ≡ r → x.cols ≡ c → x.first ≡ f → x.cells ≡ l → x ≡ rows_by r c f l
rows_are x r c f l p q s t i = record { rows = p i; cols = q i; cells = t i; first = s i }

pub lifted_next : (rows cols from to r n : ℕ) (old mid new : List Glyph) → r < to → to + n ≤ rows → from ≤ r → AreLifted rows cols from r n old mid
    → ((c : ℕ) → c < cols → cell_at cols new r c ≡ cell_at cols mid (r + n) c)
    → ((s c : ℕ) → s < r → c < cols → cell_at cols new s c ≡ cell_at cols mid s c)
    → ((s c : ℕ) → r < s → s < rows → c < cols → cell_at cols new s c ≡ cell_at cols mid s c)
    → AreLifted rows cols from (r + 1) n old new
lifted_next rows cols from to r n old mid new r_in fits low was here below above = record {
  inside = λ s c p q h. elim (cases_eq s r) [
    | inl e ↦ ap (λ j. cell_at cols new j c) e ∙ here c h ∙ was.below (r + n) c (omega arith) (omega arith) h ∙ ap (λ j. cell_at cols old (j + n) c) (sym e)
    | inr ne ↦ below s c (omega arith) h ∙ was.inside s c p (omega arith) h
  ];
  above = λ s c p q. below s c (omega arith) q ∙ was.above s c p q;
  below = λ s c p h q. above s c (omega arith) h q ∙ was.below s c (omega arith) h q;
}

-- all rows went up
pub all_up_is : (n m : ℕ) (v w x : Rows) → AreRows v → AreRows x → m ≡ min n v.rows → AreTurned m v w → IsSameShape w x
    → AreBlanked w.rows w.cols (v.rows - m) v.rows w.cells x.cells → x ≡ all_up n v
all_up_is n m v w x h k m_is t s blanked' =
    let blanked = rw (t.rows, t.cols) at blanked' in
    let few : m ≤ v.rows = omega arith in
    let size : length x.cells ≡ v.rows * v.cols = k.size ∙ ap (λ j. j * x.cols) (s.rows ∙ t.rows) ∙ ap (λ j. v.rows * j) (s.cols ∙ t.cols) in
    rows_are x v.rows v.cols (turned_up v.rows n v.first) (mapped_cells v.rows v.cols v.cells (up 0 (v.rows - 1) n)) (s.rows ∙ t.rows) (s.cols ∙ t.cols)
    (s.first ∙ t.first ∙ ap (λ j. brought_back v.rows (v.first + j)) m_is)
    (up_is v.rows v.cols 0 (v.rows - 1) n m v.cells x.cells h.whole size (omega arith) (omega (arith, h.first_in)) (omega (arith, h.first_in))
    (λ r c p q. absurd (omega arith)) (λ r c p q j. absurd (omega arith))
    (λ r c p q j. blanked.above r c (omega (arith, h.first_in)) j ∙ t.up r c (omega (arith, h.first_in)) j)
    (λ r c p q j i. blanked.inside r c (omega (arith, h.first_in)) (omega (arith, h.first_in)) i))

-- rows between margins went up
pub region_up_is : (top bottom n m : ℕ) (v w x : Rows) → AreRows v → AreRows x → top ≤ bottom → bottom < v.rows → m ≡ min n (bottom + 1 - top) → IsSameShape v w → IsSameShape w x
    → AreLifted v.rows v.cols top (bottom + 1 - m) m v.cells w.cells → AreBlanked w.rows w.cols (bottom + 1 - m) (bottom + 1) w.cells x.cells → x ≡ mapped_rows (up top bottom n) v
region_up_is top bottom n m v w x h k ordered low m_is t s lifted blanked' =
    let blanked = rw (t.rows, t.cols) at blanked' in
    let size : length x.cells ≡ v.rows * v.cols = k.size ∙ ap (λ j. j * x.cols) (s.rows ∙ t.rows) ∙ ap (λ j. v.rows * j) (s.cols ∙ t.cols) in
    rows_are x v.rows v.cols v.first (mapped_cells v.rows v.cols v.cells (up top bottom n)) (s.rows ∙ t.rows) (s.cols ∙ t.cols) (s.first ∙ t.first)
    (up_is v.rows v.cols top bottom n m v.cells x.cells h.whole size ordered low m_is
    (λ r c p q. blanked.above r c (omega arith) q ∙ lifted.above r c p q)
    (λ r c p q j. blanked.below r c (omega arith) q j ∙ lifted.below r c (omega arith) q j)
    (λ r c p q j. blanked.above r c (omega arith) j ∙ lifted.inside r c p (omega arith) j)
    (λ r c p q j i. blanked.inside r c (omega arith) (omega arith) i))

-- all rows went down
pub all_down_is : (n m : ℕ) (v w x : Rows) → AreRows v → AreRows x → m ≡ min n v.rows → AreTurned (v.rows - m) v w → IsSameShape w x
    → AreBlanked w.rows w.cols 0 m w.cells x.cells → x ≡ all_down n v
all_down_is n m v w x h k m_is t s blanked' =
    let blanked = rw (t.rows, t.cols) at blanked' in
    let few : m ≤ v.rows = omega arith in
    let size : length x.cells ≡ v.rows * v.cols = k.size ∙ ap (λ j. j * x.cols) (s.rows ∙ t.rows) ∙ ap (λ j. v.rows * j) (s.cols ∙ t.cols) in
    rows_are x v.rows v.cols (turned_down v.rows n v.first) (mapped_cells v.rows v.cols v.cells (down 0 (v.rows - 1) n)) (s.rows ∙ t.rows) (s.cols ∙ t.cols)
    (s.first ∙ t.first ∙ ap (λ j. brought_back v.rows (v.first + (v.rows - j))) m_is)
    (down_is v.rows v.cols 0 (v.rows - 1) n m v.cells x.cells h.whole size (omega arith) (omega (arith, h.first_in)) (omega (arith, h.first_in))
    (λ r c p q. absurd (omega arith)) (λ r c p q j. absurd (omega arith))
    (λ r c p q j.
    let back : r + (v.rows - m) - v.rows ≡ r - m = omega arith in
    blanked.below r c (omega arith) (omega (arith, h.first_in)) j ∙ t.round r c (omega (arith, h.first_in)) (omega arith) j ∙ ap (λ i. cell_at v.cols v.cells i c) back)
    (λ r c p q j i. blanked.inside r c p (omega arith) i))

-- rows between margins went down
pub region_down_is : (top bottom n m : ℕ) (v w x : Rows) → AreRows v → AreRows x → top ≤ bottom → bottom < v.rows → m ≡ min n (bottom + 1 - top) → IsSameShape v w → IsSameShape w x
    → AreLowered v.rows v.cols (top + m) (bottom + 1) m v.cells w.cells → AreBlanked w.rows w.cols top (top + m) w.cells x.cells → x ≡ mapped_rows (down top bottom n) v
region_down_is top bottom n m v w x h k ordered low m_is t s lowered blanked' =
    let blanked = rw (t.rows, t.cols) at blanked' in
    let size : length x.cells ≡ v.rows * v.cols = k.size ∙ ap (λ j. j * x.cols) (s.rows ∙ t.rows) ∙ ap (λ j. v.rows * j) (s.cols ∙ t.cols) in
    rows_are x v.rows v.cols v.first (mapped_cells v.rows v.cols v.cells (down top bottom n)) (s.rows ∙ t.rows) (s.cols ∙ t.cols) (s.first ∙ t.first)
    (down_is v.rows v.cols top bottom n m v.cells x.cells h.whole size ordered low m_is
    (λ r c p q. blanked.above r c p q ∙ lowered.above r c (omega arith) q)
    (λ r c p q j. blanked.below r c (omega arith) q j ∙ lowered.below r c (omega arith) q j)
    (λ r c p q j. blanked.below r c p (omega arith) j ∙ lowered.inside r c p (omega arith) j)
    (λ r c p q j i. blanked.inside r c p j i))

-- rows became blank
pub cleared_is : (from to : ℕ) (v w : Rows) → AreRows v → AreRows w → IsSameShape v w → AreBlanked v.rows v.cols from to v.cells w.cells → w ≡ mapped_rows (rows_blanked from to) v
cleared_is from to v w h k s blanked =
    let size : length w.cells ≡ v.rows * v.cols = k.size ∙ ap (λ j. j * w.cols) s.rows ∙ ap (λ j. v.rows * j) s.cols in
    rows_are w v.rows v.cols v.first (mapped_cells v.rows v.cols v.cells (rows_blanked from to)) s.rows s.cols s.first
    (rows_blanked_is v.rows v.cols from to v.cells w.cells h.whole size blanked)

-- one more row is lowered
pub lowered_next : (rows cols from to r n : ℕ) (old mid new : List Glyph) → r < to → to ≤ rows → from ≤ r → n ≤ from → AreLowered rows cols (r + 1) to n old mid
    → ((c : ℕ) → c < cols → cell_at cols new r c ≡ cell_at cols mid (r - n) c)
    → ((s c : ℕ) → s < r → c < cols → cell_at cols new s c ≡ cell_at cols mid s c)
    → ((s c : ℕ) → r < s → s < rows → c < cols → cell_at cols new s c ≡ cell_at cols mid s c)
    → AreLowered rows cols r to n old new
lowered_next rows cols from to r n old mid new r_in fits low few was here below above = record {
  inside = λ s c p q h. elim (cases_eq s r) [
    | inl e ↦ ap (λ j. cell_at cols new j c) e ∙ here c h ∙ was.above (r - n) c (omega arith) h ∙ ap (λ j. cell_at cols old (j - n) c) (sym e)
    | inr ne ↦ above s c (omega arith) (omega arith) h ∙ was.inside s c (omega arith) q h
  ];
  above = λ s c p q. below s c p q ∙ was.above s c (omega arith) q;
  below = λ s c p h q. above s c (omega arith) h q ∙ was.below s c p h q;
}

-- a copied row, if the rows and columns have other names
pub copied_cols : (rows cols source target : ℕ) (v w : Rows) → v.rows ≡ rows → v.cols ≡ cols → IsCopied source target v w
    → ((c : ℕ) → c < cols → cell_at cols w.cells target c ≡ cell_at cols v.cells source c)
    × ((s c : ℕ) → s < target → c < cols → cell_at cols w.cells s c ≡ cell_at cols v.cells s c)
    × ((s c : ℕ) → target < s → s < rows → c < cols → cell_at cols w.cells s c ≡ cell_at cols v.cells s c)
copied_cols rows cols source target v w p q one = rw (← p, ← q) (one.here, one.below, one.above)
