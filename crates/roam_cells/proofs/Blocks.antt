-- Each character of a block takes as many columns: a computation over the steps of the table of widths.
use Rattle.std.proofs.Common.{◌≡◌, ℕ, ◌≤◌, Bool, true, false, not, ◌||◌, nat_le, nat_lt, Some, min, refl, ap, sym, ◌∙◌, arith}
use Rattle.std.specs.Prelude.{unwrap_or}
use Rattle.std.proofs.lemmas.Bool.Decides.{nat_tests}
use Rattle.ucd_table.specs.Rows.{in_ranges}
use Rattle.ucd_table.proofs.Stepped.{Stepped, of_ranges, zip_stepped}
use Rattle.ucd_table.proofs.StepsLemmas.{rises_from}
use Rattle.ucd_table.proofs.Facts.{Stepped-always}
use Rattle.ucd_table.proofs.Computing.{tables}
use Rattle.unicode_width.specs.declared.kind.Kind.{Kind}
use Rattle.unicode_width.specs.declared.kind.Kind.TheVariants as kinds
use Rattle.unicode_width.specs.Kind.{kind}
use Rattle.unicode_width.specs.Width.{alone, of_kind, char_width}
use Rattle.unicode_width.proofs.KindLemmas.{kind_stepped}
use Rattle.roam_cells.specs.Blocks.{wide_blocks, narrow_blocks, joining_blocks}
use Rattle.roam_cells.specs.Width.{width_of, is_joiner, is_answer_zero}

-- ---- what each kind of character takes

abbrev is_wide_kind : Kind → Bool
is_wide_kind kinds.Wide = true
is_wide_kind _ = false

abbrev is_narrow_kind : Kind → Bool
is_narrow_kind kinds.Narrow = true
is_narrow_kind kinds.Ambiguous = true
is_narrow_kind _ = false

abbrev is_zero_kind : Kind → Bool
is_zero_kind kinds.Zero = true
is_zero_kind _ = false

two : (c : ℕ) (k : Kind) → is_wide_kind k ≡ true → (of_kind false c k).0 ≡ 2
two c kinds.Zero h = cc
two c kinds.Narrow h = cc
two c kinds.Wide h = refl
two c kinds.Ambiguous h = cc
two c kinds.Alef h = cc
two c kinds.KhmerLetter h = cc
two c kinds.TifinaghConsonant h = cc
two c kinds.LisuTone h = cc
two c kinds.RegionalIndicator h = cc
two c kinds.EmojiModifier h = cc
two c kinds.Emoji h = cc
two c kinds.Single h = cc

one : (c : ℕ) (k : Kind) → is_narrow_kind k ≡ true → (of_kind false c k).0 ≡ 1
one c kinds.Zero h = cc
one c kinds.Narrow h = refl
one c kinds.Wide h = cc
one c kinds.Ambiguous h = refl
one c kinds.Alef h = cc
one c kinds.KhmerLetter h = cc
one c kinds.TifinaghConsonant h = cc
one c kinds.LisuTone h = cc
one c kinds.RegionalIndicator h = cc
one c kinds.EmojiModifier h = cc
one c kinds.Emoji h = cc
one c kinds.Single h = cc

none : (c : ℕ) (k : Kind) → is_zero_kind k ≡ true → (of_kind false c k).0 ≡ 0
none c kinds.Zero h = refl
none c kinds.Narrow h = cc
none c kinds.Wide h = cc
none c kinds.Ambiguous h = cc
none c kinds.Alef h = cc
none c kinds.KhmerLetter h = cc
none c kinds.TifinaghConsonant h = cc
none c kinds.LisuTone h = cc
none c kinds.RegionalIndicator h = cc
none c kinds.EmojiModifier h = cc
none c kinds.Emoji h = cc
none c kinds.Single h = cc

-- ---- the width of a character outside ASCII

char_alone : (c : ℕ) → 0xA0 ≤ c → char_width false c ≡ Some (of_kind false c (kind c)).0
unfolding char_width alone
char_alone c le =
    let low : nat_lt c 0x7F ≡ false = grind (arith, nat_tests) in
    let high : nat_le 0xA0 c ≡ true = grind (arith, nat_tests) in
    rw (low, high) refl

-- ---- the kinds in the blocks

abbrev passes : (Kind → Bool) → Bool → Kind → Bool
passes p inside k = not inside || p k

wide_stepped : Stepped (λ c. passes is_wide_kind (in_ranges wide_blocks c) (kind c))
unfolding rises_from
wide_stepped = zip_stepped (passes is_wide_kind) (in_ranges wide_blocks) kind (of_ranges wide_blocks refl) kind_stepped

all_wide : (c : ℕ) → c ≤ 0x10_FFFF → passes is_wide_kind (in_ranges wide_blocks c) (kind c) ≡ true
unfolding tables kind_stepped wide_stepped
all_wide = Stepped-always (λ c. passes is_wide_kind (in_ranges wide_blocks c) (kind c)) wide_stepped refl

narrow_stepped : Stepped (λ c. passes is_narrow_kind (in_ranges narrow_blocks c) (kind c))
unfolding rises_from
narrow_stepped = zip_stepped (passes is_narrow_kind) (in_ranges narrow_blocks) kind (of_ranges narrow_blocks refl) kind_stepped

all_narrow : (c : ℕ) → c ≤ 0x10_FFFF → passes is_narrow_kind (in_ranges narrow_blocks c) (kind c) ≡ true
unfolding tables kind_stepped narrow_stepped
all_narrow = Stepped-always (λ c. passes is_narrow_kind (in_ranges narrow_blocks c) (kind c)) narrow_stepped refl

joining_stepped : Stepped (λ c. passes is_zero_kind (in_ranges joining_blocks c) (kind c))
unfolding rises_from
joining_stepped = zip_stepped (passes is_zero_kind) (in_ranges joining_blocks) kind (of_ranges joining_blocks refl) kind_stepped

all_joining : (c : ℕ) → c ≤ 0x10_FFFF → passes is_zero_kind (in_ranges joining_blocks c) (kind c) ≡ true
unfolding tables kind_stepped joining_stepped
all_joining = Stepped-always (λ c. passes is_zero_kind (in_ranges joining_blocks c) (kind c)) joining_stepped refl

-- ---- and so what each character of a block takes

wide_above : (c : ℕ) → in_ranges wide_blocks c ≡ true → 0xA0 ≤ c
unfolding in_ranges
wide_above c h = grind (arith, nat_tests)

narrow_above : (c : ℕ) → in_ranges narrow_blocks c ≡ true → 0xA0 ≤ c
unfolding in_ranges
narrow_above c h = grind (arith, nat_tests)

joining_above : (c : ℕ) → in_ranges joining_blocks c ≡ true → 0xA0 ≤ c
unfolding in_ranges
joining_above c h = grind (arith, nat_tests)

pub wide_width : (c : ℕ) → c ≤ 0x10_FFFF → in_ranges wide_blocks c ≡ true → width_of c ≡ 2
wide_width c le h =
    let here : is_wide_kind (kind c) ≡ true = ap (λ inside. passes is_wide_kind inside (kind c)) (sym h) ∙ all_wide c le in
    ap (λ w. min (unwrap_or w 0) 2) (char_alone c (wide_above c h) ∙ ap Some (two c (kind c) here))

pub narrow_width : (c : ℕ) → c ≤ 0x10_FFFF → in_ranges narrow_blocks c ≡ true → width_of c ≡ 1
narrow_width c le h =
    let here : is_narrow_kind (kind c) ≡ true = ap (λ inside. passes is_narrow_kind inside (kind c)) (sym h) ∙ all_narrow c le in
    ap (λ w. min (unwrap_or w 0) 2) (char_alone c (narrow_above c h) ∙ ap Some (one c (kind c) here))

pub joining_joins : (c : ℕ) → c ≤ 0x10_FFFF → in_ranges joining_blocks c ≡ true → is_joiner c ≡ true
joining_joins c le h =
    let here : is_zero_kind (kind c) ≡ true = ap (λ inside. passes is_zero_kind inside (kind c)) (sym h) ∙ all_joining c le in
    ap is_answer_zero (char_alone c (joining_above c h) ∙ ap Some (none c (kind c) here))
