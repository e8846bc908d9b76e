-- A request is read from its text, and from no other.
use Rattle.std.proofs.Common.{◌≡◌, ◌≢◌, ℕ, ◌+◌, ◌^◌, ◌<◌, Bor, true, eqb, length, take, drop, get_or, List, ◌∷◌, ◌++◌, Option, Some, None, refl, ap, ◌∙◌, arith, lit≤}
use Rattle.std.proofs.lemmas.Fmt.{decimal_is_IsNumeral}
use Rattle.std.proofs.lemmas.Bool.Decides.{Decides-eqb}
use Rattle.std.proofs.lemmas.Slice.Eq.{strip_prefix_is}
use Rattle.std.specs.Cmp.Lexicographic.{pointwise}
use Rattle.std.specs.Fmt.{decimal}
use Rattle.std.specs.Prelude.{codes}
use Rattle.roam_tokens.specs.Words.{first_word}
use Rattle.roam_tokens.proofs.Spelled.{number_again, number_found}
use Rattle.roam_tokens.proofs.Wording.{IsWord, digits_are_word, word_again, word_found}
use Rattle.roam_scrollback_stream.specs.ReadRequests.{count_in, counted_at, counted_in, pair_of, short_in, size_at, size_in, sized_at, sized_in, terminal_in, three_of}
use Rattle.roam_scrollback_stream.specs.Requests.{IsRequest, IsSized, counted_text, most_terminals, request_text, sized_text}
use Rattle.roam_scrollback_stream.specs.declared.requests.Request.{Request}
use Rattle.roam_scrollback_stream.specs.declared.requests.Request.TheVariants.{Pane, Size, Rewrap, Bytes, Screen, Gone}

word : (n : ℕ) → n < 2 ^ 64 → IsWord (decimal n)
word n small = digits_are_word 10 (decimal n) (lit≤ tt) (decimal_is_IsNumeral n (omega (arith, small))).0.1

-- ---- the text of a request is read

pub terminal_again : (n : ℕ) → n < most_terminals → terminal_in (decimal n) ≡ Some n
terminal_again n small = number_again 1023 n (omega (arith, small)) (omega (arith, small))

short_again : (n : ℕ) → n < 2 ^ 16 → short_in (decimal n) ≡ Some n
short_again n small = number_again 65535 n (omega (arith, small)) (omega (arith, small))

count_again : (n : ℕ) → n < 2 ^ 64 → count_in (decimal n) ≡ Some n
count_again n small = number_again 18446744073709551615 n (omega (arith, small)) small

size_again : (rows cols : ℕ) → rows < 2 ^ 16 → cols < 2 ^ 16 → size_in (decimal rows ++ 32 ∷ decimal cols) ≡ Some (rows, cols)
size_again rows cols p q =
    ap size_at (word_again (decimal rows) (decimal cols) (word rows (omega (arith, p))))
    ∙ (λ i. pair_of (short_again rows p i) (short_again cols q i))

pub sized_again : (n rows cols : ℕ) → IsSized n rows cols → sized_in (sized_text n rows cols) ≡ Some (n, rows, cols)
sized_again n rows cols is =
    let small = is.terminal in
    ap sized_at (word_again (decimal n) (decimal rows ++ 32 ∷ decimal cols) (word n (omega (arith, small))))
    ∙ (λ i. three_of (terminal_again n is.terminal i) (size_again rows cols is.few_rows is.few_columns i))

pub counted_again : (n count : ℕ) → n < most_terminals → count < 2 ^ 64 → counted_in (counted_text n count) ≡ Some (n, count)
counted_again n count p q =
    ap counted_at (word_again (decimal n) (decimal count) (word n (omega (arith, p))))
    ∙ (λ i. pair_of (terminal_again n p i) (count_again count q i))

-- ---- a request that is read has the text

two_found : (a b : Option ℕ) (pair : ℕ × ℕ) → pair_of a b ≡ Some pair → (a ≡ Some pair.0) × (b ≡ Some pair.1)
two_found None b pair e = absurd cc
two_found (Some a) None pair e = absurd cc
two_found (Some a) (Some b) pair e =
    let made : ℕ × ℕ = (a, b) in
    let same : made ≡ pair = cc in
    (ap (λ (p : ℕ × ℕ). Some p.0) same, ap (λ (p : ℕ × ℕ). Some p.1) same)

three_found : (a : Option ℕ) (b : Option (ℕ × ℕ)) (all : ℕ × ℕ × ℕ) → three_of a b ≡ Some all → (a ≡ Some all.0) × (b ≡ Some (all.1, all.2))
three_found None b all e = absurd cc
three_found (Some a) None all e = absurd cc
three_found (Some a) (Some b) all e =
    let made : ℕ × ℕ × ℕ = (a, b.0, b.1) in
    let same : made ≡ all = cc in
    (ap (λ (p : ℕ × ℕ × ℕ). Some p.0) same, ap (λ (p : ℕ × ℕ × ℕ). Some (p.1, p.2)) same)

pub terminal_found : (text : List ℕ) (n : ℕ) → terminal_in text ≡ Some n → (n < most_terminals) × (text ≡ decimal n)
terminal_found text n e = let found = number_found 1023 text n e in (omega (arith, found.0), found.1)

short_found : (text : List ℕ) (n : ℕ) → short_in text ≡ Some n → (n < 2 ^ 16) × (text ≡ decimal n)
short_found text n e = let found = number_found 65535 text n e in (omega (arith, found.0), found.1)

count_found : (text : List ℕ) (n : ℕ) → count_in text ≡ Some n → (n < 2 ^ 64) × (text ≡ decimal n)
count_found text n e = let found = number_found 18446744073709551615 text n e in (omega (arith, found.0), found.1)

size_found : (text : List ℕ) (pair : ℕ × ℕ) → size_in text ≡ Some pair
    → (pair.0 < 2 ^ 16) × (pair.1 < 2 ^ 16) × (text ≡ decimal pair.0 ++ 32 ∷ decimal pair.1)
size_found text pair e = by (first_word text) refl e
  where
    by : (r : Option (List ℕ × List ℕ)) → first_word text ≡ r → size_at r ≡ Some pair
        → (pair.0 < 2 ^ 16) × (pair.1 < 2 ^ 16) × (text ≡ decimal pair.0 ++ 32 ∷ decimal pair.1)
    by None is e = absurd cc
    by (Some words) is e =
        let both = two_found (short_in words.0) (short_in words.1) pair e in
        let rows = short_found words.0 pair.0 both.0 in
        let cols = short_found words.1 pair.1 both.1 in
        (rows.0, cols.0, word_found text words is ∙ (λ i. rows.1 i ++ 32 ∷ cols.1 i))

pub sized_found : (text : List ℕ) (all : ℕ × ℕ × ℕ) → sized_in text ≡ Some all
    → IsSized all.0 all.1 all.2 × (text ≡ sized_text all.0 all.1 all.2)
sized_found text all e = by (first_word text) refl e
  where
    by : (r : Option (List ℕ × List ℕ)) → first_word text ≡ r → sized_at r ≡ Some all
        → IsSized all.0 all.1 all.2 × (text ≡ sized_text all.0 all.1 all.2)
    by None is e = absurd cc
    by (Some words) is e =
        let both = three_found (terminal_in words.0) (size_in words.1) all e in
        let n = terminal_found words.0 all.0 both.0 in
        let size = size_found words.1 (all.1, all.2) both.1 in
        (record { terminal = n.0; few_rows = size.0; few_columns = size.1 }, word_found text words is ∙ (λ i. n.1 i ++ 32 ∷ size.2 i))

pub counted_found : (text : List ℕ) (pair : ℕ × ℕ) → counted_in text ≡ Some pair
    → (pair.0 < most_terminals) × (pair.1 < 2 ^ 64) × (text ≡ counted_text pair.0 pair.1)
counted_found text pair e = by (first_word text) refl e
  where
    by : (r : Option (List ℕ × List ℕ)) → first_word text ≡ r → counted_at r ≡ Some pair
        → (pair.0 < most_terminals) × (pair.1 < 2 ^ 64) × (text ≡ counted_text pair.0 pair.1)
    by None is e = absurd cc
    by (Some words) is e =
        let both = two_found (terminal_in words.0) (count_in words.1) pair e in
        let n = terminal_found words.0 pair.0 both.0 in
        let count = count_found words.1 pair.1 both.1 in
        (n.0, count.0, word_found text words is ∙ (λ i. n.1 i ++ 32 ∷ count.1 i))

-- ---- which request it is

apart : {X : Type 0} (at : ℕ) (line other : List ℕ) → get_or line at 0 ≢ get_or other at 0 → line ≡ other → X
apart at line other is e = absurd (is (ap (λ (l : List ℕ). get_or l at 0) e))

pub pane_only : (text : List ℕ) (o : Option (ℕ × ℕ × ℕ)) (r : Option Request) → o ≡ sized_in text
    → ((p : ℕ × ℕ × ℕ) → o ≡ Some p → r ≡ Some (Pane p.0 p.1 p.2))
    → (s : Request) → IsRequest s → codes "pane " ++ text ≡ request_text s → r ≡ Some s
pane_only text o r read is (Pane n rows cols) h e =
    let same : text ≡ sized_text n rows cols = ap (drop 5) e in
    is (n, rows, cols) (read ∙ ap sized_in same ∙ sized_again n rows cols h)
pane_only text o r read is (Size n rows cols) h e =
    apart 0 (codes "pane " ++ text) (codes "size " ++ sized_text n rows cols) (λ d. omega (arith, d)) e
pane_only text o r read is (Rewrap n rows cols) h e =
    apart 0 (codes "pane " ++ text) (codes "rewrap " ++ sized_text n rows cols) (λ d. omega (arith, d)) e
pane_only text o r read is (Bytes n count) h e =
    apart 0 (codes "pane " ++ text) (codes "bytes " ++ counted_text n count) (λ d. omega (arith, d)) e
pane_only text o r read is (Screen n) h e = apart 0 (codes "pane " ++ text) (codes "screen " ++ decimal n) (λ d. omega (arith, d)) e
pane_only text o r read is (Gone n) h e = apart 0 (codes "pane " ++ text) (codes "gone " ++ decimal n) (λ d. omega (arith, d)) e

pub size_only : (text : List ℕ) (o : Option (ℕ × ℕ × ℕ)) (r : Option Request) → o ≡ sized_in text
    → ((p : ℕ × ℕ × ℕ) → o ≡ Some p → r ≡ Some (Size p.0 p.1 p.2))
    → (s : Request) → IsRequest s → codes "size " ++ text ≡ request_text s → r ≡ Some s
size_only text o r read is (Pane n rows cols) h e =
    apart 0 (codes "size " ++ text) (codes "pane " ++ sized_text n rows cols) (λ d. omega (arith, d)) e
size_only text o r read is (Size n rows cols) h e =
    let same : text ≡ sized_text n rows cols = ap (drop 5) e in
    is (n, rows, cols) (read ∙ ap sized_in same ∙ sized_again n rows cols h)
size_only text o r read is (Rewrap n rows cols) h e =
    apart 0 (codes "size " ++ text) (codes "rewrap " ++ sized_text n rows cols) (λ d. omega (arith, d)) e
size_only text o r read is (Bytes n count) h e =
    apart 0 (codes "size " ++ text) (codes "bytes " ++ counted_text n count) (λ d. omega (arith, d)) e
size_only text o r read is (Screen n) h e = apart 1 (codes "size " ++ text) (codes "screen " ++ decimal n) (λ d. omega (arith, d)) e
size_only text o r read is (Gone n) h e = apart 0 (codes "size " ++ text) (codes "gone " ++ decimal n) (λ d. omega (arith, d)) e

pub rewrap_only : (text : List ℕ) (o : Option (ℕ × ℕ × ℕ)) (r : Option Request) → o ≡ sized_in text
    → ((p : ℕ × ℕ × ℕ) → o ≡ Some p → r ≡ Some (Rewrap p.0 p.1 p.2))
    → (s : Request) → IsRequest s → codes "rewrap " ++ text ≡ request_text s → r ≡ Some s
rewrap_only text o r read is (Pane n rows cols) h e =
    apart 0 (codes "rewrap " ++ text) (codes "pane " ++ sized_text n rows cols) (λ d. omega (arith, d)) e
rewrap_only text o r read is (Size n rows cols) h e =
    apart 0 (codes "rewrap " ++ text) (codes "size " ++ sized_text n rows cols) (λ d. omega (arith, d)) e
rewrap_only text o r read is (Rewrap n rows cols) h e =
    let same : text ≡ sized_text n rows cols = ap (drop 7) e in
    is (n, rows, cols) (read ∙ ap sized_in same ∙ sized_again n rows cols h)
rewrap_only text o r read is (Bytes n count) h e =
    apart 0 (codes "rewrap " ++ text) (codes "bytes " ++ counted_text n count) (λ d. omega (arith, d)) e
rewrap_only text o r read is (Screen n) h e = apart 0 (codes "rewrap " ++ text) (codes "screen " ++ decimal n) (λ d. omega (arith, d)) e
rewrap_only text o r read is (Gone n) h e = apart 0 (codes "rewrap " ++ text) (codes "gone " ++ decimal n) (λ d. omega (arith, d)) e

pub bytes_only : (text : List ℕ) (o : Option (ℕ × ℕ)) (r : Option Request) → o ≡ counted_in text
    → ((p : ℕ × ℕ) → o ≡ Some p → r ≡ Some (Bytes p.0 p.1))
    → (s : Request) → IsRequest s → codes "bytes " ++ text ≡ request_text s → r ≡ Some s
bytes_only text o r read is (Pane n rows cols) h e =
    apart 0 (codes "bytes " ++ text) (codes "pane " ++ sized_text n rows cols) (λ d. omega (arith, d)) e
bytes_only text o r read is (Size n rows cols) h e =
    apart 0 (codes "bytes " ++ text) (codes "size " ++ sized_text n rows cols) (λ d. omega (arith, d)) e
bytes_only text o r read is (Rewrap n rows cols) h e =
    apart 0 (codes "bytes " ++ text) (codes "rewrap " ++ sized_text n rows cols) (λ d. omega (arith, d)) e
bytes_only text o r read is (Bytes n count) h e =
    let same : text ≡ counted_text n count = ap (drop 6) e in
    is (n, count) (read ∙ ap counted_in same ∙ counted_again n count h.0 h.1)
bytes_only text o r read is (Screen n) h e = apart 0 (codes "bytes " ++ text) (codes "screen " ++ decimal n) (λ d. omega (arith, d)) e
bytes_only text o r read is (Gone n) h e = apart 0 (codes "bytes " ++ text) (codes "gone " ++ decimal n) (λ d. omega (arith, d)) e

pub screen_only : (text : List ℕ) (o : Option (ℕ)) (r : Option Request) → o ≡ terminal_in text
    → ((p : ℕ) → o ≡ Some p → r ≡ Some (Screen p))
    → (s : Request) → IsRequest s → codes "screen " ++ text ≡ request_text s → r ≡ Some s
screen_only text o r read is (Pane n rows cols) h e =
    apart 0 (codes "screen " ++ text) (codes "pane " ++ sized_text n rows cols) (λ d. omega (arith, d)) e
screen_only text o r read is (Size n rows cols) h e =
    apart 1 (codes "screen " ++ text) (codes "size " ++ sized_text n rows cols) (λ d. omega (arith, d)) e
screen_only text o r read is (Rewrap n rows cols) h e =
    apart 0 (codes "screen " ++ text) (codes "rewrap " ++ sized_text n rows cols) (λ d. omega (arith, d)) e
screen_only text o r read is (Bytes n count) h e =
    apart 0 (codes "screen " ++ text) (codes "bytes " ++ counted_text n count) (λ d. omega (arith, d)) e
screen_only text o r read is (Screen n) h e =
    let same : text ≡ decimal n = ap (drop 7) e in
    is n (read ∙ ap terminal_in same ∙ terminal_again n h)
screen_only text o r read is (Gone n) h e = apart 0 (codes "screen " ++ text) (codes "gone " ++ decimal n) (λ d. omega (arith, d)) e

pub gone_only : (text : List ℕ) (o : Option (ℕ)) (r : Option Request) → o ≡ terminal_in text
    → ((p : ℕ) → o ≡ Some p → r ≡ Some (Gone p))
    → (s : Request) → IsRequest s → codes "gone " ++ text ≡ request_text s → r ≡ Some s
gone_only text o r read is (Pane n rows cols) h e =
    apart 0 (codes "gone " ++ text) (codes "pane " ++ sized_text n rows cols) (λ d. omega (arith, d)) e
gone_only text o r read is (Size n rows cols) h e =
    apart 0 (codes "gone " ++ text) (codes "size " ++ sized_text n rows cols) (λ d. omega (arith, d)) e
gone_only text o r read is (Rewrap n rows cols) h e =
    apart 0 (codes "gone " ++ text) (codes "rewrap " ++ sized_text n rows cols) (λ d. omega (arith, d)) e
gone_only text o r read is (Bytes n count) h e =
    apart 0 (codes "gone " ++ text) (codes "bytes " ++ counted_text n count) (λ d. omega (arith, d)) e
gone_only text o r read is (Screen n) h e = apart 0 (codes "gone " ++ text) (codes "screen " ++ decimal n) (λ d. omega (arith, d)) e
gone_only text o r read is (Gone n) h e =
    let same : text ≡ decimal n = ap (drop 5) e in
    is n (read ∙ ap terminal_in same ∙ terminal_again n h)

pub no_some : {X : Type 0} (x : X) → None ≡ Some x → ⊥
no_some x e = cc

pub same_some : {X : Type 0} (a b : X) → Some a ≡ Some b → a ≡ b
same_some a b e = cc

-- the rest behind a head
pub behind_head : (line head all : List ℕ) (rest : Bor (List ℕ)) → head ≡ all
    → (pointwise eqb (take (length head) line) head ≡ true) × (rest.now ≡ drop (length head) line) × (length rest.now
    + length head ≡ length line) → line ≡ all ++ rest.now
behind_head line head all rest e h =
    strip_prefix_is Decides-eqb line head (Some rest) h ∙ ap (λ (text : List ℕ). text ++ rest.now) e
