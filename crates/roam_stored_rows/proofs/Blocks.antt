-- Blocks of rows: the bytes of their letters, and the rows in which an occurrence begins.
use Rattle.std.proofs.Common.{◌≡◌, ℕ, ◌+◌, ◌-◌, ◌≤◌, ◌<◌, ◌⊎◌, Bool, true, false, List, [], ◌∷◌, ◌++◌, None, drop, length, take, get_or, map, refl, sym, ap, subst, ◌∙◌, arith, inl, inr, suc, append_assoc, append-nil, length-append, length-drop, length-take, take-append-drop, if◌then◌else◌}
use Rattle.std.specs.List.{All, flat_map}
use Rattle.std.specs.Str.{encode_utf8_all}
use Rattle.std.proofs.Math.Seq.{drop-append-add, take-add}
use Rattle.std.proofs.lemmas.List.{drop-append-le, drop-drop, drop_all, drop_more, get_or-drop, get_or-take, get_or_default, take-append-le}
use Rattle.std.proofs.lemmas.List.Concat.{flat_map-append}
use Rattle.std.proofs.lemmas.Str.{encodes-append}
use Rattle.roam_stored_rows.specs.Blocks.{AreOn, IsFront, IsNearestPlace, IsRowAt, StandsNowhere, size_between, spelled, spelled_line}
use Rattle.roam_stored_rows.specs.Finding.{Begins, IsFoundAt, IsNearestAt, StandsAt, compared, letters_in, line_from, plain_from, text_of}
use Rattle.roam_stored_rows.specs.Rows.{StoredRow, is_on, no_row, row_of}
use Rattle.roam_stored_rows.specs.declared.finding.Way.{Way}
use Rattle.roam_stored_rows.specs.declared.finding.Way.TheVariants.{Back, On}
use Rattle.roam_stored_rows.proofs.Letters.{bytes-begin, letters-begin}
use Rattle.roam_stored_rows.proofs.Sums.{part-more}

if-same : (b : Bool) → ◌≡◌ {A = List ℕ} (if b then [] else []) []
if-same true = refl
if-same false = refl

-- the text of a logical line behind the row at a place
abbrev pub rest_behind : Bool → List StoredRow → ℕ → List ℕ
rest_behind folded rows at = if is_on (row_of rows at).wrap then line_from folded (drop (at + 1) rows) else []

pub spelled-append : (folded : Bool) (before after : List StoredRow) → spelled folded (before ++ after) ≡ spelled folded before ++ spelled folded after
spelled-append folded before after =
    ap encode_utf8_all (flat_map-append (text_of folded) before after) ∙ encodes-append (flat_map (text_of folded) before) (flat_map (text_of folded) after)

pub spelled-one : (folded : Bool) (row : StoredRow) → spelled folded (row ∷ []) ≡ encode_utf8_all (text_of folded row)
spelled-one folded row = ap encode_utf8_all (append-nil (text_of folded row))

pub spelled-more : (folded : Bool) (rows : List StoredRow) (low next : ℕ) → low ≤ next → next < length rows
    → spelled folded (take (next + 1 - low) (drop low rows))
    ≡ spelled folded (take (next - low) (drop low rows)) ++ encode_utf8_all (text_of folded (row_of rows next))
spelled-more folded rows low next h s =
    ap (spelled folded) (part-more rows low next h s) ∙ spelled-append folded (take (next - low) (drop low rows)) (row_of rows next ∷ [])
    ∙ ap (λ (l : List ℕ). spelled folded (take (next - low) (drop low rows)) ++ l) (spelled-one folded (row_of rows next))

pub size-more : (folded : Bool) (rows : List StoredRow) (low next : ℕ) → low ≤ next → next < length rows
    → size_between folded rows low (next + 1) ≡ size_between folded rows low next + length (encode_utf8_all (text_of folded (row_of rows next)))
size-more folded rows low next h s =
    ap length (spelled-more folded rows low next h s)
    ∙ length-append (spelled folded (take (next - low) (drop low rows))) (encode_utf8_all (text_of folded (row_of rows next)))

pub pushed-row : (folded : Bool) (rows : List StoredRow) (low next : ℕ) (old bytes new : List ℕ) → low ≤ next → next < length rows
    → old ≡ spelled folded (take (next - low) (drop low rows)) → bytes ≡ (row_of rows next).text
    → new ≡ old ++ encode_utf8_all (map (compared folded) (letters_in (plain_from false bytes)))
    → new ≡ spelled folded (take (next + 1 - low) (drop low rows))
pushed-row folded rows low next old bytes new h s e t is =
    let text : List ℕ → List ℕ = λ l. encode_utf8_all (map (compared folded) (letters_in (plain_from false l))) in
    is ∙ ap (λ (l : List ℕ). old ++ text l) t ∙ ap (λ (l : List ℕ). l ++ text (row_of rows next).text) e ∙ sym (spelled-more folded rows low next h s)

pub size-grows : (folded : Bool) (rows : List StoredRow) (low a b : ℕ) → low ≤ a → a ≤ b → size_between folded rows low a ≤ size_between folded rows low b
size-grows folded rows low a b h s =
    let part = drop low rows in
    let sum : (a - low) + (b - a) ≡ b - low = omega (arith, h, s) in
    let split : take (b - low) part ≡ take (a - low) part ++ take (b - a) (drop (a - low) part) =
    ap (λ n. take n part) (sym sum) ∙ take-add (a - low) (b - a) part in
    let size = ap (λ (l : List StoredRow). length (spelled folded l)) split
    ∙ ap length (spelled-append folded (take (a - low) part) (take (b - a) (drop (a - low) part)))
    ∙ length-append (spelled folded (take (a - low) part)) (spelled folded (take (b - a) (drop (a - low) part))) in
    omega (arith, size)

pub row-in-line : (folded : Bool) (before after : List StoredRow) → All (λ row. is_on row.wrap ≡ true) before
    → line_from folded (before ++ after) ≡ flat_map (text_of folded) before ++ line_from folded after
row-in-line folded [] after h = refl
row-in-line folded (row ∷ rows) after h =
    let on : is_on row.wrap ≡ true = h 0 row (omega arith) in
    let rest = row-in-line folded rows after (λ k d s. h (suc k) d (omega (arith, s))) in
    ap (λ (b : Bool). text_of folded row ++ (if b then line_from folded (rows ++ after) else [])) on
    ∙ ap (λ (l : List ℕ). text_of folded row ++ l) rest
    ∙ sym (append_assoc (text_of folded row) (flat_map (text_of folded) rows) (line_from folded after))

-- the line of a block is the bytes of its rows before a place, and the line from there on
pub line-at : (folded : Bool) (rows : List StoredRow) (low high at : ℕ) → low ≤ at → at < high → high ≤ length rows → AreOn rows low high
    → spelled_line folded rows low ≡ spelled folded (take (at - low) (drop low rows)) ++ spelled_line folded rows at
line-at folded rows low high at a b c on =
    let part = drop low rows in
    let before = take (at - low) part in
    let sum : low + (at - low) ≡ at = omega (arith, a) in
    let behind : drop (at - low) part ≡ drop at rows = drop-drop (at - low) low rows ∙ ap (λ n. drop n rows) sum in
    let split : part ≡ before ++ drop at rows = sym (take-append-drop (at - low) part) ∙ ap (λ (l : List StoredRow). before ++ l) behind in
    let all : All (λ (row : StoredRow). is_on row.wrap ≡ true) before =
    λ k d s.
    let short : k < at - low = omega (arith, s, length-take (at - low) part) in
    let inside : low + k < length rows = omega (arith, short, a, b, c) in
    let same : get_or before k d ≡ row_of rows (low + k) =
    get_or-take (at - low) part k d short ∙ get_or-drop low rows k d ∙ get_or_default rows (low + k) d no_row inside in
    subst (λ (r : StoredRow). is_on r.wrap ≡ true) (sym same) (on (low + k) (omega arith) (omega (arith, short, a, b))) in
    ap (λ (l : List StoredRow). encode_utf8_all (line_from folded l)) split
    ∙ ap encode_utf8_all (row-in-line folded before (drop at rows) all)
    ∙ encodes-append (flat_map (text_of folded) before) (line_from folded (drop at rows))

-- the line from the row at a place on is its letters, and what is behind it
pub line-one : (folded : Bool) (rows : List StoredRow) (at : ℕ) → at < length rows
    → line_from folded (drop at rows) ≡ text_of folded (row_of rows at) ++ rest_behind folded rows at
line-one folded rows at s = ap (line_from folded) (drop_more rows at no_row s)

pub begins-one : (folded : Bool) (text : List ℕ) (rows : List StoredRow) (at : ℕ) → at < length rows → Begins folded text (drop at rows)
    → (0 < length text) × (byte : ℕ) × (byte < length (encode_utf8_all (text_of folded (row_of rows at))))
    × StandsAt (encode_utf8_all text) (spelled_line folded rows at) byte
begins-one folded text rows at s h =
    let split = drop_more rows at no_row s in
    let (place, some, low, stands) = subst (λ (l : List StoredRow). Begins folded text l) split h in
    let (byte, below, found) = bytes-begin text (text_of folded (row_of rows at)) (rest_behind folded rows at) place low stands in
    (some, byte, below, subst (λ (l : List ℕ). StandsAt (encode_utf8_all text) (encode_utf8_all l) byte) (sym (line-one folded rows at s)) found)

pub one-begins : (folded : Bool) (text : List ℕ) (rows : List StoredRow) (at byte : ℕ) → at < length rows → 0 < length text
    → byte < length (encode_utf8_all (text_of folded (row_of rows at)))
    → StandsAt (encode_utf8_all text) (spelled_line folded rows at) byte → Begins folded text (drop at rows)
one-begins folded text rows at byte s some low h =
    let split = drop_more rows at no_row s in
    let here = subst (λ (l : List ℕ). StandsAt (encode_utf8_all text) (encode_utf8_all l) byte) (line-one folded rows at s) h in
    let (place, below, stands) = letters-begin text (text_of folded (row_of rows at)) (rest_behind folded rows at) byte some low here in
    subst (λ (l : List StoredRow). Begins folded text l) (sym split) ((place, some, below, stands))

-- an occurrence begins in a row of a block exactly if its bytes stand at one of the row's places among the block's bytes
pub row-place : (folded : Bool) (text : List ℕ) (rows : List StoredRow) (low high at : ℕ) → low ≤ at → at < high → high ≤ length rows
    → AreOn rows low high → Begins folded text (drop at rows)
    → (place : ℕ) × IsRowAt folded rows low high place at × StandsAt (encode_utf8_all text) (spelled_line folded rows low) place
row-place folded text rows low high at a b c on h =
    let (some, byte, below, stands) = begins-one folded text rows at (omega (arith, b, c)) h in
    let before = spelled folded (take (at - low) (drop low rows)) in
    let place = length before + byte in
    let line = line-at folded rows low high at a b c on in
    let more = size-more folded rows low at a (omega (arith, b, c)) in
    let same : drop place (spelled_line folded rows low) ≡ drop byte (spelled_line folded rows at) =
    ap (λ (l : List ℕ). drop place l) line ∙ drop-append-add before (spelled_line folded rows at) byte in (
      place,
      record { begun = a; within = b; start = omega arith; end = omega (arith, more, below) },
      ap (λ (l : List ℕ). take (length (encode_utf8_all text)) l) same ∙ stands,
    )

pub place-row : (folded : Bool) (text : List ℕ) (rows : List StoredRow) (low high at place : ℕ) → high ≤ length rows
    → AreOn rows low high → 0 < length text → IsRowAt folded rows low high place at
    → StandsAt (encode_utf8_all text) (spelled_line folded rows low) place → Begins folded text (drop at rows)
place-row folded text rows low high at place c on some r h =
    let before = spelled folded (take (at - low) (drop low rows)) in
    let byte = place - length before in
    let sum : length before + byte ≡ place = omega (arith, r.start) in
    let inside : at < length rows = omega (arith, r.within, c) in
    let line = line-at folded rows low high at r.begun r.within c on in
    let more = size-more folded rows low at r.begun inside in
    let same : drop place (spelled_line folded rows low) ≡ drop byte (spelled_line folded rows at) =
    ap (λ (n : ℕ). drop n (spelled_line folded rows low)) (sym sum) ∙ ap (λ (l : List ℕ). drop (length before + byte) l) line
    ∙ drop-append-add before (spelled_line folded rows at) byte in
    one-begins folded text rows at byte inside some (omega (arith, more, r.end, r.start))
    (ap (λ (l : List ℕ). take (length (encode_utf8_all text)) l) (sym same) ∙ h)

-- as far as a text may reach, the begin of a line is the line
pub front-same : (front line : List ℕ) (size m place : ℕ) → IsFront (size + m) front line → place < size → size ≤ length front
    → take m (drop place front) ≡ take m (drop place line)
front-same front line size m place f low s =
    let whole : drop place line ≡ drop place front ++ f.rest = ap (λ (l : List ℕ). drop place l) f.is ∙ drop-append-le place front f.rest (omega (arith, low, s)) in
    elim f.enough as (λ _. take m (drop place front) ≡ take m (drop place line)) [
      | inl e ↦ sym (ap (λ (l : List ℕ). take m l) (whole ∙ ap (λ (l : List ℕ). drop place front ++ l) e ∙ append-nil (drop place front)))
      | inr n ↦ sym (ap (λ (l : List ℕ). take m l) whole
          ∙ take-append-le m (drop place front) f.rest (rw (length-drop place front) (omega (arith, n, low))))
    ]

-- what a search of a block knows: the begin of its line, and the size of its own rows
pub record IsGathered (folded : Bool) (text : List ℕ) (rows : List StoredRow) (low high : ℕ) (front : List ℕ) (size : ℕ) : Type 0 where
  pub end : high ≤ length rows
  pub on : AreOn rows low high
  pub front_is : IsFront (size + length (encode_utf8_all text)) front (spelled_line folded rows low)
  pub size_is : size ≡ size_between folded rows low high
  pub within : size ≤ length front

-- the place of a row's occurrence in the gathered bytes
pub gathered-place : (folded : Bool) (text : List ℕ) (rows : List StoredRow) (low high : ℕ) (front : List ℕ) (size at : ℕ)
    → IsGathered folded text rows low high front size → low ≤ at → at < high → Begins folded text (drop at rows)
    → (place : ℕ) × IsRowAt folded rows low high place at × (place < size) × StandsAt (encode_utf8_all text) front place
gathered-place folded text rows low high front size at g a b h =
    let (place, r, stands) = row-place folded text rows low high at a b g.end g.on h in
    let below : place < size =
    omega (arith, r.end, g.size_is, size-grows folded rows low (at + 1) high (omega (arith, a)) (omega (arith, b))) in
    (place, r, below, front-same front (spelled_line folded rows low) size (length (encode_utf8_all text)) place g.front_is below g.within ∙ stands)

pub block-none : (way : Way) (folded : Bool) (text : List ℕ) (rows : List StoredRow) (low high : ℕ) (front : List ℕ) (size : ℕ)
    → IsGathered folded text rows low high front size → StandsNowhere (encode_utf8_all text) front 0 size
    → IsFoundAt way folded text rows low high None
block-none way folded text rows low high front size g none k a b h =
    let (place, r, below, stands) = gathered-place folded text rows low high front size k g a b h in
    none place (omega arith) below stands

-- the row of the nearest place is the nearest row
pub block-some : (way : Way) (folded : Bool) (text : List ℕ) (rows : List StoredRow) (low high : ℕ) (front : List ℕ) (size place at : ℕ)
    → IsGathered folded text rows low high front size → 0 < length text → IsNearestPlace way (encode_utf8_all text) front size place
    → IsRowAt folded rows low high place at → IsNearestAt way folded text rows low high at
block-some On folded text rows low high front size place at g some n r =
    let here = sym (front-same front (spelled_line folded rows low) size (length (encode_utf8_all text)) place g.front_is n.0 g.within) ∙ n.1 in (
      r.begun,
      r.within,
      place-row folded text rows low high at place g.end g.on some r here,
      λ k a b h.
          let (other, s, below, stands) = gathered-place folded text rows low high front size k g a (omega (arith, b, r.within)) h in
          let before = size-grows folded rows low (k + 1) at (omega (arith, a)) (omega (arith, b)) in
          n.2 other (omega arith) (omega (arith, s.end, before, r.start)) stands,
    )
block-some Back folded text rows low high front size place at g some n r =
    let here = sym (front-same front (spelled_line folded rows low) size (length (encode_utf8_all text)) place g.front_is n.0 g.within) ∙ n.1 in (
      r.begun,
      r.within,
      place-row folded text rows low high at place g.end g.on some r here,
      λ k a b h.
          let (other, s, below, stands) = gathered-place folded text rows low high front size k g (omega (arith, a, r.begun)) b h in
          let behind = size-grows folded rows low (at + 1) k (omega (arith, r.begun)) a in
          n.2 other (omega (arith, s.start, behind, r.end)) below stands,
    )

-- the line of a block, as its rows are in the buffer
pub block-line : (folded : Bool) (rows : List StoredRow) (low high : ℕ) (line : List ℕ) → low < high → high ≤ length rows → AreOn rows low high
    → line ≡ spelled folded (take (high - low) (drop low rows))
    → spelled_line folded rows low ≡ line ++ encode_utf8_all (rest_behind folded rows (high - 1))
block-line folded rows low high line a c on e =
    let last = high - 1 in
    let one : last + 1 ≡ high = omega (arith, a) in
    let before = spelled folded (take (last - low) (drop low rows)) in
    let text = text_of folded (row_of rows last) in
    let rest = rest_behind folded rows last in
    let all : line ≡ before ++ encode_utf8_all text =
    e ∙ ap (λ n. spelled folded (take (n - low) (drop low rows))) (sym one) ∙ spelled-more folded rows low last (omega (arith, a)) (omega (arith, a, c)) in
    line-at folded rows low high last (omega (arith, a)) (omega (arith, a)) c on
    ∙ ap (λ (l : List ℕ). before ++ encode_utf8_all l) (line-one folded rows last (omega (arith, a, c)))
    ∙ ap (λ (l : List ℕ). before ++ l) (encodes-append text rest)
    ∙ sym (append_assoc before (encode_utf8_all text) (encode_utf8_all rest))
    ∙ ap (λ (l : List ℕ). l ++ encode_utf8_all rest) (sym all)

-- one row more behind a block
pub line-more : (folded : Bool) (rows : List StoredRow) (next : ℕ) (whole line bytes new : List ℕ) → next + 1 < length rows
    → whole ≡ line ++ encode_utf8_all (rest_behind folded rows next) → is_on (row_of rows next).wrap ≡ true → bytes ≡ (row_of rows (next + 1)).text
    → new ≡ line ++ encode_utf8_all (map (compared folded) (letters_in (plain_from false bytes)))
    → whole ≡ new ++ encode_utf8_all (rest_behind folded rows (next + 1))
line-more folded rows next whole line bytes new s e on t is =
    let text = text_of folded (row_of rows (next + 1)) in
    let rest = rest_behind folded rows (next + 1) in
    let behind : rest_behind folded rows next ≡ text ++ rest =
    ap (λ (b : Bool). if b then line_from folded (drop (next + 1) rows) else []) on ∙ line-one folded rows (next + 1) s in
    let added : new ≡ line ++ encode_utf8_all text =
    is ∙ ap (λ (l : List ℕ). line ++ encode_utf8_all (map (compared folded) (letters_in (plain_from false l)))) t in
    e ∙ ap (λ (l : List ℕ). line ++ encode_utf8_all l) behind ∙ ap (λ (l : List ℕ). line ++ l) (encodes-append text rest)
    ∙ sym (append_assoc line (encode_utf8_all text) (encode_utf8_all rest)) ∙ ap (λ (l : List ℕ). l ++ encode_utf8_all rest) (sym added)

-- the buffer is enough: the line ends, or no text of this length reaches farther
pub front-ended : (folded : Bool) (rows : List StoredRow) (next most : ℕ) (whole line : List ℕ)
    → whole ≡ line ++ encode_utf8_all (rest_behind folded rows next) → is_on (row_of rows next).wrap ≡ false → IsFront most line whole
front-ended folded rows next most whole line e off =
    let none : encode_utf8_all (rest_behind folded rows next) ≡ [] =
    ap (λ (b : Bool). encode_utf8_all (if b then line_from folded (drop (next + 1) rows) else [])) off in
    record { rest = encode_utf8_all (rest_behind folded rows next); is = e; enough = inl none }

pub front-enough : (folded : Bool) (rows : List StoredRow) (next most : ℕ) (whole line : List ℕ)
    → whole ≡ line ++ encode_utf8_all (rest_behind folded rows next) → (length rows ≤ next + 1) ⊎ (most ≤ length line) → IsFront most line whole
front-enough folded rows next most whole line e h =
    let last : length rows ≤ next + 1 → encode_utf8_all (rest_behind folded rows next) ≡ [] =
    λ s. let empty : drop (next + 1) rows ≡ [] = drop_all (next + 1) rows s in
    ap (λ (l : List StoredRow). encode_utf8_all (if is_on (row_of rows next).wrap then line_from folded l else [])) empty
    ∙ ap encode_utf8_all (if-same (is_on (row_of rows next).wrap)) in
    record {
      rest = encode_utf8_all (rest_behind folded rows next);
      is = e;
      enough = elim h as (λ _. (encode_utf8_all (rest_behind folded rows next) ≡ []) ⊎ (most ≤ length line)) [ inl s ↦ inl (last s) | inr s ↦ inr s ];
    }

pub gathered : (folded : Bool) (text : List ℕ) (rows : List StoredRow) (low high : ℕ) (front needle : List ℕ) (size : ℕ) → high ≤ length rows
    → AreOn rows low high → IsFront (size + length needle) front (spelled_line folded rows low) → size ≡ size_between folded rows low high
    → size ≤ length front → needle ≡ encode_utf8_all text → IsGathered folded text rows low high front size
gathered folded text rows low high front needle size end on f s w e =
    record {
      end = end;
      on = on;
      front_is = subst (λ (l : List ℕ). IsFront (size + length l) front (spelled_line folded rows low)) e f;
      size_is = s;
      within = w;
    }
