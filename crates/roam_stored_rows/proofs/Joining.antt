-- The rows of chunks, of which each has 256: where a row is, and what is left of the chunks at their ends.
use Rattle.std.proofs.Common.{◌≡◌, ℕ, ◌+◌, ◌-◌, ◌*◌, ◌/◌, ◌%◌, ◌≤◌, ◌<◌, List, [], ◌∷◌, ◌++◌, drop, length, take, get_or, refl, sym, ap, ◌∙◌, arith, suc, append_assoc, length-append, length-drop, take-append-drop}
use Rattle.std.specs.List.{All}
use Rattle.std.proofs.lemmas.List.{get_or-append_right, get_or_append_left, length-take-le, take-append-le, take_more, same_from_push, drop_more}
use Rattle.std.proofs.Math.Seq.{take-append-add, drop-append-add}
use Rattle.std.proofs.lemmas.List.Concat.{flat_map-append, get_or-flat_map}
use Rattle.std.proofs.lemmas.Nat.{div-add-mod', mod_below}
use Rattle.roam_stored_rows.specs.Chunks.{AllWhole, joined, whole}
use Rattle.roam_stored_rows.specs.Rows.{StoredRow}
use Rattle.roam_stored_rows.proofs.Placing.{all-take}

pub all-rest : {X : Type 0} (P : X → Type 0) (x : X) (xs : List X) → All P (x ∷ xs) → All P xs
all-rest P x xs h k d s = h (suc k) d (omega (arith, s))

pub length-joined : (chunks : List (List StoredRow)) → AllWhole chunks → length (joined chunks) ≡ length chunks * 256
length-joined [] h = refl
length-joined (c ∷ cs) h =
    let one : length c ≡ 256 = h 0 c (omega arith) in
    let rest : length (joined cs) ≡ length cs * 256 = length-joined cs (all-rest (λ (rows : List StoredRow). length rows ≡ whole) c cs h) in
    length-append c (joined cs) ∙ omega (arith, one, rest)

pub length-joined_take : (chunks : List (List StoredRow)) (i : ℕ) → AllWhole chunks → i ≤ length chunks → length (joined (take i chunks)) ≡ i * 256
length-joined_take chunks i h s =
    length-joined (take i chunks) (all-take (λ (rows : List StoredRow). length rows ≡ whole) i chunks h)
    ∙ ap (λ n. n * 256) (length-take-le i chunks s)

pub row-in : (chunks : List (List StoredRow)) (last : List StoredRow) (place : ℕ) (d : List StoredRow) (e : StoredRow)
    → AllWhole chunks → place / 256 < length chunks
    → get_or (joined chunks ++ last) place e ≡ get_or (get_or chunks (place / 256) d) (place % 256) e
row-in chunks last place d e h s =
    let i = place / 256 in
    let j = place % 256 in
    let split : i * 256 + j ≡ place = div-add-mod' place 256 in
    let low : j < 256 = mod_below place 256 (omega arith) in
    let front : length (joined (take i chunks)) ≡ i * 256 = length-joined_take chunks i h (omega (arith, s)) in
    let size : length (get_or chunks i d) ≡ 256 = h i d s in
    let all : length (joined chunks) ≡ length chunks * 256 = length-joined chunks h in
    let inside : place < length (joined chunks) = omega (arith, split, low, all, s) in
    let fits : j < length (get_or chunks i d) = omega (arith, low, size) in
    get_or_append_left (joined chunks) last e place inside
    ∙ ap (λ n. get_or (joined chunks) n e) (sym split ∙ ap (λ n. n + j) (sym front))
    ∙ get_or-flat_map (λ (rows : List StoredRow). rows) chunks i j d e s fits

pub row-behind : (chunks : List (List StoredRow)) (last : List StoredRow) (place : ℕ) (e : StoredRow)
    → AllWhole chunks → length chunks ≤ place / 256
    → get_or (joined chunks ++ last) place e ≡ get_or last (place - length chunks * 256) e
row-behind chunks last place e h s =
    let split : place / 256 * 256 + place % 256 ≡ place = div-add-mod' place 256 in
    get_or-append_right (joined chunks) last (length chunks * 256) place e (length-joined chunks h) (omega (arith, split, s))

pub behind-fits : (chunks : List (List StoredRow)) (last : List StoredRow) (place : ℕ)
    → AllWhole chunks → length chunks ≤ place / 256 → place < length (joined chunks) + length last
    → place - length chunks * 256 < length last
behind-fits chunks last place h s w =
    let split : place / 256 * 256 + place % 256 ≡ place = div-add-mod' place 256 in
    omega (arith, split, s, w, length-joined chunks h)

pub take-past : {X : Type 0} (xs ys : List X) (n m : ℕ) → length xs ≡ n → take (n + m) (xs ++ ys) ≡ xs ++ take m ys
take-past xs ys n m h = ap (λ k. take (k + m) (xs ++ ys)) (sym h) ∙ take-append-add xs ys m

pub take-in : (chunks : List (List StoredRow)) (last : List StoredRow) (place : ℕ) (d : List StoredRow)
    → AllWhole chunks → place / 256 < length chunks
    → joined (take (place / 256) chunks) ++ take (place % 256) (get_or chunks (place / 256) d) ≡ take place (joined chunks ++ last)
take-in chunks last place d h s =
    let i = place / 256 in
    let j = place % 256 in
    let split : i * 256 + j ≡ place = div-add-mod' place 256 in
    let low : j < 256 = mod_below place 256 (omega arith) in
    let front : length (joined (take i chunks)) ≡ i * 256 = length-joined_take chunks i h (omega (arith, s)) in
    let c = get_or chunks i d in
    let size : length c ≡ 256 = h i d s in
    let rest = joined (drop (i + 1) chunks) in
    let whole_is : joined chunks ≡ joined (take i chunks) ++ (c ++ rest) =
    ap joined (sym (take-append-drop i chunks) ∙ ap (λ (l : List (List StoredRow)). take i chunks ++ l) (drop_more chunks i d s))
    ∙ flat_map-append (λ (rows : List StoredRow). rows) (take i chunks) (c ∷ drop (i + 1) chunks) in
    let all : joined chunks ++ last ≡ joined (take i chunks) ++ (c ++ (rest ++ last)) =
    ap (λ (l : List StoredRow). l ++ last) whole_is ∙ append_assoc (joined (take i chunks)) (c ++ rest) last
    ∙ ap (λ (l : List StoredRow). joined (take i chunks) ++ l) (append_assoc c rest last) in
    sym (ap (λ n. take n (joined chunks ++ last)) (sym split)
    ∙ ap (λ (l : List StoredRow). take (i * 256 + j) l) all
    ∙ take-past (joined (take i chunks)) (c ++ (rest ++ last)) (i * 256) j front
    ∙ ap (λ (l : List StoredRow). joined (take i chunks) ++ l) (take-append-le j c (rest ++ last) (omega (arith, low, size))))

pub take-behind : (chunks : List (List StoredRow)) (last : List StoredRow) (place : ℕ)
    → AllWhole chunks → length chunks ≤ place / 256
    → joined chunks ++ take (place - length chunks * 256) last ≡ take place (joined chunks ++ last)
take-behind chunks last place h s =
    let split : place / 256 * 256 + place % 256 ≡ place = div-add-mod' place 256 in
    let n = length chunks * 256 in
    let sum : n + (place - n) ≡ place = omega (arith, split, s) in
    sym (ap (λ k. take k (joined chunks ++ last)) (sym sum) ∙ take-past (joined chunks) last n (place - n) (length-joined chunks h))

pub drop-chunk : (c : List StoredRow) (chunks : List (List StoredRow)) (last : List StoredRow) (dropped : ℕ)
    → length c ≡ 256 → 256 ≤ dropped → drop (dropped - 256) (joined chunks ++ last) ≡ drop dropped (joined (c ∷ chunks) ++ last)
drop-chunk c chunks last dropped size s =
    let sum : length c + (dropped - 256) ≡ dropped = omega (arith, size, s) in
    sym (ap (λ n. drop n (c ++ joined chunks ++ last)) (sym sum)
    ∙ ap (λ (l : List StoredRow). drop (length c + (dropped - 256)) l) (append_assoc c (joined chunks) last)
    ∙ drop-append-add c (joined chunks ++ last) (dropped - 256))

pub size_of-view : (chunks : List (List StoredRow)) (last : List StoredRow) (dropped : ℕ)
    → length (drop dropped (joined chunks ++ last)) ≡ length (joined chunks) + length last - dropped
size_of-view chunks last dropped =
    length-drop dropped (joined chunks ++ last) ∙ ap (λ n. n - dropped) (length-append (joined chunks) last)

pub length-cons : (c : List StoredRow) (chunks : List (List StoredRow)) → length (joined (c ∷ chunks)) ≡ length c + length (joined chunks)
length-cons c chunks = length-append c (joined chunks)

-- what is before the last of the first i + 1, and that last one
pub popped-back : {X : Type 0} (xs new : List X) (x : X) (i : ℕ) → i < length xs → take (i + 1) xs ≡ new ++ x ∷ []
    → (new ≡ take i xs) × (x ≡ get_or xs i x)
popped-back xs new x i h e =
    let same = same_from_push (take i xs) new (get_or xs i x) x (sym (take_more xs i x h) ∙ e) in
    (sym same.0, sym same.1)
