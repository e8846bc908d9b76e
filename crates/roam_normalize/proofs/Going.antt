-- Runs of bytes that pass unchanged, and the bytes behind ESC and 5B.
use Rattle.std.proofs.Common.{◌≡◌, ◌≤◌, ◌<◌, ◌+◌, ◌-◌, ℕ, zero, suc, Bool, true, false, cond, List, [], ◌∷◌, ◌++◌, length, length-drop, take, drop, refl, sym, ap, ◌∙◌, arith, append_assoc, subst}
use Rattle.std.specs.Prelude.{◌==◌, ◌||◌, not, slice_index}
use Rattle.std.proofs.lemmas.List.{drop-drop, get_or-drop, length-take-le, take-append-drop, take_more}
use Rattle.std.proofs.Math.Seq.{take-add}
use Rattle.memchr.specs.Find.{is_byte2}
use Rattle.roam_normalize.specs.declared.meanings.Kind.{Kind}
use Rattle.roam_normalize.specs.declared.meanings.Kind.TheVariants.{AsItStands}
use Rattle.roam_normalize.specs.Meanings.{kind_of, meaning, text_of, whole}
use Rattle.roam_normalize.specs.Normalized.{Scan, Unfinished, Neither, Sequence, Held, Taken, GoesThrough, behind, escape_front, front, lead_front, normalized, most_body, one, onward, scan, sequence_front}
use Rattle.roam_normalize.specs.Found.{AreStill, is_still}
use Rattle.roam_normalize.proofs.Cutting.{normalized-step}
use Rattle.roam_normalize.proofs.Spelling.{rest-lent}

-- ---- still bytes

pub parts : (x y : Bool) → not (x || y) ≡ true → (x ≡ false) × (y ≡ false)
parts true y h = cc
parts false true h = cc
parts false false h = (refl, refl)

pub still-front : (b : ℕ) (rest : List ℕ) → is_still b ≡ true → front (b ∷ rest) ≡ one b
still-front b rest still =
    let p = parts (b == 0x1B) (b == 0xC2) still in
    ap (λ t. cond t (escape_front rest) (cond (b == 0xC2) (lead_front rest) (one b))) p.0
    ∙ ap (λ t. cond t (lead_front rest) (one b)) p.1

pub still-goes : (run rest : List ℕ) → AreStill run → GoesThrough run rest
still-goes [] rest still = refl
still-goes (b ∷ run) rest still =
    normalized-step (b ∷ (run ++ rest)) ∙ ap (λ f. onward f (b ∷ (run ++ rest)) normalized) (still-front b (run ++ rest) still.0)
    ∙ ap (behind (b ∷ [])) (still-goes run rest still.1)

not-true : (b : Bool) → (b ≡ true → ⊥) → not b ≡ true
not-true true never = absurd (never refl)
not-true false never = refl

pub still-take : (n : ℕ) (bytes : List ℕ) → n ≤ length bytes → ((k : ℕ) → k < n → is_byte2 0x1B 0xC2 (slice_index bytes k) ≡ true → ⊥) → AreStill (take n bytes)
still-take zero bytes few never = tt
still-take (suc n) [] few never = absurd (omega (arith, few))
still-take (suc n) (b ∷ bytes) few never = (
  not-true (is_byte2 0x1B 0xC2 b) (never 0 (omega arith)),
  still-take n bytes (omega (arith, few)) (λ k less. never (suc k) (omega (arith, less))),
)

still-joined : (xs ys : List ℕ) → AreStill xs → AreStill ys → AreStill (xs ++ ys)
still-joined [] ys first later = later
still-joined (x ∷ xs) ys first later = (first.0, still-joined xs ys first.1 later)

-- one more still byte
pub still-on : (bytes : List ℕ) (at : ℕ) → at < length bytes → is_still (slice_index bytes at) ≡ true → AreStill (take at bytes) → AreStill (take (at + 1) bytes)
still-on bytes at less is still = subst AreStill (sym (take_more bytes at 0 less)) (still-joined (take at bytes) (slice_index bytes at ∷ []) still (is, tt))

-- still bytes near, and far
pub still-far : (bytes : List ℕ) (near far : ℕ) → AreStill (take near bytes) → AreStill (take far (take (length bytes - near) (drop near bytes))) → AreStill (take (near + far) bytes)
still-far bytes near far first later =
    subst AreStill (sym (take-add near far bytes))
    (still-joined (take near bytes) (take far (drop near bytes)) first (subst (λ l. AreStill (take far l)) (rest-lent bytes near) later))

-- ---- runs one after another

goes-joined : (a b rest : List ℕ) → GoesThrough a (b ++ rest) → GoesThrough b rest → GoesThrough (a ++ b) rest
goes-joined a b rest first later =
    ap normalized (append_assoc a b rest) ∙ first ∙ ap (behind a) later
    ∙ ap (λ l. record { out = l; held = (normalized rest).held }) (sym (append_assoc a b (normalized rest).out))

goes-on : (bytes : List ℕ) (at k : ℕ) → GoesThrough (take at bytes) (drop at bytes) → GoesThrough (take k (drop at bytes)) (drop k (drop at bytes))
    → GoesThrough (take (at + k) bytes) (drop (at + k) bytes)
goes-on bytes at k first later =
    let rest : drop k (drop at bytes) ≡ drop (at + k) bytes = drop-drop k at bytes in
    subst (λ l. GoesThrough l (drop (at + k) bytes)) (sym (take-add at k bytes))
    (subst (GoesThrough (take at bytes ++ take k (drop at bytes))) rest
    (goes-joined (take at bytes) (take k (drop at bytes)) (drop k (drop at bytes))
    (subst (GoesThrough (take at bytes)) (sym (take-append-drop k (drop at bytes))) first) later))

abbrev lent : List ℕ → ℕ → List ℕ
lent bytes at = take (length bytes - at) (drop at bytes)

-- plain bytes behind bytes that pass
pub goes-still : (bytes : List ℕ) (at still : ℕ) → GoesThrough (take at bytes) (drop at bytes) → AreStill (take still (lent bytes at))
    → GoesThrough (take (at + still) bytes) (drop (at + still) bytes)
goes-still bytes at still first quiet =
    goes-on bytes at still first
    (still-goes (take still (drop at bytes)) (drop still (drop at bytes)) (subst (λ l. AreStill (take still l)) (rest-lent bytes at) quiet))

-- and a front behind these
pub goes-front : (bytes : List ℕ) (at same : ℕ) → GoesThrough (take at bytes) (drop at bytes) → GoesThrough (take same (lent bytes at)) (drop same (lent bytes at))
    → GoesThrough (take (at + same) bytes) (drop (at + same) bytes)
goes-front bytes at same first later =
    goes-on bytes at same first (subst (λ l. GoesThrough (take same l) (drop same l)) (rest-lent bytes at) later)

pub run-within : (bytes : List ℕ) (at run : ℕ) → at ≤ length bytes → run ≤ length (lent bytes at) → at + run ≤ length bytes
run-within bytes at run few most =
    let a = length-drop at bytes in
    let p : length (lent bytes at) ≡ length (drop at bytes) = ap length (rest-lent bytes at) in
    omega (arith, few, most, a, p)

-- a front that goes through
pub goes-same : (bytes : List ℕ) (count : ℕ) → front bytes ≡ Taken count (take count bytes) → GoesThrough (take count bytes) (drop count bytes)
goes-same bytes count is =
    ap normalized (take-append-drop count bytes) ∙ normalized-step bytes ∙ ap (λ f. onward f bytes normalized) is

-- ---- a control sequence

opened : (bytes : List ℕ) → 2 ≤ length bytes → slice_index bytes 0 ≡ 0x1B → slice_index bytes 1 ≡ 0x5B → bytes ≡ 0x1B ∷ 0x5B ∷ drop 2 bytes
opened [] some a b = absurd (omega (arith, some))
opened (x ∷ []) some a b = absurd (omega (arith, some))
opened (x ∷ y ∷ rest) some a b = ap (λ n. n ∷ y ∷ rest) a ∙ ap (λ n. 0x1B ∷ n ∷ rest) b

module _ (bytes : List ℕ) (some : 2 ≤ length bytes) (escape : slice_index bytes 0 ≡ 0x1B) (bracket : slice_index bytes 1 ≡ 0x5B) where
  abbrev rest : List ℕ
  rest = drop 2 bytes

  begins : front bytes ≡ sequence_front (scan most_body rest)
  begins = ap front (opened bytes some escape bracket)

  lent-scan : (s : Scan) → scan most_body (lent bytes 2) ≡ s → front bytes ≡ sequence_front s
  lent-scan s is = begins ∙ ap (λ l. sequence_front (scan most_body l)) (sym (rest-lent bytes 2)) ∙ ap sequence_front is

  pub front-held : scan most_body (lent bytes 2) ≡ Unfinished → front bytes ≡ Held
  front-held is = lent-scan Unfinished is

  first-byte : take 1 bytes ≡ 0x1B ∷ []
  first-byte = ap (take 1) (opened bytes some escape bracket)

  pub front-neither : scan most_body (lent bytes 2) ≡ Neither → front bytes ≡ Taken 1 (take 1 bytes)
  front-neither is = lent-scan Neither is ∙ ap (Taken 1) (sym first-byte)

  module _ (count : ℕ) (is : scan most_body (lent bytes 2) ≡ Sequence (take count (lent bytes 2)) (slice_index (lent bytes 2) count)) (within : count < length (lent bytes 2)) where
    abbrev body : List ℕ
    body = take count rest

    abbrev last : ℕ
    last = slice_index bytes (count + 2)

    long : count < length rest
    long = let e = ap length (rest-lent bytes 2) in omega (arith, within, e)

    last-is : slice_index rest count ≡ last
    last-is = get_or-drop 2 bytes count 0 ∙ ap (slice_index bytes) (omega arith)

    size : length body ≡ count
    size = let l = long in length-take-le count rest (omega (arith, l))

    pub sequence-within : count + 3 ≤ length bytes
    sequence-within = let l = long in let d = length-drop 2 bytes in omega (arith, l, d, some)

    taken : front bytes ≡ Taken (count + 3) (meaning body last)
    taken =
        lent-scan (Sequence (take count (lent bytes 2)) (slice_index (lent bytes 2) count)) is
        ∙ ap (λ l. sequence_front (Sequence (take count l) (slice_index l count))) (rest-lent bytes 2)
        ∙ ap (λ n. sequence_front (Sequence body n)) last-is
        ∙ ap (λ n. Taken (n + 3) (meaning body last)) size

    pub front-changed : (kind : Kind) → kind ≡ kind_of (take count (lent bytes 2)) (slice_index (lent bytes 2) count)
        → front bytes ≡ Taken (count + 3) (text_of kind body last)
    unfolding meaning
    front-changed kind k =
        taken ∙ ap (λ x. Taken (count + 3) (text_of x body last))
        (sym (k ∙ ap (λ l. kind_of (take count l) (slice_index l count)) (rest-lent bytes 2) ∙ ap (kind_of body) last-is))

    whole-is : whole body last ≡ take (count + 3) bytes
    whole-is =
        let three : count + 3 ≡ suc (suc (count + 1)) = omega arith in
        ap (λ n. 0x1B ∷ 0x5B ∷ (body ++ n ∷ [])) (sym last-is)
        ∙ ap (λ l. 0x1B ∷ 0x5B ∷ l) (sym (take_more rest count 0 long))
        ∙ sym (ap (λ n. take n (0x1B ∷ 0x5B ∷ rest)) three)
        ∙ sym (ap (take (count + 3)) (opened bytes some escape bracket))

    pub front-as-it-stands : AsItStands ≡ kind_of (take count (lent bytes 2)) (slice_index (lent bytes 2) count) → front bytes ≡ Taken (count + 3) (take (count + 3) bytes)
    front-as-it-stands k = front-changed AsItStands k ∙ ap (Taken (count + 3)) whole-is
