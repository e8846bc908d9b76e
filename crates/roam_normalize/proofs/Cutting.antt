-- The first sequence stays the same if more bytes follow, and is part of the bytes.
use Rattle.std.proofs.Common.{◌≡◌, ◌≤◌, ◌<◌, ◌+◌, ℕ, zero, suc, Bool, true, false, cond, List, [], ◌∷◌, ◌++◌, length, drop, refl, sym, ap, ◌∙◌, arith, append_assoc, length-drop}
use Rattle.std.specs.Prelude.{⊤, ◌==◌}
use Rattle.std.proofs.lemmas.List.{drop-append-le}
use Rattle.roam_normalize.specs.Meanings.{hyphen}
use Rattle.roam_normalize.specs.Normalized.{Scan, Unfinished, Neither, Sequence, Front, Held, Taken, Normalized, behind, escape_front, front, is_body, is_final, lead_front, normalized, normalized_from, most_body, most_held, most_title, one, onward, scan, sequence_front, title_front, title_scan, TitleScan, OpenTitle, Titled, is_title, terminator, with_byte, with_letter}

-- the scan of some bytes is the scan of more
abbrev SameScan : Scan → Scan → Type 0
SameScan Unfinished t = ⊤
SameScan s t = t ≡ s

with-same : (b : ℕ) (s t : Scan) → SameScan s t → SameScan (with_byte b s) (with_byte b t)
with-same b Unfinished t h = tt
with-same b Neither t h = ap (with_byte b) h
with-same b (Sequence body last) t h = ap (with_byte b) h

cond-same : (t : Bool) (a b c : Scan) → SameScan a b → SameScan c c → SameScan (cond t a c) (cond t b c)
cond-same true a b c p q = p
cond-same false a b c p q = q

end-same : (t : Bool) (b : ℕ) → SameScan (cond t (Sequence [] b) Neither) (cond t (Sequence [] b) Neither)
end-same true b = refl
end-same false b = refl

scan-same : (room : ℕ) (bytes more : List ℕ) → SameScan (scan room bytes) (scan room (bytes ++ more))
scan-same zero [] more = tt
scan-same (suc room) [] more = tt
scan-same zero (b ∷ rest) more = end-same (is_final b) b
scan-same (suc room) (b ∷ rest) more =
    cond-same (is_body b) (with_byte b (scan room rest)) (with_byte b (scan room (rest ++ more))) _ (with-same b (scan room rest) (scan room (rest ++ more)) (scan-same room rest more)) (end-same (is_final b) b)

-- the scan of a title is that of more bytes
abbrev pub SameTitle : TitleScan → TitleScan → Type 0
SameTitle OpenTitle t = ⊤
SameTitle s t = t ≡ s

letter-same : (b : ℕ) (s t : TitleScan) → SameTitle s t → SameTitle (with_letter b s) (with_letter b t)
letter-same b OpenTitle t h = tt
letter-same b (Titled title end) t h = ap (with_letter b) h

title-cond : (t : Bool) (a b c d : TitleScan) → SameTitle a b → SameTitle c d → SameTitle (cond t a c) (cond t b d)
title-cond true a b c d p q = p
title-cond false a b c d p q = q

terminator-same : (bytes more : List ℕ) → SameTitle (terminator bytes) (terminator (bytes ++ more))
terminator-same [] more = tt
terminator-same (c ∷ rest) more = refl

pub title-same : (room : ℕ) (bytes more : List ℕ) → SameTitle (title_scan room bytes) (title_scan room (bytes ++ more))
title-same zero [] more = tt
title-same zero (b ∷ rest) more = refl
title-same (suc room) [] more = tt
title-same (suc room) (b ∷ rest) more =
    title-cond (is_title b) _ _ _ _ (letter-same b (title_scan room rest) (title_scan room (rest ++ more)) (title-same room rest more))
    (title-cond (b == 0x1B) _ _ (Titled [] 1) (Titled [] 1) (terminator-same rest more) refl)

abbrev pub SameFront : Front → Front → Type 0
SameFront Held g = ⊤
SameFront f g = g ≡ f

sequence-same : (s t : Scan) → SameScan s t → SameFront (sequence_front s) (sequence_front t)
sequence-same Unfinished t h = tt
sequence-same Neither t h = ap sequence_front h
sequence-same (Sequence body last) t h = ap sequence_front h

titled-same : (s t : TitleScan) → SameTitle s t → SameFront (title_front s) (title_front t)
titled-same OpenTitle t h = tt
titled-same (Titled title end) t h = ap title_front h

front-cond : (t : Bool) (a b c d : Front) → SameFront a b → SameFront c d → SameFront (cond t a c) (cond t b d)
front-cond true a b c d p q = p
front-cond false a b c d p q = q

escape-same : (bytes more : List ℕ) → SameFront (escape_front bytes) (escape_front (bytes ++ more))
escape-same [] more = tt
escape-same (c ∷ rest) more =
    front-cond (c == 0x5B) _ _ _ _ (sequence-same (scan most_body rest) (scan most_body (rest ++ more)) (scan-same most_body rest more))
    (front-cond (c == 0x6B) _ _ (one 0x1B) (one 0x1B)
    (titled-same (title_scan most_title rest) (title_scan most_title (rest ++ more)) (title-same most_title rest more)) refl)

lead-same : (bytes more : List ℕ) → SameFront (lead_front bytes) (lead_front (bytes ++ more))
lead-same [] more = tt
lead-same (c ∷ rest) more = front-cond (c == 0xAD) _ _ (one 0xC2) (one 0xC2) refl refl

pub front-same : (bytes more : List ℕ) → SameFront (front bytes) (front (bytes ++ more))
front-same [] more = tt
front-same (b ∷ rest) more = either (b == 0x1B) (b == 0xC2)
  where
    either : (s t : Bool) → SameFront (cond s (escape_front rest) (cond t (lead_front rest) (one b))) (cond s (escape_front (rest ++ more)) (cond t (lead_front (rest ++ more)) (one b)))
    either true t = escape-same rest more
    either false true = lead-same rest more
    either false false = refl

-- ---- how many bytes it takes

abbrev ScanFits : ℕ → Scan → Type 0
ScanFits n (Sequence body last) = suc (length body) ≤ n
ScanFits n s = ⊤

scan-cond : (n : ℕ) (t : Bool) (a b : Scan) → ScanFits n a → ScanFits n b → ScanFits n (cond t a b)
scan-cond n true a b p q = p
scan-cond n false a b p q = q

with-fits : (n b : ℕ) (s : Scan) → ScanFits n s → ScanFits (suc n) (with_byte b s)
with-fits n b Unfinished h = tt
with-fits n b Neither h = tt
with-fits n b (Sequence body last) h = omega (arith, h)

scan-fits : (room : ℕ) (bytes : List ℕ) → ScanFits (length bytes) (scan room bytes)
scan-fits zero [] = tt
scan-fits (suc room) [] = tt
scan-fits zero (b ∷ rest) = scan-cond (length (b ∷ rest)) (is_final b) (Sequence [] b) Neither (omega arith) tt
scan-fits (suc room) (b ∷ rest) =
    scan-cond (length (b ∷ rest)) (is_body b) _ _ (with-fits (length rest) b (scan room rest) (scan-fits room rest))
    (scan-cond (length (b ∷ rest)) (is_final b) (Sequence [] b) Neither (omega arith) tt)

abbrev TitleFits : ℕ → TitleScan → Type 0
TitleFits n (Titled title end) = length title + end ≤ n
TitleFits n OpenTitle = ⊤

fits-title : (n : ℕ) (t : Bool) (a b : TitleScan) → TitleFits n a → TitleFits n b → TitleFits n (cond t a b)
fits-title n true a b p q = p
fits-title n false a b p q = q

letter-fits : (n b : ℕ) (s : TitleScan) → TitleFits n s → TitleFits (suc n) (with_letter b s)
letter-fits n b OpenTitle h = tt
letter-fits n b (Titled title end) h = omega (arith, h)

two-or-none : (n : ℕ) (t : Bool) → TitleFits (suc (suc n)) (Titled [] (cond t 2 0))
two-or-none n true = omega arith
two-or-none n false = omega arith

terminator-fits : (bytes : List ℕ) → TitleFits (suc (length bytes)) (terminator bytes)
terminator-fits [] = tt
terminator-fits (c ∷ rest) = two-or-none (length rest) (c == 0x5C)

title-fits : (room : ℕ) (bytes : List ℕ) → TitleFits (length bytes) (title_scan room bytes)
title-fits zero [] = tt
title-fits zero (b ∷ rest) = omega arith
title-fits (suc room) [] = tt
title-fits (suc room) (b ∷ rest) =
    fits-title (length (b ∷ rest)) (is_title b) _ _ (letter-fits (length rest) b (title_scan room rest) (title-fits room rest))
    (fits-title (length (b ∷ rest)) (b == 0x1B) _ (Titled [] 1) (terminator-fits rest) (omega arith))

abbrev pub FrontFits : ℕ → Front → Type 0
FrontFits n Held = ⊤
FrontFits n (Taken count out) = (0 < count) × (count ≤ n)

fits-cond : (n : ℕ) (t : Bool) (a b : Front) → FrontFits n a → FrontFits n b → FrontFits n (cond t a b)
fits-cond n true a b p q = p
fits-cond n false a b p q = q

sequence-fits : (n : ℕ) (s : Scan) → ScanFits n s → FrontFits (suc (suc n)) (sequence_front s)
sequence-fits n Unfinished h = tt
sequence-fits n Neither h = (omega arith, omega arith)
sequence-fits n (Sequence body last) h = (omega arith, omega (arith, h))

titled-fits : (n : ℕ) (s : TitleScan) → TitleFits n s → FrontFits (suc (suc n)) (title_front s)
titled-fits n OpenTitle h = tt
titled-fits n (Titled title end) h = (omega arith, omega (arith, h))

escape-fits : (bytes : List ℕ) → FrontFits (suc (length bytes)) (escape_front bytes)
escape-fits [] = tt
escape-fits (c ∷ rest) =
    fits-cond (suc (suc (length rest))) (c == 0x5B) _ _ (sequence-fits (length rest) (scan most_body rest) (scan-fits most_body rest))
    (fits-cond (suc (suc (length rest))) (c == 0x6B) _ (one 0x1B)
    (titled-fits (length rest) (title_scan most_title rest) (title-fits most_title rest)) (omega arith, omega arith))

lead-fits : (bytes : List ℕ) → FrontFits (suc (length bytes)) (lead_front bytes)
lead-fits [] = tt
lead-fits (c ∷ rest) = fits-cond (suc (suc (length rest))) (c == 0xAD) (Taken 2 hyphen) (one 0xC2) (omega arith, omega arith) (omega arith, omega arith)

pub front-fits : (bytes : List ℕ) → FrontFits (length bytes) (front bytes)
front-fits [] = tt
front-fits (b ∷ rest) =
    fits-cond (suc (length rest)) (b == 0x1B) _ _ (escape-fits rest)
    (fits-cond (suc (length rest)) (b == 0xC2) _ (one b) (lead-fits rest) (omega arith, omega arith))

-- ---- the number of bytes kept back

abbrev ScanShort : ℕ → ℕ → Scan → Type 0
ScanShort n room Unfinished = n ≤ room
ScanShort n room s = ⊤

short-cond : (n room : ℕ) (t : Bool) (a b : Scan) → ScanShort n room a → ScanShort n room b → ScanShort n room (cond t a b)
short-cond n room true a b p q = p
short-cond n room false a b p q = q

with-short : (n room b : ℕ) (s : Scan) → ScanShort n room s → ScanShort (suc n) (suc room) (with_byte b s)
with-short n room b Unfinished h = omega (arith, h)
with-short n room b Neither h = tt
with-short n room b (Sequence body last) h = tt

scan-short : (room : ℕ) (bytes : List ℕ) → ScanShort (length bytes) room (scan room bytes)
scan-short zero [] = omega arith
scan-short (suc room) [] = omega arith
scan-short zero (b ∷ rest) = short-cond (suc (length rest)) zero (is_final b) (Sequence [] b) Neither tt tt
scan-short (suc room) (b ∷ rest) =
    short-cond (suc (length rest)) (suc room) (is_body b) _ _ (with-short (length rest) room b (scan room rest) (scan-short room rest))
    (short-cond (suc (length rest)) (suc room) (is_final b) (Sequence [] b) Neither tt tt)

abbrev TitleShort : ℕ → ℕ → TitleScan → Type 0
TitleShort n room OpenTitle = n ≤ room
TitleShort n room (Titled title end) = ⊤

short-title : (n room : ℕ) (t : Bool) (a b : TitleScan) → TitleShort n room a → TitleShort n room b → TitleShort n room (cond t a b)
short-title n room true a b p q = p
short-title n room false a b p q = q

letter-short : (n room b : ℕ) (s : TitleScan) → TitleShort n room s → TitleShort (suc n) (suc room) (with_letter b s)
letter-short n room b OpenTitle h = omega (arith, h)
letter-short n room b (Titled title end) h = tt

terminator-short : (room : ℕ) (bytes : List ℕ) → TitleShort (suc (length bytes)) (suc room) (terminator bytes)
terminator-short room [] = omega arith
terminator-short room (c ∷ rest) = tt

title-short : (room : ℕ) (bytes : List ℕ) → TitleShort (length bytes) room (title_scan room bytes)
title-short zero [] = omega arith
title-short zero (b ∷ rest) = tt
title-short (suc room) [] = omega arith
title-short (suc room) (b ∷ rest) =
    short-title (suc (length rest)) (suc room) (is_title b) _ _ (letter-short (length rest) room b (title_scan room rest) (title-short room rest))
    (short-title (suc (length rest)) (suc room) (b == 0x1B) _ (Titled [] 1) (terminator-short room rest) tt)

abbrev FrontShort : ℕ → Front → Type 0
FrontShort n Held = n ≤ most_held
FrontShort n (Taken count out) = ⊤

front-short-cond : (n : ℕ) (t : Bool) (a b : Front) → FrontShort n a → FrontShort n b → FrontShort n (cond t a b)
front-short-cond n true a b p q = p
front-short-cond n false a b p q = q

sequence-short : (n : ℕ) (s : Scan) → ScanShort n most_body s → FrontShort (suc (suc n)) (sequence_front s)
sequence-short n Unfinished h = omega (arith, h)
sequence-short n Neither h = tt
sequence-short n (Sequence body last) h = tt

titled-short : (n : ℕ) (s : TitleScan) → TitleShort n most_title s → FrontShort (suc (suc n)) (title_front s)
titled-short n OpenTitle h = omega (arith, h)
titled-short n (Titled title end) h = tt

escape-short : (bytes : List ℕ) → FrontShort (suc (length bytes)) (escape_front bytes)
escape-short [] = omega arith
escape-short (c ∷ rest) =
    front-short-cond (suc (suc (length rest))) (c == 0x5B) _ _ (sequence-short (length rest) (scan most_body rest) (scan-short most_body rest))
    (front-short-cond (suc (suc (length rest))) (c == 0x6B) _ (one 0x1B)
    (titled-short (length rest) (title_scan most_title rest) (title-short most_title rest)) tt)

lead-short : (bytes : List ℕ) → FrontShort (suc (length bytes)) (lead_front bytes)
lead-short [] = omega arith
lead-short (c ∷ rest) = front-short-cond (suc (suc (length rest))) (c == 0xAD) (Taken 2 hyphen) (one 0xC2) tt tt

pub front-short : (bytes : List ℕ) → FrontShort (length bytes) (front bytes)
front-short [] = omega arith
front-short (b ∷ rest) =
    front-short-cond (suc (length rest)) (b == 0x1B) _ _ (escape-short rest)
    (front-short-cond (suc (length rest)) (b == 0xC2) _ (one b) (lead-short rest) tt)

-- ---- front by front

normalized_from-same : (m n : ℕ) (bytes : List ℕ) → length bytes ≤ m → length bytes ≤ n → normalized_from m bytes ≡ normalized_from n bytes
unfolding normalized_from
normalized_from-same zero zero bytes p q = refl
normalized_from-same zero (suc n) [] p q = refl
normalized_from-same zero (suc n) (b ∷ rest) p q = absurd (omega (arith, p))
normalized_from-same (suc m) zero [] p q = refl
normalized_from-same (suc m) zero (b ∷ rest) p q = absurd (omega (arith, q))
normalized_from-same (suc m) (suc n) bytes p q = go (λ xs a b. normalized_from-same m n xs a b) (front bytes) (front-fits bytes)
  where
    go : ((xs : List ℕ) → length xs ≤ m → length xs ≤ n → normalized_from m xs ≡ normalized_from n xs) → (f : Front) → FrontFits (length bytes) f → onward f bytes (normalized_from m) ≡ onward f bytes (normalized_from n)
    go again Held fits = refl
    go again (Taken count out) fits =
        let some = fits.0 in
        let most = fits.1 in
        let left = length-drop count bytes in
        ap (behind out) (again (drop count bytes) (omega (arith, p, some, most, left)) (omega (arith, q, some, most, left)))

-- the first sequence, and the rest
pub normalized-step : (bytes : List ℕ) → normalized bytes ≡ onward (front bytes) bytes normalized
unfolding normalized normalized_from
normalized-step [] = refl
normalized-step (b ∷ rest) = go (front (b ∷ rest)) (front-fits (b ∷ rest))
  where
    go : (f : Front) → FrontFits (length (b ∷ rest)) f → onward f (b ∷ rest) (normalized_from (length rest)) ≡ onward f (b ∷ rest) normalized
    go Held fits = refl
    go (Taken count out) fits =
        let some = fits.0 in
        let most = fits.1 in
        let left = length-drop count (b ∷ rest) in
        ap (behind out) (normalized_from-same (length rest) (length (drop count (b ∷ rest))) (drop count (b ∷ rest)) (omega (arith, some, most, left)) (omega arith))

-- ---- however they are cut

within : (n : ℕ) (bytes more : List ℕ) → length bytes ≤ n → normalized (bytes ++ more) ≡ behind (normalized bytes).out (normalized ((normalized bytes).held ++ more))
within n [] more few = sym (ap (λ (m : Normalized). behind m.out (normalized (m.held ++ more))) (normalized-step []))
within zero (b ∷ rest) more few = absurd (omega (arith, few))
within (suc n) (b ∷ rest) more few = go (λ xs a. within n xs more a) (front (b ∷ rest)) refl (front-fits (b ∷ rest)) (front-same (b ∷ rest) more)
  where
    go : ((xs : List ℕ) → length xs ≤ n → normalized (xs ++ more) ≡ behind (normalized xs).out (normalized ((normalized xs).held ++ more))) → (f : Front) → front (b ∷ rest) ≡ f → FrontFits (length (b ∷ rest)) f → SameFront f (front ((b ∷ rest) ++ more)) → normalized ((b ∷ rest) ++ more) ≡ behind (normalized (b ∷ rest)).out (normalized ((normalized (b ∷ rest)).held ++ more))
    go again Held is fits same = sym (ap (λ (m : Normalized). behind m.out (normalized (m.held ++ more))) (normalized-step (b ∷ rest) ∙ ap (λ f. onward f (b ∷ rest) normalized) is))
    go again (Taken count out) is fits same =
        let some = fits.0 in
        let most = fits.1 in
        let left = length-drop count (b ∷ rest) in
        let later = drop count (b ∷ rest) in
        normalized-step ((b ∷ rest) ++ more) ∙ ap (λ f. onward f ((b ∷ rest) ++ more) normalized) same
        ∙ ap (λ l. behind out (normalized l)) (drop-append-le count (b ∷ rest) more most)
        ∙ ap (behind out) (again later (omega (arith, few, some, most, left)))
        ∙ ap (λ l. record { out = l; held = (normalized ((normalized later).held ++ more)).held }) (sym (append_assoc out (normalized later).out (normalized ((normalized later).held ++ more)).out))
        ∙ sym (ap (λ (m : Normalized). behind m.out (normalized (m.held ++ more))) (normalized-step (b ∷ rest) ∙ ap (λ f. onward f (b ∷ rest) normalized) is))

pub normalized-append : (bytes more : List ℕ) → normalized (bytes ++ more) ≡ behind (normalized bytes).out (normalized ((normalized bytes).held ++ more))
normalized-append bytes more = within (length bytes) bytes more (omega arith)

-- ---- few bytes are kept back

short-within : (n : ℕ) (bytes : List ℕ) → length bytes ≤ n → length (normalized bytes).held ≤ most_held
short-within n [] few = let e = ap (λ (m : Normalized). length m.held) (normalized-step []) in omega (arith, e)
short-within zero (b ∷ rest) few = absurd (omega (arith, few))
short-within (suc n) (b ∷ rest) few = go (λ xs a. short-within n xs a) (front (b ∷ rest)) refl (front-fits (b ∷ rest)) (front-short (b ∷ rest))
  where
    go : ((xs : List ℕ) → length xs ≤ n → length (normalized xs).held ≤ most_held) → (f : Front) → front (b ∷ rest) ≡ f → FrontFits (length (b ∷ rest)) f → FrontShort (length (b ∷ rest)) f → length (normalized (b ∷ rest)).held ≤ most_held
    go again Held is fits short = let e = ap (λ (m : Normalized). length m.held) (normalized-step (b ∷ rest) ∙ ap (λ f. onward f (b ∷ rest) normalized) is) in omega (arith, e, short)
    go again (Taken count out) is fits short =
        let some = fits.0 in
        let most = fits.1 in
        let left = length-drop count (b ∷ rest) in
        let e = ap (λ (m : Normalized). length m.held) (normalized-step (b ∷ rest) ∙ ap (λ f. onward f (b ∷ rest) normalized) is) in
        let h = again (drop count (b ∷ rest)) (omega (arith, few, some, most, left)) in
        omega (arith, e, h)

pub held-short : (bytes : List ℕ) → length (normalized bytes).held ≤ most_held
held-short bytes = short-within (length bytes) bytes (omega arith)
