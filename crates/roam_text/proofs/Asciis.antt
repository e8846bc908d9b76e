-- ASCII between sequences and within them.
use Rattle.std.proofs.Common.{◌≡◌, ◌<◌, ℕ, List, [], ◌∷◌, ◌++◌, ◌+◌, ◌-◌, length, length-drop, take, take_all, drop, map, refl, sym, ap, ◌∙◌, append_assoc, arith}
use Rattle.std.proofs.lemmas.List.{map-append, take-append-drop, take-take, drop-take}
use Rattle.roam_text.specs.Log.{Item, Byte, Sign, character, settled_part, unfinished_part}
use Rattle.roam_text.specs.Functions.{functions_of, AreAscii}
use Rattle.roam_text.specs.Residual.{outcome}
use Rattle.roam_text.specs.declared.parsers.Parser.{Parser}
use Rattle.roam_text.specs.Stands.{View, Stands}
use Rattle.roam_text.proofs.Bytes.{settled-append, unfinished-append, one-ascii, unfinished-end, settled-end, unfinished-empty}
use Rattle.roam_text.proofs.Logs.{bytes-stand, bytes-gained}

append-nil : {A : Type 0} (xs : List A) → xs ++ [] ≡ xs
append-nil [] = refl
append-nil (x ∷ xs) = ap (λ l. x ∷ l) (append-nil xs)

pub ascii-more : (xs : List ℕ) (b : ℕ) → AreAscii xs → b < 0x80 → AreAscii (xs ++ b ∷ [])
ascii-more [] b below last = (last, tt)
ascii-more (x ∷ xs) b below last = (below.0, ascii-more xs b below.1 last)

-- each is a character of its own
ascii-settled : (bs : List ℕ) → AreAscii bs → settled_part bs ≡ bs
ascii-settled [] below = settled-end [] unfinished-empty
ascii-settled (b ∷ bs) below =
    settled-append (b ∷ []) bs
    ∙ ap (λ l. l ++ settled_part (unfinished_part (b ∷ []) ++ bs)) (sym (one-ascii b below.0).chars)
    ∙ ap (λ l. b ∷ settled_part (l ++ bs)) (sym (one-ascii b below.0).pending)
    ∙ ap (λ l. b ∷ l) (ascii-settled bs below.1)

ascii-unfinished : (bs : List ℕ) → AreAscii bs → unfinished_part bs ≡ []
ascii-unfinished [] below = unfinished-end [] unfinished-empty
ascii-unfinished (b ∷ bs) below =
    unfinished-append (b ∷ []) bs
    ∙ ap (λ l. unfinished_part (l ++ bs)) (sym (one-ascii b below.0).pending)
    ∙ ascii-unfinished bs below.1

-- one more character of those that were read
pub characters-more : (old now new : Parser) (xs : List ℕ) (b : ℕ)
    → ((rest : List Sign) → outcome old (map character xs ++ rest) ≡ outcome now rest)
    → ((rest : List Sign) → outcome now (character b ∷ rest) ≡ outcome new rest)
    → (rest : List Sign) → outcome old (map character (xs ++ b ∷ []) ++ rest) ≡ outcome new rest
characters-more old now new xs b before next rest =
    ap (λ l. outcome old (l ++ rest)) (map-append character xs (b ∷ []))
    ∙ ap (outcome old) (append_assoc (map character xs) (character b ∷ []) rest)
    ∙ before (character b ∷ rest) ∙ next rest

-- more characters of those that were read
pub characters-joined : (old now new : Parser) (xs ys : List ℕ)
    → ((rest : List Sign) → outcome old (map character xs ++ rest) ≡ outcome now rest)
    → ((rest : List Sign) → outcome now (map character ys ++ rest) ≡ outcome new rest)
    → (rest : List Sign) → outcome old (map character (xs ++ ys) ++ rest) ≡ outcome new rest
characters-joined old now new xs ys before next rest =
    ap (λ l. outcome old (l ++ rest)) (map-append character xs ys)
    ∙ ap (outcome old) (append_assoc (map character xs) (map character ys) rest)
    ∙ before (map character ys ++ rest) ∙ next rest

pub ascii-joined : (xs ys : List ℕ) → AreAscii xs → AreAscii ys → AreAscii (xs ++ ys)
ascii-joined [] ys below more = more
ascii-joined (x ∷ xs) ys below more = (below.0, ascii-joined xs ys below.1 more)

-- all of the rest is lent from a place on
rest-lent : (xs : List ℕ) (a : ℕ) → take (length xs - a) (drop a xs) ≡ drop a xs
rest-lent xs a = take_all (length xs - a) (drop a xs) (omega (arith, length-drop a xs))

-- the front of a list in two parts
pub front-joined : (xs : List ℕ) (a b : ℕ) → take (a + b) xs ≡ take a xs ++ take b (take (length xs - a) (drop a xs))
front-joined xs a b =
    sym (take-append-drop a (take (a + b) xs))
    ∙ ap (λ l. l ++ drop a (take (a + b) xs)) (take-take a (a + b) xs (omega arith))
    ∙ ap (λ l. take a xs ++ l) (drop-take a b xs)
    ∙ sym (ap (λ l. take a xs ++ take b l) (rest-lent xs a))

-- bytes of ASCII that complete no function
module _ (old new : View) (bs : List ℕ) (below : AreAscii bs) (whole : old.pending ≡ []) (same : new.pending ≡ [])
    (read : (rest : List Sign) → outcome old.parser (map character bs ++ rest) ≡ outcome new.parser rest) where
  kept : new.pending ≡ unfinished_part (old.pending ++ bs)
  kept = same ∙ sym (ascii-unfinished bs below) ∙ sym (ap (λ l. unfinished_part (l ++ bs)) whole)

  gives : (rest : List Sign) → outcome old.parser (map character (settled_part (old.pending ++ bs)) ++ rest) ≡ outcome new.parser rest
  gives rest =
      ap (λ l. outcome old.parser (map character (settled_part (l ++ bs)) ++ rest)) whole
      ∙ ap (λ l. outcome old.parser (map character l ++ rest)) (ascii-settled bs below)
      ∙ read rest

  pub run-stands : (log : List Item) → Stands old log → Stands new (log ++ map Byte bs)
  run-stands log stands = bytes-stand old new bs [] kept gives log stands

  pub run-gained : (log : List Item) → Stands old log → functions_of (log ++ map Byte bs) ≡ functions_of log
  run-gained log stands = bytes-gained old new bs [] kept gives log stands ∙ append-nil (functions_of log)
