-- A row keeps its bytes while others come behind it, and while what is behind it goes.
use Rattle.std.proofs.Common.{◌≡◌, ℕ, ◌+◌, ◌-◌, ◌≤◌, ◌<◌, List, [], ◌∷◌, ◌++◌, drop, length, map, min, take, get_or, refl, sym, ap, subst, ◌∙◌, arith, suc, length-drop, length-take, take-append-drop}
use Rattle.std.specs.List.{All}
use Rattle.std.proofs.lemmas.List.{drop-append-le, take-append-le, take_all, drop_at, get_or-take, map_push}
use Rattle.roam_stored_rows.specs.Chunks.{IsPlaceOf, row_at}
use Rattle.roam_stored_rows.specs.Rows.{StoredRow}
use Rattle.roam_stored_rows.specs.declared.chunks.Place.{Place}

-- two functions that agree on each element give one list
pub map-same : {X Y : Type 0} (f g : X → Y) (xs : List X) → All (λ x. f x ≡ g x) xs → map f xs ≡ map g xs
map-same f g [] h = refl
map-same f g (x ∷ xs) h = ap (λ y. y ∷ map f xs) (h 0 x (omega arith)) ∙ ap (λ ys. g x ∷ ys) (map-same f g xs (λ k d s. h (suc k) d (omega (arith, s))))

pub row_at-append : (text more : List ℕ) (place : Place) → IsPlaceOf text place → row_at (text ++ more) place ≡ row_at text place
row_at-append text more place h =
    let begins : place.start ≤ length text = omega (arith, h.0, h.1) in
    let front : drop place.start (text ++ more) ≡ drop place.start text ++ more = drop-append-le place.start text more begins in
    let fits : place.end - place.start ≤ length (drop place.start text) = rw (length-drop place.start text) (omega (arith, h.0, h.1)) in
    let same : take (place.end - place.start) (drop place.start (text ++ more)) ≡ take (place.end - place.start) (drop place.start text) =
    ap (λ bytes. take (place.end - place.start) bytes) front ∙ take-append-le (place.end - place.start) (drop place.start text) more fits in
    ap (λ (bytes : List ℕ). let row : StoredRow = record { wrap = place.wrap; text = bytes } in row) same

pub rows-append : (text more : List ℕ) (places : List Place) → All (IsPlaceOf text) places
    → map (row_at (text ++ more)) places ≡ map (row_at text) places
rows-append text more places h =
    map-same (row_at (text ++ more)) (row_at text) places (λ k d s. row_at-append text more (get_or places k d) (h k d s))

pub rows-push : (text more : List ℕ) (places : List Place) (place : Place) → All (IsPlaceOf text) places
    → place.start ≡ length text → place.end ≡ length text + length more
    → map (row_at (text ++ more)) (places ++ place ∷ []) ≡ map (row_at text) places ++ record { wrap = place.wrap; text = more } ∷ []
rows-push text more places place h s e =
    let begins : drop place.start (text ++ more) ≡ more = drop_at text more place.start (sym s) in
    let size : place.end - place.start ≡ length more = omega (arith, s, e) in
    let bytes : take (place.end - place.start) (drop place.start (text ++ more)) ≡ more =
    ap (λ xs. take (place.end - place.start) xs) begins ∙ ap (λ n. take n more) size ∙ take_all (length more) more (omega arith) in
    map_push (row_at (text ++ more)) places place
    ∙ ap (λ (xs : List StoredRow). xs ++ row_at (text ++ more) place ∷ []) (rows-append text more places h)
    ∙ ap (λ (bytes : List ℕ). map (row_at text) places ++ record { wrap = place.wrap; text = bytes } ∷ []) bytes

pub rows-take : (text : List ℕ) (end : ℕ) (places : List Place) → All (IsPlaceOf text) places → All (λ p. p.end ≤ end) places
    → map (row_at (take end text)) places ≡ map (row_at text) places
rows-take text end places h below =
    let within : All (IsPlaceOf (take end text)) places =
    λ k d s. ((h k d s).0, rw (length-take end text) (omega (arith, (h k d s).1, below k d s))) in
    sym (rows-append (take end text) (drop end text) places within)
    ∙ ap (λ (xs : List ℕ). map (row_at xs) places) (take-append-drop end text)

pub all-take : {X : Type 0} (P : X → Type 0) (n : ℕ) (xs : List X) → All P xs → All P (take n xs)
all-take {X} P n xs h k d s =
    let short : k < length xs = let t : k < min n (length xs) = rw (length-take n xs) at s in omega (arith, t) in
    let low : k < n = let t : k < min n (length xs) = rw (length-take n xs) at s in omega (arith, t) in
    subst P (sym (get_or-take n xs k d low)) (h k d short)
