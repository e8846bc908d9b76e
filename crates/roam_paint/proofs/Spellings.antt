-- Texts put together.
use Rattle.std.proofs.Common.{◌≡◌, ℕ, Bool, true, false, List, [], ◌∷◌, ◌++◌, drop, refl, sym, ap, ◌∙◌, append_assoc}
use Rattle.std.proofs.lemmas.List.{append-nil}
use Rattle.std.proofs.lemmas.Grind.{flat_map-append}
use Rattle.std.specs.Prelude.{decimal}
use Rattle.std.specs.List.{flat_map}
use Rattle.roam_cells.specs.declared.styles.Style.{Style}
use Rattle.roam_cells.specs.declared.styles.Colour.{Colour}
use Rattle.roam_cells.specs.declared.styles.Colour.TheVariants.{Default, Index, Rgb}
use Rattle.roam_paint.specs.Sequences.{parameter_text, spelling_of}
use Rattle.roam_term.specs.ControlFunctions.{flag_code, colour_codes, style_codes, place_cursor, set_style, mixture, set_mixture, restyle}
use Rattle.roam_paint.specs.Texts.{code_text, colour_text}

pub place_cursor_text : (b : List ℕ) (row col : ℕ) → ((((b ++ 0x1B ∷ 0x5B ∷ []) ++ decimal row) ++ 0x3B ∷ []) ++ decimal col) ++ 0x48 ∷ [] ≡ b ++ spelling_of (place_cursor row col)
place_cursor_text b row col =
    ap (λ l. ((l ++ 0x3B ∷ []) ++ decimal col) ++ 0x48 ∷ []) (append_assoc b (0x1B ∷ 0x5B ∷ []) (decimal row))
    ∙ ap (λ l. (l ++ decimal col) ++ 0x48 ∷ []) (append_assoc b (0x1B ∷ 0x5B ∷ decimal row) (0x3B ∷ []))
    ∙ ap (λ l. l ++ 0x48 ∷ []) (append_assoc b (0x1B ∷ 0x5B ∷ (decimal row ++ 0x3B ∷ [])) (decimal col))
    ∙ append_assoc b (0x1B ∷ 0x5B ∷ ((decimal row ++ 0x3B ∷ []) ++ decimal col)) (0x48 ∷ [])
    ∙ ap (λ l. b ++ (0x1B ∷ 0x5B ∷ (l ++ 0x48 ∷ []))) (append_assoc (decimal row) (0x3B ∷ []) (decimal col))

abbrev tail : List ℕ → List ℕ
tail [] = []
tail (p ∷ ps) = 0x3B ∷ (decimal p ++ tail ps)

joined-tail : (p : ℕ) (ps : List ℕ) → parameter_text (p ∷ ps) ≡ decimal p ++ tail ps
joined-tail p [] = sym (append-nil (decimal p))
joined-tail p (q ∷ ps) = ap (λ l. decimal p ++ 0x3B ∷ l) (joined-tail q ps)

tail-flag : (b : Bool) (n : ℕ) (rest : List ℕ) → tail (flag_code b n rest) ≡ code_text b n ++ tail rest
tail-flag true n rest = refl
tail-flag false n rest = refl

tail-colour : (n : ℕ) (x : Colour) (rest : List ℕ) → tail (colour_codes n x rest) ≡ colour_text n x ++ tail rest
tail-colour n Default rest = refl
tail-colour n (Index c) rest =
    sym (append_assoc (code_text true n) (code_text true 5 ++ code_text true c) (tail rest)
    ∙ ap (λ l. code_text true n ++ l) (append_assoc (code_text true 5) (code_text true c) (tail rest)))
tail-colour n (Rgb r g b) rest = refl

-- one part after another, to the left and to the right
abbrev lefts : List ℕ → List (List ℕ) → List ℕ
lefts b [] = b
lefts b (x ∷ xs) = lefts (b ++ x) xs

abbrev rights : List (List ℕ) → List ℕ
rights [] = []
rights (x ∷ xs) = x ++ rights xs

lefts-rights : (b : List ℕ) (xs : List (List ℕ)) → lefts b xs ≡ b ++ rights xs
lefts-rights b [] = sym (append-nil b)
lefts-rights b (x ∷ xs) = lefts-rights (b ++ x) xs ∙ append_assoc b x (rights xs)

abbrev parts : Style → List (List ℕ)
parts s =
    (0x1B ∷ 0x5B ∷ []) ∷ decimal 0 ∷ code_text s.bold 1 ∷ code_text s.faint 2 ∷ code_text s.italic 3 ∷ code_text s.underline 4 ∷ code_text s.blink 5 ∷ code_text s.reverse 7
    ∷ code_text s.conceal 8 ∷ code_text s.strike 9 ∷ colour_text 38 s.foreground ∷ colour_text 48 s.background ∷ (0x6D ∷ []) ∷ []

codes_are : (s : Style) → parameter_text (style_codes s) ++ 0x6D ∷ [] ≡ rights (drop 1 (parts s))
codes_are s =
    let last = 0x6D ∷ [] in
    let k = colour_codes 48 s.background [] in
    let j = colour_codes 38 s.foreground k in
    let a = flag_code s.strike 9 j in
    let b = flag_code s.conceal 8 a in
    let c = flag_code s.reverse 7 b in
    let d = flag_code s.blink 5 c in
    let e = flag_code s.underline 4 d in
    let f = flag_code s.italic 3 e in
    let g = flag_code s.faint 2 f in
    let h = flag_code s.bold 1 g in
    let two : (x t u : List ℕ) (v : List ℕ) → t ≡ x ++ u → u ++ last ≡ v → t ++ last ≡ x ++ v = λ x t u v p q. ap (λ l. l ++ last) p ∙ append_assoc x u last ∙ ap (λ l. x ++ l) q in
    two (decimal 0) (parameter_text (0 ∷ h)) (tail h) _ (joined-tail 0 h)
    (two (code_text s.bold 1) (tail h) (tail g) _ (tail-flag s.bold 1 g)
    (two (code_text s.faint 2) (tail g) (tail f) _ (tail-flag s.faint 2 f)
    (two (code_text s.italic 3) (tail f) (tail e) _ (tail-flag s.italic 3 e)
    (two (code_text s.underline 4) (tail e) (tail d) _ (tail-flag s.underline 4 d)
    (two (code_text s.blink 5) (tail d) (tail c) _ (tail-flag s.blink 5 c)
    (two (code_text s.reverse 7) (tail c) (tail b) _ (tail-flag s.reverse 7 b)
    (two (code_text s.conceal 8) (tail b) (tail a) _ (tail-flag s.conceal 8 a)
    (two (code_text s.strike 9) (tail a) (tail j) _ (tail-flag s.strike 9 j)
    (two (colour_text 38 s.foreground) (tail j) (tail k) _ (tail-colour 38 s.foreground k)
    (two (colour_text 48 s.background) (tail k) [] _ (tail-colour 48 s.background []) refl))))))))))

pub set_style_text : (b : List ℕ) (s : Style) → lefts b (parts s) ≡ b ++ spelling_of (set_style s)
set_style_text b s = lefts-rights b (parts s) ∙ ap (λ l. b ++ (0x1B ∷ 0x5B ∷ l)) (sym (codes_are s))

mixture_are : (n r g b : ℕ) → parameter_text (n ∷ 2 ∷ r ∷ g ∷ b ∷ []) ++ 0x6D ∷ []
    ≡ rights (decimal n ∷ code_text true 2 ∷ code_text true r ∷ code_text true g ∷ code_text true b ∷ (0x6D ∷ []) ∷ [])
mixture_are n r g b =
    let last = 0x6D ∷ [] in
    let two : (x t u : List ℕ) (v : List ℕ) → t ≡ x ++ u → u ++ last ≡ v → t ++ last ≡ x ++ v = λ x t u v p q. ap (λ l. l ++ last) p ∙ append_assoc x u last ∙ ap (λ l. x ++ l) q in
    two (decimal n) (parameter_text (n ∷ 2 ∷ r ∷ g ∷ b ∷ [])) (tail (2 ∷ r ∷ g ∷ b ∷ [])) _ (joined-tail n (2 ∷ r ∷ g ∷ b ∷ []))
    (two (code_text true 2) (tail (2 ∷ r ∷ g ∷ b ∷ [])) (tail (r ∷ g ∷ b ∷ [])) _ refl
    (two (code_text true r) (tail (r ∷ g ∷ b ∷ [])) (tail (g ∷ b ∷ [])) _ refl
    (two (code_text true g) (tail (g ∷ b ∷ [])) (tail (b ∷ [])) _ refl
    (two (code_text true b) (tail (b ∷ [])) [] _ refl refl))))

-- the text of a mixture, as it is put together
pub mixture_text : (t : List ℕ) (n r g b : ℕ)
    → ((((((t ++ 0x1B ∷ 0x5B ∷ []) ++ decimal n) ++ code_text true 2) ++ code_text true r) ++ code_text true g) ++ code_text true b) ++ 0x6D ∷ []
    ≡ t ++ flat_map spelling_of (set_mixture n (Rgb r g b))
mixture_text t n r g b =
    lefts-rights t ((0x1B ∷ 0x5B ∷ []) ∷ decimal n ∷ code_text true 2 ∷ code_text true r ∷ code_text true g ∷ code_text true b ∷ (0x6D ∷ []) ∷ [])
    ∙ ap (λ l. t ++ (0x1B ∷ 0x5B ∷ l)) (sym (mixture_are n r g b))
    ∙ ap (λ l. t ++ l) (sym (append-nil (spelling_of (mixture n r g b))))

pub restyle_text : (t : List ℕ) (s : Style)
    → ((t ++ spelling_of (set_style s)) ++ flat_map spelling_of (set_mixture 38 s.foreground)) ++ flat_map spelling_of (set_mixture 48 s.background)
    ≡ t ++ flat_map spelling_of (restyle s)
restyle_text t s =
    let a = spelling_of (set_style s) in
    let b = flat_map spelling_of (set_mixture 38 s.foreground) in
    let c = flat_map spelling_of (set_mixture 48 s.background) in
    append_assoc (t ++ a) b c ∙ append_assoc t a (b ++ c)
    ∙ ap (λ l. t ++ (a ++ l)) (sym (flat_map-append spelling_of (set_mixture 38 s.foreground) (set_mixture 48 s.background)))
