-- Texts put together.
use Rattle.std.proofs.Common.{◌≡◌, ◌<◌, ℕ, Bool, true, false, List, [], ◌∷◌, ◌++◌, ◌+◌, replicate, ◌-◌, length, get_or, drop, take, take_all, None, refl, sym, ap, ◌∙◌, arith, append_assoc}
use Rattle.std.specs.Prelude.{decimal, if◌then◌else◌}
use Rattle.std.specs.List.{flat_map}
use Rattle.std.specs.Fmt.{digits}
use Rattle.std.proofs.lemmas.List.{append-nil, replicate_more}
use Rattle.std.proofs.lemmas.Bool.{ne_eqb}
use Rattle.std.proofs.lemmas.Grind.{flat_map-append}
use Rattle.roam_cells.specs.declared.styles.Style.{Style}
use Rattle.roam_cells.specs.declared.styles.Colour.{Colour}
use Rattle.roam_cells.specs.declared.styles.Colour.TheVariants.{Default, Index, Rgb}
use Rattle.roam_text.specs.declared.functions.Function.{Function}
use Rattle.roam_term.specs.ControlFunctions.{csi, set_style, set_mixture, restyle, erase_all}
use Rattle.roam_paint.specs.Sequences.{spelling_of, parameter_text}
use Rattle.roam_paint.specs.Texts.{code_text}
use Rattle.roam_scroll_paint.specs.declared.bands.Band.{Band}
use Rattle.roam_scroll_paint.specs.Bands.{to_row, set_margins, reset_margins, steps, edge_row, moves_band}
use Rattle.roam_scroll_paint.specs.Painting.{hiding, revealing}
use Rattle.roam_scroll_paint.specs.Sequences.{text_of}

pub to_row_is : (row : ℕ) → 0 < row → text_of (to_row row) ≡ 0x1B ∷ 0x5B ∷ (decimal row ++ 0x48 ∷ [])
to_row_is row some = ap (λ b. if b then 0x1B ∷ 0x5B ∷ 0x48 ∷ [] else spelling_of (to_row row)) (ne_eqb row 0 (λ e. absurd (omega (arith, some, e))))

pub to_row_text : (t : List ℕ) (row : ℕ) → 0 < row → ((t ++ 0x1B ∷ 0x5B ∷ []) ++ decimal row) ++ 0x48 ∷ [] ≡ t ++ text_of (to_row row)
to_row_text t row some =
    ap (λ l. l ++ 0x48 ∷ []) (append_assoc t (0x1B ∷ 0x5B ∷ []) (decimal row))
    ∙ append_assoc t (0x1B ∷ 0x5B ∷ decimal row) (0x48 ∷ [])
    ∙ ap (λ l. t ++ l) (sym (to_row_is row some))

pub set_margins_text : (b : List ℕ) (row col : ℕ) → ((((b ++ 0x1B ∷ 0x5B ∷ []) ++ decimal row) ++ 0x3B ∷ []) ++ decimal col) ++ 0x72 ∷ [] ≡ b ++ text_of (set_margins row col)
set_margins_text b row col =
    ap (λ l. ((l ++ 0x3B ∷ []) ++ decimal col) ++ 0x72 ∷ []) (append_assoc b (0x1B ∷ 0x5B ∷ []) (decimal row))
    ∙ ap (λ l. (l ++ decimal col) ++ 0x72 ∷ []) (append_assoc b (0x1B ∷ 0x5B ∷ decimal row) (0x3B ∷ []))
    ∙ ap (λ l. l ++ 0x72 ∷ []) (append_assoc b (0x1B ∷ 0x5B ∷ (decimal row ++ 0x3B ∷ [])) (decimal col))
    ∙ append_assoc b (0x1B ∷ 0x5B ∷ ((decimal row ++ 0x3B ∷ []) ++ decimal col)) (0x72 ∷ [])
    ∙ ap (λ l. b ++ (0x1B ∷ 0x5B ∷ (l ++ 0x72 ∷ []))) (append_assoc (decimal row) (0x3B ∷ []) (decimal col))

mixtures-alike : (n : ℕ) (x : Colour) → flat_map spelling_of (set_mixture n x) ≡ flat_map text_of (set_mixture n x)
mixtures-alike n Default = refl
mixtures-alike n (Index c) = refl
mixtures-alike n (Rgb r g b) = refl

-- no parameter of SGR is left out
pub restyle_text : (s : Style) → flat_map spelling_of (restyle s) ≡ flat_map text_of (restyle s)
restyle_text s =
    let a = spelling_of (set_style s) in
    let front = set_mixture 38 s.foreground in
    let back = set_mixture 48 s.background in
    ap (λ l. a ++ l) (flat_map-append spelling_of front back)
    ∙ ap (λ l. a ++ (l ++ flat_map spelling_of back)) (mixtures-alike 38 s.foreground)
    ∙ ap (λ l. a ++ (flat_map text_of front ++ l)) (mixtures-alike 48 s.background)
    ∙ ap (λ l. a ++ l) (sym (flat_map-append text_of front back))

-- ---- parameters

pub joined-tail : (p : ℕ) (ps : List ℕ) → parameter_text (p ∷ ps) ≡ decimal p ++ flat_map (code_text true) ps
joined-tail p [] = sym (append-nil (decimal p))
joined-tail p (q ∷ ps) = ap (λ l. decimal p ++ 0x3B ∷ l) (joined-tail q ps)

pub rendition_text : (t : List ℕ) (ps : List ℕ) → 0 < length ps
    → (((t ++ 0x1B ∷ 0x5B ∷ []) ++ decimal (get_or ps 0 0)) ++ flat_map (code_text true) (take (length ps - 1) (drop 1 ps))) ++ 0x6D ∷ [] ≡ t ++ text_of (csi None ps 0x6D)
rendition_text t [] some = absurd (omega (arith, some))
rendition_text t (p ∷ ps) some =
    let tail = flat_map (code_text true) ps in
    ap (λ l. (((t ++ 0x1B ∷ 0x5B ∷ []) ++ decimal p) ++ flat_map (code_text true) l) ++ 0x6D ∷ []) (take_all (length (p ∷ ps) - 1) ps (omega arith))
    ∙ ap (λ l. (l ++ tail) ++ 0x6D ∷ []) (append_assoc t (0x1B ∷ 0x5B ∷ []) (decimal p))
    ∙ ap (λ l. l ++ 0x6D ∷ []) (append_assoc t (0x1B ∷ 0x5B ∷ decimal p) tail)
    ∙ append_assoc t (0x1B ∷ 0x5B ∷ (decimal p ++ tail)) (0x6D ∷ [])
    ∙ ap (λ l. t ++ (0x1B ∷ 0x5B ∷ (l ++ 0x6D ∷ []))) (sym (joined-tail p ps))

-- ---- functions without a number

pub hide-bytes : flat_map text_of (hiding true) ≡ 0x1B ∷ 0x5B ∷ 0x3F ∷ 0x32 ∷ 0x35 ∷ 0x6C ∷ []
unfolding digits
hide-bytes = refl

pub show-bytes : (visible : Bool) → flat_map text_of (revealing true visible) ≡ (if visible then 0x1B ∷ 0x5B ∷ 0x3F ∷ 0x32 ∷ 0x35 ∷ 0x68 ∷ [] else [])
unfolding digits
show-bytes true = refl
show-bytes false = refl

pub hidden_text : (body : List ℕ) (visible : Bool)
    → ((0x1B ∷ 0x5B ∷ 0x3F ∷ 0x32 ∷ 0x35 ∷ 0x6C ∷ []) ++ body) ++ (if visible then 0x1B ∷ 0x5B ∷ 0x3F ∷ 0x32 ∷ 0x35 ∷ 0x68 ∷ [] else [])
    ≡ flat_map text_of (hiding true) ++ (body ++ flat_map text_of (revealing true visible))
hidden_text body visible =
    let h = 0x1B ∷ 0x5B ∷ 0x3F ∷ 0x32 ∷ 0x35 ∷ 0x6C ∷ [] in
    append_assoc h body (if visible then 0x1B ∷ 0x5B ∷ 0x3F ∷ 0x32 ∷ 0x35 ∷ 0x68 ∷ [] else [])
    ∙ ap (λ l. h ++ (body ++ l)) (sym (show-bytes visible))
    ∙ ap (λ l. l ++ (body ++ flat_map text_of (revealing true visible))) (sym hide-bytes)

pub erase_all_text : (t : List ℕ) → t ++ 0x1B ∷ 0x5B ∷ 0x32 ∷ 0x4A ∷ [] ≡ t ++ flat_map text_of (erase_all ∷ [])
unfolding digits
erase_all_text t = refl

-- ---- one function more

pub one_more : (t : List ℕ) (n : ℕ) (f : Function) → (t ++ flat_map text_of (replicate n f)) ++ text_of f ≡ t ++ flat_map text_of (replicate (n + 1) f)
one_more t n f =
    append_assoc t (flat_map text_of (replicate n f)) (text_of f)
    ∙ ap (λ l. t ++ (flat_map text_of (replicate n f) ++ l)) (sym (append-nil (text_of f)))
    ∙ ap (λ l. t ++ l) (sym (flat_map-append text_of (replicate n f) (f ∷ [])))
    ∙ ap (λ l. t ++ flat_map text_of l) (replicate_more n f)

-- ---- a band

pub band_text : (t : List ℕ) (b : Band)
    → (((t ++ text_of (set_margins (b.top + 1) b.bottom)) ++ text_of (to_row (edge_row b))) ++ flat_map text_of (steps b)) ++ text_of reset_margins
    ≡ t ++ flat_map text_of (moves_band b)
unfolding moves_band
band_text t b =
    let x = text_of (set_margins (b.top + 1) b.bottom) in
    let y = text_of (to_row (edge_row b)) in
    let z = flat_map text_of (steps b) in
    let w = text_of reset_margins in
    append_assoc ((t ++ x) ++ y) z w ∙ append_assoc (t ++ x) y (z ++ w) ∙ append_assoc t x (y ++ (z ++ w))
    ∙ ap (λ l. t ++ (x ++ (y ++ (z ++ l)))) (sym (append-nil w))
    ∙ ap (λ l. t ++ (x ++ (y ++ l))) (sym (flat_map-append text_of (steps b) (reset_margins ∷ [])))
