-- Texts of rows, one turn further.
use Rattle.std.proofs.Common.{◌≡◌, ℕ, suc, ◌+◌, Bool, false, List, [], ◌∷◌, ◌++◌, map, refl, sym, ap, ◌∙◌, subst, append_assoc, add-one}
use Rattle.std.specs.Prelude.{if◌then◌else◌}
use Rattle.std.specs.List.{flat_map}
use Rattle.std.specs.Char.{encode_utf8}
use Rattle.std.proofs.lemmas.List.{append-nil}
use Rattle.std.proofs.lemmas.Grind.{flat_map-append}
use Rattle.roam_cells.specs.Glyph.{default_style}
use Rattle.roam_cells.specs.declared.styles.Style.{Style}
use Rattle.roam_text.specs.declared.functions.Function.{Function}
use Rattle.roam_text.specs.declared.functions.Function.TheVariants.{Print}
use Rattle.roam_paint.specs.Painting.{Places, style_after, style_in}
use Rattle.roam_scroll_paint.specs.Sequences.{text_of}
use Rattle.roam_scroll_paint.specs.Styles.{styled_from}
use Rattle.roam_scroll_paint.specs.Rows.{Marks, is_marked, placing_at, written_cell, written_row, doubt_after, doubt_in, erase_line, erasing_from, style_left, row_functions, row_style_left}

pub points_text : (ps : List ℕ) → flat_map text_of (map Print ps) ≡ flat_map encode_utf8 ps
points_text [] = refl
points_text (p ∷ ps) = ap (λ l. encode_utf8 p ++ l) (points_text ps)

-- three parts
three : (t : List ℕ) (a b c : List Function) (x : List ℕ) → x ≡ flat_map text_of c
    → ((t ++ flat_map text_of a) ++ flat_map text_of b) ++ x ≡ t ++ flat_map text_of (a ++ (b ++ c))
three t a b c x e =
    ap (λ l. ((t ++ flat_map text_of a) ++ flat_map text_of b) ++ l) e
    ∙ append_assoc (t ++ flat_map text_of a) (flat_map text_of b) (flat_map text_of c)
    ∙ append_assoc t (flat_map text_of a) (flat_map text_of b ++ flat_map text_of c)
    ∙ ap (λ l. t ++ (flat_map text_of a ++ l)) (sym (flat_map-append text_of b c))
    ∙ ap (λ l. t ++ l) (sym (flat_map-append text_of a (b ++ c)))

pub cell_text : (t : List ℕ) (stays : Bool) (row col : ℕ) (g s : Style) (ps : List ℕ)
    → ((t ++ flat_map text_of (if stays then [] else placing_at row col ∷ [])) ++ flat_map text_of (styled_from g s)) ++ flat_map encode_utf8 ps
    ≡ t ++ flat_map text_of ((if stays then [] else placing_at row col ∷ []) ++ (styled_from g s ++ map Print ps))
cell_text t stays row col g s ps =
    three t (if stays then [] else placing_at row col ∷ []) (styled_from g s) (map Print ps) (flat_map encode_utf8 ps) (sym (points_text ps))

pub end_text : (t : List ℕ) (stands : Bool) (row end : ℕ) (g : Style)
    → ((t ++ flat_map text_of (if stands then [] else placing_at row end ∷ [])) ++ flat_map text_of (styled_from g default_style)) ++ text_of erase_line
    ≡ t ++ flat_map text_of ((if stands then [] else placing_at row end ∷ []) ++ (styled_from g default_style ++ erase_line ∷ []))
end_text t stands row end g =
    three t (if stands then [] else placing_at row end ∷ []) (styled_from g default_style) (erase_line ∷ []) (text_of erase_line) (sym (append-nil (text_of erase_line)))

-- ---- one column further

pub row_start : (d : ℕ → ℕ → Bool) (new : Places) (r : ℕ) (g : Style) (t : List ℕ)
    → (t ≡ t ++ flat_map text_of (written_row d new r g 0)) × (false ≡ doubt_in d new r 0)
unfolding written_row doubt_in
row_start d new r g t = (sym (append-nil t), refl)

pub row_step : (d : ℕ → ℕ → Bool) (new : Places) (r : ℕ) (g : Style) (c : ℕ) (start out later : List ℕ) (s next : Style) (b doubt : Bool)
    → out ≡ start ++ flat_map text_of (written_row d new r g c) → s ≡ style_in d new r g c → b ≡ doubt_in d new r c
    → later ≡ out ++ flat_map text_of (written_cell d new r c s b) → next ≡ style_after d new r c s → doubt ≡ doubt_after d new r c b
    → (later ≡ start ++ flat_map text_of (written_row d new r g (c + 1))) × (next ≡ style_in d new r g (c + 1)) × (doubt ≡ doubt_in d new r (c + 1))
unfolding written_row doubt_in
row_step d new r g c start out later s next b doubt p q e t u v =
    let P : ℕ → Type 0 = λ n. (later ≡ start ++ flat_map text_of (written_row d new r g n)) × (next ≡ style_in d new r g n) × (doubt ≡ doubt_in d new r n) in
    let here : P (suc c) = (
      t ∙ ap (λ l. l ++ flat_map text_of (written_cell d new r c s b)) p
          ∙ append_assoc start (flat_map text_of (written_row d new r g c)) (flat_map text_of (written_cell d new r c s b))
          ∙ ap (λ x. start ++ (flat_map text_of (written_row d new r g c) ++ flat_map text_of (written_cell d new r c x b))) q
          ∙ ap (λ x. start ++ (flat_map text_of (written_row d new r g c) ++ flat_map text_of (written_cell d new r c (style_in d new r g c) x))) e
          ∙ ap (λ l. start ++ l) (sym (flat_map-append text_of (written_row d new r g c) (written_cell d new r c (style_in d new r g c) (doubt_in d new r c)))),
      u ∙ ap (style_after d new r c) q,
      v ∙ ap (doubt_after d new r c) e,
    ) in
    subst P (sym (add-one c)) here

-- ---- a whole row

pub whole_row : (marks : Marks) (new : Places) (cols n r end : ℕ) (g : Style) (t out later : List ℕ) (s h : Style) (b : Bool) → n ≡ cols
    → out ≡ t ++ flat_map text_of (written_row (is_marked marks) new r g end) → s ≡ style_in (is_marked marks) new r g end
    → b ≡ doubt_in (is_marked marks) new r end
    → later ≡ out ++ flat_map text_of (erasing_from (is_marked marks) r end n s b) → h ≡ style_left end n s
    → (later ≡ t ++ flat_map text_of (row_functions marks new cols r end g)) × (h ≡ row_style_left marks new cols r end g)
unfolding row_functions row_style_left
whole_row marks new cols n r end g t out later s h b e p q k u v =
    let d = is_marked marks in
    let a = written_row d new r g end in (
      u ∙ ap (λ k. out ++ flat_map text_of (erasing_from d r end k s b)) e ∙ ap (λ l. l ++ flat_map text_of (erasing_from d r end cols s b)) p
          ∙ append_assoc t (flat_map text_of a) (flat_map text_of (erasing_from d r end cols s b))
          ∙ ap (λ x. t ++ (flat_map text_of a ++ flat_map text_of (erasing_from d r end cols x b))) q
          ∙ ap (λ x. t ++ (flat_map text_of a ++ flat_map text_of (erasing_from d r end cols (style_in d new r g end) x))) k
          ∙ ap (λ l. t ++ l) (sym (flat_map-append text_of a (erasing_from d r end cols (style_in d new r g end) (doubt_in d new r end)))),
      v ∙ ap (λ k. style_left end k s) e ∙ ap (style_left end cols) q,
    )
