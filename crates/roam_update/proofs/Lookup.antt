-- Styles are looked up by their numbers.
use Rattle.std.proofs.Common.{◌≡◌, ℕ, Bool, true, false, not, cond, eqb, ◌||◌, List, [], ◌∷◌, ◌++◌, map, refl, sym, ap, ◌∙◌, arith, inl, inr, append_assoc}
use Rattle.std.specs.List.{list_any, position_or_len}
use Rattle.std.proofs.lemmas.Bool.{cases_eq, eq-eqb, ne_eqb, false_from_ne_true, false≢true, cases_Bool}
use Rattle.std.proofs.lemmas.List.{append-nil}
use Rattle.roam_cells.specs.Inks.{style_numbered, style_number, style_number_back}
use Rattle.roam_cells.specs.declared.styles.Style.{Style}
use Rattle.roam_cells.specs.Same.{same_style}
use Rattle.roam_update.specs.Styles.{has_style, number_in, with_style}
use Rattle.roam_update.specs.TableText.{entry_text, table_text}
use Rattle.roam_cells.proofs.SameCells.{style_same, style_again}
use Rattle.roam_update.proofs.UsedUp.{grows, number_last, number_none}

-- two numbers are equal if their styles are
key_same : (k j : ℕ) → eqb k j ≡ same_style (style_numbered k) (style_numbered j)
key_same k j =
    elim (cases_eq k j) [
      | inl e ↦ eq-eqb k j e ∙ sym (ap (λ (n : ℕ). same_style (style_numbered k) (style_numbered n)) (sym e) ∙ style_again (style_numbered k))
      | inr n ↦
          ne_eqb k j n
          ∙ sym (false_from_ne_true (same_style (style_numbered k) (style_numbered j)) (λ t.
          n (sym (style_number_back k) ∙ ap style_number (style_same (style_numbered k) (style_numbered j) t) ∙ style_number_back j)))
    ]

pub key_there : (k : ℕ) (ks : List ℕ) → list_any (λ j. eqb k j) ks ≡ has_style (map style_numbered ks) (style_numbered k)
key_there k [] = refl
key_there k (j ∷ js) =
    ap (λ (b : Bool). b || list_any (λ i. eqb k i) js) (key_same k j)
    ∙ ap (λ (b : Bool). same_style (style_numbered k) (style_numbered j) || b) (key_there k js)

pub key_place : (k : ℕ) (ks : List ℕ) → position_or_len (λ j. eqb k j) ks ≡ number_in (map style_numbered ks) (style_numbered k)
key_place k [] = refl
key_place k (j ∷ js) =
    elim (cases_Bool (eqb k j)) [
      | inl e ↦ rw (e, sym (key_same k j) ∙ e) refl
      | inr e ↦ let more = key_place k js in rw (e, sym (key_same k j) ∙ e) (omega (arith, more))
    ]

-- ---- a number more

-- the numbers after one is inserted
abbrev pub inserted : List ℕ → ℕ → List ℕ
inserted ks k = cond (list_any (λ j. eqb k j) ks) ks (ks ++ k ∷ [])

pub map_last : (ks : List ℕ) (k : ℕ) → map style_numbered (ks ++ k ∷ []) ≡ map style_numbered ks ++ style_numbered k ∷ []
map_last [] k = refl
map_last (j ∷ js) k = ap (λ (x : List Style). style_numbered j ∷ x) (map_last js k)

styles_by : (b : Bool) (ks : List ℕ) (k : ℕ) → map style_numbered (cond b ks (ks ++ k ∷ []))
    ≡ cond b (map style_numbered ks) (map style_numbered ks ++ style_numbered k ∷ [])
styles_by true ks k = refl
styles_by false ks k = map_last ks k

pub styles_inserted : (ks : List ℕ) (k : ℕ) (s : Style) → style_numbered k ≡ s → map style_numbered (inserted ks k) ≡ with_style (map style_numbered ks) s
styles_inserted ks k s e =
    styles_by (list_any (λ j. eqb k j) ks) ks k
    ∙ ap (λ (b : Bool). cond b (map style_numbered ks) (map style_numbered ks ++ style_numbered k ∷ [])) (key_there k ks)
    ∙ ap (with_style (map style_numbered ks)) e

number_grown : (table : List Style) (s : Style) → number_in (with_style table s) s ≡ number_in table s
number_grown table s =
    elim (cases_Bool (has_style table s)) [
      | inl e ↦ rw e refl
      | inr e ↦ rw e (number_last table s e ∙ sym (number_none table s e))
    ]

-- the place at which a number was inserted is that of its style
pub place_inserted : (ks : List ℕ) (k : ℕ) (s : Style) → style_numbered k ≡ s
    → position_or_len (λ j. eqb k j) ks ≡ number_in (map style_numbered (inserted ks k)) s
place_inserted ks k s e =
    key_place k ks ∙ sym (number_grown (map style_numbered ks) (style_numbered k))
    ∙ ap (λ (t : List Style). number_in t (style_numbered k)) (sym (styles_inserted ks k (style_numbered k) refl))
    ∙ ap (number_in (map style_numbered (inserted ks k))) e

pub there_inserted : (ks : List ℕ) (k : ℕ) → list_any (λ j. eqb k j) (inserted ks k) ≡ true
there_inserted ks k =
    key_there k (inserted ks k)
    ∙ ap (λ (t : List Style). has_style t (style_numbered k)) (styles_inserted ks k (style_numbered k) refl)
    ∙ (grows (map style_numbered ks) (style_numbered k)).has

pub place_again : (ks : List ℕ) (k : ℕ) → position_or_len (λ j. eqb k j) ks ≡ position_or_len (λ j. eqb k j) (inserted ks k)
place_again ks k = place_inserted ks k (style_numbered k) refl ∙ sym (key_place k (inserted ks k))

-- a number that is there
pub styles_kept : (ks : List ℕ) (k : ℕ) (s : Style) → style_numbered k ≡ s → list_any (λ j. eqb k j) ks ≡ true
    → map style_numbered ks ≡ with_style (map style_numbered ks) s
styles_kept ks k s e h =
    let has : has_style (map style_numbered ks) s ≡ true = ap (has_style (map style_numbered ks)) (sym e) ∙ sym (key_there k ks) ∙ h in
    rw has refl

pub place_kept : (ks : List ℕ) (k : ℕ) (s : Style) → style_numbered k ≡ s → position_or_len (λ j. eqb k j) ks ≡ number_in (map style_numbered ks) s
place_kept ks k s e = key_place k ks ∙ ap (number_in (map style_numbered ks)) e

-- ---- the text of the styles

text_last : (table : List Style) (s : Style) → table_text (table ++ s ∷ []) ≡ table_text table ++ entry_text s
text_last [] s = append-nil (entry_text s)
text_last (t ∷ table) s = ap (λ (x : List ℕ). entry_text t ++ x) (text_last table s) ∙ sym (append_assoc (entry_text t) (table_text table) (entry_text s))

pub text_inserted : (ks : List ℕ) (k : ℕ) (s : Style) (text : List ℕ) → style_numbered k ≡ s → text ≡ table_text (map style_numbered ks)
    → list_any (λ j. eqb k j) ks ≡ false → text ++ entry_text s ≡ table_text (map style_numbered (inserted ks k))
text_inserted ks k s text e t h =
    ap (λ (x : List ℕ). x ++ entry_text s) t
    ∙ sym (text_last (map style_numbered ks) s)
    ∙ ap (λ (x : Style). table_text (map style_numbered ks ++ x ∷ [])) (sym e)
    ∙ ap table_text (sym (map_last ks k))
    ∙ ap (λ (b : Bool). table_text (map style_numbered (cond b ks (ks ++ k ∷ [])))) (sym h)

pub text_kept : (ks : List ℕ) (k : ℕ) (text : List ℕ) → text ≡ table_text (map style_numbered ks)
    → list_any (λ j. eqb k j) ks ≡ true → text ≡ table_text (map style_numbered (inserted ks k))
text_kept ks k text t h = t ∙ ap (λ (b : Bool). table_text (map style_numbered (cond b ks (ks ++ k ∷ [])))) (sym h)

pub not_added : (b : Bool) → false ≡ not b → b ≡ true
not_added true e = refl
not_added false e = absurd (false≢true e)

pub was_added : (b : Bool) → true ≡ not b → b ≡ false
was_added true e = absurd (false≢true (sym e))
was_added false e = refl
