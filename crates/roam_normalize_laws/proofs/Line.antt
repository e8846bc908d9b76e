-- `4:n` sets the underline exactly if n is not 0.
use Rattle.std.proofs.Common.{◌≡◌, ◌≤◌, ◌<◌, ◌+◌, ◌-◌, ℕ, zero, suc, Bool, true, false, cond, nat_lt, List, [], ◌∷◌, ◌++◌, length, map, take, take_all, refl, sym, ap, ◌∙◌, arith, subst}
use Rattle.std.specs.Prelude.{◌==◌, not}
use Rattle.std.proofs.lemmas.Bool.Decides.{nat_tests}
use Rattle.roam_cells.specs.declared.styles.Style.{Style}
use Rattle.roam_text.specs.ControlSequences.{first_sixteen}
use Rattle.roam_normalize.specs.declared.renditions.Field.TheVariants.{Parted}
use Rattle.roam_normalize.specs.Renditions.{count_of, fields_length, first_field, first_kind, group_length, group_text, is_zero, line_text, rendition, spelled_from, spelled_out, whole_kind, without_zeros}
use Rattle.roam_normalize_laws.specs.Sense.{AreDigits, LineFormMeansItsValue, Sets}
use Rattle.roam_normalize_laws.proofs.Fields.{Digits, IsDigit, is-digit}
use Rattle.roam_normalize_laws.proofs.Values.{value, zero-is}

are-digits : (form : List ℕ) → AreDigits form → Digits form
are-digits [] h = tt
are-digits (b ∷ rest) h = (is-digit b h.0, are-digits rest h.1)

no-separator : (b : ℕ) → IsDigit b → (b == 0x3B) ≡ false
no-separator b d = let high = d.high in grind (arith, nat_tests, high)

one-field : (form : List ℕ) → Digits form → fields_length 0x3B 1 form ≡ length form
one-field [] h = refl
one-field (b ∷ rest) (d, h) = ap (λ t. cond t 0 (suc (fields_length 0x3B 1 rest))) (no-separator b d) ∙ ap suc (one-field rest h)

lt-no : (a : ℕ) → nat_lt a a ≡ false
lt-no a = grind (arith, nat_tests)

positive : (n : ℕ) → nat_lt 0 (suc n) ≡ true
positive n = grind (arith, nat_tests)

module _ (form : List ℕ) (g : Style) (h : Digits form) (some : 0 < length form) where
  abbrev body : List ℕ
  body = 0x34 ∷ 0x3A ∷ form

  whole : fields_length 0x3B 1 body ≡ length body
  whole = ap (λ n. suc (suc n)) (one-field form h)

  parted : first_kind body ≡ Parted
  parted =
      ap (λ n. cond (nat_lt 0 (count_of 0x3A (take n body))) Parted (whole_kind (take n body))) whole
      ∙ ap (λ t. cond t Parted (whole_kind (take (length body) body))) (positive (count_of 0x3A (take (length form) form)))

  group : group_length body ≡ length body
  group = ap (λ k. fields_length 0x3B (Rattle.roam_normalize.specs.Renditions.group_size k (Rattle.roam_normalize.specs.Renditions.next_field body)) body) parted ∙ whole

  text : spelled_out body ≡ line_text form
  unfolding spelled_out spelled_from
  text =
      ap (λ n. group_text (first_kind body) (take n body) ++ cond (nat_lt n (length body)) (spelled_from (length body) (Rattle.std.proofs.Common.drop (n + 1) body)) []) group
      ∙ ap (λ k. group_text k (take (length body) body) ++ cond (nat_lt (length body) (length body)) (spelled_from (length body) (Rattle.std.proofs.Common.drop (length body + 1) body)) []) parted
      ∙ ap (λ t. group_text Parted (take (length body) body) ++ cond t (spelled_from (length body) (Rattle.std.proofs.Common.drop (length body + 1) body)) []) (lt-no (length body))
      ∙ ap (λ l. group_text Parted l ++ []) (take_all (length body) body (omega arith))
      ∙ Rattle.std.proofs.lemmas.List.append-nil (line_text form)

  zero-form : is_zero form ≡ (value form == 0)
  zero-form = by form h some
    where
      by : (f : List ℕ) → Digits f → 0 < length f → is_zero f ≡ (value f == 0)
      by [] d s = absurd (omega (arith, s))
      by (b ∷ rest) d s = zero-is (b ∷ rest) d

  set : (t : Bool) → Sets (cond t (rendition (0x32 ∷ 0x34 ∷ [])) (rendition (0x34 ∷ []))) g (record g { underline = not t })
  unfolding first_sixteen
  set true = record { groups = (0x32 ∷ 0x34 ∷ []) ∷ []; is = refl; style = refl }
  set false = record { groups = (0x34 ∷ []) ∷ []; is = refl; style = refl }

  sets : Sets (spelled_out body) g (record g { underline = not (value form == 0) })
  sets = subst (λ l. Sets l g (record g { underline = not (value form == 0) })) (sym text)
      (subst (λ t. Sets (line_text form) g (record g { underline = not t })) zero-form (set (is_zero form)))

pub line-means : LineFormMeansItsValue
line-means form g are some = sets form g (are-digits form are) some
