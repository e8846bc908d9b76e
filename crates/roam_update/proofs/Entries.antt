-- Reading one style more of a table.
use Rattle.std.proofs.Common.{◌≡◌, ℕ, zero, suc, ◌+◌, ◌*◌, ◌-◌, ◌<◌, ◌≤◌, ◌⊎◌, inl, inr, Bool, true, false, cond, eqb, leb, length-drop, List, [], ◌∷◌, ◌++◌, map, length, drop, Option, Some, None, refl, sym, ap, ◌∙◌, arith}
use Rattle.std.specs.List.{list_any}
use Rattle.std.specs.Prelude.{option_and_then, is_some, IsSome}
use Rattle.std.proofs.lemmas.Bool.{le-leb, lt-leb, leb-true}
use Rattle.std.proofs.lemmas.Option.{option_and_then_some}
use Rattle.roam_cells.specs.Inks.{style_numbered}
use Rattle.roam_cells.specs.declared.styles.Style.{Style}
use Rattle.roam_update.specs.Styles.{has_style}
use Rattle.roam_update.specs.TableText.{Table, entry_read, entry_beside, table_read}
use Rattle.roam_update.proofs.Plain.{if_some}
use Rattle.roam_update.proofs.Lookup.{key_there, inserted, map_last}

abbrev new_one : List Style → Option Style → Option Style
new_one before o = option_and_then (λ (s : Style). cond (has_style before s) None (Some s)) o

pub table_short : (n : ℕ) (before : List Style) (text : List ℕ) → 1 ≤ n → length text < 9 → table_read n before text ≡ None
unfolding table_read
table_short zero before text h k = absurd (omega (arith, h))
table_short (suc n) before text h k = rw (lt-leb 9 (length text) k) refl

pub table_no_entry : (n : ℕ) (before : List Style) (text : List ℕ) → 1 ≤ n → 9 ≤ length text → entry_read text ≡ None → table_read n before text ≡ None
unfolding table_read
table_no_entry zero before text h k e = absurd (omega (arith, h))
table_no_entry (suc n) before text h k e = rw (le-leb 9 (length text) k, e) refl

pub table_twice : (n : ℕ) (before : List Style) (text : List ℕ) (s : Style) → 1 ≤ n → 9 ≤ length text → entry_read text ≡ Some s → has_style before s ≡ true
    → table_read n before text ≡ None
unfolding table_read
table_twice zero before text s h k e t = absurd (omega (arith, h))
table_twice (suc n) before text s h k e t = rw (le-leb 9 (length text) k, e, t) refl

table_suc : (n : ℕ) (before : List Style) (text : List ℕ) (s : Style) → 9 ≤ length text → entry_read text ≡ Some s → has_style before s ≡ false
    → table_read (suc n) before text ≡ table_read n (before ++ s ∷ []) (drop 9 text)
unfolding table_read
table_suc n before text s k e t = rw (le-leb 9 (length text) k, e, t) refl

pub table_go : (n k : ℕ) (before : List Style) (text : List ℕ) (s : Style) → k < n → 9 ≤ length text → entry_read text ≡ Some s → has_style before s ≡ false
    → table_read (n - (k + 1)) (before ++ s ∷ []) (drop 9 text) ≡ table_read (n - k) before text
table_go n k before text s h long e t =
    let one : n - k ≡ suc (n - (k + 1)) = omega (arith, h) in
    sym (ap (λ (m : ℕ). table_read m before text) one ∙ table_suc (n - (k + 1)) before text s long e t)

pub table_done : (n : ℕ) (before : List Style) (text : List ℕ) → n ≡ 0 → table_read n before text ≡ Some (record { styles = before; rest = text })
unfolding table_read
table_done zero before text h = refl
table_done (suc n) before text h = absurd (omega (arith, h))

-- a style is in a table exactly if its number is among the keys
pub key_tells : (k : ℕ) (ks : List ℕ) (s : Style) (table : List Style) → style_numbered k ≡ s → map style_numbered ks ≡ table
    → list_any (λ j. eqb k j) ks ≡ has_style table s
key_tells k ks s table e t = key_there k ks ∙ ap (λ (x : List Style). has_style x (style_numbered k)) t ∙ ap (has_style table) e

pub keys_last : (k : ℕ) (ks : List ℕ) (s : Style) (table : List Style) → style_numbered k ≡ s → map style_numbered ks ≡ table → list_any (λ j. eqb k j) ks ≡ false
    → map style_numbered (inserted ks k) ≡ table ++ s ∷ []
keys_last k ks s table e t h =
    ap (λ (b : Bool). map style_numbered (cond b ks (ks ++ k ∷ []))) h ∙ map_last ks k
    ∙ ap (λ (x : List Style). x ++ style_numbered k ∷ []) t ∙ ap (λ (x : Style). table ++ x ∷ []) e

-- the first of them is a style if one behind it is read
pub first_read : (k : ℕ) (text rest : List ℕ) (s : Style) → rest ≡ drop (9 * k) text → entry_read rest ≡ Some s → (k ≡ 0) ⊎ IsSome (entry_read text)
    → IsSome (entry_read text)
first_read k text rest s at is (inl none) =
    ap is_some (ap entry_read (sym (at ∙ ap (λ (n : ℕ). drop (9 * n) text) none)) ∙ is)
first_read k text rest s at is (inr some) = some

-- the first of the styles of a table, if there is one, is read
pub first_entry : (n : ℕ) (text : List ℕ) (t : Table) → table_read n [] text ≡ Some t → (n ≡ 0) ⊎ IsSome (entry_read text)
unfolding table_read
first_entry zero text t e = inl refl
first_entry (suc n) text t e =
    option_and_then_some (λ (s : Style). table_read n ([] ++ s ∷ []) (drop 9 text)) (entry_beside [] text) t e (λ s f g.
    let a = if_some (leb 9 (length text)) (new_one [] (entry_read text)) s f in
    option_and_then_some (λ (x : Style). cond (has_style [] x) None (Some x)) (entry_read text) s a.1 (λ x h k. inr (ap is_some h)))

-- a text has nine bytes for each style of its table
pub table_length : (n : ℕ) (before : List Style) (text : List ℕ) (t : Table) → table_read n before text ≡ Some t → length text ≡ 9 * n + length t.rest
unfolding table_read
table_length zero before text t e =
    let none : record { styles = before; rest = text } ≡ t = cc in
    omega (arith, ap (λ (x : Table). length x.rest) none)
table_length (suc n) before text t e =
    option_and_then_some (λ (s : Style). table_read n (before ++ s ∷ []) (drop 9 text)) (entry_beside before text) t e (λ s f g.
    let a = if_some (leb 9 (length text)) (new_one before (entry_read text)) s f in
    let long = leb-true 9 (length text) a.0 in
    let after = table_length n (before ++ s ∷ []) (drop 9 text) t g in
    omega (arith, after, length-drop 9 text, long))

pub ruleset entry_steps = (table_short, table_no_entry, table_done)
