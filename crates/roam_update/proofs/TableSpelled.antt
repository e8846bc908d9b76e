-- A diff that is read with a table is spelled so, and the result of a text on a base is that of the diff that it spells.
use Rattle.std.proofs.Common.{◌≡◌, ℕ, zero, suc, ◌*◌, ◌^◌, ◌<◌, ◌≤◌, Bool, true, false, cond, eqb, leb, ◌&&◌, List, [], ◌∷◌, ◌++◌, length, drop, Option, Some, None, refl, sym, ap, subst, ◌∙◌, arith, append_assoc, inl, inr}
use Rattle.std.specs.Prelude.{All, option_and_then, slice_index}
use Rattle.std.proofs.lemmas.Bool.{and_parts, eqb-true, leb-true, cases_Bool}
use Rattle.std.proofs.lemmas.List.{append-nil, drop_more}
use Rattle.std.proofs.lemmas.Option.{cond_some, option_and_then_some}
use Rattle.byteorder.specs.Endian.{big_bytes, big_number}
use Rattle.byteorder.specs.Numbers.{big_from-lt}
use Rattle.roam_screens.specs.Screenshot.{Screenshot, IsScreenshot}
use Rattle.roam_cells.specs.declared.styles.Style.{Style}
use Rattle.roam_cells.specs.declared.styles.Colour.{Colour}
use Rattle.roam_cells.specs.declared.styles.Colour.TheVariants.{Default, Index, Rgb}
use Rattle.roam_update.specs.CellText.{flags, style_of}
use Rattle.roam_update.specs.ChangeText.{Change, change_of, runs_read, runs_text}
use Rattle.roam_update.specs.Runs.{Run}
use Rattle.roam_update.specs.Shots.{Makes, applied_two, if_screenshot, screen_by}
use Rattle.roam_update.specs.Styles.{Numbered, has_style, styles_used}
use Rattle.roam_update.specs.TableText.{Table, colour_text, entry_text, table_text, front_text, text_with, SpellsTabled, colour_at, entry_read, entry_beside, table_read, has_front, front_at, numbered_read, table_in, tabled_read}
use Rattle.roam_update.specs.Tested.{is_size, is_screenshot}
use Rattle.roam_update.proofs.Bytes.{AreBytes, are_bytes, bytes-drop, number_2, number_3, number_4}
use Rattle.roam_update.proofs.CellSpelled.{bit_of, flags_spelled}
use Rattle.roam_update.proofs.ChangeSpelled.{runs_spelled}
use Rattle.roam_update.proofs.Forms.{IsTable}
use Rattle.roam_update.proofs.Plain.{if_some, runs_plain}
use Rattle.roam_update.proofs.TableAgain.{tabled_again}
use Rattle.roam_update.proofs.Testing.{size_is, screenshot_is, is_screenshot_of}
use Rattle.roam_update.proofs.UsedUp.{IsOnce, once_more, once_none, table_is, count_all}

-- ---- the table

abbrev chosen : Bool → Bool → Bool → ℕ → ℕ → ℕ → Option Colour
chosen x y z a b c = cond x (Some Default) (cond y (Some (Index c)) (cond z (Some (Rgb a b c)) None))

chosen_back : (x y z : Bool) (kind a b c : ℕ) (colour : Colour) → (x ≡ true → (kind ≡ 0) × (a ≡ 0) × (b ≡ 0) × (c ≡ 0))
    → (y ≡ true → (kind ≡ 1) × (a ≡ 0) × (b ≡ 0)) → (z ≡ true → kind ≡ 2) → chosen x y z a b c ≡ Some colour
    → kind ∷ a ∷ b ∷ c ∷ [] ≡ colour_text colour
chosen_back true y z kind a b c colour p q r e =
    let same : Default ≡ colour = cc in
    let is = p refl in
    (λ i. is.0 i ∷ (is.1 i ∷ (is.2 i ∷ (is.3 i ∷ [])))) ∙ ap colour_text same
chosen_back false true z kind a b c colour p q r e =
    let same : Index c ≡ colour = cc in
    let is = q refl in
    (λ i. is.0 i ∷ (is.1 i ∷ (is.2 i ∷ (c ∷ [])))) ∙ ap colour_text same
chosen_back false false true kind a b c colour p q r e =
    let same : Rgb a b c ≡ colour = cc in
    (λ i. r refl i ∷ (a ∷ (b ∷ (c ∷ [])))) ∙ ap colour_text same
chosen_back false false false kind a b c colour p q r e = absurd cc

colour_spelled : (kind a b c : ℕ) (colour : Colour) → colour_at kind a b c ≡ Some colour → kind ∷ a ∷ b ∷ c ∷ [] ≡ colour_text colour
colour_spelled kind a b c colour e =
    chosen_back (eqb kind 0 && (eqb a 0 && (eqb b 0 && eqb c 0))) (eqb kind 1 && (eqb a 0 && eqb b 0)) (eqb kind 2) kind a b c colour
    (λ t.
    let p = and_parts (eqb kind 0) (eqb a 0 && (eqb b 0 && eqb c 0)) t in
    let q = and_parts (eqb a 0) (eqb b 0 && eqb c 0) p.1 in
    let r = and_parts (eqb b 0) (eqb c 0) q.1 in
    (eqb-true kind 0 p.0, eqb-true a 0 q.0, eqb-true b 0 r.0, eqb-true c 0 r.1))
    (λ t.
    let p = and_parts (eqb kind 1) (eqb a 0 && eqb b 0) t in
    let q = and_parts (eqb a 0) (eqb b 0) p.1 in
    (eqb-true kind 1 p.0, eqb-true a 0 q.0, eqb-true b 0 q.1))
    (λ t. eqb-true kind 2 t) e

nine : (text : List ℕ) → 9 ≤ length text
    → text ≡ slice_index text 0 ∷ (((slice_index text 1 ∷ slice_index text 2 ∷ slice_index text 3 ∷ slice_index text 4 ∷ [])
    ++ (slice_index text 5 ∷ slice_index text 6 ∷ slice_index text 7 ∷ slice_index text 8 ∷ [])) ++ drop 9 text)
nine [] h = absurd (omega arith)
nine (a ∷ []) h = absurd (omega arith)
nine (a ∷ b ∷ []) h = absurd (omega arith)
nine (a ∷ b ∷ c ∷ []) h = absurd (omega arith)
nine (a ∷ b ∷ c ∷ d ∷ []) h = absurd (omega arith)
nine (a ∷ b ∷ c ∷ d ∷ e ∷ []) h = absurd (omega arith)
nine (a ∷ b ∷ c ∷ d ∷ e ∷ f ∷ []) h = absurd (omega arith)
nine (a ∷ b ∷ c ∷ d ∷ e ∷ f ∷ g ∷ []) h = absurd (omega arith)
nine (a ∷ b ∷ c ∷ d ∷ e ∷ f ∷ g ∷ i ∷ []) h = absurd (omega arith)
nine (a ∷ b ∷ c ∷ d ∷ e ∷ f ∷ g ∷ i ∷ j ∷ rest) h = refl

entry_spelled : (text : List ℕ) (s : Style) → AreBytes text → 9 ≤ length text → entry_read text ≡ Some s → text ≡ entry_text s ++ drop 9 text
entry_spelled text s fits long e =
    let at = slice_index text in
    option_and_then_some (λ fore. option_and_then (λ back. Some (style_of (at 0) fore back)) (colour_at (at 5) (at 6) (at 7) (at 8)))
    (colour_at (at 1) (at 2) (at 3) (at 4)) s e (λ fore f g.
    option_and_then_some (λ (back : Colour). Some (style_of (at 0) fore back)) (colour_at (at 5) (at 6) (at 7) (at 8)) s g (λ back h k.
    let front = colour_spelled (at 1) (at 2) (at 3) (at 4) fore f in
    let behind = colour_spelled (at 5) (at 6) (at 7) (at 8) back h in
    let same : style_of (at 0) fore back ≡ s = cc in
    subst (λ (x : Style). text ≡ entry_text x ++ drop 9 text) same
    (nine text long
    ∙ ap (λ (x : ℕ). x ∷ (((at 1 ∷ at 2 ∷ at 3 ∷ at 4 ∷ []) ++ (at 5 ∷ at 6 ∷ at 7 ∷ at 8 ∷ [])) ++ drop 9 text)) (sym (flags_spelled (at 0) fore back (fits 0)))
    ∙ ap (λ (x : List ℕ). flags (style_of (at 0) fore back) ∷ ((x ++ (at 5 ∷ at 6 ∷ at 7 ∷ at 8 ∷ [])) ++ drop 9 text)) front
    ∙ ap (λ (x : List ℕ). flags (style_of (at 0) fore back) ∷ ((colour_text fore ++ x) ++ drop 9 text)) behind)))

record AreEntries (n : ℕ) (before : List Style) (text : List ℕ) (t : Table) : Type 0 where
  more : List Style
  styles : t.styles ≡ before ++ more
  count : length more ≡ n
  spelled : text ≡ table_text more ++ t.rest
  bytes : AreBytes t.rest
  once : IsOnce before → IsOnce t.styles

not_there : (before : List Style) (s x : Style) → cond (has_style before s) None (Some s) ≡ Some x → (has_style before s ≡ false) × (s ≡ x)
not_there before s x e =
    elim (cases_Bool (has_style before s)) [
      | inl h ↦ let none : None ≡ Some x = rw h at e in absurd cc
      | inr h ↦ let some : Some s ≡ Some x = rw h at e in (h, cc)
    ]

entries_spelled : (n : ℕ) (before : List Style) (text : List ℕ) (t : Table) → AreBytes text → table_read n before text ≡ Some t → AreEntries n before text t
unfolding table_read
entries_spelled zero before text t fits e =
    let none : record { styles = before; rest = text } ≡ t = cc in
    subst (AreEntries zero before text) none
    (record { more = []; styles = sym (append-nil before); count = refl; spelled = refl; bytes = fits; once = λ h. h })
entries_spelled (suc n) before text t fits e =
    option_and_then_some (λ (s : Style). table_read n (before ++ s ∷ []) (drop 9 text)) (entry_beside before text) t e (λ s f g.
    let a = if_some (leb 9 (length text)) (option_and_then (λ (x : Style). cond (has_style before x) None (Some x)) (entry_read text)) s f in
    let long = leb-true 9 (length text) a.0 in
    option_and_then_some (λ (x : Style). cond (has_style before x) None (Some x)) (entry_read text) s a.1 (λ x h k.
    let new = not_there before x s k in
    let here : text ≡ entry_text s ++ drop 9 text = subst (λ (y : Style). text ≡ entry_text y ++ drop 9 text) new.1 (entry_spelled text x fits long h) in
    let fresh : has_style before s ≡ false = subst (λ (y : Style). has_style before y ≡ false) new.1 new.0 in
    let after = entries_spelled n (before ++ s ∷ []) (drop 9 text) t (bytes-drop 9 text fits) g in
    record {
      more = s ∷ after.more;
      styles = after.styles ∙ append_assoc before (s ∷ []) after.more;
      count = ap suc after.count;
      spelled =
          here ∙ ap (λ (y : List ℕ). entry_text s ++ y) after.spelled
          ∙ sym (append_assoc (entry_text s) (table_text after.more) t.rest);
      bytes = after.bytes;
      once = λ h. after.once (once_more before s h fresh);
    }))

-- ---- the whole text

front_spelled : (text : List ℕ) → AreBytes text → 12 ≤ length text → slice_index text 8 ≤ 1 → text ≡ front_text (front_at text) ++ drop 9 text
front_spelled text fits long few =
    number_2 0 text (omega (arith, long)) fits
    ∙ ap (λ (t : List ℕ). big_bytes 2 (big_number 2 text) ++ t) (number_2 2 text (omega (arith, long)) fits
    ∙ ap (λ (t : List ℕ). big_bytes 2 (big_number 2 (drop 2 text)) ++ t) (number_2 4 text (omega (arith, long)) fits
    ∙ ap (λ (t : List ℕ). big_bytes 2 (big_number 2 (drop 4 text)) ++ t) (number_2 6 text (omega (arith, long)) fits
    ∙ ap (λ (t : List ℕ). big_bytes 2 (big_number 2 (drop 6 text)) ++ t) (drop_more text 8 0 (omega (arith, long))
    ∙ ap (λ (x : ℕ). x ∷ drop 9 text) (sym (bit_of (slice_index text 8) (omega (arith, few))))))))

-- a diff that is read is spelled so
pub tabled_spelled : (text : List ℕ) (x : Change) → All (λ (b : ℕ). b < 256) text → tabled_read text ≡ Some x → SpellsTabled x text
tabled_spelled text x all e =
    let fits = are_bytes text all in
    let h = front_at text in
    let end = h.rows * h.cols in
    let a = if_some (has_front text) _ x e in
    let p = and_parts (leb 12 (length text)) _ a.0 in
    let q = and_parts (leb (slice_index text 8) 1) (is_size (big_number 2 text) (big_number 2 (drop 2 text))) p.1 in
    let long = leb-true 12 (length text) p.0 in
    let few = leb-true (slice_index text 8) 1 q.0 in
    option_and_then_some (λ (table : Table). option_and_then (λ (runs : List Run). Some (change_of h runs)) (numbered_read end table)) (table_in text) x a.1 (λ table f g.
    option_and_then_some (λ (runs : List Run). Some (change_of h runs)) (numbered_read end table) x g (λ runs j k.
    let n = big_number 4 table.rest in
    let entries = entries_spelled (big_number 3 (drop 9 text)) [] (drop 12 text) table (bytes-drop 12 text fits) f in
    let b = if_some (leb 4 (length table.rest)) (runs_read (Numbered table.styles 0) n 0 end (drop 4 table.rest)) runs j in
    let rest_long = leb-true 4 (length table.rest) b.0 in
    let count : length table.styles ≡ big_number 3 (drop 9 text) = ap length entries.styles ∙ entries.count in
    let whole : IsTable table.styles = record {
      few = subst (λ (m : ℕ). m < 256 ^ 3) (sym count) (big_from-lt 0 3 (drop 9 text) (bytes-drop 9 text fits));
      once = entries.once once_none;
    } in
    let are = runs_spelled (Numbered table.styles 0) n 0 end (drop 4 table.rest) runs (bytes-drop 4 table.rest entries.bytes) whole b.1 in
    let used : styles_used [] runs ≡ table.styles = table_is table.styles runs are.takes in
    let same : change_of h runs ≡ x = cc in
    subst (λ (y : Change). SpellsTabled y text) same (record {
      change = record {
        size = size_is h.rows h.cols q.1;
        row = big_from-lt 0 2 (drop 4 text) (bytes-drop 4 text fits);
        col = big_from-lt 0 2 (drop 6 text) (bytes-drop 6 text fits);
        apart = are.apart;
        plain = runs_plain (Numbered table.styles 0) n 0 end (drop 4 table.rest) runs b.1;
      };
      spelled =
          front_spelled text fits long few
          ∙ ap (λ (t : List ℕ). front_text h ++ t)
          (number_3 9 text (omega (arith, long)) fits
          ∙ ap (λ (m : ℕ). big_bytes 3 m ++ drop 12 text) (sym count)
          ∙ ap (λ (t : List ℕ). big_bytes 3 (length table.styles) ++ t)
          (entries.spelled
          ∙ ap (λ (s : List Style). table_text s ++ table.rest) (sym entries.styles)
          ∙ ap (λ (t : List ℕ). table_text table.styles ++ t)
          (number_4 0 table.rest (omega (arith, rest_long)) entries.bytes
          ∙ ap (λ (t : List ℕ). big_bytes 4 n ++ t) are.spelled
          ∙ ap (λ (m : ℕ). big_bytes 4 m ++ runs_text (Numbered table.styles 0) runs) (sym are.count))))
          ∙ ap (λ (s : List Style). text_with s (change_of h runs)) (sym used);
    })))

-- a table that runs use up has no more styles than there are places
pub few_entries : (count end n : ℕ) (text : List ℕ) (table : Table) (runs : List Run) → AreBytes text → count < 256 ^ 3 → table_read count [] text ≡ Some table
    → runs_read (Numbered table.styles 0) n 0 end (drop 4 table.rest) ≡ Some runs → count ≤ end
few_entries count end n text table runs fits few e f =
    let entries = entries_spelled count [] text table fits e in
    let is : length table.styles ≡ count = ap length entries.styles ∙ entries.count in
    let whole : IsTable table.styles = record { few = subst (λ (m : ℕ). m < 256 ^ 3) (sym is) few; once = entries.once once_none } in
    let are = runs_spelled (Numbered table.styles 0) n 0 end (drop 4 table.rest) runs (bytes-drop 4 table.rest entries.bytes) whole f in
    let used : length (styles_used [] runs) ≡ length table.styles = ap length (table_is table.styles runs are.takes) in
    let all = count_all end runs are.apart in
    omega (arith, all, used, is)

-- two diffs with one text are one
pub one_tabled : (x y : Change) (text : List ℕ) → SpellsTabled x text → SpellsTabled y text → x ≡ y
one_tabled x y text h k =
    let both : Some x ≡ Some y = sym (tabled_again x h.change) ∙ ap tabled_read (sym h.spelled ∙ k.spelled) ∙ tabled_again y k.change in
    cc

-- ---- the result of a text on a base

pub makes : (base : Screenshot) (text : List ℕ) (s : Screenshot) → All (λ (b : ℕ). b < 256) text → applied_two base text ≡ Some s → Makes base text s
makes base text s all e =
    option_and_then_some (λ (x : Change). if_screenshot (screen_by base x)) (tabled_read text) s e (λ x f g.
    let a = cond_some (is_screenshot (screen_by base x)) (screen_by base x) s g in
    record {
      change = x;
      spells = tabled_spelled text x all f;
      screen = a.1;
      shown = subst IsScreenshot a.1 (screenshot_is (screen_by base x) a.0);
    })

abbrev some_screenshot : Screenshot → Option Screenshot
some_screenshot s = Some s

pub is_made : (base : Screenshot) (text : List ℕ) (s : Screenshot) → Makes base text s → applied_two base text ≡ some_screenshot s
is_made base text s m =
    ap (applied_two base) m.spells.spelled
    ∙ ap (λ (o : Option Change). option_and_then (λ x. if_screenshot (screen_by base x)) o) (tabled_again m.change m.spells.change)
    ∙ ap if_screenshot m.screen ∙ ap (λ (b : Bool). cond b (some_screenshot s) None) (is_screenshot_of s m.shown)
