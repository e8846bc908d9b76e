-- A tick goes through the records: each is prepared, then those after it are sent to, then it is settled.
use Rattle.std.proofs.Common.{◌≡◌, ℕ, zero, suc, ◌+◌, ◌<◌, List, [], ◌∷◌, ◌++◌, length, map, take, drop, Option, Some, None, Bool, true, false, refl, sym, ap, ◌∙◌, subst, cond, arith}
use Rattle.std.specs.Prelude.{slice_get, ◌&&◌, ◌||◌}
use Rattle.std.specs.List.{flat_map, list_any}
use Rattle.std.proofs.lemmas.List.{append_assoc}
use Rattle.indexmap.specs.Layout.{set_value_at}
use Rattle.roam_screens.specs.Screenshot.{Screenshot}
use Rattle.roam_model.specs.Moments.{is_spent}
use Rattle.roam_model.specs.Texts.{Address}
use Rattle.roam_model.proofs.Keeps.{not_past, or_left, or_right}
use Rattle.roam_hub.specs.declared.shared.SharedChange.{SharedChange}
use Rattle.roam_hub.specs.Servers.{RecordView}
use Rattle.roam_hub.specs.Shared.{HoldMade, GoTogether, StayTogether}
use Rattle.roam_hub.specs.Waits.{is_record_due, is_entry_due}
use Rattle.roam_hub.proofs.Waiting.{or_second}
use Rattle.roam_hub.specs.Records.{fragments_due, is_instruction_spent, is_sent_to, fragments_sent, parcels_for, settled_with, HasNumbersFor, held_record, texts_for, is_entry_spent, settled_entry}

-- ---- places

drop_next : (es : List (ℕ × RecordView)) (k : ℕ) (e : ℕ × RecordView) → slice_get es k ≡ Some e → drop k es ≡ e ∷ drop (suc k) es
drop_next [] k e h = absurd (cc)
drop_next (x ∷ es) zero e h = cc
drop_next (x ∷ es) (suc k) e h = drop_next es k e h

drop_set : (es : List (ℕ × RecordView)) (k : ℕ) (w : RecordView) → drop (suc k) (set_value_at es k w) ≡ drop (suc k) es
drop_set [] k w = refl
drop_set (x ∷ es) zero w = refl
drop_set (x ∷ es) (suc k) w = drop_set es k w

take_set : (es : List (ℕ × RecordView)) (k : ℕ) (e : ℕ × RecordView) (w : RecordView) → slice_get es k ≡ Some e
    → take (suc k) (set_value_at es k w) ≡ take k es ++ (e.0, w) ∷ []
take_set [] k e w h = absurd (cc)
take_set (x ∷ es) zero e w h = let z : x ≡ e = cc in ap (λ (y : ℕ × RecordView). (y.0, w) ∷ []) z
take_set (x ∷ es) (suc k) e w h = ap (λ (ys : List (ℕ × RecordView)). x ∷ ys) (take_set es k e w h)

set_back : (es : List (ℕ × RecordView)) (k : ℕ) (e : ℕ × RecordView) (w : RecordView) → slice_get es k ≡ Some e
    → set_value_at (set_value_at es k w) k e.1 ≡ es
set_back [] k e w h = refl
set_back (x ∷ es) zero e w h = let z : e ≡ x = cc in ap (λ (y : ℕ × RecordView). (x.0, y.1) ∷ es) z
set_back (x ∷ es) (suc k) e w h = ap (λ (ys : List (ℕ × RecordView)). x ∷ ys) (set_back es k e w h)

get_set : (es : List (ℕ × RecordView)) (k : ℕ) (e : ℕ × RecordView) (w : RecordView) → slice_get es k ≡ Some e
    → slice_get (set_value_at es k w) k ≡ Some (e.0, w)
get_set [] k e w h = absurd (cc)
get_set (x ∷ es) zero e w h = let z : x ≡ e = cc in ap (λ (y : ℕ × RecordView). Some (y.0, w)) z
get_set (x ∷ es) (suc k) e w h = get_set es k e w h

get_seam : (es : List (ℕ × RecordView)) (k : ℕ) (e d : ℕ × RecordView) (b : List (ℕ × RecordView)) → slice_get es k ≡ Some d
    → slice_get (take k es ++ e ∷ b) k ≡ Some e
get_seam [] k e d b h = absurd (cc)
get_seam (x ∷ es) zero e d b h = refl
get_seam (x ∷ es) (suc k) e d b h = get_seam es k e d b h

set_seam : (es : List (ℕ × RecordView)) (k : ℕ) (e d : ℕ × RecordView) (w : RecordView) (b : List (ℕ × RecordView))
    → slice_get es k ≡ Some d → set_value_at (take k es ++ e ∷ b) k w ≡ take k es ++ (e.0, w) ∷ b
set_seam [] k e d w b h = absurd (cc)
set_seam (x ∷ es) zero e d w b h = refl
set_seam (x ∷ es) (suc k) e d w b h = ap (λ (ys : List (ℕ × RecordView)). x ∷ ys) (set_seam es k e d w b h)

within : (es : List (ℕ × RecordView)) (k : ℕ) (e : ℕ × RecordView) → slice_get es k ≡ Some e → k < length es
within [] k e h = absurd (cc)
within (x ∷ es) zero e h = omega arith
within (x ∷ es) (suc k) e h = let w = within es k e h in omega (arith, w)

next_is : (k : ℕ) → k + 1 ≡ suc k
next_is k = omega arith

same_value : (es : List (ℕ × RecordView)) (k : ℕ) (x y : ℕ) (v w : RecordView) → slice_get es k ≡ Some (x, v) → slice_get es k ≡ Some (y, w)
    → w ≡ v
same_value es k x y v w e f = let z : Some (y, w) ≡ Some (x, v) = sym f
    ∙ e in let p : (y, w) ≡ (x, v) = cc in ap (λ (q : ℕ × RecordView). q.1) p

-- ---- one record among them

-- the record at a place was prepared: es are the records before, x its id, v its kept part before, w the one after
pub record IsAt (es : List (ℕ × RecordView)) (k x : ℕ) (v w : RecordView) (n : ℕ) (s : Screenshot) (now : ℕ) : Type 0 where
  pub here : slice_get es k ≡ Some (x, v)
  pub held : w ≡ held_record v n s now

module _ (es : List (ℕ × RecordView)) (k x : ℕ) (v w : RecordView) (n : ℕ) (s : Screenshot) (now : ℕ) (at : IsAt es k x v w n s now) where
  -- the records after the others were sent to
  rest_settled : (es2 : List (ℕ × RecordView)) → es2 ≡ take (k + 1) (set_value_at es k w)
      ++ map (settled_entry n s now) (drop (k + 1) (set_value_at es k w))
      → es2 ≡ take k es ++ (x, w) ∷ map (settled_entry n s now) (drop (suc k) es)
  rest_settled es2 e =
      e
      ∙ ap (λ (j : ℕ). take j (set_value_at es k w) ++ map (settled_entry n s now) (drop j (set_value_at es k w))) (next_is k)
      ∙ ap (λ (xs : List (ℕ × RecordView)). xs ++ map (settled_entry n s now) (drop (suc k) (set_value_at es k w)))
      (take_set es k (x, v) w at.here)
      ∙ ap (λ (xs : List (ℕ × RecordView)). (take k es ++ (x, w) ∷ []) ++ map (settled_entry n s now) xs) (drop_set es k w)
      ∙ append_assoc (take k es) ((x, w) ∷ []) (map (settled_entry n s now) (drop (suc k) es))

  pub here_still : (es2 : List (ℕ × RecordView)) → es2 ≡ take (k + 1) (set_value_at es k w)
      ++ map (settled_entry n s now) (drop (k + 1) (set_value_at es k w)) → slice_get es2 k ≡ Some (x, w)
  here_still es2 e =
      ap (λ (xs : List (ℕ × RecordView)). slice_get xs k) (rest_settled es2 e)
      ∙ get_seam es k (x, w) (x, v) (map (settled_entry n s now) (drop (suc k) es)) at.here

  pub all_settled : (es2 : List (ℕ × RecordView)) (u : RecordView) (fragments : Option ℕ) → es2 ≡ take (k + 1) (set_value_at es k w)
      ++ map (settled_entry n s now) (drop (k + 1) (set_value_at es k w))
      → fragments ≡ fragments_sent w now → u ≡ settled_with w fragments now
      → set_value_at es2 k u ≡ take k es ++ map (settled_entry n s now) (drop k es)
  all_settled es2 u fragments e p f =
      ap (λ (xs : List (ℕ × RecordView)). set_value_at xs k u) (rest_settled es2 e)
      ∙ set_seam es k (x, w) (x, v) u (map (settled_entry n s now) (drop (suc k) es)) at.here
      ∙ ap (λ (y : RecordView). take k es ++ (x, y) ∷ map (settled_entry n s now) (drop (suc k) es))
      (f ∙ (λ i. settled_with (at.held i) ((p ∙ ap (λ (z : RecordView). fragments_sent z now) at.held) i) now))
      ∙ sym (ap (λ (xs : List (ℕ × RecordView)). take k es ++ map (settled_entry n s now) xs) (drop_next es k (x, v) at.here))

  pub all_sent : (session : ℕ) (old between new : List (Address × List ℕ)) → between ≡ old ++ parcels_for session now (x, w)
      → new ≡ between ++ flat_map (texts_for session n s now) (drop (k + 1) (set_value_at es k w))
      → new ≡ old ++ flat_map (texts_for session n s now) (drop k es)
  all_sent session old between new e f =
      f ∙ ap (λ (ts : List (Address × List ℕ)). ts ++ flat_map (texts_for session n s now) (drop (k + 1) (set_value_at es k w))) e
      ∙ ap (λ (y : RecordView). (old ++ parcels_for session now (x, y)) ++ flat_map (texts_for session n s now)
      (drop (k + 1) (set_value_at es k w))) at.held
      ∙ ap (λ (j : ℕ). (old ++ texts_for session n s now (x, v)) ++ flat_map (texts_for session n s now) (drop j (set_value_at es k w)))
      (next_is k)
      ∙ ap (λ (xs : List (ℕ × RecordView)). (old ++ texts_for session n s now (x, v)) ++ flat_map (texts_for session n s now) xs)
      (drop_set es k w)
      ∙ append_assoc old (texts_for session n s now (x, v)) (flat_map (texts_for session n s now) (drop (suc k) es))
      ∙ sym (ap (λ (xs : List (ℕ × RecordView)). old ++ flat_map (texts_for session n s now) xs) (drop_next es k (x, v) at.here))

  -- whether numbers are spent, of this record and those after it
  pub spent_is : (b : Bool) → is_entry_spent n s now (x, v) ≡ b
      → list_any (is_entry_spent n s now) (drop k es) ≡ (b || list_any (is_entry_spent n s now) (drop (k + 1) (set_value_at es k w)))
  spent_is b e =
      ap (list_any (is_entry_spent n s now)) (drop_next es k (x, v) at.here)
      ∙ ap (λ c. c || list_any (is_entry_spent n s now) (drop (suc k) es)) e
      ∙ sym (ap (λ (xs : List (ℕ × RecordView)). b || list_any (is_entry_spent n s now) xs) (drop_set es k w))
      ∙ sym (ap (λ (j : ℕ). b || list_any (is_entry_spent n s now) (drop j (set_value_at es k w))) (next_is k))

-- the first is spent
pub first_spent : (es : List (ℕ × RecordView)) (k : ℕ) (e : ℕ × RecordView) (n : ℕ) (s : Screenshot) (now : ℕ) → slice_get es k ≡ Some e
    → is_entry_spent n s now e ≡ true → list_any (is_entry_spent n s now) (drop k es) ≡ true
first_spent es k e n s now at spent =
    ap (list_any (is_entry_spent n s now)) (drop_next es k e at)
    ∙ ap (λ c. c || list_any (is_entry_spent n s now) (drop (suc k) es)) spent

-- the first is due
pub first_due : (es : List (ℕ × RecordView)) (k : ℕ) (e : ℕ × RecordView) (n now : ℕ) → slice_get es k ≡ Some e
    → is_record_due e.1 n now ≡ true → list_any (is_entry_due n now) (drop k es) ≡ true
first_due es k e n now at due =
    ap (list_any (is_entry_due n now)) (drop_next es k e at) ∙ ap (λ c. c || list_any (is_entry_due n now) (drop (suc k) es)) due

-- one after the first is due
pub later_due : (es : List (ℕ × RecordView)) (k : ℕ) (e : ℕ × RecordView) (w : RecordView) (n now : ℕ) → slice_get es k ≡ Some e
    → list_any (is_entry_due n now) (drop (k + 1) (set_value_at es k w)) ≡ true → list_any (is_entry_due n now) (drop k es) ≡ true
later_due es k e w n now at due =
    ap (list_any (is_entry_due n now)) (drop_next es k e at)
    ∙ or_second (is_record_due e.1 n now) (list_any (is_entry_due n now) (drop (suc k) es))
    (sym (ap (list_any (is_entry_due n now)) (drop_set es k w))
    ∙ sym (ap (λ (j : ℕ). list_any (is_entry_due n now) (drop j (set_value_at es k w))) (next_is k)) ∙ due)

pub set_nothing : (es : List (ℕ × RecordView)) (k x : ℕ) (v w : RecordView) → slice_get es k ≡ Some (x, v) → w ≡ v
    → set_value_at es k w ≡ es
set_nothing [] k x v w at same = refl
set_nothing (e ∷ es) zero x v w at same =
    let z : (x, v) ≡ e = cc in
    ap (λ (y : RecordView). (e.0, y) ∷ es) (same ∙ ap (λ (p : ℕ × RecordView). p.1) z)
set_nothing (e ∷ es) (suc k) x v w at same = ap (λ (ys : List (ℕ × RecordView)). e ∷ ys) (set_nothing es k x v w at same)

-- there are numbers for its datagrams
pub has_numbers : (w : RecordView) (now : ℕ) → (is_sent_to w now && is_instruction_spent w) ≡ false → HasNumbersFor w (fragments_sent w now)
has_numbers w now e = go (is_sent_to w now) e
  where
    go : (b : Bool) → (b && is_instruction_spent w) ≡ false → HasNumbersFor w (cond b (Some (length (fragments_due w))) None)
    go false f = tt
    go true f =
        let left = or_left (is_spent (w.instructions + 1) || is_spent (w.datagrams + length (fragments_due w))) (is_spent w.taken) f in (
          not_past (w.datagrams + length (fragments_due w))
              (or_right (is_spent (w.instructions + 1)) (is_spent (w.datagrams + length (fragments_due w))) left),
          not_past (w.instructions + 1) (or_left (is_spent (w.instructions + 1)) (is_spent (w.datagrams + length (fragments_due w))) left),
        )

-- ---- a record is as it was

pub undone : (es es2 : List (ℕ × RecordView)) (k x : ℕ) (v w u : RecordView) → slice_get es k ≡ Some (x, v)
    → es2 ≡ set_value_at es k w → u ≡ v
    → set_value_at es2 k u ≡ es
undone es es2 k x v w u at e same =
    (λ i. set_value_at (e i) k (same i)) ∙ set_back es k (x, v) w at

pub still_there : (es es2 : List (ℕ × RecordView)) (k x : ℕ) (v w : RecordView) → slice_get es k ≡ Some (x, v) → es2 ≡ set_value_at es k w
    → slice_get es2 k ≡ Some (x, w)
still_there es es2 k x v w at e = ap (λ (ys : List (ℕ × RecordView)). slice_get ys k) e ∙ get_set es k (x, v) w at

pub is_within : (es : List (ℕ × RecordView)) (k x : ℕ) (v : RecordView) → slice_get es k ≡ Some (x, v) → k < length es
is_within es k x v at = within es k (x, v) at

pub value_is : (es : List (ℕ × RecordView)) (k x y : ℕ) (v w : RecordView) → slice_get es k ≡ Some (x, v)
    → slice_get es k ≡ Some (y, w) → w ≡ v
value_is es k x y v w e f = same_value es k x y v w e f

-- ---- the screens of the records and of the diffs

-- of the first of the records that are left
pub together_first : (es : List (ℕ × RecordView)) (k : ℕ) (e : ℕ × RecordView) (n : ℕ) (s : Screenshot) (cs : List SharedChange)
    → slice_get es k ≡ Some e → GoTogether n s (drop k es) cs → GoTogether n s (e ∷ []) cs
together_first es k e n s cs at g =
    let all = subst (HoldMade g.screens n) (drop_next es k e at) g.made in
    record { screens = g.screens; last = g.last; made = (all.0, tt); between = g.between }

-- and of those after it
pub together_rest : (es : List (ℕ × RecordView)) (k : ℕ) (e : ℕ × RecordView) (w : RecordView) (n : ℕ) (s : Screenshot)
    (cs cs2 : List SharedChange) → slice_get es k ≡ Some e → GoTogether n s (drop k es) cs → StayTogether n s e.1 cs cs2
    → GoTogether n s (drop (k + 1) (set_value_at es k w)) cs2
together_rest es k e w n s cs cs2 at g stay =
    let all = subst (HoldMade g.screens n) (drop_next es k e at) g.made in
    record {
      screens = g.screens;
      last = g.last;
      made = subst (HoldMade g.screens n)
          (sym (ap (λ (j : ℕ). drop j (set_value_at es k w)) (next_is k) ∙ drop_set es k w)) all.1;
      between = stay g.screens g.last all.0 g.between;
    }
