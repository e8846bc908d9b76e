-- The results of texts of version 1; the text that leads to a screen gives it.
use Rattle.std.proofs.Common.{◌≡◌, ℕ, ◌+◌, ◌<◌, Bool, true, false, cond, List, [], ◌∷◌, length, Option, Some, None, sym, ap, subst, ◌∙◌, inl, inr}
use Rattle.std.specs.Prelude.{All, option_and_then}
use Rattle.std.proofs.lemmas.Bool.{cases_Bool}
use Rattle.std.proofs.lemmas.Option.{cond_some, option_and_then_some}
use Rattle.std.proofs.lemmas.List.Elements.{All-nil, All-cons, All-head, All-tail, All-from_get_or}
use Rattle.roam_cells.specs.Glyph.{Glyph, blank}
use Rattle.roam_screens.specs.Narrow.{IsOldScreenshot}
use Rattle.roam_screens.specs.Screenshot.{Screenshot}
use Rattle.roam_update.specs.ChangeText.{Change, AreShort, change_read}
use Rattle.roam_update.specs.Runs.{Run, lead, runs_from}
use Rattle.roam_cells.specs.Same.{same}
use Rattle.roam_update.specs.Shots.{MakesOld, applied_one, change_to, difference_one, if_old_screenshot, screen_by}
use Rattle.roam_update.specs.Sizes.{sized_cells}
use Rattle.roam_update.specs.Tested.{is_old_screenshot}
use Rattle.roam_update.proofs.ChangeAgain.{change_again, is_change_to}
use Rattle.roam_update.proofs.ChangeSpelled.{change_spelled}
use Rattle.roam_update.proofs.Patching.{patched_between}
use Rattle.roam_update.proofs.Short.{IsShort}
use Rattle.roam_update.proofs.Sizing.{length_sized}
use Rattle.roam_update.proofs.Stretches.{runs_same, runs_inside, runs_begin, runs_none, runs_past}
use Rattle.roam_update.proofs.Testing.{old_screenshot_is, is_old_screenshot_of}

-- ---- runs of cells without mixtures

lead_short : (bs cs : List Glyph) → All IsShort cs → All IsShort (lead bs cs)
unfolding lead
lead_short [] cs h = All-nil IsShort
lead_short (b ∷ bs) [] h = All-nil IsShort
lead_short (b ∷ bs) (c ∷ cs) h =
    elim (cases_Bool (same b c)) [
      | inl e ↦ rw e (All-nil IsShort)
      | inr e ↦ rw e (All-cons IsShort c (lead bs cs) (All-head IsShort c cs h) (lead_short bs cs (All-tail IsShort c cs h)))
    ]

abbrev HasShort : Run → Type 0
HasShort run = All IsShort run.cells

short_differs : (inside : Bool) (k : ℕ) (b c : Glyph) (bs cs : List Glyph) → All IsShort (c ∷ cs) → same b c ≡ false → AreShort (runs_from true (k + 1) bs cs)
    → AreShort (runs_from inside k (b ∷ bs) (c ∷ cs))
short_differs true k b c bs cs h e more = subst AreShort (sym (runs_inside b c bs cs k e)) more
short_differs false k b c bs cs h e more =
    subst AreShort (sym (runs_begin b c bs cs k e))
    (All-cons HasShort (record { first = k; cells = c ∷ lead bs cs }) (runs_from true (k + 1) bs cs)
    (All-cons IsShort c (lead bs cs) (All-head IsShort c cs h) (lead_short bs cs (All-tail IsShort c cs h))) more)

short_from : (inside : Bool) (k : ℕ) (bs cs : List Glyph) → All IsShort cs → AreShort (runs_from inside k bs cs)
short_from inside k [] cs h = subst AreShort (sym (runs_none inside k cs)) (All-nil HasShort)
short_from inside k (b ∷ bs) [] h = subst AreShort (sym (runs_past inside k b bs)) (All-nil HasShort)
short_from inside k (b ∷ bs) (c ∷ cs) h =
    let tail = All-tail IsShort c cs h in
    elim (cases_Bool (same b c)) [
      | inl e ↦ subst AreShort (sym (runs_same b c bs cs inside k e)) (short_from false (k + 1) bs cs tail)
      | inr e ↦ short_differs inside k b c bs cs h e (short_from true (k + 1) bs cs tail)
    ]

-- ---- screens

abbrev some_screenshot : Screenshot → Option Screenshot
some_screenshot s = Some s

-- applying the diff to the base gives the screen
pub leads_one : (base s : Screenshot) → IsOldScreenshot s → applied_one base (difference_one base s) ≡ Some s
leads_one base s old =
    let h = old.screenshot in
    let start = sized_cells s.rows s.cols base in
    let len : length start ≡ length s.cells = length_sized s.rows s.cols base ∙ sym h.count in
    let same : screen_by base (change_to base s) ≡ s = λ i. record {
      rows = s.rows;
      cols = s.cols;
      cells = patched_between start s.cells len i;
      cursor_row = s.cursor_row;
      cursor_col = s.cursor_col;
      visible = s.visible;
    } in
    let short : AreShort (change_to base s).runs = short_from false 0 start s.cells (All-from_get_or IsShort s.cells blank old.plain) in
    ap (λ (o : Option Change). option_and_then (λ x. if_old_screenshot (screen_by base x)) o) (change_again (change_to base s) (is_change_to base s h) short)
    ∙ ap if_old_screenshot same ∙ ap (λ (b : Bool). cond b (some_screenshot s) None) (is_old_screenshot_of s old)

pub makes_old : (base : Screenshot) (text : List ℕ) (s : Screenshot) → All (λ (b : ℕ). b < 256) text → applied_one base text ≡ Some s → MakesOld base text s
makes_old base text s all e =
    option_and_then_some (λ (x : Change). if_old_screenshot (screen_by base x)) (change_read text) s e (λ x f g.
    let a = cond_some (is_old_screenshot (screen_by base x)) (screen_by base x) s g in
    record {
      change = x;
      spells = change_spelled text x all f;
      screen = a.1;
      shown = subst IsOldScreenshot a.1 (old_screenshot_is (screen_by base x) a.0);
    })

pub is_made_old : (base : Screenshot) (text : List ℕ) (s : Screenshot) → MakesOld base text s → applied_one base text ≡ Some s
is_made_old base text s m =
    ap (applied_one base) m.spells.spelled
    ∙ ap (λ (o : Option Change). option_and_then (λ x. if_old_screenshot (screen_by base x)) o) (change_again m.change m.spells.change m.spells.short)
    ∙ ap if_old_screenshot m.screen ∙ ap (λ (b : Bool). cond b (some_screenshot s) None) (is_old_screenshot_of s m.shown)
