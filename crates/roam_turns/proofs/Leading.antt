-- The text that a turn shows leads the outer terminal from the noted screen to the one that is noted then.
use Rattle.std.proofs.Common.{◌≡◌, ℕ, zero, suc, List, [], ◌∷◌, ◌++◌, map, append-nil, append_assoc, Bool, Option, Some, None, refl, sym, ap, ◌∙◌, subst, inl, inr, arith}
use Rattle.std.proofs.KnownBytes.{Appends-nil, Appends-kept}
use Rattle.std.proofs.lemmas.List.{map-append}
use Rattle.std.specs.Io.KnownBytes.{Appends, Keeps}
use Rattle.roam_screens.specs.Screenshot.{Screenshot, IsScreenshot, blank_screenshot}
use Rattle.roam_acts.specs.declared.acts.Act.{Act}
use Rattle.roam_text.specs.Log.{Item, Byte}
use Rattle.roam_paint.specs.Ground.{Displays, PaintedLeadsOver, OpenedBeginsBlank}
use Rattle.roam_paint.specs.Painting.{text_between, blanking_text}
use Rattle.roam_cells.specs.declared.addresses.Addr.{Addr}
use Rattle.roam_turns.specs.declared.outer.Noted.{Noted}
use Rattle.roam_turns.specs.Calls.{Parcel, PortCall, ClientCall}
use Rattle.roam_turns.specs.Calls.PortCall.{Now, Received, NothingReceived, Sent, PaneGenerations, PaneGave, PaneGaveNothing, PaneTook, Showed, Asked}
use Rattle.roam_turns.specs.Painting.{IsNoted, IsBehind, DisplaysNoted, Fits, Shows, Leads, Led, text_for}
use Rattle.roam_turns.specs.Parts.{Call, ReceivesUpTo}
use Rattle.roam_turns.specs.Parts.Call.{Port, Core}
use Rattle.roam_turns.specs.Turns.{Sends, Types, IsToClient, Paints, ClientTicks, AttachTurn, shown_in}
use Rattle.roam_turns.specs.Turns.Paints.{already, no_memory, shown, failed}

-- ---- the text shown in a turn

pub shown_both : {C : Type 0} (xs ys : List (Call C)) → shown_in (xs ++ ys) ≡ shown_in xs ++ shown_in ys
shown_both [] ys = refl
shown_both (Port (Showed bytes went) ∷ xs) ys =
    ap (λ l. bytes ++ l) (shown_both xs ys) ∙ sym (append_assoc bytes (shown_in xs) (shown_in ys))
shown_both (Port (Now t) ∷ xs) ys = shown_both xs ys
shown_both (Port (Received room from bytes) ∷ xs) ys = shown_both xs ys
shown_both (Port (NothingReceived room) ∷ xs) ys = shown_both xs ys
shown_both (Port (Sent to bytes went) ∷ xs) ys = shown_both xs ys
shown_both (Port (PaneGenerations pane generation) ∷ xs) ys = shown_both xs ys
shown_both (Port (PaneGave pane room bytes) ∷ xs) ys = shown_both xs ys
shown_both (Port (PaneGaveNothing pane room) ∷ xs) ys = shown_both xs ys
shown_both (Port (PaneTook pane bytes n) ∷ xs) ys = shown_both xs ys
shown_both (Port (Asked call) ∷ xs) ys = shown_both xs ys
shown_both (Core call ∷ xs) ys = shown_both xs ys

types_quiet : (next : Option Act) (taken : Bool) (xs : List (Call ClientCall)) → Types next taken xs → shown_in xs ≡ []
types_quiet None taken xs h = ap shown_in h.1
types_quiet (Some act) taken xs h = ap shown_in h.2

receives_quiet : (now n : ℕ) (xs : List (Call ClientCall)) → ReceivesUpTo (IsToClient now) 2048 n xs → shown_in xs ≡ []
unfolding ReceivesUpTo
receives_quiet now zero xs h = ap shown_in h
receives_quiet now (suc n) xs (inl none) = ap shown_in none
receives_quiet now (suc n) xs (inr more) =
    ap shown_in more.all ∙ (shown_both more.before more.after
    ∙ (ap (λ l. l ++ shown_in more.after) (ap shown_in more.first.all) ∙ receives_quiet now n more.after more.later))

sends_quiet : (parcels : List Parcel) (sent : List PortCall) → Sends parcels sent → shown_in {C = ClientCall} (map Port sent) ≡ []
sends_quiet [] sent h = ap (λ l. shown_in {C = ClientCall} (map Port l)) h
sends_quiet (parcel ∷ parcels) sent h =
    ap (λ l. shown_in {C = ClientCall} (map Port l)) h.2 ∙ sends_quiet parcels h.1 h.3

ticks_quiet : (now : ℕ) (to : Addr) (xs : List (Call ClientCall)) → ClientTicks now to xs → shown_in xs ≡ []
ticks_quiet now to xs h = ap shown_in h.2 ∙ sends_quiet _ h.1 h.3

-- ---- its effect on a terminal

-- the screen noted under the instance's number is the instance's screen
pub shows_noted : (outer outer' : Option Noted) (bytes : List ℕ) (n : ℕ) (s : Screenshot) → Leads outer bytes outer' → IsBehind outer' n s
    → IsNoted n outer' → Shows outer bytes s
shows_noted outer None bytes n s leads behind is = absurd is
shows_noted outer (Some noted) bytes n s leads behind is = subst (Shows outer bytes) (behind.same is) leads

module _ (painted_leads : PaintedLeadsOver) (opened_begins : OpenedBeginsBlank) where
  text_leads : (outer : Option Noted) (s : Screenshot) → IsScreenshot s → (rows cols lines : ℕ) (log : List Item)
      → DisplaysNoted rows cols lines log outer → Fits rows cols lines log s → Displays rows cols lines (log ++ map Byte (text_for outer s)) s
  text_leads None s is rows cols lines log ready fits =
      let open_text = opened_begins rows cols lines log ready.0 ready.1 in
      let blank = blank_screenshot s.rows s.cols in
      let begun = open_text.displays s.rows s.cols fits.rows_fit fits.cols_fit in
      let led =
      painted_leads rows cols lines (log ++ map Byte blanking_text) blank s is begun
      (omega (arith, fits.rows_fit, open_text.size.rows)) (omega (arith, fits.cols_fit, open_text.size.cols)) in
      subst (λ l. Displays rows cols lines l s)
      (append_assoc log (map Byte blanking_text) (map Byte (text_between blank s))
      ∙ ap (λ l. log ++ l) (sym (map-append Byte blanking_text (text_between blank s))))
      led.displays
  text_leads (Some noted) s is rows cols lines log ready fits =
      (painted_leads rows cols lines log noted.screen s is ready fits.rows_fit fits.cols_fit).displays

  same_leads : (outer : Option Noted) → Leads outer [] outer
  same_leads None = tt
  same_leads (Some noted) =
      λ rows cols lines log ready fits. subst (λ l. Displays rows cols lines l noted.screen) (sym (append-nil log)) ready

  pub same_led : (outer outer' : Option Noted) (written : Option (List ℕ)) → outer' ≡ outer → Led outer written outer' written
  same_led outer None written same = tt
  same_led outer (Some noted) written same =
      ([], Appends-nil written, subst (λ o. Shows o [] noted.screen) same (same_leads (Some noted)))

  pub text_led : (outer : Option Noted) (noted : Noted) (before after : Option (List ℕ)) → IsScreenshot noted.screen
      → Appends before after (text_for outer noted.screen) → Led outer before (Some noted) after
  text_led outer noted before after is appends = (text_for outer noted.screen, appends, text_leads outer noted.screen is)

  pub paints_leads : (n : ℕ) (s : Screenshot) (outer outer' : Option Noted) (xs : List (Call ClientCall)) → IsScreenshot s
      → Paints n s outer outer' xs → Leads outer (shown_in xs) outer'
  paints_leads n s outer outer' xs is (already there none same) =
      subst (Leads outer (shown_in xs)) (sym same) (subst (λ l. Leads outer l outer) (sym (ap shown_in none)) (same_leads outer))
  paints_leads n s outer outer' xs is (no_memory other none same) =
      subst (Leads outer (shown_in xs)) (sym same) (subst (λ l. Leads outer l outer) (sym (ap shown_in none)) (same_leads outer))
  paints_leads n s outer outer' xs is (shown other text now) =
      let all : text_for outer s ≡ shown_in xs = sym (ap shown_in text ∙ append-nil (text_for outer s)) in
      subst (Leads outer (shown_in xs)) (sym now)
      (λ rows cols lines log ready fits. subst (λ l. Displays rows cols lines (log ++ map Byte l) s) all
      (text_leads outer s is rows cols lines log ready fits))
  paints_leads n s outer outer' xs is (failed other text now) = subst (Leads outer (shown_in xs)) (sym now) tt

  pub turn_leads : (n : ℕ) (s : Screenshot) (outer outer' : Option Noted) (to : Addr) (next : Option Act) (taken : Bool)
      (calls : List (Call ClientCall)) → IsScreenshot s → AttachTurn n s outer outer' to next taken calls
      → Leads outer (shown_in calls) outer'
  turn_leads n s outer outer' to next taken calls is t =
      let typing = t.parts in
      let receiving = typing.later in
      let painting = receiving.later in
      let a = types_quiet next taken typing.before typing.first in
      let b = receives_quiet t.now 32 receiving.before receiving.first in
      let d = ticks_quiet t.now to painting.after painting.later in
      let all : shown_in calls ≡ shown_in painting.before =
      ap shown_in t.all ∙ (ap shown_in typing.all ∙ (shown_both typing.before typing.after
      ∙ (ap (λ l. l ++ shown_in typing.after) a ∙ (ap shown_in receiving.all ∙ (shown_both receiving.before receiving.after
      ∙ (ap (λ l. l ++ shown_in receiving.after) b ∙ (ap shown_in painting.all ∙ (shown_both painting.before painting.after
      ∙ (ap (λ l. shown_in painting.before ++ l) d ∙ append-nil (shown_in painting.before)))))))))) in
      subst (λ l. Leads outer l outer') (sym all) (paints_leads n s outer outer' painting.before is painting.first)

-- ---- the text written before and after it

keeps_before : (a b c : Option (List ℕ)) (bs : List ℕ) → Keeps a b → Appends b c bs → Appends a c bs
keeps_before None b c bs h k = tt
keeps_before (Some x) None c bs h k = absurd h
keeps_before (Some x) (Some y) None bs h k = absurd k
keeps_before (Some x) (Some y) (Some z) bs h k = k ∙ ap (λ l. l ++ bs) h

-- text written neither before nor after leaves it
pub led_within : (outer outer' : Option Noted) (a b c d : Option (List ℕ)) → Keeps a b → Led outer b outer' c → Keeps c d
    → Led outer a outer' d
led_within outer None a b c d before led later = tt
led_within outer (Some noted) a b c d before led later =
    (led.0, Appends-kept a c d led.0 (keeps_before a b c led.0 before led.1) later, led.2)
