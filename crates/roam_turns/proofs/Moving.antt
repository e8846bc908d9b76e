-- A text in which rows may be moved shows a screen, as one does that writes each place.
use Rattle.std.proofs.Common.{◌≡◌, ℕ, List, ◌++◌, map, append_assoc, Option, None, Some, sym, ap, ◌∙◌, subst, arith}
use Rattle.std.proofs.lemmas.List.{map-append}
use Rattle.std.specs.Prelude.{IfOk, Result, Ok, Err, Vec}
use Rattle.std.specs.declared.alloc.Global.{Global}
use Rattle.roam_cells.specs.declared.faults.Fault.{Fault}
use Rattle.roam_screens.specs.Screenshot.{IsScreenshot, Screenshot, blank_screenshot}
use Rattle.roam_text.specs.Log.{Byte}
use Rattle.roam_term.specs.Ground.{IsSized}
use Rattle.roam_term.specs.Terminal.{term}
use Rattle.roam_paint.specs.Ground.{Displays, OpenedBeginsBlank}
use Rattle.roam_paint.specs.Painting.{blanking_text, text_between}
use Rattle.roam_scroll_paint.specs.Leads.{Leads as LeadsTo, PaintLeads}
use Rattle.roam_turns.specs.declared.outer.Noted.{Noted}
use Rattle.roam_turns.specs.Painting.{LeadsSized, ShowsSized, text_for}

-- over a screen that is noted
pub moving_shows : (noted : Noted) (s : Screenshot) (text : List ℕ) → LeadsTo noted.screen s text → ShowsSized (Some noted) text s
moving_shows noted s text leads rows cols lines log ready fits =
    let led = leads rows cols lines log ready fits.rows_fit fits.cols_fit in
    record { displays = led.displays; size = led.size }

-- if nothing is noted the terminal is opened first
pub opened_shows : OpenedBeginsBlank → (s : Screenshot) (text : List ℕ) → LeadsTo (blank_screenshot s.rows s.cols) s text
    → ShowsSized None (blanking_text ++ text) s
opened_shows opened_begins s text leads rows cols lines log ready fits =
    let open_text = opened_begins rows cols lines log ready.0 ready.1 in
    let begun = open_text.displays s.rows s.cols fits.rows_fit fits.cols_fit in
    let led =
    leads rows cols lines (log ++ map Byte blanking_text) begun (omega (arith, fits.rows_fit, open_text.size.rows))
    (omega (arith, fits.cols_fit, open_text.size.cols)) in
    let both =
    subst (λ l. Displays rows cols lines l s × IsSized (term rows cols lines log).live (term rows cols lines l).live)
    (append_assoc log (map Byte blanking_text) (map Byte text) ∙ ap (λ l. log ++ l) (sym (map-append Byte blanking_text text)))
    (led.displays, record { rows = led.size.rows ∙ open_text.size.rows; cols = led.size.cols ∙ open_text.size.cols }) in
    record { displays = both.0; size = both.1 }

pub text_shows : OpenedBeginsBlank → PaintLeads → (outer : Option Noted) (s : Screenshot) (result : Result (Vec ℕ Global) Fault)
    → IsScreenshot s → outer ≡ None → IfOk result (λ text. text.items ≡ text_for outer s)
    → IfOk result (λ text. ShowsSized outer text.items s)
text_shows opened_begins paint_leads outer s (Err fault) is none text = tt
text_shows opened_begins paint_leads outer s (Ok made) is none text =
    let blank = blank_screenshot s.rows s.cols in
    let shows = opened_shows opened_begins s (text_between blank s) (paint_leads blank s is) in
    subst (λ l. ShowsSized outer l s) (sym text)
    (subst (λ o. ShowsSized o (text_for o s) s) (sym none) shows)

-- it leads to the screen that is noted then
pub shown_leads : (outer outer' : Option Noted) (n : ℕ) (s : Screenshot) (text : List ℕ) → ShowsSized outer text s
    → outer' ≡ Some (record { number = n; screen = s }) → LeadsSized outer text outer'
shown_leads outer outer' n s text shows now = subst (LeadsSized outer text) (sym now) shows
