-- The queued bytes lead a terminal from its old screen to its new one.
use Rattle.std.proofs.Common.{◌≡◌, ◌⊎◌, ℕ, List, [], ◌++◌, map, append-nil, append_assoc, Option, Some, None, refl, sym, ap, ◌∙◌, subst, arith, inl, inr}
use Rattle.std.proofs.lemmas.List.{map-append}
use Rattle.std.specs.Prelude.{IfSome, Vec}
use Rattle.std.specs.declared.alloc.Global.{Global}
use Rattle.roam_overlay.specs.Overlays.{OverlayOf}
use Rattle.roam_paint.specs.Ground.{Displays}
use Rattle.roam_screens.specs.Screenshot.{Screenshot}
use Rattle.roam_scroll_paint.specs.Leads.{Leads as LeadsTo}
use Rattle.roam_term.specs.Ground.{IsSized}
use Rattle.roam_term.specs.Terminal.{term}
use Rattle.roam_text.specs.Log.{Item, Byte}
use Rattle.roam_turns.specs.Painting.{Fits, LeadsSized, ShowsAt, ShowsSized}
use Rattle.roam_turns.specs.declared.outer.Noted.{Noted}
use Rattle.roam_outer_terminal.specs.Overlaid.{Between, IsBack, IsForth, IsOver, IsSize, Lays, TakenBackIsNoted, TakesBack, on_show}
use Rattle.roam_outer_terminal.specs.Overlaid.Lays.{none, laid}
use Rattle.roam_outer_terminal.specs.Overlaid.TakesBack.{nothing, back, lost}
use Rattle.roam_outer_terminal.specs.declared.laying.Taken.{Taken}

-- two screens are equal if all their parts are
pub same_screen : (a b : Screenshot) → IsSize a b → a.cells ≡ b.cells → a.cursor_row ≡ b.cursor_row → a.cursor_col ≡ b.cursor_col
    → a.visible ≡ b.visible → a ≡ b
same_screen a b size cells row col visible =
    λ i. record {
      rows = size.rows i;
      cols = size.cols i;
      cells = cells i;
      cursor_row = row i;
      cursor_col = col i;
      visible = visible i;
    }

pub on_show_none : (outer : Option Noted) → on_show None outer ≡ outer
on_show_none None = refl
on_show_none (Some noted) = refl

-- ---- texts

text_joined : (log : List Item) (first later : List ℕ)
    → (log ++ map Byte first) ++ map Byte later ≡ log ++ map Byte (first ++ later)
text_joined log first later =
    append_assoc log (map Byte first) (map Byte later) ∙ ap (λ l. log ++ l) (sym (map-append Byte first later))

-- one text and then another
shows_joined : (rows cols lines : ℕ) (log : List Item) (first later : List ℕ) (s : Screenshot)
    → IsSized (term rows cols lines log).live (term rows cols lines (log ++ map Byte first)).live
    → ShowsAt rows cols lines (log ++ map Byte first) later s → ShowsAt rows cols lines log (first ++ later) s
shows_joined rows cols lines log first later s size then =
    let both =
    subst (λ l. Displays rows cols lines l s × IsSized (term rows cols lines log).live (term rows cols lines l).live)
    (text_joined log first later)
    (then.displays, record { rows = then.size.rows ∙ size.rows; cols = then.size.cols ∙ size.cols }) in
    record { displays = both.0; size = both.1 }

-- the text of the painter between two screens of one size leads from one to the other
pub painted_between : (one other : Screenshot) (text : List ℕ) → IsSize one other → LeadsTo one other text → Between one other text
painted_between one other text size leads = record {
  size = size;
  leads = λ n rows cols lines log ready fits.
      let led = leads rows cols lines log ready fits.rows_fit fits.cols_fit in
      record { displays = led.displays; size = led.size };
}

pub back_of : (over : Screenshot) (outer : Option Noted) (noted : Noted) (result : Option (Vec ℕ Global)) → outer ≡ Some noted
    → IsSize over noted.screen → IfSome result (λ text. LeadsTo over noted.screen text.items)
    → IfSome result (λ text. IsBack over outer text.items)
back_of over outer noted None is size leads = tt
back_of over outer noted (Some text) is size leads =
    subst (λ o. IsBack over o text.items) (sym is) (painted_between over noted.screen text.items size leads)

pub forth_of : (outer : Option Noted) (noted : Noted) (over : Screenshot) (result : Option (Vec ℕ Global)) → outer ≡ Some noted
    → IsSize over noted.screen → IfSome result (λ text. LeadsTo noted.screen over text.items)
    → IfSome result (λ text. IsForth outer over text.items)
forth_of outer noted over None is size leads = tt
forth_of outer noted over (Some text) is size leads =
    subst (λ o. IsForth o over text.items) (sym is)
    (painted_between noted.screen over text.items (record { rows = sym size.rows; cols = sym size.cols }) leads)

-- ---- what leads any terminal leads this one

from_any : (a : Option Noted) (text : List ℕ) (s : Screenshot) → ShowsSized None text s → ShowsSized a text s
from_any None text s h = h
from_any (Some noted) text s h =
    λ rows cols lines log ready fits. h rows cols lines log (omega (arith, ready.ground.row_in), omega (arith, ready.ground.col_in)) fits

leads_any : (a b : Option Noted) (w : List ℕ) → LeadsSized None w b → LeadsSized a w b
leads_any a None w h = tt
leads_any a (Some noted) w h = from_any a w noted.screen h

pub taken_back : TakenBackIsNoted
taken_back over None text is = tt
taken_back over (Some noted) text is =
    λ rows cols lines log ready fits. (is.leads noted.number rows cols lines log ready fits).displays

-- ---- what takes back a screen comes first

back_first : (o : Screenshot) (noted : Noted) (b text : List ℕ) (s : Screenshot) → Between o noted.screen b
    → ShowsSized (Some noted) text s → ShowsSized (Some (record noted { screen = o })) (b ++ text) s
back_first o noted b text s between h =
    λ rows cols lines log ready fits.
    let here : Fits rows cols lines log noted.screen = record {
      rows_fit = omega (arith, ready.shows.rows, between.size.rows);
      cols_fit = omega (arith, ready.shows.cols, between.size.cols);
    } in
    let first = between.leads noted.number rows cols lines log ready here in
    let there : Fits rows cols lines (log ++ map Byte b) s = record {
      rows_fit = omega (arith, fits.rows_fit, first.size.rows);
      cols_fit = omega (arith, fits.cols_fit, first.size.cols);
    } in
    shows_joined rows cols lines log b text s first.size (h rows cols lines (log ++ map Byte b) first.displays there)

pub leads_back : (o : Screenshot) (outer outer' : Option Noted) (b w : List ℕ) → IsBack o outer b → LeadsSized outer w outer'
    → LeadsSized (on_show (Some o) outer) (b ++ w) outer'
leads_back o outer None b w is h = tt
leads_back o None (Some noted') b w is h = absurd is
leads_back o (Some noted) (Some noted') b w is h = back_first o noted b w noted'.screen is h

-- ---- what lays a screen over another comes last

forth_last : (a : Option Noted) (noted : Noted) (o : Screenshot) (text f : List ℕ) → Between noted.screen o f
    → ShowsSized a text noted.screen → ShowsSized a (text ++ f) o
forth_last a noted o text f between h =
    λ rows cols lines log ready fits.
    let here : Fits rows cols lines log noted.screen = record {
      rows_fit = omega (arith, fits.rows_fit, between.size.rows);
      cols_fit = omega (arith, fits.cols_fit, between.size.cols);
    } in
    let first = h rows cols lines log ready here in
    let there : Fits rows cols lines (log ++ map Byte text) o = record {
      rows_fit = omega (arith, fits.rows_fit, first.size.rows);
      cols_fit = omega (arith, fits.cols_fit, first.size.cols);
    } in
    shows_joined rows cols lines log text f o first.size
    (between.leads noted.number rows cols lines (log ++ map Byte text) first.displays there)

leads_forth : (a outer' : Option Noted) (o : Screenshot) (w f : List ℕ) → IsForth outer' o f → LeadsSized a w outer'
    → LeadsSized a (w ++ f) (on_show (Some o) outer')
leads_forth a None o w f is h = absurd is
leads_forth a (Some noted') o w f is h = forth_last a noted' o w f is h

pub leads_laid : (a outer' : Option Noted) (wanted over : Option Screenshot) (w w' : List ℕ) → Lays outer' wanted over w w'
    → LeadsSized a w outer' → LeadsSized a w' (on_show over outer')
leads_laid a outer' wanted over w w' (none is same) h =
    subst (λ o. LeadsSized a w' (on_show o outer')) (sym is)
    (subst (λ b. LeadsSized a w' b) (sym (on_show_none outer')) (subst (λ l. LeadsSized a l outer') (sym same) h))
leads_laid a outer' wanted over w w' (laid s text asked is same forth) h =
    subst (λ o. LeadsSized a w' (on_show o outer')) (sym is)
    (subst (λ l. LeadsSized a l (on_show (Some s) outer')) (sym same) (leads_forth a outer' s w text forth h))

-- another overlay was shown before: the text that takes it back comes first, and the new overlay comes last
pub leads_again : (o : Screenshot) (outer outer' : Option Noted) (wanted over : Option Screenshot) (b w mid w' : List ℕ)
    → IsBack o outer b → LeadsSized outer w outer' → mid ≡ b ++ w → Lays outer' wanted over mid w'
    → LeadsSized (on_show (Some o) outer) w' (on_show over outer')
leads_again o outer outer' wanted over b w mid w' is h joined lays =
    leads_laid (on_show (Some o) outer) outer' wanted over mid w' lays
    (subst (λ l. LeadsSized (on_show (Some o) outer) l outer') (sym joined) (leads_back o outer outer' b w is h))

-- no overlay was shown, or it was lost
pub leads_from : (over : Option Screenshot) (outer mid b : Option Noted) (taken : Option Taken) (w : List ℕ)
    → TakesBack over outer mid taken → taken ≡ None → LeadsSized mid w b → LeadsSized (on_show over outer) w b
leads_from over outer mid b taken w (nothing is same t) e h =
    subst (λ o. LeadsSized (on_show o outer) w b) (sym is)
    (subst (λ x. LeadsSized x w b) (same ∙ sym (on_show_none outer)) h)
leads_from over outer mid b taken w (back t is same some text) e h = absurd cc
leads_from over outer mid b taken w (lost is t) e h = leads_any (on_show over outer) b w (subst (λ x. LeadsSized x w b) is h)

-- an overlay was shown, and is taken back
pub leads_taken : (over : Option Screenshot) (outer mid b b' : Option Noted) (t : Taken) (w w' : List ℕ)
    → TakesBack over outer mid (Some t) → LeadsSized mid w b
    → ((o : Screenshot) (x : Option Noted) → t.over ≡ o → IsBack o x t.text.items → LeadsSized x w b
    → LeadsSized (on_show (Some o) x) w' b')
    → LeadsSized (on_show over outer) w' b'
leads_taken over outer mid b b' t w w' (nothing is same e) h f = absurd cc
leads_taken over outer mid b b' t w w' (lost is e) h f = absurd cc
leads_taken over outer mid b b' t w w' (back t' is same some text) h f =
    let e : t ≡ t' = cc in
    subst (λ o. LeadsSized (on_show o outer) w' b') (sym is)
    (f t'.over outer (ap (λ x. x.over) e) (subst (λ (x : Taken). IsBack t'.over outer x.text.items) (sym e) text)
    (subst (λ x. LeadsSized x w b) same h))

-- nothing is written
still : (s : Screenshot) (n : ℕ) → ShowsSized (Some (record { number = n; screen = s })) [] s
still s n = λ rows cols lines log ready fits.
    let both =
    subst (λ l. Displays rows cols lines l s × IsSized (term rows cols lines log).live (term rows cols lines l).live) (sym (append-nil log))
    (ready, record { rows = refl; cols = refl }) in
    record { displays = both.0; size = both.1 }

pub leads_same : (outer : Option Noted) (w : List ℕ) → w ≡ [] → LeadsSized outer w outer
leads_same None w empty = tt
leads_same (Some noted) w empty = subst (λ l. ShowsSized (Some noted) l noted.screen) (sym empty) (still noted.screen noted.number)

-- the overlay stays
pub leads_still : (o : Screenshot) (outer outer' : Option Noted) (b w : List ℕ) → IsBack o outer b → w ≡ []
    → LeadsSized (on_show (Some o) outer) w (on_show (Some o) outer')
leads_still o outer None b w is empty = tt
leads_still o None (Some noted') b w is empty = absurd is
leads_still o (Some noted) (Some noted') b w is empty =
    subst (λ l. ShowsSized (Some (record noted { screen = o })) l o) (sym empty) (still o noted.number)

-- ---- the overlay is the predicted screen

pub over_laid : (now : ℕ) (g : Option OverlayOf) (outer : Option Noted) (wanted over : Option Screenshot) (w w' : List ℕ)
    → Lays outer wanted over w w' → IsOver now g outer wanted → IsOver now g outer over
over_laid now g outer wanted over w w' (none is same) h = subst (IsOver now g outer) (sym is) (over_none g outer)
  where
    over_none : (g : Option OverlayOf) (outer : Option Noted) → IsOver now g outer None
    over_none None outer = tt
    over_none (Some g) outer = tt
over_laid now g outer wanted over w w' (laid s text asked is same forth) h = subst (IsOver now g outer) (asked ∙ sym is) h

-- no overlay is shown if none is wanted
pub none_laid : (outer : Option Noted) (wanted over : Option Screenshot) (w w' : List ℕ)
    → Lays outer wanted over w w' → wanted ≡ None → over ≡ None
none_laid outer wanted over w w' (none is same) e = is
none_laid outer wanted over w w' (laid s text asked is same forth) e = absurd cc

-- the noted screen stays if the overlay is taken back; otherwise none is noted
pub noted_kept : (over : Option Screenshot) (outer outer' : Option Noted) (taken : Option Taken) → TakesBack over outer outer' taken
    → (outer' ≡ outer) ⊎ (outer' ≡ None)
noted_kept over outer outer' taken (nothing is same e) = inl same
noted_kept over outer outer' taken (back t is same some text) = inl same
noted_kept over outer outer' taken (lost is e) = inr is

pub noted_from : (old mid new shown : Option Noted) → ((mid ≡ old) ⊎ (mid ≡ None)) → ((new ≡ shown) ⊎ ((new ≡ mid) ⊎ (new ≡ None)))
    → (new ≡ shown) ⊎ ((new ≡ old) ⊎ (new ≡ None))
noted_from old mid new shown h (inl is) = inl is
noted_from old mid new shown (inl same) (inr (inl is)) = inr (inl (is ∙ same))
noted_from old mid new shown (inr gone) (inr (inl is)) = inr (inr (is ∙ gone))
noted_from old mid new shown h (inr (inr is)) = inr (inr is)
