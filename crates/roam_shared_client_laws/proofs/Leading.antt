-- The bytes of a terminal lead to its noted screen, step by step.
use Rattle.std.proofs.Common.{◌≡◌, ◌⊎◌, ℕ, Bool, true, false, List, [], ◌∷◌, ◌++◌, map, take, append-nil, append_assoc, Option, Some, None, refl, sym, ap, ◌∙◌, subst, inl, inr, arith}
use Rattle.std.proofs.KnownBytes.{Appends-kept, Appends-nil, Appends-trans}
use Rattle.std.proofs.lemmas.List.{map-append, take-append-drop}
use Rattle.std.specs.Prelude.{not, ◌&&◌, ◌==◌, IfSome, is_some, if◌then◌else◌}
use Rattle.std.specs.Io.KnownBytes.{Appends, Keeps}
use Rattle.roam_prediction.specs.Predictions.{PredictionsOf, are_shown}
use Rattle.roam_prediction.specs.Overlay.{predicted, overlay}
use Rattle.roam_prediction.specs.Underlined.{underlined}
use Rattle.roam_hub.specs.Clients.{ClientView}
use Rattle.roam_cells.specs.declared.addresses.Addr.{Addr}
use Rattle.roam_overlay.specs.Delays.{is_long}
use Rattle.roam_overlay.specs.Overlays.{OverlayOf, laid_over}
use Rattle.roam_paint.specs.Ground.{Displays}
use Rattle.roam_screens.specs.Screenshot.{Screenshot}
use Rattle.roam_term.specs.Ground.{IsSized}
use Rattle.roam_term.specs.Terminal.{term}
use Rattle.roam_text.specs.Log.{Item, Byte}
use Rattle.roam_turns.specs.Calls.{PortCall}
use Rattle.roam_turns.specs.Painting.{Fits, LeadsSized, ShowsAt}
use Rattle.roam_turns.specs.declared.outer.Noted.{Noted}
use Rattle.roam_display_records.specs.Records.{text_of}
use Rattle.roam_display_records.specs.Taken.{nothing_taken, took}
use Rattle.roam_display_records.specs.declared.records.Record.TheVariants as records
use Rattle.roam_display_state.specs.Saying.{texts_of}
use Rattle.roam_display_state.specs.DisplayState.{DisplayStateView, nothing_told}
use Rattle.roam_terminal_input.specs.declared.entries.Entry.{Entry}
use Rattle.roam_terminal_input.specs.declared.entries.Entry.TheVariants.{Acts, Paste, Events, Repaint, Watch, Prediction, Look, LookStyled, Show, End}
use Rattle.roam_outer_terminal.specs.Hearing.{HearsOne, IsRead, IsRefusal, IsRefused, Makes, TakesLine, may_take, over_after, display_state_after, waiting_after}
use Rattle.roam_outer_terminal.specs.Hearing.IsRead.{read, refused as was_refused}
use Rattle.roam_outer_terminal.specs.Hearing.TakesLine.{taken, waits, no_memory, looks, untold, refused, nothing, unheard}
use Rattle.roam_outer_terminal.specs.Overlaid.{IsOver, on_show}
use Rattle.roam_outer_terminal.specs.Painted.{MayPaint, Paints, is_here, is_open, is_ready, shown_of}
use Rattle.roam_outer_terminal.specs.Painted.MayPaint.{painted, told as was_told, not_ready}
use Rattle.roam_shared_client.specs.Running.{Asks, Came, Comes, IsFresh, IsStep, RunStep, RunsBy, Took}
use Rattle.roam_shared_client.specs.Sharing.{AreEach, HearsAll, Shared, turned_round, who_stay}
use Rattle.roam_outer_terminal.specs.Writing.{Flushes, SaysSilence, Settles, TellsSilence, is_empty}
use Rattle.roam_outer_terminal.specs.Staying.{is_gone}
use Rattle.roam_outer_terminal.specs.Silence.{notice_of}
use Rattle.roam_outer_terminal.specs.Writing.SaysSilence.{heard as is_heard_again, silent as is_silent, quiet as is_as_it_was}
use Rattle.roam_outer_terminal.specs.Writing.TellsSilence.{over as is_told_over, told as is_told_more, quiet as is_quiet, says as in_records}
use Rattle.roam_outer_terminal.specs.declared.silence.Silence.{Silence}
use Rattle.roam_outer_terminal.specs.declared.terminal.Terminal.{Terminal}
use Rattle.roam_outer_terminal.proofs.Heard.{taken_outer}
use Rattle.roam_outer_terminal.proofs.Written.{empty_is}
use Rattle.roam_shared_client_laws.specs.Lines.{came_in}
use Rattle.roam_shared_client_laws.specs.Paintings.{AreLed, FitsAll, HasOverlay, IsFollowed, IsLaidIn, IsLed, IsNotedOf, IsToldAs, IsOneOf, LeadsAny, PaintingsLead, WasLaid, screens_in}
use Rattle.roam_shared_client_laws.proofs.Lists.{noted_of_more, one_of_last, one_of_more}
use Rattle.roam_shared_client_laws.proofs.Records.{is_events_entry, refusal_quiet, told_after, told_all, told_begins, told_flushed, told_more, told_on, untold_after}

-- ---- lists

fits_fewer : (rows cols lines : ℕ) (log : List Item) (screens more : List Screenshot) → FitsAll rows cols lines log (screens ++ more)
    → FitsAll rows cols lines log screens
fits_fewer rows cols lines log [] more h = tt
fits_fewer rows cols lines log (s ∷ screens) more h = (h.0, fits_fewer rows cols lines log screens more h.1)

fits_one : (rows cols lines : ℕ) (log : List Item) (screens : List Screenshot) (s : Screenshot) → FitsAll rows cols lines log screens
    → IsOneOf s screens → Fits rows cols lines log s
fits_one rows cols lines log [] s h k = absurd k
fits_one rows cols lines log (x ∷ screens) s h (inl is) = subst (Fits rows cols lines log) is h.0
fits_one rows cols lines log (x ∷ screens) s h (inr k) = fits_one rows cols lines log screens s h.1 k

leads_any_more : (screens more : List Screenshot) (text : List ℕ) (noted : Option Noted) → LeadsAny screens text noted
    → LeadsAny (screens ++ more) text noted
leads_any_more screens more text None h = tt
leads_any_more screens more text (Some noted) h =
    λ rows cols lines log ready fits. h rows cols lines log ready (fits_fewer rows cols lines log screens more fits)

-- ---- a terminal

module _ {S : Type 0} (remaining contents : S → Option (List ℕ)) (to : Addr) where
  pub came_on : (came : List S) (step : RunStep S) (steps : List (RunStep S))
      → (came ++ came_in (step ∷ [])) ++ came_in steps ≡ came ++ came_in (step ∷ steps)
  came_on came (Asks call) steps = ap (λ c. c ++ came_in steps) (append-nil came)
  came_on came (Came stream) steps = append_assoc came (stream ∷ []) (came_in steps)
  came_on came (Took silence wait) steps = ap (λ c. c ++ came_in steps) (append-nil came)

module _ {S : Type 0} (laid : OverlayOf → ℕ → Type 0) (remaining contents : S → Option (List ℕ)) where
  led_more : (came more : List S) (screens extra : List Screenshot) (t : Terminal S) → IsLed contents came screens t
      → IsLed contents (came ++ more) (screens ++ extra) t
  led_more came more screens extra t h = record {
    stream = h.stream;
    is = one_of_more h.stream came more h.is;
    noted = noted_of_more screens extra t.outer h.noted;
    written = h.written;
    appended = h.appended;
    before = h.before;
    since = h.since;
    parts = h.parts;
    leads = leads_any_more screens extra h.since (on_show t.over t.outer) h.leads;
  }

  -- more bytes are queued, and the noted screen and the overlay stay with no more bytes, or none is noted
  data Stays (old new : Terminal S) : Type 0 where
    same : new.waiting ≡ old.waiting → new.outer ≡ old.outer → new.over ≡ old.over → Stays old new
    lost : (text : List ℕ) → new.waiting ≡ old.waiting ++ text → new.outer ≡ None → Stays old new

  stays_led : (came : List S) (screens : List Screenshot) (old new : Terminal S) → Keeps (contents old.stream) (contents new.stream)
      → Stays old new → IsLed contents came screens old → IsLed contents came screens new
  stays_led came screens old new keeps (same waiting outer over) h = record {
    stream = h.stream;
    is = h.is;
    noted = subst (IsNotedOf screens) (sym outer) h.noted;
    written = h.written;
    appended = Appends-kept (contents h.stream) (contents old.stream) (contents new.stream) h.written h.appended keeps;
    before = h.before;
    since = h.since;
    parts = ap (λ w. h.written ++ w) waiting ∙ h.parts;
    leads = subst (λ o. LeadsAny screens h.since (on_show o new.outer)) (sym over)
        (subst (λ o. LeadsAny screens h.since (on_show old.over o)) (sym outer) h.leads);
  }
  stays_led came screens old new keeps (lost text waiting none) h = record {
    stream = h.stream;
    is = h.is;
    noted = subst (IsNotedOf screens) (sym none) tt;
    written = h.written;
    appended = Appends-kept (contents h.stream) (contents old.stream) (contents new.stream) h.written h.appended keeps;
    before = h.written ++ new.waiting;
    since = [];
    parts = sym (append-nil (h.written ++ new.waiting));
    leads = subst (λ o. LeadsAny screens [] (on_show new.over o)) (sym none) tt;
  }

  keeps_same : (a b : S) → b ≡ a → Keeps (contents a) (contents b)
  keeps_same a b is = subst (λ s. Keeps (contents a) (contents s)) (sym is) (itself (contents a))
    where
      itself : (known : Option (List ℕ)) → Keeps known known
      itself None = tt
      itself (Some xs) = refl

  -- ---- it is heard

  read_stays : (old mid : Terminal S) → IsRead old mid → Stays old mid
  read_stays old mid (read is) = same (ap (λ t. t.waiting) is) (ap (λ t. t.outer) is) (ap (λ t. t.over) is)
  read_stays old mid (was_refused text words long is) = lost text (ap (λ t. t.waiting) is) (ap (λ t. t.outer) is)

  -- records don't begin with this line
  no_records : (e : Entry) → is_events_entry e ≡ false → (waiting : List ℕ) (over : Option Screenshot)
      → (waiting_after e waiting ≡ waiting) × (over_after e over ≡ over)
  no_records (Acts acts) none waiting over = (refl, refl)
  no_records (Paste acts) none waiting over = (refl, refl)
  no_records Events none waiting over = absurd cc
  no_records Repaint none waiting over = (refl, refl)
  no_records Watch none waiting over = (refl, refl)
  no_records (Prediction predicting) none waiting over = (refl, refl)
  no_records Look none waiting over = (refl, refl)
  no_records LookStyled none waiting over = (refl, refl)
  no_records (Show showing) none waiting over = (refl, refl)
  no_records End none waiting over = (refl, refl)

  made_stays : (e : Entry) (client : ClientView) (old new : Terminal S) → is_events_entry e ≡ false → Makes e client old new
      → (new.outer ≡ old.outer) ⊎ (new.outer ≡ None) → Stays old new
  made_stays e client old new none to (inl stays) =
      let kept = no_records e none old.waiting old.over in
      same (ap (λ t. t.waiting) to ∙ kept.0) stays (ap (λ t. t.over) to ∙ kept.1)
  made_stays e client old new none to (inr gone) =
      let kept = no_records e none old.waiting old.over in
      lost [] (ap (λ t. t.waiting) to ∙ (kept.0 ∙ sym (append-nil old.waiting))) gone

  pub taken_stream : (entry : Option Entry) (old new : Terminal S) (client client' : ClientView) → TakesLine entry old new client client'
      → new.stream ≡ old.stream
  taken_stream entry old new client client' (taken e line is heard first says may types predictions to) = ap (λ t. t.stream) to
  taken_stream entry old new client client' (waits e is heard asks watches holds c to) = ap (λ t. t.stream) to
  taken_stream entry old new client client' (no_memory e is heard asks watches some c to) = ap (λ t. t.stream) to
  taken_stream entry old new client client' (looks e is heard asks is_look again c to) = ap (λ t. t.stream) to
  taken_stream entry old new client client' (untold is heard asks c to) = ap (λ t. t.stream) to
  taken_stream entry old new client client' (refused is heard why to c) = ap (λ t. t.stream) to.2
  taken_stream entry old new client client' (nothing is heard none c to) = ap (λ t. t.stream) to
  taken_stream entry old new client client' (unheard is not_heard c to) = ap (λ t. t.stream) to

  read_followed : (came : List S) (screens : List Screenshot) (old mid : Terminal S) → Keeps (contents old.stream) (contents mid.stream)
      → IsRead old mid → IsFollowed laid contents came screens old old.display_state → IsFollowed laid contents came screens mid mid.display_state
  read_followed came screens old mid keeps (read is) h =
      subst (IsFollowed laid contents came screens mid) (sym (ap (λ t. t.display_state) is)) (by old.display_state refl h)
    where
      by : (o : Option DisplayStateView) → old.display_state ≡ o → IsFollowed laid contents came screens old o → IsFollowed laid contents came screens mid o
      by None told led = stays_led came screens old mid keeps (read_stays old mid (read is)) led
      by (Some t) told led =
          told_on laid remaining contents came screens old mid t t [] keeps tt (ap (λ t. t.waiting) is ∙ sym (append-nil old.waiting))
          (inl (ap (λ t. t.outer) is)) refl (inl (refl, refl)) led
  read_followed came screens old mid keeps (was_refused text words long is) h =
      subst (IsFollowed laid contents came screens mid) (sym (ap (λ t. t.display_state) is)) (by old.display_state refl h)
    where
      by : (o : Option DisplayStateView) → old.display_state ≡ o → IsFollowed laid contents came screens old o → IsFollowed laid contents came screens mid o
      by None told led = stays_led came screens old mid keeps (read_stays old mid (was_refused text words long is)) led
      by (Some t) told led =
          let more = refusal_quiet text (subst (λ o. IsRefusal (is_some o) text) told words) in
          told_on laid remaining contents came screens old mid t t more.0 keeps more.1
          (ap (λ t. t.waiting) is ∙ ap (λ l. old.waiting ++ l) more.2) (inr (ap (λ t. t.outer) is)) refl (inl (refl, refl)) led

  -- nothing of it changed except its records
  same_followed : (came : List S) (screens : List Screenshot) (old new : Terminal S) → new ≡ old
      → IsFollowed laid contents came screens old old.display_state → IsFollowed laid contents came screens new new.display_state
  same_followed came screens old new is h = subst (λ t. IsFollowed laid contents came screens t t.display_state) (sym is) h

  refused_followed : (came : List S) (screens : List Screenshot) (old new : Terminal S) → IsRefused old new
      → IsFollowed laid contents came screens old old.display_state → IsFollowed laid contents came screens new new.display_state
  refused_followed came screens old new to h =
      subst (IsFollowed laid contents came screens new) (sym (ap (λ t. t.display_state) to.2)) (by old.display_state refl h)
    where
      keeps : Keeps (contents old.stream) (contents new.stream)
      keeps = keeps_same old.stream new.stream (ap (λ t. t.stream) to.2)

      by : (o : Option DisplayStateView) → old.display_state ≡ o → IsFollowed laid contents came screens old o → IsFollowed laid contents came screens new o
      by None told led =
          stays_led came screens old new keeps (lost to.0 (ap (λ t. t.waiting) to.2) (ap (λ t. t.outer) to.2)) led
      by (Some t) told led =
          let more = refusal_quiet to.0 (subst (λ o. IsRefusal (is_some o) to.0) told to.1) in
          told_on laid remaining contents came screens old new t t more.0 keeps more.1
          (ap (λ t. t.waiting) to.2 ∙ ap (λ l. old.waiting ++ l) more.2) (inr (ap (λ t. t.outer) to.2)) refl (inl (refl, refl)) led

  -- at the beginning of records none was sent
  begin_bare : (count : ℕ) (o : Option DisplayStateView) → may_take Events count o ≡ true → o ≡ None
  begin_bare count None may = refl
  begin_bare count (Some t) may = by (count == 0) may
    where
      by : (b : Bool) → (b && false) ≡ true → Some t ≡ None
      by true e = absurd cc
      by false e = absurd cc

  made_followed : (came : List S) (screens : List Screenshot) (e : Entry) (client : ClientView) (old new : Terminal S)
      → may_take e old.lines.count old.display_state ≡ true → Makes e client old new → (new.outer ≡ old.outer) ⊎ (new.outer ≡ None)
      → IsFollowed laid contents came screens old old.display_state → IsFollowed laid contents came screens new new.display_state
  made_followed came screens e client old new may to outer h = by (is_events_entry e) refl
    where
      keeps : Keeps (contents old.stream) (contents new.stream)
      keeps = keeps_same old.stream new.stream (ap (λ t. t.stream) to)

      further : (o : Option DisplayStateView) → is_events_entry e ≡ false → old.display_state ≡ o → IsFollowed laid contents came screens old o
          → IsFollowed laid contents came screens new (display_state_after old.watches e client o)
      further None none told led =
          subst (IsFollowed laid contents came screens new) (sym (untold_after e old.watches client none))
          (stays_led came screens old new keeps (made_stays e client old new none to outer) led)
      further (Some t) none told led =
          let on = told_after e old.watches client t none in
          subst (IsFollowed laid contents came screens new) (sym on.1)
          (told_on laid remaining contents came screens old new t on.0 [] keeps tt
          (ap (λ t. t.waiting) to ∙ ((no_records e none old.waiting old.over).0 ∙ sym (append-nil old.waiting))) outer on.2 on.3 led)

      begun : (x : Entry) → e ≡ x → is_events_entry x ≡ true → IsFollowed laid contents came screens new new.display_state
      begun (Acts acts) is told = absurd cc
      begun (Paste acts) is told = absurd cc
      begun Events is told =
          let bare : old.display_state ≡ None =
          begin_bare old.lines.count old.display_state (subst (λ x. may_take x old.lines.count old.display_state ≡ true) is may) in
          let now : new ≡ record old {
            lines = new.lines;
            predicting = new.predicting;
            outer = None;
            over = None;
            waiting = old.waiting ++ text_of records.Events;
            display_state = display_state_after old.watches Events client old.display_state;
          } = subst (λ x. Makes x client old new) is to in
          subst (IsFollowed laid contents came screens new) (sym (ap (λ t. t.display_state) now))
          (told_begins laid remaining contents came screens old new (record nothing_told { taken = took None nothing_taken }) keeps
          (ap (λ t. t.outer) now) refl refl (subst (IsFollowed laid contents came screens old) bare h))
      begun Repaint is told = absurd cc
      begun Watch is told = absurd cc
      begun (Prediction predicting) is told = absurd cc
      begun Look is told = absurd cc
      begun LookStyled is told = absurd cc
      begun (Show showing) is told = absurd cc
      begun End is told = absurd cc

      by : (b : Bool) → is_events_entry e ≡ b → IsFollowed laid contents came screens new new.display_state
      by true told = begun e refl told
      by false none =
          subst (IsFollowed laid contents came screens new) (sym (ap (λ t. t.display_state) to)) (further old.display_state none refl h)

  taken_followed : (came : List S) (screens : List Screenshot) (entry : Option Entry) (old new : Terminal S) (client client' : ClientView)
      → TakesLine entry old new client client' → IsFollowed laid contents came screens old old.display_state
      → IsFollowed laid contents came screens new new.display_state
  taken_followed came screens entry old new client client' (taken e line is heard first says may types predictions to) h =
      made_followed came screens e client' old new may to
      (taken_outer entry old new client client' (taken e line is heard first says may types predictions to)) h
  taken_followed came screens entry old new client client' (waits e is heard asks watches holds c to) h =
      same_followed came screens old new to h
  taken_followed came screens entry old new client client' (no_memory e is heard asks watches some c to) h =
      same_followed came screens old new to h
  taken_followed came screens entry old new client client' (looks e is heard asks is_look again c to) h =
      same_followed came screens old new to h
  taken_followed came screens entry old new client client' (untold is heard asks c to) h = same_followed came screens old new to h
  taken_followed came screens entry old new client client' (refused is heard why to c) h = refused_followed came screens old new to h
  taken_followed came screens entry old new client client' (nothing is heard none c to) h = same_followed came screens old new to h
  taken_followed came screens entry old new client client' (unheard is not_heard c to) h = same_followed came screens old new to h

  heard_followed : (came : List S) (screens : List Screenshot) (entry : Option Entry) (old new : Terminal S) (client client' : ClientView)
      → HearsOne remaining contents entry old new client client' → IsFollowed laid contents came screens old old.display_state
      → IsFollowed laid contents came screens new new.display_state
  heard_followed came screens entry old new client client' h led =
      taken_followed came screens entry h.read new client client' h.takes (read_followed came screens old h.read h.apart h.is_read led)

  -- ---- it is painted

  size_if : (b : Bool) (one other : Screenshot) (rows cols : ℕ) → (one.rows ≡ rows) × (one.cols ≡ cols)
      → (other.rows ≡ rows) × (other.cols ≡ cols)
      → ((if b then one else other).rows ≡ rows) × ((if b then one else other).cols ≡ cols)
  size_if true one other rows cols h k = h
  size_if false one other rows cols h k = k

  size_overlay : (g : PredictionsOf) (s : Screenshot) → ((overlay g s).rows ≡ s.rows) × ((overlay g s).cols ≡ s.cols)
  size_overlay g s = size_if (are_shown g) (predicted s g.list) s s.rows s.cols (refl, refl) (refl, refl)

  size_laid : (o : OverlayOf) (s : Screenshot) (now : ℕ) → ((laid_over o s now).rows ≡ s.rows) × ((laid_over o s now).cols ≡ s.cols)
  size_laid o s now =
      size_if (is_long o.delays.last o.predictions.list now) (overlay (underlined o.predictions) s) (overlay o.predictions s) s.rows s.cols
      (size_overlay (underlined o.predictions) s) (size_overlay o.predictions s)

  -- the shown screen has the size of the noted one
  fits_show : (rows cols lines : ℕ) (log : List Item) (now : ℕ) (predicting : Option OverlayOf) (noted : Noted) (over : Option Screenshot)
      (shown : Noted) → IsOver now predicting (Some noted) over → on_show over (Some noted) ≡ Some shown
      → Fits rows cols lines log noted.screen → Fits rows cols lines log shown.screen
  fits_show rows cols lines log now predicting noted None shown is e fits =
      let same_noted : noted ≡ shown = cc in
      subst (λ (n : Noted). Fits rows cols lines log n.screen) same_noted fits
  fits_show rows cols lines log now None noted (Some over) shown is e fits = absurd is
  fits_show rows cols lines log now (Some g) noted (Some over) shown is e fits =
      let same_noted : record noted { screen = over } ≡ shown = cc in
      let size = size_laid g noted.screen now in
      let rows_are : over.rows ≡ noted.screen.rows = ap (λ s. s.rows) is.1 ∙ size.0 in
      let cols_are : over.cols ≡ noted.screen.cols = ap (λ s. s.cols) is.1 ∙ size.1 in
      let there : Fits rows cols lines log over = record {
        rows_fit = omega (arith, fits.rows_fit, rows_are);
        cols_fit = omega (arith, fits.cols_fit, cols_are);
      } in
      subst (λ (n : Noted). Fits rows cols lines log n.screen) same_noted there

  text_joined : (log : List Item) (first later : List ℕ) → (log ++ map Byte first) ++ map Byte later ≡ log ++ map Byte (first ++ later)
  text_joined log first later =
      append_assoc log (map Byte first) (map Byte later) ∙ ap (λ l. log ++ l) (sym (map-append Byte first later))

  -- one text and then another
  shows_joined : (rows cols lines : ℕ) (log : List Item) (first later : List ℕ) (s : Screenshot)
      → IsSized (term rows cols lines log).live (term rows cols lines (log ++ map Byte first)).live
      → ShowsAt rows cols lines (log ++ map Byte first) later s → ShowsAt rows cols lines log (first ++ later) s
  shows_joined rows cols lines log first later s size led =
      let both =
      subst (λ l. Displays rows cols lines l s × IsSized (term rows cols lines log).live (term rows cols lines l).live)
      (text_joined log first later)
      (led.displays, record { rows = led.size.rows ∙ size.rows; cols = led.size.cols ∙ size.cols }) in
      record { displays = both.0; size = both.1 }

  fits_later : (rows cols lines : ℕ) (log : List Item) (text : List ℕ) (s : Screenshot)
      → IsSized (term rows cols lines log).live (term rows cols lines (log ++ map Byte text)).live
      → Fits rows cols lines log s → Fits rows cols lines (log ++ map Byte text) s
  fits_later rows cols lines log text s size fits = record {
    rows_fit = omega (arith, fits.rows_fit, size.rows);
    cols_fit = omega (arith, fits.cols_fit, size.cols);
  }

  -- a text that leads on from a shown screen leads any terminal behind the text that led it there; and on its own if no screen was known
  pub leads_on : (screens : List Screenshot) (since text : List ℕ) (old new : Option Noted) → LeadsAny screens since old
      → LeadsSized old text new
      → ((n : Noted) → new ≡ Some n → (rows cols lines : ℕ) (log : List Item) → FitsAll rows cols lines log screens
      → Fits rows cols lines log n.screen)
      → (more : List ℕ) × (((old ≡ None) × (more ≡ text)) ⊎ (more ≡ since ++ text)) × LeadsAny screens more new
  leads_on screens since text None None led leads size = (text, inl (refl, refl), tt)
  leads_on screens since text None (Some new) led leads size = (
    text,
    inl (refl, refl),
    λ rows cols lines log ready fits. leads rows cols lines log ready (size new refl rows cols lines log fits),
  )
  leads_on screens since text (Some old) None led leads size = (since ++ text, inr refl, tt)
  leads_on screens since text (Some old) (Some new) led leads size = (
    since ++ text,
    inr refl,
    λ rows cols lines log ready fits.
        let first = led rows cols lines log ready fits in
        let there = fits_later rows cols lines log since new.screen first.size (size new refl rows cols lines log fits) in
        shows_joined rows cols lines log since text new.screen first.size
        (leads rows cols lines (log ++ map Byte since) first.displays there),
  )

  size_shown : (screens : List Screenshot) (now : ℕ) (predicting : Option OverlayOf) (outer : Option Noted) (over : Option Screenshot)
      → IsNotedOf screens outer → IsOver now predicting outer over → (n : Noted) → on_show over outer ≡ Some n
      → (rows cols lines : ℕ) (log : List Item) → FitsAll rows cols lines log screens → Fits rows cols lines log n.screen
  size_shown screens now predicting None None noted is n e rows cols lines log fits = absurd cc
  size_shown screens now predicting None (Some over) noted is n e rows cols lines log fits = absurd cc
  size_shown screens now predicting (Some outer) over noted is n e rows cols lines log fits =
      fits_show rows cols lines log now predicting outer over n is e (fits_one rows cols lines log screens outer.screen fits noted)

  -- the new noted screen was shown
  noted_painted : (screens : List Screenshot) (shown : Noted) (old noted new : Option Noted) → IsNotedOf screens old
      → ((noted ≡ Some shown) ⊎ ((noted ≡ old) ⊎ (noted ≡ None))) → ((new ≡ noted) ⊎ (new ≡ None))
      → IsNotedOf (screens ++ shown.screen ∷ []) new
  noted_painted screens shown old noted new h from (inr none) = subst (IsNotedOf (screens ++ shown.screen ∷ [])) (sym none) tt
  noted_painted screens shown old noted new h (inl is) (inl same_is) =
      subst (IsNotedOf (screens ++ shown.screen ∷ [])) (sym (same_is ∙ is)) (one_of_last shown.screen screens)
  noted_painted screens shown old noted new h (inr (inl is)) (inl same_is) =
      subst (IsNotedOf (screens ++ shown.screen ∷ [])) (sym (same_is ∙ is)) (noted_of_more screens (shown.screen ∷ []) old h)
  noted_painted screens shown old noted new h (inr (inr none)) (inl same_is) =
      subst (IsNotedOf (screens ++ shown.screen ∷ [])) (sym (same_is ∙ none)) tt

  ready_waits : (t : Terminal S) → is_ready t ≡ true → t.waiting ≡ []
  ready_waits t ready = empty_is t.waiting (by (is_here t.state) (is_open t) (is_empty t.waiting) ready)
    where
      by : (a b c : Bool) → (a && (b && c)) ≡ true → c ≡ true
      by true false c e = absurd cc
      by true true c e = e
      by false b c e = absurd cc

  parts_on : (written before since waiting old : List ℕ) → written ++ old ≡ before ++ since → old ≡ []
      → written ++ waiting ≡ before ++ (since ++ waiting)
  parts_on written before since waiting old parts empty =
      let all : written ≡ before ++ since = sym (append-nil written) ∙ (ap (λ w. written ++ w) (sym empty) ∙ parts) in
      ap (λ l. l ++ waiting) all ∙ append_assoc before since waiting

  paints_led : (came : List S) (screens : List Screenshot) (silence : Silence) (client : ClientView) (old new : Terminal S)
      → Paints silence client old new → IsLed contents came screens old
      → IsLed contents came (screens ++ (shown_of client).screen ∷ []) new
  paints_led came screens silence client old new p h = by on.1
    where
      after : List Screenshot
      after = screens ++ (shown_of client).screen ∷ []

      noted : IsNotedOf after new.outer
      noted = noted_painted screens (shown_of client) old.outer p.noted new.outer h.noted p.is_noted p.stays

      on : (more : List ℕ) × (((on_show old.over old.outer ≡ None) × (more ≡ new.waiting)) ⊎ (more ≡ h.since ++ new.waiting))
          × LeadsAny after more (on_show new.over new.outer)
      on = leads_on after h.since new.waiting (on_show old.over old.outer) (on_show new.over new.outer)
          (leads_any_more screens ((shown_of client).screen ∷ []) h.since (on_show old.over old.outer) h.leads) p.leads
          (size_shown after silence.moment new.predicting new.outer new.over noted p.over)

      appended : Appends (contents h.stream) (contents new.stream) h.written
      appended = subst (λ s. Appends (contents h.stream) (contents s) h.written) (sym (ap (λ t. t.stream) p.others)) h.appended

      by : ((on_show old.over old.outer ≡ None) × (on.0 ≡ new.waiting)) ⊎ (on.0 ≡ h.since ++ new.waiting)
          → IsLed contents came after new
      by (inl anew) = record {
        stream = h.stream;
        is = h.is;
        noted = noted;
        written = h.written;
        appended = appended;
        before = h.written;
        since = on.0;
        parts = ap (λ l. h.written ++ l) (sym anew.1);
        leads = on.2;
      }
      by (inr further) = record {
        stream = h.stream;
        is = h.is;
        noted = noted;
        written = h.written;
        appended = appended;
        before = h.before;
        since = on.0;
        parts = parts_on h.written h.before h.since new.waiting old.waiting h.parts (ready_waits old p.ready)
            ∙ ap (λ l. h.before ++ l) (sym further);
        leads = on.2;
      }

  untold_is : (o : Option DisplayStateView) → is_some o ≡ false → o ≡ None
  untold_is None e = refl
  untold_is (Some t) e = absurd cc

  followed_more : (came more : List S) (screens extra : List Screenshot) (t : Terminal S) (o : Option DisplayStateView)
      → IsFollowed laid contents came screens t o → IsFollowed laid contents (came ++ more) (screens ++ extra) t o
  followed_more came more screens extra t None h = led_more came more screens extra t h
  followed_more came more screens extra t (Some display_state) h = told_more laid remaining contents came more screens extra t display_state h

  painted_followed : (came : List S) (screens : List Screenshot) (silence : Silence) (client : ClientView) (old new : Terminal S)
      → MayPaint silence client old new → IfSome new.predicting (λ overlay. laid overlay silence.moment)
      → IsFollowed laid contents came screens old old.display_state → IsFollowed laid contents came (screens ++ (shown_of client).screen ∷ []) new new.display_state
  painted_followed came screens silence client old new (painted p) were_laid h =
      let bare : old.display_state ≡ None = untold_is old.display_state p.untold in
      let now : new.display_state ≡ None = ap (λ t. t.display_state) p.others ∙ bare in
      subst (IsFollowed laid contents came (screens ++ (shown_of client).screen ∷ []) new) (sym now)
      (paints_led came screens silence client old new p (subst (IsFollowed laid contents came screens old) bare h))
  painted_followed came screens silence client old new (was_told p) were_laid h =
      subst (IsFollowed laid contents came (screens ++ (shown_of client).screen ∷ []) new) (sym (ap (λ t. t.display_state) p.tells.is))
      (told_all laid remaining contents came screens silence.moment client old p.mid new p.before p.noted
      (subst (λ o. IfSome o (λ overlay. laid overlay silence.moment)) (ap (λ t. t.predicting) p.tells.is) were_laid) p.over p.others p.tells
      (subst (IsFollowed laid contents came screens old) p.was h))
  painted_followed came screens silence client old new (not_ready not_is to) were_laid h =
      subst (λ t. IsFollowed laid contents came (screens ++ (shown_of client).screen ∷ []) t t.display_state) (sym to)
      (subst (λ c. IsFollowed laid contents c (screens ++ (shown_of client).screen ∷ []) old old.display_state) (append-nil came)
      (followed_more came [] screens ((shown_of client).screen ∷ []) old old.display_state h))

  -- ---- queued bytes are written

  said_followed : (came : List S) (screens : List Screenshot) (seen : Silence) (old new : Terminal S) (t : DisplayStateView)
      → SaysSilence seen old new → IsToldAs laid contents came screens old t → IsToldAs laid contents came screens new t
  said_followed came screens seen old new t (is_heard_again h empty here is) led =
      told_on laid remaining contents came screens old new t t (records.Heard ∷ [])
      (keeps_same old.stream new.stream (ap (λ t. t.stream) is)) (refl, λ told. refl, tt)
      (ap (λ t. t.waiting) is ∙ (sym (append-nil (text_of records.Heard)) ∙ ap (λ w. w ++ texts_of (records.Heard ∷ [])) (sym empty)))
      (inl (ap (λ t. t.outer) is)) refl (inl (refl, refl)) led
  said_followed came screens seen old new t (is_silent seconds h due empty here is) led =
      told_on laid remaining contents came screens old new t t (records.Silent seconds ∷ [])
      (keeps_same old.stream new.stream (ap (λ t. t.stream) is)) (refl, λ told. refl, tt)
      (ap (λ t. t.waiting) is
      ∙ (sym (append-nil (text_of (records.Silent seconds)))
      ∙ ap (λ w. w ++ texts_of (records.Silent seconds ∷ [])) (sym empty)))
      (inl (ap (λ t. t.outer) is)) refl (inl (refl, refl)) led
  said_followed came screens seen old new t (is_as_it_was is) led =
      subst (λ x. IsToldAs laid contents came screens x t) (sym is) led

  said_display_state : (seen : Silence) (old new : Terminal S) → SaysSilence seen old new → new.display_state ≡ old.display_state
  said_display_state seen old new (is_heard_again h empty here is) = ap (λ t. t.display_state) is
  said_display_state seen old new (is_silent seconds h due empty here is) = ap (λ t. t.display_state) is
  said_display_state seen old new (is_as_it_was is) = ap (λ t. t.display_state) is

  -- a terminal without records
  bare_followed : (came : List S) (screens : List Screenshot) (old new : Terminal S) → is_some old.display_state ≡ false
      → new.display_state ≡ old.display_state → new.stream ≡ old.stream → Stays old new → IsFollowed laid contents came screens old old.display_state
      → IsFollowed laid contents came screens new new.display_state
  bare_followed came screens old new bare display_state stream stays h =
      let none : old.display_state ≡ None = untold_is old.display_state bare in
      subst (IsFollowed laid contents came screens new) (sym (display_state ∙ none))
      (stays_led came screens old new (keeps_same old.stream new.stream stream) stays
      (subst (IsFollowed laid contents came screens old) none h))

  tells_followed : (came : List S) (screens : List Screenshot) (silence : Silence) (old new : Terminal S) → TellsSilence silence old new
      → IsFollowed laid contents came screens old old.display_state → IsFollowed laid contents came screens new new.display_state
  tells_followed came screens silence old new (is_told_over bare h is) led =
      bare_followed came screens old new bare (ap (λ t. t.display_state) is) (ap (λ t. t.stream) is)
      (lost [] (ap (λ t. t.waiting) is ∙ sym (append-nil old.waiting)) (ap (λ t. t.outer) is)) led
  tells_followed came screens silence old new (is_told_more seconds bare h due empty plain here is) led =
      bare_followed came screens old new bare (ap (λ t. t.display_state) is) (ap (λ t. t.stream) is)
      (lost (notice_of seconds) (ap (λ t. t.waiting) is ∙ ap (λ w. w ++ notice_of seconds) (sym empty)) (ap (λ t. t.outer) is)) led
  tells_followed came screens silence old new (is_quiet bare h is) led = same_followed came screens old new is led
  tells_followed came screens silence old new (in_records is h) led =
      subst (IsFollowed laid contents came screens new) (sym (said_display_state _ old new h)) (by old.display_state is led)
    where
      by : (o : Option DisplayStateView) → is_some o ≡ true → IsFollowed laid contents came screens old o → IsFollowed laid contents came screens new o
      by None none later = absurd cc
      by (Some t) some later = said_followed came screens _ old new t h later

  flushed_led : (came : List S) (screens : List Screenshot) (now : ℕ) (old new : Terminal S) → Flushes remaining contents now old new
      → IsLed contents came screens old → IsLed contents came screens new
  flushed_led came screens now old new f h =
      let count = f.writes.count in
      let more = take count old.waiting in
      let outer : new.outer ≡ old.outer = ap (λ t. t.outer) f.others in
      let over : new.over ≡ old.over = ap (λ t. t.over) f.others in
      let whole : more ++ new.waiting ≡ old.waiting = ap (λ l. more ++ l) f.writes.left ∙ take-append-drop count old.waiting in
      record {
        stream = h.stream;
        is = h.is;
        noted = subst (IsNotedOf screens) (sym outer) h.noted;
        written = h.written ++ more;
        appended = Appends-trans (contents h.stream) (contents old.stream) (contents new.stream) h.written more h.appended
            f.writes.written;
        before = h.before;
        since = h.since;
        parts = append_assoc h.written more new.waiting ∙ (ap (λ l. h.written ++ l) whole ∙ h.parts);
        leads = subst (λ o. LeadsAny screens h.since (on_show o new.outer)) (sym over)
            (subst (λ o. LeadsAny screens h.since (on_show old.over o)) (sym outer) h.leads);
      }

  flushed_followed : (came : List S) (screens : List Screenshot) (now : ℕ) (old new : Terminal S)
      → Flushes remaining contents now old new → IsFollowed laid contents came screens old old.display_state
      → IsFollowed laid contents came screens new new.display_state
  flushed_followed came screens now old new f h =
      subst (IsFollowed laid contents came screens new) (sym (ap (λ t. t.display_state) f.others)) (by old.display_state h)
    where
      by : (o : Option DisplayStateView) → IsFollowed laid contents came screens old o → IsFollowed laid contents came screens new o
      by None led = flushed_led came screens now old new f led
      by (Some t) led = told_flushed laid remaining contents came screens now old new t f led

  settled_followed : (came : List S) (screens : List Screenshot) (silence : Silence) (old new : Terminal S)
      → Settles remaining contents silence old new → IsFollowed laid contents came screens old old.display_state
      → IsFollowed laid contents came screens new new.display_state
  settled_followed came screens silence old new s h =
      flushed_followed came screens silence.moment s.told new s.flushes (tells_followed came screens silence old s.told s.tells h)

  -- ---- all of them

  all_more : (came more : List S) (screens extra : List Screenshot) (all : List (Terminal S)) → AreLed laid contents came screens all
      → AreLed laid contents (came ++ more) (screens ++ extra) all
  all_more came more screens extra [] h = tt
  all_more came more screens extra (t ∷ all) h =
      (followed_more came more screens extra t t.display_state h.0, all_more came more screens extra all h.1)

  both_led : (came : List S) (screens : List Screenshot) (xs ys : List (Terminal S)) → AreLed laid contents came screens xs
      → AreLed laid contents came screens ys → AreLed laid contents came screens (xs ++ ys)
  both_led came screens [] ys h k = k
  both_led came screens (x ∷ xs) ys h k = (h.0, both_led came screens xs ys h.1 k)

  all_heard : (came : List S) (screens : List Screenshot) (old new : List (Terminal S)) (client client' : ClientView) (ending : Bool)
      → HearsAll remaining contents old new client client' ending → AreLed laid contents came screens old → AreLed laid contents came screens new
  all_heard came screens [] [] client client' ending h led = tt
  all_heard came screens [] (t ∷ new) client client' ending h led = absurd h
  all_heard came screens (t ∷ old) [] client client' ending h led = absurd h
  all_heard came screens (t ∷ old) (t' ∷ new) client client' ending h led =
      (heard_followed came screens h.1 t t' client h.0 h.3 led.0, all_heard came screens old new h.0 client' h.2 h.4 led.1)

  -- the overlays of terminals that were painted at a moment are among those that were laid then
  abbrev AreLaid : ℕ → List (Terminal S) → Type 0
  AreLaid now [] = Unit {0}
  AreLaid now (t ∷ all) = IfSome t.predicting (λ overlay. laid overlay now) × AreLaid now all

  all_painted : (came : List S) (screens : List Screenshot) (silence : Silence) (client : ClientView) (old new : List (Terminal S))
      → AreEach (MayPaint silence client) old new → AreLaid silence.moment new → AreLed laid contents came screens old
      → AreLed laid contents came (screens ++ (shown_of client).screen ∷ []) new
  all_painted came screens silence client [] [] h were_laid led = tt
  all_painted came screens silence client [] (t ∷ new) h were_laid led = absurd h
  all_painted came screens silence client (t ∷ old) [] h were_laid led = absurd h
  all_painted came screens silence client (t ∷ old) (t' ∷ new) h were_laid led = (
    painted_followed came screens silence client t t' h.0 were_laid.0 led.0,
    all_painted came screens silence client old new h.1 were_laid.1 led.1,
  )

  all_settled : (came : List S) (screens : List Screenshot) (silence : Silence) (old new : List (Terminal S))
      → AreEach (Settles remaining contents silence) old new → AreLed laid contents came screens old → AreLed laid contents came screens new
  all_settled came screens silence [] [] h led = tt
  all_settled came screens silence [] (t ∷ new) h led = absurd h
  all_settled came screens silence (t ∷ old) [] h led = absurd h
  all_settled came screens silence (t ∷ old) (t' ∷ new) h led =
      (settled_followed came screens silence t t' h.0 led.0, all_settled came screens silence old new h.1 led.1)

  if_led : (b : Bool) (came : List S) (screens : List Screenshot) (t : Terminal S) (all : List (Terminal S))
      → IsFollowed laid contents came screens t t.display_state
      → AreLed laid contents came screens all → AreLed laid contents came screens (if b then t ∷ all else all)
  if_led true came screens t all h k = (h, k)
  if_led false came screens t all h k = k

  all_staying : (came : List S) (screens : List Screenshot) (all : List (Terminal S)) → AreLed laid contents came screens all
      → AreLed laid contents came screens (who_stay all)
  all_staying came screens [] led = tt
  all_staying came screens (t ∷ all) led =
      if_led (not (is_gone t)) came screens t (who_stay all) led.0 (all_staying came screens all led.1)

  all_turned : (came : List S) (screens : List Screenshot) (all : List (Terminal S)) → AreLed laid contents came screens all
      → AreLed laid contents came screens (turned_round all)
  all_turned came screens [] led = tt
  all_turned came screens (t ∷ all) led = both_led came screens all (t ∷ []) led.1 (led.0, tt)

  -- ---- a run

  came_led : (came : List S) (screens : List Screenshot) (stream : S) (t : Terminal S) → t.stream ≡ stream → IsFresh t
      → IsLed contents (came ++ stream ∷ []) screens t
  came_led came screens stream t is fresh = record {
    stream = stream;
    is = one_of_last stream came;
    noted = subst (IsNotedOf screens) (sym fresh.outer) tt;
    written = [];
    appended = subst (λ s. Appends (contents stream) (contents s) []) (sym is) (Appends-nil (contents stream));
    before = [];
    since = [];
    parts = fresh.waiting;
    leads = subst (λ o. LeadsAny screens [] (on_show t.over o)) (sym fresh.outer) tt;
  }

  module _ (to : Addr) where
    abbrev StepLaid : (step : RunStep S) (calls calls' : Option (List PortCall)) (old new : Shared S)
        → IsStep remaining contents to step calls calls' old new → Type 0
    StepLaid (Asks call) calls calls' old new h = Unit {0}
    StepLaid (Came stream) calls calls' old new h = Unit {0}
    StepLaid (Took silence wait) calls calls' old new h = AreLaid silence.moment h.painted

    abbrev RunLaid : (steps : List (RunStep S)) (calls calls' : Option (List PortCall)) (old new : Shared S)
        → RunsBy remaining contents to steps calls calls' old new → Type 0
    RunLaid [] calls calls' old new h = Unit {0}
    RunLaid (step ∷ steps) calls calls' old new h = StepLaid step calls h.1 old h.0 h.2 × RunLaid steps h.1 calls' h.0 new h.3

    -- an overlay painted in a run is among the painted ones
    some_laid : (o : Option OverlayOf) (now : ℕ) → ((overlay : OverlayOf) → o ≡ Some overlay → laid overlay now)
        → IfSome o (λ overlay. laid overlay now)
    some_laid None now each = tt
    some_laid (Some overlay) now each = each overlay refl

    all_laid : (all : List (Terminal S)) (now : ℕ) → ((overlay : OverlayOf) → HasOverlay overlay all → laid overlay now) → AreLaid now all
    all_laid [] now each = tt
    all_laid (t ∷ all) now each =
        (some_laid t.predicting now (λ overlay is. each overlay (inl is)), all_laid all now (λ overlay is. each overlay (inr is)))

    step_laid : (step : RunStep S) (calls calls' : Option (List PortCall)) (old new : Shared S)
        (h : IsStep remaining contents to step calls calls' old new)
        → ((overlay : OverlayOf) (now : ℕ) → IsLaidIn remaining contents to overlay now step calls calls' old new h → laid overlay now)
        → StepLaid step calls calls' old new h
    step_laid (Asks call) calls calls' old new h each = tt
    step_laid (Came stream) calls calls' old new h each = tt
    step_laid (Took silence wait) calls calls' old new h each =
        all_laid h.painted silence.moment (λ overlay is. each overlay silence.moment (refl, is))

    run_laid : (steps : List (RunStep S)) (calls calls' : Option (List PortCall)) (old new : Shared S)
        (h : RunsBy remaining contents to steps calls calls' old new)
        → ((overlay : OverlayOf) (now : ℕ) → WasLaid remaining contents to steps calls calls' old new h overlay now → laid overlay now)
        → RunLaid steps calls calls' old new h
    run_laid [] calls calls' old new h each = tt
    run_laid (step ∷ steps) calls calls' old new h each = (
      step_laid step calls h.1 old h.0 h.2 (λ overlay now is. each overlay now (inl is)),
      run_laid steps h.1 calls' h.0 new h.3 (λ overlay now is. each overlay now (inr is)),
    )

    step_led : (came : List S) (screens : List Screenshot) (step : RunStep S) (calls calls' : Option (List PortCall))
        (old new : Shared S) (h : IsStep remaining contents to step calls calls' old new) → StepLaid step calls calls' old new h
        → AreLed laid contents came screens old.all
        → AreLed laid contents (came ++ came_in (step ∷ [])) (screens ++ new.client.kept.receiver.newest.state ∷ []) new.all
    step_led came screens (Asks call) calls calls' old new h were_laid led =
        subst (λ s. AreLed laid contents (came ++ []) (screens ++ s.client.kept.receiver.newest.state ∷ []) s.all) (sym h.1)
        (all_more came [] screens (old.client.kept.receiver.newest.state ∷ []) old.all led)
    step_led came screens (Came stream) calls calls' old new h were_laid led =
        let screen = new.client.kept.receiver.newest.state in
        let comes : Comes stream old new = h.1 in
        let first = all_more came (stream ∷ []) screens (screen ∷ []) old.all led in
        subst (AreLed laid contents (came ++ stream ∷ []) (screens ++ screen ∷ [])) (sym (ap (λ s. s.all) comes.all))
        (both_led (came ++ stream ∷ []) (screens ++ screen ∷ []) old.all (comes.terminal ∷ []) first (
          subst (IsFollowed laid contents (came ++ stream ∷ []) (screens ++ screen ∷ []) comes.terminal) (sym comes.fresh.untold)
              (came_led came (screens ++ screen ∷ []) stream comes.terminal comes.is comes.fresh),
          tt,
        ))
    step_led came screens (Took silence wait) calls calls' old new h were_laid led =
        let screen = new.client.kept.receiver.newest.state in
        let heard = all_heard came screens old.all h.heard old.client h.client h.ending h.hears led in
        let done = all_painted came screens silence new.client h.heard h.painted h.paints were_laid heard in
        let settled = all_settled came (screens ++ screen ∷ []) silence h.painted h.settled h.settles done in
        let all =
        all_turned came (screens ++ screen ∷ []) (who_stay h.settled) (all_staying came (screens ++ screen ∷ []) h.settled settled) in
        subst (λ c. AreLed laid contents c (screens ++ screen ∷ []) new.all) (sym (append-nil came))
        (subst (AreLed laid contents came (screens ++ screen ∷ [])) (sym h.all) all)

    runs_led : (steps : List (RunStep S)) (came : List S) (screens : List Screenshot) (calls calls' : Option (List PortCall))
        (old new : Shared S) (h : RunsBy remaining contents to steps calls calls' old new) → RunLaid steps calls calls' old new h
        → AreLed laid contents came screens old.all → AreLed laid contents (came ++ came_in steps) (screens ++ screens_in remaining contents to steps calls calls' old new h) new.all
    runs_led [] came screens calls calls' old new h were_laid led =
        subst (λ s. AreLed laid contents (came ++ []) (screens ++ []) s.all) (sym h.1) (all_more came [] screens [] old.all led)
    runs_led (step ∷ steps) came screens calls calls' old new h were_laid led =
        let screen = h.0.client.kept.receiver.newest.state in
        let rest = screens_in remaining contents to steps h.1 calls' h.0 new h.3 in
        let one = step_led came screens step calls h.1 old h.0 h.2 were_laid.0 led in
        let all =
        runs_led steps (came ++ came_in (step ∷ [])) (screens ++ screen ∷ []) h.1 calls' h.0 new h.3 were_laid.1 one in
        subst (λ c. AreLed laid contents c (screens ++ screen ∷ rest) new.all) (came_on remaining contents to came step steps)
        (subst (λ s. AreLed laid contents ((came ++ came_in (step ∷ [])) ++ came_in steps) s new.all) (append_assoc screens (screen ∷ []) rest)
        all)

pub paintings_lead : {S : Type 0} (remaining contents : S → Option (List ℕ)) → PaintingsLead remaining contents
paintings_lead remaining contents to steps calls calls' old new none h =
    let laid = WasLaid remaining contents to steps calls calls' old new h in
    runs_led laid remaining contents to steps [] [] calls calls' old new h
    (run_laid laid remaining contents to steps calls calls' old new h (λ overlay now is. is))
    (subst (AreLed laid contents [] []) (sym none) tt)
