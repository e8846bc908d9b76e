-- The records sent so far lead on.
use Rattle.std.proofs.Common.{◌≡◌, ◌⊎◌, ℕ, ◌≤◌, Bool, true, false, eqb, List, [], ◌∷◌, ◌++◌, map, append-nil, append_assoc, Option, Some, None, refl, sym, ap, ◌∙◌, subst, inl, inr, arith}
use Rattle.std.proofs.lemmas.Bool.{eqb-true}
use Rattle.std.proofs.lemmas.List.{map-append}
use Rattle.std.specs.Borrow.{Bor}
use Rattle.std.specs.Prelude.{◌&&◌, ◌==◌, if◌then◌else◌}
use Rattle.roam_paint.specs.Ground.{Displays}
use Rattle.roam_viewport.specs.declared.parts.Part.{Part}
use Rattle.roam_display_records.specs.declared.records.Record.{Record}
use Rattle.roam_display_records.specs.declared.records.Record.TheVariants.{Size, Place, Paint, Anew}
use Rattle.roam_screens.specs.Screenshot.{Screenshot}
use Rattle.roam_scroll_paint.specs.Leads.{Leads}
use Rattle.roam_term.specs.Ground.{IsSized}
use Rattle.roam_term.specs.Terminal.{term}
use Rattle.roam_text.specs.Log.{Item, Byte}
use Rattle.roam_turns.specs.Painting.{DisplaysNoted, Fits, ShowsAt, ShowsSized}
use Rattle.roam_display_state.specs.Leading.{AreQuiet, BeginsSaid, FitsSaid, FitsSize, IsSaid, LeadsTo, QuietOn, TellsOn, last_size, size_after}
use Rattle.roam_display_state.specs.Saying.{painting_in, paintings_in}
use Rattle.roam_display_state.specs.Scopes.{part_for, place_told, scope_after}
use Rattle.roam_display_state.specs.DisplayState.{LeadsFrom, DisplayStateView, Tells, is_told, painting_said, places_said, sizes_said}
use Rattle.roam_display_state.specs.DisplayState.Tells.{bad_size, current, no_memory, shown}

-- ---- records, joined

size_joined : (told : Option (ℕ × ℕ)) (first later : List Record) → last_size told (first ++ later) ≡ last_size (last_size told first) later
size_joined told [] later = refl
size_joined told (r ∷ first) later = size_joined (size_after told r) first later

paintings_joined : (first later : List Record) → paintings_in (first ++ later) ≡ paintings_in first ++ paintings_in later
paintings_joined [] later = refl
paintings_joined (r ∷ first) later =
    ap (λ l. painting_in r ++ l) (paintings_joined first later)
    ∙ sym (append_assoc (painting_in r) (paintings_in first) (paintings_in later))

fits_fewer : (rows cols lines : ℕ) (log : List Item) (told : Option (ℕ × ℕ)) (first later : List Record)
    → FitsSaid rows cols lines log told (first ++ later) → FitsSaid rows cols lines log told first
fits_fewer rows cols lines log told [] [] h = h
fits_fewer rows cols lines log told [] (r ∷ later) h = h.0
fits_fewer rows cols lines log told (r ∷ first) later h = (h.0, fits_fewer rows cols lines log (size_after told r) first later h.1)

fits_last : (rows cols lines : ℕ) (log : List Item) (told : Option (ℕ × ℕ)) (said : List Record) → FitsSaid rows cols lines log told said
    → FitsSize rows cols lines log (last_size told said)
fits_last rows cols lines log told [] h = h
fits_last rows cols lines log told (r ∷ said) h = fits_last rows cols lines log (size_after told r) said h.1

-- ---- the size precedes the painting

both_true : (a b : Bool) → (a && b) ≡ true → (a ≡ true) × (b ≡ true)
both_true true b h = (refl, h)
both_true false b h = absurd cc

told_is : (told : Option (ℕ × ℕ)) (first second : ℕ) → is_told told first second ≡ true → told ≡ Some (first, second)
told_is None first second h = absurd cc
told_is (Some (a, b)) first second h =
    let are = both_true (a == first) (b == second) h in
    λ i. Some (eqb-true a first are.0 i, eqb-true b second are.1 i)

size_is : (told : Option (ℕ × ℕ)) (view : Screenshot) → last_size told (sizes_said told view) ≡ Some (view.rows, view.cols)
size_is told view = by (is_told told view.rows view.cols) refl
  where
    by : (b : Bool) → is_told told view.rows view.cols ≡ b
        → last_size told (if b then [] else Size view.rows view.cols ∷ []) ≡ Some (view.rows, view.cols)
    by true is = told_is told view.rows view.cols is
    by false is = refl

place_quiet : (told : Option (ℕ × ℕ)) (placed place : Option (ℕ × ℕ)) → last_size told (places_said placed place) ≡ told
place_quiet told placed None = refl
place_quiet told placed (Some at) = by (is_told placed at.0 at.1)
  where
    by : (b : Bool) → last_size told (if b then [] else Place at.0 at.1 ∷ []) ≡ told
    by true = refl
    by false = refl

painting_quiet : (told : Option (ℕ × ℕ)) (before : Option Screenshot) (text : Bor (List ℕ)) → size_after told (painting_said before text) ≡ told
painting_quiet told None text = refl
painting_quiet told (Some s) text = refl

sizes_paint_nothing : (told : Option (ℕ × ℕ)) (view : Screenshot) → paintings_in (sizes_said told view) ≡ []
sizes_paint_nothing told view = by (is_told told view.rows view.cols)
  where
    by : (b : Bool) → paintings_in (if b then [] else Size view.rows view.cols ∷ []) ≡ []
    by true = refl
    by false = refl

places_paint_nothing : (placed place : Option (ℕ × ℕ)) → paintings_in (places_said placed place) ≡ []
places_paint_nothing placed None = refl
places_paint_nothing placed (Some at) = by (is_told placed at.0 at.1)
  where
    by : (b : Bool) → paintings_in (if b then [] else Place at.0 at.1 ∷ []) ≡ []
    by true = refl
    by false = refl

-- ---- one text and then another

text_joined : (log : List Item) (first later : List ℕ) → (log ++ map Byte first) ++ map Byte later ≡ log ++ map Byte (first ++ later)
text_joined log first later =
    append_assoc log (map Byte first) (map Byte later) ∙ ap (λ l. log ++ l) (sym (map-append Byte first later))

shows_joined : (rows cols lines : ℕ) (log : List Item) (first later : List ℕ) (s : Screenshot)
    → IsSized (term rows cols lines log).live (term rows cols lines (log ++ map Byte first)).live
    → ShowsAt rows cols lines (log ++ map Byte first) later s → ShowsAt rows cols lines log (first ++ later) s
shows_joined rows cols lines log first later s size led =
    let both =
    subst (λ l. Displays rows cols lines l s × IsSized (term rows cols lines log).live (term rows cols lines l).live)
    (text_joined log first later)
    (led.displays, record { rows = led.size.rows ∙ size.rows; cols = led.size.cols ∙ size.cols }) in
    record { displays = both.0; size = both.1 }

-- ---- a screen is sent

module _ (said : List Record) (old : DisplayStateView) (view : Screenshot) (placed : Option (ℕ × ℕ)) (text : Bor (List ℕ)) where
  abbrev Before : List Record
  Before = sizes_said old.sized view ++ places_said old.placed placed

  abbrev More : List Record
  More = sizes_said old.sized view ++ (places_said old.placed placed ++ painting_said old.view text ∷ [])

  more_is : Before ++ painting_said old.view text ∷ [] ≡ More
  more_is = append_assoc (sizes_said old.sized view) (places_said old.placed placed) (painting_said old.view text ∷ [])

  last_is : old.sized ≡ last_size None said → last_size None (said ++ More) ≡ Some (view.rows, view.cols)
  last_is was =
      let painting = painting_said old.view text ∷ [] in
      let places = places_said old.placed placed in
      let now = Some (view.rows, view.cols) in
      let first : last_size old.sized (sizes_said old.sized view) ≡ now = size_is old.sized view in
      let later : last_size now (places ++ painting) ≡ now =
      size_joined now places painting
      ∙ (ap (λ t. last_size t painting) (place_quiet now old.placed placed) ∙ painting_quiet now old.view text) in
      size_joined None said More
      ∙ (ap (λ t. last_size t More) (sym was)
      ∙ (size_joined old.sized (sizes_said old.sized view) (places ++ painting) ∙ (ap (λ t. last_size t (places ++ painting)) first ∙ later)))

  before_paints_nothing : paintings_in Before ≡ []
  before_paints_nothing =
      paintings_joined (sizes_said old.sized view) (places_said old.placed placed)
      ∙ (ap (λ l. l ++ paintings_in (places_said old.placed placed)) (sizes_paint_nothing old.sized view)
      ∙ places_paint_nothing old.placed placed)

  view_fits : (rows cols lines : ℕ) (log : List Item) → old.sized ≡ last_size None said → FitsSaid rows cols lines log None (said ++ More)
      → Fits rows cols lines log view
  view_fits rows cols lines log was fits =
      let last = subst (FitsSize rows cols lines log) (last_is was) (fits_last rows cols lines log None (said ++ More) fits) in
      record { rows_fit = last.0; cols_fit = last.1 }

told_anew : (said : List Record) (old new : DisplayStateView) (view : Screenshot) (placed : Option (ℕ × ℕ)) (text : Bor (List ℕ))
    → old.view ≡ None → IsSaid said old → LeadsFrom old.view text.now view → new.sized ≡ Some (view.rows, view.cols) → new.view ≡ Some view
    → IsSaid (said ++ More said old view placed text) new
told_anew said old new view placed text none h leads sized shows = record {
  earlier = said ++ Before said old view placed text;
  since = painting_said old.view text ∷ [];
  is = ap (λ l. said ++ l) (sym (more_is said old view placed text))
      ∙ sym (append_assoc said (Before said old view placed text) (painting_said old.view text ∷ []));
  sized = sized ∙ sym (last_is said old view placed text h.sized);
  leads = subst (LeadsTo (said ++ More said old view placed text) new.sized (paintings_in (painting_said old.view text ∷ []))) (sym shows) (
    sized,
    λ rows cols lines log ready fits.
        subst (λ t. ShowsAt rows cols lines log t view) painted
        (opens rows cols lines log ready (view_fits said old view placed text rows cols lines log h.sized fits)),
  );
}
  where
    opens : ShowsSized None text.now view
    opens = subst (λ v. LeadsFrom v text.now view) none leads

    painted : text.now ≡ paintings_in (painting_said old.view text ∷ [])
    painted = sym (append-nil text.now) ∙ ap (λ v. painting_in (painting_said v text) ++ []) (sym none)

told_over : (said : List Record) (old new : DisplayStateView) (before view : Screenshot) (placed : Option (ℕ × ℕ)) (text : Bor (List ℕ))
    → old.view ≡ Some before → IsSaid said old → LeadsFrom old.view text.now view → new.sized ≡ Some (view.rows, view.cols)
    → new.view ≡ Some view → IsSaid (said ++ More said old view placed text) new
told_over said old new before view placed text known h leads sized shows = record {
  earlier = h.earlier;
  since = h.since ++ More said old view placed text;
  is = ap (λ l. l ++ More said old view placed text) h.is ∙ append_assoc h.earlier h.since (More said old view placed text);
  sized = sized ∙ sym (last_is said old view placed text h.sized);
  leads = subst (LeadsTo (said ++ More said old view placed text) new.sized (paintings_in (h.since ++ More said old view placed text))) (sym shows) (
    sized,
    λ rows cols lines log ready fits.
        let first = led.1 rows cols lines log ready (fits_fewer rows cols lines log None said (More said old view placed text) fits) in
        let here = view_fits said old view placed text rows cols lines log h.sized fits in
        let done =
        over rows cols lines (log ++ map Byte (paintings_in h.since)) first.displays (omega (arith, here.rows_fit, first.size.rows))
        (omega (arith, here.cols_fit, first.size.cols)) in
        subst (λ t. ShowsAt rows cols lines log t view) painted
        (shows_joined rows cols lines log (paintings_in h.since) text.now view first.size
        (record { displays = done.displays; size = done.size })),
  );
}
  where
    led : LeadsTo said old.sized (paintings_in h.since) (Some before)
    led = subst (LeadsTo said old.sized (paintings_in h.since)) known h.leads

    over : Leads before view text.now
    over = subst (λ v. LeadsFrom v text.now view) known leads

    last_painting : paintings_in (painting_said old.view text ∷ []) ≡ text.now
    last_painting = ap (λ v. painting_in (painting_said v text) ++ []) known ∙ append-nil text.now

    painted : paintings_in h.since ++ text.now ≡ paintings_in (h.since ++ More said old view placed text)
    painted =
        let Early = Before said old view placed text in
        let last = painting_said old.view text ∷ [] in
        let more : paintings_in (More said old view placed text) ≡ text.now =
        ap paintings_in (sym (more_is said old view placed text))
        ∙ (paintings_joined Early last
        ∙ (ap (λ l. l ++ paintings_in last) (before_paints_nothing said old view placed text) ∙ last_painting)) in
        ap (λ l. paintings_in h.since ++ l) (sym more) ∙ sym (paintings_joined h.since (More said old view placed text))

-- ---- the laws

pub begins : BeginsSaid
begins t none unsized = record {
  earlier = [];
  since = [];
  is = refl;
  sized = unsized;
  leads = subst (LeadsTo [] t.sized []) (sym none) tt;
}

said_same : (said : List Record) (old new : DisplayStateView) → new ≡ old → IsSaid said old → IsSaid (said ++ []) new
said_same said old new same h = subst (λ l. IsSaid l new) (sym (append-nil said)) (subst (IsSaid said) (sym same) h)

pub tells_on : TellsOn
tells_on screen said more old new h (current part part_is shown_is none same) =
    subst (λ l. IsSaid (said ++ l) new) (sym none) (said_same said old new same h)
tells_on screen said more old new h (bad_size part part_is none_is none same) =
    subst (λ l. IsSaid (said ++ l) new) (sym none) (said_same said old new same h)
tells_on screen said more old new h (no_memory none same) =
    subst (λ l. IsSaid (said ++ l) new) (sym none) (said_same said old new same h)
tells_on screen said more old new h (shown part view text part_is view_is is_new leads still is to) =
    subst (λ l. IsSaid (said ++ l) new) (sym is) (by old.view refl)
  where
    by : (v : Option Screenshot) → old.view ≡ v → IsSaid (said ++ More said old view (place_told old.scope part) text) new
    by None known =
        told_anew said old new view (place_told old.scope part) text known h leads (ap (λ t. t.sized) to) (ap (λ t. t.view) to)
    by (Some before) known =
        told_over said old new before view (place_told old.scope part) text known h leads (ap (λ t. t.sized) to) (ap (λ t. t.view) to)

-- ---- what paints nothing

quiet_size : (told : Option (ℕ × ℕ)) (more : List Record) → AreQuiet more → last_size told more ≡ told
quiet_size told [] h = refl
quiet_size told (r ∷ more) h = ap (λ t. last_size t more) (h.1 told) ∙ quiet_size told more h.2

quiet_paints_nothing : (more : List Record) → AreQuiet more → paintings_in more ≡ []
quiet_paints_nothing [] h = refl
quiet_paints_nothing (r ∷ more) h = ap (λ l. l ++ paintings_in more) h.0 ∙ quiet_paints_nothing more h.2

leads_longer : (said more : List Record) (sized : Option (ℕ × ℕ)) (text : List ℕ) (view : Option Screenshot) → LeadsTo said sized text view
    → LeadsTo (said ++ more) sized text view
leads_longer said more sized text None h = tt
leads_longer said more sized text (Some view) h =
    (h.0, λ rows cols lines log ready fits. h.1 rows cols lines log ready (fits_fewer rows cols lines log None said more fits))

leads_kept : (said : List Record) (sized : Option (ℕ × ℕ)) (text : List ℕ) (old new : Option Screenshot) → (new ≡ old) ⊎ (new ≡ None)
    → LeadsTo said sized text old → LeadsTo said sized text new
leads_kept said sized text old new (inl same) h = subst (LeadsTo said sized text) (sym same) h
leads_kept said sized text old new (inr none) h = subst (LeadsTo said sized text) (sym none) tt

pub quiet_on : QuietOn
quiet_on said more old new h quiet sized kept =
    let text : paintings_in h.since ≡ paintings_in (h.since ++ more) =
    sym (append-nil (paintings_in h.since))
    ∙ (ap (λ l. paintings_in h.since ++ l) (sym (quiet_paints_nothing more quiet)) ∙ sym (paintings_joined h.since more)) in
    record {
      earlier = h.earlier;
      since = h.since ++ more;
      is = ap (λ l. l ++ more) h.is ∙ append_assoc h.earlier h.since more;
      sized = sized ∙ (h.sized ∙ (sym (quiet_size (last_size None said) more quiet) ∙ sym (size_joined None said more)));
      leads = subst (λ s. LeadsTo (said ++ more) s (paintings_in (h.since ++ more)) new.view) (sym sized)
          (subst (λ t. LeadsTo (said ++ more) old.sized t new.view) text
          (leads_kept (said ++ more) old.sized (paintings_in h.since) old.view new.view kept
          (leads_longer said more old.sized (paintings_in h.since) old.view h.leads)));
    }
