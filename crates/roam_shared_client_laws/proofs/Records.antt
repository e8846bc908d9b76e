-- The records of a terminal that asked for them, step by step.
use Rattle.std.proofs.Common.{◌≡◌, ◌⊎◌, ℕ, Bool, true, false, List, [], ◌∷◌, ◌++◌, take, append-nil, append_assoc, Option, Some, None, refl, sym, ap, ◌∙◌, subst, inl, inr}
use Rattle.std.proofs.KnownBytes.{Appends-kept, Appends-trans}
use Rattle.std.proofs.lemmas.Grind.{flat_map-append}
use Rattle.std.proofs.lemmas.List.{take-append-drop}
use Rattle.std.specs.Prelude.{IfSome}
use Rattle.std.specs.Io.KnownBytes.{Appends, Keeps}
use Rattle.roam_hub.specs.Clients.{ClientView}
use Rattle.roam_overlay.specs.Overlays.{OverlayOf}
use Rattle.roam_viewport.specs.declared.parts.Part.{Part}
use Rattle.roam_display_records.specs.Records.{text_of}
use Rattle.roam_display_records.specs.declared.records.Record.{Record}
use Rattle.roam_display_records.specs.declared.records.Record.TheVariants as records
use Rattle.roam_screens.specs.Screenshot.{Screenshot}
use Rattle.roam_display_state.specs.Leading.{AreQuiet, IsSaid}
use Rattle.roam_display_state.specs.Saying.{texts_of}
use Rattle.roam_display_state.specs.DisplayState.{DisplayStateView, Tells, TellsLook, TellsTaken}
use Rattle.roam_display_state.specs.DisplayState.Tells.{current as same_screen, bad_size as no_size, no_memory as no_memory_for_screen, shown as a_screen}
use Rattle.roam_display_state.specs.DisplayState.TellsLook.{unasked, no_memory as no_memory_to_look, looked}
use Rattle.roam_display_state.specs.DisplayState.TellsTaken.{same as same_taken, no_memory as no_memory_for_taken, rose}
use Rattle.roam_display_state.proofs.Leading.{begins, quiet_on, tells_on}
use Rattle.roam_turns.specs.declared.outer.Noted.{Noted}
use Rattle.roam_terminal_input.specs.declared.entries.Entry.{Entry}
use Rattle.roam_terminal_input.specs.declared.entries.Entry.TheVariants.{Acts, Paste, Events, Repaint, Watch, Prediction, Look, LookStyled, Show, End}
use Rattle.roam_terminal_input.specs.declared.showings.Showing.{Showing}
use Rattle.roam_terminal_input.specs.declared.showings.Showing.TheVariants as showing
use Rattle.roam_outer_terminal.specs.Hearing.{IsRefusal, display_state_after}
use Rattle.roam_outer_terminal.specs.Overlaid.{IsOver}
use Rattle.roam_outer_terminal.specs.Painted.{TellsIt, TellsNoted, shown_of, shown_screen}
use Rattle.roam_outer_terminal.specs.Writing.{Flushes}
use Rattle.roam_outer_terminal.specs.declared.terminal.Terminal.{Terminal}
use Rattle.roam_shared_client_laws.specs.Paintings.{IsLaidOf, IsLed, IsNotedOf, IsOneOf, IsPartOf, IsToldAs}
use Rattle.roam_shared_client_laws.proofs.Lists.{noted_of_more, one_of_last, one_of_more}

module _ (laid : OverlayOf → ℕ → Type 0) where
  laid_more : (screens extra : List Screenshot) (s : Screenshot) → IsLaidOf laid screens s → IsLaidOf laid (screens ++ extra) s
  laid_more screens extra s h = (h.0, one_of_more h.0 screens extra h.1, h.2)

  part_more : (screens extra : List Screenshot) (masks : List Part) (view : Option Screenshot) → IsPartOf laid screens masks view
      → IsPartOf laid (screens ++ extra) masks view
  part_more screens extra masks None h = tt
  part_more screens extra masks (Some view) h = (h.0, h.1, laid_more screens extra h.1 h.2, h.3)

-- the screen to show stays, with the same cells masked, or becomes unknown
abbrev pub Kept : DisplayStateView → DisplayStateView → Type 0
Kept t t' = ((t'.view ≡ t.view) × (t'.masks ≡ t.masks)) ⊎ (t'.view ≡ None)

kept_view : (t t' : DisplayStateView) → Kept t t' → (t'.view ≡ t.view) ⊎ (t'.view ≡ None)
kept_view t t' (inl same) = inl same.0
kept_view t t' (inr none) = inr none

module _ (laid : OverlayOf → ℕ → Type 0) where
  part_kept : (screens : List Screenshot) (t t' : DisplayStateView) → Kept t t' → IsPartOf laid screens t.masks t.view
      → IsPartOf laid screens t'.masks t'.view
  part_kept screens t t' (inl same) h =
      subst (λ m. IsPartOf laid screens m t'.view) (sym same.1) (subst (IsPartOf laid screens t.masks) (sym same.0) h)
  part_kept screens t t' (inr none) h = subst (IsPartOf laid screens t'.masks) (sym none) tt

texts_joined : (first later : List Record) → texts_of (first ++ later) ≡ texts_of first ++ texts_of later
texts_joined first later = flat_map-append text_of first later

parts_more : (written waiting waiting' before : List ℕ) (said more : List Record) → written ++ waiting ≡ before ++ texts_of said
    → waiting' ≡ waiting ++ texts_of more → written ++ waiting' ≡ before ++ texts_of (said ++ more)
parts_more written waiting waiting' before said more parts is =
    ap (λ w. written ++ w) is
    ∙ (sym (append_assoc written waiting (texts_of more))
    ∙ (ap (λ l. l ++ texts_of more) parts
    ∙ (append_assoc before (texts_of said) (texts_of more) ∙ ap (λ l. before ++ l) (sym (texts_joined said more)))))

-- ---- a line of it

-- the records after a line that doesn't begin records
abbrev pub is_events_entry : Entry → Bool
is_events_entry (Acts acts) = false
is_events_entry (Paste acts) = false
is_events_entry Events = true
is_events_entry Repaint = false
is_events_entry Watch = false
is_events_entry (Prediction predicting) = false
is_events_entry Look = false
is_events_entry LookStyled = false
is_events_entry (Show showing) = false
is_events_entry End = false

pub untold_after : (e : Entry) (watches : Bool) (client : ClientView) → is_events_entry e ≡ false → display_state_after watches e client None ≡ None
untold_after (Acts acts) watches client none = refl
untold_after (Paste acts) watches client none = refl
untold_after Events watches client none = absurd cc
untold_after Repaint watches client none = refl
untold_after Watch watches client none = refl
untold_after (Prediction predicting) watches client none = refl
untold_after Look watches client none = refl
untold_after LookStyled watches client none = refl
untold_after (Show showing) watches client none = refl
untold_after End watches client none = refl

-- the same for a terminal whose state stays
abbrev pub GoesOn : Option DisplayStateView → DisplayStateView → Type 0
GoesOn after t = (t' : DisplayStateView) × (after ≡ Some t') × (t'.sized ≡ t.sized) × Kept t t'

show_on : (s : Showing) (watches : Bool) (client : ClientView) (t : DisplayStateView) → GoesOn (display_state_after watches (Show s) client (Some t)) t
show_on showing.Whole watches client t = (_, refl, refl, inr refl)
show_on (showing.Exactly part) watches client t = (_, refl, refl, inr refl)
show_on (showing.Following rows cols) watches client t = (_, refl, refl, inr refl)
show_on (showing.Mask part) watches client t = (_, refl, refl, inr refl)
show_on showing.Unmask watches client t = (_, refl, refl, inr refl)

pub told_after : (e : Entry) (watches : Bool) (client : ClientView) (t : DisplayStateView) → is_events_entry e ≡ false
    → GoesOn (display_state_after watches e client (Some t)) t
told_after (Acts acts) watches client t none = (_, refl, refl, inl (refl, refl))
told_after (Paste acts) watches client t none = (_, refl, refl, inl (refl, refl))
told_after Events watches client t none = absurd cc
told_after Repaint watches client t none = (_, refl, refl, inr refl)
told_after Watch watches client t none = (_, refl, refl, inl (refl, refl))
told_after (Prediction predicting) watches client t none = (_, refl, refl, inl (refl, refl))
told_after Look watches client t none = (_, refl, refl, inl (refl, refl))
told_after LookStyled watches client t none = (_, refl, refl, inl (refl, refl))
told_after (Show s) watches client t none = show_on s watches client t
told_after End watches client t none = (_, refl, refl, inl (refl, refl))

-- a refusal paints nothing
pub refusal_quiet : (text : List ℕ) → IsRefusal true text → (more : List Record) × AreQuiet more × (text ≡ texts_of more)
refusal_quiet text (inl none) = ([], tt, none)
refusal_quiet text (inr (line, words, is)) =
    (records.Refused line words ∷ [], (refl, λ told. refl, tt), is ∙ sym (append-nil (text_of (records.Refused line words))))

-- ---- records that are sent at once

record Quiet (said : List Record) (old new : DisplayStateView) : Type 0 where
  pub quiet : AreQuiet said
  pub sized : new.sized ≡ old.sized
  pub view : new.view ≡ old.view
  pub masks : new.masks ≡ old.masks

unchanged_quiet : (said : List Record) (old new : DisplayStateView) → said ≡ [] → new ≡ old → Quiet said old new
unchanged_quiet said old new none same = record {
  quiet = subst AreQuiet (sym none) tt;
  sized = ap (λ t. t.sized) same;
  view = ap (λ t. t.view) same;
  masks = ap (λ t. t.masks) same;
}

taken_quiet : (acknowledged : ℕ) (said : List Record) (old new : DisplayStateView) → TellsTaken acknowledged said old new → Quiet said old new
taken_quiet acknowledged said old new (same_taken as_before none same) = unchanged_quiet said old new none same
taken_quiet acknowledged said old new (no_memory_for_taken none same) = unchanged_quiet said old new none same
taken_quiet acknowledged said old new (rose lines risen is to) = record {
  quiet = subst AreQuiet (sym is) (refl, λ told. refl, tt);
  sized = ap (λ t. t.sized) to;
  view = ap (λ t. t.view) to;
  masks = ap (λ t. t.masks) to;
}

look_quiet : (screen : Screenshot) (said : List Record) (old new : DisplayStateView) → TellsLook screen said old new → Quiet said old new
look_quiet screen said old new (unasked not_asked none same) = unchanged_quiet said old new none same
look_quiet screen said old new (no_memory_to_look none same) = unchanged_quiet said old new none same
look_quiet screen said old new (looked looking text asked is said_is to) = record {
  quiet = subst AreQuiet (sym said_is) (refl, λ told. refl, tt);
  sized = ap (λ t. t.sized) to;
  view = ap (λ t. t.view) to;
  masks = ap (λ t. t.masks) to;
}

module _ (laid : OverlayOf → ℕ → Type 0) where
  -- the records, and the part of these screens to show
  record Follows (screens : List Screenshot) (said : List Record) (t : DisplayStateView) : Type 0 where
    pub leads : IsSaid said t
    pub shows : IsPartOf laid screens t.masks t.view

  follows_quiet : (screens : List Screenshot) (said more : List Record) (old new : DisplayStateView) → Follows screens said old
      → Quiet more old new → Follows screens (said ++ more) new
  follows_quiet screens said more old new h q = record {
    leads = quiet_on said more old new h.leads q.quiet q.sized (inl q.view);
    shows = part_kept laid screens old new (inl (q.view, q.masks)) h.shows;
  }

  follows_screen : (screens : List Screenshot) (screen : Screenshot) (said more : List Record) (old new : DisplayStateView)
      → IsLaidOf laid screens screen → Follows screens said old → Tells screen more old new → Follows screens (said ++ more) new
  follows_screen screens screen said more old new laid_is h tells = record {
    leads = tells_on screen said more old new h.leads tells;
    shows = by tells;
  }
    where
      by : Tells screen more old new → IsPartOf laid screens new.masks new.view
      by (same_screen part part_is shown_is none same) = subst (λ t. IsPartOf laid screens t.masks t.view) (sym same) h.shows
      by (no_size part part_is none_is none same) = subst (λ t. IsPartOf laid screens t.masks t.view) (sym same) h.shows
      by (no_memory_for_screen none same) = subst (λ t. IsPartOf laid screens t.masks t.view) (sym same) h.shows
      by (a_screen part view text part_is view_is is_new leads still is to) =
          subst (λ t. IsPartOf laid screens t.masks t.view) (sym to) (part, screen, laid_is, view_is)

  laid_over_noted : (screens : List Screenshot) (now : ℕ) (predicting : Option OverlayOf) (noted : Noted) (over : Option Screenshot)
      → IfSome predicting (λ overlay. laid overlay now) → IsOneOf noted.screen screens → IsOver now predicting (Some noted) over
      → IsLaidOf laid screens (shown_screen over noted)
  laid_over_noted screens now predicting noted None were_laid one is = (noted.screen, one, inl refl)
  laid_over_noted screens now None noted (Some over) were_laid one is = absurd is
  laid_over_noted screens now (Some g) noted (Some over) were_laid one is = (noted.screen, one, inr (g, now, were_laid, is.1))

  follows_noted : (screens : List Screenshot) (now : ℕ) (predicting : Option OverlayOf) (outer : Option Noted) (over : Option Screenshot)
      (said more : List Record) (old new : DisplayStateView) → IfSome predicting (λ overlay. laid overlay now) → IsNotedOf screens outer
      → IsOver now predicting outer over → Follows screens said old → TellsNoted outer over more old new → Follows screens (said ++ more) new
  follows_noted screens now predicting None over said more old new were_laid noted is h tells =
      subst (λ l. Follows screens l new) (sym (append-nil said) ∙ ap (λ l. said ++ l) (sym tells.0))
      (subst (Follows screens said) (sym tells.1) h)
  follows_noted screens now predicting (Some noted) over said more old new were_laid one is h (mid, looked_said, shown, looks, tells, joined) =
      let first = follows_quiet screens said looked_said old mid h (look_quiet noted.screen looked_said old mid looks) in
      let laid_is = laid_over_noted screens now predicting noted over were_laid one is in
      let both = follows_screen screens (shown_screen over noted) (said ++ looked_said) shown mid new laid_is first tells in
      subst (λ l. Follows screens l new) (append_assoc said looked_said shown ∙ ap (λ l. said ++ l) (sym joined)) both

  -- ---- a terminal

  module _ {S : Type 0} (remaining contents : S → Option (List ℕ)) where
    pub told_more : (came more : List S) (screens extra : List Screenshot) (t : Terminal S) (display_state : DisplayStateView)
        → IsToldAs laid contents came screens t display_state → IsToldAs laid contents (came ++ more) (screens ++ extra) t display_state
    told_more came more screens extra t display_state h = record {
      stream = h.stream;
      is = one_of_more h.stream came more h.is;
      noted = noted_of_more screens extra t.outer h.noted;
      written = h.written;
      appended = h.appended;
      before = h.before;
      said = h.said;
      parts = h.parts;
      leads = h.leads;
      shows = part_more laid screens extra display_state.masks display_state.view h.shows;
    }

    -- records begin behind the queued bytes
    pub told_begins : (came : List S) (screens : List Screenshot) (old new : Terminal S) (display_state : DisplayStateView)
        → Keeps (contents old.stream) (contents new.stream) → new.outer ≡ None → display_state.view ≡ None → display_state.sized ≡ None
        → IsLed contents came screens old → IsToldAs laid contents came screens new display_state
    told_begins came screens old new display_state keeps none unknown unsized h = record {
      stream = h.stream;
      is = h.is;
      noted = subst (IsNotedOf screens) (sym none) tt;
      written = h.written;
      appended = Appends-kept (contents h.stream) (contents old.stream) (contents new.stream) h.written h.appended keeps;
      before = h.written ++ new.waiting;
      said = [];
      parts = sym (append-nil (h.written ++ new.waiting));
      leads = begins display_state unknown unsized;
      shows = subst (IsPartOf laid screens display_state.masks) (sym unknown) tt;
    }

    -- more records without a painting, and the screen to show stays or becomes unknown
    pub told_on : (came : List S) (screens : List Screenshot) (old new : Terminal S) (t t' : DisplayStateView) (more : List Record)
        → Keeps (contents old.stream) (contents new.stream) → AreQuiet more → new.waiting ≡ old.waiting ++ texts_of more
        → (new.outer ≡ old.outer) ⊎ (new.outer ≡ None) → t'.sized ≡ t.sized → Kept t t' → IsToldAs laid contents came screens old t
        → IsToldAs laid contents came screens new t'
    told_on came screens old new t t' more keeps quiet waiting outer sized kept h = record {
      stream = h.stream;
      is = h.is;
      noted = by outer;
      written = h.written;
      appended = Appends-kept (contents h.stream) (contents old.stream) (contents new.stream) h.written h.appended keeps;
      before = h.before;
      said = h.said ++ more;
      parts = parts_more h.written old.waiting new.waiting h.before h.said more h.parts waiting;
      leads = quiet_on h.said more t t' h.leads quiet sized (kept_view t t' kept);
      shows = part_kept laid screens t t' kept h.shows;
    }
      where
        by : (new.outer ≡ old.outer) ⊎ (new.outer ≡ None) → IsNotedOf screens new.outer
        by (inl same) = subst (IsNotedOf screens) (sym same) h.noted
        by (inr none) = subst (IsNotedOf screens) (sym none) tt

    -- some queued bytes are written
    pub told_flushed : (came : List S) (screens : List Screenshot) (now : ℕ) (old new : Terminal S) (display_state : DisplayStateView)
        → Flushes remaining contents now old new → IsToldAs laid contents came screens old display_state → IsToldAs laid contents came screens new display_state
    told_flushed came screens now old new display_state f h =
        let count = f.writes.count in
        let more = take count old.waiting in
        let outer : new.outer ≡ old.outer = ap (λ t. t.outer) f.others in
        let whole : more ++ new.waiting ≡ old.waiting = ap (λ l. more ++ l) f.writes.left ∙ take-append-drop count old.waiting in
        record {
          stream = h.stream;
          is = h.is;
          noted = subst (IsNotedOf screens) (sym outer) h.noted;
          written = h.written ++ more;
          appended = Appends-trans (contents h.stream) (contents old.stream) (contents new.stream) h.written more h.appended
              f.writes.written;
          before = h.before;
          said = h.said;
          parts = append_assoc h.written more new.waiting ∙ (ap (λ l. h.written ++ l) whole ∙ h.parts);
          leads = h.leads;
          shows = h.shows;
        }

    noted_told : (screens : List Screenshot) (shown : Noted) (old new : Option Noted) → IsNotedOf screens old
        → (new ≡ Some shown) ⊎ (new ≡ old) → IsNotedOf (screens ++ shown.screen ∷ []) new
    noted_told screens shown old new h (inl is) =
        subst (IsNotedOf (screens ++ shown.screen ∷ [])) (sym is) (one_of_last shown.screen screens)
    noted_told screens shown old new h (inr same) =
        subst (IsNotedOf (screens ++ shown.screen ∷ [])) (sym same) (noted_of_more screens (shown.screen ∷ []) old h)

    -- the terminal got its records
    pub told_all : (came : List S) (screens : List Screenshot) (silence : ℕ) (client : ClientView) (old mid new : Terminal S)
        (before : DisplayStateView) → (mid.outer ≡ Some (shown_of client)) ⊎ (mid.outer ≡ old.outer)
        → IfSome mid.predicting (λ overlay. laid overlay silence) → IsOver silence mid.predicting mid.outer mid.over → mid ≡ record old { outer = mid.outer; predicting = mid.predicting; over = mid.over }
        → (p : TellsIt client.kept.acts.acked before mid new) → IsToldAs laid contents came screens old before
        → IsToldAs laid contents came (screens ++ (shown_of client).screen ∷ []) new p.after
    told_all came screens now client old mid new before noted were_laid over others p h = record {
      stream = h.stream;
      is = h.is;
      noted = subst (IsNotedOf later) (sym (ap (λ t. t.outer) p.is)) noted_is;
      written = h.written;
      appended = subst (λ s. Appends (contents h.stream) (contents s) h.written)
          (sym (ap (λ t. t.stream) p.is ∙ ap (λ t. t.stream) others)) h.appended;
      before = h.before;
      said = h.said ++ (p.taken ++ p.shown);
      parts = parts_more h.written old.waiting new.waiting h.before h.said (p.taken ++ p.shown) h.parts
          (ap (λ t. t.waiting) p.is ∙ ap (λ t. t.waiting ++ texts_of (p.taken ++ p.shown)) others);
      leads = done.leads;
      shows = done.shows;
    }
      where
        later : List Screenshot
        later = screens ++ (shown_of client).screen ∷ []

        noted_is : IsNotedOf later mid.outer
        noted_is = noted_told screens (shown_of client) old.outer mid.outer h.noted noted

        first : Follows later h.said before
        first = record { leads = h.leads; shows = part_more laid screens ((shown_of client).screen ∷ []) before.masks before.view h.shows }

        taken_done : Follows later (h.said ++ p.taken) p.between
        taken_done = follows_quiet later h.said p.taken before p.between first
            (taken_quiet client.kept.acts.acked p.taken before p.between p.tells_taken)

        done : Follows later (h.said ++ (p.taken ++ p.shown)) p.after
        done = subst (λ l. Follows later l p.after) (append_assoc h.said p.taken p.shown)
            (follows_noted later now mid.predicting mid.outer mid.over (h.said ++ p.taken) p.shown p.between p.after were_laid noted_is over taken_done
            p.tells_noted)
