-- The changes to a terminal by a call of `hear`.
use Rattle.std.proofs.Common.{◌≡◌, ◌⊎◌, ℕ, Bool, true, false, List, ◌++◌, Option, None, Some, refl, sym, ap, ◌∙◌, subst, inl, inr}
use Rattle.std.specs.Prelude.{◌≢◌, is_some, if◌then◌else◌}
use Rattle.roam_cells.specs.declared.faults.Fault.{Fault}
use Rattle.roam_cells.specs.declared.faults.Fault.TheVariants.{BadAct, OutOfMemory}
use Rattle.roam_hub.specs.Clients.{ClientView}
use Rattle.roam_display_state.specs.DisplayState.{DisplayStateView}
use Rattle.roam_turns.specs.declared.outer.Noted.{Noted}
use Rattle.roam_terminal_input.specs.Entries.{Says, needs_memory}
use Rattle.roam_terminal_input.specs.Lines.{IsFirst, LinesView, front_of}
use Rattle.roam_terminal_input.specs.declared.entries.Entry.{Entry}
use Rattle.roam_terminal_input.specs.declared.entries.Entry.TheVariants.{Acts, Paste, Events, Repaint, Watch, Prediction, Look, LookStyled, Show, End}
use Rattle.roam_terminal_input.specs.declared.lines.Front.TheVariants.{TooLong}
use Rattle.roam_outer_terminal.specs.Hearing.{Asks, HearsOne, HeardStands, IsBad, IsRead, IsRefusal, IsRefused, TakesEntry, TakesLine, is_end, outer_after, told_of}
use Rattle.roam_outer_terminal.specs.Hearing.IsBad.{no_entry as says_nothing, late as too_late, no_memory as wanting}
use Rattle.roam_outer_terminal.specs.Hearing.IsRead.{read, refused}
use Rattle.roam_outer_terminal.specs.Hearing.TakesEntry.{taken as entry_taken, waits as entry_waits, no_memory as entry_wanting, looks as entry_looks, untold as entry_untold, late as entry_late}
use Rattle.roam_outer_terminal.specs.Hearing.TakesLine.{taken as line_taken, waits as line_waits, no_memory as line_wanting, looks as line_looks, untold as line_untold, refused as line_refused, nothing, unheard}
use Rattle.roam_outer_terminal.specs.Terminals.{Hears, Reads, asks_end, ends_by, is_heard}
use Rattle.roam_outer_terminal.specs.declared.hearing.Taking.{Taking}
use Rattle.roam_outer_terminal.specs.declared.hearing.Taking.TheVariants as taking
use Rattle.roam_outer_terminal.specs.declared.terminal.State.{State}
use Rattle.roam_outer_terminal.specs.declared.terminal.State.TheVariants.{Refused, Gone}
use Rattle.roam_outer_terminal.specs.declared.terminal.Terminal.{Terminal}
use Rattle.roam_outer_terminal.proofs.TakenLines.{hears_line, hears_nothing, reads_state}

pub read_on : {S : Type 0} (a b c : Terminal S) → b ≡ record a { stream = b.stream; lines = b.lines; state = b.state }
    → c ≡ record b { stream = c.stream; lines = c.lines; state = c.state }
    → c ≡ record a { stream = c.stream; lines = c.lines; state = c.state }
read_on {S} a b c h k = k ∙ ap (λ (t : Terminal S). record t { stream = c.stream; lines = c.lines; state = c.state }) h

pub refused_after : {S : Type 0} (a b c : Terminal S) → b ≡ record a { stream = b.stream; lines = b.lines; state = b.state }
    → front_of b.lines.kept ≡ TooLong → IsRefused b c → IsRead a c
refused_after {S} a b c h long k =
    let stream : c.stream ≡ b.stream = ap (λ t. t.stream) k.2 in
    let lines : c.lines ≡ b.lines = ap (λ t. t.lines) k.2 in
    let display_state : b.display_state ≡ a.display_state = ap (λ t. t.display_state) h in
    refused k.0 (subst (λ o. IsRefusal (is_some o) k.0) display_state k.1) (ap (λ l. front_of l.kept) lines ∙ long)
    (k.2 ∙ ap (λ (t : Terminal S). record t { state = Refused; outer = None; waiting = t.waiting ++ k.0 }) h
    ∙ (λ i. record a {
      stream = sym stream i;
      lines = sym lines i;
      state = Refused;
      outer = None;
      waiting = a.waiting ++ k.0;
    }))

-- ---- the first line

-- whether it asks for the end
ends_told : (b : Bool) → is_end (if b then taking.End else taking.Line) ≡ b
ends_told true = refl
ends_told false = refl

-- the result of the first line, with the entry of it that was taken
pub entry_heard : {S : Type 0} (entry : Entry) (line rest : List ℕ) (old mid new : Terminal S) (client client' : ClientView) (told : Taking)
    → old.watches ≡ mid.watches → is_heard mid.state ≡ true → IsFirst mid.lines.kept line rest → Says line entry
    → TakesEntry entry mid new client client' told
    → (taken : Option Entry) × (takes : TakesLine taken mid new client client') × (is_end told ≡ asks_end old.watches taken)
    × (told ≡ told_of takes)
entry_heard entry line rest old mid new client client' told same heard first says (entry_taken t may took types predictions is) = (
  Some entry,
  line_taken entry line refl heard (subst (IsFirst mid.lines.kept line) (sym (took line rest first)) first) says may types predictions is,
  ap is_end t ∙ (ends_told (ends_by mid.watches entry) ∙ ap (λ w. ends_by w entry) (sym same)),
  t,
)
entry_heard entry line rest old mid new client client' told same heard first says (entry_waits t watches holds c is) =
    let asks : Asks mid.lines.kept entry = record { line = line; rest = rest; first = first; says = says } in
    (None, line_waits entry refl heard asks watches holds c is, ap is_end t, t)
entry_heard entry line rest old mid new client client' told same heard first says (entry_wanting t watches some c is) =
    let asks : Asks mid.lines.kept entry = record { line = line; rest = rest; first = first; says = says } in
    (None, line_wanting entry refl heard asks watches some c is, ap is_end t, t)
entry_heard entry line rest old mid new client client' told same heard first says (entry_looks t is_look again c is) =
    let asks : Asks mid.lines.kept entry = record { line = line; rest = rest; first = first; says = says } in
    (None, line_looks entry refl heard asks is_look again c is, ap is_end t, t)
entry_heard entry line rest old mid new client client' told same heard first says (entry_untold t told_is c is) =
    let asks : Asks mid.lines.kept Events = record { line = line; rest = rest; first = first; says = subst (Says line) told_is says } in
    (None, line_untold refl heard asks c is, ap is_end t, t)
entry_heard entry line rest old mid new client client' told same heard first says (entry_late t may is c) =
    let asks : Asks mid.lines.kept entry = record { line = line; rest = rest; first = first; says = says } in
    (None, line_refused refl heard (too_late entry asks may) is c, ap is_end t, t)

-- why it is refused
pub line_bad : (lines : LinesView) (display_state : Option DisplayStateView) (line rest : List ℕ) (fault : Fault) → IsFirst lines.kept line rest
    → ((entry : Entry) → Says line entry → fault ≡ OutOfMemory) → (fault ≡ OutOfMemory → (entry : Entry) → Says line entry → needs_memory entry ≡ true)
    → ((fault ≡ BadAct) ⊎ (fault ≡ OutOfMemory)) → IsBad lines display_state
line_bad lines display_state line rest fault first only memory (inl bad_act) =
    says_nothing line rest first (λ entry says. differ (sym bad_act ∙ only entry says))
  where
    differ : BadAct ≡ OutOfMemory → ⊥
    differ e = cc
line_bad lines display_state line rest fault first only memory (inr none) = wanting line rest first (memory none)

-- reading changes nothing of a terminal's wishes
pub watches_read : {S : Type 0} (old mid : Terminal S) → IsRead old mid → old.watches ≡ mid.watches
watches_read old mid (read is) = sym (ap (λ t. t.watches) is)
watches_read old mid (refused text words long is) = sym (ap (λ t. t.watches) is)

-- ---- the noted screen

entry_outer : (entry : Entry) (outer : Option Noted) → (outer_after entry outer ≡ outer) ⊎ (outer_after entry outer ≡ None)
entry_outer (Acts acts) outer = inl refl
entry_outer (Paste acts) outer = inl refl
entry_outer Events outer = inr refl
entry_outer Repaint outer = inr refl
entry_outer Watch outer = inl refl
entry_outer (Prediction predicting) outer = inl refl
entry_outer Look outer = inl refl
entry_outer LookStyled outer = inl refl
entry_outer (Show showing) outer = inl refl
entry_outer End outer = inl refl

either_after : (a b c : Option Noted) → (b ≡ a) ⊎ (b ≡ None) → (c ≡ b) ⊎ (c ≡ None) → (c ≡ a) ⊎ (c ≡ None)
either_after a b c h (inr none) = inr none
either_after a b c (inl same) (inl is) = inl (is ∙ same)
either_after a b c (inr none) (inl is) = inr (is ∙ none)

pub taken_outer : {S : Type 0} (entry : Option Entry) (old new : Terminal S) (client client' : ClientView)
    → TakesLine entry old new client client' → (new.outer ≡ old.outer) ⊎ (new.outer ≡ None)
taken_outer entry old new client client' (line_taken e line is heard first says may types predictions to) =
    either_after old.outer (outer_after e old.outer) new.outer (entry_outer e old.outer) (inl (ap (λ t. t.outer) to))
taken_outer entry old new client client' (line_waits e is heard asks watches holds c same) = inl (ap (λ t. t.outer) same)
taken_outer entry old new client client' (line_wanting e is heard asks watches some c same) = inl (ap (λ t. t.outer) same)
taken_outer entry old new client client' (line_looks e is heard asks is_look again c same) = inl (ap (λ t. t.outer) same)
taken_outer entry old new client client' (line_untold is heard asks c same) = inl (ap (λ t. t.outer) same)
taken_outer entry old new client client' (line_refused is heard why to c) = inr (ap (λ t. t.outer) to.2)
taken_outer entry old new client client' (nothing is heard none c same) = inl (ap (λ t. t.outer) same)
taken_outer entry old new client client' (unheard is not_heard c same) = inl (ap (λ t. t.outer) same)

read_outer : {S : Type 0} (old mid : Terminal S) → IsRead old mid → (mid.outer ≡ old.outer) ⊎ (mid.outer ≡ None)
read_outer old mid (read is) = inl (ap (λ t. t.outer) is)
read_outer old mid (refused text words long is) = inr (ap (λ t. t.outer) is)

pub heard_outer : {S : Type 0} (remaining contents : S → Option (List ℕ)) (entry : Option Entry) (old new : Terminal S)
    (client client' : ClientView) → HearsOne remaining contents entry old new client client' → (new.outer ≡ old.outer) ⊎ (new.outer ≡ None)
heard_outer remaining contents entry old new client client' h =
    either_after old.outer h.read.outer new.outer (read_outer old h.read h.is_read) (taken_outer entry h.read new client client' h.takes)

-- ---- the typed acts

not_gone : (s : State) → is_heard s ≡ true → s ≢ Gone
not_gone s h is = let other : is_heard Gone ≡ true = ap is_heard (sym is) ∙ h in absurd cc

module _ {S : Type 0} (remaining : S → Option (List ℕ)) (old mid new : Terminal S) (client client' : ClientView) where
  -- no line was taken, and the bytes that were read are kept
  untaken : Reads (remaining old.stream) (remaining mid.stream) old.lines.kept mid.lines.kept mid.state → IsRead old mid
      → new.stream ≡ mid.stream → new.lines ≡ mid.lines → new.watches ≡ mid.watches
      → (new.state ≢ Gone → mid.state ≢ Gone) → client' ≡ client
      → Hears (remaining old.stream) (remaining new.stream) old.lines.kept new.lines.kept old.watches new.watches new.state client client'
  untaken reads is_read stream lines watches on same =
      let kept : Reads (remaining old.stream) (remaining new.stream) old.lines.kept new.lines.kept new.state =
      subst (λ x. Reads (remaining old.stream) (remaining x) old.lines.kept new.lines.kept new.state) (sym stream)
      (subst (λ l. Reads (remaining old.stream) (remaining mid.stream) old.lines.kept l.kept new.state) (sym lines)
      (reads_state _ _ _ _ _ _ on reads)) in
      hears_nothing _ _ _ _ _ _ _ client client' kept (watches ∙ sym (watches_read old mid is_read)) same

  pub heard_stands : (entry : Option Entry) → Reads (remaining old.stream) (remaining mid.stream) old.lines.kept mid.lines.kept mid.state
      → IsRead old mid → TakesLine entry mid new client client'
      → Hears (remaining old.stream) (remaining new.stream) old.lines.kept new.lines.kept old.watches new.watches new.state client client'
  heard_stands entry reads is_read (line_taken e line is heard first says may types predictions to) =
      subst (λ x. Hears (remaining old.stream) (remaining x) old.lines.kept new.lines.kept old.watches new.watches new.state client client')
      (sym (ap (λ t. t.stream) to))
      (hears_line _ _ line _ _ _ _ _ _ _ _ client client' e reads (not_gone mid.state heard) (sym (watches_read old mid is_read))
      (ap (λ t. t.watches) to) types first says)
  heard_stands entry reads is_read (line_waits e is heard asks watches holds c same) =
      untaken reads is_read (ap (λ t. t.stream) same) (ap (λ t. t.lines) same) (ap (λ t. t.watches) same)
      (λ on gone. on (ap (λ t. t.state) same ∙ gone)) c
  heard_stands entry reads is_read (line_wanting e is heard asks watches some c same) =
      untaken reads is_read (ap (λ t. t.stream) same) (ap (λ t. t.lines) same) (ap (λ t. t.watches) same)
      (λ on gone. on (ap (λ t. t.state) same ∙ gone)) c
  heard_stands entry reads is_read (line_looks e is heard asks is_look again c same) =
      untaken reads is_read (ap (λ t. t.stream) same) (ap (λ t. t.lines) same) (ap (λ t. t.watches) same)
      (λ on gone. on (ap (λ t. t.state) same ∙ gone)) c
  heard_stands entry reads is_read (line_untold is heard asks c same) =
      untaken reads is_read (ap (λ t. t.stream) same) (ap (λ t. t.lines) same) (ap (λ t. t.watches) same)
      (λ on gone. on (ap (λ t. t.state) same ∙ gone)) c
  heard_stands entry reads is_read (line_refused is heard why to c) =
      untaken reads is_read (ap (λ t. t.stream) to.2) (ap (λ t. t.lines) to.2) (ap (λ t. t.watches) to.2) (λ on. not_gone mid.state heard) c
  heard_stands entry reads is_read (nothing is heard none c same) =
      untaken reads is_read (ap (λ t. t.stream) same) (ap (λ t. t.lines) same) (ap (λ t. t.watches) same)
      (λ on gone. on (ap (λ t. t.state) same ∙ gone)) c
  heard_stands entry reads is_read (unheard is not_heard c same) =
      untaken reads is_read (ap (λ t. t.stream) same) (ap (λ t. t.lines) same) (ap (λ t. t.watches) same)
      (λ on gone. on (ap (λ t. t.state) same ∙ gone)) c

pub heard_lines_stand : {S : Type 0} (remaining contents : S → Option (List ℕ)) → HeardStands remaining contents
heard_lines_stand remaining contents entry old new client client' h =
    heard_stands remaining old h.read new client client' entry h.reads h.is_read h.takes
