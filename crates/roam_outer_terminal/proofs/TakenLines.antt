-- The lines taken from a terminal, one after another.
use Rattle.std.proofs.Common.{◌≡◌, ℕ, Bool, true, false, List, [], ◌∷◌, ◌++◌, append-nil, append_assoc, refl, sym, ap, ◌∙◌, subst, inl, inr}
use Rattle.std.proofs.KnownBytes.{Consumes-nil, Consumes-trans}
use Rattle.std.specs.Prelude.{◌≢◌, ◌⊎◌, Option, None, Some, Ok, Vec}
use Rattle.std.specs.declared.alloc.Global.{Global}
use Rattle.roam_acts.specs.declared.acts.Act.{Act}
use Rattle.roam_hub.specs.Clients.{ClientView, TypesAll, after_typed_all, keeping}
use Rattle.roam_hub.specs.Clients.TypesAll.{watching, full, spent, typed as typed_now, no_memory as none_for_them}
use Rattle.roam_terminal_input.specs.Entries.{Says, acts_in}
use Rattle.roam_terminal_input.specs.declared.entries.Entry.{Entry}
use Rattle.roam_terminal_input.specs.declared.entries.Entry.TheVariants.{Acts, Paste}
use Rattle.roam_terminal_input.specs.declared.entries.Predicting.{Predicting}
use Rattle.roam_terminal_input.specs.Lines.{IsFirst, ended_all}
use Rattle.roam_faults.specs.Streams.{ended_line}
use Rattle.roam_overlay.specs.Overlays.{OverlayOf}
use Rattle.roam_outer_terminal.specs.Hearing.{TakesEntry, TakesWord, TypesLine}
use Rattle.roam_outer_terminal.specs.Hearing.TakesEntry.{taken, waits, no_memory, looks, untold, late}
use Rattle.roam_outer_terminal.specs.Hearing.TakesWord.{taken as word_done, looks as word_looks, untold as word_untold, late as word_late}
use Rattle.roam_outer_terminal.specs.Hearing.TypesLine.{typed as typed_line, waits as line_waits, no_memory as line_no_memory}
use Rattle.roam_outer_terminal.specs.Terminals.{Predictions, Hears, IsSet, Reads, Stands, TakesAll, Types, adaptive_of, fresh_predictions, typed_by, watches_after}
use Rattle.roam_outer_terminal.specs.Terminals.IsSet.{no_predictions, fresh}
use Rattle.roam_outer_terminal.specs.declared.hearing.Taking.{Taking}
use Rattle.roam_outer_terminal.specs.declared.terminal.Terminal.{Terminal}
use Rattle.roam_outer_terminal.specs.declared.terminal.State.{State}
use Rattle.roam_outer_terminal.specs.declared.terminal.State.TheVariants.{Gone}
use Rattle.roam_terminal_input.proofs.Fronts.{first_is_ended}

-- typing nothing leaves an instance
pub types_none : (client client' : ClientView) → client' ≡ client → Types [] client client'
types_none client client' same = same

-- so does a word of the connection
pub word_types : (w : Bool) (entry : Entry) (client : ClientView) → acts_in entry ≡ [] → Types (typed_by w entry) client client
word_types true entry client none = refl
word_types false entry client none = ap (λ l. keeping client (after_typed_all client.kept l)) (sym none)

-- one line more was taken
pub takes_more : (lines : List (List ℕ)) (line : List ℕ) (entry : Entry) (w mid w' : Bool) (acts more : List Act) → TakesAll lines w mid acts
    → Says line entry → w' ≡ watches_after entry mid → more ≡ typed_by mid entry → TakesAll (lines ++ line ∷ []) w w' (acts ++ more)
takes_more [] line entry w mid w' acts more h says watches typed =
    let m : mid ≡ w = h.0 in (
      entry,
      [],
      says,
      ap (λ l. l ++ more) h.1 ∙ (typed ∙ (ap (λ b. typed_by b entry) m ∙ sym (append-nil (typed_by w entry)))),
      (watches ∙ ap (watches_after entry) m, refl),
    )
takes_more (first ∷ lines) line entry w mid w' acts more h says watches typed =
    let rest = takes_more lines line entry (watches_after h.0 w) mid w' h.1 more h.4 says watches typed in
    (h.0, h.1 ++ more, h.2, ap (λ l. l ++ more) h.3 ∙ append_assoc (typed_by w h.0) h.1 more, rest)

ended_more : (lines : List (List ℕ)) (line : List ℕ) → ended_all (lines ++ line ∷ []) ≡ ended_all lines ++ ended_line line
ended_more [] line = append-nil (ended_line line)
ended_more (first ∷ lines) line =
    ap (λ l. ended_line first ++ l) (ended_more lines line) ∙ sym (append_assoc (ended_line first) (ended_all lines) (ended_line line))

-- bytes that are read are kept behind the kept ones
pub stands_read : (kept bytes : List ℕ) (w : Bool) (log : List ℕ) (all : List Act) → Stands kept w log all
    → Stands (kept ++ bytes) w (log ++ bytes) all
stands_read kept bytes w log all h =
    record {
      lines = h.lines;
      is = ap (λ l. l ++ bytes) h.is ∙ append_assoc (ended_all h.lines) kept bytes;
      takes = h.takes;
    }

-- a line was taken
pub stands_taken : (entry : Entry) (line kept kept' : List ℕ) (w : Bool) (log : List ℕ) (all : List Act) → IsFirst kept line kept'
    → Says line entry → Stands kept w log all → Stands kept' (watches_after entry w) log (all ++ typed_by w entry)
stands_taken entry line kept kept' w log all first says h = record {
  lines = h.lines ++ line ∷ [];
  is = h.is ∙ (ap (λ l. ended_all h.lines ++ l) (first_is_ended kept line kept' first)
      ∙ (sym (append_assoc (ended_all h.lines) (ended_line line) kept') ∙ ap (λ l. l ++ kept') (sym (ended_more h.lines line))));
  takes = takes_more h.lines line entry false w (watches_after entry w) all (typed_by w entry) h.takes says refl refl;
}

-- ---- the first line

-- acts that were typed all at once
pub types_all : (acts : List Act) (client client' : ClientView) → TypesAll client acts (Ok tt) client' → Types acts client client'
types_all acts client client' (watching w e s) = absurd cc
types_all acts client client' (full w r e s) = absurd cc
types_all acts client client' (spent w r e s) = absurd cc
types_all acts client client' (typed_now w r n e s) = s
types_all acts client client' (none_for_them w r n some e s) = absurd cc

-- predictions begin as they are wanted, if there is memory
pub is_set : (predicting : Predicting) (watches adaptive : Bool) (new : Option OverlayOf) → watches ≡ false
    → adaptive_of predicting ≡ Some adaptive → ((new ≡ None) ⊎ (new ≡ Some (fresh_predictions adaptive))) → IsSet predicting watches new
is_set predicting watches adaptive new heard wanted (inl none) = no_predictions none
is_set predicting watches adaptive new heard wanted (inr is) = fresh adaptive heard wanted is

module _ {S : Type 0} (old new : Terminal S) (client client' : ClientView) (told : Taking) where
  pub acts_taken : (acts : Vec Act Global) → TypesLine false acts.items old new client client' told
      → TakesEntry (Acts acts) old new client client' told
  acts_taken acts (typed_line t took types predictions is) = taken t refl took types predictions is
  acts_taken acts (line_waits t watches holds same is) = waits t watches holds same is
  acts_taken acts (line_no_memory t watches some same is) = no_memory t watches some same is

  pub paste_taken : (acts : Vec Act Global) → TypesLine true acts.items old new client client' told
      → TakesEntry (Paste acts) old new client client' told
  paste_taken acts (typed_line t took types predictions is) = taken t refl took types predictions is
  paste_taken acts (line_waits t watches holds same is) = waits t watches holds same is
  paste_taken acts (line_no_memory t watches some same is) = no_memory t watches some same is

  -- a word types nothing, and predictions stay unless it says when to show them
  pub word_taken : (entry : Entry) → acts_in entry ≡ []
      → (new.predicting ≡ old.predicting → Predictions old.watches entry client old.predicting new.predicting)
      → TakesWord entry client old new told → TakesEntry entry old new client client told
  word_taken entry none predictions (word_done t may took same is) =
      taken t may took (word_types old.watches entry client none) (predictions same) is
  word_taken entry none predictions (word_looks t is_look again same) = looks t is_look again refl same
  word_taken entry none predictions (word_untold t told_is same) = untold t told_is refl same
  word_taken entry none predictions (word_late t may is) = late t may is refl

-- ---- reading

pub reads_none : (known : Option (List ℕ)) (kept : List ℕ) (state : State) → Reads known known kept kept state
reads_none known kept state = record { bytes = []; consumed = Consumes-nil known; kept_on = λ on. sym (append-nil kept) }

pub reads_more : (before mid after : Option (List ℕ)) (kept came kept' : List ℕ) (state state' : State) → (state ≢ Gone)
    → Reads before mid kept came state → Reads mid after came kept' state' → Reads before after kept kept' state'
reads_more before mid after kept came kept' state state' on first later = record {
  bytes = first.bytes ++ later.bytes;
  consumed = Consumes-trans before mid after first.bytes later.bytes first.consumed later.consumed;
  kept_on = λ is. later.kept_on is ∙ (ap (λ l. l ++ later.bytes) (first.kept_on on) ∙ append_assoc kept first.bytes later.bytes);
}

-- a terminal was heard: nothing was taken of it
pub hears_nothing : (before after : Option (List ℕ)) (kept kept' : List ℕ) (w w' : Bool) (state : State) (client client' : ClientView)
    → Reads before after kept kept' state → w' ≡ w → client' ≡ client → Hears before after kept kept' w w' state client client'
hears_nothing before after kept kept' w w' state client client' reads same is = record {
  bytes = reads.bytes;
  acts = [];
  consumed = reads.consumed;
  typed = types_none client client' is;
  stands = λ on log all h.
      subst (λ l. Stands kept' w' (log ++ reads.bytes) l) (sym (append-nil all))
      (subst (λ b. Stands kept' b (log ++ reads.bytes) all) (sym same)
      (subst (λ l. Stands l w (log ++ reads.bytes) all) (sym (reads.kept_on on)) (stands_read kept reads.bytes w log all h)));
}

-- a line of it was taken
pub hears_line : (before after : Option (List ℕ)) (line kept came kept' : List ℕ) (w mid w' : Bool) (state state' : State)
    (client client' : ClientView) (entry : Entry) → Reads before after kept came state → (state ≢ Gone) → mid ≡ w
    → w' ≡ watches_after entry mid → Types (typed_by mid entry) client client' → IsFirst came line kept' → Says line entry
    → Hears before after kept kept' w w' state' client client'
hears_line before after line kept came kept' w mid w' state state' client client' entry reads on same after_is types first says = record {
  bytes = reads.bytes;
  acts = typed_by mid entry;
  consumed = reads.consumed;
  typed = types;
  stands = λ is log all h.
      subst (λ b. Stands kept' b (log ++ reads.bytes) (all ++ typed_by mid entry)) (sym after_is)
      (stands_taken entry line came kept' mid (log ++ reads.bytes) all first says
      (subst (λ b. Stands came b (log ++ reads.bytes) all) (sym same)
      (subst (λ l. Stands l w (log ++ reads.bytes) all) (sym (reads.kept_on on)) (stands_read kept reads.bytes w log all h))));
}

-- bytes that were kept are kept in another state
pub reads_state : (before after : Option (List ℕ)) (kept kept' : List ℕ) (state state' : State) → (state' ≢ Gone → state ≢ Gone)
    → Reads before after kept kept' state → Reads before after kept kept' state'
reads_state before after kept kept' state state' on reads = record {
  bytes = reads.bytes;
  consumed = reads.consumed;
  kept_on = λ is. reads.kept_on (on is);
}
