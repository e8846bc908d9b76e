-- The queued bytes are written piece by piece.
use Rattle.std.proofs.Common.{◌≡◌, ◌≢◌, ◌⊎◌, ℕ, ◌+◌, ◌≤◌, Bool, true, false, List, [], ◌∷◌, ◌++◌, length, take, drop, Option, Some, None, sym, ap, ◌∙◌, refl, subst, arith, inl, inr}
use Rattle.std.proofs.KnownBytes.{Appends-kept, Appends-nil, Appends-trans}
use Rattle.std.proofs.lemmas.Bool.Decides.{nat_tests}
use Rattle.std.proofs.lemmas.List.{drop-drop, drop-take, take-append-drop}
use Rattle.std.proofs.lemmas.Grind.{common_steps}
use Rattle.std.specs.Prelude.{is_some}
use Rattle.std.specs.Io.KnownBytes.{Appends, Keeps}
use Rattle.roam_stream_framing.specs.Carriers.{Writes}
use Rattle.roam_outer_terminal.specs.Painted.{is_here}
use Rattle.roam_outer_terminal.specs.Silence.{due_of, is_over, notice_of}
use Rattle.roam_display_records.specs.Records.{text_of}
use Rattle.roam_display_records.specs.declared.records.Record.TheVariants.{Heard, Silent}
use Rattle.roam_outer_terminal.specs.Writing.{Flushes, SaysSilence, TellsSilence, has_gone, is_empty, seen_by, state_after, stuck_after, unwritten}
use Rattle.roam_outer_terminal.specs.Writing.SaysSilence.{heard, silent, quiet as says_nothing}
use Rattle.roam_outer_terminal.specs.Writing.TellsSilence.{over, told, quiet, says}
use Rattle.roam_outer_terminal.specs.declared.silence.Silence.{Silence}
use Rattle.roam_outer_terminal.specs.declared.terminal.State.{State}
use Rattle.roam_outer_terminal.specs.declared.terminal.State.TheVariants.{Here, Deaf, Left, Refused, Gone}
use Rattle.roam_outer_terminal.specs.declared.terminal.Terminal.{Terminal}

take_shorter : (a b : ℕ) (xs : List ℕ) → take a (take (a + b) xs) ≡ take a xs
take_shorter a b xs = grind (arith, common_steps)

take_more : (a b : ℕ) (xs : List ℕ) → take a xs ++ take b (drop a xs) ≡ take (a + b) xs
take_more a b xs = sym (sym (take-append-drop a (take (a + b) xs)) ∙ ap (λ t. take a (take (a + b) xs) ++ t) (drop-take a b xs)
    ∙ ap (λ t. t ++ take b (drop a xs)) (take_shorter a b xs))

pub keeps_none : (known : Option (List ℕ)) → Keeps known known
keeps_none None = tt
keeps_none (Some xs) = refl

pub keeps_more : (before mid after : Option (List ℕ)) → Keeps before mid → Keeps mid after → Keeps before after
keeps_more None mid after h k = tt
keeps_more (Some xs) None after h k = absurd h
keeps_more (Some xs) (Some ys) None h k = absurd k
keeps_more (Some xs) (Some ys) (Some zs) h k = k ∙ h

pub writes_none : (before after : Option (List ℕ)) (old : List ℕ) → Keeps before after → Writes before after old old
writes_none before after old keeps = record { count = 0; written = Appends-kept before before after [] (Appends-nil before) keeps; left = refl }

pub writes_more : (before mid after : Option (List ℕ)) (old came new : List ℕ) → Writes before mid old came → Writes mid after came new → Writes before after old new
writes_more before mid after old came new first later = record {
  count = first.count + later.count;
  written = subst (Appends before after) (ap (λ t. take first.count old ++ take later.count t) first.left ∙ take_more first.count later.count old)
      (Appends-trans before mid after (take first.count old) (take later.count came) first.written later.written);
  left = later.left ∙ ap (λ t. drop later.count t) first.left ∙ drop-drop later.count first.count old;
}

-- ---- whether some of what waited was taken

pub no_more_gone : (has_taken : Bool) (old came new : List ℕ) → has_taken ≡ has_gone old came → length new + 0 ≡ length came
    → has_taken ≡ has_gone old new
no_more_gone has_taken old came new gone same = grind (arith, nat_tests)

pub more_gone : (count : ℕ) (old came new : List ℕ) → length came ≤ length old → length new + count ≡ length came → count ≢ 0
    → true ≡ has_gone old new
more_gone count old came new fewer same some = grind (arith, nat_tests)

-- ---- one write after another

pub others_write : {S : Type 0} (a b c : Terminal S) → b ≡ record a { stream = b.stream; waiting = b.waiting; state = b.state }
    → c ≡ record b { stream = c.stream; waiting = c.waiting; state = c.state }
    → c ≡ record a { stream = c.stream; waiting = c.waiting; state = c.state }
others_write {S} a b c h k = k ∙ ap (λ (t : Terminal S). record t { stream = c.stream; waiting = c.waiting; state = c.state }) h

pub fails_from : (a b c : State) → b ≡ a → ((c ≡ b) ⊎ (c ≡ unwritten b)) → (c ≡ a) ⊎ (c ≡ unwritten a)
fails_from a b c same (inl is) = inl (is ∙ same)
fails_from a b c same (inr is) = inr (is ∙ ap unwritten same)

pub flushes_by : {S : Type 0} (remaining contents : S → Option (List ℕ)) (now : ℕ) (has_taken : Bool) (old mid new : Terminal S)
    → Writes (contents old.stream) (contents mid.stream) old.waiting mid.waiting → Keeps (remaining old.stream) (remaining mid.stream)
    → has_taken ≡ has_gone old.waiting mid.waiting → ((mid.state ≡ old.state) ⊎ (mid.state ≡ unwritten old.state))
    → mid ≡ record old { stream = mid.stream; waiting = mid.waiting; state = mid.state }
    → new.stuck ≡ stuck_after (is_empty mid.waiting) has_taken now mid.stuck
    → new.state ≡ state_after (is_empty mid.waiting) has_taken now mid.stuck mid.state
    → new ≡ record mid { stuck = new.stuck; state = new.state } → Flushes remaining contents now old new
flushes_by {S} remaining contents now has_taken old mid new writes apart gone fails first stuck state later =
    let stream : new.stream ≡ mid.stream = ap (λ t. t.stream) later in
    let waiting : new.waiting ≡ mid.waiting = ap (λ t. t.waiting) later in
    let was : mid.stuck ≡ old.stuck = ap (λ t. t.stuck) first in
    let took : has_taken ≡ has_gone old.waiting new.waiting = gone ∙ ap (has_gone old.waiting) (sym waiting) in
    record {
      writes = subst (λ s. Writes (contents old.stream) (contents s) old.waiting new.waiting) (sym stream)
          (subst (λ w. Writes (contents old.stream) (contents mid.stream) old.waiting w) (sym waiting) writes);
      apart = subst (λ s. Keeps (remaining old.stream) (remaining s)) (sym stream) apart;
      written = mid.state;
      fails = fails;
      stuck = stuck ∙ (λ i. stuck_after (is_empty (sym waiting i)) (took i) now (was i));
      state = state ∙ (λ i. state_after (is_empty (sym waiting i)) (took i) now (was i) mid.state);
      others = later ∙ ap (λ (t : Terminal S). record t { stuck = new.stuck; state = new.state }) first
          ∙ (λ i. record old { stream = sym stream i; waiting = sym waiting i; stuck = new.stuck; state = new.state });
    }

-- ---- silence

pub empty_is : (waiting : List ℕ) → is_empty waiting ≡ true → waiting ≡ []
empty_is [] e = refl
empty_is (byte ∷ bytes) e = absurd cc

pub here_is : (s : State) → is_here s ≡ true → s ≡ Here
here_is Here e = refl
here_is Deaf e = absurd cc
here_is Left e = absurd cc
here_is Refused e = absurd cc
here_is Gone e = absurd cc

pub tells_by : {S : Type 0} (silence : Silence) (seconds : ℕ) (old new : Terminal S) → is_some old.display_state ≡ false
    → is_over (seen_by silence old) ≡ false → due_of (seen_by silence old) ≡ Some seconds → old.waiting ≡ [] → old.over ≡ None
    → old.state ≡ Here
    → ((new ≡ old)
    ⊎ (new ≡ record old { told = Some seconds; outer = None; waiting = old.waiting ++ notice_of seconds }))
    → TellsSilence silence old new
tells_by silence seconds old new untold h due empty bare here (inl same) = quiet untold h same
tells_by silence seconds old new untold h due empty bare here (inr is) =
    told seconds untold h due empty bare here
    (is ∙ (λ i. record old { told = Some seconds; outer = None; waiting = empty i ++ notice_of seconds }))

-- ---- silence in records

pub says_silent : {S : Type 0} (seen : Silence) (seconds : ℕ) (old new : Terminal S) → is_over seen ≡ false → due_of seen ≡ Some seconds
    → old.waiting ≡ [] → old.state ≡ Here
    → ((new ≡ old) ⊎ (new ≡ record old { told = Some seconds; waiting = old.waiting ++ text_of (Silent seconds) }))
    → SaysSilence seen old new
says_silent seen seconds old new h due empty here (inl same) = says_nothing same
says_silent seen seconds old new h due empty here (inr is) =
    silent seconds h due empty here (is ∙ (λ i. record old { told = Some seconds; waiting = empty i ++ text_of (Silent seconds) }))

pub says_heard : {S : Type 0} (seen : Silence) (old new : Terminal S) → is_over seen ≡ true → old.waiting ≡ [] → old.state ≡ Here
    → ((new ≡ old) ⊎ (new ≡ record old { told = None; waiting = old.waiting ++ text_of Heard })) → SaysSilence seen old new
says_heard seen old new h empty here (inl same) = says_nothing same
says_heard seen old new h empty here (inr is) =
    heard h empty here (is ∙ (λ i. record old { told = None; waiting = empty i ++ text_of Heard }))

said_outer : {S : Type 0} (seen : Silence) (old new : Terminal S) → SaysSilence seen old new → new.outer ≡ old.outer
said_outer seen old new (heard h empty here is) = ap (λ t. t.outer) is
said_outer seen old new (silent seconds h due empty here is) = ap (λ t. t.outer) is
said_outer seen old new (says_nothing is) = ap (λ t. t.outer) is

pub settled_outer : {S : Type 0} (silence : Silence) (remaining contents : S → Option (List ℕ)) (now : ℕ) (old mid new : Terminal S)
    → TellsSilence silence old mid → Flushes remaining contents now mid new → (new.outer ≡ old.outer) ⊎ (new.outer ≡ None)
settled_outer silence remaining contents now old mid new tells flushes = by (told_outer tells)
  where
    told_outer : TellsSilence silence old mid → (mid.outer ≡ old.outer) ⊎ (mid.outer ≡ None)
    told_outer (over untold h is) = inr (ap (λ t. t.outer) is)
    told_outer (told seconds untold h due empty bare here is) = inr (ap (λ t. t.outer) is)
    told_outer (quiet untold h is) = inl (ap (λ t. t.outer) is)
    told_outer (says is h) = inl (said_outer (seen_by silence old) old mid h)

    by : (mid.outer ≡ old.outer) ⊎ (mid.outer ≡ None) → (new.outer ≡ old.outer) ⊎ (new.outer ≡ None)
    by (inl same) = inl (ap (λ t. t.outer) flushes.others ∙ same)
    by (inr gone) = inr (ap (λ t. t.outer) flushes.others ∙ gone)
