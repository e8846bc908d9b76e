-- How a log's control strings grow.
use Rattle.std.proofs.Common.{◌≡◌, ℕ, List, [], ◌∷◌, ◌++◌, map, true, false, refl, sym, ap, ◌∙◌, append_assoc, subst}
use Rattle.std.proofs.lemmas.List.{append-nil}
use Rattle.roam_text.specs.declared.strings.StringPhase.{StringPhase}
use Rattle.roam_text.specs.declared.strings.StringPhase.TheVariants.{Ground, InEscapeSequence, InControlSequence, InControlString, AfterEscape}
use Rattle.roam_text.specs.declared.strings.StringSteps.{StringSteps}
use Rattle.roam_text.specs.declared.strings.StringStep.TheVariants.{Nothing}
use Rattle.roam_text.specs.Log.{Item, Byte, Resized, Sign, Resize, character, bytes_of, signs_after, signs, gained_characters, settled_part, unfinished_part}
use Rattle.roam_text.specs.Strings.{ControlString, Strings, no_strings, strings, strings_by, strings_of, after_step, after_steps}
use Rattle.roam_text.specs.StringPhases.{StringView, Follows, NoStringOpen, strings_in, moved_by, behind_strings}
use Rattle.roam_text.proofs.Bytes.{unfinished-append, unfinished-end, unfinished-empty}
use Rattle.roam_text.proofs.Logs.{signs-byte, bytes_of-byte, signs_after-size, bytes_of-size}
use Rattle.roam_text.proofs.Growth.{signs-append}
use Rattle.roam_text.proofs.StringMoves.{strings-step, step-ended, begun_in, ended_by, text_by, character-comes, nothing-comes, step-is}

-- the known strings of some signs, if a reader is in a phase after them
record Known (known : List Sign) (phase : StringPhase) (all : Strings) : Type 0 where
  before : List ControlString
  text : List ℕ
  knows : (rest : List Sign) → strings (known ++ rest) ≡ behind_strings before (strings_in phase text rest)
  is : all ≡ record { ended = before; begun = begun_in phase text }

all-is : (known : List Sign) (phase : StringPhase) (before : List ControlString) (text : List ℕ)
    → ((rest : List Sign) → strings (known ++ rest) ≡ behind_strings before (strings_in phase text rest))
    → strings known ≡ record { ended = before; begun = begun_in phase text }
all-is known phase before text knows =
    ap strings (sym (append-nil known)) ∙ knows []
    ∙ ap (behind_strings before) (nothing-comes phase text)
    ∙ ap (λ l. record { ended = l; begun = begun_in phase text }) (append-nil before)

one-more : (known : List Sign) (phase : StringPhase) (all : Strings) (c : ℕ) → Known known phase all
    → Known (known ++ character c ∷ []) (moved_by phase c).phase (after_step (moved_by phase c).step all)
one-more known phase all c k =
    let m = moved_by phase c in
    record {
      before = k.before ++ ended_by m.step phase k.text;
      text = text_by m.step k.text;
      knows = λ rest. ap strings (append_assoc known (character c ∷ []) rest) ∙ k.knows (character c ∷ rest)
          ∙ ap (behind_strings k.before) (character-comes phase k.text c rest)
          ∙ ap (λ l. record { ended = l; begun = (strings_in m.phase (text_by m.step k.text) rest).begun })
          (sym (append_assoc k.before (ended_by m.step phase k.text) (strings_in m.phase (text_by m.step k.text) rest).ended));
      is = ap (after_step m.step) k.is ∙ step-is k.before phase k.text c;
    }

module _ (old new : StringView) (b : ℕ) (pending : new.pending ≡ unfinished_part (old.pending ++ b ∷ [])) (log : List Item) (follows : Follows old log) where
  abbrev pub later : List Item
  later = log ++ Byte b ∷ []

  abbrev pub chars : List ℕ
  chars = settled_part (old.pending ++ b ∷ [])

  signs-are : signs later ≡ signs log ++ map character chars
  signs-are = signs-byte log b ∙ sym (ap (λ l. signs log ++ map character (settled_part (l ++ b ∷ []))) follows.pending)

  pending-is : new.pending ≡ unfinished_part (bytes_of later)
  pending-is = pending ∙ ap (λ l. unfinished_part (l ++ b ∷ [])) follows.pending
      ∙ sym (unfinished-append (bytes_of log) (b ∷ [])) ∙ sym (ap unfinished_part (bytes_of-byte log b))

  begin : Known (signs log) old.phase (strings_by log)
  begin = record {
    before = follows.before;
    text = follows.text;
    knows = follows.to_come;
    is = all-is (signs log) old.phase follows.before follows.text follows.to_come;
  }

  -- the reader after the characters that the byte settled
  pub record Read (steps : StringSteps) : Type 0 where
    pub stays : Follows new later
    pub all : strings_by later ≡ after_steps steps (strings_by log)

  read-by : (steps : StringSteps) (known : List Sign) → signs later ≡ known → Known known new.phase (after_steps steps (strings_by log)) → Read steps
  read-by steps known e k =
      let here = subst (λ l. Known l new.phase (after_steps steps (strings_by log))) (sym e) k in
      record {
        stays = record { pending = pending-is; before = here.before; text = here.text; to_come = here.knows };
        all = all-is (signs later) new.phase here.before here.text here.knows ∙ sym here.is;
      }

  pub read-none : [] ≡ chars → new.phase ≡ old.phase → Read (record { first = Nothing; later = Nothing })
  read-none none same = read-by (record { first = Nothing; later = Nothing }) (signs log)
      (signs-are ∙ ap (λ l. signs log ++ map character l) (sym none) ∙ append-nil (signs log))
      (subst (λ p. Known (signs log) p (strings_by log)) (sym same) begin)

  pub read-one : (c : ℕ) → c ∷ [] ≡ chars → new.phase ≡ (moved_by old.phase c).phase
      → Read (record { first = Nothing; later = (moved_by old.phase c).step })
  read-one c one phase = read-by (record { first = Nothing; later = (moved_by old.phase c).step }) (signs log ++ character c ∷ [])
      (signs-are ∙ ap (λ l. signs log ++ map character l) (sym one))
      (subst (λ p. Known (signs log ++ character c ∷ []) p (after_step (moved_by old.phase c).step (strings_by log))) (sym phase)
      (one-more (signs log) old.phase (strings_by log) c begin))

  pub read-two : (d c : ℕ) → d ∷ c ∷ [] ≡ chars → new.phase ≡ (moved_by (moved_by old.phase d).phase c).phase
      → Read (record { first = (moved_by old.phase d).step; later = (moved_by (moved_by old.phase d).phase c).step })
  read-two d c two phase =
      let first = moved_by old.phase d in
      let last = moved_by first.phase c in
      let known = signs log ++ character d ∷ [] in
      let all = after_step first.step (strings_by log) in
      read-by (record { first = first.step; later = last.step }) (known ++ character c ∷ [])
      (signs-are ∙ ap (λ l. signs log ++ map character l) (sym two) ∙ sym (append_assoc (signs log) (character d ∷ []) (character c ∷ [])))
      (subst (λ p. Known (known ++ character c ∷ []) p (after_step last.step all)) (sym phase)
      (one-more known first.phase all c (one-more (signs log) old.phase (strings_by log) d begin)))

-- nothing was read
pub follows-empty : (r : StringView) → r.pending ≡ [] → r.phase ≡ Ground → Follows r []
follows-empty r empty ground = record {
  pending = empty ∙ sym (unfinished-end [] unfinished-empty);
  before = [];
  text = [];
  to_come = λ rest. sym (ap (λ p. strings_in p [] rest) ground);
}

-- outside all sequences and strings, and between characters
pub rests : (r : StringView) → r.pending ≡ [] → r.phase ≡ Ground → (log : List Item) → Follows r log → NoStringOpen log
rests r empty ground log follows =
    let knows : (rest : List Sign) → strings (signs log ++ rest) ≡ behind_strings follows.before (strings rest) =
    λ rest. follows.to_come rest ∙ ap (λ p. behind_strings follows.before (strings_in p follows.text rest)) ground in
    let all = all-is (signs log) Ground follows.before follows.text knows in
    record {
      whole = sym follows.pending ∙ empty;
      to_come = λ rest. knows rest ∙ sym (ap (λ (s : Strings). behind_strings s.ended (strings rest)) all);
    }

-- ---- sizes

size-comes : (p : StringPhase) (t : List ℕ) (r c : ℕ) (rest : List Sign) → strings_in p t (Resize r c ∷ rest) ≡ strings_in p t rest
size-comes Ground t r c rest = strings-step (Resize r c) rest
size-comes (InEscapeSequence true) t r c rest = refl
size-comes (InEscapeSequence false) t r c rest = refl
size-comes InControlSequence t r c rest = refl
size-comes (InControlString kind bell) t r c rest = refl
size-comes (AfterEscape kind) t r c rest = refl

size-more : (known : List Sign) (phase : StringPhase) (all : Strings) (r c : ℕ) → Known known phase all → Known (known ++ Resize r c ∷ []) phase all
size-more known phase all r c k = record {
  before = k.before;
  text = k.text;
  knows = λ rest. ap strings (append_assoc known (Resize r c ∷ []) rest) ∙ k.knows (Resize r c ∷ rest)
      ∙ ap (behind_strings k.before) (size-comes phase k.text r c rest);
  is = k.is;
}

known-after : (reader : StringView) (log : List Item) → Follows reader log → Known (signs log) reader.phase (strings_by log)
known-after reader log follows = record {
  before = follows.before;
  text = follows.text;
  knows = follows.to_come;
  is = all-is (signs log) reader.phase follows.before follows.text follows.to_come;
}

module _ (reader : StringView) (log : List Item) (r c : ℕ) (follows : Follows reader log) where
  resized : Known (signs (log ++ Resized r c ∷ [])) reader.phase (strings_by log)
  resized = subst (λ l. Known l reader.phase (strings_by log)) (sym (signs_after-size [] log r c))
      (size-more (signs log) reader.phase (strings_by log) r c (known-after reader log follows))

  -- a size says nothing to control strings
  pub size-follows : Follows reader (log ++ Resized r c ∷ [])
  size-follows = record {
    pending = follows.pending ∙ sym (ap unfinished_part (bytes_of-size log r c));
    before = resized.before;
    text = resized.text;
    to_come = resized.knows;
  }

  pub size-strings : strings_by (log ++ Resized r c ∷ []) ≡ strings_by log
  size-strings = all-is (signs (log ++ Resized r c ∷ [])) reader.phase resized.before resized.text resized.knows ∙ sym resized.is

-- ---- the strings of a front are a front of the strings

-- the known strings after more signs, and those that they added
record Grown (known : List Sign) (first : List ControlString) : Type 0 where
  phase : StringPhase
  all : Strings
  after : Known known phase all
  later : List ControlString
  ended : all.ended ≡ first ++ later

module _ (first : List ControlString) where
  grown-characters : (known : List Sign) (cs : List ℕ) → Grown known first → Grown (known ++ map character cs) first
  grown-characters known [] g = subst (λ l. Grown l first) (sym (append-nil known)) g
  grown-characters known (c ∷ cs) g =
      let m = moved_by g.phase c in
      let ends = step-ended g.after.before m.step g.phase g.after.text in
      subst (λ l. Grown l first) (append_assoc known (character c ∷ []) (map character cs))
      (grown-characters (known ++ character c ∷ []) cs (record {
        phase = m.phase;
        all = after_step m.step g.all;
        after = one-more known g.phase g.all c g.after;
        later = g.later ++ ended_by m.step g.phase g.after.text;
        ended = ap (λ (s : Strings). (after_step m.step s).ended) g.after.is ∙ ends
            ∙ ap (λ l. l ++ ended_by m.step g.phase g.after.text) (sym (ap (λ (s : Strings). s.ended) g.after.is) ∙ g.ended)
            ∙ append_assoc first g.later (ended_by m.step g.phase g.after.text);
      }))

  grown-items : (known : List Sign) (before : List ℕ) (more : List Item) → Grown known first → Grown (known ++ signs_after before more) first
  grown-items known before [] g = subst (λ l. Grown l first) (sym (append-nil known)) g
  grown-items known before (Byte b ∷ more) g =
      let added = map character (gained_characters before b) in
      subst (λ l. Grown l first) (append_assoc known added (signs_after (before ++ b ∷ []) more))
      (grown-items (known ++ added) (before ++ b ∷ []) more (grown-characters known (gained_characters before b) g))
  grown-items known before (Resized r c ∷ more) g =
      subst (λ l. Grown l first) (append_assoc known (Resize r c ∷ []) (signs_after before more))
      (grown-items (known ++ Resize r c ∷ []) before more (record {
        phase = g.phase;
        all = g.all;
        after = size-more known g.phase g.all r c g.after;
        later = g.later;
        ended = g.ended;
      }))

nothing-known : Known [] Ground no_strings
nothing-known = record { before = []; text = []; knows = λ rest. refl; is = refl }

-- the ended strings of known signs
grown-ended : (known : List Sign) (first : List ControlString) (g : Grown known first) → (strings known).ended ≡ first ++ g.later
grown-ended known first g =
    ap (λ (s : Strings). s.ended) (all-is known g.phase g.after.before g.after.text g.after.knows ∙ sym g.after.is) ∙ g.ended

pub strings_of-front : (log more : List Item) → (later : List ControlString) × (strings_of (log ++ more) ≡ strings_of log ++ later)
strings_of-front log more =
    let here = grown-items [] [] [] log (record { phase = Ground; all = no_strings; after = nothing-known; later = []; ended = refl }) in
    let start : Grown (signs log) here.all.ended =
    record { phase = here.phase; all = here.all; after = here.after; later = []; ended = sym (append-nil here.all.ended) } in
    let there = grown-items here.all.ended (signs log) (bytes_of log) more start in
    let now : here.all.ended ≡ strings_of log = sym (grown-ended (signs log) here.all.ended start ∙ append-nil here.all.ended) in (
      there.later,
      ap (λ l. (strings l).ended) (signs-append [] log more)
          ∙ grown-ended (signs log ++ signs_after (bytes_of log) more) here.all.ended there ∙ ap (λ l. l ++ there.later) now,
    )
