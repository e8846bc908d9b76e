-- The effect of each character on the control strings to come.
use Rattle.std.proofs.Common.{◌≡◌, ℕ, zero, suc, ◌+◌, ◌≤◌, Bool, true, false, cond, nat_lt, List, [], ◌∷◌, ◌++◌, length, Option, None, Some, refl, sym, ap, ◌∙◌, arith, append_assoc, subst}
use Rattle.std.specs.Prelude.{⊤, ◌==◌, ◌&&◌}
use Rattle.std.proofs.lemmas.Bool.{eqb-true}
use Rattle.std.proofs.lemmas.List.{append-nil}
use Rattle.roam_text.specs.declared.kinds.Kind.{Kind}
use Rattle.roam_text.specs.declared.kinds.Kind.TheVariants.{C0Control, Bell, Cancel, Escape, Intermediate, Digit, Colon, Separator, PrivateMarker, Upper, Lower, Delete, StringOpening, CommandOpening, SequenceIntroducer, StringTerminator}
use Rattle.roam_text.specs.declared.strings.StringKind.{StringKind}
use Rattle.roam_text.specs.declared.strings.StringEnd.TheVariants.{EscapedTerminator}
use Rattle.roam_text.specs.declared.strings.StringStep.{StringStep}
use Rattle.roam_text.specs.declared.strings.StringStep.TheVariants.{Nothing, Opened, Added, Ended, BrokenOff}
use Rattle.roam_text.specs.declared.strings.StringPhase.{StringPhase}
use Rattle.roam_text.specs.declared.strings.StringPhase.TheVariants.{Ground, InEscapeSequence, InControlSequence, InControlString, AfterEscape}
use Rattle.roam_text.specs.declared.strings.StringMove.{StringMove}
use Rattle.roam_text.specs.Kinds.{kind_of}
use Rattle.roam_text.specs.Log.{Sign, Character, character, characters}
use Rattle.roam_text.specs.Inside.{front_while, rest_while}
use Rattle.roam_text.specs.ControlStrings.{in_control_string, control_string}
use Rattle.roam_text.specs.ControlSequences.{Header, in_control_sequence, body_of, header, all_inter, codes, end_control_sequence}
use Rattle.roam_text.specs.EscapeSequences.{in_escape_sequence, end_escape_sequence, c1_control}
use Rattle.roam_text.specs.Functions.{front}
use Rattle.roam_text.specs.Strings.{ControlString, OpenString, Strings, no_strings, one_string, open_alone, after_escape, string_end, opened, spelled, front_strings, followed_by, strings_from, strings, ended_so, after_step}
use Rattle.roam_text.specs.StringPhases.{escape_strings, late_escape_strings, sequence_strings, strings_in, moved_by_c1, moved_from_ground, moved_in_escape_sequence, moved_in_control_sequence, moved_in_control_string, moved_by, broken_off, behind_strings}
use Rattle.roam_text.proofs.Fronts.{front-le}

-- ---- front by front

strings_from-nil : (n : ℕ) → strings_from n [] ≡ no_strings
unfolding strings_from
strings_from-nil zero = refl
strings_from-nil (suc n) = refl

strings_from-same : (m n : ℕ) (xs : List Sign) → length xs ≤ m → length xs ≤ n → strings_from m xs ≡ strings_from n xs
unfolding strings_from
strings_from-same zero n [] a b = sym (strings_from-nil n)
strings_from-same zero n (s ∷ xs) a b = absurd (omega arith)
strings_from-same (suc m) zero [] a b = refl
strings_from-same (suc m) zero (s ∷ xs) a b = absurd (omega arith)
strings_from-same (suc m) (suc n) [] a b = refl
strings_from-same (suc m) (suc n) (s ∷ xs) a b =
    let less = front-le s xs in
    ap (followed_by (front_strings s xs)) (strings_from-same m n (front s xs).left (omega arith) (omega arith))

pub strings-nil : strings [] ≡ no_strings
unfolding strings strings_from
strings-nil = refl

-- the strings of a front, and those of the signs after it
pub strings-step : (s : Sign) (xs : List Sign) → strings (s ∷ xs) ≡ followed_by (front_strings s xs) (strings (front s xs).left)
unfolding strings strings_from
strings-step s xs =
    let less = front-le s xs in
    ap (followed_by (front_strings s xs)) (strings_from-same (length xs) (length (front s xs).left) (front s xs).left (omega arith) (omega arith))

-- ---- the kept parts do not depend on the strings before

control-left : (h : Option Header) (xs : List Sign) → (end_control_sequence h xs).left ≡ (end_control_sequence None xs).left
control-left h [] = refl
control-left h (Character (Cancel b) c ∷ xs) = refl
control-left h (Character (Upper b) c ∷ xs) = refl
control-left h (Character (Lower b) c ∷ xs) = refl
control-left h (s ∷ xs) = refl

escape-left : (b : ℕ) (is : List ℕ) (xs : List Sign) → (end_escape_sequence (Some (b ∷ is)) xs).left ≡ (end_escape_sequence None xs).left
escape-left b is [] = refl
escape-left b is (Character (Upper u) c ∷ xs) = refl
escape-left b is (s ∷ xs) = refl

late-spelled : (b : ℕ) (is : List ℕ) (xs : List Sign) → spelled (Some (b ∷ is)) xs ≡ no_strings
late-spelled b is [] = refl
late-spelled b is (s ∷ xs) = refl

none-spelled : (xs : List Sign) → spelled None xs ≡ no_strings
none-spelled [] = refl
none-spelled (s ∷ xs) = refl

-- after an intermediate byte no string is opened
late : (t : Bool) (b : ℕ) (is : List ℕ) (xs : List Sign)
    → followed_by (spelled (cond t (Some (b ∷ is)) None) xs) (strings (end_escape_sequence (cond t (Some (b ∷ is)) None) xs).left)
    ≡ strings (end_escape_sequence None xs).left
late true b is xs =
    ap (λ s. followed_by s (strings (end_escape_sequence (Some (b ∷ is)) xs).left)) (late-spelled b is xs)
    ∙ ap strings (escape-left b is xs)
late false b is xs = ap (λ s. followed_by s (strings (end_escape_sequence None xs).left)) (none-spelled xs)

-- ---- one character more

-- the string that is open in a phase, with this text
abbrev pub begun_in : StringPhase → List ℕ → Option OpenString
begun_in (InControlString kind bell) text = Some (record { kind = kind; text = text })
begun_in (AfterEscape kind) text = Some (record { kind = kind; text = text })
begun_in phase text = None

abbrev pub ended_by : StringStep → StringPhase → List ℕ → List ControlString
ended_by (Ended ending) phase text = ended_so ending (begun_in phase text)
ended_by step phase text = []

abbrev pub text_by : StringStep → List ℕ → List ℕ
text_by Nothing text = text
text_by (Added c) text = text ++ c ∷ []
text_by step text = []

abbrev Comes : StringPhase → List ℕ → List Sign → StringMove → Strings → Type 0
Comes phase text rest m s = s ≡ behind_strings (ended_by m.step phase text) (strings_in m.phase (text_by m.step text) rest)

c1-comes : (p : StringPhase) (t : List ℕ) (k : Kind) (c : ℕ) (rest : List Sign)
    → Comes p t rest (moved_by_c1 k c) (followed_by (opened k c rest) (strings (c1_control k rest).left))
c1-comes p t StringOpening c rest = refl
c1-comes p t CommandOpening c rest = refl
c1-comes p t SequenceIntroducer c rest = ap strings (control-left (header (body_of (front_while in_control_sequence rest))) (rest_while in_control_sequence rest))
c1-comes p t k c rest = refl

ground-comes : (p : StringPhase) (t : List ℕ) (k : Kind) (c : ℕ) (rest : List Sign)
    → Comes p t rest (moved_from_ground k c) (strings (Character k c ∷ rest))
ground-comes p t Escape c rest = strings-step (Character Escape c) rest
ground-comes p t StringOpening c rest = strings-step (Character StringOpening c) rest ∙ c1-comes p t StringOpening c rest
ground-comes p t CommandOpening c rest = strings-step (Character CommandOpening c) rest ∙ c1-comes p t CommandOpening c rest
ground-comes p t SequenceIntroducer c rest = strings-step (Character SequenceIntroducer c) rest ∙ c1-comes p t SequenceIntroducer c rest
ground-comes p t k c rest = strings-step (Character k c) rest

escape-comes : (p : StringPhase) (t : List ℕ) (k : Kind) (c : ℕ) (rest : List Sign)
    → Comes p t rest (moved_in_escape_sequence true k c) (escape_strings (Character k c ∷ rest))
escape-comes p t (C0Control b) c rest = refl
escape-comes p t Bell c rest = refl
escape-comes p t Delete c rest = refl
escape-comes p t (Intermediate b) c rest =
    let body = body_of (front_while in_escape_sequence rest) in
    late (all_inter body && nat_lt (suc (length body)) 3) b (codes body) (rest_while in_escape_sequence rest)
escape-comes p t (Upper b) c rest = c1-comes p t (kind_of (b + 64)) (b + 64) rest
escape-comes p t (Cancel b) c rest = refl
escape-comes p t (Digit b) c rest = refl
escape-comes p t Colon c rest = refl
escape-comes p t Separator c rest = refl
escape-comes p t (PrivateMarker b) c rest = refl
escape-comes p t (Lower b) c rest = refl
escape-comes p t k c rest = ground-comes p t k c rest

late-comes : (p : StringPhase) (t : List ℕ) (k : Kind) (c : ℕ) (rest : List Sign)
    → Comes p t rest (moved_in_escape_sequence false k c) (late_escape_strings (Character k c ∷ rest))
late-comes p t (C0Control b) c rest = refl
late-comes p t Bell c rest = refl
late-comes p t Delete c rest = refl
late-comes p t (Intermediate b) c rest = refl
late-comes p t (Upper b) c rest = refl
late-comes p t (Cancel b) c rest = refl
late-comes p t (Digit b) c rest = refl
late-comes p t Colon c rest = refl
late-comes p t Separator c rest = refl
late-comes p t (PrivateMarker b) c rest = refl
late-comes p t (Lower b) c rest = refl
late-comes p t k c rest = ground-comes p t k c rest

sequence-comes : (p : StringPhase) (t : List ℕ) (k : Kind) (c : ℕ) (rest : List Sign)
    → Comes p t rest (moved_in_control_sequence k c) (sequence_strings (Character k c ∷ rest))
sequence-comes p t (C0Control b) c rest = refl
sequence-comes p t Bell c rest = refl
sequence-comes p t (Intermediate b) c rest = refl
sequence-comes p t (Digit b) c rest = refl
sequence-comes p t Colon c rest = refl
sequence-comes p t Separator c rest = refl
sequence-comes p t (PrivateMarker b) c rest = refl
sequence-comes p t Delete c rest = refl
sequence-comes p t (Cancel b) c rest = refl
sequence-comes p t (Upper b) c rest = refl
sequence-comes p t (Lower b) c rest = refl
sequence-comes p t k c rest = ground-comes p t k c rest

module _ (kind : StringKind) where
  -- the strings of a control string and of what follows it, by its text so far
  abbrev with_text : Bool → List Sign → List ℕ → Strings
  with_text bell rest text = followed_by (string_end kind text (rest_while (in_control_string bell) rest)) (strings (control_string bell rest).left)

  string-comes : (bell : Bool) (t : List ℕ) (k : Kind) (c : ℕ) (rest : List Sign)
      → Comes (InControlString kind bell) t rest (moved_in_control_string kind bell k c) (strings_in (InControlString kind bell) t (Character k c ∷ rest))
  string-comes bell t Escape c rest =
      ap (with_text bell (Character Escape c ∷ rest)) (append-nil t)
      ∙ ap (followed_by (after_escape kind t (characters rest))) (strings-step (Character Escape c) rest)
  string-comes bell t (Cancel b) c rest = refl
  string-comes bell t StringTerminator c rest = ap (with_text bell (Character StringTerminator c ∷ rest)) (append-nil t)
  string-comes true t Bell c rest = ap (with_text true (Character Bell c ∷ rest)) (append-nil t)
  string-comes bell t k c rest =
      sym (ap (with_text bell (Character k c ∷ rest)) (append_assoc t (c ∷ []) (characters (front_while (in_control_string bell) rest))))

-- a step that opens a string or does nothing
abbrev Opens : StringStep → Type 0
Opens Nothing = ⊤
Opens (Opened kind) = ⊤
Opens step = ⊥

c1-opens : (k : Kind) (c : ℕ) → Opens (moved_by_c1 k c).step
c1-opens StringOpening c = tt
c1-opens CommandOpening c = tt
c1-opens k c = tt

ground-opens : (k : Kind) (c : ℕ) → Opens (moved_from_ground k c).step
ground-opens StringOpening c = tt
ground-opens CommandOpening c = tt
ground-opens SequenceIntroducer c = tt
ground-opens k c = tt

escape-opens : (k : Kind) (c : ℕ) → Opens (moved_in_escape_sequence true k c).step
escape-opens (Upper b) c = c1-opens (kind_of (b + 64)) (b + 64)
escape-opens StringOpening c = tt
escape-opens CommandOpening c = tt
escape-opens k c = tt

broken-text : (s : StringStep) (t : List ℕ) → Opens s → text_by s [] ≡ text_by (broken_off s) t
broken-text Nothing t o = refl
broken-text (Opened kind) t o = refl
broken-text (Added c) t o = absurd o
broken-text (Ended e) t o = absurd o
broken-text BrokenOff t o = absurd o

broken-ended : (s : StringStep) (p : StringPhase) (t u : List ℕ) → Opens s → ended_by s p u ≡ ended_by (broken_off s) p t
broken-ended Nothing p t u o = refl
broken-ended (Opened kind) p t u o = refl
broken-ended (Added c) p t u o = absurd o
broken-ended (Ended e) p t u o = absurd o
broken-ended BrokenOff p t u o = absurd o

module _ (kind : StringKind) (t : List ℕ) (k : Kind) (c : ℕ) (rest : List Sign) where
  abbrev at : StringPhase
  at = AfterEscape kind

  abbrev inside : StringMove
  inside = moved_in_escape_sequence true k c

  abbrev ended_move : StringMove
  ended_move = record { phase = Ground; step = Ended EscapedTerminator }

  abbrev broken_move : StringMove
  broken_move = record { phase = inside.phase; step = broken_off inside.step }

  broken-comes : Comes at t rest broken_move (escape_strings (Character k c ∷ rest))
  broken-comes =
      escape-comes at [] k c rest
      ∙ ap (λ l. behind_strings l (strings_in inside.phase (text_by inside.step []) rest)) (broken-ended inside.step at t [] (escape-opens k c))
      ∙ ap (λ l. behind_strings (ended_by (broken_off inside.step) at t) (strings_in inside.phase l rest)) (broken-text inside.step t (escape-opens k c))

  after-by : (b : Bool) → (b ≡ true → escape_strings (Character k c ∷ rest) ≡ strings rest)
      → Comes at t rest (cond b ended_move broken_move)
      (followed_by (cond b (one_string kind t EscapedTerminator) no_strings) (escape_strings (Character k c ∷ rest)))
  after-by true ends = ap (followed_by (one_string kind t EscapedTerminator)) (ends refl)
  after-by false ends = broken-comes

terminates : (c : ℕ) (rest : List Sign) → (c == 0x5C) ≡ true → escape_strings (character c ∷ rest) ≡ strings rest
terminates c rest is = subst (λ n. escape_strings (character n ∷ rest) ≡ strings rest) (sym (eqb-true c 0x5C is)) refl

pub character-comes : (p : StringPhase) (t : List ℕ) (c : ℕ) (rest : List Sign) → Comes p t rest (moved_by p c) (strings_in p t (character c ∷ rest))
character-comes Ground t c rest = ground-comes Ground t (kind_of c) c rest
character-comes (InEscapeSequence true) t c rest = escape-comes (InEscapeSequence true) t (kind_of c) c rest
character-comes (InEscapeSequence false) t c rest = late-comes (InEscapeSequence false) t (kind_of c) c rest
character-comes InControlSequence t c rest = sequence-comes InControlSequence t (kind_of c) c rest
character-comes (InControlString kind bell) t c rest = string-comes kind bell t (kind_of c) c rest
character-comes (AfterEscape kind) t c rest = after-by kind t (kind_of c) c rest (c == 0x5C) (terminates c rest)

-- ---- nothing more

pub nothing-comes : (p : StringPhase) (t : List ℕ) → strings_in p t [] ≡ record { ended = []; begun = begun_in p t }
nothing-comes Ground t = strings-nil
nothing-comes (InEscapeSequence true) t = ap (followed_by no_strings) strings-nil
nothing-comes (InEscapeSequence false) t = strings-nil
nothing-comes InControlSequence t = strings-nil
nothing-comes (InControlString kind bell) t = ap (λ l. followed_by (open_alone kind l) (strings [])) (append-nil t) ∙ ap (followed_by (open_alone kind t)) strings-nil
nothing-comes (AfterEscape kind) t = ap (λ s. followed_by (open_alone kind t) (followed_by no_strings s)) strings-nil

-- ---- the result of a step for its caller

module _ (before : List ControlString) where
  abbrev pub here : StringPhase → List ℕ → Strings
  here p t = record { ended = before; begun = begun_in p t }

  pub step-ended : (s : StringStep) (p : StringPhase) (t : List ℕ) → (after_step s (here p t)).ended ≡ before ++ ended_by s p t
  step-ended Nothing p t = sym (append-nil before)
  step-ended (Opened kind) p t = sym (append-nil before)
  step-ended (Added c) p t = sym (append-nil before)
  step-ended (Ended e) p t = refl
  step-ended BrokenOff p t = sym (append-nil before)

  abbrev Begins : StringPhase → List ℕ → StringMove → Type 0
  Begins p t m = (after_step m.step (here p t)).begun ≡ begun_in m.phase (text_by m.step t)

  c1-begins : (t : List ℕ) (k : Kind) (c : ℕ) → Begins Ground t (moved_by_c1 k c)
  c1-begins t StringOpening c = refl
  c1-begins t CommandOpening c = refl
  c1-begins t SequenceIntroducer c = refl
  c1-begins t k c = refl

  ground-begins : (t : List ℕ) (k : Kind) (c : ℕ) → Begins Ground t (moved_from_ground k c)
  ground-begins t Escape c = refl
  ground-begins t StringOpening c = refl
  ground-begins t CommandOpening c = refl
  ground-begins t SequenceIntroducer c = refl
  ground-begins t k c = refl

  escape-begins : (bare : Bool) (t : List ℕ) (k : Kind) (c : ℕ) → Begins Ground t (moved_in_escape_sequence bare k c)
  escape-begins bare t (C0Control b) c = refl
  escape-begins bare t Bell c = refl
  escape-begins bare t Delete c = refl
  escape-begins bare t (Intermediate b) c = refl
  escape-begins true t (Upper b) c = c1-begins t (kind_of (b + 64)) (b + 64)
  escape-begins false t (Upper b) c = refl
  escape-begins bare t (Cancel b) c = refl
  escape-begins bare t k c = ground-begins t k c

  sequence-begins : (t : List ℕ) (k : Kind) (c : ℕ) → Begins Ground t (moved_in_control_sequence k c)
  sequence-begins t (C0Control b) c = refl
  sequence-begins t Bell c = refl
  sequence-begins t (Intermediate b) c = refl
  sequence-begins t (Digit b) c = refl
  sequence-begins t Colon c = refl
  sequence-begins t Separator c = refl
  sequence-begins t (PrivateMarker b) c = refl
  sequence-begins t Delete c = refl
  sequence-begins t k c = ground-begins t k c

  string-begins : (kind : StringKind) (bell : Bool) (t : List ℕ) (k : Kind) (c : ℕ) → Begins (InControlString kind bell) t (moved_in_control_string kind bell k c)
  string-begins kind bell t Escape c = refl
  string-begins kind bell t (Cancel b) c = refl
  string-begins kind bell t StringTerminator c = refl
  string-begins kind true t Bell c = refl
  string-begins kind bell t k c = refl

  broken-begins : (kind : StringKind) (t : List ℕ) (phase : StringPhase) (s : StringStep) → Opens s → Begins Ground [] (record { phase = phase; step = s })
      → Begins (AfterEscape kind) t (record { phase = phase; step = broken_off s })
  broken-begins kind t phase Nothing o e = e
  broken-begins kind t phase (Opened other) o e = e
  broken-begins kind t phase (Added c) o e = absurd o
  broken-begins kind t phase (Ended ending) o e = absurd o
  broken-begins kind t phase BrokenOff o e = absurd o

  after-begins : (kind : StringKind) (t : List ℕ) (k : Kind) (c : ℕ) (b : Bool)
      → Begins (AfterEscape kind) t (cond b (ended_move kind t k c []) (broken_move kind t k c []))
  after-begins kind t k c true = refl
  after-begins kind t k c false = broken-begins kind t (moved_in_escape_sequence true k c).phase (moved_in_escape_sequence true k c).step (escape-opens k c) (escape-begins true [] k c)

  character-begins : (p : StringPhase) (t : List ℕ) (c : ℕ) → Begins p t (moved_by p c)
  character-begins Ground t c = ground-begins t (kind_of c) c
  character-begins (InEscapeSequence bare) t c = escape-begins bare t (kind_of c) c
  character-begins InControlSequence t c = sequence-begins t (kind_of c) c
  character-begins (InControlString kind bell) t c = string-begins kind bell t (kind_of c) c
  character-begins (AfterEscape kind) t c = after-begins kind t (kind_of c) c (c == 0x5C)

  pub step-is : (p : StringPhase) (t : List ℕ) (c : ℕ)
      → after_step (moved_by p c).step (here p t) ≡ record { ended = before ++ ended_by (moved_by p c).step p t; begun = begun_in (moved_by p c).phase (text_by (moved_by p c).step t) }
  step-is p t c =
      ap (λ l. record { ended = l; begun = (after_step (moved_by p c).step (here p t)).begun }) (step-ended (moved_by p c).step p t)
      ∙ ap (λ o. record { ended = before ++ ended_by (moved_by p c).step p t; begun = o }) (character-begins p t c)
