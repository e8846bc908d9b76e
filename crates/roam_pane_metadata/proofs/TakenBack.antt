-- ESC c is emitted as a reset, the last one, in whatever state; there is no title then.
use Rattle.std.proofs.Common.{◌≡◌, ◌<◌, ℕ, Bool, true, false, List, [], ◌∷◌, ◌++◌, map, drop, None, refl, sym, ap, ◌∙◌, arith, append_assoc, subst}
use Rattle.std.specs.List.{flat_map}
use Rattle.std.proofs.lemmas.List.{append-nil, append_cancel_left, map-append}
use Rattle.std.proofs.lemmas.List.Concat.{flat_map-append}
use Rattle.std.proofs.lemmas.Bool.Decides.{nat_tests}
use Rattle.bstr.specs.Utf8.{second, continues}
use Rattle.roam_text.specs.declared.functions.Function.{Function}
use Rattle.roam_text.specs.declared.strings.StringPhase.{StringPhase}
use Rattle.roam_text.specs.declared.strings.StringPhase.TheVariants.{Ground, InEscapeSequence, InControlSequence, InControlString, AfterEscape}
use Rattle.roam_text.specs.Log.{Item, Byte, Sign, bytes_of, character, is_unfinished, settled_part, signs, unfinished_part}
use Rattle.roam_text.specs.Functions.{functions_of}
use Rattle.roam_text.specs.Strings.{ControlString, Strings, strings, strings_of}
use Rattle.roam_text.specs.StringPhases.{behind_strings, moved_by, strings_in}
use Rattle.roam_text.proofs.Bytes.{one-ascii, unfinished-unfinished}
use Rattle.roam_text.proofs.Cuts.{functions-reset, reset, reset_text}
use Rattle.roam_text.proofs.Encoded.{signs-bytes}
use Rattle.roam_text.proofs.Graphics.{printed_if}
use Rattle.roam_text.proofs.StringLogs.{strings_of-front}
use Rattle.roam_text.proofs.StringMoves.{character-comes, ended_by, nothing-comes, strings-nil, text_by}
use Rattle.roam_text.proofs.Growth.{functions_of-front}
use Rattle.roam_pane_metadata.specs.Texts.{Said, nothing_said}
use Rattle.roam_pane_metadata.specs.Emissions.{Emission, Says, TakesBack, IsPartOf, nothing_left, kept_one, left_out, is_reset, reset_if, resets_of, said_of, spoken_of, string_in, emitted_after, emitted_by, emissions_of}
use Rattle.roam_pane_metadata.specs.Metadata.{MetadataView, Stands}
use Rattle.roam_pane_metadata.proofs.Gained.{resets-grow, emitted-by}
use Rattle.roam_pane_metadata.proofs.KeepingSteps.{said-more}
use Rattle.roam_pane_metadata.proofs.Ordered.{next-is}
use Rattle.roam_pane_metadata.proofs.Silences.{cut-settles, no-second-escape}

-- ---- what ends no control string, wherever it comes

-- a character that ends none
abbrev EndsNone : ℕ → Type 0
EndsNone c = (p : StringPhase) (t : List ℕ) → ended_by (moved_by p c).step p t ≡ []

escape-ends-none : EndsNone 0x1B
escape-ends-none Ground t = refl
escape-ends-none (InEscapeSequence true) t = refl
escape-ends-none (InEscapeSequence false) t = refl
escape-ends-none InControlSequence t = refl
escape-ends-none (InControlString kind true) t = refl
escape-ends-none (InControlString kind false) t = refl
escape-ends-none (AfterEscape kind) t = refl

last-ends-none : EndsNone 0x63
last-ends-none Ground t = refl
last-ends-none (InEscapeSequence true) t = refl
last-ends-none (InEscapeSequence false) t = refl
last-ends-none InControlSequence t = refl
last-ends-none (InControlString kind true) t = refl
last-ends-none (InControlString kind false) t = refl
last-ends-none (AfterEscape kind) t = refl

replaced-ends-none : EndsNone 0xFFFD
replaced-ends-none Ground t = refl
replaced-ends-none (InEscapeSequence true) t = refl
replaced-ends-none (InEscapeSequence false) t = refl
replaced-ends-none InControlSequence t = refl
replaced-ends-none (InControlString kind true) t = refl
replaced-ends-none (InControlString kind false) t = refl
replaced-ends-none (AfterEscape kind) t = refl

-- the phase of a reader of control strings after some signs
record Phased (known : List Sign) : Type 0 where
  phase : StringPhase
  before : List ControlString
  text : List ℕ
  knows : (rest : List Sign) → strings (known ++ rest) ≡ behind_strings before (strings_in phase text rest)

phased-next : (known : List Sign) (c : ℕ) → Phased known → Phased (known ++ character c ∷ [])
phased-next known c k =
    let m = moved_by k.phase c in
    record {
      phase = m.phase;
      before = k.before ++ ended_by m.step k.phase k.text;
      text = text_by m.step k.text;
      knows = λ rest. ap strings (append_assoc known (character c ∷ []) rest) ∙ k.knows (character c ∷ rest)
          ∙ ap (behind_strings k.before) (character-comes k.phase k.text c rest)
          ∙ ap (λ l. record { ended = l; begun = (strings_in m.phase (text_by m.step k.text) rest).begun })
          (sym (append_assoc k.before (ended_by m.step k.phase k.text) (strings_in m.phase (text_by m.step k.text) rest).ended));
    }

phased-more : (known : List Sign) (cs : List ℕ) → Phased known → Phased (known ++ map character cs)
phased-more known [] k = subst Phased (sym (append-nil known)) k
phased-more known (c ∷ cs) k =
    subst Phased (append_assoc known (character c ∷ []) (map character cs))
    (phased-more (known ++ character c ∷ []) cs (phased-next known c k))

phased-ended : (known : List Sign) (k : Phased known) → (strings known).ended ≡ k.before
phased-ended known k =
    ap (λ l. (strings l).ended) (sym (append-nil known)) ∙ ap (λ (s : Strings). s.ended) (k.knows [])
    ∙ ap (λ (s : Strings). k.before ++ s.ended) (nothing-comes k.phase k.text) ∙ append-nil k.before

-- after a character that ends none
ended-same : (known : List Sign) (c : ℕ) → EndsNone c → Phased known → (strings (known ++ character c ∷ [])).ended ≡ (strings known).ended
unfolding phased-next
ended-same known c none k =
    phased-ended (known ++ character c ∷ []) (phased-next known c k) ∙ ap (λ l. k.before ++ l) (none k.phase k.text)
    ∙ append-nil k.before ∙ sym (phased-ended known k)

phased-bytes : (bytes : List ℕ) → Phased (signs (map Byte bytes))
phased-bytes bytes =
    subst Phased (sym (signs-bytes [] bytes))
    (phased-more [] (settled_part (unfinished_part (bytes_of []) ++ bytes))
    (record { phase = Ground; before = []; text = []; knows = λ rest. refl }))

module _ (m : ℕ) (low : m < 0x80) (no_second : (a : ℕ) → second a m ≡ false) (no_more : continues m ≡ false) (none : EndsNone m)
    (bytes : List ℕ) where
  abbrev log : List Item
  log = map Byte bytes

  abbrev end : List ℕ
  end = unfinished_part (bytes_of log)

  ends-by : (t : List ℕ) → is_unfinished t ≡ true
      → (strings (signs log ++ map character (settled_part (t ++ m ∷ [])))).ended ≡ strings_of log
  ends-by [] h =
      ap (λ l. (strings (signs log ++ map character l)).ended) (sym (one-ascii m low).chars)
      ∙ ended-same (signs log) m none (phased-bytes bytes)
  ends-by (a ∷ t) h =
      let cut = cut-settles m no_second no_more (m ∷ []) [] (one-ascii m low) a t h in
      let then_ = signs log ++ character 0xFFFD ∷ [] in
      ap (λ l. (strings (signs log ++ map character l)).ended) (sym cut.chars)
      ∙ ap (λ l. (strings l).ended) (sym (append_assoc (signs log) (character 0xFFFD ∷ []) (character m ∷ [])))
      ∙ ended-same then_ m none (phased-next (signs log) 0xFFFD (phased-bytes bytes))
      ∙ ended-same (signs log) 0xFFFD replaced-ends-none (phased-bytes bytes)

  -- such a byte ends no control string
  ends-no-string : strings_of (map Byte (bytes ++ m ∷ [])) ≡ strings_of log
  ends-no-string =
      ap strings_of (map-append Byte bytes (m ∷ []))
      ∙ ap (λ l. (strings l).ended) (signs-bytes log (m ∷ []))
      ∙ ends-by end (unfinished-unfinished (bytes_of log))

  spoken-same : spoken_of (bytes ++ m ∷ []) ≡ spoken_of bytes ++ []
  spoken-same = ap (map Says) ends-no-string ∙ sym (append-nil (spoken_of bytes))

no-second-last : (a : ℕ) → second a 0x63 ≡ false
no-second-last a = grind (arith, nat_tests)

-- ---- RIS is uttered

print-emits : (t : Bool) → flat_map emitted_by (printed_if 0xFFFD t) ≡ []
print-emits true = refl
print-emits false = refl

resets-reset : (bytes : List ℕ) → resets_of (bytes ++ 0x1B ∷ 0x63 ∷ []) ≡ resets_of bytes ++ TakesBack ∷ []
resets-reset bytes =
    let log = map Byte bytes in
    let is = functions-reset log in
    ap (λ l. flat_map emitted_by (functions_of l)) (map-append Byte bytes reset_text)
    ∙ ap (flat_map emitted_by) is.1
    ∙ flat_map-append emitted_by (functions_of log ++ printed_if 0xFFFD is.0) (reset ∷ [])
    ∙ ap (λ l. l ++ TakesBack ∷ []) (flat_map-append emitted_by (functions_of log) (printed_if 0xFFFD is.0))
    ∙ ap (λ l. (resets_of bytes ++ l) ++ TakesBack ∷ []) (print-emits is.0)
    ∙ ap (λ l. l ++ TakesBack ∷ []) (append-nil (resets_of bytes))

-- the last of all that is uttered
pub reset-emitted : (bytes : List ℕ) → emissions_of (bytes ++ 0x1B ∷ 0x63 ∷ []) ≡ emissions_of bytes ++ TakesBack ∷ []
reset-emitted bytes =
    let mid = bytes ++ 0x1B ∷ [] in
    let whole = append_assoc bytes (0x1B ∷ []) (0x63 ∷ []) in
    let x = resets-grow bytes (0x1B ∷ []) in
    let y = resets-grow mid (0x63 ∷ []) in
    let first = emitted-by bytes 0x1B x.0 [] x.1 (spoken-same 0x1B (omega arith) no-second-escape refl escape-ends-none bytes) in
    let last = emitted-by mid 0x63 y.0 [] y.1 (spoken-same 0x63 (omega arith) no-second-last refl last-ends-none mid) in
    let both : x.0 ++ y.0 ≡ TakesBack ∷ [] =
    append_cancel_left (resets_of bytes) (x.0 ++ y.0) (TakesBack ∷ [])
    (sym (append_assoc (resets_of bytes) x.0 y.0) ∙ ap (λ l. l ++ y.0) (sym x.1) ∙ sym y.1 ∙ ap resets_of whole ∙ resets-reset bytes) in
    ap emissions_of (sym whole) ∙ last ∙ ap (λ l. emissions_of mid ++ l) (append-nil y.0)
    ∙ ap (λ l. l ++ y.0) (first ∙ ap (λ l. emissions_of bytes ++ l) (append-nil x.0))
    ∙ append_assoc (emissions_of bytes) x.0 y.0 ∙ ap (λ l. emissions_of bytes ++ l) both

-- ---- there is no title then

part-of-none : (kept all : List Emission) → IsPartOf kept all → all ≡ [] → kept ≡ []
part-of-none kept all nothing_left e = refl
part-of-none kept all (kept_one u k a p) e = cc
part-of-none kept all (left_out u k a p) e = cc

-- a reset that is the last of all is the last that was kept
last-kept : (kept all : List Emission) → IsPartOf kept all → (front : List Emission) → all ≡ front ++ TakesBack ∷ []
    → (early : List Emission) × (kept ≡ early ++ TakesBack ∷ [])
last-kept kept all nothing_left [] e = cc
last-kept kept all nothing_left (x ∷ front) e = cc
last-kept kept all (kept_one u k a p) [] e =
    let none = part-of-none k a p (ap (drop 1) e) in
    ([], ap (λ l. u ∷ l) none ∙ sym (ap (λ l. u ∷ l) (ap (drop 1) e)) ∙ e)
last-kept kept all (kept_one u k a p) (x ∷ front) e =
    let more = last-kept k a p front (ap (drop 1) e) in
    (u ∷ more.0, ap (λ l. u ∷ l) more.1)
last-kept kept all (left_out s k a p) [] e = cc
last-kept kept all (left_out s k a p) (x ∷ front) e = last-kept k a p front (ap (drop 1) e)

pub reset-untitles : (metadata : MetadataView) (bytes : List ℕ) → Stands metadata (bytes ++ 0x1B ∷ 0x63 ∷ []) → metadata.texts.said.title ≡ None
reset-untitles metadata bytes stands =
    let all = bytes ++ 0x1B ∷ 0x63 ∷ [] in
    let last = last-kept stands.texts.kept (emissions_of all) stands.texts.part (emissions_of bytes) (reset-emitted bytes) in
    ap (λ (s : Said). s.title) (stands.texts.said ∙ ap said_of last.1 ∙ said-more last.0 TakesBack nothing_said)

-- ---- the strings among the emissions are those of the bytes

strings-only : (said : List ControlString) → flat_map string_in (map Says said) ≡ said
strings-only [] = refl
strings-only (s ∷ said) = ap (λ l. s ∷ l) (strings-only said)

reset-no-string : (b : Bool) → flat_map string_in (reset_if b) ≡ []
reset-no-string true = refl
reset-no-string false = refl

resets-no-string : (fs : List Function) → flat_map string_in (flat_map emitted_by fs) ≡ []
resets-no-string [] = refl
resets-no-string (f ∷ fs) =
    flat_map-append string_in (emitted_by f) (flat_map emitted_by fs)
    ∙ ap (λ l. l ++ flat_map string_in (flat_map emitted_by fs)) (reset-no-string (is_reset f)) ∙ resets-no-string fs

strings-later : (before more : List ℕ)
    → strings_of (map Byte (before ++ more)) ≡ strings_of (map Byte before) ++ flat_map string_in (emitted_after before more)
strings-later before [] = ap (λ l. strings_of (map Byte l)) (append-nil before) ∙ sym (append-nil (strings_of (map Byte before)))
strings-later before (b ∷ more) =
    let mid = before ++ b ∷ [] in
    let f = functions_of-front (map Byte before) (map Byte (b ∷ [])) in
    let s = strings_of-front (map Byte before) (map Byte (b ∷ [])) in
    let log = map-append Byte before (b ∷ []) in
    let resets : resets_of mid ≡ resets_of before ++ flat_map emitted_by f.0 =
    ap (λ l. flat_map emitted_by (functions_of l)) log ∙ ap (flat_map emitted_by) f.1
    ∙ flat_map-append emitted_by (functions_of (map Byte before)) f.0 in
    let said : strings_of (map Byte mid) ≡ strings_of (map Byte before) ++ s.0 = ap strings_of log ∙ s.1 in
    let spoken : spoken_of mid ≡ spoken_of before ++ map Says s.0 =
    ap (map Says) said ∙ map-append Says (strings_of (map Byte before)) s.0 in
    let next = next-is resets_of spoken_of before b (flat_map emitted_by f.0) (map Says s.0) resets spoken in
    let here : flat_map string_in (emitted_after before (b ∷ more)) ≡ s.0 ++ flat_map string_in (emitted_after mid more) =
    ap (λ l. flat_map string_in (l ++ emitted_after mid more)) next
    ∙ flat_map-append string_in (flat_map emitted_by f.0 ++ map Says s.0) (emitted_after mid more)
    ∙ ap (λ l. l ++ flat_map string_in (emitted_after mid more))
    (flat_map-append string_in (flat_map emitted_by f.0) (map Says s.0)
    ∙ ap (λ l. l ++ flat_map string_in (map Says s.0)) (resets-no-string f.0) ∙ strings-only s.0) in
    ap (λ l. strings_of (map Byte l)) (sym (append_assoc before (b ∷ []) more))
    ∙ strings-later mid more
    ∙ ap (λ l. l ++ flat_map string_in (emitted_after mid more)) said
    ∙ append_assoc (strings_of (map Byte before)) s.0 (flat_map string_in (emitted_after mid more))
    ∙ ap (λ l. strings_of (map Byte before) ++ l) (sym here)

pub strings-emitted : (bytes : List ℕ) → flat_map string_in (emissions_of bytes) ≡ strings_of (map Byte bytes)
strings-emitted bytes =
    sym (strings-later [] bytes ∙ ap (λ (s : Strings). s.ended ++ flat_map string_in (emissions_of bytes)) strings-nil)
