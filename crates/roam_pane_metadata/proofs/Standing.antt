-- A value that models some bytes models them and the next ones.
use Rattle.std.proofs.Common.{◌≡◌, ◌<◌, ◌+◌, ◌-◌, ℕ, Bool, false, List, [], ◌∷◌, ◌++◌, map, length, take, drop, Option, refl, sym, ap, ◌∙◌, append_assoc, subst}
use Rattle.std.specs.List.{flat_map, fold}
use Rattle.std.specs.Option.{option_to_list}
use Rattle.std.specs.Prelude.{slice_index}
use Rattle.std.proofs.lemmas.List.{append-nil, map-append, take_more}
use Rattle.std.proofs.lemmas.List.Concat.{flat_map-append}
use Rattle.roam_text.specs.declared.functions.Function.{Function}
use Rattle.roam_text.specs.declared.strings.StringStep.{StringStep}
use Rattle.roam_text.specs.declared.strings.StringStep.TheVariants.{Nothing, Opened, Added, Ended, BrokenOff}
use Rattle.roam_text.specs.declared.strings.StringSteps.{StringSteps}
use Rattle.roam_text.specs.Log.{Item, Byte, character, signs, settled_part}
use Rattle.roam_text.specs.Functions.{functions, functions_of}
use Rattle.roam_text.specs.Strings.{Strings, strings, strings_by, strings_of, after_step, after_steps}
use Rattle.roam_text.specs.Stands.{Stands as ReaderStands}
use Rattle.roam_text.specs.StringPhases.{Follows, NoStringOpen, behind_strings}
use Rattle.roam_text.specs.Resting.{AtRest}
use Rattle.roam_text.proofs.Asciis.{front-joined}
use Rattle.roam_text.proofs.Encoded.{signs-bytes}
use Rattle.roam_pane_metadata.specs.declared.settings.Settings.{Settings}
use Rattle.roam_pane_metadata.specs.declared.screen_modes.ScreenModes.{ScreenModes}
use Rattle.roam_pane_metadata.specs.Settings.{fresh_settings, heard, settings_of}
use Rattle.roam_pane_metadata.specs.Silence.{SaysNothing}
use Rattle.roam_pane_metadata.specs.Keeping.{Keeps, ended_by}
use Rattle.roam_pane_metadata.specs.Emissions.{Emission, Says, reset_if, resets_of, spoken_of, emitted_by, emissions_of}
use Rattle.roam_pane_metadata.specs.Metadata.{MetadataView, ReadsAs, Stands}
use Rattle.roam_pane_metadata.specs.declared.queries.Query.{Query}
use Rattle.roam_pane_metadata.specs.Queries.{asked_by_string, asked_in, by_functions, by_strings, queries_of}
use Rattle.roam_pane_metadata.specs.ScreenModes.{fresh_modes, modes_after, modes_of}
use Rattle.roam_pane_metadata.specs.Asking.{Heads, Recalls}
use Rattle.roam_pane_metadata.proofs.Folds.{asked-more, modes-more}
use Rattle.roam_pane_metadata.proofs.Gained.{asked-behind, asked-by, asked-byte, none-asked, none-emitted, emitted-by}

abbrev log_of : List ℕ → List Item
log_of bytes = map Byte bytes

pub fold-after : (fs more : List Function) (s : Settings) → fold heard s (fs ++ more) ≡ fold heard (fold heard s fs) more
fold-after [] more s = refl
fold-after (f ∷ fs) more s = fold-after fs more (heard s f)

log-append : (xs ys : List ℕ) → log_of (xs ++ ys) ≡ log_of xs ++ log_of ys
log-append xs ys = map-append Byte xs ys

-- the effect of a character ends these strings
step-gives : (step : StringStep) (all : Strings) → (after_step step all).ended ≡ all.ended ++ ended_by step all.begun
step-gives Nothing all = sym (append-nil all.ended)
step-gives (Opened kind) all = sym (append-nil all.ended)
step-gives (Added c) all = sym (append-nil all.ended)
step-gives (Ended ending) all = refl
step-gives BrokenOff all = sym (append-nil all.ended)

-- ---- bytes that are passed over

module _ (read : List ℕ) (rest : AtRest (log_of read)) (closed : NoStringOpen (log_of read)) where
  signs-on : (xs : List ℕ) → signs (log_of (read ++ xs)) ≡ signs (log_of read) ++ map character (settled_part xs)
  signs-on xs =
      ap signs (log-append read xs) ∙ signs-bytes (log_of read) xs
      ∙ ap (λ l. signs (log_of read) ++ map character (settled_part (l ++ xs))) rest.whole

  settings-on : (xs : List ℕ) → settings_of (read ++ xs) ≡ fold heard (settings_of read) (functions (map character (settled_part xs)))
  settings-on xs =
      ap (λ l. fold heard fresh_settings (functions l)) (signs-on xs)
      ∙ ap (fold heard fresh_settings) (rest.to_come (map character (settled_part xs)))
      ∙ fold-after (functions_of (log_of read)) (functions (map character (settled_part xs))) fresh_settings

  strings-on : (xs : List ℕ) → strings_by (log_of (read ++ xs)) ≡ behind_strings (strings_of (log_of read)) (strings (map character (settled_part xs)))
  strings-on xs = ap strings (signs-on xs) ∙ closed.to_come (map character (settled_part xs))

  abbrev functions_on : List ℕ → List Function
  functions_on xs = functions (map character (settled_part xs))

  modes-on : (xs : List ℕ) → modes_of (read ++ xs) ≡ fold modes_after (modes_of read) (functions_on xs)
  modes-on xs =
      ap (λ l. fold modes_after fresh_modes (functions l)) (signs-on xs)
      ∙ ap (fold modes_after fresh_modes) (rest.to_come (map character (settled_part xs)))
      ∙ modes-more (functions_of (log_of read)) (functions_on xs) fresh_modes

  asked-on : (xs : List ℕ) → by_functions (read ++ xs) ≡ by_functions read ++ asked_in (settings_of read) (modes_of read) (functions_on xs)
  asked-on xs =
      ap (λ l. asked_in fresh_settings fresh_modes (functions l)) (signs-on xs)
      ∙ ap (asked_in fresh_settings fresh_modes) (rest.to_come (map character (settled_part xs)))
      ∙ asked-more (functions_of (log_of read)) (functions_on xs) fresh_settings fresh_modes

  passed-modes : (run more : List ℕ) → SaysNothing run → modes_of (read ++ (run ++ more)) ≡ modes_of (read ++ more)
  passed-modes run more silent = modes-on (run ++ more) ∙ (silent more).modes (modes_of read) ∙ sym (modes-on more)

  passed-asked : (run more : List ℕ) → SaysNothing run → by_functions (read ++ (run ++ more)) ≡ by_functions (read ++ more)
  passed-asked run more silent =
      asked-on (run ++ more) ∙ ap (λ l. by_functions read ++ l) ((silent more).asked (settings_of read) (modes_of read)) ∙ sym (asked-on more)

  resets-on : (xs : List ℕ) → resets_of (read ++ xs) ≡ resets_of read ++ flat_map emitted_by (functions_on xs)
  resets-on xs =
      ap (λ l. flat_map emitted_by (functions l)) (signs-on xs)
      ∙ ap (flat_map emitted_by) (rest.to_come (map character (settled_part xs)))
      ∙ flat_map-append emitted_by (functions_of (log_of read)) (functions_on xs)

  passed-resets : (run more : List ℕ) → SaysNothing run → resets_of (read ++ (run ++ more)) ≡ resets_of (read ++ more)
  passed-resets run more silent = resets-on (run ++ more) ∙ ap (λ l. resets_of read ++ l) (silent more).resets ∙ sym (resets-on more)

  passed-settings : (run more : List ℕ) → SaysNothing run → settings_of (read ++ (run ++ more)) ≡ settings_of (read ++ more)
  passed-settings run more silent = settings-on (run ++ more) ∙ (silent more).settings (settings_of read) ∙ sym (settings-on more)

  passed-strings : (run more : List ℕ) → SaysNothing run → strings_by (log_of (read ++ (run ++ more))) ≡ strings_by (log_of (read ++ more))
  passed-strings run more silent =
      strings-on (run ++ more) ∙ ap (behind_strings (strings_of (log_of read))) (silent more).texts ∙ sym (strings-on more)

-- nothing more
module _ (bytes read : List ℕ) (same : ReadsAs bytes read) where
  settings-now : settings_of bytes ≡ settings_of read
  settings-now = ap settings_of (sym (append-nil bytes)) ∙ (same []).settings ∙ ap settings_of (append-nil read)

  strings-now : strings_by (log_of bytes) ≡ strings_by (log_of read)
  strings-now = ap (λ l. strings_by (log_of l)) (sym (append-nil bytes)) ∙ (same []).strings ∙ ap (λ l. strings_by (log_of l)) (append-nil read)

  resets-now : resets_of bytes ≡ resets_of read
  resets-now = ap resets_of (sym (append-nil bytes)) ∙ (same []).resets ∙ ap resets_of (append-nil read)

  modes-now : modes_of bytes ≡ modes_of read
  modes-now = ap modes_of (sym (append-nil bytes)) ∙ (same []).modes ∙ ap modes_of (append-nil read)

  asked-now : by_functions bytes ≡ by_functions read
  asked-now = ap by_functions (sym (append-nil bytes)) ∙ (same []).asked ∙ ap by_functions (append-nil read)

module _ (b : MetadataView) (bytes run : List ℕ) (silent : SaysNothing run) (stands : Stands b bytes)
    (rest : AtRest (log_of stands.read)) (closed : NoStringOpen (log_of stands.read)) where
  abbrev read : List ℕ
  read = stands.read

  reads-on : ReadsAs (bytes ++ run) read
  reads-on more = record {
    settings = ap settings_of (append_assoc bytes run more) ∙ (stands.same (run ++ more)).settings
        ∙ passed-settings read rest closed run more silent;
    strings = ap (λ l. strings_by (log_of l)) (append_assoc bytes run more) ∙ (stands.same (run ++ more)).strings
        ∙ passed-strings read rest closed run more silent;
    resets = ap resets_of (append_assoc bytes run more) ∙ (stands.same (run ++ more)).resets
        ∙ passed-resets read rest closed run more silent;
    modes = ap modes_of (append_assoc bytes run more) ∙ (stands.same (run ++ more)).modes ∙ passed-modes read rest closed run more silent;
    asked = ap by_functions (append_assoc bytes run more) ∙ (stands.same (run ++ more)).asked ∙ passed-asked read rest closed run more silent;
  }

  strings-same : strings_by (log_of (bytes ++ run)) ≡ strings_by (log_of bytes)
  strings-same = strings-now (bytes ++ run) read reads-on ∙ sym (strings-now bytes read stands.same)

  -- a skipped run emits nothing
  emissions-same : emissions_of (bytes ++ run) ≡ emissions_of bytes
  emissions-same =
      none-emitted bytes run (resets-now (bytes ++ run) read reads-on ∙ sym (resets-now bytes read stands.same))
      (ap (λ (s : Strings). map Says s.ended) strings-same)

  -- a skipped run asks nothing
  queries-same : queries_of (bytes ++ run) ≡ queries_of bytes
  queries-same =
      asked-behind [] bytes run
      ∙ ap (λ l. queries_of bytes ++ l)
      (none-asked bytes run (asked-now (bytes ++ run) read reads-on ∙ sym (asked-now bytes read stands.same))
      (ap (λ (s : Strings). flat_map asked_by_string s.ended) strings-same))
      ∙ append-nil (queries_of bytes)

  pub passed-stands : Stands b (bytes ++ run)
  passed-stands = record {
    read = read;
    reader = stands.reader;
    strings = stands.strings;
    same = reads-on;
    settings = stands.settings ∙ settings-now bytes read stands.same ∙ sym (settings-now (bytes ++ run) read reads-on);
    texts = subst (λ l. Keeps b.texts l (strings_by (log_of (bytes ++ run))).begun) (sym emissions-same)
        (subst (λ (s : Strings). Keeps b.texts (emissions_of bytes) s.begun) (sym strings-same) stands.texts);
    modes = stands.modes ∙ modes-now bytes read stands.same ∙ sym (modes-now (bytes ++ run) read reads-on);
    head = subst (λ (s : Strings). Heads b.head s.begun) (sym strings-same) stands.head;
    asked = subst (Recalls b.asked) (sym queries-same) stands.asked;
  }

-- ---- a byte that is read

module _ (old new : MetadataView) (byte : ℕ) (bytes : List ℕ) (stands : Stands old bytes) (fs : List Function) (steps : StringSteps)
    (query first later : Option Query) (reset : Bool)
    (reader : (log : List Item) → ReaderStands old.reader log → ReaderStands new.reader (log ++ Byte byte ∷ []))
    (gained : (log : List Item) → ReaderStands old.reader log → functions_of (log ++ Byte byte ∷ []) ≡ functions_of log ++ fs)
    (follows : (log : List Item) → Follows old.strings log → Follows new.strings (log ++ Byte byte ∷ []))
    (stepped : (log : List Item) → Follows old.strings log → strings_by (log ++ Byte byte ∷ []) ≡ after_steps steps (strings_by log))
    (set : new.settings ≡ fold heard old.settings fs)
    (resets : reset_if reset ≡ flat_map emitted_by fs)
    (kept : (emitted : List Emission) (all : Strings) → Keeps old.texts emitted all.begun
    → Keeps new.texts (((emitted ++ reset_if reset) ++ map Says (ended_by steps.first all.begun))
    ++ map Says (ended_by steps.later (after_step steps.first all).begun)) (after_steps steps all).begun)
    (moded : new.modes ≡ fold modes_after old.modes fs)
    (asks : option_to_list query ≡ asked_in old.settings old.modes fs)
    (heads : (all : Strings) → Heads old.head all.begun → Heads new.head (after_steps steps all).begun)
    (spells : (all : Strings) → Heads old.head all.begun → flat_map asked_by_string (after_steps steps all).ended
    ≡ (flat_map asked_by_string all.ended ++ option_to_list first) ++ option_to_list later)
    (recalls : (all : List Query) → Recalls old.asked all
    → Recalls new.asked (((all ++ option_to_list query) ++ option_to_list first) ++ option_to_list later)) where
  abbrev was : List Item
  was = log_of stands.read

  one : log_of (stands.read ++ byte ∷ []) ≡ was ++ Byte byte ∷ []
  one = log-append stands.read (byte ∷ [])

  reads-byte : ReadsAs (bytes ++ byte ∷ []) (stands.read ++ byte ∷ [])
  reads-byte more =
      let here = append_assoc bytes (byte ∷ []) more in
      let there = append_assoc stands.read (byte ∷ []) more in
      let same = stands.same (byte ∷ more) in
      record {
        settings = ap settings_of here ∙ same.settings ∙ sym (ap settings_of there);
        strings = ap (λ l. strings_by (log_of l)) here ∙ same.strings ∙ sym (ap (λ l. strings_by (log_of l)) there);
        resets = ap resets_of here ∙ same.resets ∙ sym (ap resets_of there);
        modes = ap modes_of here ∙ same.modes ∙ sym (ap modes_of there);
        asked = ap by_functions here ∙ same.asked ∙ sym (ap by_functions there);
      }

  abbrev after : List ℕ
  after = bytes ++ byte ∷ []

  settings-byte : settings_of after ≡ fold heard (settings_of bytes) fs
  settings-byte =
      settings-now after (stands.read ++ byte ∷ []) reads-byte
      ∙ ap (λ l. fold heard fresh_settings (functions_of l)) one
      ∙ ap (fold heard fresh_settings) (gained was stands.reader)
      ∙ fold-after (functions_of was) fs fresh_settings
      ∙ ap (λ s. fold heard s fs) (sym (settings-now bytes stands.read stands.same))

  modes-byte : modes_of after ≡ fold modes_after (modes_of bytes) fs
  modes-byte =
      modes-now after (stands.read ++ byte ∷ []) reads-byte
      ∙ ap (λ l. fold modes_after fresh_modes (functions_of l)) one
      ∙ ap (fold modes_after fresh_modes) (gained was stands.reader)
      ∙ modes-more (functions_of was) fs fresh_modes
      ∙ ap (λ f. fold modes_after f fs) (sym (modes-now bytes stands.read stands.same))

  functions-byte : by_functions after ≡ by_functions bytes ++ option_to_list query
  functions-byte =
      asked-now after (stands.read ++ byte ∷ []) reads-byte
      ∙ ap (λ l. asked_in fresh_settings fresh_modes (functions_of l)) one
      ∙ ap (asked_in fresh_settings fresh_modes) (gained was stands.reader)
      ∙ asked-more (functions_of was) fs fresh_settings fresh_modes
      ∙ ap (λ l. l ++ asked_in (settings_of stands.read) (modes_of stands.read) fs) (sym (asked-now bytes stands.read stands.same))
      ∙ ap (λ s. by_functions bytes ++ asked_in s (modes_of stands.read) fs) (sym (stands.settings ∙ settings-now bytes stands.read stands.same))
      ∙ ap (λ f. by_functions bytes ++ asked_in old.settings f fs) (sym (stands.modes ∙ modes-now bytes stands.read stands.same))
      ∙ ap (λ l. by_functions bytes ++ l) (sym asks)

  strings-byte : strings_by (log_of after) ≡ after_steps steps (strings_by (log_of bytes))
  strings-byte =
      strings-now after (stands.read ++ byte ∷ []) reads-byte
      ∙ ap strings_by one ∙ stepped was stands.strings
      ∙ ap (after_steps steps) (sym (strings-now bytes stands.read stands.same))

  resets-byte : resets_of after ≡ resets_of bytes ++ reset_if reset
  resets-byte =
      resets-now after (stands.read ++ byte ∷ []) reads-byte
      ∙ ap (λ l. flat_map emitted_by (functions_of l)) one
      ∙ ap (flat_map emitted_by) (gained was stands.reader)
      ∙ flat_map-append emitted_by (functions_of was) fs
      ∙ ap (λ l. l ++ flat_map emitted_by fs) (sym (resets-now bytes stands.read stands.same))
      ∙ ap (λ l. resets_of bytes ++ l) (sym resets)

  abbrev all : Strings
  all = strings_by (log_of bytes)

  abbrev first_said : List Emission
  first_said = map Says (ended_by steps.first all.begun)

  abbrev later_said : List Emission
  later_said = map Says (ended_by steps.later (after_step steps.first all).begun)

  spoken-byte : spoken_of after ≡ spoken_of bytes ++ (first_said ++ later_said)
  spoken-byte =
      ap (λ (s : Strings). map Says s.ended) strings-byte
      ∙ ap (map Says) (step-gives steps.later (after_step steps.first all))
      ∙ map-append Says (after_step steps.first all).ended (ended_by steps.later (after_step steps.first all).begun)
      ∙ ap (λ l. map Says l ++ later_said) (step-gives steps.first all)
      ∙ ap (λ l. l ++ later_said) (map-append Says all.ended (ended_by steps.first all.begun))
      ∙ append_assoc (spoken_of bytes) first_said later_said

  emissions-byte : emissions_of after ≡ ((emissions_of bytes ++ reset_if reset) ++ first_said) ++ later_said
  emissions-byte =
      emitted-by bytes byte (reset_if reset) (first_said ++ later_said) resets-byte spoken-byte
      ∙ sym (append_assoc (emissions_of bytes) (reset_if reset) (first_said ++ later_said))
      ∙ sym (append_assoc (emissions_of bytes ++ reset_if reset) first_said later_said)

  texts-byte : by_strings after ≡ by_strings bytes ++ (option_to_list first ++ option_to_list later)
  texts-byte =
      ap (λ (s : Strings). flat_map asked_by_string s.ended) strings-byte
      ∙ spells (strings_by (log_of bytes)) stands.head
      ∙ append_assoc (by_strings bytes) (option_to_list first) (option_to_list later)

  queries-byte : queries_of after
      ≡ ((queries_of bytes ++ option_to_list query) ++ option_to_list first) ++ option_to_list later
  queries-byte =
      asked-byte bytes byte
      ∙ ap (λ l. queries_of bytes ++ l)
      (asked-by bytes byte (option_to_list query) (option_to_list first ++ option_to_list later) functions-byte texts-byte)
      ∙ sym (append_assoc (queries_of bytes) (option_to_list query) (option_to_list first ++ option_to_list later))
      ∙ sym (append_assoc (queries_of bytes ++ option_to_list query) (option_to_list first) (option_to_list later))

  pub byte-stands : Stands new (bytes ++ byte ∷ [])
  byte-stands = record {
    read = stands.read ++ byte ∷ [];
    reader = subst (ReaderStands new.reader) (sym one) (reader was stands.reader);
    strings = subst (Follows new.strings) (sym one) (follows was stands.strings);
    same = reads-byte;
    settings = set ∙ ap (λ s. fold heard s fs) stands.settings ∙ sym settings-byte;
    texts = subst (λ l. Keeps new.texts l (strings_by (log_of after)).begun) (sym emissions-byte)
        (subst (λ (s : Strings). Keeps new.texts (((emissions_of bytes ++ reset_if reset) ++ first_said) ++ later_said) s.begun)
        (sym strings-byte) (kept (emissions_of bytes) all stands.texts));
    modes = moded ∙ ap (λ f. fold modes_after f fs) stands.modes ∙ sym modes-byte;
    head = subst (λ (s : Strings). Heads new.head s.begun) (sym strings-byte) (heads (strings_by (log_of bytes)) stands.head);
    asked = subst (Recalls new.asked) (sym queries-byte) (recalls (queries_of bytes) stands.asked);
  }

-- ---- a piece

-- the bytes of a piece up to a place, and those of a run after it
pub run-bytes : (bytes piece : List ℕ) (at run : ℕ)
    → (bytes ++ take at piece) ++ take run (take (length piece - at) (drop at piece)) ≡ bytes ++ take (at + run) piece
run-bytes bytes piece at run =
    append_assoc bytes (take at piece) (take run (take (length piece - at) (drop at piece))) ∙ ap (λ l. bytes ++ l) (sym (front-joined piece at run))

pub byte-bytes : (bytes piece : List ℕ) (at : ℕ) → at < length piece
    → (bytes ++ take at piece) ++ slice_index piece at ∷ [] ≡ bytes ++ take (at + 1) piece
byte-bytes bytes piece at less = append_assoc bytes (take at piece) (slice_index piece at ∷ []) ∙ ap (λ l. bytes ++ l) (sym (take_more piece at 0 less))
