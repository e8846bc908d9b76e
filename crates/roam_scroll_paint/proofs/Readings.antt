-- A text of functions is read as those functions.
use Rattle.std.proofs.Common.{◌≡◌, ℕ, ◌==◌, Bool, true, false, List, [], ◌∷◌, ◌++◌, map, None, Some, refl, sym, ap, ◌∙◌, append_assoc}
use Rattle.std.specs.Prelude.{⊤, if◌then◌else◌}
use Rattle.std.specs.List.{flat_map}
use Rattle.std.specs.Char.{encode_utf8}
use Rattle.std.specs.Str.{encode_utf8_all}
use Rattle.std.proofs.Math.Utf8.{scalar, scalars}
use Rattle.std.proofs.lemmas.List.{append-nil, map-append}
use Rattle.std.proofs.lemmas.Bool.{and_parts, and_from}
use Rattle.roam_cells.specs.Width.{width_of}
use Rattle.roam_charset.specs.Charsets.{mapped_by}
use Rattle.roam_charset.specs.Sets.{in_use, spent}
use Rattle.roam_grid.specs.Writing.{put_on, joined_on}
use Rattle.roam_text.specs.declared.functions.Function.{Function}
use Rattle.roam_text.specs.declared.functions.Function.TheVariants.{Print}
use Rattle.roam_text.specs.Log.{Item, Byte, Sign, character, bytes_of, signs, unfinished_part}
use Rattle.roam_text.specs.ControlSequences.{first_sixteen}
use Rattle.roam_text.specs.Functions.{functions, functions_of}
use Rattle.roam_text.specs.Resting.{AtRest}
use Rattle.roam_text.proofs.Fronts.{functions-nil, functions-step}
use Rattle.roam_text.proofs.Encoded.{signs-encoded, bytes-encoded}
use Rattle.roam_term.specs.Terminal.{Live, Terminal, changed_by, printed_on, glyph_in, writing_under, run, started_terminal, term}
use Rattle.roam_term.specs.ControlFunctions.{csi, erase_all}
use Rattle.roam_term.proofs.Runs.{run-append, run-live}
use Rattle.roam_term.proofs.Steps.{acted}
use Rattle.roam_paint.specs.Sequences.{spelling_of}
use Rattle.roam_paint.proofs.Readings.{Legible}
use Rattle.roam_scroll_paint.specs.Sequences.{text_of}
use Rattle.roam_scroll_paint.specs.Bands.{line_feed, reverse_index, reset_margins}
use Rattle.roam_scroll_paint.specs.Rows.{erase_line}

-- a function that is read as it is spelled
pub record IsRead (f : Function) : Type 0 where
  pub letters : List ℕ
  pub good : scalars letters ≡ true
  pub bytes : text_of f ≡ encode_utf8_all letters
  pub gives : (rest : List Sign) → functions (map character letters ++ rest) ≡ f ∷ functions rest

-- a function with a painter's full spelling is read as that function
pub as_legible : (f : Function) → text_of f ≡ spelling_of f → Legible f → IsRead f
as_legible f e h = record { letters = h.letters; good = h.good; bytes = e ∙ h.bytes; gives = h.gives }

-- ---- controls, and sequences whose parameter isn't written

pub read-line_feed : IsRead line_feed
unfolding encode_utf8
read-line_feed = record { letters = 0x0A ∷ []; good = refl; bytes = refl; gives = λ rest. functions-step (character 0x0A) rest }

pub read-reverse_index : IsRead reverse_index
unfolding encode_utf8
read-reverse_index = record { letters = 0x1B ∷ 0x4D ∷ []; good = refl; bytes = refl; gives = λ rest. functions-step (character 0x1B) (character 0x4D ∷ rest) }

pub read-erase_line : IsRead erase_line
unfolding encode_utf8 first_sixteen
read-erase_line = record {
  letters = 0x1B ∷ 0x5B ∷ 0x4B ∷ [];
  good = refl;
  bytes = refl;
  gives = λ rest. functions-step (character 0x1B) (character 0x5B ∷ character 0x4B ∷ rest);
}

pub read-reset_margins : IsRead reset_margins
unfolding encode_utf8 first_sixteen
read-reset_margins = record {
  letters = 0x1B ∷ 0x5B ∷ 0x72 ∷ [];
  good = refl;
  bytes = refl;
  gives = λ rest. functions-step (character 0x1B) (character 0x5B ∷ character 0x72 ∷ rest);
}

-- ---- all of them

abbrev pub AreRead : List Function → Type 0
AreRead [] = ⊤
AreRead (f ∷ fs) = IsRead f × AreRead fs

pub read-append : (fs gs : List Function) → AreRead fs → AreRead gs → AreRead (fs ++ gs)
read-append [] gs h k = k
read-append (f ∷ fs) gs h k = (h.0, read-append fs gs h.1 k)

encoded-append : (xs ys : List ℕ) → encode_utf8_all (xs ++ ys) ≡ encode_utf8_all xs ++ encode_utf8_all ys
encoded-append [] ys = refl
encoded-append (x ∷ xs) ys = ap (λ l. encode_utf8 x ++ l) (encoded-append xs ys) ∙ sym (append_assoc (encode_utf8 x) (encode_utf8_all xs) (encode_utf8_all ys))

scalars-append : (xs ys : List ℕ) → scalars xs ≡ true → scalars ys ≡ true → scalars (xs ++ ys) ≡ true
scalars-append [] ys h k = k
scalars-append (x ∷ xs) ys h k = let parts = and_parts (scalar x) (scalars xs) h in and_from (scalar x) (scalars (xs ++ ys)) parts.0 (scalars-append xs ys parts.1 k)

record Spells (fs : List Function) : Type 0 where
  letters : List ℕ
  good : scalars letters ≡ true
  bytes : flat_map text_of fs ≡ encode_utf8_all letters
  gives : (rest : List Sign) → functions (map character letters ++ rest) ≡ fs ++ functions rest

spells : (fs : List Function) → AreRead fs → Spells fs
spells [] h = record { letters = []; good = refl; bytes = refl; gives = λ rest. refl }
spells (f ∷ fs) h =
    let one = h.0 in
    let more = spells fs h.1 in
    record {
      letters = one.letters ++ more.letters;
      good = scalars-append one.letters more.letters one.good more.good;
      bytes = ap (λ l. l ++ flat_map text_of fs) one.bytes ∙ ap (λ l. encode_utf8_all one.letters ++ l) more.bytes ∙ sym (encoded-append one.letters more.letters);
      gives = λ rest.
          ap (λ l. functions (l ++ rest)) (map-append character one.letters more.letters)
          ∙ ap functions (append_assoc (map character one.letters) (map character more.letters) rest)
          ∙ one.gives (map character more.letters ++ rest)
          ∙ ap (λ l. f ∷ l) (more.gives rest);
    }

-- ---- functions that neither show the cursor nor hide it

-- a terminal with its cursor visible or not
abbrev pub seen : Bool → Live → Live
seen visible t = record t { modes = record t.modes { cursor_visible = visible } }

abbrev pub IsBlind : Function → Type 0
IsBlind f = (visible : Bool) (t : Live) → changed_by f (seen visible t) ≡ seen visible (changed_by f t)

pub record IsPlain (f : Function) : Type 0 where
  pub read : IsRead f
  pub blind : IsBlind f

abbrev pub ArePlain : List Function → Type 0
ArePlain [] = ⊤
ArePlain (f ∷ fs) = IsPlain f × ArePlain fs

pub plain-append : (fs gs : List Function) → ArePlain fs → ArePlain gs → ArePlain (fs ++ gs)
plain-append [] gs h k = k
plain-append (f ∷ fs) gs h k = (h.0, plain-append fs gs h.1 k)

pub are_read : (fs : List Function) → ArePlain fs → AreRead fs
are_read [] h = tt
are_read (f ∷ fs) h = (h.0.read, are_read fs h.1)

pub acted-blind : (fs : List Function) → ArePlain fs → (visible : Bool) (t : Live) → acted fs (seen visible t) ≡ seen visible (acted fs t)
acted-blind [] h visible t = refl
acted-blind (f ∷ fs) h visible t = ap (acted fs) (h.0.blind visible t) ∙ acted-blind fs h.1 visible (changed_by f t)

blind-either : (b : Bool) (visible : Bool) (t u : Live) → (if b then seen visible t else seen visible u) ≡ seen visible (if b then t else u)
blind-either true visible t u = refl
blind-either false visible t u = refl

pub blind-print : (c : ℕ) → IsBlind (Print c)
unfolding changed_by printed_on
blind-print c visible t =
    let s = record t { sets = spent t.sets } in
    let x = mapped_by (in_use t.sets) c in
    blind-either (width_of x == 0) visible (record s { screen = joined_on x s.screen })
    (record s { screen = put_on (glyph_in x s.pen) (writing_under s.modes) s.screen; printed = Some x })

pub blind-style : (ps : List ℕ) → IsBlind (csi None ps 0x6D)
unfolding changed_by
blind-style ps visible t = refl

pub blind-place : (ps : List ℕ) → IsBlind (csi None ps 0x48)
unfolding changed_by
blind-place ps visible t = refl

pub blind-margins : (ps : List ℕ) → IsBlind (csi None ps 0x72)
unfolding changed_by
blind-margins ps visible t = refl

pub blind-erase_line : IsBlind erase_line
unfolding changed_by
blind-erase_line visible t = refl

pub blind-erase_all : IsBlind erase_all
unfolding changed_by
blind-erase_all visible t = refl

pub blind-line_feed : IsBlind line_feed
unfolding changed_by
blind-line_feed visible t = refl

pub blind-reverse_index : IsBlind reverse_index
unfolding changed_by
blind-reverse_index visible t = refl

-- ---- after a log

module _ (log : List Item) (fs : List Function) (rest : AtRest log) (read : AreRead fs) where
  abbrev all : Spells fs
  all = spells fs read

  abbrev later : List Item
  later = log ++ map Byte (flat_map text_of fs)

  later_is : later ≡ log ++ map Byte (encode_utf8_all all.letters)
  later_is = ap (λ l. log ++ map Byte l) all.bytes

  signs_are : signs later ≡ signs log ++ map character all.letters
  signs_are = ap signs later_is ∙ signs-encoded log all.letters rest.whole all.good

  after_all : (more : List Sign) → functions (signs later ++ more) ≡ (functions (signs log) ++ fs) ++ functions more
  after_all more =
      ap (λ l. functions (l ++ more)) signs_are
      ∙ ap functions (append_assoc (signs log) (map character all.letters) more)
      ∙ rest.to_come (map character all.letters ++ more)
      ∙ ap (λ l. functions (signs log) ++ l) (all.gives more)
      ∙ sym (append_assoc (functions (signs log)) fs (functions more))

  -- the text of functions is read as those functions
  pub reads : functions_of later ≡ functions_of log ++ fs
  reads =
      ap functions (sym (append-nil (signs later))) ∙ after_all [] ∙ ap (λ l. (functions (signs log) ++ fs) ++ l) functions-nil ∙ append-nil (functions (signs log) ++ fs)

  -- and the reader is at rest again
  pub rests : AtRest later
  rests = record {
    whole = ap (λ l. unfinished_part (bytes_of l)) later_is ∙ bytes-encoded log all.letters rest.whole all.good;
    to_come = λ more. after_all more ∙ sym (ap (λ l. l ++ functions more) reads);
  }

  -- and the terminal does these functions
  pub term-acted : (rows cols lines : ℕ) → (term rows cols lines later).live ≡ acted fs (term rows cols lines log).live
  unfolding term
  term-acted rows cols lines =
      let start = started_terminal rows cols lines in
      ap (λ l. (run start l).live) reads ∙ ap (λ (t : Terminal). t.live) (run-append start (functions_of log) fs)
      ∙ run-live (run start (functions_of log)) fs
