-- A reader models the bytes that it read and wrote, step by step.
use Rattle.std.proofs.Math.Seq.{take-add, take-suc}
use Rattle.roam_scrollback_stream.specs.Runs.AnswersRewrap.{is_brought, is_later, is_other, is_refused}
use Rattle.roam_scrollback_stream.specs.Runs.IsBad.{long}
use Rattle.std.proofs.Common.{length-append, length-take, length-drop, take_all, take-append-drop, drop, ◌≡◌, ◌≢◌, ◌<◌, ◌≤◌, ◌+◌, ◌-◌, ◌^◌, ℕ, suc, min, Bool, true, List, [], ◌∷◌, ◌++◌, map, length, take, Option, Some, None, is_some, refl, sym, ap, subst, ◌∙◌, append_assoc, append-nil, slice_set, slice_index_or, inl, inr, replicate, Result, Ok, Err, IfOk, OnOk}
use native.Mathlib.Omega.{arith}
use Rattle.std.specs.List.{flat_map}
use Rattle.std.proofs.lemmas.List.{get_or_default, replicate-append-replicate, get_or_past, get_or-set_same, set-get_or}
use Rattle.std.proofs.lemmas.List.Elements.{All-append, All-nil}
use Rattle.roam_scrollback.specs.Sources.{SourceView}
use Rattle.roam_scrollback_stream.specs.Panes.{PaneView, ShowsAll, TellsAll, TellsFrom, fed_for, held_for}
use Rattle.roam_scrollback_stream.proofs.Going.{from-behind}
use Rattle.roam_scrollback_stream.specs.Readings.{DoesOrNot, InputView, Reaches, ReadingView, TerminalsView, reading_of}
use Rattle.roam_scrollback_stream.specs.Records.{part_text, screen_text}
use Rattle.roam_scrollback_stream.specs.Requests.{IsRequest, most_terminals, request_text}
use Rattle.roam_scrollback_stream.specs.Runs.{Answers, AnswersRewrap, IsBad, IsFed, IsLineStart, Ran, RanTo, RunView, bytes_after, longest_line, terminal_at, terminal_of}
use Rattle.roam_scrollback_stream.specs.declared.faults.RowsFault.{RowsFault}
use Rattle.roam_scrollback_stream.specs.declared.faults.RowsFault.TheVariants.{Record}
use Rattle.roam_scrollback_stream.specs.declared.requests.Request.{Request}
use Rattle.roam_scrollback_stream.specs.declared.requests.Request.TheVariants.{Pane, Size, Rewrap, Bytes, Screen, Gone}
use Rattle.roam_cells.specs.declared.faults.Fault.{Fault}
use Rattle.roam_text.specs.Log.{Byte, Item}

-- ---- output behind earlier output

pub tells-behind : (w : List ℕ) (old new : SourceView) (n : ℕ) (out out' : List ℕ) (items : List Item) → TellsAll old new n out out' items
    → TellsAll old new n (w ++ out) (w ++ out') items
tells-behind w old new n out out' items tells = λ rows cols log is.
    let told = tells rows cols log is in
    record {
      source = told.source;
      more = told.more;
      left = told.left;
      tells = record {
        parts = told.tells.parts;
        text = ap (λ l. w ++ l) told.tells.text ∙ sym (append_assoc w out (flat_map (part_text n) told.tells.parts));
        all_of = told.tells.all_of;
      };
      parts = told.parts;
    }

pub shows-behind : (w : List ℕ) (s : SourceView) (n : ℕ) (out out' : List ℕ) → ShowsAll s n out out' → ShowsAll s n (w ++ out) (w ++ out')
shows-behind w s n out out' shows = record {
  lines = shows.lines;
  written = shows.written;
  all_of = shows.all_of;
  text = ap (λ l. w ++ l) shows.text ∙ sym (append_assoc w out (screen_text n shows.lines));
}

pub fed-behind : (w bytes : List ℕ) (old new : PaneView) (out out' : List ℕ) → IsFed bytes old new out out'
    → IsFed bytes old new (w ++ out) (w ++ out')
fed-behind w bytes old new out out' fed = record {
  tells = tells-behind w old.source new.source old.number out out' _ fed.tells;
  from = from-behind w old.source new.source old.kept new.kept old.number out out' _ fed.from;
  held = fed.held;
  number = fed.number;
}

rewrap-behind : (w : List ℕ) (rows cols : ℕ) (old new : PaneView) (out out' : List ℕ) → AnswersRewrap rows cols old new out out'
    → AnswersRewrap rows cols old new (w ++ out) (w ++ out')
rewrap-behind w rows cols old new out out' (is_brought b) = is_brought (record {
  is = b.is;
  whole = b.whole;
  lines = b.lines;
  back = b.back;
  text = b.text;
  rewrapped = b.rewrapped;
  kept = b.kept;
  few = b.few;
  held = b.held;
  number = b.number;
  written = ap (λ l. w ++ l) b.written ∙ sym (append_assoc w out _);
})
rewrap-behind w rows cols old new out out' (is_later why same text) = is_later why same (ap (λ l. w ++ l) text ∙ sym (append_assoc w out _))
rewrap-behind w rows cols old new out out' (is_other is same text) = is_other is same (ap (λ l. w ++ l) text ∙ sym (append_assoc w out _))
rewrap-behind w rows cols old new out out' (is_refused same text) = is_refused same (ap (λ l. w ++ l) text ∙ sym (append_assoc w out _))

pub answers-behind : (w : List ℕ) (normalize : Bool) (request : Request) (old new : Option PaneView) (out out' : List ℕ)
    → Answers normalize request old new out out' → Answers normalize request old new (w ++ out) (w ++ out')
answers-behind w normalize (Pane n rows cols) old new out out' a = (a.0, a.1, a.2, ap (λ l. w ++ l) a.3)
answers-behind w normalize (Size n rows cols) old new out out' a = (
  a.0,
  a.1,
  a.2,
  a.3,
  record {
    is = a.4.is;
    tells = tells-behind w a.0.source a.1.source a.0.number out out' _ a.4.tells;
    from = from-behind w a.0.source a.1.source a.0.kept a.1.kept a.0.number out out' _ a.4.from;
    held = a.4.held;
    number = a.4.number;
  },
)
answers-behind w normalize (Rewrap n rows cols) old new out out' a = (a.0, a.1, a.2, a.3, rewrap-behind w rows cols a.0 a.1 out out' a.4)
answers-behind w normalize (Bytes n count) old new out out' a = (a.0, a.1, a.2, ap (λ l. w ++ l) a.3)
answers-behind w normalize (Screen n) old new out out' a = (a.0, a.1, a.2, shows-behind w a.0.source a.0.number out out' a.3)
answers-behind w normalize (Gone n) old new out out' a = (a.0, a.1, a.2, ap (λ l. w ++ l) a.3)

abbrev pane-or : PaneView → Option PaneView → PaneView
pane-or other None = other
pane-or other (Some pane) = pane

-- the terminal that was at a place is the one that was fed
same-fed : (pane new : PaneView) (place : Option PaneView) (piece out out' : List ℕ) → place ≡ Some pane → IsFed piece pane new out out'
    → (old : PaneView) → place ≡ Some old → (x : PaneView) × (Some new ≡ Some x) × IsFed piece old x out out'
same-fed pane new place piece out out' was fed old is =
    (new, refl, subst (λ (p : PaneView). IsFed piece p new out out') (ap (pane-or pane) (sym was ∙ is)) fed)

pub fed-if-ok : (r : Result (Unit {0}) Fault) (pane new : PaneView) (place : Option PaneView) (piece out out' : List ℕ) → place ≡ Some pane
    → OnOk r (TellsAll pane.source new.source pane.number out out' (map Byte (fed_for pane.held piece)))
    → OnOk r (TellsFrom pane.source pane.kept new.source new.kept pane.number out out' (map Byte (fed_for pane.held piece)))
    → OnOk r (new.held ≡ held_for pane.held piece) → OnOk r (new.number ≡ pane.number)
    → OnOk r ((old : PaneView) → place ≡ Some old → (x : PaneView) × (Some new ≡ Some x) × IsFed piece old x out out')
fed-if-ok (Ok done) pane new place piece out out' was tells goes held number =
    same-fed pane new place piece out out' was (record { tells = tells; from = goes; held = held; number = number })
fed-if-ok (Err fault) pane new place piece out out' was tells goes held number = tt

-- ---- places

-- one place more without a terminal
pub one-more : (n : ℕ) (old new : List (Option PaneView)) → old ≡ replicate n None → new ≡ old ++ None ∷ [] → new ≡ replicate (n + 1) None
one-more n old new before more =
    more ∙ ap (λ (l : List (Option PaneView)). l ++ None ∷ []) before ∙ replicate-append-replicate n 1 None

-- a terminal that is there has its place in the list
pub in-list : (ts : List (Option PaneView)) (n : ℕ) → is_some (terminal_at ts n) ≡ true → n < length ts
in-list ts n there = grind (arith, get_or_past, there)

-- a request's terminal has a number below 1,024
pub in-range : (request : Request) → IsRequest request → terminal_of request < most_terminals
in-range (Pane n rows cols) is = is.terminal
in-range (Size n rows cols) is = is.terminal
in-range (Rewrap n rows cols) is = is.terminal
in-range (Bytes n count) is = is.0
in-range (Screen n) is = is
in-range (Gone n) is = is

-- a request was carried out at the place of its terminal
pub placed : (r : Result Bool Fault) (normalize normalize' : Bool) (request : Request) (ts items : List (Option PaneView)) (at : ℕ)
    (place new : Option PaneView) (out out' : List ℕ) → IsRequest request → length items ≡ most_terminals → items ≡ ts
    → normalize ≡ normalize' → at ≡ terminal_of request → place ≡ slice_index_or items at place
    → IfOk r (λ (done : Bool). DoesOrNot done normalize request place new out out')
    → IfOk r (λ (done : Bool). (x : Option PaneView) × (slice_set items at new ≡ slice_set ts (terminal_of request) x)
    × DoesOrNot done normalize' request (terminal_at ts (terminal_of request)) x out out')
placed (Err fault) normalize normalize' request ts items at place new out out' is size same filters number here does = tt
placed (Ok done) normalize normalize' request ts items at place new out out' is size same filters number here does =
    let n = terminal_of request in
    let within : at < length items = omega (arith, in-range request is, size, number) in
    let was : place ≡ terminal_at ts n =
    here ∙ get_or_default items at place None within ∙ ap (λ (l : List (Option PaneView)). terminal_at l at) same ∙ ap (terminal_at ts) number in (
      new,
      ap (λ (l : List (Option PaneView)). slice_set l at new) same ∙ ap (λ (k : ℕ). slice_set ts k new) number,
      subst (λ (z : Bool). DoesOrNot done z request (terminal_at ts n) new out out') filters
          (subst (λ (p : Option PaneView). DoesOrNot done normalize request p new out out') was does),
    )

-- a terminal was fed at its place
pub fed-there : (r : Result (Unit {0}) Fault) (ts items : List (Option PaneView)) (n at : ℕ) (place new : Option PaneView)
    (piece out out' : List ℕ) → n < most_terminals → length items ≡ most_terminals → items ≡ ts → at ≡ n
    → place ≡ slice_index_or items at place
    → OnOk r ((old : PaneView) → place ≡ Some old → (x : PaneView) × (new ≡ Some x) × IsFed piece old x out out')
    → OnOk r ((old : PaneView) → terminal_at ts n ≡ Some old → (x : PaneView) × (slice_set items at new ≡ slice_set ts n (Some x))
    × IsFed piece old x out out')
fed-there (Err fault) ts items n at place new piece out out' below size same number here feeds = tt
fed-there (Ok done) ts items n at place new piece out out' below size same number here feeds = λ old is.
    let within : at < length items = omega (arith, below, size, number) in
    let was : place ≡ terminal_at ts n =
    here ∙ get_or_default items at place None within ∙ ap (λ (l : List (Option PaneView)). terminal_at l at) same ∙ ap (terminal_at ts) number in
    let fed = feeds old (was ∙ is) in (
      fed.0,
      ap (λ (l : List (Option PaneView)). slice_set l at new) same ∙ ap (λ (k : ℕ). slice_set ts k new) number
          ∙ ap (slice_set ts n) fed.1,
      fed.2,
    )

-- behind a request that bytes follow, its terminal is there
pub there-after : (normalize : Bool) (request : Request) (ts : List (Option PaneView)) (place : Option PaneView) (out out' : List ℕ)
    → Answers normalize request (terminal_at ts (terminal_of request)) place out out' → 0 < bytes_after request
    → is_some (terminal_at (slice_set ts (terminal_of request) place) (terminal_of request)) ≡ true
there-after normalize (Pane n rows cols) ts place out out' a some = absurd (omega (arith, some))
there-after normalize (Size n rows cols) ts place out out' a some = absurd (omega (arith, some))
there-after normalize (Rewrap n rows cols) ts place out out' a some = absurd (omega (arith, some))
there-after normalize (Bytes n count) ts place out out' a some =
    ap (λ (p : Option PaneView). is_some (terminal_at (slice_set ts n p) n)) a.2
    ∙ ap (λ (l : List (Option PaneView)). is_some (terminal_at l n)) (set-get_or ts n None) ∙ ap is_some a.1
there-after normalize (Screen n) ts place out out' a some = absurd (omega (arith, some))
there-after normalize (Gone n) ts place out out' a some = absurd (omega (arith, some))

-- ---- the steps

-- the same reader
pub reach-as : (z z' : Bool) (ts ts' : List (Option PaneView)) (i i' : InputView) (read out : List ℕ) → z' ≡ z → ts' ≡ ts → i' ≡ i
    → Reaches (record { normalize = z; terminals = ts; input = i }) read out
    → Reaches (record { normalize = z'; terminals = ts'; input = i' }) read out
reach-as z z' ts ts' i i' read out filters same input reaches =
    subst (λ (x : Bool). Reaches (record { normalize = x; terminals = ts'; input = i' }) read out) (sym filters)
    (subst (λ (x : List (Option PaneView)). Reaches (record { normalize = z; terminals = x; input = i' }) read out) (sym same)
    (subst (λ (x : InputView). Reaches (record { normalize = z; terminals = ts; input = x }) read out) (sym input) reaches))

-- the number of the line that is refused
abbrev pub line-of : Result (Unit {0}) RowsFault → ℕ
line-of (Ok done) = 0
line-of (Err (Record n)) = n
line-of (Err fault) = 0

abbrev is-cons : List ℕ → Type 0
is-cons [] = ⊥
is-cons (b ∷ l) = Unit {0}

cons-not-nil : (byte : ℕ) (line : List ℕ) → byte ∷ line ≢ []
cons-not-nil byte line e = absurd (subst (λ (l : List ℕ). is-cons l) e tt)

-- no line begins while bytes are to come
nothing-more : (line : List ℕ) (coming : ℕ) → (line ≢ [] → coming ≡ 0) → 0 < coming → line ≡ []
nothing-more [] coming between some = refl
nothing-more (byte ∷ line) coming between some = absurd (omega (arith, some, between (cons-not-nil byte line)))

-- the start of a line, and a byte of it
line-longer : (line : List ℕ) (byte : ℕ) → IsLineStart line → length line < longest_line → byte ≢ 0x0A → IsLineStart (line ++ byte ∷ [])
line-longer line byte starts room other = record {
  unended = All-append (λ (b : ℕ). b ≢ 0x0A) line (byte ∷ []) starts.unended (λ k d within. grind (arith, other, within));
  short = grind (arith, length-append, room);
}

-- a byte of a line came
pub kept : (old : ReadingView) (byte : ℕ) (out read : List ℕ) → Reaches old read out → length old.input.line < longest_line
    → byte ≢ 0x0A → old.input.coming ≡ 0
    → Reaches (record old { input = record old.input { line = old.input.line ++ byte ∷ [] } }) (read ++ byte ∷ []) out
kept old byte out read reaches room other none = record {
  steps = reaches.steps;
  run = reaches.run;
  runs = reaches.runs;
  starts = line-longer old.input.line byte reaches.starts room other;
  between = λ _. none;
  terminals = reaches.terminals;
  records = reaches.records;
  number = reaches.number;
  coming = reaches.coming;
  there = reaches.there;
  read_is = ap (λ (l : List ℕ). l ++ byte ∷ []) reaches.read_is ∙ append_assoc reaches.run.input old.input.line (byte ∷ []);
  output_is = reaches.output_is;
}

-- the bytes are no record
pub refused : (old : ReadingView) (byte n : ℕ) (out read : List ℕ) → Reaches old read out → old.input.coming ≡ 0
    → n ≡ min (suc old.input.lines) (2 ^ 64 - 1) → IsBad old.terminals (old.input.line ++ byte ∷ [])
    → RanTo n old.normalize (read ++ byte ∷ []) out
refused old byte n out read reaches none counted bad = record {
  steps = reaches.steps;
  run = reaches.run;
  line = old.input.line ++ byte ∷ [];
  rest = [];
  runs = reaches.runs;
  between = reaches.coming ∙ none;
  bad = subst (λ (ts : List (Option PaneView)). IsBad ts (old.input.line ++ byte ∷ [])) (sym reaches.terminals) bad;
  counted = counted ∙ grind (arith, reaches.records);
  input =
      ap (λ (l : List ℕ). l ++ byte ∷ []) reaches.read_is ∙ append_assoc reaches.run.input old.input.line (byte ∷ [])
      ∙ ap (λ (l : List ℕ). reaches.run.input ++ l) (sym (append-nil (old.input.line ++ byte ∷ [])));
  output = reaches.output_is;
}

-- more came behind it
pub refused-more : (n : ℕ) (normalize : Bool) (read more out : List ℕ) → RanTo n normalize read out → RanTo n normalize (read ++ more) out
refused-more n normalize read more out ran = record {
  steps = ran.steps;
  run = ran.run;
  line = ran.line;
  rest = ran.rest ++ more;
  runs = ran.runs;
  between = ran.between;
  bad = ran.bad;
  counted = ran.counted;
  input =
      ap (λ (l : List ℕ). l ++ more) ran.input ∙ append_assoc ran.run.input (ran.line ++ ran.rest) more
      ∙ ap (λ (l : List ℕ). ran.run.input ++ l) (append_assoc ran.line ran.rest more);
  output = ran.output;
}

-- a reader models a run
pub ran : (reading : ReadingView) (read out : List ℕ) → Reaches reading read out → Ran reading.normalize read out
ran reading read out reaches = record {
  steps = reaches.steps;
  run = reaches.run;
  line = reading.input.line;
  runs = reaches.runs;
  starts = reaches.starts;
  between = λ more. reaches.coming ∙ reaches.between more;
  input = reaches.read_is;
  output = reaches.output_is;
}

-- a record's line was answered
pub asked : (old : ReadingView) (request : Request) (place : Option PaneView) (lines : ℕ) (w out out' read : List ℕ)
    → Reaches old read (w ++ out) → IsRequest request → old.input.line ≡ request_text request → old.input.coming ≡ 0
    → lines ≡ min (suc old.input.lines) (2 ^ 64 - 1)
    → Answers old.normalize request (terminal_at old.terminals (terminal_of request)) place out out'
    → Reaches
    (record {
      normalize = old.normalize;
      terminals = slice_set old.terminals (terminal_of request) place;
      input = record { line = []; lines = lines; coming = bytes_after request; number = terminal_of request };
    })
    (read ++ 0x0A ∷ []) (w ++ out')
asked old request place lines w out out' read reaches is text none counted answers =
    let n = terminal_of request in
    let run : RunView = record {
      terminals = slice_set old.terminals n place;
      records = suc reaches.run.records;
      number = n;
      coming = bytes_after request;
      input = reaches.run.input ++ (request_text request ++ 0x0A ∷ []);
      output = w ++ out';
    } in
    record {
      steps = suc reaches.steps;
      run = run;
      runs = (
        reaches.run,
        reaches.runs,
        inl (record {
          request = request;
          is = is;
          place = place;
          between = reaches.coming ∙ none;
          answers =
              subst (λ (l : List ℕ). Answers old.normalize request (terminal_at reaches.run.terminals n) place l (w ++ out')) reaches.output_is
              (subst (λ (ts : List (Option PaneView)). Answers old.normalize request (terminal_at ts n) place (w ++ out) (w ++ out'))
              (sym reaches.terminals)
              (answers-behind w old.normalize request (terminal_at old.terminals n) place out out' answers));
          terminals = ap (λ (ts : List (Option PaneView)). slice_set ts n place) (sym reaches.terminals);
          records = refl;
          number = refl;
          coming = refl;
          input = refl;
        }),
      );
      starts = record { unended = All-nil _; short = omega arith };
      between = λ more. absurd (more refl);
      terminals = refl;
      records = counted ∙ grind (arith, reaches.records);
      number = refl;
      coming = refl;
      there = there-after old.normalize request old.terminals place out out' answers;
      read_is =
          ap (λ (l : List ℕ). l ++ 0x0A ∷ []) (reaches.read_is ∙ ap (λ (l : List ℕ). reaches.run.input ++ l) text)
          ∙ append_assoc reaches.run.input (request_text request) (0x0A ∷ []) ∙ sym (append-nil _);
      output_is = refl;
    }

-- bytes that follow a line were fed
pub fed : (old : ReadingView) (pane new : PaneView) (piece w out out' read : List ℕ) → Reaches old read (w ++ out) → 0 < length piece
    → length piece ≤ old.input.coming → terminal_at old.terminals old.input.number ≡ Some pane → IsFed piece pane new out out'
    → Reaches
    (record {
      normalize = old.normalize;
      terminals = slice_set old.terminals old.input.number (Some new);
      input = record old.input { coming = old.input.coming - length piece };
    })
    (read ++ piece) (w ++ out')
fed old pane new piece w out out' read reaches some within there is =
    let n = old.input.number in
    let none : old.input.line ≡ [] = nothing-more old.input.line old.input.coming reaches.between (omega (arith, some, within)) in
    let run : RunView = record {
      terminals = slice_set old.terminals n (Some new);
      records = reaches.run.records;
      number = n;
      coming = old.input.coming - length piece;
      input = reaches.run.input ++ piece;
      output = w ++ out';
    } in
    record {
      steps = suc reaches.steps;
      run = run;
      runs = (
        reaches.run,
        reaches.runs,
        inr (record {
          piece = piece;
          some = some;
          within = omega (arith, within, reaches.coming);
          pane = pane;
          fed = new;
          there =
              ap (λ (ts : List (Option PaneView)). terminal_at ts reaches.run.number) reaches.terminals
              ∙ ap (terminal_at old.terminals) reaches.number ∙ there;
          tells = subst (λ (l : List ℕ). IsFed piece pane new l (w ++ out')) reaches.output_is (fed-behind w piece pane new out out' is);
          terminals =
              ap (λ (ts : List (Option PaneView)). slice_set ts n (Some new)) (sym reaches.terminals)
              ∙ ap (λ (k : ℕ). slice_set reaches.run.terminals k (Some new)) (sym reaches.number);
          records = refl;
          number = sym reaches.number;
          coming = ap (λ (k : ℕ). k - length piece) (sym reaches.coming);
          input = refl;
        }),
      );
      starts = reaches.starts;
      between = λ more. absurd (more none);
      terminals = refl;
      records = reaches.records;
      number = refl;
      coming = refl;
      there = λ _.
          ap is_some (get_or-set_same old.terminals n (Some new) None (in-list old.terminals n (ap is_some there)));
      read_is =
          ap (λ (l : List ℕ). l ++ piece)
          (reaches.read_is ∙ ap (λ (l : List ℕ). reaches.run.input ++ l) none ∙ append-nil reaches.run.input)
          ∙ sym (append-nil (reaches.run.input ++ piece)) ∙ ap (λ (l : List ℕ). (reaches.run.input ++ piece) ++ l) (sym none);
      output_is = refl;
    }

-- ---- reading by the code

-- a line that is no record's, or a record's out of place
pub refused-line : (t : TerminalsView) (i : InputView) (n lines : ℕ) (out read : List ℕ) → Reaches (reading_of t i) read out → i.coming ≡ 0
    → ◌≡◌ {A = Result (Unit {0}) RowsFault} (Err (Record lines)) (Err (Record n)) → lines ≡ min (suc i.lines) (2 ^ 64 - 1)
    → (IsLineStart i.line → IsBad t.all_of (i.line ++ 0x0A ∷ [])) → RanTo n t.normalize (read ++ 0x0A ∷ []) out
refused-line t i n lines out read reaches none is counted bad =
    refused (reading_of t i) 0x0A n out read reaches none (sym (ap line-of is) ∙ counted) (bad reaches.starts)

-- a line that is too long
pub refused-byte : (t : TerminalsView) (i : InputView) (n lines byte : ℕ) (out read : List ℕ) → Reaches (reading_of t i) read out
    → i.coming ≡ 0 → ◌≡◌ {A = Result (Unit {0}) RowsFault} (Err (Record lines)) (Err (Record n)) → lines ≡ min (i.lines + 1) (2 ^ 64 - 1)
    → byte ≢ 0x0A → length i.line ≡ longest_line → RanTo n t.normalize (read ++ byte ∷ []) out
refused-byte t i n lines byte out read reaches none is counted other full =
    refused (reading_of t i) byte n out read reaches none (sym (ap line-of is) ∙ counted ∙ omega arith)
    (long i.line byte reaches.starts full other refl)

-- a line was answered
pub answered-line : (t t' : TerminalsView) (i mid i' : InputView) (request : Request) (place : Option PaneView) (w out out' read : List ℕ)
    → Reaches (reading_of t i) read (w ++ out) → i.coming ≡ 0 → IsRequest request → i.line ≡ request_text request
    → mid ≡ record i { line = []; lines = min (suc i.lines) (2 ^ 64 - 1) }
    → i' ≡ record mid { number = terminal_of request; coming = bytes_after request }
    → t'.normalize ≡ t.normalize → t'.all_of ≡ slice_set t.all_of (terminal_of request) place
    → Answers t.normalize request (terminal_at t.all_of (terminal_of request)) place out out'
    → Reaches (reading_of t' i') (read ++ 0x0A ∷ []) (w ++ out')
answered-line t t' i mid i' request place w out out' read reaches none is text ended expects filters set answers =
    reach-as _ _ _ _ _ _ _ _ filters set
    (expects ∙ ap (λ (m : InputView). record m { number = terminal_of request; coming = bytes_after request }) ended)
    (asked (reading_of t i) request place _ w out out' read reaches is text none refl answers)

that-is : (o : Option PaneView) → is_some o ≡ true → (p : PaneView) × (o ≡ Some p)
that-is None there = absurd (cc there)
that-is (Some p) there = (p, refl)

-- some bytes of a record were fed
pub fed-part : (t t' : TerminalsView) (i i' : InputView) (count number : ℕ) (piece w out out' read : List ℕ)
    → Reaches (reading_of t i) read (w ++ out) → number ≡ i.number → count ≡ min (length piece) i.coming → 0 < length piece
    → 0 < i.coming
    → ((old : PaneView) → terminal_at t.all_of number ≡ Some old → (new : PaneView) × (t'.all_of ≡ slice_set t.all_of number (Some new))
    × IsFed (take count piece) old new out out')
    → t'.normalize ≡ t.normalize → i' ≡ record i { coming = i.coming - count }
    → Reaches (reading_of t' i') (read ++ take count piece) (w ++ out')
fed-part t t' i i' count number piece w out out' read reaches numbered counted some coming feeds filters left =
    let at-number : terminal_at t.all_of number ≡ terminal_at t.all_of i.number = ap (terminal_at t.all_of) numbered in
    let one = that-is (terminal_at t.all_of i.number) (reaches.there coming) in
    let done = feeds one.0 (at-number ∙ one.1) in
    let size : length (take count piece) ≡ count = length-take count piece ∙ omega (arith, counted) in
    reach-as _ _ _ _ _ _ _ _ filters (done.1 ∙ ap (λ (k : ℕ). slice_set t.all_of k (Some done.0)) numbered)
    (left ∙ ap (λ (k : ℕ). record i { coming = i.coming - k }) (sym size))
    (fed (reading_of t i) one.0 done.0 (take count piece) w out out' read reaches (omega (arith, counted, some, coming, size))
    (omega (arith, counted, size)) one.1 done.2)

take-more : (at : ℕ) (piece : List ℕ) (d : ℕ) → at < length piece → take (at + 1) piece ≡ take at piece ++ slice_index_or piece at d ∷ []
take-more at piece d within =
    let e : at + 1 ≡ suc at = omega arith in
    ap (λ (k : ℕ). take k piece) e ∙ take-suc piece at d within

-- the front of a piece, and a byte or a piece behind it
pub read-on : (at n : ℕ) (piece read : List ℕ) → (read ++ take at piece) ++ take n (drop at piece) ≡ read ++ take (at + n) piece
read-on at n piece read = append_assoc read (take at piece) (take n (drop at piece)) ∙ ap (λ (l : List ℕ). read ++ l) (sym (take-add at n piece))

pub read-byte : (at byte : ℕ) (piece read : List ℕ) → at < length piece → byte ≡ slice_index_or piece at 0
    → (read ++ take at piece) ++ byte ∷ [] ≡ read ++ take (at + 1) piece
read-byte at byte piece read within here =
    append_assoc read (take at piece) (byte ∷ [])
    ∙ ap (λ (l : List ℕ). read ++ l) (ap (λ (b : ℕ). take at piece ++ b ∷ []) here ∙ sym (take-more at piece 0 within))

-- the rest of a piece
pub all-after : (i : ℕ) (xs : List ℕ) → take (length xs - i) (drop i xs) ≡ drop i xs
all-after i xs = take_all (length xs - i) (drop i xs) (omega (arith, length-drop i xs))

-- how long that is
pub left-long : (at : ℕ) (piece : List ℕ) → length (take (length piece - at) (drop at piece)) ≡ length piece - at
left-long at piece = ap (length {A = ℕ}) (all-after at piece) ∙ length-drop at piece

-- a part refused within a piece is refused with the whole piece
pub refused-within : (n at byte : ℕ) (normalize : Bool) (piece read out : List ℕ) → at < length piece → byte ≡ slice_index_or piece at 0
    → RanTo n normalize ((read ++ take at piece) ++ byte ∷ []) out → RanTo n normalize (read ++ piece) out
refused-within n at byte normalize piece read out within here ran =
    subst (λ (l : List ℕ). RanTo n normalize l out)
    (ap (λ (l : List ℕ). l ++ drop (at + 1) piece) (read-byte at byte piece read within here)
    ∙ append_assoc read (take (at + 1) piece) (drop (at + 1) piece)
    ∙ ap (λ (l : List ℕ). read ++ l) (take-append-drop (at + 1) piece))
    (refused-more n normalize ((read ++ take at piece) ++ byte ∷ []) (drop (at + 1) piece) out ran)
