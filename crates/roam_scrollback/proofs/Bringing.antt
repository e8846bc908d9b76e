-- The effect of a size and of the text of a rewrap on a source.
use Rattle.std.proofs.Common.{◌≡◌, ℕ, ◌+◌, ◌-◌, Bool, true, false, List, [], ◌∷◌, ◌++◌, map, Some, None, refl, sym, ap, ◌∙◌, arith, append_assoc, take, drop, take-append-drop}
use Rattle.std.specs.Prelude.{codes, if◌then◌else◌}
use Rattle.std.specs.Fmt.{digits}
use Rattle.std.proofs.lemmas.List.{append_cancel_left, append-nil, map-append}
use Rattle.roam_cells.specs.Inks.{InkValue}
use Rattle.roam_charset.specs.declared.charsets.Charset.TheVariants.{Ascii}
use Rattle.roam_charset.specs.declared.sets.Element.TheVariants.{G0}
use Rattle.roam_controls.specs.declared.modes.Modes.{Modes}
use Rattle.roam_grid.specs.Frames.{after_resizing}
use Rattle.roam_paint.proofs.Readings.{IsFinal, legible-plain, legible-private}
use Rattle.roam_paint.proofs.Text as paint
use Rattle.roam_repaint.proofs.Reading.{text_is_read}
use Rattle.roam_repaint.proofs.Whole.{text_repaints}
use Rattle.roam_repaint.specs.Repainted.{IsPlain, IsRepaint, IsRepainted, column_after}
use Rattle.roam_repaint.specs.Repainting.{Repaint, repaint_text, repainting}
use Rattle.roam_rewrap.proofs.Joining.{lines_stay}
use Rattle.roam_rewrap.specs.Lines.{TextRow, lines_of}
use Rattle.roam_rewrap.specs.Windows.{ReflowView, reflowed}
use Rattle.roam_screens.specs.Screenshot.{Screenshot}
use Rattle.roam_scrollback.specs.Lines.{LinesView}
use Rattle.roam_scrollback.specs.Rewraps.{IsBroughtTo, IsRewrapped, IsLike, IsPrepared, Leads, RewrapKeepsLines, RewrapShows, TextLeads, closing, columns_before, opening, text_from}
use Rattle.roam_scrollback.specs.Sources.{SourceView}
use Rattle.roam_scrollback.specs.declared.wraps.Wrap.{Wrap}
use Rattle.roam_scrollback.proofs.Through.{live-append}
use Rattle.roam_term.specs.ControlFunctions.{csi}
use Rattle.roam_term.specs.Terminal.{Live, changed_by, live_after, sized_to}
use Rattle.roam_text.proofs.Fronts.{functions-nil, functions-step}
use Rattle.roam_text.proofs.Logs.{bytes_of-size, signs_after-size}
use Rattle.roam_text.specs.Functions.{functions, functions_of}
use Rattle.roam_text.specs.Log.{Item, Byte, Resized, Sign, Resize, signs, unfinished_part}
use Rattle.roam_text.specs.Resting.{AtRest}
use Rattle.roam_text.specs.Stands.{Stands as Reads}
use Rattle.roam_text.specs.declared.functions.Function.{Function}
use Rattle.roam_text.specs.declared.functions.Function.TheVariants.{Size}

-- ---- the modes

abbrev replace-off : Function
replace-off = csi None (4 ∷ []) 0x6C

abbrev reverse-off : Function
reverse-off = csi (Some 0x3F) (5 ∷ []) 0x6C

abbrev replace-on : Function
replace-on = csi None (4 ∷ []) 0x68

abbrev reverse-on : Function
reverse-on = csi (Some 0x3F) (5 ∷ []) 0x68

abbrev opens : List Function
opens = replace-off ∷ reverse-off ∷ []

abbrev closes : Bool → Bool → List Function
closes insert reverse = (if insert then replace-on ∷ [] else []) ++ (if reverse then reverse-on ∷ [] else [])

final-on : IsFinal 0x68
final-on = record { out = refl; ends = λ h rest. refl; ascii = omega arith }

final-off : IsFinal 0x6C
final-off = record { out = refl; ends = λ h rest. refl; ascii = omega arith }

-- ---- how the text is read

-- the text of functions is read as those
record IsReadAs (log : List Item) (text : List ℕ) (fs : List Function) : Type 0 where
  functions : functions_of (log ++ map Byte text) ≡ functions_of log ++ fs
  rests : AtRest (log ++ map Byte text)

opening-read : (log : List Item) → AtRest log → IsReadAs log opening opens
unfolding digits
opening-read log rest = record {
  functions = paint.reads log opens rest
      (legible-plain 4 [] 0x6C (omega arith, tt) (omega arith) final-off, (legible-private 5 [] 0x6C (omega arith, tt) (omega arith) final-off, tt));
  rests = paint.rests log opens rest
      (legible-plain 4 [] 0x6C (omega arith, tt) (omega arith) final-off, (legible-private 5 [] 0x6C (omega arith, tt) (omega arith) final-off, tt));
}

abbrev closing-text : Bool → Bool → List ℕ
closing-text insert reverse = (if insert then 0x1B ∷ codes "[4h" else []) ++ (if reverse then 0x1B ∷ codes "[?5h" else [])

closing-read : (insert reverse : Bool) (log : List Item) → AtRest log
    → functions_of (log ++ map Byte (closing-text insert reverse)) ≡ functions_of log ++ closes insert reverse
unfolding digits
closing-read true true log rest = paint.reads log (closes true true) rest
    (legible-plain 4 [] 0x68 (omega arith, tt) (omega arith) final-on, (legible-private 5 [] 0x68 (omega arith, tt) (omega arith) final-on, tt))
closing-read true false log rest = paint.reads log (closes true false) rest (legible-plain 4 [] 0x68 (omega arith, tt) (omega arith) final-on, tt)
closing-read false true log rest = paint.reads log (closes false true) rest (legible-private 5 [] 0x68 (omega arith, tt) (omega arith) final-on, tt)
closing-read false false log rest = paint.reads log (closes false false) rest tt

-- a size falls between characters and sequences
module _ (log : List Item) (rows cols : ℕ) (rest : AtRest log) where
  abbrev sized-log : List Item
  sized-log = log ++ Resized rows cols ∷ []

  size-read-more : (more : List Sign) → functions (signs sized-log ++ more) ≡ (functions (signs log) ++ Size rows cols ∷ []) ++ functions more
  size-read-more more =
      ap (λ l. functions (l ++ more)) (signs_after-size [] log rows cols) ∙ ap functions (append_assoc (signs log) (Resize rows cols ∷ []) more)
      ∙ rest.to_come (Resize rows cols ∷ more)
      ∙ ap (λ l. functions (signs log) ++ l) (functions-step (Resize rows cols) more)
      ∙ sym (append_assoc (functions (signs log)) (Size rows cols ∷ []) (functions more))

  size-read : functions_of sized-log ≡ functions_of log ++ Size rows cols ∷ []
  size-read =
      ap functions (sym (append-nil (signs sized-log))) ∙ size-read-more []
      ∙ ap (λ l. (functions (signs log) ++ Size rows cols ∷ []) ++ l) functions-nil ∙ append-nil (functions (signs log) ++ Size rows cols ∷ [])

  size-rests : AtRest sized-log
  size-rests = record {
    whole = ap unfinished_part (bytes_of-size log rows cols) ∙ rest.whole;
    to_come = λ more. size-read-more more ∙ sym (ap (λ l. l ++ functions more) size-read);
  }

-- ---- the effect on a terminal

abbrev opened : Live → ℕ → ℕ → Live
opened l rows cols = record (sized_to rows cols l) { modes = record l.modes { insert = false; reverse_screen = false }; printed = None }

opens-so : (l : Live) (rows cols : ℕ) → live_after l (Size rows cols ∷ opens) ≡ opened l rows cols
unfolding changed_by after_resizing
opens-so l rows cols = refl

closes-so : (insert reverse : Bool) (u : Live) → u.printed ≡ None → u.modes.insert ≡ false → u.modes.reverse_screen ≡ false
    → live_after u (closes insert reverse)
    ≡ record u { modes = record u.modes { insert = insert; reverse_screen = reverse }; printed = None }
unfolding changed_by
closes-so true true u p i r = refl
closes-so true false u p i r = λ j. record u { modes = record u.modes { insert = true; reverse_screen = r j }; printed = None }
closes-so false true u p i r = λ j. record u { modes = record u.modes { insert = i j; reverse_screen = true }; printed = None }
closes-so false false u p i r = λ j. record u { modes = record u.modes { insert = i j; reverse_screen = r j }; printed = p j }

together : (log : List Item) (xs ys : List ℕ) → (log ++ map Byte xs) ++ map Byte ys ≡ log ++ map Byte (xs ++ ys)
together log xs ys = append_assoc log (map Byte xs) (map Byte ys) ∙ sym (ap (λ l. log ++ l) (map-append Byte xs ys))

in-turn : (a b c d e : List Function) → (((a ++ b) ++ c) ++ d) ++ e ≡ a ++ (b ++ (c ++ (d ++ e)))
in-turn a b c d e = append_assoc ((a ++ b) ++ c) d e ∙ append_assoc (a ++ b) c (d ++ e) ∙ append_assoc a b (c ++ (d ++ e))

module _ (old new : SourceView) (lines lines' : LinesView) (rows cols back : ℕ) (text : List ℕ) (log : List Item) (reads : Reads old.reader log)
    (is : IsRewrapped old new lines lines' rows cols back text) where
  abbrev l : Live
  l = old.live

  abbrev r : Repaint
  r = is.prepared.brings.repaint

  abbrev t : Live
  t = opened l rows cols

  abbrev log1 : List Item
  log1 = log ++ Resized rows cols ∷ []

  abbrev log2 : List Item
  log2 = log1 ++ map Byte opening

  abbrev log3 : List Item
  log3 = log2 ++ map Byte (repaint_text r)

  abbrev log4 : List Item
  log4 = log3 ++ map Byte (closing l.modes)

  abbrev shown : Screenshot
  shown = is.prepared.brings.repaint.shot

  shot-is : shown ≡ is.reflow.shot
  shot-is = is.prepared.brings.shot

  paints : IsRepaint t r
  unfolding after_resizing
  paints = record {
    shot = is.prepared.brings.painted;
    rows = ap (λ (s : Screenshot). s.rows) (shot-is ∙ ap (λ (f : ReflowView). f.shot) is.prepared.is);
    cols = ap (λ (s : Screenshot). s.cols) (shot-is ∙ ap (λ (f : ReflowView). f.shot) is.prepared.is);
    pends = is.prepared.brings.pends;
    style = is.prepared.brings.styled;
  }

  plain : IsPlain t
  plain = record {
    main = is.main;
    single = is.single;
    replaces = refl;
    origin = is.prepared.brings.origin;
    reverse = refl;
    unguarded = is.prepared.brings.unguarded;
  }

  -- ---- the functions

  all : List Function
  all = Size rows cols ∷ (opens ++ (repainting r ++ closes l.modes.insert l.modes.reverse_screen))

  read-all : functions_of log4 ≡ functions_of log ++ (Size rows cols ∷ (opens ++ (repainting r ++ closes l.modes.insert l.modes.reverse_screen)))
  read-all =
      let rest = is.rests log reads in
      let begun = opening-read log1 (size-rests log rows cols rest) in
      let painted = text_is_read t log2 r paints begun.rests in
      closing-read l.modes.insert l.modes.reverse_screen log3 painted.rests
      ∙ ap (λ fs. fs ++ closes l.modes.insert l.modes.reverse_screen)
      (painted.functions ∙ ap (λ fs. fs ++ repainting r) (begun.functions ∙ ap (λ fs. fs ++ opens) (size-read log rows cols rest)))
      ∙ in-turn (functions_of log) (Size rows cols ∷ []) opens (repainting r) (closes l.modes.insert l.modes.reverse_screen)

  whole : log ++ Resized rows cols ∷ map Byte text ≡ log4
  whole =
      sym (append_assoc log (Resized rows cols ∷ []) (map Byte text))
      ∙ ap (λ bytes. log1 ++ map Byte bytes) is.prepared.brings.is
      ∙ sym (together log1 opening (repaint_text r ++ closing l.modes))
      ∙ sym (together log2 (repaint_text r) (closing l.modes))

  live-is : new.live ≡ live_after l (Size rows cols ∷ (opens ++ (repainting r ++ closes l.modes.insert l.modes.reverse_screen)))
  live-is =
      let follows = is.follows log reads in
      follows.live
      ∙ ap (live_after l)
      (append_cancel_left (functions_of log) follows.more
      (Size rows cols ∷ (opens ++ (repainting r ++ closes l.modes.insert l.modes.reverse_screen)))
      (sym follows.functions ∙ ap functions_of whole ∙ read-all))

  steps : new.live ≡ live_after (live_after t (repainting r)) (closes l.modes.insert l.modes.reverse_screen)
  steps =
      live-is ∙ live-append l (Size rows cols ∷ opens) (repainting r ++ closes l.modes.insert l.modes.reverse_screen)
      ∙ ap (λ u. live_after u (repainting r ++ closes l.modes.insert l.modes.reverse_screen)) (opens-so l rows cols)
      ∙ live-append t (repainting r) (closes l.modes.insert l.modes.reverse_screen)

  done : IsRepainted t r (live_after t (repainting r))
  done = text_repaints t r plain paints

  pen-is : record { style = r.style; guarded = false } ≡ l.pen
  pen-is = λ j. record { style = is.prepared.brings.style j; guarded = sym is.prepared.brings.unguarded j }

  visible-is : r.shot.visible ≡ l.modes.cursor_visible
  visible-is = ap (λ (s : Screenshot). s.visible) (shot-is ∙ ap (λ (f : ReflowView). f.shot) is.prepared.is)

  modes-are : record l.modes { autowrap = r.wraps; cursor_visible = r.shot.visible } ≡ l.modes
  modes-are = λ j. record l.modes { autowrap = is.prepared.brings.wraps j; cursor_visible = visible-is j }

  brought : IsBroughtTo l rows cols r new.live
  unfolding after_resizing
  brought =
      let u : Live = record {
        screen =
            record {
              rows = rows;
              cols = cols;
              cells = done.cells;
              row = r.shot.cursor_row - 1;
              col = column_after r;
              pending = r.pending;
              top = 0;
              bottom = rows - 1;
              stops = l.screen.stops;
            };
        other = (sized_to rows cols l).other;
        alternate = false;
        pen = record { style = r.style; guarded = false };
        modes = record t.modes { autowrap = r.wraps; cursor_visible = r.shot.visible };
        sets = record l.sets { g0 = Ascii; locked = G0 };
        saved = l.saved;
        saved_alternate = l.saved_alternate;
        printed = None;
      } in
      record {
        cells = done.cells;
        is =
            steps ∙ ap (λ v. live_after v (closes l.modes.insert l.modes.reverse_screen)) done.is
            ∙ closes-so l.modes.insert l.modes.reverse_screen u refl refl refl
            ∙ λ j. record u { pen = pen-is j; modes = modes-are j };
        places = done.places;
      }

pub rewrap_shows : RewrapShows
rewrap_shows old new lines lines' rows cols back text log reads is = brought old new lines lines' rows cols back text log reads is

-- ---- the lines

in-parts : (off rows : ℕ) (all : List TextRow) → take off all ++ (take rows (drop off all) ++ drop rows (drop off all)) ≡ all
in-parts off rows all = ap (λ l. take off all ++ l) (take-append-drop rows (drop off all)) ∙ take-append-drop off all

pub rewrap_keeps_lines : RewrapKeepsLines
rewrap_keeps_lines old new lines lines' rows cols back text is =
    ap lines_of (in-parts is.reflow.off rows is.reflow.rows) ∙ ap (λ (f : ReflowView). lines_of f.rows) is.prepared.is
    ∙ lines_stay cols (text_from is.first is.prepared.height lines.kept old.live old.wraps)

-- ---- another terminal

abbrev without-modes : Live → Live
without-modes t = record t { modes = record t.modes { insert = false; reverse_screen = false }; printed = None }

opens-any : (t : Live) → live_after t opens ≡ without-modes t
unfolding changed_by
opens-any t = refl

in-three : (a b c d : List Function) → ((a ++ b) ++ c) ++ d ≡ a ++ (b ++ (c ++ d))
in-three a b c d = append_assoc (a ++ b) c d ∙ append_assoc a b (c ++ d)

module _ (l : Live) (wraps : List Wrap) (kept : List TextRow) (rows cols first back : ℕ) (reflow : ReflowView) (text : List ℕ)
    (p : IsPrepared l wraps kept rows cols first back reflow text) (t : Live) (like : IsLike l rows cols t) (log : List Item)
    (rest : AtRest log) where
  abbrev rp : Repaint
  rp = p.brings.repaint

  abbrev t1 : Live
  t1 = without-modes t

  abbrev on-log : List Item
  on-log = log ++ map Byte opening

  abbrev closed : List Function
  closed = closes l.modes.insert l.modes.reverse_screen

  shot-same : rp.shot ≡ (reflowed (text_from first p.height kept l wraps)
      (record { row = back + l.screen.row; col = columns_before l.screen }) rows cols l.modes.cursor_visible).shot
  shot-same = p.brings.shot ∙ ap (λ (f : ReflowView). f.shot) p.is

  can-paint : IsRepaint t1 rp
  can-paint = record {
    shot = p.brings.painted;
    rows = ap (λ (s : Screenshot). s.rows) shot-same ∙ sym like.height;
    cols = ap (λ (s : Screenshot). s.cols) shot-same ∙ sym like.width;
    pends = p.brings.pends;
    style = p.brings.styled;
  }

  is-plain : IsPlain t1
  is-plain = record {
    main = like.main;
    single = like.single;
    replaces = refl;
    origin = ap (λ (m : Modes). m.origin) like.modes ∙ p.brings.origin;
    reverse = refl;
    unguarded = ap (λ (i : InkValue). i.guarded) like.pen ∙ p.brings.unguarded;
  }

  painted-on : IsRepainted t1 rp (live_after t1 (repainting rp))
  painted-on = text_repaints t1 rp is-plain can-paint

  text-read : functions_of (log ++ map Byte text) ≡ functions_of log ++ (opens ++ (repainting rp ++ closed))
  text-read =
      let begun = opening-read log rest in
      let painted = text_is_read t1 on-log rp can-paint begun.rests in
      ap (λ bytes. functions_of (log ++ map Byte bytes)) p.brings.is
      ∙ sym (ap functions_of (together on-log (repaint_text rp) (closing l.modes) ∙ together log opening (repaint_text rp ++ closing l.modes)))
      ∙ closing-read l.modes.insert l.modes.reverse_screen (on-log ++ map Byte (repaint_text rp)) painted.rests
      ∙ ap (λ fs. fs ++ closed) (painted.functions ∙ ap (λ fs. fs ++ repainting rp) begun.functions)
      ∙ in-three (functions_of log) opens (repainting rp) closed

  pen-same : record { style = rp.style; guarded = false } ≡ t.pen
  pen-same =
      (λ j. record { style = p.brings.style j; guarded = sym p.brings.unguarded j }) ∙ sym like.pen

  modes-same : record t.modes {
    insert = l.modes.insert;
    reverse_screen = l.modes.reverse_screen;
    autowrap = rp.wraps;
    cursor_visible = rp.shot.visible;
  } ≡ t.modes
  modes-same = λ j. record t.modes {
    insert = ap (λ (m : Modes). m.insert) (sym like.modes) j;
    reverse_screen = ap (λ (m : Modes). m.reverse_screen) (sym like.modes) j;
    autowrap = (p.brings.wraps ∙ ap (λ (m : Modes). m.autowrap) (sym like.modes)) j;
    cursor_visible = (ap (λ (s : Screenshot). s.visible) shot-same ∙ ap (λ (m : Modes). m.cursor_visible) (sym like.modes)) j;
  }

  leads : Leads t rp text log
  leads =
      let u : Live = record {
        screen =
            record {
              rows = t.screen.rows;
              cols = t.screen.cols;
              cells = painted-on.cells;
              row = rp.shot.cursor_row - 1;
              col = column_after rp;
              pending = rp.pending;
              top = 0;
              bottom = t.screen.rows - 1;
              stops = t.screen.stops;
            };
        other = t.other;
        alternate = false;
        pen = record { style = rp.style; guarded = false };
        modes = record t1.modes { autowrap = rp.wraps; cursor_visible = rp.shot.visible };
        sets = record t.sets { g0 = Ascii; locked = G0 };
        saved = t.saved;
        saved_alternate = t.saved_alternate;
        printed = None;
      } in
      record {
        functions = opens ++ (repainting rp ++ closed);
        read = text-read;
        cells = painted-on.cells;
        is =
            live-append t opens (repainting rp ++ closed) ∙ ap (λ v. live_after v (repainting rp ++ closed)) (opens-any t)
            ∙ live-append t1 (repainting rp) closed ∙ ap (λ v. live_after v closed) painted-on.is
            ∙ closes-so l.modes.insert l.modes.reverse_screen u refl refl refl
            ∙ (λ j. record u { alternate = sym like.main j; pen = pen-same j; modes = modes-same j });
        places = painted-on.places;
      }

pub text_leads : TextLeads
text_leads l wraps kept rows cols first back reflow text p t like log rest =
    leads l wraps kept rows cols first back reflow text p t like log rest
