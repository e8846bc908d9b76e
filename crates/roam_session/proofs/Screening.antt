-- The face of every session is a screen: each pane of its layout has a terminal of its rectangle's size.
use Rattle.std.proofs.Common.{◌≡◌, ℕ, suc, ◌<◌, eqb, List, [], ◌∷◌, ◌++◌, map, length, get_or, Option, Some, None, refl, ap, ◌∙◌, subst, arith}
use Rattle.std.specs.Prelude.{slice_index}
use Rattle.std.specs.List.{fold}
use Rattle.std.specs.Option.{option_map}
use Rattle.std.proofs.lemmas.Bool.{cond_both, and_parts, eqb-true}
use Rattle.roam_cells.specs.Limits.{IsSize}
use Rattle.roam_screens.specs.Screenshot.{Screenshot, IsScreenshot}
use Rattle.roam_text.specs.Log.{Item, Byte, Resized}
use Rattle.roam_acts.specs.declared.acts.Act.{Act}
use Rattle.roam_keys.specs.declared.keys.Key.{Key}
use Rattle.roam_term.specs.Picture.{picture}
use Rattle.roam_term.specs.Screens.{AreSizes, size_after}
use Rattle.roam_term.proofs.Picturing.{picture_screen}
use Rattle.roam_layout.specs.Rects.{rect_in}
use Rattle.roam_layout.specs.Layouts.{Outcome, Laid, Refused, IsSessionSize, start, outcome_of, panes}
use Rattle.roam_layout.specs.declared.rects.Rect.{Rect}
use Rattle.roam_layout.proofs.Laying.{IsLayout, laid_layout, start_layout, face_screen}
use Rattle.roam_layout.proofs.Segments.{ArePictured, IsPictured}
use Rattle.roam_session.specs.Faces.{picture_at, pictures_of, face}
use Rattle.roam_session.specs.Panes.{Pane, is_same_size, after_move, pane_after_act, after_feed, after_key, after_drain}
use Rattle.roam_session.specs.Sessions.{Entry, Given, Did, Drained, SessionSize, SessionState, at_pane, laid_out, key_in, after_act, after_entry, first_state, session}
use Rattle.roam_session.proofs.Rectangles.{sizes_in, found_by_number}

-- ---- the input of panes

pub sizes-append : (log more : List Item) → AreSizes log → AreSizes more → AreSizes (log ++ more)
sizes-append [] more h k = k
sizes-append (Byte b ∷ log) more h k = sizes-append log more h k
sizes-append (Resized r c ∷ log) more h k = (h.0, sizes-append log more h.1 k)

after-append : (p : ℕ × ℕ) (log more : List Item) → size_after p (log ++ more) ≡ size_after (size_after p log) more
after-append p [] more = refl
after-append p (Byte b ∷ log) more = after-append p log more
after-append p (Resized r c ∷ log) more = after-append (r, c) log more

pub bytes_sizes : (bytes : List ℕ) → AreSizes (map Byte bytes)
bytes_sizes [] = tt
bytes_sizes (b ∷ bytes) = bytes_sizes bytes

bytes_after : (p : ℕ × ℕ) (bytes : List ℕ) → size_after p (map Byte bytes) ≡ p
bytes_after p [] = refl
bytes_after p (b ∷ bytes) = bytes_after p bytes

-- ---- one pane

-- a pane whose terminal has a rectangle's size
record IsPaneOf (r : Rect) (p : Pane) : Type 0 where
  first : IsSize p.rows p.cols
  sizes : AreSizes p.log
  size : size_after (p.rows, p.cols) p.log ≡ (r.rows, r.cols)

-- if a layout has a rectangle, such a pane is there
abbrev IsPlaced : Option Rect → Option Pane → Type 0
IsPlaced None pane = Unit {0}
IsPlaced (Some r) None = ⊥
IsPlaced (Some r) (Some p) = IsPaneOf r p

abbrev Keeps : (Pane → Pane) → Type 0
Keeps change = (r : Rect) (p : Pane) → IsPaneOf r p → IsPaneOf r (change p)

fed_keeps : (bytes : List ℕ) → Keeps (after_feed bytes)
fed_keeps bytes r p is = record {
  first = is.first;
  sizes = sizes-append p.log (map Byte bytes) is.sizes (bytes_sizes bytes);
  size = after-append (p.rows, p.cols) p.log (map Byte bytes) ∙ bytes_after (size_after (p.rows, p.cols) p.log) bytes ∙ is.size;
}

keyed_keeps : (key : Key) → Keeps (after_key key)
keyed_keeps key r p is = record { first = is.first; sizes = is.sizes; size = is.size }

drained_keeps : (n : ℕ) → Keeps (after_drain n)
drained_keeps n r p is = record { first = is.first; sizes = is.sizes; size = is.size }

changed_placed : (change : Pane → Pane) → Keeps change → (o : Option Rect) (pane : Option Pane) → IsPlaced o pane → IsPlaced o
    (option_map change pane)
changed_placed change keeps None pane is = tt
changed_placed change keeps (Some r) None is = is
changed_placed change keeps (Some r) (Some p) is = keeps r p is

moved_placed : (from to : Rect) (p : Pane) → IsSize to.rows to.cols → IsPaneOf from p → IsPaneOf to (after_move from to p)
moved_placed from to p size is =
    let q : Pane = record { rows = p.rows; cols = p.cols; log = p.log ++ Resized to.rows to.cols ∷ []; waiting = p.waiting } in
    cond_both (is_same_size from to) p q (IsPaneOf to)
    (λ e. let same = and_parts (eqb from.rows to.rows) (eqb from.cols to.cols) e in
    record {
      first = is.first;
      sizes = is.sizes;
      size = is.size ∙ (λ i. (eqb-true from.rows to.rows same.0 i, eqb-true from.cols to.cols same.1 i));
    })
    (λ e. record {
      first = is.first;
      sizes = sizes-append p.log (Resized to.rows to.cols ∷ []) is.sizes (size, tt);
      size = after-append (p.rows, p.cols) p.log (Resized to.rows to.cols ∷ []);
    })

given_placed : (from to : Option Rect) (pane : Option Pane) → ((r : Rect) → to ≡ Some r → IsSize r.rows r.cols) → IsPlaced from pane
    → IsPlaced to (pane_after_act from to pane)
given_placed from None pane sizes is = tt
given_placed None (Some to) pane sizes is = record { first = sizes to refl; sizes = tt; size = refl }
given_placed (Some from) (Some to) None sizes is = is
given_placed (Some from) (Some to) (Some p) sizes is = moved_placed from to p (sizes to refl) is

-- ---- a session

record IsSession (s : SessionState) : Type 0 where
  layout : IsLayout s.plan
  placed : (k : ℕ) → IsPlaced (rect_in k (panes s.plan)) (s.pane k)

at_pane_is : (n : ℕ) (change : Pane → Pane) (s : SessionState) → Keeps change → IsSession s → IsSession (at_pane n change s)
at_pane_is n change s keeps is = record {
  layout = is.layout;
  placed = λ k.
      cond_both (eqb k n) (option_map change (s.pane k)) (s.pane k) (IsPlaced (rect_in k (panes s.plan)))
      (λ e. changed_placed change keeps (rect_in k (panes s.plan)) (s.pane k) (is.placed k)) (λ e. is.placed k);
}

laid_is : (o : Outcome) (act : Act) (s : SessionState) → outcome_of s.plan act ≡ o → IsSession s → IsSession (laid_out o s)
laid_is (Refused fault) act s e is = is
laid_is (Laid plan) act s e is =
    let layout = laid_layout s.plan plan act is.layout e in
    record {
      layout = layout;
      placed = λ k. given_placed (rect_in k (panes s.plan)) (rect_in k (panes plan)) (s.pane k) (sizes_in plan layout.plan k) (is.placed k);
    }

acted_is : (o : Option Key) (act : Act) (s : SessionState) → IsSession s → IsSession (after_act o act s)
acted_is (Some key) act s is = at_pane_is s.plan.focus (after_key key) s (keyed_keeps key) is
acted_is None act s is = laid_is (outcome_of s.plan act) act s refl is

entry_is : (entry : Entry) (s : SessionState) → IsSession s → IsSession (after_entry s entry)
entry_is (Given n bytes) s is = at_pane_is n (after_feed bytes) s (fed_keeps bytes) is
entry_is (Did client act) s is = acted_is (key_in act) act s is
entry_is (Drained n count) s is = at_pane_is n (after_drain count) s (drained_keeps count) is

entries_are : (log : List Entry) (s : SessionState) → IsSession s → IsSession (fold after_entry s log)
entries_are [] s is = is
entries_are (entry ∷ log) s is = entries_are log (after_entry s entry) (entry_is entry s is)

first_is : (size : SessionSize) → IsSessionSize size.rows size.cols → IsSession (first_state size)
first_is size limits =
    let layout = start_layout size.rows size.cols limits in
    let plan = start size.rows size.cols in
    record { layout = layout; placed = λ k. given_placed None (rect_in k (panes plan)) None (sizes_in plan layout.plan k) tt }

session_is : (size : SessionSize) (log : List Entry) → IsSessionSize size.rows size.cols → IsSession (session size log)
unfolding session
session_is size log limits = entries_are log (first_state size) (first_is size limits)

-- ---- pictures

record IsShotOf (r : Rect) (s : Screenshot) : Type 0 where
  rows : s.rows ≡ r.rows
  cols : s.cols ≡ r.cols
  shot : IsScreenshot s

shot_of : (r : Rect) (o : Option Pane) (view : ℕ) → IsPlaced (Some r) o → IsShotOf r (picture_at view o)
shot_of r None view is = absurd is
shot_of r (Some p) view is =
    let screen = picture_screen p.rows p.cols 500 p.log view is.first is.sizes in
    let size = screen.size ∙ is.size in
    record { rows = ap (λ (q : ℕ × ℕ). q.0) size; cols = ap (λ (q : ℕ × ℕ). q.1) size; shot = screen.shown }

pictured_each : (picture : ℕ → Screenshot) (xs : List (ℕ × Rect))
    → ((k : ℕ) (d : ℕ × Rect) → k < length xs → IsPictured picture (get_or xs k d).0 (get_or xs k d).1) → ArePictured picture xs
pictured_each picture [] each = tt
pictured_each picture (x ∷ xs) each = (each 0 x (omega arith), pictured_each picture xs (λ k d h. each (suc k) d (omega (arith, h))))

pictures_are : (s : SessionState) → IsSession s → ArePictured (pictures_of s) (panes s.plan)
pictures_are s is =
    pictured_each (pictures_of s) (panes s.plan) (λ k d h.
    let x = get_or (panes s.plan) k d in
    let here : IsPlaced (Some x.1) (s.pane x.0) =
    subst (λ (o : Option Rect). IsPlaced o (s.pane x.0)) (found_by_number s.plan is.layout.plan k d h) (is.placed x.0) in
    let shot = shot_of x.1 (s.pane x.0) (slice_index s.plan.views x.0) here in
    record { rows = shot.rows; cols = shot.cols; shot = shot.shot })

pub face_is : (size : SessionSize) (log : List Entry) → IsSessionSize size.rows size.cols → IsScreenshot (face size log)
unfolding face
face_is size log limits =
    let s = session size log in
    let is = session_is size log limits in
    face_screen s.plan (pictures_of s) is.layout (pictures_are s is)
