-- A terminal's marks and its picture now, and terminals that stay quiet.
use Rattle.std.proofs.Common.{◌≡◌, ℕ, ◌<◌, ◌∷◌, [], ◌++◌, map, Bool, true, false, eqb, List, Option, Some, None, refl, sym, ap, ◌∙◌, subst}
use Rattle.std.proofs.lemmas.Bool.{eqb-true, eq-eqb, false≢true}
use Rattle.roam_cells.specs.Limits.{IsSize}
use Rattle.roam_screens.specs.Screenshot.{Screenshot}
use Rattle.roam_grid.specs.Marks.{is_marked}
use Rattle.roam_text.specs.Log.{Item, Byte, Resized}
use Rattle.roam_keys.specs.declared.keys.Key.{Key}
use Rattle.roam_term.specs.Marks.{marked_through}
use Rattle.roam_term.specs.Picture.{picture, picture_of}
use Rattle.roam_term.specs.Stands.{TermView, Stands as TermStands, Fed}
use Rattle.roam_term.specs.Terminal.{term}
use Rattle.roam_term.specs.Unmarked.{IsSameRow}
use Rattle.roam_term.proofs.Showing.{picture_is}
use Rattle.roam_term.proofs.UnmarkedRows.{unmarked_rows_stay}
use Rattle.roam_layout.specs.Layouts.{Plan}
use Rattle.roam_layout.specs.declared.rects.Rect.{Rect}
use Rattle.roam_session.specs.Panes.{is_same_size}
use Rattle.roam_session.specs.Stands.{IsQuiet, IsQuietAt, term_at}
use Rattle.roam_session.specs.Steps.{IsGiven, IsMoved}
use Rattle.roam_session.specs.Queues.{Both, ChangesAt, Keeps, IsFed, IsKeyed, IsDrained}
use Rattle.roam_session.proofs.Screening.{sizes-append, bytes_sizes}

-- ---- the picture of a terminal

pub shows_now : (t : TermView) (rows cols lines : ℕ) (log : List Item) (view : ℕ) → TermStands t rows cols lines log
    → picture_of t.live t.history view ≡ picture rows cols lines log view
shows_now t rows cols lines log view stands = picture_is rows cols lines log view t.live t.history stands.live stands.history

-- a row that bytes leave without a mark
pub read_rows : (bytes : List ℕ) (t u : TermView) (k : ℕ) → IsQuiet t → Fed t u bytes → k < u.live.screen.rows
    → is_marked u.marks k ≡ false → IsSameRow k (picture_of t.live t.history 0) (picture_of u.live u.history 0)
read_rows bytes t u k q fed low off =
    let later = q.log ++ map Byte bytes in
    let gains = fed.marks q.rows q.cols q.lines q.log q.stands in
    let before = shows_now t q.rows q.cols q.lines q.log 0 q.stands in
    let after = shows_now u q.rows q.cols q.lines later 0 (fed.stands q.rows q.cols q.lines q.log q.stands) in
    let marks : u.marks ≡ marked_through (term q.rows q.cols q.lines q.log).live gains.more t.marks =
    gains.marks ∙ ap (λ l. marked_through l gains.more t.marks) q.stands.live in
    let same =
    unmarked_rows_stay q.rows q.cols q.lines q.log later gains.more t.marks q.size (sizes-append q.log (map Byte bytes) q.sizes (bytes_sizes bytes))
    gains.functions k
    (subst (λ (p : Screenshot). k < p.rows) after low) (sym (ap (λ m. is_marked m k) marks) ∙ off) in
    subst (λ (p : Screenshot). IsSameRow k p (picture_of u.live u.history 0)) (sym before)
    (subst (λ (p : Screenshot). IsSameRow k (picture q.rows q.cols q.lines q.log 0) p) (sym after) same)

-- ---- terminals that stay quiet

-- a rule leaves a quiet terminal quiet
abbrev pub StaysQuiet : (TermView → TermView → Type 0) → Type 0
StaysQuiet rule = (old new : TermView) → rule old new → IsQuiet old → IsQuiet new

pub kept_quiet : StaysQuiet Keeps
kept_quiet old new keeps q = record {
  rows = q.rows;
  cols = q.cols;
  lines = q.lines;
  log = q.log;
  size = q.size;
  sizes = q.sizes;
  stands = keeps.stands q.rows q.cols q.lines q.log q.stands;
  marks = keeps.marks ∙ q.marks;
}

pub keyed_quiet : (key : Key) → StaysQuiet (IsKeyed key)
keyed_quiet key old new is q = kept_quiet old new is.keeps q

pub drained_quiet : (n : ℕ) → StaysQuiet (IsDrained n)
drained_quiet n old new is q = kept_quiet old new is.keeps q

pub fed_quiet : (bytes : List ℕ) (plan : Plan) (p : ℕ) (before after : List Bool) → StaysQuiet (IsFed bytes plan p before after)
fed_quiet bytes plan p before after old new is q =
    let mid = is.fed.stands q.rows q.cols q.lines q.log q.stands in
    subst IsQuiet (sym is.quiet) (record {
      rows = q.rows;
      cols = q.cols;
      lines = q.lines;
      log = q.log ++ map Byte bytes;
      size = q.size;
      sizes = sizes-append q.log (map Byte bytes) q.sizes (bytes_sizes bytes);
      stands = record { reads = mid.reads; live = mid.live; history = mid.history };
      marks = refl;
    })

both_quiet : (rule : TermView → TermView → Type 0) → StaysQuiet rule → (old new : Option TermView) → Both rule old new → IsQuietAt old
    → IsQuietAt new
both_quiet rule stays None None both q = tt
both_quiet rule stays None (Some new) both q = absurd both
both_quiet rule stays (Some old) None both q = absurd both
both_quiet rule stays (Some old) (Some new) both q = stays old new both q

-- the terminals after a call on one of them
pub quiet_at : (p : ℕ) (rule : TermView → TermView → Type 0) → StaysQuiet rule → (ts us : List (Option TermView)) → ChangesAt p rule ts us
    → ((k : ℕ) → IsQuietAt (term_at ts k)) → (k : ℕ) → IsQuietAt (term_at us k)
quiet_at p rule stays ts us changes q k = by_number (eqb k p) refl
  where
    by_number : (v : Bool) → eqb k p ≡ v → IsQuietAt (term_at us k)
    by_number true e =
        let same = eqb-true k p e in
        subst (λ (j : ℕ). IsQuietAt (term_at us j)) (sym same)
        (both_quiet rule stays (term_at ts p) (term_at us p) changes.here (q p))
    by_number false e =
        subst IsQuietAt (sym (changes.others k (λ same. false≢true (sym e ∙ eq-eqb k p same)))) (q k)

moved_quiet : (from to : Rect) (old new : TermView) → IsSize to.rows to.cols → IsMoved from to old new → IsQuiet old → IsQuiet new
moved_quiet from to old new size is q = by_size (is_same_size from to) refl
  where
    by_size : (v : Bool) → is_same_size from to ≡ v → IsQuiet new
    by_size true e = subst IsQuiet (sym (is.stays e)) q
    by_size false e =
        let fit = is.fitted e in
        record {
          rows = q.rows;
          cols = q.cols;
          lines = q.lines;
          log = q.log ++ Resized to.rows to.cols ∷ [];
          size = q.size;
          sizes = sizes-append q.log (Resized to.rows to.cols ∷ []) q.sizes (size, tt);
          stands = fit.stands q.rows q.cols q.lines q.log q.stands;
          marks = fit.marks;
        }

pub quiet_given : (from to : Option Rect) (old new : Option TermView) → ((r : Rect) → to ≡ Some r → IsSize r.rows r.cols)
    → IsGiven from to old new → IsQuietAt old → IsQuietAt new
quiet_given from None old None size is q = tt
quiet_given from None old (Some new) size is q = absurd is
quiet_given None (Some to) old None size is q = absurd is
quiet_given None (Some to) old (Some new) size is q = record {
  rows = to.rows;
  cols = to.cols;
  lines = 500;
  log = [];
  size = size to refl;
  sizes = tt;
  stands = is.stands;
  marks = is.marks;
}
quiet_given (Some from) (Some to) None None size is q = tt
quiet_given (Some from) (Some to) None (Some new) size is q = absurd is
quiet_given (Some from) (Some to) (Some old) None size is q = absurd is
quiet_given (Some from) (Some to) (Some old) (Some new) size is q = moved_quiet from to old new (size to refl) is q
