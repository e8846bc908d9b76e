-- The rows reported from a terminal in any state, piece by piece.
use Rattle.std.proofs.Common.{◌≡◌, ◌≤◌, ℕ, Bool, true, false, ◌||◌, List, [], ◌∷◌, ◌++◌, length, map, refl, sym, ap, subst, ◌∙◌, arith, append_assoc}
use Rattle.std.specs.Prelude.{nat_lt, if◌then◌else◌}
use Rattle.std.specs.List.{flat_map, fold}
use Rattle.std.proofs.lemmas.Bool.Decides.{nat_tests}
use Rattle.std.proofs.lemmas.List.Sums.{fold-append}
use Rattle.std.proofs.lemmas.List.{append-nil, map-append}
use Rattle.std.proofs.lemmas.List.Concat.{flat_map-append}
use Rattle.roam_rewrap.specs.Lines.{TextRow}
use Rattle.roam_scrollback.specs.Lines.{LeftRow, LinesView, Writes, lines_behind, most_kept, newest, text_row}
use Rattle.roam_scrollback.specs.Sources.{Sheds, SourceView, rows_through, wraps_through}
use Rattle.roam_scrollback.specs.declared.wraps.Wrap.{Wrap}
use Rattle.roam_scrollback.proofs.Keeping.{newest-few}
use Rattle.roam_scrollback.proofs.Through.{live-append, wraps-append}
use Rattle.roam_scrollback_stream.specs.Panes.{ArePieces, Piece, TellsFrom, came_in, kept_after, kept_behind}
use Rattle.roam_scrollback_stream.specs.Records.{Part, part_text, rows_text, lost_text, cleared_text}
use Rattle.roam_term.specs.Terminal.{Live, live_after}
use Rattle.roam_text.specs.Log.{Item, Byte}
use Rattle.roam_text.specs.Stands.{Stands as Reads}

-- the pieces up to one log, and the pieces from there
pieces-then : (l : Live) (wraps : List Wrap) (log mid later : List Item) (ps qs : List Piece) → ArePieces l wraps log mid ps
    → ArePieces (live_after l (flat_map came_in ps)) (wraps_through l (flat_map came_in ps) wraps) mid later qs
    → ArePieces l wraps log later (ps ++ qs)
pieces-then l wraps log mid later [] qs p q = subst (λ (from : List Item). ArePieces l wraps from later qs) p q
pieces-then l wraps log mid later (piece ∷ ps) qs p q = (
  p.0,
  pieces-then (live_after l piece.came) (wraps_through l piece.came wraps) (log ++ piece.part.items) mid later ps qs p.1
      (subst (λ (t : Live). ArePieces t (wraps_through (live_after l piece.came) (flat_map came_in ps) (wraps_through l piece.came wraps)) mid later qs)
      (live-append l piece.came (flat_map came_in ps))
      (subst (λ (flags : List Wrap). ArePieces (live_after l (piece.came ++ flat_map came_in ps)) flags mid later qs)
      (wraps-append l piece.came (flat_map came_in ps) wraps) q)),
)

-- nothing came
pub from-none : (s : SourceView) (kept : List TextRow) (n : ℕ) (out : List ℕ) → TellsFrom s kept s kept n out out []
from-none s kept n out = λ log reads. record {
  reads = subst (λ l. Reads s.reader l) (sym (append-nil log)) reads;
  pieces = [];
  are = append-nil log;
  live = refl;
  wraps = refl;
  text = sym (append-nil out);
  kept = refl;
}

kept-if : (b : Bool) (lost : ℕ) (kept' kept : List TextRow) (rows : List LeftRow) (all_of : List TextRow) (cleared : Bool)
    → (cleared || nat_lt 0 lost) ≡ b → kept' ≡ (if b then [] else kept) → length kept' ≤ most_kept
    → (lost ≡ 0 → newest most_kept kept ≡ newest most_kept all_of) → kept' ≡ (if b then [] else newest most_kept all_of)
kept-if true lost kept' kept rows all_of cleared e is few keeps = is
kept-if false lost kept' kept rows all_of cleared e is few keeps =
    is ∙ sym (newest-few most_kept kept (subst (λ l. length l ≤ most_kept) is few)) ∙ keeps (none cleared e)
  where
    none : (c : Bool) → (c || nat_lt 0 lost) ≡ false → lost ≡ 0
    none true h = cc
    none false h = not-some lost h
      where
        not-some : (n : ℕ) → nat_lt 0 n ≡ false → n ≡ 0
        not-some n h = grind (arith, nat_tests)

-- the lines of a source are reported
pub from-one : (old new : SourceView) (v w : LinesView) (kept kept' : List TextRow) (cleared : Bool) (items : List Item) (n : ℕ)
    (out out' : List ℕ) → v ≡ lines_behind kept → kept' ≡ kept_behind cleared w → length kept' ≤ most_kept → Sheds old new v w cleared items
    → out' ≡ out ++ (rows_text n w ++ (lost_text n w ++ cleared_text n cleared)) → TellsFrom old kept new kept' n out out' items
from-one old new v w kept kept' cleared items n out out' none is few sheds text = λ log reads.
    let gives = sheds.gives log reads in
    let rows = rows_through old.live gives.more old.wraps in
    let written : Writes (lines_behind kept) w rows = subst (λ (u : LinesView). Writes u w rows) none gives.written in
    let part : Part = record { items = items; rows = rows; before = kept; lines = w; written = written; is_cleared = cleared } in
    record {
      reads = sheds.reads log reads;
      pieces = record { part = part; came = gives.more } ∷ [];
      are = (record { functions = gives.functions; rows = refl; cleared = gives.cleared }, refl);
      live = gives.live ∙ ap (live_after old.live) (sym (append-nil gives.more));
      wraps = gives.wraps ∙ ap (λ fs. wraps_through old.live fs old.wraps) (sym (append-nil gives.more));
      text = text ∙ ap (λ l. out ++ l) (sym (append-nil (part_text n part)));
      kept = kept-if (cleared || nat_lt 0 w.lost) w.lost kept' w.kept rows (kept ++ map text_row rows) cleared refl is few written.kept;
    }

-- some came, and then more
pub from-then : (a b c : SourceView) (one two three : List TextRow) (n : ℕ) (out mid last : List ℕ) (xs ys : List ℕ)
    → TellsFrom a one b two n out mid (map Byte xs) → TellsFrom b two c three n mid last (map Byte ys)
    → TellsFrom a one c three n out last (map Byte (xs ++ ys))
from-then a b c one two three n out mid last xs ys p q = λ log reads.
    let first = p log reads in
    let second = q (log ++ map Byte xs) first.reads in
    let ps = first.pieces in
    let qs = second.pieces in
    let together : (log ++ map Byte xs) ++ map Byte ys ≡ log ++ map Byte (xs ++ ys) =
    append_assoc log (map Byte xs) (map Byte ys) ∙ sym (ap (λ l. log ++ l) (map-append Byte xs ys)) in
    let came : flat_map came_in (ps ++ qs) ≡ flat_map came_in ps ++ flat_map came_in qs = flat_map-append came_in ps qs in
    record {
      reads = subst (λ l. Reads c.reader l) together second.reads;
      pieces = ps ++ qs;
      are =
          subst (λ l. ArePieces a.live a.wraps log l (ps ++ qs)) together
          (pieces-then a.live a.wraps log (log ++ map Byte xs) ((log ++ map Byte xs) ++ map Byte ys) ps qs first.are
          (subst (λ (t : Live). ArePieces t (wraps_through a.live (flat_map came_in ps) a.wraps) (log ++ map Byte xs)
          ((log ++ map Byte xs) ++ map Byte ys) qs) first.live
          (subst (λ (flags : List Wrap). ArePieces b.live flags (log ++ map Byte xs) ((log ++ map Byte xs) ++ map Byte ys) qs) first.wraps
          second.are)));
      live =
          second.live ∙ ap (λ t. live_after t (flat_map came_in qs)) first.live
          ∙ sym (live-append a.live (flat_map came_in ps) (flat_map came_in qs)) ∙ ap (live_after a.live) (sym came);
      wraps =
          second.wraps ∙ ap (λ t. wraps_through t (flat_map came_in qs) b.wraps) first.live
          ∙ ap (wraps_through (live_after a.live (flat_map came_in ps)) (flat_map came_in qs)) first.wraps
          ∙ sym (wraps-append a.live (flat_map came_in ps) (flat_map came_in qs) a.wraps)
          ∙ ap (λ fs. wraps_through a.live fs a.wraps) (sym came);
      text =
          second.text ∙ ap (λ l. l ++ flat_map (λ (piece : Piece). part_text n piece.part) qs) first.text
          ∙ append_assoc out (flat_map (λ (piece : Piece). part_text n piece.part) ps) (flat_map (λ (piece : Piece). part_text n piece.part) qs)
          ∙ ap (λ l. out ++ l) (sym (flat_map-append (λ (piece : Piece). part_text n piece.part) ps qs));
      kept =
          second.kept ∙ ap (λ l. fold kept_after l qs) first.kept ∙ sym (fold-append kept_after one ps qs);
    }

-- the same behind earlier output
pub from-behind : (w : List ℕ) (old new : SourceView) (kept kept' : List TextRow) (n : ℕ) (out out' : List ℕ) (items : List Item)
    → TellsFrom old kept new kept' n out out' items → TellsFrom old kept new kept' n (w ++ out) (w ++ out') items
from-behind w old new kept kept' n out out' items tells = λ log reads.
    let told = tells log reads in
    record {
      reads = told.reads;
      pieces = told.pieces;
      are = told.are;
      live = told.live;
      wraps = told.wraps;
      text =
          ap (λ l. w ++ l) told.text
          ∙ sym (append_assoc w out (flat_map (λ (piece : Piece). part_text n piece.part) told.pieces));
      kept = told.kept;
    }
