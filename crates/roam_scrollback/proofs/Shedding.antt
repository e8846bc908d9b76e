-- Steps of a source, one after another.
use Rattle.std.proofs.Common.{◌≡◌, ◌≤◌, ℕ, Bool, true, false, ◌||◌, List, [], ◌∷◌, ◌++◌, map, refl, sym, ap, subst, ◌∙◌, append_assoc}
use Rattle.std.specs.List.{list_any}
use Rattle.std.proofs.lemmas.Bool.{or_parts}
use Rattle.std.proofs.lemmas.List.{append-nil}
use Rattle.roam_term.specs.Terminal.{live_after}
use Rattle.roam_text.specs.Functions.{functions_of}
use Rattle.roam_text.specs.Log.{Item, Byte}
use Rattle.roam_text.specs.Stands.{Stands as Reads}
use Rattle.roam_text.specs.declared.functions.Function.{Function}
use Rattle.roam_text.specs.declared.functions.Function.TheVariants.{Print}
use Rattle.std.proofs.lemmas.List.{map-append}
use Rattle.roam_scrollback.specs.Lines.{LinesView, Writes, most_lost}
use Rattle.roam_scrollback.specs.Sources.{SourceView, IsCleared, Gives, Sheds, clears, rows_through, wraps_through}
use Rattle.roam_scrollback.proofs.Through.{live-append, rows-append, wraps-append}
use Rattle.roam_scrollback.proofs.Writing.{writes-none, writes-then}

-- ---- what erases what left

or_false : (a b : Bool) → a ≡ false → b ≡ false → (a || b) ≡ false
or_false true b e f = e
or_false false b e f = f

any-append : (fs gs : List Function) → list_any clears fs ≡ false → list_any clears gs ≡ false → list_any clears (fs ++ gs) ≡ false
any-append [] gs a b = b
any-append (f ∷ fs) gs a b =
    let parts = or_parts (clears f) (list_any clears fs) a in
    or_false (clears f) (list_any clears (fs ++ gs)) parts.0 (any-append fs gs parts.1 b)

pub cleared-then : (cleared : Bool) (fs gs : List Function) → list_any clears fs ≡ false → IsCleared cleared gs → IsCleared cleared (fs ++ gs)
cleared-then false fs gs a b = any-append fs gs a b
cleared-then true fs gs a b = record {
  front = fs ++ b.front;
  last = b.last;
  is = ap (λ l. fs ++ l) b.is ∙ sym (append_assoc fs b.front (b.last ∷ []));
  before = any-append fs b.front a b.before;
  clears = b.clears;
}

pub cleared-one : (cleared : Bool) (f : Function) → cleared ≡ clears f → IsCleared cleared (f ∷ [])
cleared-one true f e = record { front = []; last = f; is = refl; before = refl; clears = sym e }
cleared-one false f e = ap (λ b. b || false) (sym e)

-- ---- a step of its parts

module _ (old new : SourceView) (lines lines' : LinesView) (cleared : Bool) (items : List Item) (out : List Function)
    (reads : (log : List Item) → Reads old.reader log → Reads new.reader (log ++ items))
    (gained : (log : List Item) → Reads old.reader log → functions_of (log ++ items) ≡ functions_of log ++ out)
    (live : new.live ≡ live_after old.live out)
    (wraps : new.wraps ≡ wraps_through old.live out old.wraps)
    (written : Writes lines lines' (rows_through old.live out old.wraps))
    (is_cleared : IsCleared cleared out) where
  pub sheds-out : Sheds old new lines lines' cleared items
  sheds-out = record {
    reads = reads;
    gives = λ log shows. record {
      more = out;
      functions = gained log shows;
      live = live;
      wraps = wraps;
      written = written;
      cleared = is_cleared;
    };
  }

pub sheds-none : (s : SourceView) (v : LinesView) → v.lost ≤ most_lost → Sheds s s v v false []
sheds-none s v fits =
    sheds-out s s v v false [] [] (λ log shows. subst (λ l. Reads s.reader l) (sym (append-nil log)) shows)
    (λ log shows. ap functions_of (append-nil log) ∙ sym (append-nil (functions_of log))) refl refl (writes-none v fits) refl

together : (log : List Item) (xs ys : List ℕ) → (log ++ map Byte xs) ++ map Byte ys ≡ log ++ map Byte (xs ++ ys)
together log xs ys = append_assoc log (map Byte xs) (map Byte ys) ∙ sym (ap (λ l. log ++ l) (map-append Byte xs ys))

-- one piece after another
module _ (a b c : SourceView) (u v w : LinesView) (cleared : Bool) (xs ys : List ℕ) (p : Sheds a b u v false (map Byte xs))
    (q : Sheds b c v w cleared (map Byte ys)) where
  reads_both : (log : List Item) → Reads a.reader log → Reads c.reader (log ++ map Byte (xs ++ ys))
  reads_both log shows = subst (λ l. Reads c.reader l) (together log xs ys) (q.reads (log ++ map Byte xs) (p.reads log shows))

  module _ (log : List Item) (shows : Reads a.reader log) where
    first : Gives a b u v false log (log ++ map Byte xs)
    first = p.gives log shows

    second : Gives b c v w cleared (log ++ map Byte xs) ((log ++ map Byte xs) ++ map Byte ys)
    second = q.gives (log ++ map Byte xs) (p.reads log shows)

    gives_both : Gives a c u w cleared log (log ++ map Byte (xs ++ ys))
    gives_both = record {
      more = first.more ++ second.more;
      functions =
          sym (ap functions_of (together log xs ys)) ∙ second.functions ∙ ap (λ fs. fs ++ second.more) first.functions
          ∙ append_assoc (functions_of log) first.more second.more;
      live = second.live ∙ ap (λ l. live_after l second.more) first.live ∙ sym (live-append a.live first.more second.more);
      wraps =
          second.wraps ∙ ap (λ l. wraps_through l second.more b.wraps) first.live
          ∙ ap (wraps_through (live_after a.live first.more) second.more) first.wraps
          ∙ sym (wraps-append a.live first.more second.more a.wraps);
      written =
          subst (λ rows. Writes u w rows)
          (ap (λ rows. rows_through a.live first.more a.wraps ++ rows)
          (ap (λ l. rows_through l second.more b.wraps) first.live
          ∙ ap (rows_through (live_after a.live first.more) second.more) first.wraps)
          ∙ sym (rows-append a.live first.more second.more a.wraps))
          (writes-then u v w (rows_through a.live first.more a.wraps) (rows_through b.live second.more b.wraps) first.written second.written);
      cleared = cleared-then cleared first.more second.more first.cleared second.cleared;
    }

  pub sheds-then : Sheds a c u w cleared (map Byte (xs ++ ys))
  sheds-then = record { reads = reads_both; gives = gives_both }

-- printed characters erase nothing that left
pub prints_keep : (bs : List ℕ) → list_any clears (map Print bs) ≡ false
prints_keep [] = refl
prints_keep (b ∷ bs) = prints_keep bs
