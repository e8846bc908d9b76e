-- The effect of a size and a text on a source, step by step.
use Rattle.std.proofs.Common.{◌≡◌, ℕ, Bool, List, [], ◌++◌, map, refl, sym, ap, subst, ◌∙◌, append_assoc}
use Rattle.std.proofs.lemmas.List.{append-nil, map-append}
use Rattle.roam_scrollback.specs.Lines.{LinesView}
use Rattle.roam_scrollback.specs.Rewraps.{Follows}
use Rattle.roam_scrollback.specs.Sources.{Sheds, SourceView}
use Rattle.roam_scrollback.proofs.Through.{live-append}
use Rattle.roam_term.specs.Terminal.{live_after}
use Rattle.roam_text.specs.Functions.{functions_of}
use Rattle.roam_text.specs.Log.{Item, Byte}
use Rattle.roam_text.specs.Stands.{Stands as Reads}

pub follows-none : (s : SourceView) (log : List Item) → Reads s.reader log → Follows s s [] log
follows-none s log reads = record {
  reads = subst (λ l. Reads s.reader l) (sym (append-nil log)) reads;
  more = [];
  functions = ap functions_of (append-nil log) ∙ sym (append-nil (functions_of log));
  live = refl;
}

pub follows-sheds : (old new : SourceView) (v w : LinesView) (cleared : Bool) (items : List Item) → Sheds old new v w cleared items
    → (log : List Item) → Reads old.reader log → Follows old new items log
follows-sheds old new v w cleared items sheds log reads =
    let gives = sheds.gives log reads in
    record { reads = sheds.reads log reads; more = gives.more; functions = gives.functions; live = gives.live }

pub follows-then : (a b c : SourceView) (xs ys log : List Item) → Follows a b xs log → Follows b c ys (log ++ xs)
    → Follows a c (xs ++ ys) log
follows-then a b c xs ys log p q = record {
  reads = subst (λ l. Reads c.reader l) (append_assoc log xs ys) q.reads;
  more = p.more ++ q.more;
  functions =
      sym (ap functions_of (append_assoc log xs ys)) ∙ q.functions ∙ ap (λ fs. fs ++ q.more) p.functions
      ∙ append_assoc (functions_of log) p.more q.more;
  live = q.live ∙ ap (λ l. live_after l q.more) p.live ∙ sym (live-append a.live p.more q.more);
}

-- bytes, and bytes behind them
pub follows-bytes : (a b c : SourceView) (xs ys : List ℕ) (log : List Item) → Follows a b (map Byte xs) log
    → Follows b c (map Byte ys) (log ++ map Byte xs) → Follows a c (map Byte (xs ++ ys)) log
follows-bytes a b c xs ys log p q =
    subst (λ items. Follows a c items log) (sym (map-append Byte xs ys)) (follows-then a b c (map Byte xs) (map Byte ys) log p q)

-- how the rows end makes no difference
pub follows-as : (a b c : SourceView) (items log : List Item) → c.reader ≡ b.reader → c.live ≡ b.live → Follows a b items log
    → Follows a c items log
follows-as a b c items log reader live p = record {
  reads = subst (λ r. Reads r (log ++ items)) (sym reader) p.reads;
  more = p.more;
  functions = p.functions;
  live = live ∙ p.live;
}
