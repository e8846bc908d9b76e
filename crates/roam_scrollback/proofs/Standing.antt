-- The log of a source as it goes on.
use Rattle.std.proofs.Common.{ℕ, Bool, List, ◌++◌, sym, ap, ◌∙◌}
use Rattle.roam_scrollback.specs.Lines.{LinesView}
use Rattle.roam_scrollback.specs.Sources.{SourceView, IsSource, Gives, Sheds, Continues, RowsAreThoseThatLeft, left_through, rows_through, wraps_through}
use Rattle.roam_scrollback.specs.Wraps.{no_wraps}
use Rattle.roam_scrollback.proofs.Through.{live-append, rows-append, wraps-append}
use Rattle.roam_term.specs.Terminal.{Live, live_after, started_live}
use Rattle.roam_text.specs.Functions.{functions_of}
use Rattle.roam_text.specs.Log.{Item}
use Rattle.roam_text.specs.declared.functions.Function.{Function}

module _ (old new : SourceView) (v w : LinesView) (cleared : Bool) (items : List Item) (rows cols : ℕ) (log : List Item)
    (sheds : Sheds old new v w cleared items) (is : IsSource old rows cols log) where
  start : Live
  start = started_live rows cols

  before : List Function
  before = functions_of log

  gives : Gives old new v w cleared log (log ++ items)
  gives = sheds.gives log is.reads

  pub continues_here : Continues new v w rows cols log (log ++ items)
  unfolding left_through before start
  continues_here = record {
    source = record {
      reads = sheds.reads log is.reads;
      live =
          gives.live ∙ ap (λ l. live_after l gives.more) is.live ∙ sym (live-append start before gives.more)
          ∙ sym (ap (live_after start) gives.functions);
      wraps =
          gives.wraps ∙ ap (λ l. wraps_through l gives.more old.wraps) is.live
          ∙ ap (wraps_through (live_after start before) gives.more) is.wraps
          ∙ sym (wraps-append start before gives.more no_wraps)
          ∙ sym (ap (λ fs. wraps_through start fs no_wraps) gives.functions);
    };
    more = rows_through old.live gives.more old.wraps;
    left =
        ap (λ fs. rows_through start fs no_wraps) gives.functions ∙ rows-append start before gives.more no_wraps
        ∙ ap (λ rs. rows_through start before no_wraps ++ rs)
        (sym (ap (λ l. rows_through l gives.more old.wraps) is.live
        ∙ ap (rows_through (live_after start before) gives.more) is.wraps));
    written = gives.written;
  }

pub continues : RowsAreThoseThatLeft
continues old new v w cleared items rows cols log sheds is = continues_here old new v w cleared items rows cols log sheds is
