-- ESC c, read in any state, makes a ground terminal with a blank screen.
use Rattle.std.proofs.Common.{◌≡◌, ◌≤◌, ℕ, Bool, true, false, List, [], ◌∷◌, ◌++◌, map, refl, sym, ap, ◌∙◌, subst, arith}
use Rattle.roam_screens.specs.Screenshot.{blank_screenshot}
use Rattle.roam_text.specs.Functions.{functions_of}
use Rattle.roam_text.specs.Log.{Item, Byte}
use Rattle.roam_text.proofs.Cuts.{rests-later, functions-reset}
use Rattle.roam_text.proofs.Graphics.{printed_if}
use Rattle.roam_term.specs.ControlFunctions.{reset_all}
use Rattle.roam_term.specs.Ground.{ShowsScreen, IsGround, IsSized}
use Rattle.roam_term.specs.GroundFunctions.{IsBegun}
use Rattle.roam_term.specs.Terminal.{Live, changed_by, started_terminal, term}
use Rattle.roam_term.proofs.Grounds.{all_is_reset}
use Rattle.roam_term.proofs.PrintedSizes.{size-printed}
use Rattle.roam_term.proofs.Runs.{run-live}
use Rattle.roam_term.proofs.Steps.{acted, acted-append}
use Rattle.roam_paint.specs.Ground.{IsOpened, OpenedBeginsBlank}
use Rattle.roam_paint.specs.Painting.{blanking_text}

size-by : (t : Bool) (l : Live) → IsSized l (acted (printed_if 0xFFFD t) l)
size-by true l = size-printed 0xFFFD l
size-by false l = record { rows = refl; cols = refl }

module _ (log : List Item) (rows cols lines : ℕ) where
  abbrev later : List Item
  later = log ++ map Byte blanking_text

  abbrev start : Live
  start = (started_terminal rows cols lines).live

  abbrev before : Live
  before = (term rows cols lines log).live

  -- whether a character that ESC cuts is printed as U+FFFD
  abbrev is_printed : Bool
  is_printed = (functions-reset log).0

  -- the terminal that is reset
  abbrev cut_off : Live
  cut_off = acted (printed_if 0xFFFD is_printed) before

  term-later : (term rows cols lines later).live ≡ changed_by reset_all cut_off
  unfolding term
  term-later =
      run-live (started_terminal rows cols lines) (functions_of later)
      ∙ ap (λ fs. acted fs start) (functions-reset log).1
      ∙ acted-append (functions_of log ++ printed_if 0xFFFD is_printed) (reset_all ∷ []) start
      ∙ ap (changed_by reset_all) (acted-append (functions_of log) (printed_if 0xFFFD is_printed) start)
      ∙ ap (λ l. changed_by reset_all (acted (printed_if 0xFFFD is_printed) l)) (sym (run-live (started_terminal rows cols lines) (functions_of log)))

  sized : IsSized before cut_off
  sized = size-by is_printed before

  begins : 1 ≤ before.screen.rows → 1 ≤ before.screen.cols → IsBegun cut_off (changed_by reset_all cut_off)
  begins tall broad = let r = sized.rows in let c = sized.cols in all_is_reset cut_off (omega (arith, tall, r)) (omega (arith, broad, c))

  pub opens : 1 ≤ before.screen.rows → 1 ≤ before.screen.cols → IsOpened rows cols lines log
  opens tall broad =
      let r = sized.rows in
      let c = sized.cols in
      let b = begins tall broad in
      record {
        displays = λ height width low narrow. record {
          reader = rests-later log;
          ground = subst IsGround (sym term-later) b.ground;
          shows = subst (λ l. ShowsScreen l (blank_screenshot height width)) (sym term-later)
              (b.shows height width (omega (arith, low, r)) (omega (arith, narrow, c)));
        };
        size = subst (λ l. IsSized before l) (sym term-later) (record { rows = b.size.rows ∙ r; cols = b.size.cols ∙ c });
      }

pub opened_begins_blank : OpenedBeginsBlank
opened_begins_blank rows cols lines log tall broad = opens log rows cols lines tall broad
