-- Terminals that agree with panes, and have their rectangles' sizes, still do so after what calls make of them.
use Rattle.std.proofs.Common.{◌≡◌, ℕ, Bool, true, false, ◌==◌, ◌&&◌, cond, List, [], ◌∷◌, ◌++◌, length, drop, Option, Some, None, refl, sym, ap, ◌∙◌, subst}
use Rattle.std.specs.Option.{option_map}
use Rattle.std.proofs.lemmas.Bool.{eqb-true}
use Rattle.roam_text.specs.Log.{Resized}
use Rattle.roam_keys.specs.declared.keys.Key.{Key}
use Rattle.roam_keys.specs.Sent.{bytes_of_key}
use Rattle.roam_term.specs.Keys.{key_modes}
use Rattle.roam_term.specs.Terminal.{reports}
use Rattle.roam_term.specs.Stands.{TermView, HasSize}
use Rattle.roam_layout.specs.declared.rects.Rect.{Rect}
use Rattle.roam_session.specs.Panes.{Pane, pane_after_act, after_move, is_same_size, after_feed, after_key, after_drain, answers}
use Rattle.roam_session.specs.Stands.{IsOf, Agrees, IsPlaced}
use Rattle.roam_session.specs.Steps.{IsGiven, IsMoved}
use Rattle.roam_layout.specs.Layouts.{Plan}
use Rattle.roam_session.specs.Queues.{IsFed, IsKeyed, IsDrained, Both}

-- ---- rectangles

moved_of : (from to : Rect) (old new : TermView) (pane : Pane) → IsMoved from to old new → IsOf old pane → IsOf new (after_move from to pane)
moved_of from to old new pane is of = by_size (is_same_size from to) refl
  where
    by_size : (v : Bool) → is_same_size from to ≡ v
        → IsOf new
        (cond v pane
        (record { rows = pane.rows; cols = pane.cols; log = pane.log ++ Resized to.rows to.cols ∷ []; waiting = pane.waiting }))
    by_size true e = subst (λ (t : TermView). IsOf t pane) (sym (is.stays e)) of
    by_size false e =
        let fit = is.fitted e in
        record { stands = fit.stands pane.rows pane.cols 500 pane.log of.stands; waiting = fit.waiting ∙ of.waiting }

pub agrees_given : (from to : Option Rect) (old new : Option TermView) (pane : Option Pane) → IsGiven from to old new → Agrees old pane
    → Agrees new (pane_after_act from to pane)
agrees_given from None old None pane is of = tt
agrees_given from None old (Some new) pane is of = absurd is
agrees_given None (Some to) old None pane is of = absurd is
agrees_given None (Some to) old (Some new) pane is of = record { stands = is.stands; waiting = is.waiting }
agrees_given (Some from) (Some to) None None None is of = tt
agrees_given (Some from) (Some to) None None (Some pane) is of = absurd of
agrees_given (Some from) (Some to) None (Some new) pane is of = absurd is
agrees_given (Some from) (Some to) (Some old) None pane is of = absurd is
agrees_given (Some from) (Some to) (Some old) (Some new) None is of = absurd of
agrees_given (Some from) (Some to) (Some old) (Some new) (Some pane) is of = moved_of from to old new pane is of

both_true : (a b : Bool) → (a && b) ≡ true → (a ≡ true) × (b ≡ true)
both_true true true e = (refl, refl)
both_true true false e = cc
both_true false b e = cc

placed_moved : (from to : Rect) (old new : TermView) → IsMoved from to old new → HasSize old from.rows from.cols
    → HasSize new to.rows to.cols
placed_moved from to old new is size = by_size (is_same_size from to) refl
  where
    by_size : (v : Bool) → is_same_size from to ≡ v → HasSize new to.rows to.cols
    by_size true e =
        let same = both_true (from.rows == to.rows) (from.cols == to.cols) e in
        let stays = is.stays e in (
          ap (λ (t : TermView). t.live.screen.rows) stays ∙ size.0 ∙ eqb-true from.rows to.rows same.0,
          ap (λ (t : TermView). t.live.screen.cols) stays ∙ size.1 ∙ eqb-true from.cols to.cols same.1,
        )
    by_size false e = (is.fitted e).size

pub placed_given : (from to : Option Rect) (old new : Option TermView) → IsGiven from to old new → IsPlaced from old → IsPlaced to new
placed_given from None old None is size = tt
placed_given from None old (Some new) is size = absurd is
placed_given None (Some to) old None is size = absurd is
placed_given None (Some to) old (Some new) is size = is.size
placed_given (Some from) (Some to) None None is size = absurd size
placed_given (Some from) (Some to) None (Some new) is size = absurd is
placed_given (Some from) (Some to) (Some old) None is size = absurd is
placed_given (Some from) (Some to) (Some old) (Some new) is size = placed_moved from to old new is size

-- ---- calls on one pane

-- a rule changes a terminal as a change does its pane
abbrev pub Does' : (TermView → TermView → Type 0) → (Pane → Pane) → Type 0
Does' rule change = (old new : TermView) (pane : Pane) → rule old new → IsOf old pane → IsOf new (change pane)

pub agrees_both : (rule : TermView → TermView → Type 0) (change : Pane → Pane) → Does' rule change
    → (old new : Option TermView) (pane : Option Pane)
    → Both rule old new → Agrees old pane → Agrees new (option_map change pane)
agrees_both rule change does None None None both of = tt
agrees_both rule change does None None (Some pane) both of = absurd of
agrees_both rule change does None (Some new) pane both of = absurd both
agrees_both rule change does (Some old) None pane both of = absurd both
agrees_both rule change does (Some old) (Some new) None both of = absurd of
agrees_both rule change does (Some old) (Some new) (Some pane) both of = does old new pane both of

pub drop-front : {A : Type 0} (xs ys : List A) → drop (length xs) (xs ++ ys) ≡ ys
drop-front [] ys = refl
drop-front (x ∷ xs) ys = drop-front xs ys

pub does_fed : (bytes : List ℕ) (plan : Plan) (p : ℕ) (before after : List Bool) → Does' (IsFed bytes plan p before after) (after_feed bytes)
does_fed bytes plan p before after old new pane is of =
    let gains = is.fed.gains pane.rows pane.cols 500 pane.log of.stands in
    let mid = is.fed.stands pane.rows pane.cols 500 pane.log of.stands in
    let told = reports pane.rows pane.cols 500 pane.log in
    let more : answers pane bytes ≡ gains.more = ap (drop (length told)) gains.answers ∙ drop-front told gains.more in
    subst (λ (t : TermView). IsOf t (after_feed bytes pane)) (sym is.quiet) (record {
      stands = record { reads = mid.reads; live = mid.live; history = mid.history };
      waiting = gains.queue ∙ (λ i. of.waiting i ++ sym more i);
    })

pub does_keyed : (key : Key) → Does' (IsKeyed key) (after_key key)
does_keyed key old new pane is of =
    record {
      stands = is.keeps.stands pane.rows pane.cols 500 pane.log of.stands;
      waiting = is.waiting ∙ (λ i. of.waiting i ++ bytes_of_key (key_modes (of.stands.live i).modes) key);
    }

pub does_drained : (n : ℕ) → Does' (IsDrained n) (after_drain n)
does_drained n old new pane is of =
    record { stands = is.keeps.stands pane.rows pane.cols 500 pane.log of.stands; waiting = is.waiting ∙ ap (drop n) of.waiting }
