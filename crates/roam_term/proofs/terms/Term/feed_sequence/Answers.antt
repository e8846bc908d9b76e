use Rattle.std.proofs.Common.{◌≡◌, ◌<◌, ◌≤◌, ℕ, [], ◌∷◌, get_or, map, take, sym, subst, ◌∙◌, refl, arith}
use Rattle.std.proofs.lemmas.List.{take_more}
use Rattle.roam_text.specs.Log.{Byte}
use Rattle.roam_text.specs.Functions.{functions_of}
use Rattle.roam_term.specs.Stands.{Fed}
use Rattle.roam_term.proofs.Lists.{append-nil}
use Rattle.roam_term.proofs.Runs.{follows-out, fed-then}
use Rattle.roam_term.proofs.terms.Term.feed_sequence.Goals as goal

pub returns-then-count-piece-clause-fed : goal.returns-then-count-piece-clause-fed
returns-then-count-piece-clause-fed c =
    let bs = take c.parameter_run-count.result c.args.piece.now in
    rw (← c.self.view_is)
    (follows-out _ _ (map Byte bs) [] c.parameter_run-count.ensures.stands
    (λ log stands. c.parameter_run-count.ensures.gained log stands ∙ sym (append-nil (functions_of log)))
    refl refl (sym (append-nil c.self.inside.output)) refl)

pub returns-clause-fed : goal.returns-clause-fed
returns-clause-fed c =
    let n = c.parameter_run-count.result in
    let piece = c.args.piece.now in
    let within = c.parameter_run-count.ensures.within in
    let run = subst (λ old. Fed old (record {
      reader = c.parameter_run-count.new.self;
      live = c.self.inside.canvas.live;
      marks = c.self.inside.canvas.marks;
      history = c.self.inside.history;
      waiting = c.self.inside.output;
    }) (take n piece)) c.self.view_is
    (follows-out _ _ (map Byte (take n piece)) [] c.parameter_run-count.ensures.stands
    (λ log stands. c.parameter_run-count.ensures.gained log stands ∙ sym (append-nil (functions_of log)))
    refl refl (sym (append-nil c.self.inside.output)) refl) in
    subst (λ seen. Fed c.args.self.now c.feed_last.new.self seen) (sym (take_more piece n 0 (below n _ within c.if-count-piece.false)))
    (fed-then _ _ _ (take n piece) (get_or piece n 0 ∷ []) run c.feed_last.ensures.fed)
  where
    below : (a b : ℕ) → a ≤ b → (a ≡ b → ⊥) → a < b
    below a b le ne = omega arith
