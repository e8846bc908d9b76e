use Rattle.std.proofs.Common.{rules, arith, ◌++◌, ◌∷◌, ℕ, Bool, List, [], refl, subst, take, take_all, slice_index_or, ◌∙◌}
use Rattle.roam_scrollback_stream.specs.Readings.{Reaches, reading_of}
use Rattle.roam_scrollback_stream.specs.Runs.{RanTo}
use Rattle.roam_scrollback_stream.proofs.Reading.{all-after, left-long, read-byte, read-on, refused-within}
use Rattle.roam_scrollback_stream.proofs.rows.Run.take.Goals as goal

pub loop-at-preserved-then-is_coming : goal.loop-at-preserved-then-is_coming
loop-at-preserved-then-is_coming c =
    let piece = c.args.piece.now in
    let at = c.loop-at.at in
    let n = c.in_ok-at.field-0 in
    let new = reading_of c.take_bytes.new.self.terminals c.take_bytes.new.self.input in
    let out = c.take_bytes.new.tellings.out in
    record {
      within = omega (arith, c.loop-at.invariant.within, c.in_ok-at.ensures.within.1, left-long at piece);
      none = c.in_ok-at.ensures.none;
      normalize = c.in_ok-at.ensures.normalize ∙ c.loop-at.invariant.normalize;
      reaches = λ read output reaches.
          subst (λ (l : List ℕ). Reaches new l (output ++ out)) (read-on at n piece read)
          (subst (λ (rest : List ℕ). Reaches new ((read ++ take at piece) ++ take n rest) (output ++ out)) (all-after at piece)
          (c.in_ok-at.ensures.reaches (read ++ take at piece) output (c.loop-at.invariant.reaches read output reaches)));
    }

pub returns-in_err-take_byte-clause-bad : goal.returns-in_err-take_byte-clause-bad
returns-in_err-take_byte-clause-bad c = λ n is read output reaches.
    let piece = c.args.piece.now in
    let at = c.loop-at.at in
    refused-within n at (slice_index_or piece at 0) c.args.self.now.terminals.normalize piece read (output ++ c.take_byte.new.tellings.out)
    c.loop-at-test.true refl
    (subst (λ (z : Bool). RanTo n z ((read ++ take at piece) ++ slice_index_or piece at 0 ∷ []) (output ++ c.take_byte.new.tellings.out))
    c.loop-at.invariant.normalize
    (c.in_err-take_byte.ensures.bad n (search rules) (read ++ take at piece) output (c.loop-at.invariant.reaches read output reaches)))

pub loop-at-preserved : goal.loop-at-preserved
loop-at-preserved c =
    let piece = c.args.piece.now in
    let at = c.loop-at.at in
    let new = reading_of c.take_byte.new.self.terminals c.take_byte.new.self.input in
    let out = c.take_byte.new.tellings.out in
    record {
      within = omega (arith, c.loop-at-test.true);
      none = c.in_ok-take_byte.ensures.none;
      normalize = c.in_ok-take_byte.ensures.normalize ∙ c.loop-at.invariant.normalize;
      reaches = λ read output reaches.
          subst (λ (l : List ℕ). Reaches new l (output ++ out))
          (read-byte at (slice_index_or piece at 0) piece read c.loop-at-test.true refl)
          (c.in_ok-take_byte.ensures.reaches (read ++ take at piece) output (c.loop-at.invariant.reaches read output reaches));
    }

pub returns-clause-reaches : goal.returns-clause-reaches
returns-clause-reaches c = λ read output reaches.
    let piece = c.args.piece.now in
    subst (λ (l : List ℕ). Reaches (reading_of c.loop-at.self.terminals c.loop-at.self.input) (read ++ l) (output ++ c.loop-at.tellings.out))
    (take_all c.loop-at.at piece c.loop-at-test.false) (c.loop-at.invariant.reaches read output reaches)
