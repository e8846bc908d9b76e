use Rattle.std.proofs.Common.{rules, ◌++◌, ℕ, Bool, List, [], append-nil, refl, subst, sym, take, ◌∙◌}
use Rattle.std.proofs.KnownBytes.{Appends-nil, Appends-trans, Consumes-kept, Consumes-nil, Consumes-trans}
use Rattle.std.specs.Io.KnownBytes.{Consumes}
use Rattle.roam_scrollback_stream.specs.Readings.{Reaches, reading_of}
use Rattle.roam_scrollback_stream.specs.Runs.{Ran, RanTo}
use Rattle.roam_scrollback_stream.proofs.Reading.{ran}
use Rattle.roam_scrollback_stream.proofs.rows.read_all.Goals as goal

pub loop-init : goal.loop-init
loop-init g c = record {
  none = c.requires.none;
  empty = c.requires.empty;
  normalize = refl;
  reached = ([], [], Consumes-nil _, Appends-nil _, c.requires.starts);
}

pub returns-in_default-clause-read : goal.returns-in_default-clause-read
returns-in_default-clause-read g c = λ is.
    let so-far = c.loop.invariant.reached in (
      so-far.0,
      so-far.1,
      Consumes-kept _ _ _ so-far.0 so-far.2 c.in_default.ensures.bytes,
      so-far.3,
      subst (λ (z : Bool). Ran z so-far.0 so-far.1) c.loop.invariant.normalize (ran _ so-far.0 so-far.1 so-far.4),
    )

pub returns-then-count-eq0-clause-ran : goal.returns-then-count-eq0-clause-ran
returns-then-count-eq0-clause-ran g c =
    let so-far = c.loop.invariant.reached in
    let none = subst (λ (n : ℕ). Consumes (g.R.Read.remaining c.loop.reader) (g.R.Read.remaining c.read.new.self) (take n c.read.new.buf))
    c.if-count-eq0.true c.in-Ok.ensures.bytes.0 in (
      so-far.0,
      so-far.1,
      subst (λ (l : List ℕ). Consumes (g.R.Read.remaining c.args.reader.now) (g.R.Read.remaining c.read.new.self) l) (append-nil so-far.0)
          (Consumes-trans _ _ _ so-far.0 [] so-far.2 none),
      c.in-Ok.ensures.bytes.1 c.if-count-eq0.true (search rules),
      so-far.3,
      subst (λ (z : Bool). Ran z so-far.0 so-far.1) c.loop.invariant.normalize (ran _ so-far.0 so-far.1 so-far.4),
    )

pub returns-in_err-taken-clause-record : goal.returns-in_err-taken-clause-record
returns-in_err-taken-clause-record g c = λ n is.
    let so-far = c.loop.invariant.reached in
    let piece = take c.in-Ok.count c.read.new.buf in
    let out = c.take-taken.new.tellings.out in
    let before = subst (λ (o : List ℕ). Reaches (reading_of c.loop.run.terminals c.loop.run.input) so-far.0 (so-far.1 ++ o))
    (sym c.loop.invariant.empty)
    (subst (λ (o : List ℕ). Reaches (reading_of c.loop.run.terminals c.loop.run.input) so-far.0 o) (sym (append-nil so-far.1)) so-far.4) in (
      so-far.0 ++ piece,
      so-far.1 ++ out,
      Consumes-trans _ _ _ so-far.0 piece so-far.2 c.in-Ok.ensures.bytes.0,
      Appends-trans _ _ _ so-far.1 out so-far.3 c.in_ok-write_out.ensures.wrote,
      subst (λ (z : Bool). RanTo n z (so-far.0 ++ piece) (so-far.1 ++ out)) c.loop.invariant.normalize
          (c.in_err-taken.ensures.bad n (search rules) so-far.0 so-far.1 before),
    )

pub loop-preserved : goal.loop-preserved
loop-preserved g c =
    let so-far = c.loop.invariant.reached in
    let piece = take c.in-Ok.count c.read.new.buf in
    let out = c.take-taken.new.tellings.out in
    let before = subst (λ (o : List ℕ). Reaches (reading_of c.loop.run.terminals c.loop.run.input) so-far.0 (so-far.1 ++ o))
    (sym c.loop.invariant.empty)
    (subst (λ (o : List ℕ). Reaches (reading_of c.loop.run.terminals c.loop.run.input) so-far.0 o) (sym (append-nil so-far.1)) so-far.4) in
    record {
      none = c.in_ok-write_out.ensures.lines ∙ c.in_ok-taken.ensures.none;
      empty = c.in_ok-write_out.ensures.none;
      normalize = c.in_ok-taken.ensures.normalize ∙ c.loop.invariant.normalize;
      reached = (
        so-far.0 ++ piece,
        so-far.1 ++ out,
        Consumes-trans _ _ _ so-far.0 piece so-far.2 c.in-Ok.ensures.bytes.0,
        Appends-trans _ _ _ so-far.1 out so-far.3 c.in_ok-write_out.ensures.wrote,
        c.in_ok-taken.ensures.reaches so-far.0 so-far.1 before,
      );
    }

pub returns-clause-read : goal.returns-clause-read
returns-clause-read g c = λ is.
    let so-far = c.loop.invariant.reached in (
      so-far.0,
      so-far.1,
      so-far.2,
      so-far.3,
      subst (λ (z : Bool). Ran z so-far.0 so-far.1) c.loop.invariant.normalize (ran _ so-far.0 so-far.1 so-far.4),
    )
