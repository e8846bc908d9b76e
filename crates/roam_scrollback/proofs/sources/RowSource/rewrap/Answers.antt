use Rattle.std.proofs.Common.{false, ℕ, List, [], ◌∷◌, ◌++◌, map, sym, ap, subst, inr, ◌∙◌}
use Rattle.roam_rewrap.specs.Lines.{TextRow}
use Rattle.roam_text.specs.Log.{Byte, Resized}
use Rattle.roam_scrollback.specs.Rewraps.{Follows, IsPrepared, IsUnprepared}
use Rattle.roam_scrollback.specs.Sources.{Sheds, SourceView, SurfaceView}
use Rattle.roam_scrollback.proofs.Following.{follows-as, follows-sheds, follows-then}
use Rattle.roam_scrollback.proofs.sources.RowSource.rewrap.Goals as goal
use Rattle.roam_term.specs.Terminal.{Live}

pub returns-clause-rewrapped : goal.returns-clause-rewrapped
returns-clause-rewrapped c =
    let p = c.in-Some.prepared in
    let surface = c.self.inside.surface in
    let made : IsPrepared surface.live surface.wraps c.kept.result.now c.args.rows c.args.cols p.first p.back p.reflow p.text.items =
    rw c.in-Some.is at c.in-Ok.ensures.prepared in
    let old : SourceView = record { reader = c.self.inside.reader; live = surface.live; wraps = surface.wraps } in
    let new : SourceView = record { reader = c.self-2.inside.reader; live = c.wrap_as.new.self.live; wraps = c.wrap_as.new.self.wraps } in
    rw (← c.self.view_is)
    (record {
      main = ap (λ (l : Live). l.alternate) (sym c.canvas.ensures.live) ∙ sym c.is_alternate.ensures.alternate ∙ c.if-is_alternate.false;
      single =
          ap (λ (l : Live). l.sets.single) (sym c.canvas-2.ensures.live)
          ∙ (c.prints_ascii.ensures.ascii.0 c.if-not-prints_ascii.false).1;
      rests = c.is_at_rest.ensures.rests c.if-not-is_at_rest.false;
      first = p.first;
      reflow = p.reflow;
      prepared =
          subst
          (λ (kept : List TextRow). IsPrepared surface.live surface.wraps kept c.args.rows c.args.cols p.first p.back p.reflow p.text.items)
          c.kept.ensures.kept made;
      follows = λ log reads.
          let size = Resized c.args.rows c.args.cols in
          let one : Follows old c.size.new.self (size ∷ []) log =
          follows-sheds old c.size.new.self c.new-dropped.result c.size.new.lines false (size ∷ [])
          (subst (λ (s : SourceView). Sheds s c.size.new.self c.new-dropped.result c.size.new.lines false (size ∷ [])) (sym c.self.view_is)
          c.in-Ok-size.ensures.sheds)
          log reads in
          follows-as old c.read_all.new.self new (size ∷ map Byte p.text.items) log (ap (λ (s : SourceView). s.reader) c.self-2.view_is)
          (ap (λ (s : SurfaceView). s.live) c.wrap_as.ensures.wraps ∙ ap (λ (s : SourceView). s.live) c.self-2.view_is)
          (follows-then old c.size.new.self c.read_all.new.self (size ∷ []) (map Byte p.text.items) log one
          (subst (λ (bytes : List ℕ). Follows c.size.new.self c.read_all.new.self (map Byte bytes) (log ++ size ∷ [])) c.deref.ensures.value
          (c.read_all.ensures.follows (log ++ size ∷ []) one.reads)));
      wraps = ap (λ (s : SurfaceView). s.wraps) c.wrap_as.ensures.wraps ∙ c.wraps_of.ensures.wraps;
      written = c.push_left.ensures.written;
    })

pub returns-in_default-prepared-clause-refused : goal.returns-in_default-prepared-clause-refused
returns-in_default-prepared-clause-refused c refused =
    let surface = c.self.inside.surface in
    let none : IsUnprepared surface.live surface.wraps c.kept.result.now c.args.rows c.args.cols =
    rw c.in_default-prepared.is at c.in-Ok.ensures.none in
    rw (← c.self.view_is)
    (inr (subst (λ (kept : List TextRow). IsUnprepared surface.live surface.wraps kept c.args.rows c.args.cols) c.kept.ensures.kept none))
