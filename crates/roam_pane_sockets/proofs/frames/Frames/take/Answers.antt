use Rattle.std.proofs.Common.{◌≡◌, ◌++◌, [], length, sym, ap, ◌∙◌, subst, append-nil, drop, None, rules}
use Rattle.std.specs.Vec.{vec_len}
use Rattle.roam_pane_sockets.specs.Frames.{free, frame_after, since_after}
use Rattle.roam_pane_sockets.proofs.Framing.{framed, is-short, none-later, not-short}
use Rattle.roam_pane_sockets.proofs.frames.Frames.take.Goals as goal

pub returns : goal.returns
returns c =
    let ready = c.self.inside.ready.items in
    let later = c.self.inside.later.items in
    let chunk = c.args.chunk.items in
    let frame = c.frame_behind-self-inside.result in
    let now = c.args.self.now in
    let rest = c.append.result.items in
    let none : later ≡ [] =
    none-later c.self.inside.frame ready later c.self.invariant (subst (λ f. free f ≡ 0) (sym c.self.view_is) c.requires.held) in
    let old : now.ready ≡ ready = sym (ap (λ f. f.ready) c.self.view_is) ∙ ap (λ l. ready ++ l) none ∙ append-nil ready in
    let was : c.self.inside.frame ≡ now.frame = ap (λ f. f.frame) c.self.view_is in
    let size : vec_len c.self.inside.ready ≡ length ready = search rules in
    let at : c.len-from.result ≡ length ready = c.len-from.ensures ∙ size in
    record {
      takes = record {
        ready = c.append.ensures.all ∙ ap (λ l. l ++ chunk) (sym old);
        frame = λ whole. subst (λ l. frame ≡ frame_after now.frame (length l) chunk) (sym old)
            (subst (λ f. frame ≡ frame_after f (length ready) chunk) was
            (framed c.self.inside.frame frame c.len-from.result ready c.append.new.ready.items chunk rest at c.append.ensures.all
            (subst (λ l. l ≡ [] → frame ≡ frame_after c.self.inside.frame c.len-from.result (drop c.len-from.result c.append.new.ready.items))
            c.deref-2.ensures.value
            (subst (λ l. c.deref-2.result.now ≡ [] → frame ≡ frame_after c.self.inside.frame c.len-from.result (drop c.len-from.result l))
            c.deref.ensures.value c.frame_behind-self-inside.ensures.frame)) (not-short rest whole)));
        none = λ short.
            subst (λ l. (l ≡ [] → ⊥) → frame ≡ None) c.deref-2.ensures.value c.frame_behind-self-inside.ensures.none (is-short rest short);
        since = c.since_after-self-inside.ensures.since
            ∙ ap (λ k. since_after frame k c.self.inside.since c.args.now) (at ∙ ap length (sym old))
            ∙ ap (λ s. since_after frame (length now.ready) s c.args.now) (ap (λ f. f.since) c.self.view_is);
        within = ap (λ f. f.within) c.self.view_is;
      };
    }
