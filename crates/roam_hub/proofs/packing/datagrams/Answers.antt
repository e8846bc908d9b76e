use Rattle.std.proofs.Common.{◌≡◌, ℕ, List, ◌∷◌, [], ◌∙◌, ap, sym, subst, arith, length, Vec}
use Rattle.std.proofs.lemmas.List.{length-map, map-append}
use Rattle.std.specs.declared.alloc.Global.{Global}
use Rattle.roam_wire.specs.Cutting.{texts_of}
use Rattle.roam_wire.specs.Datagrams.{datagram_text}
use Rattle.roam_model.specs.Texts.{datagram_with}
use Rattle.roam_hub.proofs.PackingTexts.{at_most, IsPacking, IsNext, nothing_left, pack_start, pack_more, pack_next, pack_end, fragment_sendable}
use Rattle.roam_hub.proofs.packing.datagrams.Goals as goal

pub loop-fragment-init : goal.loop-fragment-init
loop-fragment-init c =
    pack_start _ _ _ _ (ap texts_of c.in_ok-all.ensures.items) (ap texts_of c.into_iter-fragment-iterator.ensures.into_iter_gives.0)

pub overflow_cast-index : goal.overflow_cast-index
overflow_cast-index c =
    let n = pack_next _ _ _ _ c.in-Some.fragment.items _ c.loop-fragment.invariant (ap texts_of c.in-Some.ensures.steps.0) in
    let w = n.within in
    let few = c.requires.sendable.few in
    let most = at_most c.args.heading.version in
    let all = length-map c.loop-fragment.all.items (λ (v : Vec ℕ Global). v.items) in
    omega (arith, w, few, most, all, c.len-index.ensures)

pub datagram-requires : goal.datagram-requires
datagram-requires c =
    let n = pack_next _ _ _ _ c.in-Some.fragment.items _ c.loop-fragment.invariant (ap texts_of c.in-Some.ensures.steps.0) in
    let all = length-map c.loop-fragment.all.items (λ (v : Vec ℕ Global). v.items) in
    let many = length-map c.args.fragments.items (λ (v : Vec ℕ Global). v.items) in
    let at : length (texts_of c.loop-fragment.all.items) ≡ c.len-index.result = omega (arith, all, c.len-index.ensures) in
    record {
      limits =
          fragment_sendable c.args.heading.version c.args.heading.kind c.args.heading.session c.args.heading.client c.args.heading.before
          c.args.heading.id c.len-count.result c.len-index.result (texts_of c.args.fragments.items) c.in-Some.fragment.items c.requires.kind
          c.requires.session c.requires.client
          c.requires.low c.requires.high (omega (arith, many, c.requires.numbers)) c.requires.sendable
          (omega (arith, many, c.len-count.ensures))
          (subst (λ (k : ℕ). IsNext (texts_of c.args.fragments.items) k c.in-Some.fragment.items) at n);
    }

pub loop-fragment-preserved : goal.loop-fragment-preserved
loop-fragment-preserved c =
    let all = length-map c.loop-fragment.all.items (λ (v : Vec ℕ Global). v.items) in
    let many = length-map c.args.fragments.items (λ (v : Vec ℕ Global). v.items) in
    let at : c.len-index.result ≡ length (texts_of c.loop-fragment.all.items) = omega (arith, all, c.len-index.ensures) in
    let count : c.len-count.result ≡ length (texts_of c.args.fragments.items) = omega (arith, many, c.len-count.ensures) in
    let h = c.args.heading in
    subst (λ (done : List (List ℕ)). IsPacking (datagram_with h.version h.kind h.session h.client h.before h.id (length
    (texts_of c.args.fragments.items)))
    (texts_of c.args.fragments.items) done (texts_of c.next.new.self.rest.items))
    (sym (ap texts_of c.in_ok-push.ensures.items ∙ map-append _ c.loop-fragment.all.items (c.in_ok-datagram.field-0 ∷ [])))
    (pack_more _ _ _ _ c.in-Some.fragment.items c.in_ok-datagram.field-0.items _ c.loop-fragment.invariant
    (ap texts_of c.in-Some.ensures.steps.0)
    (c.in_ok-datagram.ensures.written
    ∙ (λ i. datagram_text (datagram_with h.version h.kind h.session h.client h.before h.id (count i) (at i, c.in-Some.fragment.items)))))

pub returns-clause-written : goal.returns-clause-written
returns-clause-written c =
    let none : length c.loop-fragment.fragment-iterator.rest.items ≡ 0 = omega (arith, c.in-None.ensures.steps.0) in
    pack_end _ _ _ _ c.loop-fragment.invariant (ap texts_of (nothing_left c.loop-fragment.fragment-iterator.rest.items none))
