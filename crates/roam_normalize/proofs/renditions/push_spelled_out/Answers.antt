use Rattle.std.proofs.Common.{ap, ◌∙◌, ◌+◌, ◌-◌, ◌++◌, length, take, drop}
use Rattle.roam_normalize.specs.Renditions.{group_text, spelled_out}
use Rattle.roam_normalize.proofs.Spelling.{spelled-all, spelled-on, on-within}
use Rattle.roam_normalize.proofs.renditions.push_spelled_out.Goals as goal

pub returns-then-end-rest : goal.returns-then-end-rest
returns-then-end-rest c =
    let at = c.loop-at.at in
    let end = c.group_length-end.result in
    let bytes = c.args.bytes.now in
    let rest = take (length bytes - at) (drop at bytes) in
    record {
      out = c.in_ok-push_group.ensures.out ∙ ap (λ k. c.loop-at.out.items ++ group_text k (take end rest)) c.first_kind.ensures.kind
          ∙ spelled-all bytes at c.args.out.now.items c.loop-at.out.items c.loop-at.invariant.1 end c.group_length-end.ensures.length c.if-end-rest.true;
    }

pub loop-at-preserved : goal.loop-at-preserved
loop-at-preserved c =
    let at = c.loop-at.at in
    let end = c.group_length-end.result in
    let bytes = c.args.bytes.now in
    let rest = take (length bytes - at) (drop at bytes) in (
      on-within bytes at end c.loop-at.invariant.0 c.if-end-rest.false,
      ap (λ l. l ++ spelled_out (drop (at + (end + 1)) bytes))
          (c.in_ok-push_group.ensures.out ∙ ap (λ k. c.loop-at.out.items ++ group_text k (take end rest)) c.first_kind.ensures.kind)
          ∙ spelled-on bytes at c.args.out.now.items c.loop-at.out.items c.loop-at.invariant.1 end c.group_length-end.ensures.length c.if-end-rest.false,
    )
