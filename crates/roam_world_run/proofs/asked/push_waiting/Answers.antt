use Rattle.std.proofs.Common.{◌≡◌, ◌++◌, ◌∙◌, length, take, drop, arith, sym, subst, ap, string_bytes}
use Rattle.std.proofs.Math.Seq.{take-append_seam}
use Rattle.std.specs.Option.{option_map, unwrap_or}
use Rattle.roam_session.specs.Refusals.{output_at}
use Rattle.roam_hub.specs.Servers.{Stands as ServerStands}
use Rattle.roam_world_run.specs.Asked.{bytes_line}
use Rattle.roam_world_run.proofs.Asking.{all_wait}
use Rattle.roam_world_run.proofs.asked.push_waiting.Goals as goal

pub returns-in-Ok-clause-text : goal.returns-in-Ok-clause-text
returns-in-Ok-clause-text c = λ w s.
    let server = subst (λ v. ServerStands v w.server) (sym c.server-server.ensures.server) s.server in
    let o = output_at w.server.size w.server.log c.args.pane in
    let len : c.unwrap_or-len.result ≡ unwrap_or (option_map (λ x. length x) o) 0 = c.unwrap_or-len.ensures
    ∙ ap (λ r. unwrap_or r 0) (c.output_len.ensures.len w.server server) in
    let long : length c.deref_mut.result.now ≡ c.unwrap_or-len.result = c.deref_mut.ensures.len ∙ c.in_ok-bytes.ensures.len in
    let whole : c.in_ok-bytes.bytes.len ≡ length c.output.new.out = omega (arith, c.deref_mut.ensures.len, c.output.auto.out) in
    let rest = drop (length c.output.new.out) c.in_ok-bytes.bytes.items in
    let read : c.deref.result.now ≡ c.output.new.out = c.deref.ensures.value ∙ ap (λ n. take n (c.output.new.out ++ rest)) whole
    ∙ take-append_seam c.output.new.out rest in
    let all = all_wait o c.in-Ok.field-0 c.unwrap_or-len.result c.deref_mut.result.now c.output.new.out len long (c.in-Ok.ensures.fault
    w.server server) (c.in-Ok.ensures.bytes w.server server) in
    c.in_ok-push_bytes-in-Ok.ensures.text ∙ ap (λ t. string_bytes c.args.text.now ++ t) (ap bytes_line read ∙ sym all)
