use Rattle.std.proofs.Common.{◌≡◌, ◌++◌, ◌∙◌, length, take, drop, arith, sym, ap}
use Rattle.std.proofs.Math.Seq.{drop-length, take-append_seam}
use Rattle.roam_show.proofs.Copies.{whole_copy}
use Rattle.roam_show.proofs.show.take_report.Goals as goal

pub returns-clause-report : goal.returns-clause-report
returns-clause-report c =
    let old = c.deref_mut.result.now in
    let new = c.copy_output-count.new.out in
    let long : length old ≡ c.output_len.result = c.deref_mut.ensures.len ∙ c.in_ok-out.ensures.len in
    let whole : c.in_ok-out.out.len ≡ length new = omega (arith, c.deref_mut.ensures.len, c.copy_output-count.auto.out) in
    let rest = drop (length new) c.in_ok-out.out.items in
    let read : c.deref.result.now ≡ new = c.deref.ensures.value ∙ ap (λ n. take n (new ++ rest)) whole ∙ take-append_seam new rest in
    let all = whole_copy c.copy_output-count.result c.output_len.result c.args.term.now.waiting old new c.output_len.ensures.len long
    c.copy_output-count.ensures.count c.copy_output-count.ensures.bytes in
    c.in_ok-extend_from_slice.ensures.items ∙ ap (λ t. c.args.report.now.items ++ t) (read ∙ sym all)

pub returns-clause-waiting : goal.returns-clause-waiting
returns-clause-waiting c =
    let long : length c.deref_mut.result.now ≡ c.output_len.result = c.deref_mut.ensures.len ∙ c.in_ok-out.ensures.len in
    let all : c.copy_output-count.result ≡ length c.args.term.now.waiting = omega (arith, long, c.output_len.ensures.len, c.copy_output-count.ensures.count) in
    c.take_output.ensures.waiting ∙ ap (λ n. drop n c.args.term.now.waiting) all ∙ drop-length c.args.term.now.waiting
