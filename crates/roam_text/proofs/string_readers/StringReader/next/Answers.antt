use Rattle.std.proofs.Common.{refl, sym, ap, ◌∙◌, subst}
use Rattle.roam_text.specs.Strings.{strings_by, after_step}
use Rattle.roam_text.specs.StringPhases.{StringView, Follows, moved_by}
use Rattle.roam_text.proofs.StringLogs.{read-none, read-one, read-two}
use Rattle.roam_text.proofs.string_readers.StringReader.next.Goals as goal

pub returns-in-Nothing-clause-follows : goal.returns-in-Nothing-clause-follows
returns-in-Nothing-clause-follows c log follows =
    let old : StringView = record { pending = c.self.inside.decoder.pending.items; phase = c.self.inside.phase } in
    (read-none old (record { pending = c.push.new.self.pending.items; phase = c.self.inside.phase }) c.args.byte c.push.ensures.pending
    log (subst (λ v. Follows v log) (sym c.self.view_is) follows) c.in-Nothing.ensures.chars refl).stays

pub returns-in-Nothing-clause-strings : goal.returns-in-Nothing-clause-strings
returns-in-Nothing-clause-strings c log follows =
    let old : StringView = record { pending = c.self.inside.decoder.pending.items; phase = c.self.inside.phase } in
    (read-none old (record { pending = c.push.new.self.pending.items; phase = c.self.inside.phase }) c.args.byte c.push.ensures.pending
    log (subst (λ v. Follows v log) (sym c.self.view_is) follows) c.in-Nothing.ensures.chars refl).all

pub returns-in-One-clause-follows : goal.returns-in-One-clause-follows
returns-in-One-clause-follows c log follows =
    let old : StringView = record { pending = c.self.inside.decoder.pending.items; phase = c.self.inside.phase } in
    (read-one old c.read.new.self c.args.byte (c.read.ensures.pending ∙ c.push.ensures.pending)
    log (subst (λ v. Follows v log) (sym c.self.view_is) follows) c.in-One.c c.in-One.ensures.chars c.read.ensures.phase).stays

pub returns-in-One-clause-strings : goal.returns-in-One-clause-strings
returns-in-One-clause-strings c log follows =
    let old : StringView = record { pending = c.self.inside.decoder.pending.items; phase = c.self.inside.phase } in
    (read-one old c.read.new.self c.args.byte (c.read.ensures.pending ∙ c.push.ensures.pending)
    log (subst (λ v. Follows v log) (sym c.self.view_is) follows) c.in-One.c c.in-One.ensures.chars c.read.ensures.phase).all
    ∙ sym (ap (λ s. after_step s (strings_by log)) c.read.ensures.step)

pub returns-in-AfterReplacement-clause-follows : goal.returns-in-AfterReplacement-clause-follows
returns-in-AfterReplacement-clause-follows c log follows =
    let old : StringView = record { pending = c.self.inside.decoder.pending.items; phase = c.self.inside.phase } in
    (read-two old c.read-later.new.self c.args.byte (c.read-later.ensures.pending ∙ c.read-first.ensures.pending ∙ c.push.ensures.pending)
    log (subst (λ v. Follows v log) (sym c.self.view_is) follows) 0xFFFD c.in-AfterReplacement.c c.in-AfterReplacement.ensures.chars
    (c.read-later.ensures.phase ∙ ap (λ p. (moved_by p c.in-AfterReplacement.c).phase) c.read-first.ensures.phase)).stays

pub returns-in-AfterReplacement-clause-strings : goal.returns-in-AfterReplacement-clause-strings
returns-in-AfterReplacement-clause-strings c log follows =
    let old : StringView = record { pending = c.self.inside.decoder.pending.items; phase = c.self.inside.phase } in
    (read-two old c.read-later.new.self c.args.byte (c.read-later.ensures.pending ∙ c.read-first.ensures.pending ∙ c.push.ensures.pending)
    log (subst (λ v. Follows v log) (sym c.self.view_is) follows) 0xFFFD c.in-AfterReplacement.c c.in-AfterReplacement.ensures.chars
    (c.read-later.ensures.phase ∙ ap (λ p. (moved_by p c.in-AfterReplacement.c).phase) c.read-first.ensures.phase)).all
    ∙ sym (ap (λ s. after_step c.read-later.result (after_step s (strings_by log))) c.read-first.ensures.step
    ∙ ap (λ s. after_step s (after_step (moved_by c.self.inside.phase 0xFFFD).step (strings_by log)))
    (c.read-later.ensures.step ∙ ap (λ p. (moved_by p c.in-AfterReplacement.c).step) c.read-first.ensures.phase))
