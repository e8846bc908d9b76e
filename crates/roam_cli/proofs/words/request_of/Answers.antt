use Rattle.std.proofs.Common.{◌≡◌, rules}
use Rattle.std.specs.Prelude.{codes}
use Rattle.roam_cli.proofs.Subcommands.{attach_asked, rows_asked, serve_asked, show_asked, used}
use Rattle.roam_cli.proofs.words.request_of.Goals as goal

pub returns-in-Some-show-default : goal.returns-in-Some-show-default
returns-in-Some-show-default c =
    let m = c.args.matches.now in
    let arm = c.in-Some-show-default in
    let named : arm.field-0-0.now ≡ codes "show" = search rules in
    let met = used m arm.inner.now arm.field-0-0.now (codes "show") arm.ensures.name arm.ensures.rows named in
    record { asks = show_asked m arm.inner.now c.show_of.result met c.show_of.ensures.show }

pub returns-in-Some-serve-default : goal.returns-in-Some-serve-default
returns-in-Some-serve-default c =
    let m = c.args.matches.now in
    let arm = c.in-Some-serve-default in
    let named : arm.field-0-0.now ≡ codes "serve" = search rules in
    let met = used m arm.inner.now arm.field-0-0.now (codes "serve") arm.ensures.name arm.ensures.rows named in
    record { asks = serve_asked m arm.inner.now c.serve_of.result met c.serve_of.ensures.serve }

pub returns-in-Some-attach-default : goal.returns-in-Some-attach-default
returns-in-Some-attach-default c =
    let m = c.args.matches.now in
    let arm = c.in-Some-attach-default in
    let named : arm.field-0-0.now ≡ codes "attach" = search rules in
    let met = used m arm.inner.now arm.field-0-0.now (codes "attach") arm.ensures.name arm.ensures.rows named in
    record { asks = attach_asked m arm.inner.now c.attach_of.result met c.attach_of.ensures.attach }

pub returns-in-Some-rows-default : goal.returns-in-Some-rows-default
returns-in-Some-rows-default c =
    let m = c.args.matches.now in
    let arm = c.in-Some-rows-default in
    let named : arm.field-0-0.now ≡ codes "rows" = search rules in
    let met = used m arm.inner.now arm.field-0-0.now (codes "rows") arm.ensures.name arm.ensures.rows named in
    record { asks = rows_asked m arm.inner.now c.rows_of.result met c.rows_of.ensures.rows }
