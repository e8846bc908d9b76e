use Rattle.std.proofs.Common.{◌≡◌, None, true, false, refl, rules}
use Rattle.std.specs.Prelude.{drop, length, ◌+◌}
use Rattle.roam_outer_terminal.specs.Hearing.TakesLine.{nothing, refused, unheard}
use Rattle.roam_outer_terminal.specs.Terminals.{is_heard}
use Rattle.roam_outer_terminal.proofs.Heard.{entry_heard, line_bad, watches_read}
use Rattle.roam_outer_terminal.proofs.terminal.Terminal.hear.Goals as goal

pub returns-then-not-is_heard-clause-hears : goal.returns-then-not-is_heard-clause-hears
returns-then-not-is_heard-clause-hears g c =
    let not_heard : is_heard c.read_line.new.self.state ≡ false = search rules in (
      None,
      record {
        read = c.read_line.new.self;
        reads = c.read_line.ensures.reads;
        apart = c.read_line.ensures.apart;
        is_read = c.read_line.ensures.others;
        takes = unheard refl not_heard refl refl;
      },
      refl,
      refl,
    )

pub returns-in_default-clause-hears : goal.returns-in_default-clause-hears
returns-in_default-clause-hears g c =
    let heard : is_heard c.read_line.new.self.state ≡ true = search rules in
    let none : c.first.result ≡ None = search rules in (
      None,
      record {
        read = c.read_line.new.self;
        reads = c.read_line.ensures.reads;
        apart = c.read_line.ensures.apart;
        is_read = c.read_line.ensures.others;
        takes = nothing refl heard (c.first.ensures.none none) refl refl;
      },
      refl,
      refl,
    )

pub returns-in-Ok-clause-hears : goal.returns-in-Ok-clause-hears
returns-in-Ok-clause-hears g c =
    let heard : is_heard c.read_line.new.self.state ≡ true = search rules in
    let mid = c.read_line.new.self in
    let line = c.in-Some.line.now in
    let taken =
    entry_heard c.in-Ok.entry line (drop (length line + 1) mid.lines.kept) c.args.self.now mid c.take_entry.new.self c.args.client.now
    c.take_entry.new.client c.take_entry.result (watches_read c.args.self.now mid c.read_line.ensures.others) heard (search rules)
    (search rules) c.take_entry.ensures.takes in (
      taken.0,
      record { read = mid; reads = c.read_line.ensures.reads; apart = c.read_line.ensures.apart; is_read = c.read_line.ensures.others; takes = taken.1 },
      taken.2,
      taken.3,
    )

pub returns-in-Err-clause-hears : goal.returns-in-Err-clause-hears
returns-in-Err-clause-hears g c =
    let heard : is_heard c.read_line.new.self.state ≡ true = search rules in
    let mid = c.read_line.new.self in
    let line = c.in-Some.line.now in
    let why =
    line_bad mid.lines mid.display_state line (drop (length line + 1) mid.lines.kept) c.in-Err.fault (search rules) (search rules) (search rules)
    (search rules) in (
      None,
      record {
        read = mid;
        reads = c.read_line.ensures.reads;
        apart = c.read_line.ensures.apart;
        is_read = c.read_line.ensures.others;
        takes = refused refl heard why c.refuse.ensures.refused refl;
      },
      refl,
      refl,
    )
