use Rattle.std.proofs.Common.{rules, ◌++◌}
use Rattle.roam_scrollback_stream.proofs.Reading.{refused-byte}
use Rattle.roam_scrollback_stream.proofs.rows.Run.take_byte.Goals as goal

pub returns-clause-bad : goal.returns-clause-bad
returns-clause-bad c = λ n is read output reaches.
    refused-byte c.args.self.now.terminals c.args.self.now.input n c.saturating_add.result c.args.byte (output ++ c.args.tellings.now.out) read
    reaches c.requires.between is (search rules) (search rules) (search rules)
