use Rattle.std.proofs.Common.{arith}
use Rattle.roam_text.proofs.Numbers.{short-read, short-ascii}
use Rattle.roam_text.proofs.parsers.Parser.read_short_number.Goals as goal

pub returns-clause-read : goal.returns-clause-read
returns-clause-read c rest =
    short-read c.args.self.now c.short_number-digits.result.0 c.short_number-digits.result.1 c.args.first c.args.second c.args.third c.short_number-digits.ensures.short (omega (arith, c.if-digits-eq0.false))
    c.requires.phase c.requires.place c.requires.begins rest

pub returns-clause-ascii : goal.returns-clause-ascii
returns-clause-ascii c =
    short-ascii c.short_number-digits.result.0 c.short_number-digits.result.1 c.args.first c.args.second c.args.third c.short_number-digits.ensures.short
