use Rattle.std.proofs.Common.{◌≡◌, ◌<◌, drop}
use Rattle.roam_row_files.specs.Records.{adler, adler_from}
use Rattle.roam_row_files.proofs.records.checksum.Given as goal

abbrev pub invariant-loop-byte : goal.invariant-loop-byte
invariant-loop-byte l = record {
  sum : adler_from l.low l.high (drop l.byte-index l.bytes) ≡ adler l.bytes;
  low : l.low < 65521;
  high : l.high < 65521;
}
