use Rattle.roam_stream_framing.proofs.Reading.{one}
use Rattle.roam_stream_framing.proofs.laws.one_reading.Goals as goal

pub returns : goal.returns
returns c = record { one = one }
