use Rattle.std.proofs.Common.{inl, inr, rules}
use Rattle.std.specs.Prelude.{IsErr, IsOk}
use Rattle.roam_stream_framing.proofs.Carrying.{asks_one, has_one}
use Rattle.roam_stream_framing.proofs.carriers.Carrier.write_piece.Goals as goal

pub returns-clause-asks : goal.returns-clause-asks
returns-clause-asks g c =
    asks_one _ _ _ _ _ c.write_once-answer.result (search rules) (search rules) (search rules)

pub returns-clause-stops : goal.returns-clause-stops
returns-clause-stops g c = λ h. elim (c.note.ensures.stops h) [
  | inl over ↦ inr (inl over)
  | inr failed ↦ inr (inr (has_one IsErr _ _ c.write_once-answer.result (search rules) failed))
]

pub returns-clause-went : goal.returns-clause-went
returns-clause-went g c = λ h. has_one IsOk _ _ c.write_once-answer.result (search rules) (c.note.ensures.went h)
