use Rattle.std.proofs.Common.{rules, inl, inr}
use Rattle.roam_stream_framing.proofs.Carrying.{asks_one, stopped_by}
use Rattle.roam_stream_framing.proofs.carriers.Carrier.read_piece.Goals as goal

pub returns-clause-asks : goal.returns-clause-asks
returns-clause-asks g c =
    asks_one _ _ _ _ _ c.read_once-answer.result (search rules) (search rules)
    (λ h. elim (c.hear.ensures.over.0 (search rules)) [
      | inl was ↦ inl was
      | inr ends ↦ inr (elim ends [ inl end ↦ inl end | inr lost ↦ inr lost.0 ])
    ])

pub returns-clause-stops : goal.returns-clause-stops
returns-clause-stops g c = λ h.
    stopped_by _ _ _ _ c.read_once-answer.result (search rules) (λ lost. c.hear.ensures.over.1 (inr (inr lost))) h
