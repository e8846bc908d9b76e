use Rattle.std.proofs.Common.{◌≡◌, ◌++◌, take}
use Rattle.std.specs.List.{flat_map}
use Rattle.roam_paint.specs.Texts.{code_text}
use Rattle.std.specs.Prelude.{true}
use Rattle.roam_scroll_paint.proofs.sequences.push_codes.Given as goal

abbrev pub invariant-loop-code : goal.invariant-loop-code
invariant-loop-code l = l.text.items ≡ l.initial.text.items ++ flat_map (code_text true) (take l.code-index l.codes)
