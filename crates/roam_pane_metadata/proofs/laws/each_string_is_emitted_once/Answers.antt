use Rattle.std.proofs.Common.{[]}
use Rattle.roam_pane_metadata.proofs.Gained.{emissions-counted, emitted-behind}
use Rattle.roam_pane_metadata.proofs.TakenBack.{strings-emitted}
use Rattle.roam_pane_metadata.proofs.laws.each_string_is_emitted_once.Goals as goal

pub returns : goal.returns
returns c = record { strings = strings-emitted; once = emissions-counted; front = emitted-behind [] }
