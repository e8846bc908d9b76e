use Rattle.std.proofs.Common.{◌≡◌, sym, subst, IfOk}
use Rattle.base64.specs.Engines.{standard}
use Rattle.base64.specs.GeneralPurpose.{IsDecodeFailure}
use Rattle.roam_pane_metadata.specs.Texts.{is_base64}
use Rattle.roam_pane_metadata.proofs.Base64.{base64-yes, base64-no}
use Rattle.roam_pane_metadata.proofs.texts.is_base64.Goals as goal
use Rattle.roam_pane_metadata.proofs.texts.is_base64.Goals.{in-Ok, in-Err-DecodeError, in-Err-OutOfMemory}

pub returns : goal.returns
returns c = record {
  base64 = elim c.match-decode.branch [
    | in-Ok w ↦ subst (λ r. IfOk r (λ is. is ≡ is_base64 c.args.bytes.now)) (sym w.result-is) (base64-yes c.args.bytes.now w.in-Ok.field-0.items w.in-Ok.ensures.ok)
    | in-Err-DecodeError w ↦ subst (λ r. IfOk r (λ is. is ≡ is_base64 c.args.bytes.now)) (sym w.result-is) (base64-no c.args.bytes.now w.in-Err-DecodeError.field-0-0
        (subst (IsDecodeFailure standard c.args.bytes.now) w.in-Err-DecodeError.field-0-is w.in-Err-DecodeError.ensures.err))
    | in-Err-OutOfMemory w ↦ subst (λ r. IfOk r (λ is. is ≡ is_base64 c.args.bytes.now)) (sym w.result-is) tt
  ];
}
