-- Bytes are base64 exactly if the kit's decoder decodes them.
use Rattle.std.proofs.Common.{◌≡◌, ℕ, List, true, false, sym, ap}
use Rattle.std.specs.Prelude.{Ok, Err, is_some}
use Rattle.std.specs.Result.{result_ok}
use Rattle.base64.specs.Engines.{standard}
use Rattle.base64.specs.GeneralPurpose.{decode_of, decoded_of}
use Rattle.base64.specs.declared.decode.DecodeError.{DecodeError}
use Rattle.roam_pane_metadata.specs.Texts.{is_base64}

pub base64-yes : (bytes items : List ℕ) → decode_of standard bytes ≡ Ok items → true ≡ is_base64 bytes
unfolding is_base64 decoded_of
base64-yes bytes items e = sym (ap (λ r. is_some (result_ok r)) e)

pub base64-no : (bytes : List ℕ) (error : DecodeError) → decode_of standard bytes ≡ Err error → false ≡ is_base64 bytes
unfolding is_base64 decoded_of
base64-no bytes error e = sym (ap (λ r. is_some (result_ok r)) e)
