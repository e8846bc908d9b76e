use Rattle.std.proofs.Common.{◌∷◌, ◌++◌, ap, ◌∙◌, append_assoc, List, ℕ}
use Rattle.byteorder.specs.Endian.{big_bytes}
use Rattle.roam_row_files.proofs.records.push_check.Goals as goal

pub returns : goal.returns
returns c =
    let old = c.args.payload.now.items in
    let number = 75 ∷ big_bytes 8 c.args.point.count in
    let size = big_bytes 2 c.args.point.rows ++ big_bytes 2 c.args.point.cols in
    let text = c.args.point.text.now in
    record {
      payload = c.in_ok-extend_from_slice-2.ensures.items
          ∙ ap (λ (l : List ℕ). l ++ text) (c.in_ok-extend_from_slice.ensures.items
          ∙ ap (λ (l : List ℕ). l ++ c.size_of.result) c.in_ok-push_number.ensures.payload
          ∙ ap (λ (l : List ℕ). (old ++ number) ++ l) c.size_of.ensures.size)
          ∙ append_assoc (old ++ number) size text ∙ append_assoc old number (size ++ text);
    }
