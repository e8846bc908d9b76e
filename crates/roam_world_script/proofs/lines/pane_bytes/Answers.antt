use Rattle.std.proofs.Common.{refl, inr, ◌∙◌, ap, rules, ◌≡◌, None, Some}
use Rattle.roam_world_script.specs.Reading.{byte_in, bytes_in, each_of, pair_of}
use Rattle.roam_world_script.proofs.Telling.{pane_bytes_found, pane_bytes_none}
use Rattle.roam_world_script.proofs.Heads.{bytes_unread}
use Rattle.roam_world_script.proofs.lines.pane_bytes.Goals as goal

pub returns-in_default : goal.returns-in_default
returns-in_default c = record {
  read = inr (
    refl,
    pane_bytes_none c.args.text.now (ap (each_of byte_in bytes_in)
        c.in_default.ensures.word),
  );
}

pub returns-in_default-byte : goal.returns-in_default-byte
returns-in_default-byte c =
    let none : byte_in c.in-Some.first.now ≡ None = search rules in
    record {
      read = inr (
        refl,
        pane_bytes_none c.args.text.now (ap (each_of byte_in bytes_in) c.in-Some.ensures.word
            ∙ ap (λ p. pair_of p (bytes_in c.in-Some.rest.now)) none),
      );
    }

pub returns-in_err-bytes : goal.returns-in_err-bytes
returns-in_err-bytes c =
    let pane : byte_in c.in-Some.first.now ≡ Some c.in-Some-byte.pane = search rules in
    record {
      read = bytes_unread c.args.text.now (c.in-Some.first.now, c.in-Some.rest.now) c.in-Some-byte.pane c.in_err-bytes.field-0.0
          c.from_residual.result c.in-Some.ensures.word pane c.in_err-bytes.ensures.bytes c.from_residual.ensures.1;
    }

pub returns : goal.returns
returns c =
    let pane : byte_in c.in-Some.first.now ≡ Some c.in-Some-byte.pane = search rules in
    record {
      read = pane_bytes_found c.args.text.now (c.in-Some-byte.pane, c.in_ok-bytes.bytes.items) (ap (each_of byte_in bytes_in)
          c.in-Some.ensures.word ∙ (λ i. pair_of (pane i) (c.in_ok-bytes.ensures.bytes i)));
    }
