use Rattle.std.proofs.Common.{◌<◌, ℕ, List, encode_utf8_all, length, subst, ◌∙◌}
use Rattle.roam_stored_rows.specs.Blocks.{IsNearestPlace, StandsNowhere}
use Rattle.roam_stored_rows.proofs.Blocks.{block-none, block-some, gathered}
use Rattle.roam_stored_rows.proofs.Letters.{text-some}
use Rattle.roam_stored_rows.proofs.finding.search_block.Goals as goal

pub returns-in_default : goal.returns-in_default
returns-in_default c =
    let sought = c.args.sought.now in
    let front = c.gather.new.buffers.line.items in
    let size = c.in_ok-size.size in
    record {
      found = λ text e.
          let g = gathered sought.folded text c.args.rows.now c.args.low c.args.high front sought.needle.items size c.requires.end c.requires.on
          c.in_ok-size.ensures.front c.in_ok-size.ensures.size c.in_ok-size.ensures.within e in
          let none : StandsNowhere (encode_utf8_all text) front 0 size =
          subst (λ (l : List ℕ). StandsNowhere (encode_utf8_all text) l 0 size) c.deref.ensures.value
          (subst (λ (l : List ℕ). StandsNowhere l c.deref.result.now 0 size) (c.deref-2.ensures.value ∙ e) c.in_default.ensures.place) in
          block-none c.args.way sought.folded text c.args.rows.now c.args.low c.args.high front size g none;
    }

pub returns : goal.returns
returns c =
    let sought = c.args.sought.now in
    let front = c.gather.new.buffers.line.items in
    let size = c.in_ok-size.size in
    let place = c.in-Some.place in
    record {
      found = λ text e.
          let g = gathered sought.folded text c.args.rows.now c.args.low c.args.high front sought.needle.items size c.requires.end c.requires.on
          c.in_ok-size.ensures.front c.in_ok-size.ensures.size c.in_ok-size.ensures.within e in
          let some : 0 < length text = text-some text (subst (λ (l : List ℕ). 0 < length l) e c.requires.some) in
          let near : IsNearestPlace c.args.way (encode_utf8_all text) front size place =
          subst (λ (l : List ℕ). IsNearestPlace c.args.way (encode_utf8_all text) l size place) c.deref.ensures.value
          (subst (λ (l : List ℕ). IsNearestPlace c.args.way l c.deref.result.now size place) (c.deref-2.ensures.value ∙ e) c.in-Some.ensures.place) in
          block-some c.args.way sought.folded text c.args.rows.now c.args.low c.args.high front size place c.in_ok-at.at g some near c.in_ok-at.ensures.row;
    }
