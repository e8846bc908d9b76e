use Rattle.std.proofs.Common.{◌≡◌, ◌∙◌, ◌<◌, [], ◌∷◌, ◌++◌, List, ap, arith, get_or, length, map, take, sym, subst}
use Rattle.std.proofs.lemmas.List.{map_more, length-map, length-take-le}
use Rattle.std.proofs.lemmas.List.Elements.{All-get_or}
use Rattle.roam_cells.specs.Glyph.{Glyph}
use Rattle.roam_cells.specs.Place.{IsWholeRow}
use Rattle.roam_history.specs.Fitting.{HistorySize}
use Rattle.roam_history.specs.Histories.{Scrollback, IsRow}
use Rattle.roam_history.specs.Lines.{refitted_row}
use Rattle.roam_history.proofs.Pushing.{last_fits}
use Rattle.roam_history.proofs.Refitting.{refitted_front, refitted_whole}
use Rattle.roam_history.proofs.histories.History.adopt.Goals as goal

pub take-requires : goal.take-requires
take-requires c =
    let v = c.args.self.now in
    let i = c.loop-i.i in
    let row = get_or v.rows i [] in
    let front = c.front_of_row.result.now in
    let n = c.loop-i.history.cols in
    let is_row : IsRow v.cols row = All-get_or (IsRow v.cols) v.rows i [] (omega arith) c.facts.ensures.scrollback.each in
    record {
      whole = subst (λ (l : List Glyph). IsWholeRow l) (sym (refitted_front n v.cols row front c.front_of_row.ensures.row)) (refitted_whole n row is_row.whole);
    }

pub loop-i-preserved : goal.loop-i-preserved
loop-i-preserved c =
    let v = c.args.self.now in
    let i = c.loop-i.i in
    let h = c.loop-i.history in
    let was = c.loop-i.invariant in
    let n = c.fitted.inside.history.cols in
    let row = get_or v.rows i [] in
    let front = c.front_of_row.result.now in
    let done = c.take.ensures.pushed in
    let within : i < length v.rows = omega arith in
    let size : length h.rows ≡ i = ap length was.rows ∙ length-map (take i v.rows) (refitted_row n) ∙ length-take-le i v.rows (omega arith) in
    let same_lines : c.fitted.inside.history.lines ≡ v.lines = ap (λ (e : HistorySize). e.lines) c.fitted.view_is ∙ c.requires.lines in
    let room : length h.rows < h.lines = omega (arith, size, was.lines, same_lines, c.facts.ensures.scrollback.few) in
    record {
      lines = ap (λ (s : Scrollback). s.lines) done ∙ was.lines;
      cols = ap (λ (s : Scrollback). s.cols) done ∙ was.cols;
      rows = ap (λ (s : Scrollback). s.rows) done ∙ last_fits h.lines h.rows (refitted_row h.cols front) room
          ∙ ap (λ l. l ++ refitted_row h.cols front ∷ []) was.rows
          ∙ ap (λ l. map (refitted_row n) (take i v.rows) ++ l ∷ [])
          (ap (λ k. refitted_row k front) was.cols ∙ refitted_front n v.cols row front c.front_of_row.ensures.row)
          ∙ sym (map_more (refitted_row n) v.rows i [] within);
    }
