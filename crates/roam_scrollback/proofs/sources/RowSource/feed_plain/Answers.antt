use Rattle.std.proofs.Common.{◌≡◌, ◌≤◌, ◌<◌, ◌++◌, false, map, length, take, sym, subst, ◌∙◌, arith}
use Rattle.std.proofs.lemmas.List.{take-take, length-take-le}
use Rattle.roam_text.specs.Functions.{ArePlain, functions_of}
use Rattle.roam_text.specs.Log.{Byte}
use Rattle.roam_text.specs.Stands.{Stands}
use Rattle.roam_text.specs.declared.functions.Function.TheVariants.{Print}
use Rattle.roam_term.proofs.Prints.{lived-prints}
use Rattle.roam_scrollback.specs.Lines.{Writes}
use Rattle.roam_scrollback.proofs.QuietRuns.{quiet}
use Rattle.roam_scrollback.proofs.Shedding.{sheds-out, prints_keep}
use Rattle.roam_scrollback.proofs.Writing.{writes-none}
use Rattle.roam_scrollback.proofs.sources.RowSource.feed_plain.Goals as goal

pub returns-clause-sheds : goal.returns-clause-sheds
returns-clause-sheds c =
    let n = c.plain_run-count.result in
    let room = c.min-room.result in
    let piece = c.args.piece.now in
    let surface = c.self.inside.surface in
    let lines = c.args.lines.now in
    let run = c.plain_run-count.ensures in
    let bs = take n piece in
    let few : length (take room piece) ≡ room = length-take-le room piece (omega (arith, c.min-room.ensures)) in
    let low : n ≤ room = omega (arith, run.within, few) in
    let seen = take-take n room piece low in
    let some : 0 < c.plain_room.result = omega (arith, low, c.min-room.ensures, c.if-count-eq0.false) in
    let count : length bs ≡ n = length-take-le n piece (omega (arith, low, c.min-room.ensures)) in
    let still =
    quiet surface.live bs surface.wraps (subst ArePlain seen run.plain) (c.plain_room.ensures.ascii some) (c.plain_room.ensures.single some)
    (c.plain_room.ensures.settled some) (omega (arith, c.plain_room.ensures.room, count, low, c.min-room.ensures)) in
    rw (← c.self.view_is)
    (sheds-out _ _ lines lines false (map Byte bs) (map Print bs)
    (λ log stands. subst (λ l. Stands c.self.inside.reader (log ++ map Byte l)) seen (run.stands log stands))
    (λ log stands. subst (λ l. functions_of (log ++ map Byte l) ≡ functions_of log ++ map Print l) seen (run.gained log stands))
    (c.print_run.ensures.printed ∙ sym (lived-prints surface.live bs))
    (c.print_run.ensures.wraps ∙ sym still.wraps_stay)
    (subst (λ rows. Writes lines lines rows) (sym still.rows) (writes-none lines c.facts.ensures.lost))
    (prints_keep bs))
