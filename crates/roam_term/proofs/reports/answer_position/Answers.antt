use Rattle.std.proofs.Common.{◌≡◌, ◌≤◌, ◌+◌, ◌++◌, [], ℕ, List, length, append_assoc, length-append, codes, ap, ◌∙◌, arith}
use Rattle.roam_grid.specs.Screen.{Screen, IsFrame}
use Rattle.roam_term.specs.Reports.{sequence}
use Rattle.roam_term.proofs.reports.answer_position.Goals as goal

grown : (new old more : List ℕ) → new ≡ old ++ more → length new ≡ length old + length more
grown new old more e = ap (length {A = ℕ}) e ∙ length-append old more

column_low : (s : Screen) (col : ℕ) → IsFrame s → col ≡ s.col + 1 → col ≤ 500
column_low s col frame e = omega (arith, frame.col_in, frame.size.most_columns)

-- all but the last character
numbers_short : (old start row next col : List ℕ) → start ≡ old ++ sequence [] → length row ≤ length start + 3
    → next ≡ row ++ codes ";" → length col ≤ length next + 3 → length col ≤ length old + 9
numbers_short old start row next col e f g h =
    omega (arith, grown start old (sequence []) e, grown next row (codes ";") g)

-- an answer's parts, one after another
parts : (old row col : List ℕ) →
    old ++ sequence [] ++ row ++ codes ";" ++ col ++ codes "R" ≡ old ++ sequence (row ++ codes ";" ++ col ++ codes "R")
parts old row col = simp append_assoc

pub overflow_cast-row : goal.overflow_cast-row
overflow_cast-row c = omega (arith, c.reported_row-row.ensures.low)

pub overflow_cast-col : goal.overflow_cast-col
overflow_cast-col c =
    let low = column_low c.args.grid.now.screen c.cursor-col.result.1 c.facts.ensures.screen.frame c.cursor-col.ensures.col in
    omega (arith, low)

pub push-requires : goal.push-requires
push-requires c = record { room = omega (arith, c.requires.room) }

pub push_number-requires : goal.push_number-requires
push_number-requires c =
    let start = grown c.push.new.self c.args.output.now (sequence []) c.push.ensures.waiting in
    record { room = omega (arith, c.requires.room, start) }

pub push-requires-2 : goal.push-requires-2
push-requires-2 c =
    let start = grown c.push.new.self c.args.output.now (sequence []) c.push.ensures.waiting in
    let row = c.push_number.ensures.short (omega (arith, c.reported_row-row.ensures.low)) in
    record { room = omega (arith, c.requires.room, start, row) }

pub push_number-requires-2 : goal.push_number-requires-2
push_number-requires-2 c =
    let start = grown c.push.new.self c.args.output.now (sequence []) c.push.ensures.waiting in
    let row = c.push_number.ensures.short (omega (arith, c.reported_row-row.ensures.low)) in
    let next = grown c.push-2.new.self c.push_number.new.self (codes ";") c.push-2.ensures.waiting in
    record { room = omega (arith, c.requires.room, start, row, next) }

pub push-requires-3 : goal.push-requires-3
push-requires-3 c =
    let low = column_low c.args.grid.now.screen c.cursor-col.result.1 c.facts.ensures.screen.frame c.cursor-col.ensures.col in
    let row = c.push_number.ensures.short (omega (arith, c.reported_row-row.ensures.low)) in
    let col = c.push_number-2.ensures.short (omega (arith, low)) in
    let short =
    numbers_short c.args.output.now c.push.new.self c.push_number.new.self c.push-2.new.self c.push_number-2.new.self
    c.push.ensures.waiting row c.push-2.ensures.waiting col in
    record { room = omega (arith, c.requires.room, short) }

pub returns : goal.returns
returns c =
    let low = column_low c.args.grid.now.screen c.cursor-col.result.1 c.facts.ensures.screen.frame c.cursor-col.ensures.col in
    let row = c.push_number.ensures.short (omega (arith, c.reported_row-row.ensures.low)) in
    let col = c.push_number-2.ensures.short (omega (arith, low)) in
    let short =
    numbers_short c.args.output.now c.push.new.self c.push_number.new.self c.push-2.new.self c.push_number-2.new.self
    c.push.ensures.waiting row c.push-2.ensures.waiting col in
    let last = grown c.push-3.new.self c.push_number-2.new.self (codes "R") c.push-3.ensures.waiting in
    record {
      answered =
          rw (
            c.push-3.ensures.waiting,
            c.push_number-2.ensures.waiting,
            c.push-2.ensures.waiting,
            c.push_number.ensures.waiting,
            c.push.ensures.waiting,
            c.reported_row-row.ensures.row,
            c.cursor-col.ensures.col,
          )
          (parts c.args.output.now _ _);
      short = omega (arith, short, last);
    }
