-- A test of two styles, flag by flag.
use Rattle.std.proofs.Common.{◌≡◌, Bool, true, false, ◌&&◌, refl, sym, ap, ◌∙◌}
use Rattle.std.proofs.lemmas.Bool.{false≢true, and_from}
use mathlib.Core.Bool.{beq}
use Rattle.roam_cells.specs.declared.styles.Style.{Style}

-- ---- tests that are all true

both : (a b : Bool) → (a && b) ≡ true → (a ≡ true) × (b ≡ true)
both true b h = (refl, h)
both false b h = absurd (false≢true h)

pub beq-tells : (a b : Bool) → beq a b ≡ true → a ≡ b
beq-tells true true h = refl
beq-tells false false h = refl
beq-tells true false h = absurd (false≢true h)
beq-tells false true h = absurd (false≢true h)

-- ---- styles

abbrev weights : Style → Style → Bool
weights s t = beq s.bold t.bold && beq s.faint t.faint

abbrev lines : Style → Style → Bool
lines s t = (weights s t && beq s.italic t.italic) && beq s.underline t.underline

abbrev looks : Style → Style → Bool
looks s t = (lines s t && beq s.blink t.blink) && beq s.reverse t.reverse

abbrev flags : Style → Style → Bool
flags s t = (looks s t && beq s.conceal t.conceal) && beq s.strike t.strike

pub styles-tell : (s t : Style) → flags s t ≡ true → s.foreground ≡ t.foreground → s.background ≡ t.background → s ≡ t
styles-tell s t h front back i =
    let strike_is = both (looks s t && beq s.conceal t.conceal) (beq s.strike t.strike) h in
    let conceal_is = both (looks s t) (beq s.conceal t.conceal) strike_is.0 in
    let reverse_is = both (lines s t && beq s.blink t.blink) (beq s.reverse t.reverse) conceal_is.0 in
    let blink_is = both (lines s t) (beq s.blink t.blink) reverse_is.0 in
    let underline_is = both (weights s t && beq s.italic t.italic) (beq s.underline t.underline) blink_is.0 in
    let italic_is = both (weights s t) (beq s.italic t.italic) underline_is.0 in
    let bold_is = both (beq s.bold t.bold) (beq s.faint t.faint) italic_is.0 in
    record {
      bold = beq-tells s.bold t.bold bold_is.0 i;
      faint = beq-tells s.faint t.faint bold_is.1 i;
      italic = beq-tells s.italic t.italic italic_is.1 i;
      underline = beq-tells s.underline t.underline underline_is.1 i;
      blink = beq-tells s.blink t.blink blink_is.1 i;
      reverse = beq-tells s.reverse t.reverse reverse_is.1 i;
      conceal = beq-tells s.conceal t.conceal conceal_is.1 i;
      strike = beq-tells s.strike t.strike strike_is.1 i;
      foreground = front i;
      background = back i;
    }

beq-self : (a : Bool) → beq a a ≡ true
beq-self true = refl
beq-self false = refl

flags-self : (s : Style) → flags s s ≡ true
flags-self s =
    let weights_are = and_from _ _ (beq-self s.bold) (beq-self s.faint) in
    let lines_are = and_from _ _ (and_from _ _ weights_are (beq-self s.italic)) (beq-self s.underline) in
    let looks_are = and_from _ _ (and_from _ _ lines_are (beq-self s.blink)) (beq-self s.reverse) in
    and_from _ _ (and_from _ _ looks_are (beq-self s.conceal)) (beq-self s.strike)

pub flags-same : (s t : Style) → s ≡ t → flags s t ≡ true
flags-same s t is = ap (flags s) (sym is) ∙ flags-self s
