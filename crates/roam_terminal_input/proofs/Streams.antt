-- The effect of a stream's bytes on its lines.
use Rattle.std.proofs.Common.{◌≡◌, ◌≢◌, ℕ, ◌≤◌, eqb, false, List, [], ◌∷◌, ◌++◌, length, All, refl, sym, ap, subst, ◌∙◌, arith, append_assoc, append-nil, length-append}
use Rattle.std.proofs.lemmas.Bool.{ne_eqb}
use Rattle.std.proofs.lemmas.List.Concat.{flat_map-append}
use Rattle.std.proofs.lemmas.List.Elements.{All-push, All-head, All-tail, All-nil}
use Rattle.std.specs.List.{flat_map}
use Rattle.roam_acts.specs.declared.acts.Act.{Act}
use Rattle.roam_terminal_input.specs.Keys.{lines_of, in_front, IsLineOf, AreLinesOf}
use Rattle.roam_faults.specs.Streams.{IsOneLine, ended_line}
use Rattle.roam_terminal_input.specs.Typing.{Came, IsNoAct, StopsAfter}
use Rattle.roam_terminal_input.proofs.Lengths.{act_is_short}

-- ---- the lines of a text

is_inner : (b : ℕ) (bs : List ℕ) → IsOneLine (b ∷ bs) → eqb b 10 ≡ false
is_inner b bs one = ne_eqb b 10 (All-head (λ (byte : ℕ). byte ≢ 10) b bs one)

rest_of : (b : ℕ) (bs : List ℕ) → IsOneLine (b ∷ bs) → IsOneLine bs
rest_of b bs one = All-tail (λ (byte : ℕ). byte ≢ 10) b bs one

-- a line with its end is the first line
line_first : (line rest : List ℕ) → IsOneLine line → lines_of (line ++ 10 ∷ rest) ≡ line ∷ lines_of rest
line_first [] rest one = refl
line_first (b ∷ bs) rest one = rw (is_inner b bs one, line_first bs rest (rest_of b bs one)) refl

-- so do lines that have theirs
pub lines_first : (lines : List (List ℕ)) (rest : List ℕ) → All IsOneLine lines
    → lines_of (flat_map ended_line lines ++ rest) ≡ lines ++ lines_of rest
lines_first [] rest each = refl
lines_first (line ∷ lines) rest each =
    let there : flat_map ended_line (line ∷ lines) ++ rest ≡ line ++ 10 ∷ (flat_map ended_line lines ++ rest) =
    append_assoc (line ++ 10 ∷ []) (flat_map ended_line lines) rest ∙ append_assoc line (10 ∷ []) (flat_map ended_line lines ++ rest) in
    ap lines_of there
    ∙ line_first line (flat_map ended_line lines ++ rest) (All-head IsOneLine line lines each)
    ∙ ap (λ (ls : List (List ℕ)). line ∷ ls) (lines_first lines rest (All-tail IsOneLine line lines each))

-- a line with which a text begins is the front of its first line
pub record IsFront (line : List ℕ) (lines : List (List ℕ)) : Type 0 where
  pub tail : List ℕ
  pub later : List (List ℕ)
  pub are : lines ≡ (line ++ tail) ∷ later

one_in_front : (b : ℕ) (lines : List (List ℕ)) → IsFront (b ∷ []) (in_front b lines)
one_in_front b [] = record { tail = []; later = []; are = refl }
one_in_front b (line ∷ lines) = record { tail = line; later = lines; are = refl }

pub front_of : (b : ℕ) (bs more : List ℕ) → IsOneLine (b ∷ bs) → IsFront (b ∷ bs) (lines_of ((b ∷ bs) ++ more))
front_of b [] more one =
    let f = one_in_front b (lines_of more) in
    record { tail = f.tail; later = f.later; are = rw (is_inner b [] one) f.are }
front_of b (c ∷ cs) more one =
    let f = front_of c cs more (rest_of b (c ∷ cs) one) in
    record { tail = f.tail; later = f.later; are = rw (is_inner b (c ∷ cs) one) (ap (in_front b) f.are) }

-- the bytes behind the last end are one more line if there are any
pub whole_line : (b : ℕ) (bs : List ℕ) → IsOneLine (b ∷ bs) → lines_of (b ∷ bs) ≡ (b ∷ bs) ∷ []
whole_line b [] one = rw (is_inner b [] one) refl
whole_line b (c ∷ cs) one = rw (is_inner b (c ∷ cs) one) (ap (in_front b) (whole_line c cs (rest_of b (c ∷ cs) one)))

-- ---- lines that are acts

pub acts_append : (lines : List (List ℕ)) (acts : List Act) (line : List ℕ) (act : Act) → AreLinesOf lines acts → IsLineOf line act
    → AreLinesOf (lines ++ line ∷ []) (acts ++ act ∷ [])
acts_append [] [] line act are is = (is, tt)
acts_append [] (a ∷ acts) line act are is = absurd are
acts_append (l ∷ lines) [] line act are is = absurd are
acts_append (l ∷ lines) (a ∷ acts) line act are is = (are.0, acts_append lines acts line act are.1 is)

-- ---- one more byte

module _ (log begun : List ℕ) (acts : List Act) (came : Came log acts begun) where
  -- the lines of the bytes that were read and of those that follow
  pub all_lines : (more : List ℕ) → lines_of (log ++ more) ≡ came.lines ++ lines_of (begun ++ more)
  all_lines more =
      ap (λ (t : List ℕ). lines_of (t ++ more)) came.are.is
      ∙ ap lines_of (append_assoc (flat_map ended_line came.lines) begun more)
      ∙ lines_first came.lines (begun ++ more) came.are.each

  -- a byte that ends no line
  pub came_byte : (b : ℕ) → b ≢ 10 → Came (log ++ b ∷ []) acts (begun ++ b ∷ [])
  came_byte b other = record {
    lines = came.lines;
    are = record {
      is = ap (λ (t : List ℕ). t ++ b ∷ []) came.are.is ∙ append_assoc (flat_map ended_line came.lines) begun (b ∷ []);
      each = came.are.each;
      last = All-push (λ (byte : ℕ). byte ≢ 10) begun b came.are.last other;
    };
    spelled = came.spelled;
  }

  -- the end of a line that is an act
  pub came_line : (act : Act) → IsLineOf begun act → Came (log ++ 10 ∷ []) (acts ++ act ∷ []) []
  came_line act is = record {
    lines = came.lines ++ begun ∷ [];
    are = record {
      is =
          ap (λ (t : List ℕ). t ++ 10 ∷ []) came.are.is
          ∙ append_assoc (flat_map ended_line came.lines) begun (10 ∷ [])
          ∙ ap (λ (t : List ℕ). flat_map ended_line came.lines ++ t) (sym (append-nil (ended_line begun)))
          ∙ sym (flat_map-append ended_line came.lines (begun ∷ []))
          ∙ sym (append-nil (flat_map ended_line (came.lines ++ begun ∷ [])));
      each = All-push IsOneLine came.lines begun came.are.each came.are.last;
      last = All-nil (λ (byte : ℕ). byte ≢ 10);
    };
    spelled = acts_append came.lines acts begun act came.spelled is;
  }

  -- the end of a line that is none
  pub stops_at_line : IsNoAct begun → (more : List ℕ) → StopsAfter acts ((log ++ 10 ∷ []) ++ more)
  stops_at_line none more = record {
    lines = came.lines;
    line = begun;
    later = lines_of more;
    are =
        ap lines_of (append_assoc log (10 ∷ []) more)
        ∙ all_lines (10 ∷ more)
        ∙ ap (λ (ls : List (List ℕ)). came.lines ++ ls) (line_first begun more came.are.last);
    spelled = came.spelled;
    none = none;
  }

  -- a line that is too long for any act
  pub stops_at_long : (b : ℕ) → b ≢ 10 → 64 ≤ length begun → (more : List ℕ) → StopsAfter acts ((log ++ b ∷ []) ++ more)
  stops_at_long b other long more = by (begun ++ b ∷ []) refl
    where
      by : (line : List ℕ) → begun ++ b ∷ [] ≡ line → StopsAfter acts ((log ++ b ∷ []) ++ more)
      by [] is = absurd (omega (arith, long, ap (λ (t : List ℕ). length t) is, length-append begun (b ∷ [])))
      by (c ∷ cs) is =
          let one : IsOneLine (c ∷ cs) = subst IsOneLine is (All-push (λ (byte : ℕ). byte ≢ 10) begun b came.are.last other) in
          let f = front_of c cs more one in
          let same : begun ++ b ∷ more ≡ (c ∷ cs) ++ more = sym (append_assoc begun (b ∷ []) more) ∙ ap (λ (t : List ℕ). t ++ more) is in
          record {
            lines = came.lines;
            line = (c ∷ cs) ++ f.tail;
            later = f.later;
            are =
                ap lines_of (append_assoc log (b ∷ []) more)
                ∙ all_lines (b ∷ more)
                ∙ ap (λ (t : List ℕ). came.lines ++ lines_of t) same
                ∙ ap (λ (ls : List (List ℕ)). came.lines ++ ls) f.are;
            spelled = came.spelled;
            none = λ act is_line.
                let short = act_is_short ((c ∷ cs) ++ f.tail) act is_line in
                absurd (omega (
                  arith,
                  short,
                  long,
                  length-append (c ∷ cs) f.tail,
                  ap (λ (t : List ℕ). length t) is,
                  length-append begun (b ∷ []),
                ));
          }

  -- ---- at the end

  pub ends_with_none : begun ≡ [] → AreLinesOf (lines_of log) acts
  ends_with_none none =
      let all : lines_of log ≡ came.lines =
      ap lines_of (sym (append-nil log)) ∙ all_lines [] ∙ ap (λ (t : List ℕ). came.lines ++ lines_of (t ++ [])) none
      ∙ append-nil came.lines in
      subst (λ (ls : List (List ℕ)). AreLinesOf ls acts) (sym all) came.spelled

  last_lines : (begun ≡ [] → ⊥) → lines_of log ≡ came.lines ++ begun ∷ []
  last_lines some =
      ap lines_of (sym (append-nil log)) ∙ all_lines [] ∙ ap (λ (t : List ℕ). came.lines ++ lines_of t) (append-nil begun)
      ∙ ap (λ (ls : List (List ℕ)). came.lines ++ ls) (by begun refl)
    where
      by : (line : List ℕ) → begun ≡ line → lines_of begun ≡ begun ∷ []
      by [] is = absurd (some is)
      by (b ∷ bs) is =
          ap lines_of is ∙ whole_line b bs (subst IsOneLine is came.are.last) ∙ ap (λ (l : List ℕ). l ∷ []) (sym is)

  pub ends_with_act : (begun ≡ [] → ⊥) → (act : Act) → IsLineOf begun act → AreLinesOf (lines_of log) (acts ++ act ∷ [])
  ends_with_act some act is =
      subst (λ (ls : List (List ℕ)). AreLinesOf ls (acts ++ act ∷ [])) (sym (last_lines some))
      (acts_append came.lines acts begun act came.spelled is)

  pub stops_at_end : (begun ≡ [] → ⊥) → IsNoAct begun → StopsAfter acts log
  stops_at_end some none =
      record { lines = came.lines; line = begun; later = []; are = last_lines some; spelled = came.spelled; none = none }
