-- The acts of a stream's lines after more of it was read.
use Rattle.std.proofs.Common.{◌≡◌, ◌≢◌, ℕ, ◌+◌, ◌≤◌, ◌<◌, List, [], ◌∷◌, ◌++◌, length, sym, ap, subst, ◌∙◌, arith, append_assoc, append-nil, length-append, Result, Ok, Err, Option}
use Rattle.std.proofs.KnownBytes.{Consumes-kept, Consumes-nil}
use Rattle.std.proofs.lemmas.List.{length-take}
use Rattle.std.specs.Prelude.{OnOk}
use Rattle.std.specs.Io.KnownBytes.{Consumes, ReadConsumes}
use Rattle.std.specs.declared.io.Error.{Error}
use Rattle.roam_acts.specs.declared.acts.Act.{Act}
use Rattle.roam_terminal_input.specs.Keys.{lines_of, AreLinesOf}
use Rattle.roam_terminal_input.specs.declared.typing.Stream.{Stream}
use Rattle.roam_terminal_input.specs.declared.typing.Stream.TheVariants.{Absent, Open, Ended, Spoiled, SpoiledLast}
use Rattle.roam_terminal_input.specs.declared.typing.ActLines.{ActLines}
use Rattle.roam_terminal_input.specs.Typing.{Came, EndsLine, GoesOn, HasCome, IsNoAct, Reads, ReadsOn, Stands, line_count, bytes_given, last_of}
use Rattle.roam_terminal_input.specs.Typing as typing
use Rattle.roam_terminal_input.proofs.Streams.{came_byte, came_line, stops_at_line, stops_at_long, ends_with_none, ends_with_act, stops_at_end}

pub ok_then : {A E P Q : Type 0} (r : Result A E) → OnOk r P → (P → Q) → OnOk r Q
ok_then (Ok a) h f = f h
ok_then (Err e) h f = tt

-- ---- while a stream goes on

came_in : (l : ActLines) (log : List ℕ) (acts : List Act) → l.stream ≡ Open → HasCome l.stream log acts l.begun.items
    → Came log acts l.begun.items
came_in l log acts is_open h = subst (λ (x : Stream). HasCome x log acts l.begun.items) is_open h

next_count : (count : ℕ) (acts : List Act) (act : Act) → count ≡ line_count (length acts)
    → line_count (count + 1) ≡ line_count (length (acts ++ act ∷ []))
next_count count acts act is = omega (arith, is, length-append acts (act ∷ []))

next_number : (count : ℕ) (acts : List Act) → count ≡ line_count (length acts) → line_count (count + 1) ≡ line_count (length acts + 1)
next_number count acts is = omega (arith, is)

none_begun : {begun : List ℕ} → begun ≡ [] → length begun ≤ 64
none_begun e = omega (arith, ap (λ (t : List ℕ). length t) e)

-- one more act waits
one_waits : (taken waiting first came : List Act) (act : Act) → taken ++ waiting ≡ first ++ came
    → taken ++ (waiting ++ act ∷ []) ≡ first ++ (came ++ act ∷ [])
one_waits taken waiting first came act e =
    sym (append_assoc taken waiting (act ∷ [])) ∙ ap (λ (t : List Act). t ++ act ∷ []) e ∙ append_assoc first came (act ∷ [])

-- the end of a line
pub ended_line : (old new : ActLines) → old.stream ≡ Open → EndsLine old new → ReadsOn old (10 ∷ []) new
ended_line old new is_open (typing.act a is waits begun count same) = record {
  goes = subst GoesOn (sym (same ∙ is_open)) tt;
  reads = λ first log taken s. record {
    came = s.came ++ a ∷ [];
    order = ap (λ (t : List Act). taken ++ t) waits ∙ one_waits taken old.waiting.items first s.came a s.order;
    has_come =
        subst (λ (x : Stream). HasCome x (log ++ 10 ∷ []) (s.came ++ a ∷ []) new.begun.items) (sym (same ∙ is_open))
        (subst (λ (t : List ℕ). Came (log ++ 10 ∷ []) (s.came ++ a ∷ []) t) (sym begun)
        (came_line log old.begun.items s.came (came_in old log s.came is_open s.has_come) a is));
    count = count ∙ next_count old.count s.came a s.count;
    short = none_begun begun;
  };
  few = omega (arith, ap (λ (t : List Act). length t) waits, length-append old.waiting.items (a ∷ []));
}
ended_line old new is_open (typing.none none e) = subst (ReadsOn old (10 ∷ [])) (sym e) (record {
  goes = tt;
  reads = λ first log taken s. record {
    came = s.came;
    order = s.order;
    has_come = (
      next_number old.count s.came s.count,
      stops_at_line log old.begun.items s.came (came_in old log s.came is_open s.has_come) none,
    );
    count = s.count;
    short = s.short;
  };
  few = omega arith;
})

-- a line that is too long
pub too_long : (old : ActLines) (b number : ℕ) → old.stream ≡ Open → b ≢ 10 → 64 ≤ length old.begun.items
    → number ≡ line_count (old.count + 1) → ReadsOn old (b ∷ []) (record old { stream = Spoiled number })
too_long old b number is_open other long is = record {
  goes = tt;
  reads = λ first log taken s. record {
    came = s.came;
    order = s.order;
    has_come = (
      is ∙ next_number old.count s.came s.count,
      stops_at_long log old.begun.items s.came (came_in old log s.came is_open s.has_come) b other long,
    );
    count = s.count;
    short = s.short;
  };
  few = omega arith;
}

-- a byte of a line
pub one_byte : (old new : ActLines) (b : ℕ) → old.stream ≡ Open → b ≢ 10 → length old.begun.items < 64
    → new.begun.items ≡ old.begun.items ++ b ∷ []
    → new.waiting.items ≡ old.waiting.items → new.count ≡ old.count → new.stream ≡ old.stream → ReadsOn old (b ∷ []) new
one_byte old new b is_open other room begun waiting count same = record {
  goes = subst GoesOn (sym (same ∙ is_open)) tt;
  reads = λ first log taken s. record {
    came = s.came;
    order = ap (λ (t : List Act). taken ++ t) waiting ∙ s.order;
    has_come =
        subst (λ (x : Stream). HasCome x (log ++ b ∷ []) s.came new.begun.items) (sym (same ∙ is_open))
        (subst (λ (t : List ℕ). Came (log ++ b ∷ []) s.came t) (sym begun)
        (came_byte log old.begun.items s.came (came_in old log s.came is_open s.has_come) b other));
    count = count ∙ s.count;
    short = omega (arith, room, ap (λ (t : List ℕ). length t) begun, length-append old.begun.items (b ∷ []));
  };
  few = omega (arith, ap (λ (t : List Act). length t) waiting);
}

-- ---- at its end

pub ended_empty : (old : ActLines) → old.stream ≡ Open → old.begun.items ≡ [] → Reads old [] (record old { stream = Ended })
ended_empty old is_open none first log taken s = record {
  came = s.came;
  order = s.order;
  has_come = subst (λ (t : List ℕ). AreLinesOf (lines_of t) s.came) (sym (append-nil log))
      (ends_with_none log old.begun.items s.came (came_in old log s.came is_open s.has_come) none);
  count = s.count;
  short = s.short;
}

pub ended_stream : (old mid : ActLines) → old.stream ≡ Open → (old.begun.items ≡ [] → ⊥) → EndsLine old mid
    → Reads old [] (record mid { stream = last_of mid.stream })
ended_stream old mid is_open some (typing.act a is waits begun count same) = λ first log taken s. record {
  came = s.came ++ a ∷ [];
  order = ap (λ (t : List Act). taken ++ t) waits ∙ one_waits taken old.waiting.items first s.came a s.order;
  has_come =
      subst (λ (x : Stream). HasCome (last_of x) (log ++ []) (s.came ++ a ∷ []) mid.begun.items) (sym (same ∙ is_open))
      (subst (λ (t : List ℕ). AreLinesOf (lines_of t) (s.came ++ a ∷ [])) (sym (append-nil log))
      (ends_with_act log old.begun.items s.came (came_in old log s.came is_open s.has_come) some a is));
  count = count ∙ next_count old.count s.came a s.count;
  short = none_begun begun;
}
ended_stream old mid is_open some (typing.none none e) =
    subst (λ (m : ActLines). Reads old [] (record m { stream = last_of m.stream })) (sym e)
    (λ first log taken s. record {
      came = s.came;
      order = s.order;
      has_come = (
        next_number old.count s.came s.count,
        subst (typing.StopsAfter s.came) (sym (append-nil log))
            (stops_at_end log old.begun.items s.came (came_in old log s.came is_open s.has_come) some none),
      );
      count = s.count;
      short = s.short;
    })

-- a stream that is at its end doesn't go on
pub shut : (x : Stream) → GoesOn (last_of x) → ⊥
shut Absent on = on
shut Open on = on
shut Ended on = on
shut (Spoiled number) on = on
shut (SpoiledLast number) on = on

-- the bytes of a read were consumed
pub consumes_given : (old new : Option (List ℕ)) (answer : Result ℕ Error) (buf : List ℕ) → ReadConsumes old new answer buf
    → Consumes old new (bytes_given answer buf)
consumes_given old new (Ok n) buf h = h.0
consumes_given old new (Err e) buf h = Consumes-kept old old new [] (Consumes-nil old) h

pub given_short : (answer : Result ℕ Error) (buf : List ℕ) → length (bytes_given answer buf) ≤ length buf
given_short (Ok n) buf = omega (arith, length-take n buf)
given_short (Err e) buf = omega arith
