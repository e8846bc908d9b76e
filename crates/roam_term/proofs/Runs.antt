-- Functions one after another.
use Rattle.std.proofs.Common.{◌≡◌, ℕ, List, [], ◌∷◌, ◌++◌, map, refl, sym, ap, ◌∙◌, append_assoc, subst}
use Rattle.roam_text.specs.declared.functions.Function.{Function}
use Rattle.roam_text.specs.Log.{Item, Byte}
use Rattle.roam_text.specs.Functions.{functions_of}
use Rattle.roam_text.specs.Stands.{Stands as Reads}
use Rattle.roam_term.specs.Terminal.{Terminal, changed_by, answer, after, run, live_after, kept_by, answers_after, started_terminal, term, reports}
use Rattle.roam_term.specs.Marks.{marked_through}
use Rattle.roam_term.specs.Stands.{TermView, Stands, Follows, Fed}
use Rattle.roam_term.proofs.Lists.{append-nil, map-append}
use Rattle.roam_term.proofs.Marking.{marked-append}

pub run-append : (t : Terminal) (fs gs : List Function) → run t (fs ++ gs) ≡ run (run t fs) gs
run-append t [] gs = refl
run-append t (f ∷ fs) gs = run-append (after f t) fs gs

-- the live state depends on the live state before alone
pub run-live : (t : Terminal) (fs : List Function) → (run t fs).live ≡ live_after t.live fs
run-live t [] = refl
run-live t (f ∷ fs) = run-live (after f t) fs

-- and the history on the history and on what lived
pub run-history : (t : Terminal) (fs : List Function) → (run t fs).history ≡ kept_by t.live fs t.history
run-history t [] = refl
run-history t (f ∷ fs) = run-history (after f t) fs

-- and earlier answers stay in front
pub run-answers : (t : Terminal) (fs : List Function) → (run t fs).answers ≡ t.answers ++ answers_after t.live fs
run-answers t [] = sym (append-nil t.answers)
run-answers t (f ∷ fs) = run-answers (after f t) fs ∙ append_assoc t.answers (answer f t.live) (answers_after (changed_by f t.live) fs)

-- the reader's clauses, and the changes and answers of the functions
module _ (old new : TermView) (items : List Item) (out : List Function)
    (reads : (log : List Item) → Reads old.reader log → Reads new.reader (log ++ items))
    (gained : (log : List Item) → Reads old.reader log → functions_of (log ++ items) ≡ functions_of log ++ out)
    (live : new.live ≡ live_after old.live out)
    (history : new.history ≡ kept_by old.live out old.history)
    (waiting : new.waiting ≡ old.waiting ++ answers_after old.live out)
    (marks : new.marks ≡ marked_through old.live out old.marks) where
  later : (rows cols lines : ℕ) (log : List Item) → Reads old.reader log → term rows cols lines (log ++ items) ≡ run (term rows cols lines log) out
  unfolding term
  later rows cols lines log stands = ap (run (started_terminal rows cols lines)) (gained log stands) ∙ run-append (started_terminal rows cols lines) (functions_of log) out

  pub follows-out : Follows old new items
  unfolding reports
  follows-out = record {
    stands = λ rows cols lines log shows. record {
      reads = reads log shows.reads;
      live =
          live ∙ ap (λ l. live_after l out) shows.live ∙ sym (run-live (term rows cols lines log) out)
          ∙ sym (ap (λ (t : Terminal). t.live) (later rows cols lines log shows.reads));
      history =
          history ∙ ap (λ l. kept_by l out old.history) shows.live ∙ ap (kept_by (term rows cols lines log).live out) shows.history
          ∙ sym (run-history (term rows cols lines log) out)
          ∙ sym (ap (λ (t : Terminal). t.history) (later rows cols lines log shows.reads));
    };
    gains = λ rows cols lines log shows. record {
      more = answers_after old.live out;
      answers =
          ap (λ (t : Terminal). t.answers) (later rows cols lines log shows.reads)
          ∙ run-answers (term rows cols lines log) out
          ∙ sym (ap (λ l. (term rows cols lines log).answers ++ answers_after l out) shows.live);
      queue = waiting;
    };
    marks = λ rows cols lines log shows. record { more = out; functions = gained log shows.reads; marks = marks };
  }

pub fed-none : (t : TermView) → Fed t t []
fed-none t = record {
  stands = λ rows cols lines log shows. subst (λ l. Stands t rows cols lines l) (sym (append-nil log)) shows;
  gains = λ rows cols lines log shows. record {
    more = [];
    answers = ap (reports rows cols lines) (append-nil log) ∙ sym (append-nil (reports rows cols lines log));
    queue = sym (append-nil t.waiting);
  };
  marks = λ rows cols lines log shows. record {
    more = [];
    functions = ap functions_of (append-nil log) ∙ sym (append-nil (functions_of log));
    marks = refl;
  };
}

together : (log : List Item) (xs ys : List ℕ) → (log ++ map Byte xs) ++ map Byte ys ≡ log ++ map Byte (xs ++ ys)
together log xs ys = append_assoc log (map Byte xs) (map Byte ys) ∙ sym (ap (λ l. log ++ l) (map-append Byte xs ys))

-- the live states of two terminals that model one log and a later one
live-after : (a b : TermView) (rows cols lines : ℕ) (log later : List Item) (fs : List Function) → Stands a rows cols lines log
    → Stands b rows cols lines later → functions_of later ≡ functions_of log ++ fs → b.live ≡ live_after a.live fs
unfolding term
live-after a b rows cols lines log later fs before after gained =
    after.live ∙ ap (λ gs. (run (started_terminal rows cols lines) gs).live) gained
    ∙ ap (λ (t : Terminal). t.live) (run-append (started_terminal rows cols lines) (functions_of log) fs)
    ∙ run-live (run (started_terminal rows cols lines) (functions_of log)) fs ∙ sym (ap (λ l. live_after l fs) before.live)

-- one piece after another
pub fed-then : (a b c : TermView) (xs ys : List ℕ) → Fed a b xs → Fed b c ys → Fed a c (xs ++ ys)
fed-then a b c xs ys p q = record {
  stands = λ rows cols lines log shows.
      subst (λ l. Stands c rows cols lines l) (together log xs ys) (q.stands rows cols lines (log ++ map Byte xs) (p.stands rows cols lines log shows));
  gains = λ rows cols lines log shows.
      let first = p.gains rows cols lines log shows in
      let second = q.gains rows cols lines (log ++ map Byte xs) (p.stands rows cols lines log shows) in
      record {
        more = first.more ++ second.more;
        answers =
            sym (ap (reports rows cols lines) (together log xs ys)) ∙ second.answers ∙ ap (λ l. l ++ second.more) first.answers
            ∙ append_assoc (reports rows cols lines log) first.more second.more;
        queue = second.queue ∙ ap (λ l. l ++ second.more) first.queue ∙ append_assoc a.waiting first.more second.more;
      };
  marks = λ rows cols lines log shows.
      let mid = p.stands rows cols lines log shows in
      let first = p.marks rows cols lines log shows in
      let second = q.marks rows cols lines (log ++ map Byte xs) mid in
      record {
        more = first.more ++ second.more;
        functions =
            sym (ap functions_of (together log xs ys)) ∙ second.functions ∙ ap (λ fs. fs ++ second.more) first.functions
            ∙ append_assoc (functions_of log) first.more second.more;
        marks =
            second.marks
            ∙ ap (λ l. marked_through l second.more b.marks) (live-after a b rows cols lines log (log ++ map Byte xs) first.more shows mid first.functions)
            ∙ ap (marked_through (live_after a.live first.more) second.more) first.marks
            ∙ sym (marked-append a.live first.more second.more a.marks);
      };
}
