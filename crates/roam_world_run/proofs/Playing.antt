-- The effect of a line on a script that is being played.
use Rattle.std.proofs.Common.{◌≡◌, ◌≢◌, ℕ, ◌+◌, List, [], ◌∷◌, ◌++◌, length, Option, Some, None, true, false, ◌⊎◌, inl, inr, refl, sym, ap, subst, ◌∙◌, arith, append_assoc, append-nil, length-append, add-zero, add-one, take, drop, get_or, ◌<◌}
use Rattle.std.proofs.KnownBytes.{Appends-nil, Appends-trans, Appends-kept, Consumes-trans, Keeps-refl}
use Rattle.std.proofs.lemmas.List.Concat.{flat_map-append}
use Rattle.std.proofs.lemmas.List.Elements.{All-append, All-push}
use Rattle.std.proofs.Math.Seq.{drop-cons}
use Rattle.std.proofs.lemmas.List.{take-append-drop, take_more}
use Rattle.std.specs.Io.KnownBytes.{Appends, Consumes, Keeps}
use Rattle.std.specs.Prelude.{Ok, Err, Result, IfOk, IfErr, IfNone, IfSome, IsErrAnd, codes}
use Rattle.std.specs.List.{All, flat_map}
use Rattle.roam_cells.specs.declared.faults.Fault.{Fault}
use Rattle.roam_cells.specs.declared.faults.Fault.TheVariants.{BadSize, OutOfMemory}
use Rattle.roam_layout.specs.Layouts.{IsSessionSize}
use Rattle.roam_session.specs.Sessions.{SessionSize}
use Rattle.roam_model.specs.Worlds.{Event, Reply}
use Rattle.roam_world_script.specs.Values.{LineValue, Session}
use Rattle.roam_world_script.specs.Skipped.{is_skipped}
use Rattle.roam_simulation.specs.Worlds.{WorldView, StandsFor}
use Rattle.roam_faults.specs.declared.faults.RunFault.{RunFault}
use Rattle.roam_faults.specs.declared.faults.RunFault.TheVariants as run
use Rattle.roam_world_run.specs.Asked.{asked_in}
use Rattle.roam_world_run.specs.Replies.{reply_line}
use Rattle.roam_world_run.specs.Scripts.{Stage, Before, Within, AnswersLine, BeginsWith, Ends, IsBadSession, IsEvent, IsReason, Plays, Prints, Stopped, event_in, is_in_place, size_of}
use Rattle.roam_faults.specs.Streams.{AreLines, IsOneLine, ended_line}
use Rattle.roam_world_run.specs.Scripts as script
use Rattle.roam_world_run.specs.Played.{Fails, Fed, HasAnswer, IsAt, HasPlayed}
use Rattle.roam_world_run.specs.Played as played

-- a question was answered
pub has_asked : (v : WorldView) (session : ℕ) (size : SessionSize) (es : List Event) (rs : List Reply) (l : LineValue) (answer : List ℕ)
    → (s : StandsFor v session size es rs) → asked_in s.world l ≡ Some answer → HasAnswer (Within session size es rs) l answer (Some v)
has_asked v session size es rs l answer s e = record {
  left = Within session size es rs;
  answers = script.asked session size es rs s.world refl s.reached e refl;
  at = s;
}

-- an event happened
pub has_happened : (v : WorldView) (session : ℕ) (size : SessionSize) (es : List Event) (rs : List Reply) (l : LineValue) (answer : List
    ℕ) (e : Event) (r : Reply)
    → event_in l ≡ Some e → answer ≡ reply_line r → StandsFor v session size (es ++ e ∷ []) (rs ++ r ∷ [])
    → HasAnswer (Within session size es rs) l answer (Some v)
has_happened v session size es rs l answer e r is text s = record {
  left = Within session size (es ++ e ∷ []) (rs ++ r ∷ []);
  answers = script.happens session size es rs e r s.world is refl s.reached text refl;
  at = s;
}

-- a session began
pub has_begun : (stage : Stage) (o : Option WorldView) (v : WorldView) (l : LineValue) (id rows cols : ℕ) (answer : List ℕ) → o ≡ None
    → l ≡ Session id rows cols → IsAt o stage
    → IsSessionSize rows cols → answer ≡ codes "ok\n" → StandsFor v id (size_of rows cols) [] [] → HasAnswer stage l answer (Some v)
has_begun Before o v l id rows cols answer none is at size text s = record {
  left = Within id (size_of rows cols) [] [];
  answers = script.begins id rows cols is refl size text refl;
  at = s;
}
has_begun (Within session size es rs) o v l id rows cols answer none is at fits text s = absurd (subst (λ (x : Option WorldView). IsAt x
    (Within session size es rs)) none at)

-- no session, no stage but the first
pub at_first : (P : Stage → Type 0) (o : Option WorldView) → o ≡ None → P Before → (stage : Stage) → IsAt o stage → P stage
at_first P o none p Before at = p
at_first P o none p (Within session size es rs) at = absurd (subst (λ (x : Option WorldView). IsAt x (Within session size es rs)) none at)

pub answered_first : {T : Type 0} (P : T → Stage → Type 0) (r : Result (Option T) Fault) (o : Option WorldView) → o ≡ None
    → IfOk r (λ x. IfSome x (λ t. P t Before)) → IfOk r (λ x. IfSome x (λ t. (stage : Stage) → IsAt o stage → P t stage))
answered_first P (Err fault) o none h = tt
answered_first P (Ok None) o none h = tt
answered_first P (Ok (Some t)) o none h = at_first (P t) o none h

pub misplaced_first : {T : Type 0} (r : Result (Option T) Fault) (o : Option WorldView) (l : LineValue) → o ≡ None
    → IfOk r (λ x. IfNone x (is_in_place Before l ≡ false))
    → IfOk r (λ x. IfNone x ((stage : Stage) → IsAt o stage → is_in_place stage l ≡ false))
misplaced_first (Err fault) o l none h = tt
misplaced_first (Ok (Some text)) o l none h = tt
misplaced_first (Ok None) o l none h = at_first (λ stage. is_in_place stage l ≡ false) o none h

pub refused_first : {T : Type 0} (A B : Fault → Type 0) (r : Result T Fault) (o : Option WorldView) (l : LineValue) → o ≡ None
    → IfErr r (λ fault. A fault ⊎ (B fault × IsBadSession Before l))
    → IfErr r (λ fault. A fault ⊎ (B fault × ((stage : Stage) → IsAt o stage → IsBadSession stage l)))
refused_first A B (Ok t) o l none h = tt
refused_first A B (Err fault) o l none (inl a) = inl a
refused_first A B (Err fault) o l none (inr (b, bad)) = inr (b, at_first (λ stage. IsBadSession stage l) o none bad)

-- out of place within a session
pub misplaced_at : {T : Type 0} (r : Result (Option T) Fault) (o : Option WorldView) (v : WorldView) (l : LineValue) → o ≡ Some v
    → IfOk r (λ x. IfNone x ((session : ℕ) (size : SessionSize) (es : List Event) (rs : List Reply)
    → is_in_place (Within session size es rs) l ≡ false))
    → IfOk r (λ x. IfNone x ((stage : Stage) → IsAt o stage → is_in_place stage l ≡ false))
misplaced_at (Err fault) o v l is h = tt
misplaced_at (Ok (Some text)) o v l is h = tt
misplaced_at (Ok None) o v l is h = within
  where
    within : (stage : Stage) → IsAt o stage → is_in_place stage l ≡ false
    within Before at = absurd (subst (λ (x : Option WorldView). IsAt x Before) is at)
    within (Within session size es rs) at = h session size es rs

-- ---- lines

pub told_skipped : (stage : Stage) (line : List ℕ) (known : Option (List ℕ)) (world : Option WorldView) → is_skipped line ≡ true
    → IsAt world stage → HasPlayed stage line known known world
told_skipped stage line known world is at = record {
  answer = [];
  left = stage;
  answers = script.skipped is refl refl;
  at = at;
  written =
      Appends-nil known;
}

pub told_said : (stage : Stage) (line : List ℕ) (l : LineValue) (answer : List ℕ) (before after : Option (List ℕ)) (world : Option
    WorldView) → IsEvent line l
    → HasAnswer stage l answer world → Appends before after answer → HasPlayed stage line before after world
told_said stage line l answer before after world is h written =
    record { answer = answer; left = h.left; answers = script.said l is h.answers; at = h.at; written = written }

pub fails_misplaced : (stage : Stage) (number : ℕ) (line : List ℕ) (l : LineValue) (known : Option (List ℕ)) → IsEvent line l
    → is_in_place stage l ≡ false
    → Fails stage number line known known (run.Event number)
fails_misplaced stage number line l known is out = played.ends (script.misplaced l is out refl) (Keeps-refl known)

pub fails_refused : {A : Type 0} (r : Result A RunFault) (old : Option WorldView) (number : ℕ) (line : List ℕ) (l : LineValue) (known :
    Option (List ℕ)) (fault : Fault)
    → IsErrAnd r (λ e. e ≡ run.Core fault) → IsEvent line l
    → (fault ≡ OutOfMemory) ⊎ ((fault ≡ BadSize) × ((stage : Stage) → IsAt old stage → IsBadSession stage l))
    → IfErr r (λ e. (stage : Stage) → IsAt old stage → Fails stage number line known known e)
fails_refused (Ok a) old number line l known fault is event why = absurd is
fails_refused (Err e) old number line l known fault is event (inl full) = λ stage at. played.no_memory (is
    ∙ ap run.Core full) (Keeps-refl known)
fails_refused (Err e) old number line l known fault is event (inr bad) = λ stage at. played.ends (script.refused l event (bad.1 stage at)
    (is ∙ ap run.Core bad.0)) (Keeps-refl known)

pub plays_append : (stage mid left : Stage) (xs ys : List (List ℕ)) (text more : List ℕ) → Plays stage xs text mid
    → Plays mid ys more left → Plays stage (xs ++ ys) (text ++ more) left
plays_append stage mid left [] ys text more p q =
    subst (λ (t : List ℕ). Plays stage ys (t ++ more) left) (sym p.0) (subst (λ (s : Stage). Plays s ys more left) p.1 q)
plays_append stage mid left (line ∷ xs) ys text more p q = (
  p.0,
  p.1,
  p.2 ++ more,
  p.3,
  plays_append p.1 mid left xs ys p.2 more p.4 q,
  ap (λ (t : List ℕ). t ++ more) p.5
      ∙ append_assoc p.0 p.2 more,
)

one_played : (stage : Stage) (line answer : List ℕ) (left : Stage) → AnswersLine stage line answer left
    → Plays stage (line ∷ []) answer left
one_played stage line answer left a = (answer, left, [], a, (refl, refl), sym (append-nil answer))

-- one more line was played
pub one_more : (stage mid : Stage) (lines : List (List ℕ)) (line text : List ℕ) (before between after : Option (List ℕ)) (world : Option
    WorldView) → Plays stage lines text mid
    → Appends before between text → (t : HasPlayed mid line between after world)
    → Plays stage (lines ++ line ∷ []) (text ++ t.answer) t.left × Appends before after (text ++ t.answer)
one_more stage mid lines line text before between after world p w t = (
  plays_append stage mid t.left lines (line ∷ []) text t.answer p (one_played mid line t.answer t.left t.answers),
  Appends-trans
      before between after text t.answer w t.written,
)

no_lines : All IsOneLine []
no_lines k d lt = absurd (omega (arith, lt))

pub fed_nothing : (stage : Stage) (old : List ℕ) (known : Option (List ℕ)) (world : Option WorldView) (number : ℕ) → IsAt world stage
    → IsOneLine old → Fed stage old [] old known known world number number
fed_nothing stage old known world number at one = record {
  lines = [];
  are = record { is = append-nil old; each = no_lines; last = one };
  left = stage;
  text = [];
  plays = (refl, refl);
  at = at;
  written = Appends-nil known;
  count = sym (add-zero number);
}

-- a byte that is no end
pub fed_byte : (stage : Stage) (old piece begun : List ℕ) (before after : Option (List ℕ)) (world : Option WorldView) (number counted
    byte : ℕ) → Fed stage old piece begun before after world number counted
    → byte ≢ 10 → Fed stage old (piece ++ byte ∷ []) (begun ++ byte ∷ []) before after world number counted
fed_byte stage old piece begun before after world number counted byte f other = record {
  lines = f.lines;
  are = record {
    is = sym (append_assoc old piece (byte ∷ [])) ∙ ap (λ (t : List ℕ). t ++ byte ∷ []) f.are.is
        ∙ append_assoc (flat_map ended_line f.lines) begun (byte ∷ []);
    each = f.are.each;
    last = All-push (λ (b : ℕ). b ≢ 10) begun byte f.are.last other;
  };
  left = f.left;
  text = f.text;
  plays = f.plays;
  at = f.at;
  written = f.written;
  count = f.count;
}

ends_line : (old piece begun : List ℕ) (lines : List (List ℕ)) → AreLines (old ++ piece) lines begun
    → AreLines (old ++ (piece ++ 10 ∷ [])) (lines ++ begun ∷ []) []
ends_line old piece begun lines a = record {
  is =
      sym (append_assoc old piece (10 ∷ []))
      ∙ ap (λ (t : List ℕ). t ++ 10 ∷ []) a.is
      ∙ append_assoc (flat_map ended_line lines) begun (10 ∷ [])
      ∙ ap (λ (t : List ℕ). flat_map ended_line lines ++ t) (sym (append-nil (ended_line begun)))
      ∙ sym (flat_map-append ended_line lines (begun ∷ []))
      ∙ sym (append-nil (flat_map ended_line (lines ++ begun ∷ [])));
  each = All-push IsOneLine lines begun a.each a.last;
  last = λ k d lt. absurd (omega (arith, lt));
}

-- the end of a line
pub fed_line : (stage : Stage) (old piece begun : List ℕ) (before between after : Option (List ℕ)) (world world' : Option WorldView)
    (number counted : ℕ)
    → (f : Fed stage old piece begun before between world number counted) → HasPlayed f.left begun between after world'
    → Fed stage old (piece ++ 10 ∷ []) [] before after world' number (counted + 1)
fed_line stage old piece begun before between after world world' number counted f t =
    let more = one_more stage f.left f.lines begun f.text before between after world' f.plays f.written t in
    record {
      lines = f.lines ++ begun ∷ [];
      are = ends_line old piece begun f.lines f.are;
      left = t.left;
      text = f.text ++ t.answer;
      plays = more.0;
      at = t.at;
      written = more.1;
      count = omega (arith, f.count, length-append f.lines (begun ∷ []));
    }

-- ---- runs that end before their time

module _ (stage : Stage) (old piece begun more : List ℕ) (before between : Option (List ℕ)) (world : Option WorldView) (number counted : ℕ)
    (f : Fed stage old piece begun before between world number counted) where
  -- for a reason that the rest gives
  pub stopped : (after : Option (List ℕ)) (fault : RunFault) → Keeps between after
      → IsReason f.left (number + length f.lines + 1) (begun ++ more) fault
      → Stopped stage (old ++ (piece ++ more)) before after number fault
  stopped after fault keeps why = record {
    lines = f.lines;
    rest = begun ++ more;
    is = sym (append_assoc old piece more) ∙ ap (λ (t : List ℕ). t ++ more) f.are.is ∙ append_assoc (flat_map ended_line f.lines) begun more;
    each = f.are.each;
    left = f.left;
    text = f.text;
    plays = f.plays;
    written = Appends-kept before between after f.text f.written keeps;
    why = why;
  }

  -- at a line that wasn't played
  pub stopped_at : (after : Option (List ℕ)) (fault : RunFault) → BeginsWith begun (begun ++ more)
      → Fails f.left (counted + 1) begun between after fault
      → (fault ≡ run.Write) ⊎ Stopped stage (old ++ (piece ++ more)) before after number fault
  stopped_at after fault begins (played.unwritten e) = inl e
  stopped_at after fault begins (played.no_memory e keeps) = inr (stopped after fault keeps (script.no_memory e))
  stopped_at after fault begins (played.ends e keeps) =
      let same : counted + 1 ≡ number + length f.lines + 1 = omega (arith, f.count) in
      inr (stopped after fault keeps (script.ends begun f.are.last begins (subst (λ (n : ℕ). Ends f.left n begun fault) same e)))

-- one piece after another
pub fed_more : (stage : Stage) (log begun piece new : List ℕ) (before between after : Option (List ℕ)) (world world' : Option WorldView)
    (number counted last : ℕ)
    → (f : Fed stage [] log begun before between world number counted) → Fed f.left begun piece new between after world' counted last
    → Fed stage [] (log ++ piece) new before after world' number last
fed_more stage log begun piece new before between after world world' number counted last f g = record {
  lines = f.lines ++ g.lines;
  are = record {
    is =
        ap (λ (t : List ℕ). t ++ piece) f.are.is
        ∙ append_assoc (flat_map ended_line f.lines) begun piece
        ∙ ap (λ (t : List ℕ). flat_map ended_line f.lines ++ t) g.are.is
        ∙ sym (append_assoc (flat_map ended_line f.lines) (flat_map ended_line g.lines) new)
        ∙ ap (λ (t : List ℕ). t ++ new) (sym (flat_map-append ended_line f.lines g.lines));
    each = All-append IsOneLine f.lines g.lines f.are.each g.are.each;
    last = g.are.last;
  };
  left = g.left;
  text = f.text ++ g.text;
  plays = plays_append stage f.left g.left f.lines g.lines f.text g.text f.plays g.plays;
  at = g.at;
  written = Appends-trans before between after f.text g.text f.written g.written;
  count = omega (arith, f.count, g.count, length-append f.lines g.lines);
}

-- a run that stops in a piece stops in all that was read
pub stopped_more : (stage : Stage) (log begun piece : List ℕ) (before between after : Option (List ℕ)) (world : Option WorldView) (number
    counted : ℕ) (fault : RunFault)
    → (f : Fed stage [] log begun before between world number counted) → Stopped f.left (begun ++ piece) between after counted fault
    → Stopped stage (log ++ piece) before after number fault
stopped_more stage log begun piece before between after world number counted fault f s = record {
  lines = f.lines ++ s.lines;
  rest = s.rest;
  is =
      ap (λ (t : List ℕ). t ++ piece) f.are.is
      ∙ append_assoc (flat_map ended_line f.lines) begun piece
      ∙ ap (λ (t : List ℕ). flat_map ended_line f.lines ++ t) s.is
      ∙ sym (append_assoc (flat_map ended_line f.lines) (flat_map ended_line s.lines) s.rest)
      ∙ ap (λ (t : List ℕ). t ++ s.rest) (sym (flat_map-append ended_line f.lines s.lines));
  each = All-append IsOneLine f.lines s.lines f.are.each s.each;
  left = s.left;
  text = f.text ++ s.text;
  plays = plays_append stage f.left s.left f.lines s.lines f.text s.text f.plays s.plays;
  written = Appends-trans before between after f.text s.text f.written s.written;
  why =
      let same : counted + length s.lines + 1 ≡ number + length (f.lines ++ s.lines) + 1 = omega (
        arith,
        f.count,
        length-append f.lines
            s.lines,
      ) in
      subst (λ (n : ℕ). IsReason s.left n s.rest fault) same s.why;
}

-- ---- what calls answer

-- a fault that is passed on
pub passed : {A : Type 0} (r : Result A RunFault) (e : RunFault) (P : RunFault → Type 0) → IsErrAnd r (λ x. x ≡ e) → P e → IfErr r P
passed (Ok a) e P is p = absurd is
passed (Err x) e P is p = subst P (sym is) p

pub if_err_then : {A : Type 0} (r : Result A RunFault) (P Q : RunFault → Type 0) → IfErr r P → ((e : RunFault) → P e → Q e) → IfErr r Q
if_err_then (Ok a) P Q h f = tt
if_err_then (Err e) P Q h f = f e h

pub fed_as : (stage : Stage) (old piece piece' new new' : List ℕ) (before after : Option (List ℕ)) (world : Option WorldView) (number
    counted counted' : ℕ) → piece ≡ piece' → new ≡ new'
    → counted ≡ counted' → Fed stage old piece new before after world number counted
    → Fed stage old piece' new' before after world number counted'
fed_as stage old piece piece' new new' before after world number counted counted' p n c f =
    subst (λ (x : List ℕ). Fed stage old x new' before after world number counted') p
    (subst (λ (x : List ℕ). Fed stage old piece x before after world number counted') n
    (subst (λ (x : ℕ). Fed stage old piece new before after world number x) c f))

-- a list is cut at a place
pub cut_at : (xs : List ℕ) (i b : ℕ) → i < length xs → get_or xs i 0 ≡ b → take i xs ++ b ∷ drop (i + 1) xs ≡ xs
cut_at xs i b lt is =
    sym (sym (take-append-drop i xs) ∙ ap (λ (t : List ℕ). take i xs ++ t) (drop-cons xs i 0 lt
    ∙ (λ k. is k ∷ drop (sym (add-one i) k) xs)))

pub more_at : (xs : List ℕ) (i b : ℕ) → i < length xs → get_or xs i 0 ≡ b → take i xs ++ b ∷ [] ≡ take (i + 1) xs
more_at xs i b lt is = sym (take_more xs i 0 lt ∙ ap (λ (x : ℕ). take i xs ++ x ∷ []) is)

pub no_bytes : IsOneLine []
no_bytes k d lt = absurd (omega (arith, lt))

-- a line that was begun and has its end
pub has_end : (begun more : List ℕ) → BeginsWith begun (begun ++ 10 ∷ more)
has_end begun more = script.whole more (sym (append_assoc begun (10 ∷ []) more))

-- ---- at the end of the bytes read

module _ (log begun : List ℕ) (before between : Option (List ℕ)) (world : Option WorldView) (counted : ℕ) (f : Fed Before [] log begun
    before between world 0 counted) where
  pub stopped_unread : Stopped Before log before between 0 run.Read
  stopped_unread = record {
    lines = f.lines;
    rest = begun;
    is = f.are.is;
    each = f.are.each;
    left = f.left;
    text = f.text;
    plays = f.plays;
    written = f.written;
    why = script.unread refl;
  }

  pub prints_all : (after : Option (List ℕ)) (world' : Option WorldView) → HasPlayed f.left begun between after world' → Prints before after log
  prints_all after world' t =
      let more = one_more Before f.left f.lines begun f.text before between after world' f.plays f.written t in
      record { lines = f.lines; last = begun; are = f.are; left = t.left; text = f.text ++ t.answer; plays = more.0; written = more.1 }

  pub stopped_last : (after : Option (List ℕ)) (fault : RunFault) → Fails f.left (counted + 1) begun between after fault
      → (fault ≡ run.Write) ⊎ Stopped Before log before after 0 fault
  stopped_last after fault h =
      subst (λ (t : List ℕ). (fault ≡ run.Write) ⊎ Stopped Before t before after 0 fault) (append-nil log)
      (stopped_at Before [] log begun [] before between world 0 counted f after fault (script.last (append-nil begun)) h)

  pub stopped_in : (piece : List ℕ) (after old new : Option (List ℕ)) (fault : RunFault)
      → (fault ≡ run.Write) ⊎ Stopped f.left (begun ++ piece) between after counted fault
      → Consumes old new (log ++ piece) → (fault ≡ run.Write) ⊎ ((read : List ℕ) × Consumes old new read × Stopped Before read before
      after 0 fault)
  stopped_in piece after old new fault (inl e) c = inl e
  stopped_in piece after old new fault (inr s) c = inr (
    log ++ piece,
    c,
    stopped_more Before log begun piece before between after world 0
        counted fault f s,
  )

pub with_log : (log : List ℕ) (old new before after : Option (List ℕ)) (fault : RunFault) → Consumes old new log
    → (fault ≡ run.Write) ⊎ Stopped Before log before after 0 fault
    → (fault ≡ run.Write) ⊎ ((read : List ℕ) × Consumes old new read × Stopped Before read before after 0 fault)
with_log log old new before after fault c (inl e) = inl e
with_log log old new before after fault c (inr s) = inr (log, c, s)

-- a read of nothing
pub consumes_nothing : (a b c : Option (List ℕ)) (log buf : List ℕ) (n : ℕ) → n ≡ 0 → Consumes a b log → Consumes b c (take n buf)
    → Consumes a c log
consumes_nothing a b c log buf n zero p q =
    let none : take n buf ≡ [] = ap (λ (k : ℕ). take k buf) zero in
    subst (Consumes a c) (ap (λ (t : List ℕ). log ++ t) none ∙ append-nil log) (Consumes-trans a b c log (take n buf) p q)
