-- The bytes read from a stream and written to it, piece by piece.
use Rattle.std.proofs.Common.{◌≡◌, ℕ, ◌+◌, Bool, true, false, List, [], ◌∷◌, ◌++◌, length, ◌<◌, ◌≤◌, take, drop, Option, Some, None, inl, inr, sym, ap, ◌∙◌, refl, append_assoc, append-nil, subst, arith, rules}
use Rattle.std.specs.Prelude.{◌⊎◌, IsErr, IsOk, Ok, Err}
use Rattle.std.proofs.KnownBytes.{Appends-kept, Appends-nil, Appends-trans, Consumes-nil, Consumes-trans}
use Rattle.std.proofs.lemmas.List.{drop-drop, drop-take, take-append-drop}
use Rattle.std.proofs.lemmas.Grind.{common_steps}
use Rattle.std.specs.Io.KnownBytes.{Appends, Consumes, Keeps}
use Rattle.std.proofs.lemmas.Bool.Decides.{nat_tests}
use Rattle.roam_stream_framing.specs.Carriers.{Came, HasReadAll, IsGiven, Receives, Writes}
use Rattle.roam_stream_framing.specs.Frames.{front_of}
use Rattle.roam_stream_framing.specs.declared.frames.Front.TheVariants.{Part}
use Rattle.roam_stream_framing.specs.Streams.{Answer, Answered, Asks, HasAnswered, HasStopped}

pub kept_none : (known : Option (List ℕ)) (old : List ℕ) → Came known known old old
kept_none known old = record { bytes = []; consumed = Consumes-nil known; kept = sym (append-nil old) }

pub kept_more : (before mid after : Option (List ℕ)) (old came new bytes : List ℕ) → Came before mid old came
    → Consumes mid after bytes → new ≡ came ++ bytes → Came before after old new
kept_more before mid after old came new bytes kept consumed is = record {
  bytes = kept.bytes ++ bytes;
  consumed = Consumes-trans before mid after kept.bytes bytes kept.consumed consumed;
  kept = is ∙ ap (λ t. t ++ bytes) kept.kept ∙ append_assoc old kept.bytes bytes;
}

take_shorter : (a b : ℕ) (xs : List ℕ) → take a (take (a + b) xs) ≡ take a xs
take_shorter a b xs = grind (arith, common_steps)

take_more : (a b : ℕ) (xs : List ℕ) → take a xs ++ take b (drop a xs) ≡ take (a + b) xs
take_more a b xs = sym (sym (take-append-drop a (take (a + b) xs)) ∙ ap (λ t. take a (take (a + b) xs) ++ t) (drop-take a b xs)
    ∙ ap (λ t. t ++ take b (drop a xs)) (take_shorter a b xs))

pub writes_none : (before after : Option (List ℕ)) (old : List ℕ) → Keeps before after → Writes before after old old
writes_none before after old keeps = record { count = 0; written = Appends-kept before before after [] (Appends-nil before) keeps; left = refl }

pub writes_more : (before mid after : Option (List ℕ)) (old came new : List ℕ) → Writes before mid old came → Writes mid after came new → Writes before after old new
writes_more before mid after old came new first later = record {
  count = first.count + later.count;
  written = subst (Appends before after) (ap (λ t. take first.count old ++ take later.count t) first.left ∙ take_more first.count later.count old)
      (Appends-trans before mid after (take first.count old) (take later.count came) first.written later.written);
  left = later.left ∙ ap (λ t. drop later.count t) first.left ∙ drop-drop later.count first.count old;
}

-- ---- the calls, one after another

answered_more : (before mid after : Option (List Answer)) (first later : List Answer) → Answered before mid first → Answered mid after later
    → Answered before after (first ++ later)
answered_more None mid after first later p q = tt
answered_more (Some before) None after first later p q = absurd p
answered_more (Some before) (Some mid) None first later p q = absurd q
answered_more (Some before) (Some mid) (Some after) first later p q =
    p ∙ ap (λ t. first ++ t) q ∙ sym (append_assoc first later after)

answered_none : (known : Option (List Answer)) → Answered known known []
answered_none None = tt
answered_none (Some answers) = refl

pub asks_none : (Ends : Answer → Type 0) (known : Option (List Answer)) (over : Bool) → Asks Ends known known over over
asks_none Ends known over = record { answers = []; answered = answered_none known; stays = λ h. h; over = λ h. inl h }

pub asks_one : (Ends : Answer → Type 0) (before after : Option (List Answer)) (was is : Bool) (answer : Answer) → Answered before after (answer ∷ [])
    → (was ≡ true → is ≡ true) → (is ≡ true → (was ≡ true) ⊎ Ends answer) → Asks Ends before after was is
asks_one Ends before after was is answer answered stays over = record {
  answers = answer ∷ [];
  answered = answered;
  stays = stays;
  over = λ h. elim (over h) [
    | inl before ↦ inl before
    | inr ends ↦ inr (record { earlier = []; answer = answer; later = []; answered = answered; ends = ends })
  ];
}

-- an answer stays among those that were given
pub has_more : (Ends : Answer → Type 0) (before mid after : Option (List Answer)) (first : List Answer) → Answered before mid first
    → HasAnswered Ends mid after → HasAnswered Ends before after
has_more Ends before mid after first p by = record {
  earlier = first ++ by.earlier;
  answer = by.answer;
  later = by.later;
  answered = subst (Answered before after) (sym (append_assoc first by.earlier (by.answer ∷ by.later)))
      (answered_more before mid after first (by.earlier ++ by.answer ∷ by.later) p by.answered);
  ends = by.ends;
}

pub has_one : (Ends : Answer → Type 0) (before after : Option (List Answer)) (answer : Answer) → Answered before after (answer ∷ []) → Ends answer
    → HasAnswered Ends before after
has_one Ends before after answer answered ends = record { earlier = []; answer = answer; later = []; answered = answered; ends = ends }

pub stopped_more : (over : Bool) (waiting : List ℕ) (before mid after : Option (List Answer)) (first : List Answer) → Answered before mid first
    → HasStopped over waiting mid after → HasStopped over waiting before after
stopped_more over waiting before mid after first p stopped = elim stopped [
  | inl none ↦ inl none
  | inr other ↦ inr (elim other [ inl is ↦ inl is | inr by ↦ inr (has_more IsErr before mid after first p by) ])
]

-- one that isn't over wasn't
pub open_before : (was is : Bool) → (was ≡ true → is ≡ true) → is ≡ false → was ≡ false
open_before false is stays h = refl
open_before true is stays h = let over = stays refl in cc

pub was_open : (Ends : Answer → Type 0) (before after : Option (List Answer)) (was is : Bool) → Asks Ends before after was is → is ≡ false → was ≡ false
was_open Ends before after was is asks h = open_before was is asks.stays h

pub came_more : (Ends : Answer → Type 0) (before mid after : Option (List ℕ)) (asked answered : Option (List Answer)) (had is : Bool)
    (old came new : List ℕ) → Asks Ends asked answered had is → (had ≡ false → Came before mid old came)
    → (is ≡ false → Came mid after came new) → is ≡ false → Came before after old new
came_more Ends before mid after asked answered had is old came new asks first later h =
    let p = first (was_open Ends asked answered had is asks h) in
    let q = later h in
    kept_more before mid after old came new q.bytes p q.consumed q.kept

-- a datagram that arrived is given
pub received : (before after : Option (List ℕ)) (old came new : List ℕ) (result : Option ℕ) (buf : List ℕ) → Came before after old came
    → IsGiven came new result buf → Receives before after old new result buf
received before after old came new result buf p given =
    record { bytes = p.bytes; consumed = p.consumed; given = subst (λ t. IsGiven t new result buf) p.kept given }

pub asks_more : (Ends : Answer → Type 0) (before mid after : Option (List Answer)) (was had is : Bool) → Asks Ends before mid was had
    → Asks Ends mid after had is → Asks Ends before after was is
asks_more Ends before mid after was had is p q = record {
  answers = p.answers ++ q.answers;
  answered = answered_more before mid after p.answers q.answers p.answered q.answered;
  stays = λ h. q.stays (p.stays h);
  over = λ h. elim (q.over h) [
    | inl had ↦ elim (p.over had) [
      | inl was ↦ inl was
      | inr by ↦ inr (record {
        earlier = by.earlier;
        answer = by.answer;
        later = by.later ++ q.answers;
        answered = subst (Answered before after) (append_assoc by.earlier (by.answer ∷ by.later) q.answers)
            (answered_more before mid after (by.earlier ++ by.answer ∷ by.later) q.answers by.answered q.answered);
        ends = by.ends;
      })
    ]
    | inr by ↦ inr (record {
      earlier = p.answers ++ by.earlier;
      answer = by.answer;
      later = by.later;
      answered = subst (Answered before after) (sym (append_assoc p.answers by.earlier (by.answer ∷ by.later)))
          (answered_more before mid after p.answers (by.earlier ++ by.answer ∷ by.later) p.answered by.answered);
      ends = by.ends;
    })
  ];
}

-- ---- until no more comes

one_more : (k n : ℕ) → k < n → k + 1 ≤ n
one_more k n lt = omega arith

-- so many bytes are more than a datagram and its length
pub long_is_no_part : (kept : List ℕ) → 1244 ≤ length kept → front_of kept ≡ Part → ⊥
long_is_no_part kept long part = grind (arith, nat_tests)

pub all_read_more : (over : Bool) (kept : List ℕ) (before mid after : Option (List Answer)) (first : List Answer) → Answered before mid first
    → HasReadAll over kept mid after → HasReadAll over kept before after
all_read_more over kept before mid after first p stopped = elim stopped [
  | inl is ↦ inl is
  | inr other ↦ inr (elim other [ inl whole ↦ inl whole | inr by ↦ inr (has_more IsErr before mid after first p by) ])
]

-- an answer that brought nothing to keep has ended the stream, or is a failure
pub stopped_by : (over result : Bool) (before after : Option (List Answer)) (answer : Answer) → Answered before after (answer ∷ [])
    → (IsOk answer × (result ≡ false) → over ≡ true) → result ≡ false → (over ≡ true) ⊎ HasAnswered IsErr before after
stopped_by over result before after (Ok n) answered lost none = inl (lost (search rules, none))
stopped_by over result before after (Err error) answered lost none = inr (has_one IsErr before after (Err error) answered (search rules))
