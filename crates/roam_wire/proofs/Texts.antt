-- Instructions: bytes are the text of the numbers in them.
use Rattle.std.proofs.Common.{◌≡◌, ℕ, ◌≤◌, List, [], ◌∷◌, ◌++◌, length, drop, refl, sym, ap, ◌∙◌, arith}
use Rattle.std.proofs.lemmas.List.Elements.{recursion_from_All}
use Rattle.byteorder.specs.Endian.{big_bytes, big_number}
use Rattle.byteorder.specs.Numbers.{big_number-reads_back}
use Rattle.roam_acts.specs.Acts.{IsAct}
use Rattle.roam_acts.specs.Bytes.{acts_text}
use Rattle.roam_acts.specs.declared.acts.Act.{Act}
use Rattle.roam_acts.proofs.Fields.{IsBytes}
use Rattle.roam_acts.proofs.Texts.{one_list}
use Rattle.roam_wire.specs.Instructions.{DownValue, IsDown, down_text, IsUp, UpValue, up_text}
use Rattle.roam_wire.proofs.Numbers.{number, back_8, back_2}

down_takes : (bytes : List ℕ) → 32 ≤ length bytes → IsBytes bytes
    → bytes ≡ down_text (record { old = big_number 8 bytes; new = big_number 8 (drop 8 bytes); floor = big_number 8 (drop 16 bytes); acked = big_number 8 (drop 24 bytes); change = drop 32 bytes })
down_takes bytes long fits =
    number 8 0 bytes back_8 (omega arith) fits
    ∙ ap (λ (t : List ℕ). big_bytes 8 (big_number 8 bytes) ++ t) (number 8 8 bytes back_8 (omega arith) fits
    ∙ ap (λ (t : List ℕ). big_bytes 8 (big_number 8 (drop 8 bytes)) ++ t) (number 8 16 bytes back_8 (omega arith) fits
    ∙ ap (λ (t : List ℕ). big_bytes 8 (big_number 8 (drop 16 bytes)) ++ t) (number 8 24 bytes back_8 (omega arith) fits)))

-- bytes are the text of the numbers that were read of them
pub down_read : (bytes change : List ℕ) (old new floor acked : ℕ) → 32 ≤ length bytes → IsBytes bytes
    → old ≡ big_number 8 bytes → new ≡ big_number 8 (drop 8 bytes) → floor ≡ big_number 8 (drop 16 bytes) → acked ≡ big_number 8 (drop 24 bytes) → change ≡ drop 32 bytes
    → bytes ≡ down_text (record { old = old; new = new; floor = floor; acked = acked; change = change })
down_read bytes change old new floor acked long fits o n f a c =
    down_takes bytes long fits ∙ (λ i. down_text (record { old = sym o i; new = sym n i; floor = sym f i; acked = sym a i; change = sym c i }))

pub up_read : (bytes : List ℕ) (acts : List Act) (acked first : ℕ) → 18 ≤ length bytes → IsBytes bytes
    → acked ≡ big_number 8 bytes → first ≡ big_number 8 (drop 8 bytes) → length acts ≡ big_number 2 (drop 16 bytes) → drop 18 bytes ≡ acts_text acts
    → bytes ≡ up_text (record { acked = acked; first = first; acts = acts })
up_read bytes acts acked first long fits a f n t =
    number 8 0 bytes back_8 (omega arith) fits
    ∙ (λ i. big_bytes 8 (sym a i) ++ (number 8 8 bytes back_8 (omega arith) fits
    ∙ (λ j. big_bytes 8 (sym f j) ++ (number 2 16 bytes back_2 (omega arith) fits
    ∙ (λ k. big_bytes 2 (sym n k) ++ t k)) j)) i)

pub no_acts : (acts : List Act) → length acts ≡ 0 → acts ≡ []
no_acts [] none = refl
no_acts (a ∷ acts) none = absurd (omega (arith, none))

-- two instructions to the server with one text are one
pub one_up : (u v : UpValue) → IsUp u → IsUp v → up_text u ≡ up_text v → u ≡ v
one_up u v p q e =
    let acked : u.acked ≡ v.acked =
    sym (big_number-reads_back 8 u.acked (drop 8 (up_text u)) (omega (arith, p.acked)))
    ∙ ap (big_number 8) e
    ∙ big_number-reads_back 8 v.acked (drop 8 (up_text v)) (omega (arith, q.acked)) in
    let first : u.first ≡ v.first =
    sym (big_number-reads_back 8 u.first (drop 16 (up_text u)) (omega (arith, p.first.1)))
    ∙ ap (λ (t : List ℕ). big_number 8 (drop 8 t)) e
    ∙ big_number-reads_back 8 v.first (drop 16 (up_text v)) (omega (arith, q.first.1)) in
    let texts : acts_text u.acts ≡ acts_text v.acts = ap (λ (t : List ℕ). drop 18 t) e in
    let acts = one_list u.acts v.acts (recursion_from_All IsAct u.acts p.acts) (recursion_from_All IsAct v.acts q.acts) texts in
    λ i. record { acked = acked i; first = first i; acts = acts i }

-- the first number of its text
pub old_there : (u : DownValue) → IsDown u → big_number 8 (down_text u) ≡ u.old
old_there u is = big_number-reads_back 8 u.old (drop 8 (down_text u)) (omega (arith, is.old, is.new))

-- the second number of its text
pub new_there : (u : DownValue) → IsDown u → big_number 8 (drop 8 (down_text u)) ≡ u.new
new_there u is = big_number-reads_back 8 u.new (drop 16 (down_text u)) (omega (arith, is.new))

-- two instructions to a client with one text are one
pub one_down : (d e : DownValue) → IsDown d → IsDown e → down_text d ≡ down_text e → d ≡ e
one_down d e p q t =
    let old : d.old ≡ e.old = sym (old_there d p) ∙ ap (big_number 8) t ∙ old_there e q in
    let new : d.new ≡ e.new = sym (new_there d p) ∙ ap (λ (x : List ℕ). big_number 8 (drop 8 x)) t ∙ new_there e q in
    let floor : d.floor ≡ e.floor =
    sym (big_number-reads_back 8 d.floor (drop 24 (down_text d)) (omega (arith, p.floor, p.old, p.new)))
    ∙ ap (λ (x : List ℕ). big_number 8 (drop 16 x)) t
    ∙ big_number-reads_back 8 e.floor (drop 24 (down_text e)) (omega (arith, q.floor, q.old, q.new)) in
    let acked : d.acked ≡ e.acked =
    sym (big_number-reads_back 8 d.acked (drop 32 (down_text d)) (omega (arith, p.acked)))
    ∙ ap (λ (x : List ℕ). big_number 8 (drop 24 x)) t
    ∙ big_number-reads_back 8 e.acked (drop 32 (down_text e)) (omega (arith, q.acked)) in
    let change : d.change ≡ e.change = ap (λ (x : List ℕ). drop 32 x) t in
    λ i. record { old = old i; new = new i; floor = floor i; acked = acked i; change = change i }
