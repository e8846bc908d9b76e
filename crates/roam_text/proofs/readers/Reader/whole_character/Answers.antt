use Rattle.std.proofs.Common.{◌≡◌, ◌<◌, ◌≤◌, ℕ, Some, length, take, map, refl, sym, subst, ◌∙◌, arith}
use Rattle.bstr.specs.Utf8.{decoded}
use Rattle.roam_text.specs.Log.{Byte}
use Rattle.roam_text.specs.Functions.{functions_of}
use Rattle.roam_text.specs.Stands.{Stands}
use Rattle.std.specs.Prelude.{◌++◌, ◌∷◌, []}
use Rattle.roam_text.specs.declared.functions.Function.TheVariants.{Print}
use Rattle.roam_text.proofs.Bytes.{some-bytes, size-within}
use Rattle.roam_text.proofs.Logs.{whole-stands, whole-gained}
use Rattle.roam_text.proofs.readers.Reader.whole_character.Goals as goal

pub returns-else-c-lt160-clause-within : goal.returns-else-c-lt160-clause-within
returns-else-c-lt160-clause-within c =
    let piece = c.args.piece.now in
    let found : (decoded piece).char ≡ Some c.in-Some.c = sym c.decode_first-found.ensures.char ∙ c.in-Some.is in
    subst (λ (n : ℕ). (0 < n) × (n ≤ length piece)) (sym c.decode_first-found.ensures.size) (size-within piece (some-bytes piece c.in-Some.c found))

pub returns-else-c-lt160-clause-stands : goal.returns-else-c-lt160-clause-stands
returns-else-c-lt160-clause-stands c log stands =
    let piece = c.args.piece.now in
    let view = c.args.self.now in
    let found : (decoded piece).char ≡ Some c.in-Some.c = sym c.decode_first-found.ensures.char ∙ c.in-Some.is in
    let rest = c.if-not-is_at_rest.ensures in
    subst (λ (n : ℕ). Stands view (log ++ map Byte (take n piece))) (sym c.decode_first-found.ensures.size)
    (whole-stands view (rest.phase refl) (rest.pending refl) piece c.in-Some.c found (some-bytes piece c.in-Some.c found) (omega (arith, c.if-c-lt160.false)) log stands)

pub returns-else-c-lt160-clause-gained : goal.returns-else-c-lt160-clause-gained
returns-else-c-lt160-clause-gained c log stands =
    let piece = c.args.piece.now in
    let view = c.args.self.now in
    let found : (decoded piece).char ≡ Some c.in-Some.c = sym c.decode_first-found.ensures.char ∙ c.in-Some.is in
    let rest = c.if-not-is_at_rest.ensures in
    subst (λ (n : ℕ). functions_of (log ++ map Byte (take n piece)) ≡ functions_of log ++ Print c.in-Some.c ∷ []) (sym c.decode_first-found.ensures.size)
    (whole-gained view (rest.phase refl) (rest.pending refl) piece c.in-Some.c found (some-bytes piece c.in-Some.c found) (omega (arith, c.if-c-lt160.false)) log stands)
