use Rattle.std.proofs.Common.{◌≡◌, ◌<◌, ℕ, false, ◌&&◌, cond, leb, sym, ap, arith, rules}
use Rattle.std.proofs.lemmas.Grind.{common_steps}
use Rattle.roam_charset.specs.Charsets.{character_of, mapped_by}
use Rattle.roam_charset.specs.declared.charsets.Charset.{Charset}
use Rattle.roam_charset.proofs.sets.Sets.map.Goals as goal

-- no set has a character past 7/14
past : (set : Charset) (c : ℕ) → 0x7E < c → c ≡ mapped_by set c
unfolding mapped_by
past set c high =
    let out : (leb 0x21 c && leb c 0x7E) ≡ false = grind (arith, common_steps) in
    sym (ap (λ b. cond b (character_of set c) c) out)

pub returns-then-c-gt126-clause-mapped : goal.returns-then-c-gt126-clause-mapped
returns-then-c-gt126-clause-mapped c = past _ c.args.c c.if-c-gt126.true

pub returns-then-c-gt126-clause-spent : goal.returns-then-c-gt126-clause-spent
returns-then-c-gt126-clause-spent c = search rules
