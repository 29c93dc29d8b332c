use Rattle.std.proofs.Common.{◌≡◌, ◌+◌, ◌*◌, ◌%◌, ◌∙◌, ℕ, ap, drop, get_or, sym, rules}
use Rattle.std.proofs.Math.Nat.{add-mod}
use Rattle.std.proofs.lemmas.List.{drop_more}
use Rattle.std.proofs.lemmas.Nat.{mul-mod_first}
use Rattle.dealing.specs.Dealing.{mixed}
use Rattle.shards.proofs.deal.mix.Goals as goal

-- a remainder goes on as the number does
goes_on : (before folded byte : ℕ) → folded % 65521 ≡ before % 65521
    → (folded * 31 + byte) % 65521 ≡ (before % 65521 * 31 + byte) % 65521
goes_on before folded byte same =
    add-mod (folded * 31) byte 65521
    ∙ ap (λ n. (n + byte % 65521) % 65521) (sym (mul-mod_first folded 31 65521) ∙ ap (λ n. (n * 31) % 65521) same)
    ∙ sym (add-mod (before % 65521 * 31) byte 65521)

pub loop-byte-preserved : goal.loop-byte-preserved
loop-byte-preserved c =
    ap (λ b. mixed ((c.folded.result * 31 + b) % 65521) (drop (c.loop-byte.byte-index + 1) c.args.bytes.now))
    c.from.ensures
    ∙ ap (λ n. mixed n (drop (c.loop-byte.byte-index + 1) c.args.bytes.now))
    (goes_on c.loop-byte.mixed c.folded.result (get_or c.args.bytes.now c.loop-byte.byte-index 0)
    c.folded.ensures.same)
    ∙ ap (mixed (c.loop-byte.mixed % 65521)) (sym (drop_more c.args.bytes.now c.loop-byte.byte-index 0 (search rules)))
    ∙ c.loop-byte.invariant
