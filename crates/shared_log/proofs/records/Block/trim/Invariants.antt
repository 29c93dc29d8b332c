use Rattle.std.proofs.Common.{◌≡◌, ℕ}
use Rattle.shared_log.specs.Records.{in_block}
use Rattle.shared_log.proofs.records.Block.trim.Given as goal

-- the places have what they had
abbrev pub invariant-loop : goal.invariant-loop
invariant-loop l = (at : ℕ) → in_block l.self at ≡ in_block l.fn.self at
