use Rattle.std.proofs.Common.{◌≡◌, ◌≤◌, ℕ, length}
use Rattle.shared_log.specs.Records.{in_block}
use Rattle.shared_log.proofs.records.Block.widen.Given as goal

-- the places have what they had, and there are as many as were counted
abbrev pub invariant-loop : goal.invariant-loop
invariant-loop l = ((at : ℕ) → in_block l.self-inside.places.items at ≡ in_block l.fn.self at)
    × (l.counter ≤ length l.self-inside.places.items)
