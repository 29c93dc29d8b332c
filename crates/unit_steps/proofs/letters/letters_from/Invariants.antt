use Rattle.std.proofs.Common.{◌≡◌, ◌+◌, ◌++◌, ◌<◌, ◌^◌, ℕ, length, nat_lt, drop}
use Rattle.std.specs.List.{filter}
use Rattle.session.specs.Counts.{sent_to}
use Rattle.compact.specs.Steps.{letters_by}
use Rattle.unit_steps.proofs.letters.letters_from.Given as goal

-- the letters made, with those of the sends that are left, are all; and there is room for those that are left
abbrev pub invariant-loop-send : goal.invariant-loop-send
invariant-loop-send l = record {
  same : l.made.items ++ letters_by l.unit l.vector l.counts (filter (λ s. nat_lt s.0 l.width) (drop l.send-index
      l.sends)) ≡ letters_by l.unit l.vector l.initial.counts (filter (λ s. nat_lt s.0 l.width) l.sends);
  room : (u : ℕ) → sent_to l.counts u + length (drop l.send-index l.sends) < 2 ^ 64;
}
