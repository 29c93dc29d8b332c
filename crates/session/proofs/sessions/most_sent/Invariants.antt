use Rattle.std.proofs.Common.{◌<◌, ◌≤◌, ℕ, slice_index_or}
use Rattle.session.specs.Counts.{nothing}
use Rattle.session.proofs.sessions.most_sent.Given as goal

-- no entry before this one is greater
abbrev pub invariant-loop-exchange : goal.invariant-loop-exchange
invariant-loop-exchange l = (unit : ℕ)
    → unit < l.exchange-index → (slice_index_or l.units unit nothing).sent ≤ l.most
