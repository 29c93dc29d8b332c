use Rattle.std.proofs.Common.{◌+◌, ◌<◌, ◌^◌, ℕ, slice_index_or}
use Rattle.session.specs.Counts.{nothing}
use Rattle.session.proofs.sessions.have_room.Given as goal

-- the entries before this one have room
abbrev pub invariant-loop-exchange : goal.invariant-loop-exchange
invariant-loop-exchange l = (unit : ℕ)
    → unit < l.exchange-index → (slice_index_or l.units unit nothing).sent + l.letters < 2 ^ 64
