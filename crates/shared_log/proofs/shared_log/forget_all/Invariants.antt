use Rattle.std.proofs.Common.{◌≡◌, length, drop}
use Rattle.shared_log.specs.Logged.{emptied}
use Rattle.shared_log.proofs.shared_log.forget_all.Given as goal

-- emptying the rest of the places gives what emptying all gives
abbrev pub invariant-loop-place : goal.invariant-loop-place
invariant-loop-place g l =
    (emptied (drop l.place-index l.places) (g.S.Store.log l.store) ≡ emptied l.places (g.S.Store.log l.fn.store))
    × (length (g.S.Store.log l.store) ≡ length (g.S.Store.log l.fn.store))
    × (g.S.Store.failures l.store ≡ g.S.Store.failures l.fn.store)
