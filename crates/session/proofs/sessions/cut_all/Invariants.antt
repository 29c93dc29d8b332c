use Rattle.std.proofs.Common.{◌≡◌, ◌++◌, take, drop, length}
use Rattle.session.specs.Counts.{nothing}
use Rattle.model.specs.Lists.{padded}
use Rattle.session.proofs.sessions.cut_all.Given as goal

-- the entries before this one are cut back
abbrev pub invariant-loop-unit : goal.invariant-loop-unit
invariant-loop-unit l =
    l.units ≡ take l.unit (padded nothing l.earlier (length l.initial.units)) ++ drop l.unit l.initial.units
