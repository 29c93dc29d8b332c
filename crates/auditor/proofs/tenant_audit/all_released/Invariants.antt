use Rattle.std.proofs.Common.{◌≡◌, take}
use Rattle.book.specs.History.{world_of}
use Rattle.auditor.specs.Lists.{lists_at}
use Rattle.auditor.proofs.tenant_audit.all_released.Given as goal

abbrev pub invariant-loop-number : goal.invariant-loop-number
invariant-loop-number g l =
    l.lists.items ≡ take l.number (lists_at (world_of g.H.Handler.meaning l.tenant l.book.history))
