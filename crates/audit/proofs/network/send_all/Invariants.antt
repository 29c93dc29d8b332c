use Rattle.std.proofs.Common.{◌≡◌, ◌++◌, take}
use Rattle.audit.specs.Working.{packets_from}
use Rattle.audit.proofs.network.send_all.Given as goal

abbrev pub invariant-loop-sent : goal.invariant-loop-sent
invariant-loop-sent l =
    l.packets.items ≡ l.fn.packets.items ++ packets_from l.source l.units (take l.sent-index l.sends)
