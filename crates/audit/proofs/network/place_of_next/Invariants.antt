use Rattle.std.proofs.Common.{◌≡◌, ◌++◌, take, drop}
use Rattle.model.specs.FailureFree.{next_text, without_next}
use Rattle.audit.proofs.network.place_of_next.Given as goal

abbrev pub invariant-loop-i : goal.invariant-loop-i
invariant-loop-i l =
    (next_text l.source l.target (drop l.i l.packets) ≡ next_text l.source l.target l.packets)
    × (take l.i l.packets ++ without_next l.source l.target (drop l.i l.packets)
    ≡ without_next l.source l.target l.packets)
