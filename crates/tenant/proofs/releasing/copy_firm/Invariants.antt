use Rattle.std.proofs.Common.{◌≡◌, ◌++◌, drop}
use Rattle.tenant.specs.Kept.{firm_texts}
use Rattle.tenant.proofs.releasing.copy_firm.Given as goal

abbrev pub invariant-loop-place : goal.invariant-loop-place
invariant-loop-place l =
    l.texts.items ++ firm_texts (drop l.place l.hold.outputs) l.frontier ≡ firm_texts l.hold.outputs l.frontier
