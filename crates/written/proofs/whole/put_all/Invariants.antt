use Rattle.std.proofs.Common.{◌≡◌, ◌++◌, List, ℕ}
use Rattle.std.specs.Io.KnownBytes.{Appends}
use Rattle.written.proofs.whole.put_all.Given as goal

abbrev pub invariant-loop : goal.invariant-loop
invariant-loop g l = (bytes : List ℕ)
    × Appends (g.W.Write.contents l.initial.writer) (g.W.Write.contents l.writer) bytes × (l.bytes ≡ bytes ++ l.rest)
