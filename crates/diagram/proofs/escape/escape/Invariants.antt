use Rattle.std.specs.Prelude.{string_bytes}
use Rattle.diagram.specs.Escaped.{IsEscaped}
use Rattle.diagram.proofs.escape.escape.Given as goal

abbrev pub invariant-loop-character : goal.invariant-loop-character
invariant-loop-character l = IsEscaped (string_bytes l.escaped)
