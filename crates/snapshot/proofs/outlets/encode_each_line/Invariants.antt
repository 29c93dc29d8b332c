use Rattle.std.proofs.Common.{◌≡◌, ◌++◌, List, ℕ, drop}
use Rattle.codec.specs.Codes.{AllFit, each_code}
use Rattle.snapshot.specs.Parts.{FitsLine, line_code, pairs_of}
use Rattle.snapshot.proofs.outlets.encode_each_line.Given as goal

-- what was appended goes on with the bytes of those from this one on, and all fit if these do
abbrev pub invariant-loop-line : goal.invariant-loop-line
invariant-loop-line l = record {
  code : (rest : List ℕ) → l.out.items ++ each_code line_code (pairs_of (drop l.line-index l.lines)) rest
      ≡ l.initial.out.items ++ each_code line_code (pairs_of l.lines) rest;
  fits : AllFit FitsLine (pairs_of (drop l.line-index l.lines)) → AllFit FitsLine (pairs_of l.lines);
}
