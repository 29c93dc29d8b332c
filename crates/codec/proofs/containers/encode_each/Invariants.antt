use Rattle.std.proofs.Common.{◌≡◌, ◌++◌, List, ℕ, drop}
use Rattle.codec.specs.Codes.{AllFit, each_code}
use Rattle.codec.proofs.containers.encode_each.Given as goal

-- what was appended goes on with the bytes of the items from this one on, and all fit if these do
abbrev pub invariant-loop-item : goal.invariant-loop-item
invariant-loop-item g l = record {
  code : (rest : List ℕ) → l.out.items ++ each_code g.T.Coded.code (drop l.item-index l.items) rest
      ≡ l.initial.out.items ++ each_code g.T.Coded.code l.items rest;
  fits : AllFit g.T.Coded.fits (drop l.item-index l.items) → AllFit g.T.Coded.fits l.items;
}
