use Rattle.std.proofs.Common.{◌≡◌}
use Rattle.handler.proofs.turn.Turn.share.Given as goal

-- the turn stays the same
abbrev pub invariant-loop-send : goal.invariant-loop-send
invariant-loop-send g l = record {
  state : l.self-inside.state ≡ l.fn.self.state;
  sends : l.self-inside.sends.items ≡ l.fn.self.sends;
  outputs : l.self-inside.outputs.items ≡ l.fn.self.outputs;
}

abbrev pub invariant-loop-output : goal.invariant-loop-output
invariant-loop-output g l = record {
  state : l.self-inside.state ≡ l.fn.self.state;
  sends : l.self-inside.sends.items ≡ l.fn.self.sends;
  outputs : l.self-inside.outputs.items ≡ l.fn.self.outputs;
}
