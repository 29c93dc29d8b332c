use Rattle.std.proofs.Common.{length, ◌-◌, ◌≡◌, ◌≤◌, take}
use Rattle.json.specs.Print.{escape}
use Rattle.quick_forms.proofs.shortest.plain_len.Given as goal

-- what was passed needs no escape
abbrev pub invariant-loop-at : goal.invariant-loop-at
invariant-loop-at l = (l.at ≤ length l.bytes) × (escape (take l.at l.bytes) ≡ take l.at l.bytes)

abbrev pub decreases-loop-at : goal.decreases-loop-at
decreases-loop-at l = length l.bytes - l.at
