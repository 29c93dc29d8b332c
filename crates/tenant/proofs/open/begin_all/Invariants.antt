use Rattle.std.proofs.Common.{◌≡◌, take, length, []}
use Rattle.std.specs.List.{fold}
use Rattle.model.specs.Steps.{kind_or_0}
use Rattle.tenant.specs.Kept.{with_begun}
use Rattle.tenant.proofs.open.begin_all.Given as goal

abbrev pub invariant-loop-name : goal.invariant-loop-name
invariant-loop-name g l = (length l.members.items ≡ l.name-index)
    × (l.members.items ≡ fold (λ ms n. with_begun g.H.Handler.meaning
    (length l.fn.names) ms (kind_or_0 (g.H.Handler.meaning.kind n))) [] (take l.name-index l.fn.names))
