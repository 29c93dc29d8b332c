use Rattle.std.proofs.Common.{◌≡◌, ◌∙◌, ap, take, arith}
use Rattle.book.specs.History.{world_of}
use Rattle.auditor.specs.Lists.{lists_at}
use Rattle.auditor.proofs.Clear.{list_found, list_missing, all_lists}
use Rattle.auditor.proofs.tenant_audit.all_released.Goals as goal
use Rattle.auditor.proofs.tenant_audit.all_released.Goals.{in-Some+in_ok-of+in_ok-push, in_default}

pub loop-number-preserved : goal.loop-number-preserved
loop-number-preserved g c = elim c.match-released.branch [
  | in-Some+in_ok-of+in_ok-push w ↦ rw (w.lists-is, w.in_ok-push.ensures.items, w.in_ok-of.ensures)
      (list_found (world_of g.H.Handler.meaning c.args.tenant.now c.args.book.now.history)
      c.loop-number.number _ _ (rw c.new.ensures at w.in-Some.ensures) c.loop-number.invariant)
  | in_default w ↦ rw w.lists-is
      (list_missing (world_of g.H.Handler.meaning c.args.tenant.now c.args.book.now.history)
      c.loop-number.number _ (rw c.new.ensures at w.in_default.ensures) c.loop-number.invariant)
]

pub returns : goal.returns
returns g c =
    let e : c.loop-number.number ≡ 16 = let most = c.loop-number.auto.number-end in
    let least = c.loop-number-test.false in omega arith in
    c.loop-number.invariant
    ∙ ap (λ n. take n (lists_at (world_of g.H.Handler.meaning c.args.tenant.now c.args.book.now.history))) e
    ∙ all_lists g.H.Handler.meaning c.args.tenant.now c.args.book.now.history
