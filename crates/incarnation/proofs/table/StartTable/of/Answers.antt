use Rattle.std.proofs.Common.{rules, ◌≡◌, ◌+◌, ◌∙◌, ap, ◌++◌, ◌∷◌, [], length, take, arith, sym, refl}
use Rattle.std.specs.Prelude.{Some, slice_get}
use Rattle.std.proofs.lemmas.Option.{slice_get_read}
use Rattle.std.proofs.lemmas.List.{take_all}
use Rattle.model.specs.World.{incarnation_of}
use Rattle.incarnation.proofs.Orders.{next_at, take_one}
use Rattle.incarnation.proofs.table.StartTable.of.Goals as goal

pub returns-then-not-is_next-clause-ordered : goal.returns-then-not-is_next-clause-ordered
returns-then-not-is_next-clause-ordered c = λ o.
    let there : slice_get c.args.rows.now c.loop-row.row-index ≡ Some c.row-item.result =
    slice_get_read c.args.rows.now (length c.args.rows.now) c.loop-row.row-index c.row-item.result refl
    c.loop-row-test.true c.row-item.is in
    let next = next_at c.args.rows.now c.loop-row.row-index c.row-item.result o there in
    let yes = c.is_next.ensures.1 (next
    ∙ ap (λ rows. incarnation_of rows c.row-item.result.unit + 1) (sym c.loop-row.invariant)) in
    search (rules, yes)

pub loop-row-preserved : goal.loop-row-preserved
loop-row-preserved c =
    let there : slice_get c.args.rows.now c.loop-row.row-index ≡ Some c.row-item.result =
    slice_get_read c.args.rows.now (length c.args.rows.now) c.loop-row.row-index c.row-item.result refl
    c.loop-row-test.true c.row-item.is in
    c.in_ok-add.ensures.ok ∙ ap (λ xs. xs ++ c.row-item.result ∷ []) c.loop-row.invariant
    ∙ sym (take_one c.args.rows.now c.loop-row.row-index c.row-item.result there)

pub returns-clause-made : goal.returns-clause-made
returns-clause-made c = c.loop-row.invariant
    ∙ take_all c.loop-row.row-index c.args.rows.now (let a = c.loop-row-test.false in omega (arith, a))
