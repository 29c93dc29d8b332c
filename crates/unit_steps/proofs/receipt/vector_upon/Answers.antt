use Rattle.std.proofs.Common.{◌≡◌, ◌-◌, ◌∙◌, Some, ap, arith, length, slice_set, sym}
use Rattle.std.specs.Prelude.{slice_get}
use Rattle.std.proofs.lemmas.Option.{get_or_from_slice_get}
use Rattle.depvector.specs.Vectors.{joined, widened}
use Rattle.compact.specs.Compact.{Interval}
use Rattle.rollback.specs.Units.{unknown}
use Rattle.unit_steps.specs.Receipts.{last_vector_of, vector_marked}
use Rattle.unit_steps.proofs.Vectors.{joined_known, own_there}
use Rattle.unit_steps.proofs.receipt.vector_upon.Goals as goal

pub set_own-requires : goal.set_own-requires
set_own-requires g c =
    let letter = c.args.letter.now in
    own_there c.in_ok-vector.vector c.widen.new.self letter c.join_marks.new.self c.args.width c.args.unit
    c.in_ok-widen.ensures.ok (c.join_marks.ensures
    ∙ joined_known c.widen.new.self letter c.min-known.result c.len.result c.min-known.ensures c.len.ensures.len)
    c.requires.own

pub returns : goal.returns
returns g c =
    let letter = c.args.letter.now in
    let kept = c.args.unit_state.now.intervals in
    let place : c.last_index.result - c.args.unit_state.now.base ≡ length kept - 1 =
    omega (arith, c.last_index.ensures.last) in
    let there : slice_get kept (length kept - 1) ≡ Some c.interval-last.result.now =
    rw place at c.interval-last.ensures in
    let last : c.in_ok-vector.vector ≡ last_vector_of c.args.unit_state.now =
    c.in_ok-vector.ensures ∙ c.as_slice.ensures.marks ∙ ap (λ (i : Interval). i.vector)
    (c.last.view_is ∙ sym (get_or_from_slice_get kept (length kept - 1) c.interval-last.result.now unknown there)) in
    let wide : c.widen.new.self ≡ widened (last_vector_of c.args.unit_state.now) c.args.width =
    c.in_ok-widen.ensures.ok ∙ ap (λ v. widened v c.args.width) last in
    let met : c.join_marks.new.self ≡ joined c.widen.new.self letter = c.join_marks.ensures
    ∙ joined_known c.widen.new.self letter c.min-known.result c.len.result c.min-known.ensures c.len.ensures.len in
    let made : c.set_own.new.self ≡ vector_marked c.args.width c.args.unit c.args.unit_state.now c.args.mark letter =
    c.set_own.ensures ∙ ap (λ v. slice_set v c.args.unit c.args.mark) (met ∙ ap (λ v. joined v letter) wide) in
    rw (← made) c.into_shared.ensures
