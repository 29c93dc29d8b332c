use Rattle.std.proofs.Common.{◌≡◌, ◌∙◌, sym, ap, List, ◌∷◌, [], length, map, refl, replicate, slice_set}
use Rattle.std.specs.Prelude.{Option, Some, None, Err}
use Rattle.std.proofs.lemmas.Iterator.Adapters.{YieldsList-from_vec}
use Rattle.std.proofs.lemmas.Iterator.Consumers.{YieldsList-so_far, YieldsList-turn}
use Rattle.model.specs.declared.records.Record.{Record}
use Rattle.shared_log.specs.declared.shared_log.FillFault.{FillFault}
use Rattle.shared_log.specs.declared.shared_log.FillFault.TheVariants.{Misplaced, NoMemory}
use Rattle.shared_log.proofs.FilledLaws.{filled_append}
use Rattle.snapshot.specs.Logs.{AreWithin, LeaveRoom}
use Rattle.snapshot.proofs.Faults.{failed}
use Rattle.snapshot.proofs.Room.{fits_next}
use Rattle.snapshot.proofs.log.refilled.Goals as goal

pub loop-place-preserved : goal.loop-place-preserved
loop-place-preserved c = record {
  records = c.in_ok-fill.ensures.ok
      ∙ (ap (λ (rs : List (Option Record)). slice_set rs c.in-Some.place (Some c.in-Some.logged))
      c.loop-place.invariant.records
      ∙ sym (filled_append c.loop-place.yielded ((c.in-Some.place, c.in-Some.logged) ∷ [])
      (replicate c.args.count None)));
  failures = c.in_ok-fill.ensures.failures ∙ c.loop-place.invariant.failures;
}

same_map : {X : Type 0} (xs : List X) → map (λ y. y) xs ≡ xs
same_map [] = refl
same_map (x ∷ xs) = ap (λ ys. x ∷ ys) (same_map xs)

-- a fault that is not that of a place is the other one
no_memory : (fault : FillFault) → (fault ≡ Misplaced → ⊥) → fault ≡ NoMemory
no_memory Misplaced h = absurd (h refl)
no_memory NoMemory h = refl

pub returns-in_err-fill-clause-err : goal.returns-in_err-fill-clause-err
returns-in_err-fill-clause-err c =
    failed c.from_residual.result c.in_err-fill.field-0.0
    (λ (e : FillFault). LeaveRoom c.args.pairs.items → AreWithin c.args.count c.args.pairs.items → e ≡ NoMemory)
    c.from_residual.ensures.1
    (λ room within.
    let given = c.into_iter-place-iterator.ensures.into_iter_gives in
    let all = YieldsList-from_vec {s = c.into_iter-place-iterator.result} c.args.pairs.items given.0
    (given.1 ∙ c.args.pairs.ok.0) in
    let turn = YieldsList-turn all c.loop-place.yielded c.loop-place.place-iterator c.loop-place.yielded_by
    c.next.result c.next.new.self (c.in-Some.place, c.in-Some.logged) c.in-Some.is c.next.ensures.steps in
    let done = sym (same_map c.loop-place.yielded)
    ∙ YieldsList-so_far all c.loop-place.yielded c.loop-place.place-iterator c.loop-place.yielded_by in
    let fits = fits_next c.loop-place.made c.args.count c.args.pairs.items c.loop-place.yielded
    (length c.loop-place.yielded) c.in-Some.place c.in-Some.logged turn.0 turn.1 done
    c.loop-place.invariant.records room within in
    no_memory c.in_err-fill.field-0.0
    (λ e. c.in_err-fill.ensures.succeeds fits.0 fits.1 (ap Err e)))
