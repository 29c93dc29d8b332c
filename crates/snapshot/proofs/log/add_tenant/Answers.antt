use Rattle.std.proofs.Common.{◌≡◌, ◌<◌, ◌∙◌, sym, ap, subst, List, ℕ, [], ◌++◌, below_more, arith}
use Rattle.std.proofs.Common.{⊎_elim, append_assoc}
use Rattle.std.specs.Prelude.{All, Contains}
use Rattle.std.proofs.lemmas.Bool.{cases_lt}
use Rattle.std.proofs.lemmas.List.Elements.{All-append, Contains-append_left, Contains-append_right}
use Rattle.shared_log.specs.Logged.{IsHeld, places_of}
use Rattle.snapshot.specs.Logs.{unit_places}
use Rattle.snapshot.proofs.Room.{all_units, no_units, one_unit}
use Rattle.snapshot.proofs.log.add_tenant.Goals as goal

pub loop-number-init : goal.loop-number-init
loop-number-init c = record {
  grown = λ p h. h;
  met = λ unit below p h. absurd (omega (arith, below));
  held = λ h. h;
  walk = no_units c.args.tenant.now c.args.log.now c.args.places.now.items;
}

pub loop-number-preserved : goal.loop-number-preserved
loop-number-preserved c =
    let old = c.loop-number.places.items in
    let ps = places_of c.args.tenant.now c.loop-number.number c.args.log.now in
    let more = c.in_ok-add_unit.ensures.more
    ∙ ap (λ (u : ℕ). c.loop-number.places.items ++ places_of c.args.tenant.now u c.args.log.now) c.new.ensures in
    let held = subst (λ (u : ℕ). All (IsHeld c.args.log.now.records) (places_of c.args.tenant.now u c.args.log.now))
    c.new.ensures c.add_unit.ensures.held in
    record {
      grown = λ p h. subst (λ (xs : List ℕ). Contains xs p) (sym more)
          (Contains-append_left old ps p (c.loop-number.invariant.grown p h));
      met = below_more (λ (unit : ℕ). (place : ℕ) → Contains (places_of c.args.tenant.now unit c.args.log.now) place
          → Contains c.add_unit.new.places.items place) c.loop-number.number
          (λ unit h p k. subst (λ (xs : List ℕ). Contains xs p) (sym more)
          (Contains-append_left old ps p (c.loop-number.invariant.met unit h p k)))
          (λ p k. subst (λ (xs : List ℕ). Contains xs p) (sym more) (Contains-append_right old ps p k));
      held = λ h. subst (λ (xs : List ℕ). All (IsHeld c.args.log.now.records) xs) (sym more)
          (All-append (IsHeld c.args.log.now.records) old ps (c.loop-number.invariant.held h) held);
      walk = more ∙ (ap (λ (xs : List ℕ). xs ++ ps) c.loop-number.invariant.walk
          ∙ (append_assoc c.args.places.now.items
          (unit_places c.args.tenant.now c.loop-number.number c.args.log.now) ps
          ∙ ap (λ (xs : List ℕ). c.args.places.now.items ++ xs)
          (sym (one_unit c.args.tenant.now c.loop-number.number c.args.log.now))));
    }

none_in : (xs : List ℕ) (p : ℕ) → xs ≡ [] → Contains xs p → ⊥
none_in xs p e h =
    let h2 = subst (λ (ys : List ℕ). Contains ys p) e h in
    let t : h2.0 < 0 = h2.1 in omega arith

pub returns-clause-met : goal.returns-clause-met
returns-clause-met c = λ unit p h.
    ⊎_elim (λ below. c.loop-number.invariant.met unit (omega arith) p h)
    (λ past. absurd (none_in (places_of c.args.tenant.now unit c.args.log.now) p
    (c.unit_count-count.ensures.rest unit past) h))
    (cases_lt unit c.unit_count-count.result)

pub returns-clause-walk : goal.returns-clause-walk
returns-clause-walk c =
    c.loop-number.invariant.walk
    ∙ ap (λ (xs : List ℕ). c.args.places.now.items ++ xs)
    (all_units c.args.tenant.now c.args.log.now c.loop-number.number 256 (omega arith)
    (λ unit past. c.unit_count-count.ensures.rest unit (omega (arith, past))))
