use Rattle.tenant.proofs.Moving.{beside_same, beside_then}
use Rattle.std.proofs.Common.{◌≡◌, ◌≤◌, ◌+◌, ◌∙◌, suc, refl, sym, ap, subst, arith, length, take}
use Rattle.std.proofs.lemmas.List.{take_all}
use Rattle.model.specs.Keeping.{Shelf, all_based}
use Rattle.std.specs.Prelude.{List}
use Rattle.tenant.specs.Past.{KeepsPast}
use Rattle.tenant.proofs.Emptying.{based_more}
use Rattle.tenant.proofs.Standing.{opened}
use Rattle.tenant.proofs.tenant.Tenant.forget_firm.Goals as goal

pub loop-at-init : goal.loop-at-init
loop-at-init g c = record {
  gone = refl;
  released = refl;
  stands = λ w s. s;
  just = λ w s has. has;
  beside = beside_same c.args.tenant.now c.args.log.now;
  bases = λ w shelves s kept. kept;
}

pub loop-at-preserved : goal.loop-at-preserved
loop-at-preserved g c = record {
  gone = c.forget_one.ensures.gone ∙ c.loop-at.invariant.gone;
  released = c.forget_one.ensures.released ∙ c.loop-at.invariant.released;
  stands = λ w s. c.forget_one.ensures.stands w (c.loop-at.invariant.stands w s);
  just = λ w s has. c.forget_one.ensures.just w (c.loop-at.invariant.stands w s) (c.loop-at.invariant.just w s has);
  beside = beside_then c.args.tenant.now
      c.args.log.now c.loop-at.log c.forget_one.new.log c.loop-at.invariant.beside c.forget_one.ensures.beside;
  bases = λ w shelves s kept.
      let at = c.loop-at.at in
      subst (λ (ss : List Shelf). KeepsPast c.forget_one.new.self w ss)
      (sym (based_more w at w.members shelves)
      ∙ ap (λ n. all_based w (take n w.members) shelves) (let e : suc at ≡ at + 1 = omega arith in e))
      (c.forget_one.ensures.bases w (all_based w (take at w.members) shelves)
      (c.loop-at.invariant.stands w s) (c.loop-at.invariant.bases w shelves s kept));
}

pub returns-clause-bases : goal.returns-clause-bases
returns-clause-bases g c = λ w shelves s kept.
    let is = (opened s).stands.1 in
    let wide = is.width in
    let units = (opened s).stands.2.represents.width in
    let count = c.member_count-at-end.ensures in
    let end = c.loop-at-test.false in
    let all : length w.members ≤ c.loop-at.at = omega (arith, wide, units, count, end) in
    subst (λ ms. KeepsPast c.loop-at.self w (all_based w ms shelves))
    (take_all c.loop-at.at w.members all) (c.loop-at.invariant.bases w shelves s kept)
