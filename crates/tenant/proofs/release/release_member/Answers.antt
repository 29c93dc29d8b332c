use Rattle.std.proofs.Common.{◌≡◌, ◌∙◌, ap, arith}
use Rattle.std.specs.Prelude.{slice_get}
use Rattle.std.proofs.lemmas.Option.{get_or_from_slice_get}
use Rattle.tenant.specs.Kept.{Member}
use Rattle.tenant.proofs.Lines.{member_out, same_counts, same_others, same_texts, texts_out}
use Rattle.tenant.proofs.Results.{whatever}
use Rattle.tenant.proofs.release.release_member.Goals as goal

pub returns-in_err-reserve-clause-err_outlet : goal.returns-in_err-reserve-clause-err_outlet
returns-in_err-reserve-clause-err_outlet g c = whatever c.from_residual.result
    (same_texts c.reserve.new.self c.args.outlet.now c.reserve.ensures.len c.reserve.ensures.texts)

pub returns-clause-ok : goal.returns-clause-ok
returns-clause-ok g c = λ m frontier texts found own front was.
    let at = c.from-at.ensures ∙ c.number.ensures in
    let len = c.len.ensures in
    let long = c.if-len-at.false in
    let q : Member _ = c.index_mut-member.result.now in
    let same : q ≡ m = c.index_mut-member.ensures.value ∙ get_or_from_slice_get
    c.args.members.now.items c.from-at.result m q (ap (slice_get c.args.members.now.items) at ∙ found) in (
      member_out c.args.members.now.items c.args.unit m q
          c.release.new.self c.args.frontiers.now frontier c.from-at.result at same own front c.release.ensures.member,
      texts_out c.args.outlet.now c.reserve.new.self c.release.new.outlet
          c.args.unit m q c.args.frontiers.now frontier texts same own front was (omega (arith, at, len, long))
          c.reserve.ensures.len
          c.reserve.ensures.texts c.release.ensures.len c.release.ensures.texts c.release.ensures.others,
    )

pub returns-in_err-reserve-clause-gone : goal.returns-in_err-reserve-clause-gone
returns-in_err-reserve-clause-gone g c =
    same_counts c.reserve.new.self c.args.outlet.now c.reserve.ensures.len c.reserve.ensures.gone

pub returns-clause-gone : goal.returns-clause-gone
returns-clause-gone g c = same_counts c.release.new.outlet c.args.outlet.now (c.release.ensures.len
    ∙ c.reserve.ensures.len) (λ u. c.release.ensures.gone u ∙ c.reserve.ensures.gone u)

pub returns-in_err-reserve-clause-others : goal.returns-in_err-reserve-clause-others
returns-in_err-reserve-clause-others g c =
    same_others c.reserve.new.self c.args.outlet.now c.args.unit c.reserve.ensures.len
    (λ u d. c.reserve.ensures.texts u)

pub returns-clause-others : goal.returns-clause-others
returns-clause-others g c =
    let own = c.unit.ensures in
    let one = c.number-2.ensures in
    let other = c.number-3.ensures in
    let same = c.if-number.false in
    let unit : c.index_mut-member.result.now.unit ≡ c.args.unit = omega (arith, own, one, other, same) in
    same_others c.release.new.outlet c.args.outlet.now c.args.unit (c.release.ensures.len ∙ c.reserve.ensures.len)
    (λ u d. c.release.ensures.others u (λ e. d (e ∙ unit)) ∙ c.reserve.ensures.texts u)
