use Rattle.std.proofs.Common.{◌++◌, ◌∙◌, ap, sym, subst, drop, ◌+◌, arith}
use Rattle.codec.specs.Codes.{AllFit, each_code}
use Rattle.snapshot.specs.Tenants.{FitsMember, member_code}
use Rattle.codec.proofs.Each.{at_drop, from_start}
use Rattle.snapshot.proofs.members.encode_each_member.Goals as goal

pub loop-member-preserved : goal.loop-member-preserved
loop-member-preserved g c =
    let left = at_drop c.args.members.now c.loop-member.member-index c.member-item.result c.loop-member-test.true
    c.member-item.is in
    record {
      code = λ rest. c.in_ok-encode_member.ensures.code (each_code (member_code g.H.Portable.state_code) (drop
          (c.loop-member.member-index + 1)
          c.args.members.now) rest) ∙ ap (λ xs. c.loop-member.out.items ++ each_code
          (member_code g.H.Portable.state_code) xs rest) (sym left)
          ∙ c.loop-member.invariant.code rest;
      fits = λ others. c.loop-member.invariant.fits (subst (AllFit (FitsMember g.H.Portable.state_fits)) (sym left)
          (c.in_ok-encode_member.ensures.fits, others));
    }

pub returns-clause-code : goal.returns-clause-code
returns-clause-code g c = λ rest.
    let all = from_start c.args.members.now c.loop-member.member-index
    (let a = c.loop-member-test.false in omega (arith, a)) in
    ap (λ xs. c.loop-member.out.items ++ each_code (member_code g.H.Portable.state_code) xs rest) (sym all.1)
    ∙ c.loop-member.invariant.code rest

pub returns-clause-fits : goal.returns-clause-fits
returns-clause-fits g c =
    let all = from_start c.args.members.now c.loop-member.member-index
    (let a = c.loop-member-test.false in omega (arith, a)) in
    c.loop-member.invariant.fits (subst (AllFit (FitsMember g.H.Portable.state_fits)) (sym all.1) tt)
