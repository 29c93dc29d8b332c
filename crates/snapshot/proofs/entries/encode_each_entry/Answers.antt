use Rattle.std.proofs.Common.{◌++◌, ◌∙◌, ap, sym, subst, drop, ◌+◌, arith}
use Rattle.codec.specs.Codes.{AllFit, each_code}
use Rattle.snapshot.specs.Hosts.{FitsEntry, entry_code}
use Rattle.model.proofs.Places.{get_below}
use Rattle.codec.proofs.Each.{found_drop, from_start}
use Rattle.snapshot.proofs.entries.encode_each_entry.Goals as goal

pub loop-place-preserved : goal.loop-place-preserved
loop-place-preserved g c =
    let all = c.args.tenants.now.entries in
    let x = get_below all c.loop-place.place
    (let a = c.loop-place-test.true in let b = c.requires in omega (arith, a, b)) in
    let left = found_drop all c.loop-place.place x.0 x.1 in
    record {
      code = λ rest. c.in_ok-encode_entry.ensures.code x.0 x.1
          (each_code (entry_code g.H.Portable.state_code) (drop (c.loop-place.place + 1) all) rest)
          ∙ ap (λ xs. c.loop-place.out.items ++ each_code (entry_code g.H.Portable.state_code) xs rest) (sym left)
          ∙ c.loop-place.invariant.code rest;
      fits = λ others. c.loop-place.invariant.fits (subst (AllFit (FitsEntry g.H.Portable.state_fits)) (sym left)
          (c.in_ok-encode_entry.ensures.fits x.0 x.1, others));
    }

pub returns-clause-code : goal.returns-clause-code
returns-clause-code g c = λ rest.
    let all = from_start c.args.tenants.now.entries c.loop-place.place
    (let a = c.loop-place-test.false in let b = c.requires in omega (arith, a, b)) in
    ap (λ xs. c.loop-place.out.items ++ each_code (entry_code g.H.Portable.state_code) xs rest) (sym all.1)
    ∙ c.loop-place.invariant.code rest

pub returns-clause-fits : goal.returns-clause-fits
returns-clause-fits g c =
    let all = from_start c.args.tenants.now.entries c.loop-place.place
    (let a = c.loop-place-test.false in let b = c.requires in omega (arith, a, b)) in
    c.loop-place.invariant.fits (subst (AllFit (FitsEntry g.H.Portable.state_fits)) (sym all.1) tt)
