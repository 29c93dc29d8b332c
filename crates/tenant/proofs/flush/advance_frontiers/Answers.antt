use Rattle.std.proofs.Common.{◌∙◌, ◌<◌, length, arith, length-set}
use Rattle.std.proofs.lemmas.Option.{slice_get_within}
use Rattle.tenant.proofs.Fronts.{before_one, gone_one}
use Rattle.tenant.proofs.flush.advance_frontiers.Goals as goal

pub loop-at-preserved : goal.loop-at-preserved
loop-at-preserved g c =
    let fs = c.loop-at.frontiers.items in
    let old = c.args.frontiers.now.items in
    let table = c.args.table.now in
    let lengths = c.args.stable_lengths.now in
    let members = c.args.members.now in
    let i = c.loop-at.at in
    let long = c.loop-at.invariant.len in
    let within : i < length fs =
    (let a = c.loop-at-test.true in let b = c.len-at-end.ensures in omega (arith, a, b, long)) in
    record {
      len = length-set fs i c.front_of.result ∙ long;
      done = gone_one table lengths members old fs i c.index-frontier.result.now c.front_of.result
          long within c.index-frontier.ensures c.front_of.ensures c.loop-at.invariant.done c.loop-at.invariant.rest;
      rest = before_one table lengths members old fs i c.index-frontier.result.now
          c.front_of.result long within c.index-frontier.ensures c.front_of.ensures c.loop-at.invariant.rest;
    }

pub returns-clause-fronts : goal.returns-clause-fronts
returns-clause-fronts g c = λ u m f found was front.
    let a = c.loop-at-test.false in
    let b = c.len-at-end.ensures in
    let within = slice_get_within c.args.frontiers.now.items u f was in
    c.loop-at.invariant.done u m f (omega (arith, a, b, within)) found was front
