use Rattle.std.proofs.Common.{◌∙◌, [], refl, arith, rules}
use Rattle.std.proofs.lemmas.Result.{err_from_is_err_and}
use Rattle.std.proofs.KnownBytes.{Appends-nil, Keeps-refl}
use Rattle.lines.proofs.Parts.{LinesRead-nil, TakesPart-none}
use Rattle.lines.proofs.Runs.{goes_on, stops}
use Rattle.lines.specs.Doing.{DoesBy}
use Rattle.lines.proofs.serving.serve_by.Goals as goal

pub returns-in_default-clause-some : goal.returns-in_default-clause-some
returns-in_default-clause-some g c = (
  [],
  [],
  g.R.Read.remaining c.args.reader.now.inner,
  LinesRead-nil _,
  TakesPart-none _ _ (Keeps-refl _),
  (refl, refl),
  ([], Appends-nil _, ([], refl)),
)

pub returns-in_err-serve_line-clause-some : goal.returns-in_err-serve_line-clause-some
returns-in_err-serve_line-clause-some g c =
    let p = err_from_is_err_and c.from_residual.result c.from_residual.ensures.1 in
    let so_far = c.loop-text.invariant.served in
    rw p.1 (stops (DoesBy g.F.Fn c.args.step.now)
    _ _ _ _ _ _ _ _ _ so_far.0 so_far.1 so_far.2 so_far.3 so_far.4 c.in_err-serve_line.ensures.err)

pub loop-text-init : goal.loop-text-init
loop-text-init g c = record {
  room = search rules;
  read_same = refl;
  write_same = refl;
  within = search rules;
  served = ([], [], LinesRead-nil _, (refl, refl), Appends-nil _, refl);
}

pub loop-text-preserved : goal.loop-text-preserved
loop-text-preserved g c =
    let so_far = c.loop-text.invariant.served in
    let test = c.if-not-branch.false in
    let found = c.in_ok-serve_line.ensures.took in
    let took = rw test at found in
    record {
      room = c.serve_line.ensures.room;
      read_same = c.in_ok-serve_line.ensures.read_same (λ e. cc) ∙ c.loop-text.invariant.read_same;
      write_same = c.in_ok-serve_line.ensures.write_same (λ e. cc) ∙ c.loop-text.invariant.write_same;
      within = omega (arith, c.loop-text.invariant.within, c.in_ok-serve_line.ensures.fewer);
      served = goes_on (DoesBy g.F.Fn c.args.step.now)
          _ _ _ _ _ _ _ _ _ so_far.0 so_far.1 so_far.2 so_far.3 so_far.4 _ so_far.5 took;
    }
