use Rattle.std.proofs.Common.{◌∙◌, refl, arith, rules}
use Rattle.std.proofs.lemmas.Result.{err_from_is_err_and}
use Rattle.std.proofs.KnownBytes.{Keeps-refl}
use Rattle.lines.specs.Doing.{DoesBy}
use Rattle.lines.proofs.Parts.{TakesPart-none}
use Rattle.driver.proofs.Rounds.{so_far_broken, so_far_none, so_far_part, so_far_took}
use Rattle.driver.proofs.driving.drive_by.Goals as goal

pub returns-in_default-clause-some : goal.returns-in_default-clause-some
returns-in_default-clause-some g c =
    let Does = DoesBy g.F.Fn c.args.step.now in
    so_far_part Does _ _ _ _ _ _ _
    _ _ (so_far_none Does (g.R.Read.remaining c.args.reader.now.inner) (g.W.Write.contents c.args.writer.now.inner)
    c.args.book.now) (TakesPart-none _ _ (Keeps-refl _)) (Keeps-refl _)

pub returns-in_err-drive_next-clause-some : goal.returns-in_err-drive_next-clause-some
returns-in_err-drive_next-clause-some g c =
    let p = err_from_is_err_and c.from_residual.result c.from_residual.ensures.1 in
    rw p.1 (so_far_broken (DoesBy g.F.Fn c.args.step.now)
    _ _ _ _ _ _ _ _ _ _ c.loop-text.invariant.driven c.in_err-drive_next.ensures.err)

pub loop-text-init : goal.loop-text-init
loop-text-init g c = record {
  room = search rules;
  read_same = refl;
  write_same = refl;
  within = search rules;
  driven = so_far_none (DoesBy g.F.Fn c.args.step.now) _ _ _;
}

pub loop-text-preserved : goal.loop-text-preserved
loop-text-preserved g c =
    let test = c.if-not-branch.false in
    let found = c.in_ok-drive_next.ensures.took in
    let took = rw test at found in
    record {
      room = c.drive_next.ensures.room;
      read_same = c.in_ok-drive_next.ensures.read_same (λ e. cc) ∙ c.loop-text.invariant.read_same;
      write_same = c.in_ok-drive_next.ensures.write_same (λ e. cc) ∙ c.loop-text.invariant.write_same;
      within = omega (arith, c.loop-text.invariant.within, c.in_ok-drive_next.ensures.fewer);
      driven = so_far_took (DoesBy g.F.Fn c.args.step.now) _ _ _ _ _ _ _ _ _ _ c.loop-text.invariant.driven took;
    }
