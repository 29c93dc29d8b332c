use Rattle.std.proofs.Common.{◌+◌, ◌∙◌, length, drop, refl, ap, subst}
use Rattle.std.proofs.lemmas.List.{drop_all, drop_more, length-replicate}
use Rattle.model.specs.Failures.{HasRisen}
use Rattle.shards.proofs.Telling.{Written, written_all, written_more, written_none, written_some}
use Rattle.shards.proofs.writing.write_all.Goals as goal

pub loop-place-init : goal.loop-place-init
loop-place-init g c = record {
  cursors = ap length (c.as_mut_slice-cursors.ensures.value ∙ c.in-Ok.ensures)
      ∙ length-replicate (length c.args.shards.now) (record { at = 0; next = 0 });
  same = refl;
  written = written_none (λ s. s.bytes.items) (λ s. s.lens.items) (λ x. x.at) (λ x. x.next)
      c.args.shards.now c.args.places.now c.as_mut_slice-cursors.result.now (g.W.Write.contents c.args.writer.now.inner)
      (length c.args.shards.now) (record { at = 0; next = 0 }) (c.as_mut_slice-cursors.ensures.value
      ∙ c.in-Ok.ensures) refl refl refl;
}

pub write_one-requires-clause-told : goal.write_one-requires-clause-told
write_one-requires-clause-told g c κs within =
    let so_far = c.loop-place.invariant.written c.requires.told.0 c.requires.told.1 in
    (so_far.0, so_far.2)

pub returns-in-Err-clause-err : goal.returns-in-Err-clause-err
returns-in-Err-clause-err g c =
    written_some (λ s. s.bytes.items) (λ s. s.lens.items) (λ x. x.at)
    (λ x. x.next) c.args.shards.now c.args.places.now _ (drop (c.loop-place.place-index + 1) c.args.places.now)
    (drop c.loop-place.place-index c.args.places.now) c.loop-place.cursors
    (g.W.Write.contents c.args.writer.now.inner) (g.W.Write.contents c.loop-place.writer.inner)
    (drop_more c.args.places.now c.loop-place.place-index _ c.loop-place-test.true)
    c.loop-place.invariant.written (g.W.Write.contents c.write_one.new.writer.inner) c.in-Err.ensures.err

pub returns-in-Err-clause-write : goal.returns-in-Err-clause-write
returns-in-Err-clause-write g c e =
    subst (λ n. HasRisen n c.write_one.new.writer.failed) c.loop-place.invariant.same (c.in-Err.ensures.write e)

pub returns-in-Err-clause-same : goal.returns-in-Err-clause-same
returns-in-Err-clause-same g c apart = c.in-Err.ensures.same apart ∙ c.loop-place.invariant.same

pub loop-place-preserved : goal.loop-place-preserved
loop-place-preserved g c = record {
  cursors = c.write_one.auto.cursors ∙ c.loop-place.invariant.cursors;
  same = c.in-Ok-write_one.ensures.same (λ e. cc) ∙ c.loop-place.invariant.same;
  written = written_more (λ s. s.bytes.items) (λ s. s.lens.items) (λ x. x.at)
      (λ x. x.next) c.args.shards.now c.args.places.now _ (drop (c.loop-place.place-index + 1) c.args.places.now)
      (drop c.loop-place.place-index c.args.places.now) c.loop-place.cursors
      (g.W.Write.contents c.args.writer.now.inner) (g.W.Write.contents c.loop-place.writer.inner)
      (drop_more c.args.places.now c.loop-place.place-index _ c.loop-place-test.true) c.loop-place.invariant.written
      c.write_one.new.cursors (g.W.Write.contents c.write_one.new.writer.inner) c.in-Ok-write_one.ensures.ok;
}

pub returns-clause-ok : goal.returns-clause-ok
returns-clause-ok g c =
    written_all (λ s. s.bytes.items) (λ s. s.lens.items) (λ x. x.at) (λ x. x.next) c.args.shards.now c.args.places.now
    c.loop-place.cursors (g.W.Write.contents c.args.writer.now.inner) (g.W.Write.contents c.loop-place.writer.inner)
    (subst (λ l. Written (λ s. s.bytes.items)
    (λ s. s.lens.items) (λ x. x.at) (λ x. x.next) c.args.shards.now c.args.places.now l c.loop-place.cursors
    (g.W.Write.contents c.args.writer.now.inner) (g.W.Write.contents c.loop-place.writer.inner))
    (drop_all c.loop-place.place-index c.args.places.now c.loop-place-test.false) c.loop-place.invariant.written)
