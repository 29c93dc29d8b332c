use Rattle.std.proofs.Common.{◌<◌, length, refl, subst}
use Rattle.std.specs.Io.KnownBytes.{Appends}
use Rattle.shards.specs.Blocks.{fault_answer}
use Rattle.written.specs.Beginnings.{AppendsBeginning}
use Rattle.shards.specs.Blocks.{IsBelow}
use Rattle.shards.proofs.GoingOn.{risen_err, same_unless}
use Rattle.shards.proofs.Telling.{begins_here, dealt_err, dealt_ok, on_err, on_ok, told_first, wrote_here}
use Rattle.shards.proofs.writing.write_one.Goals as goal

pub put_next-requires : goal.put_next-requires
put_next-requires g c =
    let within : c.in-Dealt.shard < length c.args.shards.now =
    subst (IsBelow (length c.args.shards.now)) c.in-Dealt.is c.requires.below in (
      c.requires.told.0 c.in-Dealt.shard,
      told_first (λ s. s.bytes.items) (λ s. s.lens.items) (λ x. x.at) (λ x. x.next) c.args.shards.now c.args.cursors.now
          c.in-Dealt.shard c.index-shards-shard.result _ (record { at = 0; next = 0 }) (record { at = 0; next = 0 })
          _ _ within c.requires.cursors c.index-shards-shard.is
          refl c.as_slice.ensures.value c.as_slice-in-Dealt.ensures.value c.args.place c.in-Dealt.is
          (g.W.Write.contents c.args.writer.now.inner)
          (g.W.Write.contents c.args.writer.now.inner) c.requires.told.0 c.requires.told.1,
    )

pub returns-in-Here-clause-ok : goal.returns-in-Here-clause-ok
returns-in-Here-clause-ok g c = on_ok c.put_bytes.result _ _ c.put_bytes.ensures.ok (λ grown left all.
    wrote_here _ _ c.args.place c.in-Here.fault (fault_answer c.in-Here.fault) left _ c.in-Here.is refl
    (subst (Appends (g.W.Write.contents c.args.writer.now.inner) (g.W.Write.contents c.put_bytes.new.writer.inner))
    c.of.ensures grown) all)

pub returns-in-Here-clause-err : goal.returns-in-Here-clause-err
returns-in-Here-clause-err g c = on_err c.put_bytes.result _ _ c.put_bytes.ensures.err (λ begun left places all.
    begins_here _ _ c.args.place c.in-Here.fault (fault_answer c.in-Here.fault) left places c.in-Here.is refl
    (subst (AppendsBeginning (g.W.Write.contents c.args.writer.now.inner)
    (g.W.Write.contents c.put_bytes.new.writer.inner)) c.of.ensures begun))

pub returns-in-Dealt-clause-ok : goal.returns-in-Dealt-clause-ok
returns-in-Dealt-clause-ok g c =
    let within : c.in-Dealt.shard < length c.args.shards.now =
    subst (IsBelow (length c.args.shards.now)) c.in-Dealt.is c.requires.below in
    on_ok c.put_next.result _ _ c.put_next.ensures.ok
    (dealt_ok (λ s. s.bytes.items) (λ s. s.lens.items) (λ x. x.at) (λ x. x.next) c.args.shards.now c.args.cursors.now
    c.in-Dealt.shard c.index-shards-shard.result _ c.put_next.new.cursor (record { at = 0; next = 0 })
    c.as_slice.result.now c.as_slice-in-Dealt.result.now within c.requires.cursors c.index-shards-shard.is
    refl c.as_slice.ensures.value c.as_slice-in-Dealt.ensures.value c.args.place c.in-Dealt.is
    (g.W.Write.contents c.args.writer.now.inner) (g.W.Write.contents c.put_next.new.writer.inner))

pub returns-in-Dealt-clause-err : goal.returns-in-Dealt-clause-err
returns-in-Dealt-clause-err g c =
    let within : c.in-Dealt.shard < length c.args.shards.now =
    subst (IsBelow (length c.args.shards.now)) c.in-Dealt.is c.requires.below in
    on_err c.put_next.result _ _ c.put_next.ensures.err
    (dealt_err (λ s. s.bytes.items) (λ s. s.lens.items) (λ x. x.at) (λ x. x.next) c.args.shards.now c.args.cursors.now
    c.in-Dealt.shard c.index-shards-shard.result _ c.put_next.new.cursor (record { at = 0; next = 0 })
    c.as_slice.result.now c.as_slice-in-Dealt.result.now within c.requires.cursors c.index-shards-shard.is
    refl c.as_slice.ensures.value c.as_slice-in-Dealt.ensures.value c.args.place c.in-Dealt.is
    (g.W.Write.contents c.args.writer.now.inner) (g.W.Write.contents c.put_next.new.writer.inner))

pub returns-in-Here-clause-write : goal.returns-in-Here-clause-write
returns-in-Here-clause-write g c e =
    risen_err c.put_bytes.result _ c.args.writer.now.failed c.args.writer.now.failed c.put_bytes.new.writer.failed
    refl e c.put_bytes.ensures.fault

pub returns-in-Here-clause-same : goal.returns-in-Here-clause-same
returns-in-Here-clause-same g c apart =
    same_unless c.put_bytes.result c.args.writer.now.failed c.args.writer.now.failed c.put_bytes.new.writer.failed
    refl c.put_bytes.ensures.fault c.put_bytes.ensures.same apart
