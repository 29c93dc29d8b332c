use Rattle.std.proofs.Common.{length, sym, subst}
use Rattle.std.specs.Prelude.{All, flat_map}
use Rattle.std.specs.Io.KnownBytes.{Appends}
use Rattle.written.specs.Beginnings.{AppendsBeginning}
use Rattle.shards.specs.Blocks.{IsBelow, merged, whole}
use Rattle.shards.proofs.Telling.{on_err, on_ok}
use Rattle.shards.proofs.answering.answer.Goals as goal

pub write_all-requires-clause-told : goal.write_all-requires-clause-told
write_all-requires-clause-told g c κs within =
    (c.step_lines.ensures.stepped.1, c.step_lines.ensures.stepped.6)

pub write_all-requires-clause-below : goal.write_all-requires-clause-below
write_all-requires-clause-below g c κs within =
    subst (All (IsBelow (length c.step_lines.new.shards))) (sym c.as_slice.ensures.value) c.step_lines.ensures.stepped.5

pub returns-clause-ok : goal.returns-clause-ok
returns-clause-ok g c =
    on_ok c.write_all.result _ _ c.write_all.ensures.ok (λ wrote.
    let so = c.step_lines.ensures.stepped in (
      so.0,
      merged c.step_lines.new.desk.places.items so.1,
      so.2,
      so.3,
      so.4,
      subst (λ l. Appends (g.W.Write.contents c.args.writer.now.inner) (g.W.Write.contents
          c.write_all.new.writer.inner) (flat_map whole (merged l so.1))) c.as_slice.ensures.value
          (wrote so.1 so.6),
    ))

pub returns-clause-err : goal.returns-clause-err
returns-clause-err g c =
    on_err c.write_all.result _ _ c.write_all.ensures.err (λ wrote.
    let so = c.step_lines.ensures.stepped in (
      so.0,
      merged c.step_lines.new.desk.places.items so.1,
      so.2,
      so.3,
      so.4,
      subst (λ l. AppendsBeginning (g.W.Write.contents c.args.writer.now.inner) (g.W.Write.contents
          c.write_all.new.writer.inner) (flat_map whole (merged l so.1))) c.as_slice.ensures.value
          (wrote so.1 so.6),
    ))
