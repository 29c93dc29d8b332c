use Rattle.std.proofs.Common.{◌≡◌, ◌∷◌, ◌++◌, ◌∙◌, [], false, refl, ap, sym, subst, length, length-append, arith}
use Rattle.shards.specs.Blocks.{TellsMore}
use Rattle.shards.proofs.Telling.{loses_line, still_lost, tells_line}
use Rattle.shards.proofs.shard.Shard.answer.Goals as goal

pub returns-then-is_full-clause-done : goal.returns-then-is_full-clause-done
returns-then-is_full-clause-done g c = (
  (c.pass_step.ensures c.args.drives).0,
  (c.pass_step.ensures c.args.drives).1,
  still_lost c.args.is_full.now (c.pass_step.ensures c.args.drives).0 _ _ c.if-is_full.true,
)

pub returns-then-is_err-clause-done : goal.returns-then-is_err-clause-done
returns-then-is_err-clause-done g c = (
  (c.pass_step-then-is_err.ensures c.args.drives).0,
  (c.pass_step-then-is_err.ensures c.args.drives).1,
  loses_line c.args.is_full.now (c.pass_step-then-is_err.ensures c.args.drives).0 _ _ _ _ refl c.reserve.ensures.items,
)

pub returns-in-Ok-clause-done : goal.returns-in-Ok-clause-done
returns-in-Ok-clause-done g c =
    let one = c.in-Ok.ensures.ok in
    let size = ap length one.2 ∙ length-append c.args.self.now.bytes.items one.0 in
    let len_is : c.saturating_sub.result ≡ length one.0 =
    omega (
      arith,
      c.saturating_sub.ensures,
      ap length c.as_slice-before.ensures.value,
      ap length c.as_slice-all.ensures.value,
      size,
    ) in (
      one.0,
      one.1,
      subst (λ f. TellsMore f f one.0 c.args.self.now.bytes.items c.args.self.now.lens.items
          c.answer_step.new.bytes.items c.push_reserved.new.self.items) (sym c.if-is_full.false)
          (tells_line false one.0 _ _ _ _ refl one.2 (c.push_reserved.ensures.items
          ∙ ap (λ n. c.reserve.new.self.items ++ n ∷ []) len_is
          ∙ ap (λ l. l ++ length one.0 ∷ []) c.reserve.ensures.items)),
    )
