use Rattle.std.proofs.Common.{◌++◌, ◌∷◌, [], length, refl, sym, ap, ◌∙◌, inl, inr}
use Rattle.std.specs.Prelude.{Ok, Err}
use Rattle.forms.specs.declared.fault.LineFault.TheVariants.{NoMemory}
use Rattle.dealing.specs.Dealing.{dealt}
use Rattle.dealing.proofs.Lists.{map-set_kept}
use Rattle.shards.proofs.Merging.{deals_kept, deals_none, deals_step}
use Rattle.shards.proofs.answering.deal_one.Goals as goal

pub returns-in-Ok-take-clause-hosts : goal.returns-in-Ok-take-clause-hosts
returns-in-Ok-take-clause-hosts g c =
    map-set_kept (λ s. s.host) c.args.shards.now c.shard_of-at.result c.index-shards-at.result c.take.new.self
    c.index-shards-at.is c.shard_of-at.ensures.below (c.take.ensures.host
    ∙ sym (ap (λ s. s.host) c.index-shards-at.is))

pub returns-in-Ok-take-clause-dealt : goal.returns-in-Ok-take-clause-dealt
returns-in-Ok-take-clause-dealt g c = (
  Ok c.in-Ok.step,
  inl (sym c.in-Ok.is),
  deals_step (λ s. s.steps.items) (dealt (length c.args.shards.now))
      c.args.shards.now c.shard_of-at.result c.index-shards-at.result c.take.new.self c.in-Ok.step c.index-shards-at.is
      c.shard_of-at.ensures.below (c.in-Ok-take.ensures.ok
      ∙ sym (ap (λ s. s.steps.items ++ c.in-Ok.step ∷ []) c.index-shards-at.is))
      (sym (c.shard_of-at.ensures.is ∙ ap (dealt (length c.args.shards.now)) c.tenant.ensures)),
)

pub returns-in-Err-take-clause-hosts : goal.returns-in-Err-take-clause-hosts
returns-in-Err-take-clause-hosts g c =
    map-set_kept (λ s. s.host) c.args.shards.now c.shard_of-at.result c.index-shards-at.result c.take.new.self
    c.index-shards-at.is c.shard_of-at.ensures.below (c.take.ensures.host
    ∙ sym (ap (λ s. s.host) c.index-shards-at.is))

pub returns-in-Err-take-clause-dealt : goal.returns-in-Err-take-clause-dealt
returns-in-Err-take-clause-dealt g c = (
  Err NoMemory,
  inr (c.in-Ok.step, c.in-Ok.is, refl),
  deals_kept (λ s. s.steps.items) (dealt (length c.args.shards.now))
      c.args.shards.now c.shard_of-at.result c.index-shards-at.result c.take.new.self NoMemory c.index-shards-at.is
      c.shard_of-at.ensures.below (c.in-Err-take.ensures.err
      ∙ sym (ap (λ s. s.steps.items) c.index-shards-at.is)),
)

pub returns-in-Err-clause-dealt : goal.returns-in-Err-clause-dealt
returns-in-Err-clause-dealt g c = (
  Err c.in-Err.fault,
  inl (sym c.in-Err.is),
  deals_none (λ s. s.steps.items) (dealt (length c.args.shards.now)) c.args.shards.now c.in-Err.fault,
)
