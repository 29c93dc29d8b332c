use Rattle.shards.proofs.Among.{all_of, some_of}
use Rattle.shards.proofs.serving.drive_shards.Goals as goal

pub returns-clause-all : goal.returns-clause-all
returns-clause-all g c =
    all_of g.H.Handler.meaning c.args.shards.now c.answer_by_shards.new.shards c.answer_by_shards.ensures.many
    c.answer_by_shards.result _ _ _ c.answer_by_shards.ensures.all

pub returns-clause-some : goal.returns-clause-some
returns-clause-some g c =
    some_of g.H.Handler.meaning c.args.shards.now c.answer_by_shards.new.shards c.answer_by_shards.ensures.many
    c.answer_by_shards.result _ _ _ _ c.answer_by_shards.ensures.some
