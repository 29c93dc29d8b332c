use Rattle.std.proofs.Common.{◌<◌, ◌∙◌, length, map, subst}
use Rattle.dealing.specs.Dealing.{OneDoes, dealt}
use Rattle.shards.specs.Blocks.{AnswersEachBy, Tells, merged}
use Rattle.shards.proofs.Answered.{all_answers, answered, below, idle, told_new}
use Rattle.shards.proofs.answering.step_lines.Goals as goal

pub returns-clause-stepped : goal.returns-clause-stepped
returns-clause-stepped g c =
    let so = c.read_and_deal.ensures.dealt in
    let answers = all_answers (Tells g.H.Handler.meaning c.args.drives) (λ s. s.steps.items) (λ s. s.host)
    (λ s. s.bytes.items) (λ s. s.lens.items)
    c.read_and_deal.new.shards c.run_all.new.shards c.run_all.auto.shards c.run_all.ensures.ran in (
      so.readings,
      answers,
      so.are_read,
      so.counted,
      subst (λ hs. AnswersEachBy (OneDoes (Tells g.H.Handler.meaning c.args.drives)
          (dealt (length c.args.shards.now))) so.readings hs
          (merged c.read_and_deal.new.places.items answers) (map (λ s. s.host) c.run_all.new.shards))
          c.read_and_deal.ensures.hosts
          (answered (Tells g.H.Handler.meaning c.args.drives) (λ s. s.steps.items) (λ s. s.host)
          (λ s. s.bytes.items) (λ s. s.lens.items)
          c.read_and_deal.new.shards c.run_all.new.shards c.run_all.auto.shards c.run_all.ensures.ran
          (length c.args.shards.now) c.requires.some c.read_and_deal.auto.shards so.readings
          c.read_and_deal.new.places.items so.are_dealt),
      below (Tells g.H.Handler.meaning c.args.drives) (λ s. s.steps.items) (λ s. s.host) (λ s. s.bytes.items)
          (λ s. s.lens.items)
          c.read_and_deal.new.shards c.run_all.new.shards c.run_all.auto.shards c.run_all.ensures.ran
          (length c.args.shards.now) c.requires.some c.read_and_deal.auto.shards so.readings
          c.read_and_deal.new.places.items so.are_dealt (length c.run_all.new.shards)
          (c.run_all.auto.shards ∙ c.read_and_deal.auto.shards),
      told_new (Tells g.H.Handler.meaning c.args.drives) (λ s. s.steps.items) (λ s. s.host) (λ s. s.bytes.items)
          (λ s. s.lens.items)
          c.read_and_deal.new.shards c.run_all.new.shards c.run_all.auto.shards c.run_all.ensures.ran,
    )

pub returns-clause-idle : goal.returns-clause-idle
returns-clause-idle g c = idle (λ s. s.steps.items)
    c.run_all.new.shards (λ i d h. c.run_all.ensures.steps i d (subst (λ n. i < n) c.run_all.auto.shards h))
