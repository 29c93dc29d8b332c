use Rattle.std.proofs.Common.{inl, inr, ◌∙◌, ap, ◌-◌, length}
use Rattle.shared_log.specs.Logged.{places_of}
use Rattle.shared_log.proofs.LeftLaws.{same_grows}
use Rattle.tenant.proofs.Going.{grows_on, others_on, went}
use Rattle.tenant.proofs.Places.{places_same}
use Rattle.model.specs.declared.replies.Said.{Said}
use Rattle.tenant.proofs.tenant.Tenant.return_to.Goals as goal

pub progress_at-requires-after_bounds : goal.progress_at-requires-after_bounds
progress_at-requires-after_bounds g c κs within =
    c.requires.target c.member_there-member.result.now c.member_there-member.ensures

pub returns-in-Err-Device-clause-beside : goal.returns-in-Err-Device-clause-beside
returns-in-Err-Device-clause-beside g c = (
  same_grows c.args.log.now.records c.progress_at.new.log.records c.progress_at.ensures.records,
  λ n x other. places_same c.args.log.now c.progress_at.new.log c.progress_at.ensures.records n x,
)

pub returns-clause-returns : goal.returns-clause-returns
returns-clause-returns g c = λ m found.
    inl (went c.args.tenant.now
    c.args.unit c.args.log.now c.progress_at.new.log c.cut_behind.new.log c.progress_at.ensures.records
    g.H.Handler.meaning c.args.self.now m c.member_there-member.result.now c.args.target
    c.member_there-member.ensures found c.args.reply c.in_ok-answer.answer
    c.enter_back.new.self c.live_records_until-keep.result c.predecessor_records-skipped.result c.in-Ok.progress
    c.in_ok-answer.ensures c.in-Ok.ensures.replayed
    (c.in_ok-enter_back.ensures.ok m found) c.live_records_until-keep.ensures
    (c.predecessor_records-skipped.ensures
    ∙ ap (λ n. length (places_of c.args.tenant.now c.args.unit c.args.log.now) - n)
    c.live_count.ensures) c.cut_behind.ensures.own c.cut_behind.ensures.others c.cut_behind.ensures.grows)

pub returns-clause-beside : goal.returns-clause-beside
returns-clause-beside g c = (
  grows_on c.args.tenant.now c.args.unit c.args.log.now
      c.progress_at.new.log c.cut_behind.new.log c.progress_at.ensures.records c.cut_behind.ensures.grows,
  others_on c.args.tenant.now c.args.unit c.args.log.now
      c.progress_at.new.log c.cut_behind.new.log c.progress_at.ensures.records c.cut_behind.ensures.others,
)

pub returns-in-Err-Device-clause-steady : goal.returns-in-Err-Device-clause-steady
returns-in-Err-Device-clause-steady g c = inr (ap (λ (s : Said). s.end) c.device_failed.ensures.said)

pub returns-clause-steady : goal.returns-clause-steady
returns-clause-steady g c = inl (c.cut_behind.ensures.failures ∙ c.in-Ok.ensures.steady (λ e. absurd (cc e)))
