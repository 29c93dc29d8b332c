use Rattle.std.proofs.Common.{◌∙◌, ap, sym, subst}
use Rattle.shared_log.specs.Filled.{pairs_at, AreLiveIn, HaveAllLive}
use Rattle.shared_log.proofs.LiveLaws.{pairs_have, pairs_live}
use Rattle.snapshot.specs.Logs.{LeaveRoom}
use Rattle.snapshot.proofs.log.live_pairs.Goals as goal

pub returns-clause-live : goal.returns-clause-live
returns-clause-live c =
    let rs = c.args.log.now.records in
    let is = c.in_ok-pairs.ensures.pairs ∙ ap (pairs_at c.args.log.now.records) c.deref.ensures.value in
    subst (AreLiveIn c.args.log.now.records) (sym is) (pairs_live rs c.in_ok-places.places.items)

pub returns-clause-all : goal.returns-clause-all
returns-clause-all c =
    let rs = c.args.log.now.records in
    let is = c.in_ok-pairs.ensures.pairs ∙ ap (pairs_at c.args.log.now.records) c.deref.ensures.value in
    let places = c.in_ok-places.places.items in
    subst (HaveAllLive c.args.log.now.records) (sym is)
    (λ place r live. pairs_have rs places place r (c.in_ok-places.ensures.all place r live) live)

pub returns-clause-room : goal.returns-clause-room
returns-clause-room c =
    let is = c.in_ok-pairs.ensures.pairs ∙ ap (pairs_at c.args.log.now.records) c.deref.ensures.value in
    subst LeaveRoom (sym is) c.in_ok-places.ensures.room
