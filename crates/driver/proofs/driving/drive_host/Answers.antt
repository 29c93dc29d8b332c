use Rattle.lines.specs.Serving.{HostDoes}
use Rattle.driver.specs.Driving.{HostDrives}
use Rattle.driver.proofs.Rounds.{drove_all, drove_some, host_drives}
use Rattle.driver.proofs.driving.drive_host.Goals as goal

pub returns-clause-all : goal.returns-clause-all
returns-clause-all g c =
    let M = g.H.Handler.meaning in
    drove_all _ _ (HostDoes M) (λ p q step reply is. is.1) (HostDrives M) c.args.host.now c.drive_by.new.book
    (λ lines rounds p. host_drives M lines _ rounds _ p) c.drive_by.result _ _ _ c.drive_by.ensures.all

pub returns-clause-some : goal.returns-clause-some
returns-clause-some g c =
    let M = g.H.Handler.meaning in
    drove_some _ _ (HostDoes M) (λ p q step reply is. is.1) (HostDrives M) c.args.host.now c.drive_by.new.book
    (λ lines rounds p. host_drives M lines _ rounds _ p) c.drive_by.result _ _ _ _ c.drive_by.ensures.some
