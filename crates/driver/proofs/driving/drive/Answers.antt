use Rattle.lines.specs.Serving.{EntersStep}
use Rattle.driver.specs.Driving.{BookDrives}
use Rattle.driver.proofs.Rounds.{drove_all, drove_some}
use Rattle.driver.proofs.driving.drive.Goals as goal

pub returns-clause-all : goal.returns-clause-all
returns-clause-all g c =
    drove_all _ _ EntersStep (λ p q step reply is. is.1) BookDrives
    c.args.book.now c.drive_by.new.book (λ lines rounds p. p) c.drive_by.result _ _ _ c.drive_by.ensures.all

pub returns-clause-some : goal.returns-clause-some
returns-clause-some g c =
    drove_some _ _ EntersStep (λ p q step reply is. is.1) BookDrives
    c.args.book.now c.drive_by.new.book (λ lines rounds p. p) c.drive_by.result _ _ _ _ c.drive_by.ensures.some
