use Rattle.std.proofs.Common.{sym, lt-ltb}
use Rattle.shared_log.proofs.FilledLaws.{last_below}
use Rattle.shared_log.proofs.shared_log.is_past.Goals as goal

pub returns-in-Some-clause-found : goal.returns-in-Some-clause-found
returns-in-Some-clause-found c = λ all.
    lt-ltb c.in-Some.last.now c.args.place
    (last_below c.args.places.now c.args.place c.in-Some.last.now (sym c.in-Some.ensures.value) all)
