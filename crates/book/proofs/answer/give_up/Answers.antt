use Rattle.std.proofs.Common.{bytes_eq, rules, sym}
use Rattle.indexmap.specs.IndexMap.{get}
use Rattle.book.proofs.Standing.{none_then, none_there}
use Rattle.book.proofs.answer.give_up.Goals as goal

pub returns-in-Some-clause-none : goal.returns-in-Some-clause-none
returns-in-Some-clause-none g c =
    none_then (get bytes_eq c.args.tenants.now) (get bytes_eq (c.get_mut.follows.lender c.give_up.new.self))
    c.args.name.now _ c.in-Some.tenant.now c.give_up.new.self (search rules) (search rules) (search rules)
    c.give_up.ensures.none

pub returns-in_default-clause-none : goal.returns-in_default-clause-none
returns-in_default-clause-none g c =
    rw (c.get_mut.follows.holds-at-none) (none_there (get bytes_eq c.args.tenants.now) c.args.name.now _
    (sym c.in_default.ensures.value))
