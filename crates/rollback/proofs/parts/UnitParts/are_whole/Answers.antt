use Rattle.std.proofs.Common.{rules, ◌≡◌, ◌-◌, ◌<◌, ◌≤◌, ◌^◌, true, length}
use Rattle.std.specs.Prelude.{Some, option_map}
use Rattle.checkpoint.specs.Shelves.{tops}
use Rattle.rollback.specs.Units.{IsOutside, Marked, Recovering, places, stable_places}
use Rattle.rollback.proofs.Whole.{whole_is}
use Rattle.rollback.proofs.parts.UnitParts.are_whole.Goals as goal

pub returns-clause-whole : goal.returns-clause-whole
returns-clause-whole g c = λ counted.
    let u : Recovering g.row.S.Denot = c.args.self.now in
    let based : option_map (λ s. s.index) u.shelf.base ≡ Some u.base = search rules in
    let stable : length u.volatile < length u.intervals = search rules in
    let few : places u ≤ 2 ^ 32 = search rules in
    let top : tops u.shelf (stable_places u - 1) ≡ true = search rules in
    let marks : Marked (stable_places u) u.volatile = search rules in
    let outside : IsOutside u.base u.outside u.intervals = search rules in
    whole_is u based c.is_based.ensures.rises stable few top marks outside
