use Rattle.std.proofs.Common.{◌∙◌, refl, sym, ap, subst, arith, ◌+◌, ◌<◌, ◌%◌, length}
use Rattle.std.specs.Prelude.{slice_get}
use Rattle.std.proofs.lemmas.Nat.{mod_below}
use Rattle.std.proofs.lemmas.Option.{slice_get_read}
use Rattle.spent_letters.specs.Stretches.{next, Stretch}
use Rattle.spent_letters.proofs.Periods.{period_bounds, told_as}
use Rattle.spent_letters.proofs.stretch.Stretch.tells.Goals as goal

pub nonzero_rem-self-inside : goal.nonzero_rem-self-inside
nonzero_rem-self-inside c =
    subst (λ n. 0 < n) (sym c.self.invariant.0) (period_bounds c.self.inside.head.items c.self.invariant.1).0

pub index-requires : goal.index-requires
index-requires c =
    let own = c.self.inside in
    let bounds = period_bounds own.head.items c.self.invariant.1 in
    let is = c.self.invariant.0 in
    let long = c.self.invariant.1 in
    let below = mod_below (128 + own.more) own.period (subst (λ n. 0 < n) (sym is) bounds.0) in
    omega (arith, below, is, long, bounds.1)

pub returns : goal.returns
returns c =
    let own = c.self.inside in
    let bounds = period_bounds own.head.items c.self.invariant.1 in
    let is = c.self.invariant.0 in
    let long = c.self.invariant.1 in
    let below = mod_below (128 + own.more) own.period (subst (λ n. 0 < n) (sym is) bounds.0) in
    let next_is =
    ap (λ (s : Stretch). next s) (sym c.self.view_is)
    ∙ ap (λ n. slice_get own.head.items ((128 + own.more) % n)) (sym is)
    ∙ slice_get_read own.head.items (length own.head.items) ((128 + own.more) % own.period) _ refl
    (omega (arith, below, is, long, bounds.1)) c.index.ensures in
    c.is_as.ensures ∙ told_as (next c.args.self.now) _ c.args.letter.now next_is
