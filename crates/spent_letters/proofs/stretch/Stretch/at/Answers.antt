use Rattle.std.proofs.Common.{◌∙◌, refl, sym, ap, subst, arith, ◌+◌, ◌<◌, ◌%◌, length}
use Rattle.std.specs.Prelude.{slice_get}
use Rattle.std.proofs.lemmas.Nat.{mod_below}
use Rattle.std.proofs.lemmas.Option.{slice_get_read}
use Rattle.spent_letters.specs.Stretches.{grown, Stretch}
use Rattle.spent_letters.proofs.Growing.{grown_head, grown_more}
use Rattle.spent_letters.proofs.Periods.{period_bounds}
use Rattle.spent_letters.proofs.stretch.Stretch.at.Goals as goal

pub returns-then-place-lt-HEAD : goal.returns-then-place-lt-HEAD
returns-then-place-lt-HEAD c =
    let own = c.self.inside in
    let test = c.if-place-lt-HEAD.true in
    let long = c.self.invariant.1 in
    ap (λ (s : Stretch). slice_get (grown s.head s.more) c.args.place) (sym c.self.view_is)
    ∙ grown_head own.head.items own.more c.args.place _
    (slice_get_read own.head.items (length own.head.items) c.args.place _ refl (omega (arith, test, long))
    c.index.ensures)

pub nonzero_rem-place : goal.nonzero_rem-place
nonzero_rem-place c =
    subst (λ n. 0 < n) (sym c.self.invariant.0) (period_bounds c.self.inside.head.items c.self.invariant.1).0

pub index-requires-2 : goal.index-requires-2
index-requires-2 c =
    let own = c.self.inside in
    let bounds = period_bounds own.head.items c.self.invariant.1 in
    let is = c.self.invariant.0 in
    let long = c.self.invariant.1 in
    let below = mod_below c.args.place own.period (subst (λ n. 0 < n) (sym is) bounds.0) in
    omega (arith, below, is, long, bounds.1)

pub returns : goal.returns
returns c =
    let own = c.self.inside in
    let bounds = period_bounds own.head.items c.self.invariant.1 in
    let is = c.self.invariant.0 in
    let long = c.self.invariant.1 in
    let below = mod_below c.args.place own.period (subst (λ n. 0 < n) (sym is) bounds.0) in
    let within = subst (λ (s : Stretch). c.args.place < 128 + s.more) (sym c.self.view_is) c.requires in
    ap (λ (s : Stretch). slice_get (grown s.head s.more) c.args.place) (sym c.self.view_is)
    ∙ grown_more own.head.items own.more c.args.place _ long c.if-place-lt-HEAD.false within
    (ap (λ n. slice_get own.head.items (c.args.place % n)) (sym is)
    ∙ slice_get_read own.head.items (length own.head.items) (c.args.place % own.period) _ refl
    (omega (arith, below, is, long, bounds.1)) c.index-2.ensures)
