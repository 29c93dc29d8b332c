use Rattle.std.proofs.Common.{◌≡◌, ◌∙◌, refl, sym, ap, subst, arith, ◌+◌, ◌-◌, ◌<◌, reverse, vec_len}
use Rattle.std.specs.Prelude.{slice_get, slice_set, Some}
use Rattle.std.proofs.lemmas.Option.{slice_get_read}
use Rattle.spent_letters.specs.Stretches.{lengthened}
use Rattle.spent_letters.proofs.Finding.{last_within}
use Rattle.spent_letters.proofs.Reversing.{ends, last_first, last_set, none_is}
use Rattle.spent_letters.proofs.spent_letters.lengthen.Goals as goal

pub lengthen-requires : goal.lengthen-requires
lengthen-requires c =
    let xs = c.args.stretches.now.items in
    let n = vec_len c.args.stretches.now in
    let few = c.requires.few in
    let some = c.in-Some.ensures.variant.0 refl in
    let last = subst (λ k. slice_get xs (k - 1) ≡ Some c.in-Some.stretch.now) c.args.stretches.now.ok.0
    (slice_get_read xs n (n - 1) c.in-Some.stretch.now c.args.stretches.now.ok.0 (omega (arith, some))
    c.in-Some.ensures.value) in
    let within = last_within xs c.in-Some.stretch.now c.requires.whole last in
    omega (arith, few, within)

pub returns-in-Some : goal.returns-in-Some
unfolding lengthened
returns-in-Some c =
    let xs = c.args.stretches.now.items in
    let n = vec_len c.args.stretches.now in
    let some = c.in-Some.ensures.variant.0 refl in
    let last = subst (λ k. slice_get xs (k - 1) ≡ Some c.in-Some.stretch.now) c.args.stretches.now.ok.0
    (slice_get_read xs n (n - 1) c.in-Some.stretch.now c.args.stretches.now.ok.0 (omega (arith, some))
    c.in-Some.ensures.value) in
    let e = ends xs c.in-Some.stretch.now last in
    ap (λ t. reverse (slice_set xs (n - 1) t)) c.lengthen.ensures
    ∙ ap (λ k. reverse (slice_set xs (k - 1) (record {
      start = c.in-Some.stretch.now.start;
      head = c.in-Some.stretch.now.head;
      more = c.in-Some.stretch.now.more + 1;
    }))) c.args.stretches.now.ok.0
    ∙ last_set xs c.in-Some.stretch.now _ e
    ∙ ap lengthened (sym (last_first xs c.in-Some.stretch.now e))

pub returns-in-None : goal.returns-in-None
unfolding lengthened
returns-in-None c =
    let is = none_is c.args.stretches.now.items (λ some.
    c.in-None.ensures.variant.1 (subst (λ n. 0 < n) (sym c.args.stretches.now.ok.0) some)) in
    ap reverse is ∙ ap (λ xs. lengthened (reverse xs)) (sym is)
