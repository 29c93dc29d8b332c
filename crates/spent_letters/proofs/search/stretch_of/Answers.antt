use Rattle.std.proofs.Common.{◌≡◌, ◌∙◌, sym, ap, arith, suc, length, reverse, get_or}
use Rattle.std.specs.Prelude.{slice_get}
use Rattle.std.proofs.lemmas.List.{length-reverse, reverse-reverse}
use Rattle.std.proofs.lemmas.Option.{slice_get_within, slice_get-get_or}
use native.Mathlib.Decide.{dec_lt}
use Rattle.spent_letters.specs.Stretches.{Stretch}
use Rattle.spent_letters.proofs.Finding.{first_start, last_end, middle_is, next_start, some_letters}
use Rattle.spent_letters.proofs.search.stretch_of.Goals as goal

pub loop-high-init : goal.loop-high-init
loop-high-init c =
    let xs = c.args.stretches.now in record {
      order = some_letters xs c.args.number c.requires.within;
      within = omega (arith);
      below = λ s at.
          let is = first_start (reverse xs) s c.requires.whole (ap (λ l. slice_get l 0) (reverse-reverse xs) ∙ at) in
          omega (arith, is);
      above = λ s at. let within = slice_get_within xs (length xs) s at in absurd (omega (arith, within));
    }

pub loop-high-preserved-then-start-number : goal.loop-high-preserved-then-start-number
loop-high-preserved-then-start-number c =
    let test = c.loop-high-test.true in
    let own = c.loop-high.invariant in
    record {
      order = let o = own.order in omega (arith, test, o);
      within = own.within;
      below = λ s at.
          let is = middle_is c.args.stretches.now _ s c.index-stretches-middle.result at c.index-stretches-middle.is in
          let found = c.if-start-number.true in
          let start = c.start.ensures ∙ ap (λ (t : Stretch). t.start) is in
          omega (arith, found, start);
      above = own.above;
    }

pub loop-high-preserved : goal.loop-high-preserved
loop-high-preserved c =
    let test = c.loop-high-test.true in
    let own = c.loop-high.invariant in
    record {
      order = omega (arith, test);
      within = let o = own.order in let w = own.within in omega (arith, test, o, w);
      below = own.below;
      above = λ s at.
          let is = middle_is c.args.stretches.now _ s c.index-stretches-middle.result at c.index-stretches-middle.is in
          let found = c.if-start-number.false in
          let start = c.start.ensures ∙ ap (λ (t : Stretch). t.start) is in
          omega (arith, found, start);
    }

pub returns-clause-has : goal.returns-clause-has
returns-clause-has c = λ s at.
    let xs = c.args.stretches.now in
    let own = c.loop-high.invariant in
    let order = own.order in
    let within = own.within in
    let test = c.loop-high-test.false in
    let next : c.loop-high.high ≡ suc c.loop-high.low = omega (arith, order, test) in
    let here = ap (λ l. slice_get l c.loop-high.low) (reverse-reverse xs) ∙ at in
    let begins = own.below s at in
    elim (dec_lt c.loop-high.high (length xs)) [
      | yes h ↦
          let t = get_or xs c.loop-high.high s in
          let there = slice_get-get_or xs c.loop-high.high s h in
          let behind = ap (λ l. slice_get l (suc c.loop-high.low)) (reverse-reverse xs)
          ∙ ap (slice_get xs) (sym next) ∙ there in
          let ends = next_start (reverse xs) c.loop-high.low s t c.requires.whole here behind in
          let above = own.above t there in (begins, omega (arith, ends, above))
      | no h ↦
          let long = length-reverse xs in
          let ends = last_end (reverse xs) c.loop-high.low s c.requires.whole here
          (omega (arith, h, next, within, long)) in
          let has = c.requires.within in (begins, omega (arith, ends, has))
    ]
