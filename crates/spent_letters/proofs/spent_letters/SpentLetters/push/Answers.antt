use Rattle.std.proofs.Common.{◌∙◌, sym, ap, subst, arith, [], ◌∷◌, ◌++◌, length, length-append, reverse}
use Rattle.spent_letters.specs.Stretches.{letters_of, IsPacked, Packed}
use Rattle.spent_letters.proofs.Packing.{pushed_letters, pushed_packed}
use Rattle.spent_letters.proofs.spent_letters.SpentLetters.push.Goals as goal

pub invariant_of-self-2 : goal.invariant_of-self-2
invariant_of-self-2 c =
    let own = c.self.inside in
    let p : Packed = record { stretches = reverse own.stretches.items; tail = own.tail.items } in
    let is = c.in_ok-add.ensures.ok in
    let all = ap (λ q. length (letters_of q)) is in
    let more = ap length (pushed_letters p c.args.letter) in
    let one = length-append (letters_of p) (c.args.letter ∷ []) in
    let len = c.self.invariant.1 in (
      subst IsPacked (sym is) (pushed_packed p c.args.letter c.self.invariant.0),
      omega (arith, all, more, one, len),
      let room = c.if-self-ge-MOST.false in omega (arith, room),
    )

pub returns-clause-ok : goal.returns-clause-ok
returns-clause-ok c =
    let own = c.self.inside in
    let p : Packed = record { stretches = reverse own.stretches.items; tail = own.tail.items } in
    ap letters_of c.in_ok-add.ensures.ok
    ∙ pushed_letters p c.args.letter
    ∙ ap (λ l. l ++ c.args.letter ∷ []) c.self.view_is
