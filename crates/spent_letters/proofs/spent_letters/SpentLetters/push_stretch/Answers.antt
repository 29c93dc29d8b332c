use Rattle.std.proofs.Common.{◌≡◌, ◌∙◌, sym, ap, subst, arith, [], ◌∷◌, ◌++◌, length, length-append, reverse, true}
use Rattle.std.proofs.lemmas.List.{reverse-append}
use Rattle.spent_letters.specs.Stretches.{follows, grown, letters_of, packed, IsPacked, Packed}
use Rattle.spent_letters.proofs.Growing.{grown_length}
use Rattle.spent_letters.proofs.Packing.{follows_full, follows_parts, more_letters, more_packed, packed_back}
use Rattle.spent_letters.proofs.spent_letters.SpentLetters.push_stretch.Goals as goal

pub returns-then-not-can_follow-clause-done : goal.returns-then-not-can_follow-clause-done
returns-then-not-can_follow-clause-done c =
    sym c.if-not-can_follow.true ∙ c.can_follow.ensures
    ∙ follows_parts c.args.self.now c.self.inside.stretches.items _ c.self.inside.tail.items _ c.args.head.items _
    c.self.invariant.0 c.self.view_is c.as_slice-stretches.ensures.value c.as_slice.ensures.value
    c.as_slice-2.ensures.value

pub invariant_of-self-2 : goal.invariant_of-self-2
invariant_of-self-2 c =
    let own = c.self.inside in
    let p : Packed = record { stretches = reverse own.stretches.items; tail = own.tail.items } in
    let head = c.args.head.items in
    let follow : follows p head ≡ true =
    ap (λ q. follows q head) (sym (packed_back p c.self.invariant.0) ∙ ap packed c.self.view_is)
    ∙ sym (follows_parts c.args.self.now own.stretches.items _ own.tail.items _ head _ c.self.invariant.0 c.self.view_is
    c.as_slice-stretches.ensures.value c.as_slice.ensures.value c.as_slice-2.ensures.value)
    ∙ sym c.can_follow.ensures ∙ c.if-not-can_follow.false in
    let is = ap reverse (c.in_ok-push.ensures.items ∙ ap (λ s. own.stretches.items ++ s ∷ []) c.new.ensures)
    ∙ reverse-append own.stretches.items (record { start = own.len; head = head; more = c.args.more } ∷ []) in
    let all = ap (λ ss. length (letters_of (record { stretches = ss; tail = own.tail.items }))) is in
    let letters = ap length (more_letters p own.len head c.args.more follow) in
    let parts = length-append (letters_of p) (grown head c.args.more) in
    let grown_is = grown_length head c.args.more (follows_full p head follow) in
    let before = c.self.invariant.1 in
    let len = c.in_ok-len.ensures in (
      subst (λ ss. IsPacked (record { stretches = ss; tail = own.tail.items })) (sym is)
          (more_packed p own.len head c.args.more c.self.invariant.0 before follow),
      omega (arith, all, letters, parts, grown_is, before, len.0),
      len.1,
    )

pub returns-clause-ok : goal.returns-clause-ok
returns-clause-ok c =
    let own = c.self.inside in
    let p : Packed = record { stretches = reverse own.stretches.items; tail = own.tail.items } in
    let head = c.args.head.items in
    let follow : follows p head ≡ true =
    ap (λ q. follows q head) (sym (packed_back p c.self.invariant.0) ∙ ap packed c.self.view_is)
    ∙ sym (follows_parts c.args.self.now own.stretches.items _ own.tail.items _ head _ c.self.invariant.0 c.self.view_is
    c.as_slice-stretches.ensures.value c.as_slice.ensures.value c.as_slice-2.ensures.value)
    ∙ sym c.can_follow.ensures ∙ c.if-not-can_follow.false in
    let is = ap reverse (c.in_ok-push.ensures.items ∙ ap (λ s. own.stretches.items ++ s ∷ []) c.new.ensures)
    ∙ reverse-append own.stretches.items (record { start = own.len; head = head; more = c.args.more } ∷ []) in
    ap (λ ss. letters_of (record { stretches = ss; tail = own.tail.items })) is
    ∙ more_letters p own.len head c.args.more follow
    ∙ ap (λ l. l ++ grown head c.args.more) c.self.view_is

pub returns-clause-done : goal.returns-clause-done
returns-clause-done c =
    sym c.if-not-can_follow.false ∙ c.can_follow.ensures
    ∙ follows_parts c.args.self.now c.self.inside.stretches.items _ c.self.inside.tail.items _ c.args.head.items _
    c.self.invariant.0 c.self.view_is c.as_slice-stretches.ensures.value c.as_slice.ensures.value
    c.as_slice-2.ensures.value
