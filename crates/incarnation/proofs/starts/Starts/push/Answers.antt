use Rattle.std.proofs.Common.{◌∙◌, ap, subst, ℕ, List, [], ◌∷◌, ◌++◌}
use Rattle.incarnation.proofs.StartsLaws.{keeps_push, FindsLow}
use Rattle.incarnation.proofs.starts.Starts.push.Goals as goal

pub invariant_of-self-2 : goal.invariant_of-self-2
invariant_of-self-2 c =
    keeps_push c.self.inside.starts.items
    c.self.inside.of_16.items c.self.inside.of_256.items c.self.inside.of_4096.items
    c.push_reserved.new.self.items
    c.push_reserved-2.new.self.items c.push_reserved-3.new.self.items c.push_reserved-4.new.self.items
    c.args.start c.low_of-of_16.result c.low_of-of_256.result c.low_of-of_4096.result
    (c.push_reserved.ensures.items ∙ ap (λ (xs : List ℕ). xs ++ c.args.start ∷ []) c.reserve.ensures.items)
    (c.push_reserved-2.ensures.items ∙ ap (λ (xs : List ℕ). xs ++ c.low_of-of_16.result ∷ []) c.reserve-2.ensures.items)
    (c.push_reserved-3.ensures.items
    ∙ ap (λ (xs : List ℕ). xs ++ c.low_of-of_256.result ∷ []) c.reserve-3.ensures.items)
    (c.push_reserved-4.ensures.items
    ∙ ap (λ (xs : List ℕ). xs ++ c.low_of-of_4096.result ∷ []) c.reserve-4.ensures.items)
    c.self.invariant
    (subst (λ (xs : List ℕ). FindsLow xs c.args.start 1 c.low_of-of_16.result 16)
    c.as_slice.ensures.value c.low_of-of_16.ensures)
    (subst (λ (xs : List ℕ). FindsLow xs c.low_of-of_16.result 16 c.low_of-of_256.result 256)
    c.as_slice-2.ensures.value c.low_of-of_256.ensures)
    (subst (λ (xs : List ℕ). FindsLow xs c.low_of-of_256.result 256 c.low_of-of_4096.result 4096)
    c.as_slice-3.ensures.value c.low_of-of_4096.ensures)
