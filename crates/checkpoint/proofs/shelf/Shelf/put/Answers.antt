use Rattle.std.proofs.Common.{◌≡◌, sym, ◌∙◌, subst, false}
use Rattle.checkpoint.specs.Shelves.{Shelved, IsTop, has_index}
use Rattle.checkpoint.proofs.Rising.{rises_put}
use Rattle.checkpoint.proofs.shelf.Shelf.put.Goals as goal

pub invariant_of-self-2 : goal.invariant_of-self-2
invariant_of-self-2 g c =
    rises_put c.self.inside.base
    c.self.inside.others.items c.push_last.new.others.items c.args.snapshot c.in_ok-push_last.ensures.ok
    (subst (λ (s : Shelved _). has_index s c.args.snapshot.index ≡ false)
    (sym c.self.view_is) (sym c.has.ensures ∙ c.if-has.false))
    (subst (λ (s : Shelved _). IsTop s c.args.snapshot.index) (sym c.self.view_is) c.requires)
    c.self.invariant
