use Rattle.std.proofs.Common.{◌∙◌, ap, subst, List}
use Rattle.std.specs.Prelude.{MatchOption}
use Rattle.std.specs.Option.{option_copied}
use Rattle.checkpoint.specs.declared.snapshot.Snapshot.{Snapshot}
use Rattle.checkpoint.specs.Shelves.{Shelved, AllAbove, IsNearest}
use Rattle.checkpoint.proofs.shelf.Shelf.nearest.Goals as goal

pub returns-clause-greatest : goal.returns-clause-greatest
returns-clause-greatest g c =
    subst (λ (s : Shelved _). MatchOption
    (option_copied c.nearest_among.result) (AllAbove s c.args.index) (λ x. IsNearest s c.args.index x))
    (ap (λ (others : List (Snapshot _)). let s : Shelved _ = record { base = c.self.inside.base; others = others } in
    s) c.as_slice.ensures.value ∙ c.self.view_is)
    c.nearest_among.ensures.greatest
