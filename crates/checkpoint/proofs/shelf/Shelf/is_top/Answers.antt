use Rattle.std.proofs.Common.{sym, ◌∙◌, ap, List}
use Rattle.checkpoint.specs.declared.snapshot.Snapshot.{Snapshot}
use Rattle.checkpoint.specs.Shelves.{Shelved, tops}
use Rattle.checkpoint.proofs.Tops.{top_is}
use Rattle.checkpoint.proofs.shelf.Shelf.is_top.Goals as goal

pub returns-clause-top : goal.returns-clause-top
returns-clause-top g c = λ e. top_is c.args.self.now c.args.index
    (sym (c.is_top_of.ensures ∙ ap (λ (s : Shelved _). tops s c.args.index)
    (ap (λ (others : List (Snapshot _)). let s : Shelved _ = record { base = c.self.inside.base; others = others } in
    s) c.as_slice.ensures.value ∙ c.self.view_is)) ∙ e)
