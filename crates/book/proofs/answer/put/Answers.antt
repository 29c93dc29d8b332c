use Rattle.std.proofs.Common.{bytes_eq, ap, ◌∷◌, [], ◌∙◌}
use Rattle.std.proofs.lemmas.List.{map-append}
use Rattle.std.specs.Map.{keys_of}
use Rattle.indexmap.proofs.CallerLemmas.{insert_entry-new}
use Rattle.book.proofs.Replays.{other_way}
use Rattle.book.proofs.answer.put.Goals as goal

pub returns-in-Ok-clause-names : goal.returns-in-Ok-clause-names
returns-in-Ok-clause-names g c =
    ap keys_of (c.in-Ok.ensures.entries
    ∙ insert_entry-new bytes_eq c.args.tenants.now c.args.name c.args.tenant c.requires)
    ∙ map-append _ c.args.tenants.now.entries ((c.args.name, c.args.tenant) ∷ [])

pub returns-in-Ok-clause-others : goal.returns-in-Ok-clause-others
returns-in-Ok-clause-others g c = λ t e. c.in-Ok.ensures.updates.2 t (other_way t c.args.name e)
