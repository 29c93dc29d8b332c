use Rattle.std.proofs.Common.{◌≡◌, ◌∙◌, refl, bytes_eq, false, true≢false, sym, ap, Option, Some, None}
use Rattle.std.specs.Option.{is_some}
use Rattle.indexmap.proofs.CallerLemmas.{insert_entry-new}
use Rattle.snapshot.proofs.entries.put_new.Goals as goal

none_of : {X : Type 0} (o : Option X) → is_some o ≡ false → o ≡ None
none_of None h = refl
none_of (Some x) h = absurd (true≢false h)

pub returns-in-Ok-clause-ok : goal.returns-in-Ok-clause-ok
returns-in-Ok-clause-ok g c =
    c.in-Ok.ensures.entries
    ∙ insert_entry-new bytes_eq c.args.tenants.now c.args.name c.args.tenant
    (none_of _ (sym c.contains_key.ensures ∙ c.if-contains_key.false))

pub returns-then-contains_key-clause-err : goal.returns-then-contains_key-clause-err
returns-then-contains_key-clause-err g c = λ none.
    absurd (true≢false (sym c.if-contains_key.true ∙ (c.contains_key.ensures ∙ ap is_some none)))
