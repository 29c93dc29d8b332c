use Rattle.std.proofs.Common.{◌≡◌, sym, ◌∙◌, ap, length}
use Rattle.std.specs.Prelude.{◌==◌}
use Rattle.std.specs.List.{filter}
use Rattle.std.proofs.lemmas.List.Sums.{length-filter}
use Rattle.std.proofs.lemmas.Option.{same_Some}
use Rattle.model.specs.declared.names.Row.{Row}
use Rattle.theory.specs.Laws.{rows_of}
use Rattle.unit_steps.specs.SentLetters.{is_spent_to}
use Rattle.tenant.specs.Kept.{TenantState, Member}
use Rattle.tenant.proofs.tenant.Tenant.lengths.Goals as goal

pub returns-in-Some-clause-lengths : goal.returns-in-Some-clause-lengths
returns-in-Some-clause-lengths g c = λ m found.
    let u = c.args.unit in
    let is : c.in-Some.member.now ≡ m = same_Some c.in-Some.member.now m (sym c.in-Some.ensures ∙ found) in
    let rows : length (filter (λ (r : Row). r.unit == u) c.self.inside.table) ≡ rows_of c.args.self.now.table u =
    length-filter (λ (r : Row). r.unit == u) c.self.inside.table
    ∙ ap (λ (t : TenantState g.row.H-State.Denot). rows_of t.table u) c.self.view_is in
    record {
      intervals = c.interval_count.ensures ∙ ap (λ (z : Member g.row.H-State.Denot). length z.unit_state.intervals) is;
      volatile = c.volatile_count.ensures ∙ ap (λ (z : Member g.row.H-State.Denot). length z.unit_state.volatile) is;
      held = c.held_count.ensures ∙ ap (λ (z : Member g.row.H-State.Denot). length z.outputs) is;
      rows = ap length c.rows_of.ensures ∙ rows;
      spent =
          c.count_spent_to.ensures
          ∙ ap (λ (t : TenantState g.row.H-State.Denot). length (filter (is_spent_to u) t.letters)) c.self.view_is;
      released = c.released_count.ensures;
      texts = c.text_count.ensures.count;
    }
