use Rattle.std.proofs.Common.{ap, subst, sym, List, ℕ}
use Rattle.std.specs.Prelude.{Option}
use Rattle.indexmap.specs.IndexMap.{keys}
use Rattle.model.specs.declared.records.Record.{Record}
use Rattle.shared_log.specs.Filled.{NamesAllTenants}
use Rattle.shared_log.specs.Logged.{Logged}
use Rattle.shared_log.proofs.FilledLaws.{keys_name}
use Rattle.shared_log.proofs.shared_log.SharedLog.tenants.Goals as goal

pub returns-clause-all : goal.returns-clause-all
returns-clause-all g c =
    subst (λ (names : List (List ℕ)). NamesAllTenants c.args.self.now.records names) (sym c.tenants.ensures.names)
    (subst (λ (rs : List (Option Record)). NamesAllTenants rs (keys c.self.inside.index))
    (ap (λ (l : Logged). l.records) c.self.view_is)
    (keys_name c.self.inside.index (g.S.Store.log c.self.inside.store) c.self.invariant.1))
