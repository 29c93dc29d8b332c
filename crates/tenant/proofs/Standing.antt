-- Whether a tenant stands for a world, opened for the proofs of this crate, and closed again.
use Rattle.std.proofs.Common.{ℕ, List}
use Rattle.std.specs.Prelude.{Option}
use Rattle.model.specs.declared.records.Record.{Record}
use Rattle.model.specs.Handler.{Meaning}
use Rattle.model.specs.World.{World}
use Rattle.tenant.specs.Kept.{TenantState}
use Rattle.tenant.specs.Stands.{IsStanding, Stands}

-- That a tenant stands for a world can be opened.
pub opened : {S : Type 0} {M : Meaning S} {name : List ℕ} {t : TenantState S}
    {w : World} {records : List (Option Record)} → Stands M name t w records → IsStanding M name t w records
unfolding Stands
opened s = s

-- That a tenant stands for a world can be closed again.
pub closed : {S : Type 0} {M : Meaning S} {name : List ℕ} {t : TenantState S}
    {w : World} {records : List (Option Record)} → IsStanding M name t w records → Stands M name t w records
unfolding Stands
closed s = s
