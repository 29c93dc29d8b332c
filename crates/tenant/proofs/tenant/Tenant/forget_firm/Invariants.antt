use Rattle.std.proofs.Common.{◌≡◌, List, take}
use Rattle.model.specs.Keeping.{Shelf, all_based}
use Rattle.model.specs.World.{World}
use Rattle.tenant.specs.Bases.{IsBeside}
use Rattle.tenant.specs.Past.{KeepsPast}
use Rattle.tenant.specs.Live.{StaysJust}
use Rattle.tenant.specs.Stands.{Stands}
use Rattle.tenant.proofs.tenant.Tenant.forget_firm.Given as goal

-- whatever world the tenant stood for, it still stands for; and the bases of the units up to here moved
abbrev pub invariant-loop-at : goal.invariant-loop-at
invariant-loop-at g l = record {
  gone : l.self.gone ≡ l.fn.self.gone;
  released : l.self.released ≡ l.fn.self.released;
  stands : (w : World) → Stands g.H.Handler.meaning l.tenant l.fn.self w l.fn.log.records
      → Stands g.H.Handler.meaning l.tenant l.self w l.log.records;
  just : StaysJust g.H.Handler.meaning l.tenant l.fn.self l.fn.log.records l.self l.log.records;
  beside : IsBeside l.tenant l.fn.log l.log;
  bases : (w : World) (shelves : List Shelf) → Stands g.H.Handler.meaning l.tenant l.fn.self w l.fn.log.records
      → KeepsPast l.fn.self w shelves → KeepsPast l.self w (all_based w (take l.at w.members) shelves);
}
