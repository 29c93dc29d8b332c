use Rattle.std.proofs.Common.{◌≡◌, sym, ◌∙◌, ap, subst, ℕ, ◌-◌, length, true}
use Rattle.std.specs.Prelude.{Some, option_map}
use Rattle.std.specs.Option.{is_some}
use Rattle.checkpoint.specs.declared.snapshot.Snapshot.{Snapshot}
use Rattle.checkpoint.specs.Shelves.{Shelved, IsTop, nearest_of}
use Rattle.compact.specs.Compact.{Progress}
use Rattle.rollback.specs.Units.{Recovering, KeepsShelved, places}
use Rattle.rollback.proofs.StaysKept.{kept_shelved, last_top}
use Rattle.rollback.proofs.Snapshots.{shelved_keeps, shelved_nearest}
use Rattle.rollback.proofs.unit.RecoveryUnit.checkpoint.Goals as goal

pub invariant_of-self-2 : goal.invariant_of-self-2
invariant_of-self-2 g c =
    kept_shelved (record {
      seat = c.self.inside.seat;
      progress = c.self.inside.progress;
      base = c.self.inside.base;
      outside = c.self.inside.outside;
      shelf = c.self.inside.shelf;
      intervals = c.self.inside.intervals.items;
      volatile = c.self.inside.volatile.records;
    })
    c.shelve.new.shelf c.last_index-index.result c.self.inside.progress c.self.invariant
    (ap (λ (u : Recovering _). length u.volatile) c.self.view_is
    ∙ c.requires) c.last_index-index.ensures c.in_ok-shelve.ensures.ok

pub returns-clause-nearest : goal.returns-clause-nearest
returns-clause-nearest g c = λ up.
    let u : Recovering _ = (record {
      seat = c.self.inside.seat;
      progress = c.self.inside.progress;
      base = c.self.inside.base;
      outside = c.self.inside.outside;
      shelf = c.self.inside.shelf;
      intervals = c.self.inside.intervals.items;
      volatile = c.self.inside.volatile.records;
    }) in
    let top : IsTop u.shelf c.last_index-index.result = last_top u c.last_index-index.result c.self.invariant
    (ap (λ (u : Recovering _). length u.volatile) c.self.view_is ∙ c.requires) c.last_index-index.ensures in
    let there : is_some u.progress ≡ true =
    subst (λ (u : Recovering _). is_some u.progress ≡ true) (sym c.self.view_is) up in
    let at : c.last_index-index.result ≡ places c.args.self.now - 1 =
    c.last_index-index.ensures ∙ ap (λ (u : Recovering _). places u - 1) c.self.view_is in
    subst (λ (n : ℕ). option_map (λ (s : Snapshot (Progress _)). s.index) (nearest_of c.shelve.new.shelf n) ≡ Some n) at
    (subst (λ (s : Shelved (Progress _)). option_map (λ (s : Snapshot (Progress _)). s.index)
    (nearest_of s c.last_index-index.result) ≡ Some c.last_index-index.result) (sym c.in_ok-shelve.ensures.ok)
    (shelved_nearest u.shelf c.last_index-index.result u.progress top c.self.invariant.rises there))

pub returns-clause-kept : goal.returns-clause-kept
returns-clause-kept g c =
    let u : Recovering _ = (record {
      seat = c.self.inside.seat;
      progress = c.self.inside.progress;
      base = c.self.inside.base;
      outside = c.self.inside.outside;
      shelf = c.self.inside.shelf;
      intervals = c.self.inside.intervals.items;
      volatile = c.self.inside.volatile.records;
    }) in
    subst (λ (u : Recovering _). KeepsShelved u.shelf c.shelve.new.shelf) c.self.view_is
    (subst (λ (s : Shelved (Progress _)). KeepsShelved u.shelf s)
    (sym c.in_ok-shelve.ensures.ok) (shelved_keeps u.shelf c.last_index-index.result u.progress))
