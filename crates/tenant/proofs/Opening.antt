-- A tenant that was opened stands for the opened world, whichever log it is opened over.
use Rattle.std.proofs.Common.{◌≡◌, refl, sym, ◌∙◌, ap, subst, ℕ, List, [], ◌∷◌}
use Rattle.std.specs.Prelude.{Option, Some, None}
use Rattle.model.specs.declared.names.Quota.{Quota}
use Rattle.model.specs.declared.names.Source.TheVariants.{Outside}
use Rattle.model.specs.declared.records.Record.{Record}
use Rattle.model.specs.declared.replies.Reply.{Reply}
use Rattle.model.specs.Handler.{Meaning}
use Rattle.model.specs.Steps.{Outcome, open_new}
use Rattle.model.specs.World.{World}
use Rattle.shared_log.specs.Logged.{IsLeftOf}
use Rattle.tenant.specs.Kept.{TenantState}
use Rattle.tenant.specs.Represents.{Leaves, OpensAs, StandsFor}
use Rattle.tenant.specs.Stands.{IsOpened, Stands, live_in}
use Rattle.tenant.proofs.Standing.{closed}

-- any record, where one was forgotten
any_record : Record
any_record = record {
  tenant = [];
  unit = 0;
  mark = record { incarnation = 0; index = 0 };
  source = Outside;
  letter = None;
  number = 0;
  text = [];
  vector = [];
}

-- a whole list that may have been before records were forgotten
whole_of : List (Option Record) → List Record
whole_of [] = []
whole_of (None ∷ records) = any_record ∷ whole_of records
whole_of (Some r ∷ records) = r ∷ whole_of records

left_of : (records : List (Option Record)) → IsLeftOf records (whole_of records)
unfolding whole_of
left_of [] = tt
left_of (None ∷ records) = left_of records
left_of (Some r ∷ records) = (refl, left_of records)

module _ {S : Type 0} (M : Meaning S) (kinds : List (List ℕ)) (quota : Quota) (optimism : ℕ) (reply : Reply) where
  -- two worlds of one outcome are one
  same_world : (outcome : Outcome) (y z : World)
      → outcome ≡ record { reply = reply; world = Some y } → outcome ≡ record { reply = reply; world = Some z } → y ≡ z
  same_world outcome y z e f =
      let h : Some y ≡ Some z = sym (ap (λ (o : Outcome). o.world) e) ∙ ap (λ (o : Outcome). o.world) f in cc h

  pub opened_is : (t : Option (TenantState S))
      → OpensAs M kinds quota optimism reply t → IsOpened M kinds quota optimism reply t
  opened_is None e = (None, e, λ name records. tt)
  opened_is (Some t) h = (Some first.0, first.1, stands)
    where
      first : Leaves M [] (λ u. []) (open_new M kinds quota optimism) reply t []
      first = h [] (λ u. []) []

      stands : (name : List ℕ) (records : List (Option Record)) → Stands M name t first.0 records
      stands name records =
          let l = h name (live_in name records) (whole_of records) in
          closed (record {
            whole = whole_of records;
            left = left_of records;
            stands = subst (λ z. StandsFor M name (live_in name records) t z (whole_of records))
                (same_world (open_new M kinds quota optimism) l.0 first.0 l.1 first.1) l.2;
          })

-- the same, by what the calls give
pub opened_so : {S : Type 0} (M : Meaning S)
    (kinds : List (List ℕ)) (quota : Quota) (optimism : ℕ) (reply other : Reply) (t : Option (TenantState S))
    → other ≡ reply → OpensAs M kinds quota optimism reply t → IsOpened M kinds quota optimism other t
opened_so M kinds quota optimism reply other t e h =
    subst (λ r. IsOpened M kinds quota optimism r t) (sym e) (opened_is M kinds quota optimism reply t h)
