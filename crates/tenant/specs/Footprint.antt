-- How long the lists are that a tenant keeps of each unit.
use Rattle.std.specs.Prelude.{◌≡◌, ◌≤◌, ℕ, ◌+◌, ◌-◌, ◌==◌, ◌&&◌, Bool, List, length, Some, slice_get}
use Rattle.std.specs.List.{count_by, enumerate_from, filter}
use Rattle.model.specs.Handler.{Meaning}
use Rattle.model.specs.Keeping.{Shelf, received_for_good}
use Rattle.model.specs.Nodes.{Message}
use Rattle.model.specs.World.{Member as MemberOf, World, executed, held}
use Rattle.theory.specs.Laws.{rows_of}
use Rattle.unit_steps.specs.SentLetters.{is_spent_to}
use Rattle.tenant.specs.declared.footprint.Footprint.{Footprint}
use Rattle.tenant.specs.Kept.{TenantState, Member}

-- the letter is to the unit, and its text is given up
abbrev pub gives_up_letter : World → ℕ → MemberOf → Shelf → ℕ × Message → Bool
gives_up_letter w u m s l = (l.1.receiver == u) && received_for_good w m s l.0

-- These are the lengths for a unit of the world that has these checkpoints: of its path from the base on, of what of
-- it is not stable, of the outputs that it holds, of its rows, of the letters to it whose texts are given up, and of
-- the outputs that it released, of whose texts so many may be given up.
pub record IsFootprint {S : Type 0} (M : Meaning S) (w : World) (u : ℕ) (m : MemberOf) (s : Shelf)
    (f : Footprint) : Type 0 where
  pub intervals : f.intervals ≡ length m.path - s.base
  pub volatile : f.volatile ≡ length m.path - m.stable
  pub held : f.held ≡ length (held M w m)
  pub rows : f.rows ≡ rows_of w.table u
  pub spent : f.spent ≡ count_by (gives_up_letter w u m s) (enumerate_from 0 (executed M w).letters)
  pub released : f.released ≡ length m.released
  pub texts : f.texts ≤ f.released

-- ---- by what the tenant keeps

-- these are the lengths of the tenant's own lists
pub record IsLengths {S : Type 0} (t : TenantState S) (u : ℕ) (m : Member S) (f : Footprint) : Type 0 where
  pub intervals : f.intervals ≡ length m.unit_state.intervals
  pub volatile : f.volatile ≡ length m.unit_state.volatile
  pub held : f.held ≡ length m.outputs
  pub rows : f.rows ≡ rows_of t.table u
  pub spent : f.spent ≡ length (filter (is_spent_to u) t.letters)
  pub released : (gone : ℕ) (texts : List (List ℕ)) → slice_get t.gone u ≡ Some gone
      → slice_get t.released u ≡ Some texts → f.released ≡ gone + length texts
  pub texts : (texts : List (List ℕ)) → slice_get t.released u ≡ Some texts → f.texts ≡ length texts
