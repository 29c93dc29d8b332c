-- The laws over whole courses of steps.
use Rattle.std.proofs.Common.{◌≡◌, refl, sym, ◌∙◌, ap, subst, ℕ, ◌<◌, Bool, true, false, cond, List, [], ◌∷◌, ◌++◌}
use Rattle.std.proofs.Common.{length}
use Rattle.std.specs.Prelude.{Option, Some, None, slice_get, nat_lt}
use Rattle.std.proofs.lemmas.List.{append-nil}
use Rattle.std.proofs.lemmas.Option.{same_Some}
use mathlib.Core.List.{IsPrefix}
use Rattle.model.specs.declared.refusals.Refusal.{Refusal}
use Rattle.model.specs.declared.replies.Said.{Said}
use Rattle.model.specs.declared.steps.TenantStep.{TenantStep}
use Rattle.model.specs.declared.steps.TenantStep.TheVariants.{Open, Join, Post, Deliver, Flush, Checkpoint, Kill}
use Rattle.model.specs.declared.steps.TenantStep.TheVariants.{Restart, Notice, Release, Status}
use Rattle.model.specs.Handler.{Meaning}
use Rattle.model.specs.Nodes.{Message}
use Rattle.model.specs.World.{World, Member, executed, is_firm}
use Rattle.model.specs.Steps.{Outcome, first_refusal, outcome_or, unless, if_unit, at_unit, at_up, if_letter}
use Rattle.model.specs.Steps.{notice_orphan, notice_rows, path_kept, join_kind}
use Rattle.model.specs.Alone.{Event, step, step_open, course_from, Reachable}
use Rattle.model.specs.Alone.Reachable.{opened, stepped}
use Rattle.theory.specs.Laws.{CoursesReach, StaysOpen, ReleasedStay}
use Rattle.theory.proofs.Changes.{step_changes}
use Rattle.theory.proofs.Released.{prefix_trans, nodes_kept}
use Rattle.theory.proofs.ReleasedGrow.{released_grow}
use Rattle.theory.proofs.Chains.{firm_stays}

-- ---- a step of an open tenant leaves it open

abbrev Opens : Outcome → Type 0
Opens o = (w : World) × (o.world ≡ Some w)

unless_opens : (v : World) (tests : List (Bool × Refusal)) (out : Outcome) → Opens out → Opens (unless v tests out)
unless_opens v tests out o = go (first_refusal tests)
  where
    go : (r : Option Refusal) → Opens (outcome_or v out r)
    go None = o
    go (Some r) = (v, refl)

at_unit_opens : (v : World) (u : ℕ) (f : Member → Outcome) → ((m : Member) → Opens (f m)) → Opens (at_unit v u f)
unfolding at_unit
at_unit_opens v u f h = go (slice_get v.members u)
  where
    go : (o : Option Member) → Opens (if_unit v f o)
    go None = (v, refl)
    go (Some m) = h m

at_up_opens : (v : World) (u : ℕ) (f : Member → Outcome) → ((m : Member) → Opens (f m)) → Opens (at_up v u f)
unfolding at_up
at_up_opens v u f h = at_unit_opens v u _ (λ m. unless_opens v _ (f m) (h m))

module _ {S : Type 0} (M : Meaning S) where
  step_opens : (v : World) (st : TenantStep) (said : Said) → Opens (step_open M v st said)
  step_opens v (Open kinds quota optimism) said = (v, refl)
  step_opens v (Join kind) said = go (M.kind kind)
    where
      go : (o : Option ℕ) → Opens (join_kind v o)
      go None = (v, refl)
      go (Some k) = unless_opens v _ _ (_, refl)
  step_opens v (Post unit number text) said = at_unit_opens v unit _ (λ m. unless_opens v _ _ (_, refl))
  step_opens v (Deliver l) said = go (slice_get (executed M v).letters l)
    where
      go : (o : Option Message) → Opens (if_letter M v l o)
      go None = (v, refl)
      go (Some msg) = at_unit_opens v msg.receiver _ (λ m. unless_opens v _ _ (_, refl))
  step_opens v (Flush unit) said = at_up_opens v unit _ (λ m. (_, refl))
  step_opens v (Checkpoint unit) said = at_up_opens v unit _ (λ m. unless_opens v _ _ (v, refl))
  step_opens v (Kill unit) said = at_up_opens v unit _ (λ m. (_, refl))
  step_opens v (Restart unit) said = at_unit_opens v unit _ (λ m. unless_opens v _ _ (_, refl))
  step_opens v (Notice unit) said = at_up_opens v unit _ (λ m. go m (nat_lt (length (path_kept v m)) (length m.path)))
    where
      go : (m : Member) (b : Bool) → Opens (cond b (notice_orphan v unit said m) (notice_rows v unit m))
      go m true = unless_opens v _ _ (_, refl)
      go m false = (_, refl)
  step_opens v (Release unit) said = at_up_opens v unit _ (λ m. (_, refl))
  step_opens v (Status unit) said = at_unit_opens v unit _ (λ m. (v, refl))

  -- a tenant that is open stays open
  pub stays_open : StaysOpen M
  stays_open v e = step_opens v e.step e.said

  -- ---- courses

  -- a tenant that is open is open after all further steps
  pub open_after : (events : List Event) (v : World) → (w : World) × ((course_from M (Some v) events).world ≡ Some w)
  open_after [] v = (v, refl)
  open_after (e ∷ events) v =
      let o = stays_open v e in
      let rest = open_after events o.0 in
      (rest.0, ap (λ z. (course_from M z events).world) o.1 ∙ rest.1)

  step_reaches : (o : Option World) → ((v : World) → o ≡ Some v → Reachable M v)
      → (e : Event) (w : World) → (step M o e).world ≡ Some w → Reachable M w
  step_reaches None h e w k = opened e k
  step_reaches (Some v) h e w k = stepped e (h v refl) k

  course_reaches : (events : List Event) (o : Option World) → ((v : World) → o ≡ Some v → Reachable M v)
      → (w : World) → (course_from M o events).world ≡ Some w → Reachable M w
  course_reaches [] o h w k = h w k
  course_reaches (e ∷ events) o h w k = course_reaches events (step M o e).world (λ v f. step_reaches o h e v f) w k

  -- a course of steps comes to a world that the tenant can come to
  pub courses_reach : CoursesReach M
  courses_reach events w k = course_reaches events None (λ v e. absurd (cc e)) w k

  course_append : (a b : List Event) (o : Option World)
      → (course_from M o (a ++ b)).world ≡ (course_from M (course_from M o a).world b).world
  course_append [] b o = refl
  course_append (e ∷ a) b o = course_append a b (step M o e).world

  abbrev Later : World → World → Type 0
  Later v w = ((u : ℕ) (m : Member) → slice_get v.members u ≡ Some m
      → (n : Member) × (slice_get w.members u ≡ Some n) × IsPrefix m.released n.released)
      × ((x : ℕ) → x < length v.nodes → (x < length w.nodes) × (is_firm v x ≡ true → is_firm w x ≡ true))

  later : (events : List Event) (v w : World)
      → Reachable M v → (course_from M (Some v) events).world ≡ Some w → Later v w
  later [] v w r k = let is : v ≡ w = same_Some v w k in
      subst (λ z. Later v z) is ((λ u m f. (m, f, ([], append-nil m.released))), (λ x h. (h, λ e. e)))
  later (e ∷ events) v w r k =
      let o = stays_open v e in
      let rest = later events o.0 w (stepped e r o.1) (ap (λ z. (course_from M z events).world) (sym o.1) ∙ k) in (
        (λ u m f.
            let a = released_grow M v o.0 e o.1 u m f in
            let b = rest.0 u a.0 a.1 in
            (b.0, b.1, prefix_trans m.released a.0.released b.0.released a.2 b.2)),
        (λ x h.
            let n = nodes_kept M (step_changes M v o.0 e.step e.said o.1) x h in
            let b = rest.1 x n.0 in
            (b.0, λ firm. b.1 (firm_stays M v o.0 e r o.1 x h firm))),
      )

  -- what is released or firm stays so over all further steps
  pub released_stay : ReleasedStay M
  released_stay before after v w k h =
      let l = later after v w (courses_reach before v k) (ap (λ z. (course_from M z after).world) (sym k)
      ∙ sym (course_append before after None) ∙ h) in
      (l.0, λ x i firm. (l.1 x i).1 firm)
