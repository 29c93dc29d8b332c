-- Only a release lengthens a released list.
use Rattle.std.proofs.Common.{◌≡◌, ◌⊎◌, inl, inr, refl, sym, ◌∙◌, ap, subst, ℕ, suc, Bool, true, false, cond, List, []}
use Rattle.std.proofs.Common.{◌++◌, length, arith, map}
use Rattle.std.specs.Prelude.{Option, Some, None, slice_get, slice_set, nat_lt}
use Rattle.std.proofs.lemmas.List.{append-nil}
use Rattle.std.proofs.lemmas.Option.{same_Some}
use mathlib.Core.List.{IsPrefix}
use native.Mathlib.Decide.{ℕ_discrete}
use Rattle.model.specs.declared.refusals.Refusal.{Refusal}
use Rattle.model.specs.declared.replies.Said.{Said}
use Rattle.model.specs.declared.steps.TenantStep.{TenantStep}
use Rattle.model.specs.declared.steps.TenantStep.TheVariants.{Open, Join, Post, Deliver, Flush, Checkpoint, Kill}
use Rattle.model.specs.declared.steps.TenantStep.TheVariants.{Restart, Notice, Release, Status}
use Rattle.model.specs.Handler.{Meaning}
use Rattle.model.specs.Nodes.{Message}
use Rattle.model.specs.World.{World, Member, executed, releasable}
use Rattle.model.specs.Steps.{Outcome, unless, at_unit, at_up, if_letter, with_member, path_kept, notice_orphan}
use Rattle.model.specs.Steps.{notice_rows, release, join_kind}
use Rattle.model.specs.Alone.{Event, step_open, step}
use Rattle.theory.specs.Laws.{ReleasedGrow}
use Rattle.theory.proofs.ListLaws.{append_get, set_get_same, set_get_other}
use Rattle.theory.proofs.Changes.{unless_cases, if_unit_cases}

-- each unit is still there and has released the same
abbrev KeepsReleased : World → World → Type 0
KeepsReleased v w = (x : ℕ) (m : Member)
    → slice_get v.members x ≡ Some m → (n : Member) × (slice_get w.members x ≡ Some n) × (n.released ≡ m.released)

module _ (v w : World) where
  keeps_same : v ≡ w → KeepsReleased v w
  keeps_same e x m f = (m, ap (λ z. slice_get z.members x) (sym e) ∙ f, refl)

  keeps_to : (y : World) → KeepsReleased v y → Some y ≡ Some w → KeepsReleased v w
  keeps_to y k e = subst (λ z. KeepsReleased v z) (same_Some y w e) k

  unless_keeps : (tests : List (Bool × Refusal)) (out : Outcome)
      → (out.world ≡ Some w → KeepsReleased v w) → (unless v tests out).world ≡ Some w → KeepsReleased v w
  unless_keeps tests out k e = elim (unless_cases v w tests out e) [ inl h ↦ keeps_same h | inr h ↦ k h.1 ]

  at_unit_keeps : (u : ℕ) (f : Member → Outcome) → ((m : Member) → slice_get v.members u ≡ Some m
      → (f m).world ≡ Some w → KeepsReleased v w) → (at_unit v u f).world ≡ Some w → KeepsReleased v w
  unfolding at_unit
  at_unit_keeps u f g e =
      elim (if_unit_cases v w f (slice_get v.members u) e) [ inl h ↦ keeps_same h | inr h ↦ g h.0 h.1 h.2 ]

  at_up_keeps : (u : ℕ) (f : Member → Outcome) → ((m : Member) → slice_get v.members u ≡ Some m
      → (f m).world ≡ Some w → KeepsReleased v w) → (at_up v u f).world ≡ Some w → KeepsReleased v w
  unfolding at_up
  at_up_keeps u f g e = at_unit_keeps u _ (λ m found. unless_keeps _ (f m) (g m found)) e

set_keeps : (v : World) (u : ℕ) (m n : Member)
    → slice_get v.members u ≡ Some m → n.released ≡ m.released → KeepsReleased v (with_member v u n)
set_keeps v u m n found e x q f = elim (ℕ_discrete x u) [
  | yes k ↦
      let is : m ≡ q = same_Some m q (sym found ∙ ap (slice_get v.members) (sym k) ∙ f) in
      (n, ap (slice_get (slice_set v.members u n)) k ∙ set_get_same v.members u n m found, e ∙ ap (λ z. z.released) is)
  | no k ↦ (q, set_get_other v.members u x n k ∙ f, refl)
]

module _ {S : Type 0} (M : Meaning S) (v w : World) where
  letter_keeps : (l : ℕ) (o : Option Message) → (if_letter M v l o).world ≡ Some w → KeepsReleased v w
  letter_keeps l None q = keeps_same v w (same_Some v w q)
  letter_keeps l (Some msg) q = at_unit_keeps v w msg.receiver
      _ (λ m found. unless_keeps v w _ _ (λ k. keeps_to v w _ (set_keeps v msg.receiver m _ found refl) k)) q

  notice_keeps : (u : ℕ) (said : Said) (m : Member) → slice_get v.members u ≡ Some m
      → (b : Bool) → (cond b (notice_orphan v u said m) (notice_rows v u m)).world ≡ Some w → KeepsReleased v w
  notice_keeps u said m found true q = unless_keeps v w _ _ (λ k. keeps_to v w _ (set_keeps v u m _ found refl) k) q
  notice_keeps u said m found false q = keeps_to v w _ (set_keeps v u m _ found refl) q

  join_keeps : (o : Option ℕ) → (join_kind v o).world ≡ Some w → KeepsReleased v w
  join_keeps None e = keeps_same v w (same_Some v w e)
  join_keeps (Some kind) e =
      unless_keeps v w _ _ (λ q. keeps_to v w _ (λ x m f. (m, append_get v.members _ x m f, refl)) q) e

  -- a step that is no release
  keeps : (step : TenantStep) (said : Said)
      → ((u : ℕ) → ¬ (step ≡ Release u)) → (step_open M v step said).world ≡ Some w → KeepsReleased v w
  keeps (Open kinds quota optimism) said h e = keeps_same v w (same_Some v w e)
  keeps (Join kind) said h e = join_keeps (M.kind kind) e
  keeps (Post unit number text) said h e = at_unit_keeps
      v w unit _ (λ m found. unless_keeps v w _ _ (λ k. keeps_to v w _ (set_keeps v unit m _ found refl) k)) e
  keeps (Deliver l) said h e = letter_keeps l (slice_get (executed M v).letters l) e
  keeps (Flush unit) said h e =
      at_up_keeps v w unit _ (λ m found k. keeps_to v w _ (set_keeps v unit m _ found refl) k) e
  keeps (Checkpoint unit) said h e =
      at_up_keeps v w unit _ (λ m found. unless_keeps v w _ _ (λ k. keeps_same v w (same_Some v w k))) e
  keeps (Kill unit) said h e =
      at_up_keeps v w unit _ (λ m found k. keeps_to v w _ (set_keeps v unit m _ found refl) k) e
  keeps (Restart unit) said h e = at_unit_keeps
      v w unit _ (λ m found. unless_keeps v w _ _ (λ k. keeps_to v w _ (set_keeps v unit m _ found refl) k)) e
  keeps (Notice unit) said h e = at_up_keeps
      v w unit _ (λ m found q. notice_keeps unit said m found (nat_lt (length (path_kept v m)) (length m.path)) q) e
  keeps (Release unit) said h e = absurd (h unit refl)
  keeps (Status unit) said h e = at_unit_keeps v w unit _ (λ m found q. keeps_same v w (same_Some v w q)) e

  -- a release
  abbrev Grows : ℕ → World → Type 0
  Grows u y = (x : ℕ) (m : Member) → slice_get v.members x ≡ Some m → (n : Member)
      × (slice_get y.members x ≡ Some n) × IsPrefix m.released n.released × (¬ (x ≡ u) → n.released ≡ m.released)

  grows_keeps : (u : ℕ) → KeepsReleased v w → Grows u w
  grows_keeps u k x m f = let t = k x m f in (t.0, t.1, ([], append-nil m.released ∙ sym t.2), λ h. t.2)

  grows_set : (u : ℕ) (m n : Member) (more : List (List ℕ))
      → slice_get v.members u ≡ Some m → n.released ≡ m.released ++ more → Grows u (with_member v u n)
  grows_set u m n more found e x q f = elim (ℕ_discrete x u) [
    | yes k ↦
        let is : m ≡ q = same_Some m q (sym found ∙ ap (slice_get v.members) (sym k) ∙ f) in (
          n,
          ap (slice_get (slice_set v.members u n)) k ∙ set_get_same v.members u n m found,
          (more, ap (λ z. z.released ++ more) (sym is) ∙ sym e),
          λ h. absurd (h k),
        )
    | no k ↦ (q, set_get_other v.members u x n k ∙ f, ([], append-nil q.released), λ h. refl)
  ]

  release_grows : (u : ℕ) → (release M v u).world ≡ Some w → Grows u w
  unfolding at_unit at_up
  release_grows u e = elim (if_unit_cases v w _ (slice_get v.members u) e) [
    | inl h ↦ grows_keeps u (keeps_same v w h)
    | inr h ↦ elim (unless_cases v w _ _ h.2) [
      | inl q ↦ grows_keeps u (keeps_same v w q)
      | inr q ↦ subst (Grows u) (same_Some _ w q.1) (grows_set u h.0 _ (map (λ o. o.1) (releasable M v h.0)) h.1 refl)
    ]
  ]

module _ {S : Type 0} (M : Meaning S) where
  other_keeps : (v w : World) (e : Event) → (step M (Some v) e).world ≡ Some w
      → ((u : ℕ) → ¬ (e.step ≡ Release u)) → (x : ℕ) (m : Member) → slice_get v.members x ≡ Some m
      → (n : Member) × (slice_get w.members x ≡ Some n)
      × IsPrefix m.released n.released × (¬ (e.step ≡ Release x) → n.released ≡ m.released)
  other_keeps v w e h no_release x m f =
      let t = grows_keeps M v w (suc x) (keeps M v w e.step e.said no_release h) x m f in
      (t.0, t.1, t.2, λ q. t.3 (λ z. absurd (omega arith)))

  release_case : (v w : World) (u : ℕ) (st : TenantStep) (said : Said)
      → st ≡ Release u → (step_open M v st said).world ≡ Some w → (x : ℕ) (m : Member) → slice_get v.members x ≡ Some m
      → (n : Member) × (slice_get w.members x ≡ Some n)
      × IsPrefix m.released n.released × (¬ (st ≡ Release x) → n.released ≡ m.released)
  release_case v w u st said is e x m f =
      let k : (release M v u).world ≡ Some w = ap (λ z. (step_open M v z said).world) (sym is) ∙ e in
      let t = release_grows M v w u k x m f in (t.0, t.1, t.2, λ q. t.3 (λ z. q (is ∙ ap Release (sym z))))

  is_release : (st : TenantStep) → ((u : ℕ) × (st ≡ Release u)) ⊎ ((u : ℕ) → ¬ (st ≡ Release u))
  is_release (Open kinds quota optimism) = inr (λ u e. cc)
  is_release (Join kind) = inr (λ u e. cc)
  is_release (Post unit number text) = inr (λ u e. cc)
  is_release (Deliver l) = inr (λ u e. cc)
  is_release (Flush unit) = inr (λ u e. cc)
  is_release (Checkpoint unit) = inr (λ u e. cc)
  is_release (Kill unit) = inr (λ u e. cc)
  is_release (Restart unit) = inr (λ u e. cc)
  is_release (Notice unit) = inr (λ u e. cc)
  is_release (Release unit) = inl (unit, refl)
  is_release (Status unit) = inr (λ u e. cc)

  -- only a release of the unit lengthens its released list, and no step shortens one
  pub released_grow : ReleasedGrow M
  released_grow v w e h x m f = elim (is_release e.step) [
    | inl q ↦ release_case v w q.0 e.step e.said q.1 h x m f
    | inr q ↦ other_keeps v w e h q x m f
  ]
