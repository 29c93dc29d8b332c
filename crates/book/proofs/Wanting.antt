-- No step is answered as one for which there was no memory.
use Rattle.std.proofs.Common.{◌≡◌, ◌≢◌, refl, ap, ◌∙◌, ℕ, ◌-◌, Bool, true, false, cond, not, min, if◌then◌else◌, List}
use Rattle.std.proofs.Common.{[], ◌∷◌, length, drop, map, arith}
use Rattle.std.specs.Prelude.{Option, Some, None, nat_lt, slice_get}
use Rattle.std.proofs.lemmas.List.{length-drop, length-map}
use Rattle.model.specs.Addresses.{addressed}
use Rattle.model.specs.Alone.{step, step_open, step_unopened}
use Rattle.model.specs.Handler.{Meaning}
use Rattle.model.specs.Nodes.{Message}
use Rattle.model.specs.Records.{FlushesUnit, IsFlushed, IsHonest, record_of}
use Rattle.model.specs.Steps.{Outcome, at_unit, at_up, can_open, deliver_to, first_refusal, flush, flush_reply}
use Rattle.model.specs.Steps.{if_letter, if_unit, is_down, join_kind, notice_orphan, notice_rows, opened_with}
use Rattle.model.specs.Steps.{outcome_or, path_kept, post_to, unless, flushed, with_member}
use Rattle.model.specs.World.{Member, World, executed}
use Rattle.model.specs.declared.records.Record.{Record}
use Rattle.model.specs.declared.refusals.Refusal.{Refusal}
use Rattle.model.specs.declared.refusals.Refusal.TheVariants.{BadOpen, Down, Memory}
use Rattle.model.specs.declared.replies.End.{End}
use Rattle.model.specs.declared.replies.End.TheVariants.{Whole, Device, Memory as NoMemory}
use Rattle.model.specs.declared.replies.Reply.{Reply}
use Rattle.model.specs.declared.replies.Reply.TheVariants.{Refused, Stopped}
use Rattle.model.specs.declared.replies.Said.{Said}
use Rattle.model.specs.declared.steps.Step.{Step}
use Rattle.model.specs.declared.steps.Step.TheVariants.{Open as AnyOpen, Join as AnyJoin, Post as AnyPost}
use Rattle.model.specs.declared.steps.Step.TheVariants.{Deliver as AnyDeliver, Flush as AnyFlush}
use Rattle.model.specs.declared.steps.Step.TheVariants.{Checkpoint as AnyCheckpoint, Kill as AnyKill}
use Rattle.model.specs.declared.steps.Step.TheVariants.{Restart as AnyRestart, Notice as AnyNotice}
use Rattle.model.specs.declared.steps.Step.TheVariants.{Release as AnyRelease, Status as AnyStatus}
use Rattle.model.specs.declared.steps.TenantStep.{TenantStep}
use Rattle.model.specs.declared.steps.TenantStep.TheVariants.{Open, Join, Post, Deliver, Flush, Checkpoint, Kill}
use Rattle.model.specs.declared.steps.TenantStep.TheVariants.{Restart, Notice, Release, Status}
use Rattle.book.specs.Entries.{memory_reply, own_memory_reply}
use Rattle.book.specs.History.{IsHonestAt}

-- ---- replies other than to a flush

abbrev wants_for : Refusal → Bool
wants_for Memory = true
wants_for _ = false

-- whether the reply says that there was no memory
abbrev wants : Reply → Bool
wants (Refused r) = wants_for r
wants _ = false

abbrev NoneWants : List (Bool × Refusal) → Type 0
NoneWants [] = Unit {0}
NoneWants (t ∷ tests) = (wants_for t.1 ≡ false) × NoneWants tests

not_wanted : (r : Reply) → wants r ≡ false → r ≡ Refused Memory → ⊥
not_wanted r f e = let t = ap wants e in cc (f, t)

unless_fine : (w : World) (tests : List (Bool × Refusal)) (o : Outcome)
    → NoneWants tests → wants o.reply ≡ false → wants (unless w tests o).reply ≡ false
unfolding first_refusal
unless_fine w [] o f h = h
unless_fine w (t ∷ tests) o f h = go t.0 (unless_fine w tests o f.1 h)
  where
    go : (b : Bool) → wants (outcome_or w o (first_refusal tests)).reply ≡ false
        → wants (outcome_or w o (cond b (Some t.1) (first_refusal tests))).reply ≡ false
    go true rest = f.0
    go false rest = rest

unit_fine : (w : World) (f : Member → Outcome) (o : Option Member)
    → ((m : Member) → wants (f m).reply ≡ false) → wants (if_unit w f o).reply ≡ false
unit_fine w f None h = refl
unit_fine w f (Some m) h = h m

at_unit_fine : (w : World) (u : ℕ) (f : Member → Outcome)
    → ((m : Member) → wants (f m).reply ≡ false) → wants (at_unit w u f).reply ≡ false
unfolding at_unit
at_unit_fine w u f h = unit_fine w f (slice_get w.members u) h

at_up_fine : (w : World) (u : ℕ) (f : Member → Outcome)
    → ((m : Member) → wants (f m).reply ≡ false) → wants (at_up w u f).reply ≡ false
unfolding at_up
at_up_fine w u f h = at_unit_fine w u _ (λ m. unless_fine w (is_down m ∷ []) (f m) (refl, tt) (h m))

join_fine : (w : World) (kind : Option ℕ) → wants (join_kind w kind).reply ≡ false
join_fine w None = refl
join_fine w (Some kind) = unless_fine w _ _ (refl, tt) refl

notice_fine : (w : World) (u : ℕ) (said : Said) (m : Member) (orphan : Bool)
    → wants (if orphan then notice_orphan w u said m else notice_rows w u m).reply ≡ false
notice_fine w u said m true = unless_fine w _ _ (refl, (refl, tt)) refl
notice_fine w u said m false = refl

-- ---- the reply to a flush

flush_end : (d : End) (count : ℕ) → flush_reply d count ≡ Stopped 0 Memory → (d ≡ NoMemory) × (count ≡ 0)
flush_end Whole count e = absurd (cc e)
flush_end Device count e = absurd (cc e)
flush_end NoMemory count e = (refl, cc e)

-- the reply to a step for which there was no memory is that to the tenant's own step
pub answer_is : (s : Step) → memory_reply s ≡ own_memory_reply (addressed s).1
answer_is (AnyOpen tenant kinds quota optimism) = refl
answer_is (AnyJoin tenant kind) = refl
answer_is (AnyPost unit number tenant text) = refl
answer_is (AnyDeliver tenant letter) = refl
answer_is (AnyFlush tenant unit) = refl
answer_is (AnyCheckpoint tenant unit) = refl
answer_is (AnyKill tenant unit) = refl
answer_is (AnyRestart tenant unit) = refl
answer_is (AnyNotice tenant unit) = refl
answer_is (AnyRelease tenant unit) = refl
answer_is (AnyStatus tenant unit) = refl

module _ {S : Type 0} (M : Meaning S) where
  module _ (tenant : List ℕ) (w : World) (u : ℕ) (said : Said) (grown : List Record) where
    abbrev flush_of : Member → Outcome
    flush_of m =
        let count = min said.appended (length m.path - m.stable) in
        record { reply = flush_reply said.end count; world = Some (with_member w u (flushed m count)) }

    flush_one : (m : Member) → IsFlushed M tenant w m said grown → (flush_of m).reply ≡ Stopped 0 Memory → ⊥
    flush_one m f e =
        let count = min said.appended (length m.path - m.stable) in
        let r = flush_end said.end count e in
        let some = f.some r.0 in
        let none : min said.appended (length m.path - m.stable) ≡ 0 = r.1 in
        let all = f.within in
        let long : length (map (record_of M tenant w) (drop m.stable m.path)) ≡ length m.path - m.stable =
        length-map (drop m.stable m.path) (record_of M tenant w) ∙ length-drop m.stable m.path in
        omega (arith, some, none, all, long)

    flush_up : (up : Bool) (m : Member) → (up ≡ true → IsFlushed M tenant w m said grown)
        → (unless w ((not up, Down) ∷ []) (flush_of m)).reply ≡ Stopped 0 Memory → ⊥
    unfolding first_refusal
    flush_up false m f e = cc e
    flush_up true m f e = flush_one m (f refl) e

    flush_unit : (o : Option Member) → FlushesUnit M tenant w said grown o
        → (if_unit w (λ m. unless w (is_down m ∷ []) (flush_of m)) o).reply ≡ Stopped 0 Memory → ⊥
    flush_unit None f e = cc e
    flush_unit (Some m) f e = flush_up m.up m f.0 e

    flush_fine : FlushesUnit M tenant w said grown (slice_get w.members u)
        → (flush w u said).reply ≡ Stopped 0 Memory → ⊥
    unfolding at_up at_unit
    flush_fine f e = flush_unit (slice_get w.members u) f e

  -- ---- any step

  open_fine : (b : Bool) (o : Outcome)
      → wants o.reply ≡ false → wants (if b then o else record { reply = Refused BadOpen; world = None }).reply ≡ false
  open_fine true o h = h
  open_fine false o h = refl

  letter_fine : (w : World) (l : ℕ) (o : Option Message) → wants (if_letter M w l o).reply ≡ false
  letter_fine w l None = refl
  letter_fine w l (Some received) = at_unit_fine w received.receiver (deliver_to M w l received) (λ m. unless_fine
      w _ _ (refl, (refl, (refl, (refl, (refl, (refl, (refl, (refl, (refl, (refl, (refl, (refl, tt)))))))))))) refl)

  never_open : (tenant : List ℕ) (w : World) (d : TenantStep) (said : Said) (grown : List Record)
      → IsHonest M tenant w d said grown → (step_open M w d said).reply ≡ own_memory_reply d → ⊥
  never_open tenant w (Open kinds quota optimism) said grown honest e = cc e
  never_open tenant w (Join kind) said grown honest e = not_wanted _ (join_fine w (M.kind kind)) e
  never_open tenant w (Post unit number text) said grown honest e =
      not_wanted _ (at_unit_fine w unit (post_to M w unit number text)
      (λ m. unless_fine w _ _ (refl, (refl, (refl, (refl, (refl, (refl, (refl, (refl, (refl, tt))))))))) refl)) e
  never_open tenant w (Deliver letter) said grown honest e =
      not_wanted _ (letter_fine w letter (slice_get (executed M w).letters letter)) e
  never_open tenant w (Flush unit) said grown honest e = flush_fine tenant w unit said grown honest e
  never_open tenant w (Checkpoint unit) said grown honest e =
      not_wanted _ (at_up_fine w unit _ (λ m. unless_fine w _ _ (refl, tt) refl)) e
  never_open tenant w (Kill unit) said grown honest e = not_wanted _ (at_up_fine w unit _ (λ m. refl)) e
  never_open tenant w (Restart unit) said grown honest e =
      not_wanted _ (at_unit_fine w unit _ (λ m. unless_fine w _ _ (refl, (refl, (refl, tt))) refl)) e
  never_open tenant w (Notice unit) said grown honest e = not_wanted
      _ (at_up_fine w unit _ (λ m. notice_fine w unit said m (nat_lt (length (path_kept w m)) (length m.path)))) e
  never_open tenant w (Release unit) said grown honest e = not_wanted _ (at_up_fine w unit _ (λ m. refl)) e
  never_open tenant w (Status unit) said grown honest e = not_wanted _ (at_unit_fine w unit _ (λ m. refl)) e

  never_unopened : (d : TenantStep) → (step_unopened M d).reply ≡ own_memory_reply d → ⊥
  never_unopened (Open kinds quota optimism) e =
      not_wanted _ (open_fine (can_open M kinds quota optimism) (opened_with M kinds quota optimism) refl) e
  never_unopened (Join kind) e = cc e
  never_unopened (Post unit number text) e = cc e
  never_unopened (Deliver letter) e = cc e
  never_unopened (Flush unit) e = cc e
  never_unopened (Checkpoint unit) e = cc e
  never_unopened (Kill unit) e = cc e
  never_unopened (Restart unit) e = cc e
  never_unopened (Notice unit) e = cc e
  never_unopened (Release unit) e = cc e
  never_unopened (Status unit) e = cc e

  never_at : (tenant : List ℕ) (w : Option World) (d : TenantStep) (said : Said) (grown : List Record)
      → IsHonestAt M tenant w d said grown
      → (step M w (record { step = d; said = said })).reply ≡ own_memory_reply d → ⊥
  never_at tenant None d said grown honest e = never_unopened d e
  never_at tenant (Some w) d said grown honest e = never_open tenant w d said grown honest e

  -- where what the store said is honest, the reply isn't that of a step for which there was no memory
  pub never_wanting : (s : Step) (w : Option World) (said : Said) (grown : List Record) (reply : Reply)
      → IsHonestAt M (addressed s).0 w (addressed s).1 said grown
      → (step M w (record { step = (addressed s).1; said = said })).reply ≡ reply → reply ≢ memory_reply s
  never_wanting s w said grown reply honest is e =
      never_at (addressed s).0 w (addressed s).1 said grown honest (is ∙ e ∙ answer_is s)
