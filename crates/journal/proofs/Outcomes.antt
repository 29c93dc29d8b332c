-- A step whose reply is a promise comes out the same, whatever else the store says.
use Rattle.std.proofs.Common.{◌≡◌, ◌-◌, ℕ, List, [], ◌∷◌, length, Bool, true, false, not, min, refl, sym, ap, ◌∙◌}
use Rattle.std.proofs.Common.{Option, Some, None}
use Rattle.std.specs.Prelude.{nat_le, nat_lt, slice_get, if◌then◌else◌}
use Rattle.model.specs.Alone.{Event, step}
use Rattle.model.specs.Handler.{Meaning}
use Rattle.model.specs.Records.{IsFlushed, FlushesUnit}
use Rattle.model.specs.Steps.{Outcome, first_refusal, unless, if_unit, at_unit, at_up, is_down, is_device, flush}
use Rattle.model.specs.Steps.{flush_reply, flushed, with_member, restart, notice, notice_rows, path_kept, gone_back}
use Rattle.model.specs.Steps.{start_of, row_for}
use Rattle.model.specs.World.{World, Member, incarnation_of}
use Rattle.model.specs.declared.limits.TheConstants.{MAX_INCARNATION}
use Rattle.model.specs.declared.records.Record.{Record}
use Rattle.model.specs.declared.refusals.Refusal.{Refusal}
use Rattle.model.specs.declared.refusals.Refusal.TheVariants.{Up, Down, Limit, Store}
use Rattle.model.specs.declared.replies.End.{End}
use Rattle.model.specs.declared.replies.End.TheVariants.{Whole, Device, Memory as NoMemory}
use Rattle.model.specs.declared.replies.Reply.TheVariants.{Restarted, Noticed}
use Rattle.model.specs.declared.replies.Said.{Said}
use Rattle.model.specs.declared.steps.TenantStep.{TenantStep}
use Rattle.model.specs.declared.steps.TenantStep.TheVariants.{Open, Join, Post, Deliver, Flush, Checkpoint, Kill}
use Rattle.model.specs.declared.steps.TenantStep.TheVariants.{Restart, Notice, Release, Status}
use Rattle.book.specs.History.{IsHonestAt}
use Rattle.journal.specs.GoingOn.{IsPromise}

-- ---- going back

-- what going back answers, where the store's answers ended so
abbrev back : World → Bool → End → Outcome → Outcome
back w limit end outcome = unless w ((limit, Limit) ∷ (is_device end, Store) ∷ []) outcome

back-whole : (w : World) (limit : Bool) (end : End) (outcome : Outcome) → IsPromise (back w limit end outcome).reply
    → back w limit end outcome ≡ back w limit Whole outcome
unfolding first_refusal
back-whole w true end outcome p = refl
back-whole w false Whole outcome p = refl
back-whole w false Device outcome p = absurd p
back-whole w false NoMemory outcome p = refl

-- the same behind one more test
abbrev back_unless : World → Bool → Refusal → Bool → End → Outcome → Outcome
back_unless w first why limit end outcome =
    unless w ((first, why) ∷ (limit, Limit) ∷ (is_device end, Store) ∷ []) outcome

back_unless-whole : (w : World) (first : Bool) (why : Refusal) (limit : Bool) (end : End) (outcome : Outcome)
    → IsPromise (back_unless w first why limit end outcome).reply
    → back_unless w first why limit end outcome ≡ back_unless w first why limit Whole outcome
unfolding first_refusal
back_unless-whole w true why limit end outcome p = refl
back_unless-whole w false why limit end outcome p = back-whole w limit end outcome p

-- ---- a flush

flush-whole : (end : End) (count : ℕ) → IsPromise (flush_reply end count) → end ≡ Whole
flush-whole Whole count p = refl
flush-whole Device count p = absurd p
flush-whole NoMemory count p = absurd p

same_said : (a b : Said) → a.appended ≡ b.appended → a.end ≡ b.end → a ≡ b
same_said a b p q = λ i. record { appended = p i; end = q i }

-- what a flush of a unit answers and leaves
abbrev flush_of : World → ℕ → Said → Member → Outcome
flush_of w u said m =
    let count = min said.appended (length m.path - m.stable) in
    record { reply = flush_reply said.end count; world = Some (with_member w u (flushed m count)) }

module _ {S : Type 0} (M : Meaning S) (tenant : List ℕ) (w : World) (u : ℕ) where
  flush_up : (m : Member) (said other : Said) (grown grown' : List Record)
      → IsFlushed M tenant w m said grown → IsFlushed M tenant w m other grown'
      → IsPromise (flush_of w u said m).reply → IsPromise (flush_of w u other m).reply
      → flush_of w u said m ≡ flush_of w u other m
  flush_up m said other grown grown' honest honest' p q =
      let whole = flush-whole said.end _ p in
      let whole' = flush-whole other.end _ q in
      ap (λ (s : Said). flush_of w u s m)
      (same_said said other (honest.whole.0 whole ∙ sym (honest'.whole.0 whole')) (whole ∙ sym whole'))

  flush_member : (up : Bool) (m : Member) (said other : Said) (grown grown' : List Record) → m.up ≡ up
      → FlushesUnit M tenant w said grown (Some m) → FlushesUnit M tenant w other grown' (Some m)
      → IsPromise (unless w ((not up, Down) ∷ []) (flush_of w u said m)).reply
      → IsPromise (unless w ((not up, Down) ∷ []) (flush_of w u other m)).reply
      → unless w ((not up, Down) ∷ []) (flush_of w u said m) ≡ unless w ((not up, Down) ∷ []) (flush_of w u other m)
  unfolding first_refusal
  flush_member true m said other grown grown' is honest honest' p q =
      flush_up m said other grown grown' (honest.0 is) (honest'.0 is) p q
  flush_member false m said other grown grown' is honest honest' p q = refl

  flush_unit : (o : Option Member) (said other : Said) (grown grown' : List Record)
      → FlushesUnit M tenant w said grown o → FlushesUnit M tenant w other grown' o
      → IsPromise (if_unit w (λ m. unless w (is_down m ∷ []) (flush_of w u said m)) o).reply
      → IsPromise (if_unit w (λ m. unless w (is_down m ∷ []) (flush_of w u other m)) o).reply
      → if_unit w (λ m. unless w (is_down m ∷ []) (flush_of w u said m))
      o ≡ if_unit w (λ m. unless w (is_down m ∷ []) (flush_of w u other m)) o
  flush_unit None said other grown grown' honest honest' p q = refl
  flush_unit (Some m) said other grown grown' honest honest' p q =
      flush_member m.up m said other grown grown' refl honest honest' p q

  same_flush : (said other : Said) (grown grown' : List Record)
      → FlushesUnit M tenant w said grown (slice_get w.members u)
      → FlushesUnit M tenant w other grown' (slice_get w.members u)
      → IsPromise (flush w u said).reply → IsPromise (flush w u other).reply → flush w u said ≡ flush w u other
  unfolding at_up at_unit
  same_flush said other grown grown' honest honest' p q =
      flush_unit (slice_get w.members u) said other grown grown' honest honest' p q

-- ---- a restart, and a notice

module _ (w : World) (u : ℕ) where
  abbrev restarted : Member → Outcome
  restarted m = record {
    reply = Restarted (start_of (row_for w u (path_kept w m)));
    world = Some (gone_back w u m (path_kept w m));
  }

  abbrev limit : Bool
  limit = nat_le MAX_INCARNATION (incarnation_of w.table u)

  restart_unit : (o : Option Member) (end : End)
      → IsPromise (if_unit w (λ m. back_unless w m.up Up limit end (restarted m)) o).reply
      → if_unit w (λ m. back_unless w m.up Up limit end (restarted m))
      o ≡ if_unit w (λ m. back_unless w m.up Up limit Whole (restarted m)) o
  restart_unit None end p = refl
  restart_unit (Some m) end p = back_unless-whole w m.up Up limit end (restarted m) p

  restart-whole : (said : Said) → IsPromise (restart w u said).reply
      → restart w u said ≡ if_unit w (λ m. back_unless w m.up Up limit Whole (restarted m)) (slice_get w.members u)
  unfolding at_unit
  restart-whole said p = restart_unit (slice_get w.members u) said.end p

  same_restart : (said other : Said)
      → IsPromise (restart w u said).reply → IsPromise (restart w u other).reply → restart w u said ≡ restart w u other
  same_restart said other p q = restart-whole said p ∙ sym (restart-whole other q)

  abbrev noticed : Member → Outcome
  noticed m = record {
    reply = Noticed (Some (start_of (row_for w u (path_kept w m))));
    world = Some (gone_back w u m (path_kept w m));
  }

  abbrev noticed_at : Bool → End → Member → Outcome
  noticed_at orphan end m = if orphan then back w limit end (noticed m) else notice_rows w u m

  notice_at-whole : (orphan : Bool) (end : End) (m : Member)
      → IsPromise (noticed_at orphan end m).reply → noticed_at orphan end m ≡ noticed_at orphan Whole m
  notice_at-whole true end m p = back-whole w limit end (noticed m) p
  notice_at-whole false end m p = refl

  abbrev has_orphan : Member → Bool
  has_orphan m = nat_lt (length (path_kept w m)) (length m.path)

  notice_up-whole : (down : Bool) (end : End) (m : Member)
      → IsPromise (unless w ((down, Down) ∷ []) (noticed_at (has_orphan m) end m)).reply
      → unless w ((down, Down) ∷ [])
      (noticed_at (has_orphan m) end m) ≡ unless w ((down, Down) ∷ []) (noticed_at (has_orphan m) Whole m)
  unfolding first_refusal
  notice_up-whole true end m p = refl
  notice_up-whole false end m p = notice_at-whole (has_orphan m) end m p

  abbrev notice_with : End → Option Member → Outcome
  notice_with end o = if_unit w (λ m. unless w (is_down m ∷ []) (noticed_at (has_orphan m) end m)) o

  notice_unit-whole : (o : Option Member) (end : End)
      → IsPromise (notice_with end o).reply → notice_with end o ≡ notice_with Whole o
  notice_unit-whole None end p = refl
  notice_unit-whole (Some m) end p = notice_up-whole (not m.up) end m p

  notice-whole : (said : Said)
      → IsPromise (notice w u said).reply → notice w u said ≡ notice_with Whole (slice_get w.members u)
  unfolding at_up at_unit
  notice-whole said p = notice_unit-whole (slice_get w.members u) said.end p

  same_notice : (said other : Said)
      → IsPromise (notice w u said).reply → IsPromise (notice w u other).reply → notice w u said ≡ notice w u other
  same_notice said other p q = notice-whole said p ∙ sym (notice-whole other q)

-- ---- any step

module _ {S : Type 0} (M : Meaning S) where
  abbrev event : TenantStep → Said → Event
  event s said = record { step = s; said = said }

  -- A step whose replies are promises comes out the same, whatever an honest store said.
  pub same_outcome : (tenant : List ℕ)
      (w : Option World) (s : TenantStep) (said other : Said) (grown grown' : List Record)
      → IsHonestAt M tenant w s said grown → IsHonestAt M tenant w s other grown'
      → IsPromise (step M w (event s said)).reply → IsPromise (step M w (event s other)).reply
      → step M w (event s said) ≡ step M w (event s other)
  same_outcome tenant None s said other grown grown' honest honest' p q = refl
  same_outcome tenant (Some w) (Open kinds quota optimism) said other grown grown' honest honest' p q = refl
  same_outcome tenant (Some w) (Join kind) said other grown grown' honest honest' p q = refl
  same_outcome tenant (Some w) (Post unit number text) said other grown grown' honest honest' p q = refl
  same_outcome tenant (Some w) (Deliver letter) said other grown grown' honest honest' p q = refl
  same_outcome tenant (Some w) (Flush unit) said other grown grown' honest honest' p q =
      same_flush M tenant w unit said other grown grown' honest honest' p q
  same_outcome tenant (Some w) (Checkpoint unit) said other grown grown' honest honest' p q = refl
  same_outcome tenant (Some w) (Kill unit) said other grown grown' honest honest' p q = refl
  same_outcome tenant (Some w) (Restart unit) said other grown grown' honest honest' p q =
      same_restart w unit said other p q
  same_outcome tenant (Some w) (Notice unit) said other grown grown' honest honest' p q =
      same_notice w unit said other p q
  same_outcome tenant (Some w) (Release unit) said other grown grown' honest honest' p q = refl
  same_outcome tenant (Some w) (Status unit) said other grown grown' honest honest' p q = refl
