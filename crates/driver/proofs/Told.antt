-- What is told of a host that was driven is what its units released.
use Rattle.std.proofs.Common.{◌≡◌, inl, inr, refl, sym, ◌∙◌, ap, ℕ, Bool, true, false, cond, List, [], ◌∷◌, ◌++◌}
use Rattle.std.proofs.Common.{append_assoc, append-nil}
use Rattle.std.proofs.lemmas.Grind.{flat_map-append}
use Rattle.std.proofs.lemmas.List.Concat.{flat_map-cons}
use Rattle.std.specs.Prelude.{Option, Some, None, flat_map}
use Rattle.model.specs.Addresses.{addressed}
use Rattle.model.specs.Handler.{Meaning}
use Rattle.model.specs.History.{IsLegal, names, own, pairs}
use Rattle.model.specs.declared.replies.Entry.{Entry}
use Rattle.model.specs.declared.replies.Reply.{Reply}
use Rattle.model.specs.declared.replies.Who.TheVariants.{Caller}
use Rattle.model.specs.declared.steps.Step.{Step}
use Rattle.model.specs.declared.steps.Step.TheVariants.{Open, Join, Post, Deliver, Flush, Checkpoint, Kill, Restart}
use Rattle.model.specs.declared.steps.Step.TheVariants.{Notice, Release, Status}
use Rattle.book.specs.Entries.{Ledger, memory_reply}
use Rattle.book.specs.History.{released_at, world_of}
use Rattle.lines.specs.Serving.{AnsweredStepBy, EntersStep, line_step}
use Rattle.driver.specs.Driving.{BookDrives, CarriesOn, Drives, Round, outputs_of}
use Rattle.driver.specs.Telling.{BookReleasedIsTold, ReleasedIsTold, left_at, left_by, left_from, texts_in, told}
use Rattle.driver.proofs.Left.{along, course_leaves, left_in, none_left, out_is, own_leaves}

-- a reply that releases nothing, of any tenant's step
none_left_from : (tenant : List ℕ) (u : ℕ) (step : Step) (reply : Reply)
    → outputs_of reply ≡ [] → left_from tenant u (step, reply) ≡ []
none_left_from tenant u step reply e = go (names tenant step)
  where
    go : (b : Bool) → cond b (left_by u (addressed step).1 reply) [] ≡ []
    go true = none_left u (addressed step).1 reply e
    go false = refl

-- want of memory releases nothing
none_for_memory : (step : Step) → outputs_of (memory_reply step) ≡ []
none_for_memory (Open tenant kinds quota optimism) = refl
none_for_memory (Join tenant kind) = refl
none_for_memory (Post unit number tenant text) = refl
none_for_memory (Deliver tenant letter) = refl
none_for_memory (Flush tenant unit) = refl
none_for_memory (Checkpoint tenant unit) = refl
none_for_memory (Kill tenant unit) = refl
none_for_memory (Restart tenant unit) = refl
none_for_memory (Notice tenant unit) = refl
none_for_memory (Release tenant unit) = refl
none_for_memory (Status tenant unit) = refl

-- the history grew by entries by which these texts left the units
pub record Grew (old new : Ledger) (left : List ℕ → ℕ → List (List ℕ)) : Type 0 where
  pub entries : List Entry
  pub history : new.history ≡ old.history ++ entries
  pub outputs : (tenant : List ℕ) (u : ℕ) → left_in tenant u entries ≡ left tenant u

grew_none : (old new : Ledger) (left : List ℕ → ℕ → List (List ℕ))
    → new.history ≡ old.history → ((tenant : List ℕ) (u : ℕ) → left tenant u ≡ []) → Grew old new left
grew_none old new left e none =
    record { entries = []; history = e ∙ sym (append-nil old.history); outputs = λ tenant u. sym (none tenant u) }

grew_on : (old mid new : Ledger) (one two : List ℕ → ℕ → List (List ℕ))
    → Grew old mid one → Grew mid new two → Grew old new (λ tenant u. one tenant u ++ two tenant u)
grew_on old mid new one two p q = record {
  entries = p.entries ++ q.entries;
  history = q.history ∙ ap (λ h. h ++ q.entries) p.history ∙ append_assoc old.history p.entries q.entries;
  outputs = λ tenant u. flat_map-append (λ (e : Entry). left_from tenant u (e.step, e.reply)) p.entries q.entries
      ∙ ap (λ (l : List (List ℕ)). l ++ left_in tenant u q.entries) (p.outputs tenant u)
      ∙ ap (λ (l : List (List ℕ)). one tenant u ++ l) (q.outputs tenant u);
}

-- a step
step_grew : (old new : Ledger) (step : Step) (reply : Reply)
    → EntersStep old step reply new → Grew old new (λ tenant u. left_from tenant u (step, reply))
step_grew old new step reply (inl (said, grown, device, up, other, steady, once)) =
    let e : Entry = record { who = Caller; step = step; said = said; reply = reply } in
    record {
      entries = e ∷ [];
      history = grown;
      outputs = λ tenant u. flat_map-cons (λ (x : Entry). left_from tenant u (x.step, x.reply)) e []
          ∙ append-nil (left_from tenant u (step, reply));
    }
step_grew old new step reply (inr (is, same, log, up, still)) =
    grew_none old new _ same (λ tenant u. none_left_from tenant u step reply (ap outputs_of is ∙ none_for_memory step))

-- the driver's steps
drives_grew : (name : List ℕ) (old new : Ledger) (steps : List (Step × Reply))
    → Drives EntersStep name old steps new → Grew old new (λ tenant u. flat_map (left_from tenant u) steps)
drives_grew name old new [] p = grew_none old new _ (ap (λ l. l.history) p) (λ tenant u. refl)
drives_grew name old new (s ∷ steps) p =
    let one = step_grew old p.1 s.0 s.1 p.2 in
    let rest = drives_grew name p.1 new steps p.3 in
    let both = grew_on old p.1 new _ _ one rest in
    record {
      entries = both.entries;
      history = both.history;
      outputs = λ tenant u. both.outputs tenant u ∙ sym (flat_map-cons (left_from tenant u) s steps);
    }

-- a line's own step
line_grew : (read : Option Step) (old new : Ledger) (reply : Reply)
    → AnsweredStepBy EntersStep read old reply new → Grew old new (λ tenant u. left_at tenant u read reply)
line_grew None old new reply (inl p) = grew_none old new _ (ap (λ l. l.history) p.1) (λ tenant u. refl)
line_grew None old new reply (inr p) = grew_none old new _ (ap (λ l. l.history) p.1) (λ tenant u. refl)
line_grew (Some step) old new reply (inl p) =
    grew_none old new _ (ap (λ l. l.history) p.1) (λ tenant u. none_left_from tenant u step reply (ap outputs_of p.0))
line_grew (Some step) old new reply (inr p) = step_grew old new step reply p

-- what follows it
carried_grew : (read : Option Step) (old new : Ledger) (steps : List (Step × Reply))
    → CarriesOn EntersStep read old steps new → Grew old new (λ tenant u. flat_map (left_from tenant u) steps)
carried_grew None old new steps p =
    grew_none old new _ (ap (λ l. l.history) p.1) (λ tenant u. ap (flat_map (left_from tenant u)) p.0)
carried_grew (Some step) old new steps p = drives_grew (addressed step).0 old new steps p

pub rounds_grew : (lines : List (List ℕ)) (old new : Ledger) (rounds : List Round)
    → BookDrives lines old rounds new → Grew old new (λ tenant u. told tenant u lines rounds)
rounds_grew [] old new rounds p = grew_none old new _ (ap (λ l. l.history) p.1) (λ tenant u. refl)
rounds_grew (line ∷ lines) old new rounds p =
    let round = p.0 in
    let others = p.1 in
    let one = p.4 in
    let first = grew_on old one.0 p.2 _ _ (line_grew (line_step line) old one.0 round.reply one.1.0)
    (carried_grew (line_step line) one.0 p.2 round.steps one.2) in
    let all = grew_on old p.2 new _ _ first (rounds_grew lines p.2 new others p.5) in
    record {
      entries = all.entries;
      history = all.history;
      outputs = λ tenant u. all.outputs tenant u ∙ sym (ap (told tenant u (line ∷ lines)) p.3);
    }

module _ {S : Type 0} (M : Meaning S) where
  -- what left a unit in a legal history is what it released
  released_of : (history : List Entry) → IsLegal M history
      → (tenant : List ℕ) (u : ℕ) → texts_in (released_at (world_of M tenant history) u) ≡ left_in tenant u history
  released_of history legal tenant u =
      sym (out_is (world_of M tenant history) u)
      ∙ course_leaves M None (own tenant (pairs history)) u
      ∙ sym (own_leaves tenant u history ∙ ap (along u (own tenant (pairs history))) (legal tenant))

  -- In a new book that was driven, each unit released what was told of it.
  pub book_released_is_told : BookReleasedIsTold M
  book_released_is_told lines rounds old new empty drives legal tenant u =
      let grew = rounds_grew lines old new rounds drives in
      released_of new.history legal tenant u
      ∙ ap (left_in tenant u) (grew.history ∙ ap (λ h. h ++ grew.entries) empty)
      ∙ grew.outputs tenant u

  -- A new host that was driven stands for a book in which each unit released what was told of it.
  pub released_is_told : ReleasedIsTold M
  released_is_told lines rounds old new replay drives =
      let before : Ledger = record { history = []; log = old.log } in
      let run = drives before (record { replay = replay; log = refl }) in (
        run.0,
        record {
          stands = run.1;
          legal = run.1.replay.legal;
          outputs = book_released_is_told lines rounds before run.0 refl run.2 run.1.replay.legal;
        },
      )
