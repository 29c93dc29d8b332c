-- What each step makes of the checkpoints, and that the tenant then keeps what the rules leave.
use Rattle.std.proofs.Common.{◌≡◌, ◌⊎◌, inl, inr, refl, sym, ◌∙◌, ap, subst, ℕ, zero, suc, ◌+◌, ◌-◌, true, false, List}
use Rattle.std.proofs.Common.{◌||◌, [], ◌∷◌, ◌++◌, length, arith, map, append-nil, append_assoc, length-set}
use Rattle.std.specs.Prelude.{◌==◌, IfOk, IfSome, Option, Some, None, Result, Ok, Err, slice_get, slice_set, is_none}
use Rattle.std.specs.Prelude.{replicate}
use Rattle.std.specs.List.{fold}
use Rattle.std.specs.Option.{is_some}
use Rattle.std.proofs.lemmas.List.{map-append, map-set}
use Rattle.std.proofs.lemmas.Option.{slice_get_within, same_Some}
use Rattle.model.specs.declared.names.Mark.{Mark}
use Rattle.model.specs.declared.names.Quota.{Quota}
use Rattle.model.specs.declared.names.Start.{Start}
use Rattle.model.specs.declared.records.Record.{Record}
use Rattle.model.specs.declared.refusals.Refusal.{Refusal}
use Rattle.model.specs.declared.replies.Reply.{Reply}
use Rattle.model.specs.declared.replies.End.{End}
use Rattle.model.specs.declared.replies.End.TheVariants.{Whole, Device, Memory as NoMemory}
use Rattle.model.specs.declared.replies.Reply.TheVariants.{Opened, Joined, Accepted, Flushed, Checkpointed, Killed}
use Rattle.model.specs.declared.replies.Reply.TheVariants.{Restarted, Noticed, Released, Status as Told, Stopped}
use Rattle.model.specs.declared.replies.Reply.TheVariants.{Refused}
use Rattle.model.specs.declared.replies.Said.{Said}
use Rattle.model.specs.declared.steps.TenantStep.{TenantStep}
use Rattle.model.specs.declared.steps.TenantStep.TheVariants.{Open, Join, Post, Deliver, Flush, Checkpoint, Kill}
use Rattle.model.specs.declared.steps.TenantStep.TheVariants.{Restart, Notice, Release, Status}
use Rattle.model.specs.Handler.{Meaning}
use Rattle.model.specs.Keeping.{Shelf, after_join, after_open, after_return, changed, changed_if, cut, first_shelf}
use Rattle.model.specs.Keeping.{last_index, put, shelves_after, where_added}
use Rattle.model.specs.Steps.{Outcome, flush_reply, kind_or_0}
use Rattle.model.specs.World.{World}
use Rattle.model.proofs.Places.{get_below}
use Rattle.theory.proofs.ListLaws.{at_map, set_get_same, set_same}
use Rattle.session.specs.Counts.{Counts, sent_one}
use Rattle.compact.specs.Compact.{CompactLetter, Progress, CompactUnit}
use Rattle.compact.specs.Steps.{last_mark, letters_by, places as all_of}
use Rattle.compact.proofs.Tests.{places_are}
use Rattle.rollback.specs.Units.{IsKept, Recovering, places, shelf_with}
use Rattle.rollback_laws.proofs.Places.{places_are_seen}
use Rattle.shared_log.specs.Logged.{Logged}
use Rattle.rollback_laws.specs.Seen.{IsSeen}
use Rattle.tenant.specs.Answers.{Answer}
use Rattle.tenant.specs.Past.{AddsLetters, Bases, KeepsOn, KeepsPast, OpensPast, SameShelves, Shelves, shelf_of}
use Rattle.tenant.specs.Past.{shelves_of}
use Rattle.tenant.specs.Kept.{MakesStable, TenantState, Member, checkpointed_member, fitted_member, flushed_member}
use Rattle.tenant.specs.Kept.{returned_kept, joined_kept, opened_kept, received_kept, received_member, with_begun}
use Rattle.tenant.specs.Represents.{StandsFor}
use Rattle.tenant.specs.Returns.{Returns}
use Rattle.tenant.specs.Stands.{Did, Stands, live_in}
use Rattle.tenant.proofs.Follow.{keeps}
use Rattle.tenant.proofs.Reading.{stands_at}
use Rattle.tenant.proofs.Shelving.{checkpoint_done}
use Rattle.tenant.proofs.Lasting.{SameBases, changed_bases, joined_bases, keeps_on, past_closed, past_opened, put_base}
use Rattle.tenant.proofs.Lasting.{same_bases}
use Rattle.tenant.proofs.Shelves.{cut_is, put_is}
use Rattle.tenant.proofs.Standing.{closed, opened}

-- ---- letters

-- letters are made with their contents
pub letters_whole : (u : ℕ) (vector : List Mark) (c : Counts) (sends : List (ℕ × List ℕ)) (i : ℕ) (l : CompactLetter)
    → slice_get (letters_by u vector c sends) i ≡ Some l → is_none l.content ≡ false
letters_whole u vector c [] i l e = absurd (cc e)
letters_whole u vector c (s ∷ sends) zero l e = ap (λ (x : CompactLetter). is_none x.content) (sym (same_Some _ l e))
letters_whole u vector c (s ∷ sends) (suc i) l e = letters_whole u vector (sent_one c s.0) sends i l e

-- Where the letters stay as they were, none is made and none gives up its content.
pub no_letters : {S : Type 0} (t v : TenantState S) → v.letters ≡ t.letters → AddsLetters t v
no_letters t v e = record { made = []; letters = e ∙ sym (append-nil t.letters); whole = λ i c h. absurd (cc h) }

-- ---- checkpoints, by lists

abbrev of_member : {S : Type 0} → Member S → Shelf
of_member m = shelf_of m.first_put m.unit_state

module _ {S : Type 0} (t : TenantState S) (u : ℕ) (m : Member S) (found : slice_get t.members u ≡ Some m)
    (n : Member S) (v : TenantState S) (members : v.members ≡ slice_set t.members u n) where
  set_shelves : shelves_of v ≡ slice_set (shelves_of t) u (of_member n)
  set_shelves = ap (map of_member) members ∙ map-set of_member t.members u n

  at_shelf : slice_get (shelves_of t) u ≡ Some (of_member m)
  at_shelf = at_map of_member t.members u m found

  -- one unit's changed
  pub one_changed : (f : Shelf → Shelf) → of_member n ≡ f (of_member m) → AddsLetters t v → Shelves (changed f u) t v
  one_changed f e letters = record {
    shelves = set_shelves ∙ ap (slice_set (shelves_of t) u) e ∙ ap (changed_if f u (shelves_of t)) (sym at_shelf);
    letters = letters;
  }

  -- it stayed as it was
  pub one_same : of_member n ≡ of_member m → AddsLetters t v → SameShelves t v
  one_same e letters = record {
    shelves = set_shelves ∙ ap (slice_set (shelves_of t) u) e ∙ set_same (shelves_of t) u (of_member m) at_shelf;
    letters = letters;
  }

-- nothing changed
pub none_changed : {S : Type 0} (t v : TenantState S) → v ≡ t → SameShelves t v
none_changed t v e =
    record { shelves = ap shelves_of e; letters = no_letters t v (ap (λ (z : TenantState _). z.letters) e) }

fitted_shelves : {S : Type 0} (n : ℕ) (members : List (Member S))
    → map of_member (map (fitted_member n) members) ≡ map of_member members
fitted_shelves n [] = refl
fitted_shelves n (m ∷ members) = ap (λ ss. of_member m ∷ ss) (fitted_shelves n members)

-- one unit more
pub one_joined : {S : Type 0} (M : Meaning S) (t v : TenantState S) (kind : ℕ)
    → v ≡ joined_kept M t kind → Shelves (λ shelves. shelves ++ first_shelf ∷ []) t v
one_joined {S} M t v kind e = record {
  shelves =
      ap shelves_of e
      ∙ map-append (of_member {S = S}) (map (fitted_member (length t.members + 1)) t.members) _
      ∙ ap (λ ss. ss ++ first_shelf ∷ []) (fitted_shelves (length t.members + 1) t.members);
  letters = no_letters t v (ap (λ (z : TenantState S). z.letters) e);
}

-- a unit went back
pub one_back : {S : Type 0} (t v : TenantState S) (u : ℕ) (m : Member S)
    → slice_get t.members u ≡ Some m → (target incarnation : ℕ) (progress : Option (Progress S))
    → v ≡ returned_kept t u m target incarnation progress → Shelves (changed (cut (target + 1)) u) t v
one_back {S} t v u m found target incarnation progress e =
    one_changed t u m found _ v (ap (λ (z : TenantState S). z.members) e)
    (cut (target + 1)) (cut_is m.unit_state m.first_put (target + 1))
    (no_letters t v (ap (λ (z : TenantState S). z.letters) e))

-- ---- what the rules leave

module _ {S : Type 0} (M : Meaning S) (name : List ℕ)
    (t v : TenantState S) (records : List (Option Record)) (step : TenantStep) (said : Said) (reply : Reply) where
  pub keeps_after : (change : List Shelf → List Shelf)
      → SameBases change → ((z : World) (shelves : List Shelf) → shelves_after z step reply shelves ≡ change shelves)
      → Shelves change t v → KeepsOn M name t step said reply v records
  keeps_after change bases is made w z shelves s e kept =
      subst (KeepsPast v z) (sym (is z shelves)) (past_closed
      (keeps_on M name t v w z records (opened s) step said reply e shelves (past_opened kept) change bases made))

-- a refusal changes nothing
refused_is : (step : TenantStep) (r : Refusal) (z : World) (shelves : List Shelf)
    → shelves_after z step (Refused r) shelves ≡ shelves
refused_is (Open kinds quota optimism) r z shelves = refl
refused_is (Join kind) r z shelves = refl
refused_is (Post u number text) r z shelves = refl
refused_is (Deliver l) r z shelves = refl
refused_is (Flush u) r z shelves = refl
refused_is (Checkpoint u) r z shelves = refl
refused_is (Kill u) r z shelves = refl
refused_is (Restart u) r z shelves = refl
refused_is (Notice u) r z shelves = refl
refused_is (Release u) r z shelves = refl
refused_is (Status u) r z shelves = refl

-- A step that is refused and leaves the tenant as it was keeps what the rules leave.
pub refused_keeps : {S : Type 0} (M : Meaning S) (name : List ℕ) (t v : TenantState S)
    (records : List (Option Record)) (step : TenantStep) (said : Said) (reply : Reply) (r : Refusal)
    → reply ≡ Refused r → v ≡ t → KeepsOn M name t step said reply v records
refused_keeps M name t v records step said reply r e same =
    keeps_after M name t v records step said reply (λ shelves. shelves) same_bases
    (λ z shelves. ap (λ q. shelves_after z step q shelves) e ∙ refused_is step r z shelves) (none_changed t v same)

-- ---- steps that put no checkpoint and give up none

-- whatever such a step is answered, all stay
pub data StepStays : TenantStep → Type 0 where
  post_stays : (u number : ℕ) (text : List ℕ) → StepStays (Post u number text)
  deliver_stays : (l : ℕ) → StepStays (Deliver l)
  kill_stays : (u : ℕ) → StepStays (Kill u)
  release_stays : (u : ℕ) → StepStays (Release u)
  status_stays : (u : ℕ) → StepStays (Status u)

-- After a step that neither puts nor gives up checkpoints the checkpoints are as they were.
pub stays_is : (step : TenantStep)
    → StepStays step → (reply : Reply) (z : World) (shelves : List Shelf) → shelves_after z step reply shelves ≡ shelves
stays_is step (post_stays u number text) reply z shelves = refl
stays_is step (deliver_stays l) reply z shelves = refl
stays_is step (kill_stays u) reply z shelves = refl
stays_is step (release_stays u) reply z shelves = refl
stays_is step (status_stays u) reply z shelves = refl

module _ {S : Type 0} (M : Meaning S) (name : List ℕ)
    (t v : TenantState S) (records : List (Option Record)) (step : TenantStep) (stays : StepStays step) where
  -- A step that neither puts nor gives up checkpoints keeps what the rules leave.
  pub same_keeps : SameShelves t v → (a : Answer) → KeepsOn M name t step a.said a.reply v records
  same_keeps same a = keeps_after
      M name t v records step a.said a.reply (λ shelves. shelves) same_bases (stays_is step stays a.reply) same

  -- A call that succeeds, of a step that leaves all checkpoints, keeps what the rules leave.
  pub same_ok : {E : Type 0} (r : Result Answer E)
      → IfOk r (λ _. SameShelves t v) → IfOk r (λ a. KeepsOn M name t step a.said a.reply v records)
  same_ok (Ok a) same = same_keeps same a
  same_ok (Err e) same = tt

  same_some : (o : Option Answer)
      → IfSome o (λ _. SameShelves t v) → IfSome o (λ a. KeepsOn M name t step a.said a.reply v records)
  same_some None same = tt
  same_some (Some a) same = same_keeps same a

  -- A call with a worked turn that answers, and changes no checkpoints, keeps what the rules leave.
  pub same_worked : {E : Type 0} (r : Result (Option Answer) E) → IfOk r (λ o. IfSome o (λ _. SameShelves t v))
      → IfOk r (λ o. IfSome o (λ a. KeepsOn M name t step a.said a.reply v records))
  same_worked (Ok o) same = same_some o same
  same_worked (Err e) same = tt

-- ---- a unit more

-- A join moves no base.
pub after_join_bases : (reply : Reply) → SameBases (after_join reply)
after_join_bases (Opened units) = same_bases
after_join_bases (Joined unit) = joined_bases
after_join_bases (Accepted at held letters) = same_bases
after_join_bases (Flushed count) = same_bases
after_join_bases (Checkpointed at) = same_bases
after_join_bases (Killed lost) = same_bases
after_join_bases (Restarted row) = same_bases
after_join_bases (Noticed row) = same_bases
after_join_bases (Released outputs) = same_bases
after_join_bases (Told at held known outside released rows stable up volatile) = same_bases
after_join_bases (Stopped count refusal) = same_bases
after_join_bases (Refused refusal) = same_bases

-- ---- a unit goes back

after_return_bases : (u : ℕ) (reply : Reply) → SameBases (after_return u reply)
after_return_bases u (Opened units) = same_bases
after_return_bases u (Joined unit) = same_bases
after_return_bases u (Accepted at held letters) = same_bases
after_return_bases u (Flushed count) = same_bases
after_return_bases u (Checkpointed at) = same_bases
after_return_bases u (Killed lost) = same_bases
after_return_bases u (Restarted row) = changed_bases (cut row.index) (λ s. refl) u
after_return_bases u (Noticed None) = same_bases
after_return_bases u (Noticed (Some row)) = changed_bases (cut row.index) (λ s. refl) u
after_return_bases u (Released outputs) = same_bases
after_return_bases u (Told at held known outside released rows stable up volatile) = same_bases
after_return_bases u (Stopped count refusal) = same_bases
after_return_bases u (Refused refusal) = same_bases

module _ {S : Type 0} (M : Meaning S) (name : List ℕ) (t v : TenantState S) (records : List (Option Record)) where
  -- A join that succeeds and changes the checkpoints as a join does keeps what the rules leave.
  pub join_ok : {E : Type 0} (kind : List ℕ) (r : Result Answer E) → IfOk r (λ a. length t.released ≡ length t.members
      → Shelves (after_join a.reply) t v) → IfOk r (λ a. KeepsOn M name t (Join kind) a.said a.reply v records)
  join_ok kind (Ok a) made = λ w z shelves s e kept.
      let is = (opened s).stands.1 in
      keeps_after M name t v records (Join kind) a.said a.reply (after_join a.reply)
      (after_join_bases a.reply) (λ z shelves. refl) (made (is.lines ∙ sym is.width)) w z shelves s e kept
  join_ok kind (Err e) made = tt

  -- A restart that succeeds and cuts the checkpoints by its reply keeps what the rules leave.
  pub restart_ok : {E : Type 0} (u : ℕ) (r : Result Answer E) → IfOk r (λ a. Shelves (after_return u a.reply) t v)
      → IfOk r (λ a. KeepsOn M name t (Restart u) a.said a.reply v records)
  restart_ok u (Ok a) made = keeps_after M name t v records
      (Restart u) a.said a.reply (after_return u a.reply) (after_return_bases u a.reply) (λ z shelves. refl) made
  restart_ok u (Err e) made = tt

  -- A notice that succeeds and cuts the checkpoints by its reply keeps what the rules leave.
  pub notice_ok : {E : Type 0} (u : ℕ) (r : Result Answer E) → IfOk r (λ a. Shelves (after_return u a.reply) t v)
      → IfOk r (λ a. KeepsOn M name t (Notice u) a.said a.reply v records)
  notice_ok u (Ok a) made = keeps_after M name t v
      records (Notice u) a.said a.reply (after_return u a.reply) (after_return_bases u a.reply) (λ z shelves. refl) made
  notice_ok u (Err e) made = tt

  -- A release that succeeds and changes no checkpoints keeps what the rules leave.
  pub release_ok : {E : Type 0} (u : ℕ) (r : Result Answer E)
      → IfOk r (λ _. (other : List ℕ) (w : World) (log : List (Option Record)) → Stands M other t w log
      → SameShelves t v) → IfOk r (λ a. KeepsOn M name t (Release u) a.said a.reply v records)
  release_ok u (Ok a) same = λ w z shelves s e kept. keeps_after M name t v records
      (Release u) a.said a.reply (λ ss. ss) same_bases (λ z shelves. refl) (same name w records s) w z shelves s e kept
  release_ok u (Err e) same = tt

-- a receipt was entered
pub received_same : {S : Type 0} (M : Meaning S) (t : TenantState S) (u : ℕ) (m : Member S)
    → slice_get t.members u ≡ Some m → (v : TenantState S) (r : Record) (outputs : List (List ℕ))
    (made : List CompactLetter)
    → v ≡ received_kept M t u m r outputs made
    → ((i : ℕ) (c : CompactLetter) → slice_get made i ≡ Some c → is_none c.content ≡ false) → SameShelves t v
received_same {S} M t u m found v r outputs made e whole =
    one_same t u m found (received_member M m r outputs) v (ap (λ (z : TenantState S). z.members) e)
    refl (record { made = made; letters = ap (λ (z : TenantState S). z.letters) e; whole = whole })

-- the unit went back, or the device failed
pub returned_shelves : {S : Type 0} (M : Meaning S) (name : List ℕ) (t v : TenantState S) (u : ℕ) (m : Member S)
    → slice_get t.members u ≡ Some m
    → (target : ℕ) (given : Reply) (a : Answer) (before after : Logged) (start : Start) → start.index ≡ target + 1
    → (given ≡ Restarted start) ⊎ (given ≡ Noticed (Some start))
    → Returns M name t u m target given a v before after → Shelves (after_return u a.reply) t v
returned_shelves {S} M name t v u m found target given a before after start index is (inl went) =
    let made : Shelves (changed (cut start.index) u) t v = subst (λ (n : ℕ). Shelves (changed (cut n) u) t v)
    (sym index) (one_back t v u m found target _ went.progress went.back) in
    elim is [
      | inl e ↦ subst (λ (q : Reply). Shelves (after_return u q) t v) (sym (went.reply ∙ e)) made
      | inr e ↦ subst (λ (q : Reply). Shelves (after_return u q) t v) (sym (went.reply ∙ e)) made
    ]
returned_shelves {S} M name t v u m found target given a before after start index is (inr failed) =
    subst (λ (q : Reply). Shelves (after_return u q) t v) (sym failed.reply) (none_changed t v failed.same)

-- ---- a checkpoint

module _ {S : Type 0} (M : Meaning S) (name : List ℕ) (t mid v : TenantState S)
    (records : List (Option Record)) (u : ℕ) (m : Member S) (found : slice_get t.members u ≡ Some m)
    (up : is_some m.unit_state.progress ≡ true) (none : length m.unit_state.volatile ≡ 0)
    (at : Mark) (is_last : (x : CompactUnit S) → IsKept m.unit_state → IsSeen m.unit_state x → at ≡ last_mark u x)
    (put_there : mid ≡ record t { members = slice_set t.members u (checkpointed_member m) })
    (moved : Bases M name mid records v) where
  there : (o : Option (Progress S)) → is_some o ≡ true → (p : Progress S) × (o ≡ Some p)
  there None e = absurd (cc e)
  there (Some p) e = (p, refl)

  abbrev r : Recovering S
  r = m.unit_state

  abbrev last : ℕ
  last = places r - 1

  shelf_put : IsKept r → of_member (checkpointed_member m) ≡ put last (of_member m)
  shelf_put kept =
      let p = there r.progress up in
      ap (λ (o : Option (Progress S)). shelf_of (m.first_put || (last == 0))
      (record r { shelf = shelf_with r.shelf last o })) p.1
      ∙ put_is r m.first_put kept last p.0

  -- A checkpoint that is put, and after which the bases move, keeps what the rules leave.
  pub checkpoint_keeps : (said : Said) (reply : Reply)
      → reply ≡ Checkpointed at → KeepsOn M name t (Checkpoint u) said reply v records
  checkpoint_keeps said reply is w z shelves s e kept =
      let o = opened s in
      let l = checkpoint_done M name (live_in name records) t w o.whole o.stands u m found up none at is_last in
      let world : l.0 ≡ z = same_Some l.0 z (ap (λ (q : Outcome). q.world) (sym l.1 ∙ e)) in
      let stands : StandsFor M name (live_in name records) mid z o.whole =
      subst (λ (y : World). StandsFor M name (live_in name records) mid y o.whole) world
      (subst (λ (k : TenantState S). StandsFor M name (live_in name records) k l.0 o.whole) (sym put_there) l.2) in
      let x = keeps t (live_in name records) o.stands.0 o.stands.1 u m found in
      let q = get_below z.members u (let a = slice_get_within t.members u m found in
      let b = stands.1.width in let c = stands.2.represents.width in
      let d : length mid.members ≡ length t.members = ap (λ (k : TenantState S). length k.members) put_there
      ∙ length-set t.members u (checkpointed_member m) in omega (arith, a, b, c, d)) in
      let y = stands_at M name (live_in name records) mid z o.whole stands u q.0 q.1 in
      let own : y.member ≡ checkpointed_member m = same_Some y.member (checkpointed_member m) (sym y.found
      ∙ ap (λ (k : TenantState S). slice_get k.members u) put_there
      ∙ set_get_same t.members u (checkpointed_member m) m found) in
      let long : all_of y.unit ≡ places y.member.unit_state =
      (places_are_seen M y.member.unit_state y.unit y.kept.kept y.kept.seen).long in
      let path : all_of y.unit ≡ length q.0.path = places_are M name z o.whole q.0 y.unit y.stands in
      let same_places : places y.member.unit_state ≡ places r = ap (λ (n : Member S). places n.unit_state) own in
      let index : last_index (slice_get z.members u) ≡ last = ap last_index q.1
      ∙ (let f : length q.0.path - 1 ≡ places r - 1 = omega (arith, long, path, same_places) in f) in
      let made : Shelves (changed (put (last_index (slice_get z.members u))) u) t mid =
      subst (λ (n : ℕ). Shelves (changed (put n) u) t mid) (sym index)
      (one_changed t u m found (checkpointed_member m) mid (ap (λ (k : TenantState S). k.members) put_there)
      (put last) (shelf_put x.is.kept) (no_letters t mid (ap (λ (k : TenantState S). k.letters) put_there))) in
      let change = changed (put (last_index (slice_get z.members u))) u in
      let mid_kept = keeps_on M name t mid w z records o (Checkpoint u) said reply e shelves (past_opened kept) change
      (changed_bases (put (last_index (slice_get z.members u))) (put_base (last_index (slice_get z.members u))) u)
      made in
      let left = moved z (change shelves)
      (closed (record { whole = o.whole; left = o.left; stands = stands })) (past_closed mid_kept) in
      subst (λ (q : Reply). KeepsPast v z (shelves_after z (Checkpoint u) q shelves)) (sym is) left

-- ---- a flush

module _ {S : Type 0} (M : Meaning S) (name : List ℕ) (t mid v : TenantState S) (before middle : Logged) (u : ℕ)
    (m : Member S) (said : Said) (found : slice_get t.members u ≡ Some m) (f : MakesStable t u said.appended m mid)
    (done_so : (w : World) → Stands M name t w before.records
    → Did M name w mid (Flush u) said (flush_reply said.end said.appended) before middle)
    (moved : (w : World) (shelves : List Shelf) → Stands M name mid w middle.records
    → KeepsPast mid w shelves → KeepsPast v w (where_added w said.appended shelves)) where
  after_is : (end : End) (z : World) (shelves : List Shelf)
      → shelves_after z (Flush u) (flush_reply end said.appended) shelves ≡ where_added z said.appended shelves
  after_is Whole z shelves = refl
  after_is Device z shelves = refl
  after_is NoMemory z shelves = refl

  -- A flush after which the bases move keeps what the rules leave.
  pub flush_keeps : (reply : Reply)
      → reply ≡ flush_reply said.end said.appended → KeepsOn M name t (Flush u) said reply v before.records
  flush_keeps reply is w z shelves s e kept =
      let d = done_so w s in
      let world : d.steps.0 ≡ z = same_Some d.steps.0 z (ap (λ (q : Outcome). q.world) (sym d.steps.1 ∙ e)) in
      let stands : Stands M name mid z middle.records =
      subst (λ (y : World). Stands M name mid y middle.records) world d.steps.2 in
      let made =
      one_same t u m found (flushed_member m said.appended) mid f.members refl (no_letters t mid f.letters) in
      let mid_kept = keeps_on M name t mid
      w z before.records (opened s) (Flush u) said reply e shelves (past_opened kept) (λ ss. ss) same_bases made in
      subst (KeepsPast v z) (sym (ap (λ (q : Reply). shelves_after z (Flush u) q shelves) is
      ∙ after_is said.end z shelves)) (moved z shelves stands (past_closed mid_kept))

-- ---- an opening

begun_shelves : {S : Type 0} (M : Meaning S) (width : ℕ) (names : List (List ℕ)) (ms : List (Member S))
    → map of_member (fold (λ ms n. with_begun M width ms (kind_or_0 (M.kind n))) ms names) ≡ map of_member ms
    ++ replicate (length names) first_shelf
begun_shelves M width [] ms = sym (append-nil (map of_member ms))
begun_shelves M width (n ∷ names) ms =
    let more = with_begun M width ms (kind_or_0 (M.kind n)) in
    begun_shelves M width names more
    ∙ ap (λ ss. ss ++ replicate (length names) first_shelf) (map-append of_member ms _)
    ∙ append_assoc (map of_member ms) (first_shelf ∷ []) (replicate (length names) first_shelf)

-- A tenant that is opened with units at their beginning keeps what the rules leave.
pub opens_past : {S : Type 0} (M : Meaning S) (kinds : List (List ℕ)) (quota : Quota) (optimism : ℕ) (reply : Reply)
    (t : TenantState S) → t ≡ opened_kept M kinds quota optimism → reply ≡ Opened (length kinds) → OpensPast reply t
opens_past {S} M kinds quota optimism reply t is answer z shelves =
    subst (λ (q : Reply). KeepsPast t z (after_open q shelves)) (sym answer) (past_closed (record {
      shelved = ap shelves_of is ∙ begun_shelves M (length kinds) kinds [];
      letters = λ l c m s at after own. absurd
          (none l c (ap (λ (k : TenantState S). slice_get k.letters l) (sym is) ∙ at));
    }))
  where
    none : (l : ℕ) (c : CompactLetter) → slice_get (opened_kept M kinds quota optimism).letters l ≡ Some c → ⊥
    none l c e = cc e

-- What an opened tenant keeps by a reply it keeps by an equal one.
pub opened_past : {S : Type 0} (o : Option (TenantState S)) (reply answer : Reply)
    → answer ≡ reply → IfSome o (OpensPast reply) → IfSome o (OpensPast answer)
opened_past None reply answer e h = tt
opened_past (Some t) reply answer e h =
    λ z shelves. subst (λ (q : Reply). KeepsPast t z (after_open q shelves)) (sym e) (h z shelves)
