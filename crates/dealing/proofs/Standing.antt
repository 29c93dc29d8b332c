-- Hosts go on from each book that they stand for together.
use Rattle.std.proofs.Common.{◌≡◌, ◌<◌, ◌≤◌, ◌+◌, ◌-◌, ◌^◌, ℕ, zero, suc, List, [], ◌∷◌, ◌++◌, length, append-nil}
use Rattle.std.proofs.Common.{append_assoc, map, min, set, refl, sym, ap, subst, ◌∙◌, inl, inr, ◌⊎◌, arith, length-set}
use Rattle.std.specs.Prelude.{Some, slice_get}
use Rattle.std.proofs.lemmas.Bool.{cases_eq, cases_lt}
use Rattle.std.proofs.lemmas.Option.{none-some, same_Some, slice_get_within}
use Rattle.model.specs.Failures.{HasRisen}
use Rattle.model.specs.Handler.{Meaning}
use Rattle.model.specs.History.{IsLegal}
use Rattle.model.specs.declared.records.Record.{Record}
use Rattle.model.specs.declared.replies.Entry.{Entry}
use Rattle.model.specs.declared.replies.Reply.{Reply}
use Rattle.model.specs.declared.replies.Who.TheVariants.{Caller}
use Rattle.model.specs.declared.steps.Step.{Step}
use Rattle.shared_log.specs.Logged.{Logged}
use Rattle.shared_log.proofs.LeftLaws.{appended_grows}
use Rattle.book.specs.Entries.{IsAdded, IsEntered, IsForgone, Ledger}
use Rattle.book.specs.History.{IsHonestAfter, IsSaidHonestly, RecordedAfter}
use Rattle.book.specs.Standing.{Carries, HostReplays, HostState, IsHostOf}
use Rattle.dealing.specs.Dealing.{AreHostsOf, AreShardsOf, HostsDo, ShardsRun, dealt, failures_in, part_of, tenant_of}
use Rattle.dealing.proofs.Lists.{get-set_other, get-set_same, get_within}
use Rattle.dealing.proofs.Parts.{honest-part, legal-parts, part-apart, part-here}

-- a name is dealt to one of the shards
pub dealt_below : (shards : ℕ) (tenant : List ℕ) → 0 < shards → dealt shards tenant < shards
unfolding dealt
dealt_below shards tenant some = omega arith

-- the failures of all where one host changes
failures-set : {S : Type 0} (hosts : List (HostState S)) (i : ℕ) (h v : HostState S) → slice_get hosts i ≡ Some h
    → failures_in (set hosts i v) + h.log.failures ≡ failures_in hosts + v.log.failures
failures-set {S = S} [] i h v is = absurd (none-some h is)
failures-set {S = S} (x ∷ xs) zero h v is = let same : x.log.failures ≡ h.log.failures =
    ap (λ (y : HostState S). y.log.failures) (same_Some x h is) in omega (arith, same)
failures-set {S = S} (x ∷ xs) (suc i) h v is = omega (arith, failures-set xs i h v is)

failures-at : {S : Type 0} (hosts : List (HostState S)) (i : ℕ) (h : HostState S)
    → slice_get hosts i ≡ Some h → h.log.failures ≤ failures_in hosts
failures-at {S = S} [] i h is = absurd (none-some h is)
failures-at {S = S} (x ∷ xs) zero h is = let same : x.log.failures ≡ h.log.failures =
    ap (λ (y : HostState S). y.log.failures) (same_Some x h is) in omega (arith, same)
failures-at {S = S} (x ∷ xs) (suc i) h is = omega (arith, failures-at xs i h is)

-- one more entry in the log
recorded-push : {S : Type 0} (M : Meaning S) (before entries : List Entry) (e : Entry) (records grown : List Record)
    → RecordedAfter M before entries records → IsHonestAfter M (before ++ entries) e grown
    → RecordedAfter M before (entries ++ e ∷ []) (records ++ grown)
recorded-push M before [] e records grown none honest = (
  grown,
  [],
  ap (λ (r : List Record). r ++ grown) none ∙ sym (append-nil grown),
  subst (λ b. IsHonestAfter M b e grown) (append-nil before) honest,
  refl,
)
recorded-push M before (x ∷ entries) e records grown was honest = (
  was.0,
  was.1 ++ grown,
  ap (λ (r : List Record). r ++ grown) was.2 ∙ append_assoc was.0 was.1 grown,
  was.3,
  recorded-push M (before ++ x ∷ []) entries e was.1 grown was.4
      (subst (λ b. IsHonestAfter M b e grown) (sym (append_assoc before (x ∷ []) entries)) honest),
)

-- where one count rises, so does the sum, as far as it can be counted
sum_below : (m s t : ℕ) → s < t → (t < m) ⊎ (m ≤ t) → (min m s < min m t) ⊎ (min m t ≡ m)
sum_below m s t less (inl below) = inl (omega arith)
sum_below m s t less (inr above) = inr (omega arith)

sum_risen : (m a b s t : ℕ) → t + a ≡ s + b → a ≤ s → (a < b) ⊎ (b ≡ m) → (min m s < min m t) ⊎ (min m t ≡ m)
sum_risen m a b s t sum part (inl less) = sum_below m s t (omega arith) (cases_lt t m)
sum_risen m a b s t sum part (inr most) = inr (omega arith)

sum_up : (m a b s t : ℕ) → t + a ≡ s + b → a ≤ b → min m s ≤ min m t
sum_up m a b s t sum up = omega arith

-- where it rises by one at most, so does the sum, and where it stays the sum does
sum_once : (m a b s t : ℕ) → t + a ≡ s + b → b ≤ a + 1 → min m t ≤ min m s + 1
sum_once m a b s t sum once = omega arith

sum_steady : (m a b s t : ℕ) → t + a ≡ s + b → b ≡ a → min m t ≡ min m s
sum_steady m a b s t sum same = omega arith

module _ {S : Type 0} (M : Meaning S) (deal : List ℕ → ℕ)
    (hosts : List (HostState S)) (book : Ledger) (are : AreHostsOf M deal hosts book) (step : Step) (reply : Reply)
    (h v : HostState S) (there : slice_get hosts (deal (tenant_of step)) ≡ Some h) where
  abbrev i : ℕ
  i = deal (tenant_of step)

  abbrev changed : List (HostState S)
  changed = set hosts i v

  abbrev part : Ledger
  part = record { history = part_of deal i book.history; log = h.log }

  abbrev failures : ℕ
  failures = min (2 ^ 64 - 1) (failures_in changed)

  sum : failures_in changed + h.log.failures ≡ failures_in hosts + v.log.failures
  sum = failures-set hosts i h v there

  up : h.log.failures ≤ v.log.failures → book.log.failures ≤ failures
  up less = subst (λ n. n ≤ failures) (sym are.failures)
      (sum_up (2 ^ 64 - 1) h.log.failures v.log.failures (failures_in hosts) (failures_in changed) sum less)

  risen : HasRisen h.log.failures v.log.failures → HasRisen book.log.failures failures
  risen rose =
      subst (λ n. HasRisen n failures) (sym are.failures)
      (sum_risen (2 ^ 64 - 1) h.log.failures
      v.log.failures (failures_in hosts) (failures_in changed) sum (failures-at hosts i h there) rose)

  once : v.log.failures ≤ h.log.failures + 1 → failures ≤ book.log.failures + 1
  once less =
      subst (λ n. failures ≤ n + 1) (sym are.failures)
      (sum_once (2 ^ 64 - 1) h.log.failures v.log.failures (failures_in hosts) (failures_in changed) sum less)

  steady : v.log.failures ≡ h.log.failures → failures ≡ book.log.failures
  steady same =
      sum_steady (2 ^ 64 - 1) h.log.failures v.log.failures (failures_in hosts) (failures_in changed) sum same
      ∙ sym are.failures

  below : (tenant : List ℕ) → deal tenant < length changed
  below tenant = subst (λ n. deal tenant < n) (sym (length-set hosts i v)) (are.below tenant)

  -- the one that did the step is the replay of its part, and the parts of the others are as they were
  each_after : (history : List Entry) → HostReplays M v (part_of deal i history)
      → ((j : ℕ) → (i ≡ j → ⊥) → part_of deal j history ≡ part_of deal j book.history)
      → (j : ℕ) (host : HostState S) → slice_get changed j ≡ Some host → HostReplays M host (part_of deal j history)
  each_after history here others j host is =
      elim (cases_eq i j) [
        | inl e ↦
            let same : v ≡ host = same_Some v host (sym (get-set_same hosts i v (slice_get_within hosts i h there))
            ∙ ap (slice_get changed) e ∙ is) in
            subst (λ n. HostReplays M host (part_of deal n history)) e
            (subst (λ (x : HostState S). HostReplays M x (part_of deal i history)) same here)
        | inr apart ↦
            subst (HostReplays M host)
            (sym (others j apart)) (are.each j host (sym (get-set_other hosts i j v apart) ∙ is))
      ]

  abbrev Goes : Type 0
  Goes = (after : Ledger) × AreHostsOf M deal changed after × IsEntered book Caller step reply after

  goes_added : (a : Ledger) → IsHostOf M v a → IsAdded part Caller step reply a → IsSaidHonestly M part a → Goes
  goes_added a is (said, grown, device, less, other, stays, rises) honest =
      let e : Entry = record { who = Caller; step = step; said = said; reply = reply } in
      let told = honest e grown in
      let same_log : a.log.failures ≡ v.log.failures = ap (λ (l : Logged). l.failures) is.log in
      let after : Ledger = record {
        history = book.history ++ e ∷ [];
        log = record { records = book.log.records ++ map Some told.0; failures = failures };
      } in
      let here : HostReplays M v (part_of deal i after.history) =
      subst (HostReplays M v) (grown ∙ sym (part-here deal i book.history e refl)) is.replay in (
        after,
        record {
          below = below;
          each = each_after after.history here (λ j apart. part-apart deal j book.history e apart);
          recorded = (
            are.recorded.0 ++ told.0,
            recorded-push M []
                book.history e are.recorded.0 told.0 are.recorded.1 (honest-part deal M book.history e told.0 told.2),
            appended_grows book.log.records
                (book.log.records ++ map Some told.0) told.0 refl are.recorded.0 are.recorded.2,
          );
          failures = refl;
        },
        inl (
          said,
          refl,
          λ failed. risen (subst (HasRisen h.log.failures) same_log (device failed)),
          up (subst (λ n. h.log.failures ≤ n) same_log less),
          other,
          λ whole. steady (sym same_log ∙ stays whole),
          once (subst (λ n. n ≤ h.log.failures + 1) same_log rises),
        ),
      )

  goes_forgone : (a : Ledger) → IsHostOf M v a → IsForgone part step reply a → Goes
  goes_forgone a is (told, same, records, less, stays) =
      let same_log : a.log.failures ≡ v.log.failures = ap (λ (l : Logged). l.failures) is.log in
      let after : Ledger =
      record { history = book.history; log = record { records = book.log.records; failures = failures } } in (
        after,
        record {
          below = below;
          each = each_after book.history (subst (HostReplays M v) same is.replay) (λ j apart. refl);
          recorded = are.recorded;
          failures = refl;
        },
        inr (told, refl, refl, up (subst (λ n. h.log.failures ≤ n) same_log less), steady (sym same_log ∙ stays)),
      )

  goes : (a : Ledger) → IsHostOf M v a → IsEntered part Caller step reply a → IsSaidHonestly M part a → Goes
  goes a is (inl added) honest = goes_added a is added honest
  goes a is (inr forgone) honest = goes_forgone a is forgone

module _ {S : Type 0} (M : Meaning S) (deal : List ℕ → ℕ) where
  -- A step that one of the hosts does is entered in each book that they stood for together.
  pub hosts_do : (old : List (HostState S)) (step : Step) (reply : Reply) (new : List (HostState S))
      → HostsDo M deal old step reply new
      → Carries (AreHostsOf M deal) (λ before after. IsEntered before Caller step reply after) old new
  hosts_do old step reply new done before are =
      let one = done.does Caller (part M deal old before are step reply done.before done.after done.at)
      (record { replay = are.each (deal (tenant_of step)) done.before done.at; log = refl }) in
      subst (λ (l : List (HostState S)). (after : Ledger)
      × AreHostsOf M deal l after × IsEntered before Caller step reply after) (sym done.others)
      (goes M deal old before are step reply done.before done.after done.at one.0 one.1 one.2.0 one.2.1)

-- ---- laws

-- the empty book for which new hosts stand
abbrev pub new_book : {S : Type 0} → List (HostState S) → Ledger
new_book hosts = record { history = []; log = record { records = []; failures = min (2 ^ 64 - 1) (failures_in hosts) } }

module _ {S : Type 0} (M : Meaning S) where
  -- The history of the book that hosts stand for is legal.
  pub legal_of : (deal : List ℕ → ℕ) (hosts : List (HostState S)) (book : Ledger)
      → AreHostsOf M deal hosts book → IsLegal M book.history
  legal_of deal hosts book are =
      legal-parts deal M book.history (λ tenant. let one = get_within hosts (deal tenant) (are.below tenant) in
      (are.each (deal tenant) one.0 one.1).legal)

  -- New hosts, one at least, stand for an empty book.
  pub stand_new : (hosts : List (HostState S)) → 0 < length hosts
      → ((i : ℕ) (host : HostState S) → slice_get hosts i ≡ Some host → HostReplays M host [])
      → AreShardsOf M hosts (new_book hosts)
  stand_new hosts some fresh = record {
    below = λ tenant. dealt_below (length hosts) tenant some;
    each = fresh;
    recorded = ([], refl, tt);
    failures = refl;
  }

  -- New hosts that were served lines together run as some book.
  pub shards_run : ShardsRun M
  shards_run lines replies old new some fresh serves =
      let ran = serves (new_book old) (stand_new old some fresh) in (
        ran.0,
        record {
          start = new_book old;
          empty = refl;
          served = ran.2;
          legal = legal_of (dealt (length new)) new ran.0 ran.1;
          recorded = ran.1.recorded;
          stand = ran.1;
        },
      )
