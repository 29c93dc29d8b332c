-- A block is answered where each shard did its steps.
use Rattle.std.proofs.Common.{◌≡◌, ◌<◌, ℕ, zero, suc, List, [], ◌∷◌, ◌++◌, length, map, drop, take, get_or, All}
use Rattle.std.proofs.Common.{refl, sym, ap, subst, ◌∙◌, inl, inr, arith}
use Rattle.std.specs.Prelude.{Some, Result, slice_get, option_map}
use Rattle.std.proofs.Math.Seq.{take-append_seam}
use Rattle.std.proofs.lemmas.Bool.{cases_lt}
use Rattle.std.proofs.lemmas.List.{get_or-map, length-map}
use Rattle.std.proofs.lemmas.Option.{get_or_from_slice_get, same_Some, slice_get-get_or, slice_get-map}
use Rattle.std.proofs.lemmas.Option.{slice_get_within}
use Rattle.model.specs.declared.steps.Step.{Step}
use Rattle.forms.specs.declared.fault.LineFault.{LineFault}
use Rattle.shards.specs.Blocks.{AnswersEachBy, AreDealt, AreIdle, DoesEach, IsBelow, RanShard, Told, merged, steps_for}
use Rattle.dealing.specs.Dealing.{OneDoes, dealt}
use Rattle.shards.specs.declared.place.Place.{Place}
use Rattle.dealing.proofs.Lists.{get_within}
use Rattle.shards.proofs.Merging.{merges, places_below}
use Rattle.dealing.proofs.Standing.{dealt_below}

module _ {B X : Type 0} (Does : B → Step → List ℕ → B → Type 0) (steps : X → List Step)
    (host : X → B) (bytes lens : X → List ℕ) (old new : List X) (same : length new ≡ length old)
    (ran : (i : ℕ) (d : X) → i < length old → RanShard Does (steps (get_or old i d))
    (host (get_or old i d)) (host (get_or new i d)) (bytes (get_or new i d)) (lens (get_or new i d))) where
  abbrev IsOf : ℕ → List (List ℕ) → Type 0
  IsOf i answers = (h v : X) → slice_get old i ≡ Some h → slice_get new i ≡ Some v
      → DoesEach Does (steps h) (host h) answers (host v) × Told answers (bytes v) (lens v) 0 0

  answers_at : (i : ℕ) → i < length old → (answers : List (List ℕ)) × IsOf i answers
  answers_at i h =
      let x = (get_within old i h).0 in
      let r = ran i x h in (
        r.answers,
        λ a b is is'.
            let a_is : get_or old i x ≡ a = get_or_from_slice_get old i a x is in
            let b_is : get_or new i x ≡ b = get_or_from_slice_get new i b x is' in (
              subst (λ (y : X). DoesEach Does (steps a) (host a) r.answers (host y)) b_is
                  (subst (λ (y : X).
                  DoesEach Does (steps y) (host y) r.answers (host (get_or new i x))) a_is r.does),
              subst (λ (y : X). Told r.answers (bytes y) (lens y) 0 0) b_is r.told,
            ),
      )

  answers_of : (i : ℕ) → (answers : List (List ℕ)) × (i < length old → IsOf i answers)
  answers_of i =
      elim (cases_lt i (length old)) [
        | inl h ↦ ((answers_at i h).0, λ _. (answers_at i h).1)
        | inr past ↦ ([], λ h. absurd (omega arith))
      ]

  -- The answers that each shard gave to its own steps.
  pub all_answers : ℕ → List (List ℕ)
  all_answers i = (answers_of i).0

  is_of : (i : ℕ) → i < length old → IsOf i (all_answers i)
  unfolding all_answers
  is_of i h = (answers_of i).1 h

  -- Each shard has the lines of its answers, or of the first of them where memory ran out.
  pub told_new : (i : ℕ) (d : X)
      → i < length new → Told (all_answers i) (bytes (get_or new i d)) (lens (get_or new i d)) 0 0
  told_new i d h =
      let within : i < length old = subst (λ n. i < n) same h in
      let x = get_within old i within in
      (is_of i within x.0 (get_or new i d) x.1 (slice_get-get_or new i d h)).1

  -- each host of a list of shards is that of one
  host_at : (xs : List X) (j : ℕ) (h : B)
      → slice_get (map host xs) j ≡ Some h → (x : X) × (slice_get xs j ≡ Some x) × (host x ≡ h)
  host_at xs j h is =
      let within : j < length xs =
      subst (λ n. j < n) (length-map xs host) (slice_get_within (map host xs) j h is) in
      let x = get_within xs j within in
      (x.0, x.1, same_Some _ _ (sym (slice_get-map host xs j ∙ ap (option_map host) x.1) ∙ is))

  module _ (among : ℕ) (some : 0 < among) (few : length old ≡ among) (readings : List (Result Step LineFault))
      (places : List Place) (are : AreDealt (dealt among) readings places (map steps old)) where
    each_did : (j : ℕ) (h v : B) → slice_get (map host old) j ≡ Some h → slice_get (map host new) j ≡ Some v
        → DoesEach Does (steps_for (dealt among) j readings) h (all_answers j) v
    each_did j h v is is' =
        let x = host_at old j h is in
        let y = host_at new j v is' in
        let within = slice_get_within old j x.0 x.1 in
        let there : j < length (map steps old) = subst (λ n. j < n) (sym (length-map old steps)) within in
        let own : steps x.0 ≡ steps_for (dealt among) j readings =
        ap steps (sym (get_or_from_slice_get old j x.0 x.0 x.1))
        ∙ sym (get_or-map steps old j x.0 [] within) ∙ are.steps_are j there in
        subst (λ (w : B). DoesEach Does (steps_for (dealt among) j readings) h (all_answers j) w) y.2
        (subst (λ (w : B).
        DoesEach Does (steps_for (dealt among) j readings) w (all_answers j) (host y.0)) x.2
        (subst (λ (ss : List Step). DoesEach Does ss (host x.0) (all_answers j) (host y.0))
        own (is_of j within x.0 y.0 x.1 y.1).0))

    -- What was read of a block is answered, line by line, by the merged answers of the shards.
    pub answered : AnswersEachBy
        (OneDoes Does (dealt among)) readings (map host old) (merged places all_answers) (map host new)
    answered =
        subst (λ (l : List Place). AnswersEachBy (OneDoes Does (dealt among))
        readings (map host old) (merged l all_answers) (map host new)) (sym are.places_are)
        (merges Does (dealt among) readings (map host old) (map host new) all_answers (length-map new host
        ∙ same ∙ sym (length-map old host))
        (λ tenant. subst (λ n. dealt among tenant < n)
        (sym (length-map old host ∙ few)) (dealt_below among tenant some)) each_did)

    -- Each place of a block that is dealt is that of a shard.
    pub below : (n : ℕ) → n ≡ among → All (IsBelow n) places
    below n is =
        subst (λ m. All (IsBelow m) places) (sym is)
        (subst (All (IsBelow among)) (sym are.places_are)
        (places_below (dealt among) among (λ tenant. dealt_below among tenant some) readings))

-- shards without steps
pub idle : {X : Type 0} (steps : X → List Step) (xs : List X)
    → ((i : ℕ) (d : X) → i < length xs → steps (get_or xs i d) ≡ []) → AreIdle (map steps xs)
idle steps xs none i h =
    let within : i < length xs = subst (λ n. i < n) (length-map xs steps) h in
    let x = get_within xs i within in
    get_or-map steps xs i x.0 [] within ∙ none i x.0 within

-- Shards without steps, and one more that has none, are all without steps.
pub idle_more : {X : Type 0} (steps : X → List Step) (xs : List X) (v : X)
    → AreIdle (map steps xs) → steps v ≡ [] → AreIdle (map steps (xs ++ v ∷ []))
idle_more steps [] v all none zero h = none
idle_more steps [] v all none (suc i) h = refl
idle_more steps (x ∷ xs) v all none zero h = all 0 (omega arith)
idle_more steps (x ∷ xs) v all none (suc i) h =
    idle_more steps xs v (λ j k. all (suc j) (omega arith)) none i (omega arith)

-- what a list lent out to its whole length is then
pub lent_back : {X : Type 0} (n : ℕ) (old new : List X) → n ≡ length new → take n (new ++ drop (length new) old) ≡ new
lent_back n old new is = ap (λ m. take m (new ++ drop (length new) old)) is
    ∙ take-append_seam new (drop (length new) old)
