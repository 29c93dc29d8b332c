-- What each shard does of a block's lines, taken together.
use Rattle.std.proofs.Common.{◌≡◌, ◌<◌, ℕ, List, [], ◌∷◌, ◌++◌, length, map}
use Rattle.std.proofs.Common.{get_or, set, cond, All, true, false, refl, sym, ap, subst, ◌∙◌, ◌⊎◌, inl, inr}
use Rattle.std.proofs.Common.{length-set, append-nil}
use Rattle.std.specs.Prelude.{Some, Result, Ok, Err, slice_get, ◌==◌}
use Rattle.std.proofs.lemmas.Bool.{cases_eq, eq-eqb, ne_eqb}
use Rattle.std.proofs.lemmas.List.{get_or-map, get_or-set_other, get_or-set_same, length-map, map-append, map-set}
use Rattle.std.proofs.lemmas.List.Elements.{All-cons, All-nil}
use Rattle.std.proofs.lemmas.Option.{same_Some}
use Rattle.model.specs.declared.steps.Step.{Step}
use Rattle.forms.specs.declared.fault.LineFault.{LineFault}
use Rattle.dealing.specs.Dealing.{OneDoes, tenant_of}
use Rattle.shards.specs.declared.place.Place.{Place}
use Rattle.shards.specs.declared.place.Place.TheVariants.{Here, Dealt}
use Rattle.shards.specs.Blocks.{AnswersEachBy, AreDealt, DealsMore, DoesEach, IsBelow, after_first, fault_answer}
use Rattle.shards.specs.Blocks.{first_of, merged, place_of, rest_of, steps_for}
use Rattle.dealing.proofs.Lists.{get-set_other, get-set_same, get_within, map-set_kept, same_at_each}

-- one step more
pub DoesEach-more : {B : Type 0} (Does : B → Step → List ℕ → B → Type 0)
    (steps : List Step) (old mid new : B) (answers : List (List ℕ)) (step : Step) (answer : List ℕ)
    → DoesEach Does steps old answers mid
    → Does mid step answer new → DoesEach Does (steps ++ step ∷ []) old (answers ++ answer ∷ []) new
DoesEach-more Does [] old mid new answers step answer p q =
    (answer, [], new, ap (λ rs. rs ++ answer ∷ []) p.0, subst (λ s. Does s step answer new) p.1 q, (refl, refl))
DoesEach-more Does (s ∷ ss) old mid new answers step answer p q = (
  p.0,
  p.1 ++ answer ∷ [],
  p.2,
  ap (λ rs. rs ++ answer ∷ []) p.3,
  p.4,
  DoesEach-more Does ss p.2 mid new p.1 step answer p.5 q,
)

-- what was read of more lines
steps_for-append : (deal : List ℕ → ℕ) (i : ℕ) (xs ys : List (Result Step LineFault))
    → steps_for deal i (xs ++ ys) ≡ steps_for deal i xs ++ steps_for deal i ys
steps_for-append deal i [] ys = refl
steps_for-append deal i (Err f ∷ xs) ys = steps_for-append deal i xs ys
steps_for-append deal i (Ok s ∷ xs) ys =
    elim (deal (tenant_of s) == i) as (λ c. cond c (s ∷ steps_for deal i (xs ++ ys)) (steps_for deal i (xs ++ ys))
    ≡ cond c (s ∷ steps_for deal i xs) (steps_for deal i xs) ++ steps_for deal i ys) [
      | true ↦ ap (λ l. s ∷ l) (steps_for-append deal i xs ys)
      | false ↦ steps_for-append deal i xs ys
    ]

module _ (deal : List ℕ → ℕ) (readings : List (Result Step LineFault))
    (places : List Place) (steps : List (List Step)) (are : AreDealt deal readings places steps) where
  -- one line more that gives no step
  pub dealt_here : (fault : LineFault) → AreDealt deal (readings ++ Err fault ∷ []) (places ++ Here fault ∷ []) steps
  dealt_here fault = record {
    places_are = ap (λ l. l ++ Here fault ∷ []) are.places_are
        ∙ sym (map-append (place_of deal) readings (Err fault ∷ []));
    steps_are = λ i h. are.steps_are i h
        ∙ sym (steps_for-append deal i readings (Err fault ∷ []) ∙ append-nil (steps_for deal i readings));
  }

  -- one step more
  module _ (step : Step) (i : ℕ) (is : deal (tenant_of step) ≡ i) (within : i < length steps) where
    abbrev grown : List (List Step)
    grown = set steps i (get_or steps i [] ++ step ∷ [])

    abbrev all : List (Result Step LineFault)
    all = readings ++ Ok step ∷ []

    dealt_at : (j : ℕ) → j < length steps → (i ≡ j) ⊎ (i ≡ j → ⊥) → get_or grown j [] ≡ steps_for deal j all
    dealt_at j h (inl e) =
        subst (λ n. get_or grown n [] ≡ steps_for deal n all) e
        (get_or-set_same steps i (get_or steps i [] ++ step ∷ []) [] within
        ∙ ap (λ l. l ++ step ∷ []) (are.steps_are i within)
        ∙ sym (steps_for-append deal i readings (Ok step ∷ [])
        ∙ ap (λ b. steps_for deal i readings ++ cond b (step ∷ []) []) (eq-eqb _ _ is)))
    dealt_at j h (inr ne) =
        get_or-set_other steps i j (get_or steps i [] ++ step ∷ []) [] (λ e. ne (sym e))
        ∙ are.steps_are j h
        ∙ sym (steps_for-append deal j readings (Ok step ∷ [])
        ∙ ap (λ b. steps_for deal j readings ++ cond b (step ∷ []) []) (ne_eqb _ _ (λ e. ne (sym is ∙ e)))
        ∙ append-nil (steps_for deal j readings))

    pub dealt_to : (steps' : List (List Step)) → steps' ≡ grown → AreDealt deal all (places ++ Dealt i ∷ []) steps'
    dealt_to steps' e = record {
      places_are =
          ap (λ l. l ++ Dealt i ∷ []) are.places_are
          ∙ ap (λ n. map (place_of deal) readings ++ Dealt n ∷ []) (sym is)
          ∙ sym (map-append (place_of deal) readings (Ok step ∷ []));
      steps_are = λ j h.
          let short : j < length steps =
          subst (λ n. j < n) (ap length e ∙ length-set steps i (get_or steps i [] ++ step ∷ [])) h in
          ap (λ (l : List (List Step)). get_or l j []) e ∙ dealt_at j short (cases_eq i j);
    }

module _ {X : Type 0} (f : X → List Step) (deal : List ℕ → ℕ) (shards : List X) where
  -- a step goes to its shard
  pub deals_step : (i : ℕ) (x v : X) (step : Step)
      → x ≡ get_or shards i x → i < length shards → f v ≡ f x ++ step ∷ [] → deal (tenant_of step) ≡ i
      → DealsMore deal (Ok step) (Dealt i) (map f shards) (map f (set shards i v))
  deals_step i x v step is within grown deals readings places are =
      let there : i < length (map f shards) = subst (λ n. i < n) (sym (length-map shards f)) within in
      let old : get_or (map f shards) i [] ≡ f x = get_or-map f shards i x [] within ∙ ap f (sym is) in
      dealt_to deal readings places (map f shards) are step i deals there (map f (set shards i v))
      (map-set f shards i v ∙ ap (set (map f shards) i) (grown ∙ ap (λ l. l ++ step ∷ []) (sym old)))

  -- a line that gives no step goes to none
  pub deals_none : (fault : LineFault) → DealsMore deal (Err fault) (Here fault) (map f shards) (map f shards)
  deals_none fault readings places are = dealt_here deal readings places (map f shards) are fault

  -- A line that gives no step is dealt to none, though a shard is replaced by one with the same steps.
  pub deals_kept : (i : ℕ) (x v : X) (fault : LineFault) → x ≡ get_or shards i x → i < length shards → f v ≡ f x
      → DealsMore deal (Err fault) (Here fault) (map f shards) (map f (set shards i v))
  deals_kept i x v fault is within same =
      subst (λ (l : List (List Step)). DealsMore deal (Err fault) (Here fault) (map f shards) l)
      (sym (map-set_kept f shards i x v is within same)) (deals_none fault)

-- an order in which each place is that of a shard
pub places_below : (deal : List ℕ → ℕ) (shards : ℕ) → ((tenant : List ℕ) → deal tenant < shards)
    → (readings : List (Result Step LineFault)) → All (IsBelow shards) (map (place_of deal) readings)
places_below deal shards below [] = All-nil (IsBelow shards)
places_below deal shards below (Ok step ∷ readings) = All-cons (IsBelow shards) (Dealt (deal (tenant_of step)))
    (map (place_of deal) readings) (below (tenant_of step)) (places_below deal shards below readings)
places_below deal shards below (Err fault ∷ readings) =
    All-cons (IsBelow shards) (Here fault) (map (place_of deal) readings) tt (places_below deal shards below readings)

module _ {B : Type 0} (Does : B → Step → List ℕ → B → Type 0) (deal : List ℕ → ℕ) where
  -- the shard of one step, and any other, after it
  module _ (step : Step) (rest : List (Result Step LineFault))
      (old new : List (B)) (answers : ℕ → List (List ℕ)) where
    abbrev i : ℕ
    i = deal (tenant_of step)

    abbrev Each : Type 0
    Each = (j : ℕ) (h v : B) → slice_get old j ≡ Some h
        → slice_get new j ≡ Some v → DoesEach Does (steps_for deal j (Ok step ∷ rest)) h (answers j) v

    module _ (h v mid : B)
        (is : slice_get new i ≡ Some v) (others : List (List ℕ)) (answer : List ℕ) (first : answers i ≡ answer ∷ others)
        (does : DoesEach Does (steps_for deal i rest) mid others v) (within : i < length old) where
      here : (j : ℕ) (h' v' : B) → i ≡ j → slice_get (set old i mid) j ≡ Some h' → slice_get new j ≡ Some v'
          → DoesEach Does (steps_for deal j rest) h' (after_first i answers j) v'
      here j h' v' e had has =
          let left : after_first i answers i ≡ others =
          ap (λ b. cond b (rest_of (answers i)) (answers i)) (eq-eqb i i refl) ∙ ap rest_of first in
          let mid_is : mid ≡ h' =
          same_Some _ _ (sym (get-set_same old i mid within) ∙ ap (slice_get (set old i mid)) e ∙ had) in
          let v_is : v ≡ v' = same_Some _ _ (sym is ∙ ap (slice_get new) e ∙ has) in
          subst (λ n. DoesEach Does (steps_for deal n rest) h' (after_first i answers n) v') e
          (subst (λ (rs : List (List ℕ)). DoesEach Does (steps_for deal i rest) h' rs v') (sym left)
          (subst (λ (x : B). DoesEach Does (steps_for deal i rest) x others v') mid_is
          (subst (λ (x : B). DoesEach Does (steps_for deal i rest) mid others x) v_is does)))

      apart : Each → (j : ℕ) (h' v' : B)
          → (i ≡ j → ⊥) → slice_get (set old i mid) j ≡ Some h' → slice_get new j ≡ Some v'
          → DoesEach Does (steps_for deal j rest) h' (after_first i answers j) v'
      apart each j h' v' ne had has =
          let no = ne_eqb i j ne in
          let as_was = each j h' v' (sym (get-set_other old i j mid ne) ∙ had) has in
          subst (λ (rs : List (List ℕ)). DoesEach Does (steps_for deal j rest) h' rs v')
          (sym (ap (λ b. cond b (rest_of (answers j)) (answers j)) no))
          (subst (λ (ss : List Step). DoesEach Does ss h' (answers j) v')
          (ap (λ b. cond b (step ∷ steps_for deal j rest) (steps_for deal j rest)) no) as_was)

      each_after : Each → (j : ℕ) (h' v' : B)
          → slice_get (set old i mid) j ≡ Some h' → slice_get new j ≡ Some v'
          → DoesEach Does (steps_for deal j rest) h' (after_first i answers j) v'
      each_after each j h' v' had has =
          elim (cases_eq i j) [ inl e ↦ here j h' v' e had has | inr ne ↦ apart each j h' v' ne had has ]

  -- where each shard did its own steps, all were done in the order of the lines
  pub merges : (readings : List (Result Step LineFault)) (old new : List (B)) (answers : ℕ → List (List ℕ))
      → length new ≡ length old → ((tenant : List ℕ) → deal tenant < length old)
      → ((j : ℕ) (h v : B) → slice_get old j ≡ Some h
      → slice_get new j ≡ Some v → DoesEach Does (steps_for deal j readings) h (answers j) v)
      → AnswersEachBy (OneDoes Does deal) readings old (merged (map (place_of deal) readings) answers) new
  merges [] old new answers long below each = (refl, same_at_each old new long (λ j h v is is'. (each j h v is is').1))
  merges (Err fault ∷ rest) old new answers long below each = (
    fault_answer fault,
    merged (map (place_of deal) rest) answers,
    old,
    refl,
    (refl, refl),
    merges rest old new answers long below each,
  )
  merges (Ok step ∷ rest) old new answers long below each =
      let i = deal (tenant_of step) in
      let h = get_within old i (below (tenant_of step)) in
      let v = get_within new i (subst (λ n. i < n) (sym long) (below (tenant_of step))) in
      let own : DoesEach Does (step ∷ steps_for deal i rest) h.0 (answers i) v.0 =
      subst (λ b. DoesEach Does (cond b (step ∷ steps_for deal i rest) (steps_for deal i rest))
      h.0 (answers i) v.0) (eq-eqb i i refl) (each i h.0 v.0 h.1 v.1) in
      let still = sym (length-set old i own.2) in (
        first_of (answers i),
        merged (map (place_of deal) rest) (after_first i answers),
        set old i own.2,
        refl,
        record {
          before = h.0;
          after = own.2;
          at = h.1;
          does = subst (λ (r : List ℕ). Does h.0 step r own.2) (sym (ap first_of own.3)) own.4;
          others = refl;
        },
        merges rest (set old i own.2) new (after_first i answers) (long
            ∙ still) (λ tenant. subst (λ n. deal tenant < n) still (below tenant))
            (each_after step rest
            old new answers h.0 v.0 own.2 v.1 own.1 own.0 own.3 own.5 (below (tenant_of step)) each),
      )
