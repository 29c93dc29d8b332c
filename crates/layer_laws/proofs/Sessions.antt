-- The sessions along a path answer as the definitions' counts do.
use Rattle.std.proofs.Common.{◌≡◌, inl, inr, refl, sym, ◌∙◌, ap, ℕ, ◌+◌, ◌<◌, true, false, cond, List, [], ◌∷◌, length}
use Rattle.std.proofs.Common.{arith}
use Rattle.std.specs.Prelude.{Some, None, ◌==◌, nat_lt}
use Rattle.std.proofs.lemmas.List.{length-map}
use Rattle.std.proofs.lemmas.Bool.Decides.{nat_tests}
use Rattle.model.specs.declared.names.Source.{Source}
use Rattle.model.specs.declared.names.Source.TheVariants.{Outside, Unit as FromUnit}
use Rattle.model.specs.declared.refusals.Refusal.TheVariants.{Repeat as RepeatRefusal, Gap as GapRefusal}
use Rattle.model.specs.Handler.{Meaning}
use Rattle.model.specs.Lists.{numbers_from}
use Rattle.model.specs.Nodes.{Node, execution, count_along}
use Rattle.model.specs.World.{taken}
use Rattle.model.specs.Steps.{first_refusal}
use Rattle.theory.proofs.ListLaws.{bool_cases, eq_true}
use Rattle.theory.proofs.States.{numbers_along_paths}
use Rattle.session.specs.declared.exchange.Exchange.{Exchange}
use Rattle.session.specs.Arrivals.{arrival_of}
use Rattle.session.specs.Counts.{nothing, exchanged, taken_from, IsCounted}
use Rattle.layer_laws.specs.Laws.{SessionsTell, sessions_along, refusal_of}
use Rattle.layer_laws.proofs.Numbers.{length-numbers, get_or-numbers}

-- the tests of a number against a count
tests_of : (count number : ℕ) → cond (nat_lt number count)
    (Some RepeatRefusal) (cond (nat_lt count number) (Some GapRefusal) None) ≡ refusal_of (arrival_of count number)
tests_of count number = elim (bool_cases (number == count)) [
  | inl e ↦
      let is : number ≡ count = eq_true number count e in
      let low : nat_lt number count ≡ false = grind (arith, nat_tests) in
      let high : nat_lt count number ≡ false = grind (arith, nat_tests) in
      rw (e, low, high) refl
  | inr e ↦ elim (bool_cases (nat_lt number count)) [
    | inl low ↦ rw (e, low) refl
    | inr low ↦ let high : nat_lt count number ≡ true = grind (arith, nat_tests) in rw (e, low, high) refl
  ]
]

refused_by : (count number : ℕ) → first_refusal ((
  nat_lt number count,
  RepeatRefusal,
) ∷ (nat_lt count number, GapRefusal) ∷ []) ≡ refusal_of (arrival_of count number)
unfolding first_refusal
refused_by count number = tests_of count number

module _ {S : Type 0} (M : Meaning S) where
  -- what was exchanged with one unit
  abbrev pub exchange_along : List Node → List ℕ → ℕ → Exchange
  exchange_along nodes path v =
      record { taken = taken nodes path (FromUnit v); sent = count_along (execution M nodes).sends v path }

  -- is its entry
  pub entry_along : (nodes : List Node) (n : ℕ) (path : List ℕ) (v : ℕ)
      → v < n → exchanged (sessions_along M nodes n path) v ≡ exchange_along nodes path v
  entry_along nodes n path v h = get_or-numbers (exchange_along nodes path) nothing 0 n v h
      ∙ ap (exchange_along nodes path) (let t : 0 + v ≡ v = omega arith in t)

  taken_along : (nodes : List Node) (n : ℕ) (path : List ℕ) (source : Source)
      → IsCounted (sessions_along M nodes n path) source
      → taken_from (sessions_along M nodes n path) source ≡ taken nodes path source
  taken_along nodes n path Outside h = refl
  taken_along nodes n path (FromUnit v) h =
      let long = length-map (numbers_from 0 n) (exchange_along nodes path) in
      let count = length-numbers 0 n in
      ap (λ (x : Exchange). x.taken) (entry_along nodes n path v (omega (arith, h, long, count)))

  -- The sessions along a unit's path tell which receipts and letters are next.
  pub sessions_tell : SessionsTell M
  sessions_tell w r u m found = (
    (λ source counted.
        let is = taken_along w.nodes (length w.members) m.path source counted in (
          is,
          (λ number. (refused_by (taken w.nodes m.path source) number
              ∙ ap (λ c. refusal_of (arrival_of c number)) (sym is))),
        )),
    (λ v h. ap (λ (x : Exchange). x.sent) (entry_along w.nodes (length w.members) m.path v h)
        ∙ sym (numbers_along_paths M w r u m found v)),
  )
