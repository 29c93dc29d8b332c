-- What was read of lines is dealt, one line after the other.
use Rattle.std.proofs.Common.{◌≡◌, ◌<◌, ◌≤◌, ◌+◌, ◌*◌, ◌/◌, ◌%◌, ℕ, List, [], ◌∷◌, ◌++◌, length, min}
use Rattle.std.proofs.Common.{refl, sym, ap, subst, ◌∙◌, arith, length-append, mul-add, mul_comm, mul-one}
use Rattle.std.proofs.Common.{div-add-mod', mod-lt, suc-mul, add-one}
use Rattle.std.specs.Prelude.{Result}
use Rattle.std.proofs.lemmas.List.{length-map}
use Rattle.model.specs.declared.steps.Step.{Step}
use Rattle.forms.specs.declared.fault.LineFault.{LineFault}
use Rattle.dealing.specs.Dealing.{dealt}
use Rattle.shards.specs.Blocks.{AreDealtTo, AreIdle, DealsMore, IsReadOr, place_of}
use Rattle.shards.specs.Kept.{IsReadAt}
use Rattle.shards.specs.declared.place.Place.{Place}
use Rattle.shards.proofs.Readings.{AreReadFrom-more, reading_or}

-- Where the first lines are dealt, each of them has a place.
pub places_count : (deal : List ℕ → ℕ) (lines : List (Result (List ℕ) LineFault)) (at : ℕ) (places : List Place)
    (steps : List (List Step)) → AreDealtTo deal lines at places steps → length places ≡ at
places_count deal lines at places steps so =
    ap length so.are_dealt.places_are ∙ length-map so.readings (place_of deal) ∙ so.counted

-- One line more is read and dealt.
pub dealt_more : (n m : ℕ) (lines : List (Result (List ℕ) LineFault)) (at : ℕ) (places places' : List Place)
    (steps steps' : List (List Step)) (read reading : Result Step LineFault) (place : Place) → m ≡ n
    → AreDealtTo (dealt n) lines at places steps → IsReadAt lines at read → IsReadOr read reading
    → DealsMore (dealt m) reading place steps steps' → places' ≡ places ++ place ∷ []
    → AreDealtTo (dealt n) lines (at + 1) places' steps'
dealt_more n m lines at places places' steps steps' read reading place same so is or deals grown =
    subst (λ (l : List Place). AreDealtTo (dealt n) lines (at + 1) l steps') (sym grown)
    (record {
      readings = so.readings ++ reading ∷ [];
      are_read = AreReadFrom-more lines 0 at so.readings reading so.are_read (omega (arith, so.counted))
          (reading_or lines at read reading is or);
      counted = length-append so.readings (reading ∷ []) ∙ ap (λ k. k + 1) so.counted;
      are_dealt = subst (λ k. DealsMore (dealt k) reading place steps steps') same deals
          so.readings places so.are_dealt;
    })

-- No line is dealt where no place is there and no shard has a step.
pub dealt_none : (deal : List ℕ → ℕ) (lines : List (Result (List ℕ) LineFault)) (places : List Place)
    (steps : List (List Step)) → places ≡ [] → AreIdle steps → AreDealtTo deal lines 0 places steps
dealt_none deal lines places steps none idle = record {
  readings = [];
  are_read = tt;
  counted = refl;
  are_dealt = record { places_are = none; steps_are = idle };
}

-- ---- shares

-- A share begins where the one before it ends, or before it.
pub shares_rise : (size at count : ℕ) → min (at * size) count ≤ min ((at + 1) * size) count
shares_rise size at count =
    let more : (at + 1) * size ≡ at * size + size = grind (arith, suc-mul, add-one) in
    omega arith

-- So many shares are all lines.
pub shares_all : (count readers : ℕ) → 0 < readers → count ≤ readers * (count / readers + 1)
shares_all count readers some =
    let whole : count / readers * readers + count % readers ≡ count = div-add-mod' count readers in
    let rest : count % readers < readers = mod-lt count some in
    let more : readers * (count / readers + 1) ≡ readers * (count / readers) + readers * 1 =
    mul-add readers (count / readers) 1 in
    let turned : readers * (count / readers) ≡ count / readers * readers = mul_comm readers (count / readers) in
    let one : readers * 1 ≡ readers = mul-one readers in
    omega arith

-- Where all shares are dealt, all lines are.
pub shares_end : (at readers size count : ℕ) → at ≡ readers → count ≤ readers * size → min (at * size) count ≡ count
shares_end at readers size count all enough =
    let whole : min (readers * size) count ≡ count = omega (arith, enough) in
    subst (λ k. min (k * size) count ≡ count) (sym all) whole

-- What is dealt up to a place is dealt up to as far.
pub dealt_upto : (deal : List ℕ → ℕ) (lines : List (Result (List ℕ) LineFault)) (at to : ℕ) (places : List Place)
    (steps : List (List Step)) → at ≡ to → AreDealtTo deal lines at places steps → AreDealtTo deal lines to places steps
dealt_upto deal lines at to places steps same so = subst (λ n. AreDealtTo deal lines n places steps) same so
