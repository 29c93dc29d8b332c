-- No vector of a unit that the tenant keeps is longer than there are units.
use Rattle.std.proofs.Common.{◌≡◌, sym, ◌∙◌, ap, ℕ, ◌+◌, ◌<◌, ◌≤◌, List, length, drop, arith}
use Rattle.std.specs.Prelude.{Some, slice_get}
use Rattle.std.proofs.lemmas.Option.{slice_get_within}
use Rattle.model.specs.declared.records.Record.{Record}
use Rattle.model.specs.Handler.{Meaning}
use Rattle.model.specs.World.{World}
use Rattle.model.specs.Records.{vector_of}
use Rattle.model.proofs.Places.{get_below}
use Rattle.theory.proofs.Certificate.{Invariant, reachable_invariant}
use Rattle.theory.proofs.FirmVector.{units_within}
use Rattle.theory.proofs.ListLaws.{get_drop, map_at}
use Rattle.compact.specs.Compact.{Compact, Interval, CompactUnit, interval_of}
use Rattle.compact.specs.StepLaws.{StandsCompact}
use Rattle.unit_steps.specs.Receipts.{NoLonger}
use Rattle.layer_laws.proofs.Made.{length-vector_of}

-- the vector of a node has no more entries than there are units
pub vector_within : {S : Type 0} (M : Meaning S) (w : World) (g : Invariant M w) (n x : ℕ)
    → x < length w.nodes → length w.members ≡ n → length (vector_of w.nodes x) ≤ n
vector_within M w g n x h e = let a = length-vector_of w.nodes x in
    let b = units_within M w g x h in omega (arith, a, b, e)

-- No vector of a unit's intervals has more entries than there are units.
pub widths : {S : Type 0} (M : Meaning S) (name : List ℕ) (k : Compact S) (w : World) (log : List Record)
    → StandsCompact M name k w log → (u : ℕ) (x : CompactUnit S) → slice_get k.units u ≡ Some x
    → (intervals : List Interval) → x.intervals ≡ intervals → (n : ℕ) → length k.units ≡ n → NoLonger n intervals
widths M name k w log stands u x at intervals same n long i v e =
    let width = stands.represents.width in
    let g = reachable_invariant M stands.reached in
    let m = get_below w.members u (let a = slice_get_within k.units u x at in omega (arith, a, width)) in
    let here = stands.represents.units u m.0 x m.1 at in
    let f = map_at (interval_of w.nodes)
    (drop x.base.index m.0.path) i v (ap (λ vs. slice_get vs i) (sym here.intervals ∙ same) ∙ e) in
    let made = (g.chain.sound.units u m.0 m.1).made (x.base.index + i) f.0 (get_drop m.0.path x.base.index i f.0 f.1) in
    let long_of : length v.vector ≡ length (vector_of w.nodes f.0) = ap (λ (z : Interval). length z.vector) f.2 in
    let within = vector_within M w g n f.0 made (sym width ∙ long) in
    omega (arith, long_of, within)
