-- The numbers of letters.
use Rattle.std.proofs.Common.{◌≡◌, sym, ap, subst, ℕ, ◌+◌, ◌<◌, ◌≤◌, ◌^◌, length}
use Rattle.std.proofs.Common.{arith}
use Rattle.std.proofs.lemmas.List.{set_past}
use native.Mathlib.Decide.{dec_lt}
use Rattle.session.specs.Counts.{Counts, exchanged, sent_one, sent_to}
use Rattle.rollback.proofs.Sends.{room_left as counted_left}

-- A letter to a unit without an entry is not counted.
pub sent_past : (c : Counts) (v : ℕ) → length c.units ≤ v → sent_one c v ≡ c
sent_past c v h =
    let x = exchanged c v in
    ap (λ units. record c { units = units }) (set_past c.units v (record x { sent = x.sent + 1 }) h)

-- So there is room for the sends that are left, also where one is to a unit without an entry.
pub room_left : (c : Counts) (v m n : ℕ)
    → m + 1 ≤ n → ((u : ℕ) → sent_to c u + n < 2 ^ 64) → (u : ℕ) → sent_to (sent_one c v) u + m < 2 ^ 64
room_left c v m n less room u = elim (dec_lt v (length c.units)) [
  | yes h ↦ counted_left c v m n h less room u
  | no h ↦
      let b = room u in
      let same = sent_past c v (omega (arith, h)) in
      subst (λ (d : Counts). sent_to d u + m < 2 ^ 64) (sym same) (omega (arith, less, b))
]
