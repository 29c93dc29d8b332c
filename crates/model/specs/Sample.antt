-- What the sample handler means.
use Rattle.std.specs.Prelude.{ℕ, ◌+◌, ◌-◌, ◌*◌, ◌%◌, Bool, if◌then◌else◌, ◌&&◌, ◌==◌, nat_le, min, List, [], ◌∷◌}
use Rattle.std.specs.Prelude.{length, Option, Some, None, codes, decimal, bytes_eq}
use Rattle.std.specs.List.{fold, list_all}
use Rattle.model.specs.declared.names.Seat.{Seat}
use Rattle.model.specs.declared.names.Source.{Source}
use Rattle.model.specs.Handler.{Turn, Meaning}

-- a unit that counts or adds has a number, any other none
abbrev pub State : Type 0
State = Option ℕ

abbrev pub kind_named : List ℕ → Option ℕ
kind_named name =
    if bytes_eq name (codes "echo") then Some 0 else
    if bytes_eq name (codes "relay") then Some 1 else
    if bytes_eq name (codes "count") then Some 2 else
    if bytes_eq name (codes "adder") then Some 3 else
    if bytes_eq name (codes "tee") then Some 4 else None

abbrev pub begin : Seat → State
begin seat = if (seat.kind == 2) then Some 0 else if (seat.kind == 3) then Some 0 else None

abbrev pub number_in : State → ℕ
number_in None = 0
number_in (Some n) = n

-- the greatest number of 64 bits
abbrev pub greatest : ℕ
greatest = 18446744073709551615

abbrev pub value_of : List ℕ → ℕ
value_of digits = fold (λ n d. 10 * n + (d - 48)) 0 digits

-- 1 to 20 digits, and no more than the greatest number
abbrev pub is_number : List ℕ → Bool
is_number text =
    nat_le 1 (length text)
    && (nat_le (length text) 20
    && (list_all (λ c. nat_le 48 c && nat_le c 57) text && nat_le (value_of text) greatest))

abbrev pub echo : State → List ℕ → Turn State
echo state text = record { state = state; sends = []; outputs = text ∷ [] }

abbrev pub relay : Seat → State → List ℕ → Turn State
relay seat state text = record {
  state = state;
  sends = if (seat.home == 0) then [] else ((seat.unit + 1) % seat.home, text) ∷ [];
  outputs = [];
}

abbrev pub tell : ℕ → Turn State
tell n = record { state = Some n; sends = []; outputs = decimal n ∷ [] }

abbrev pub count : State → Turn State
count state = tell (min (number_in state + 1) greatest)

abbrev pub adder : State → List ℕ → Turn State
adder state text =
    if is_number text then tell (min (number_in state + value_of text) greatest)
    else record { state = state; sends = []; outputs = codes "?" ∷ [] }

abbrev pub tee : Seat → State → List ℕ → Turn State
tee seat state text =
    record { state = state; sends = if (seat.unit == 255) then [] else (seat.unit + 1, text) ∷ []; outputs = text ∷ [] }

abbrev pub handle : Seat → State → Source → List ℕ → Turn State
handle seat state source text =
    if (seat.kind == 0) then echo state text else
    if (seat.kind == 1) then relay seat state text else
    if (seat.kind == 2) then count state else
    if (seat.kind == 3) then adder state text else
    if (seat.kind == 4) then tee seat state text else
    record { state = state; sends = []; outputs = [] }

abbrev pub sample : Meaning State
sample = record { kind = kind_named; begin = begin; handle = handle }
