-- A text as a charge or a refund.
use Rattle.std.specs.Prelude.{ℕ, ◌+◌, ◌-◌, ◌++◌, Bool, if◌then◌else◌, ◌&&◌, ◌==◌, nat_le, nat_lt, List, length, Option}
use Rattle.std.specs.Prelude.{Some, None, codes, decimal, bytes_eq}
use Rattle.std.specs.List.{position_or_len, before_first, after_first}
use Rattle.std.specs.Str.{all_ascii_digits}
use Rattle.std.specs.Str.Parse.{digits_value, without_leading_plus}
use Rattle.billing.specs.declared.request.Movement.{Movement}
use Rattle.billing.specs.declared.request.Movement.TheVariants.{Charge, Refund}

abbrev pub movement_named : List ℕ → Option Movement
movement_named name =
    if bytes_eq name (codes "charge") then Some Charge else
    if bytes_eq name (codes "refund") then Some Refund else None

abbrev pub name_of : Movement → List ℕ
name_of Charge = codes "charge"
name_of Refund = codes "refund"

-- the greatest number of 64 bits
abbrev pub greatest : ℕ
greatest = 18446744073709551615

-- the balance after a movement of some cents, if it may be made: a charge has to fit, and no more is refunded than was
-- charged
abbrev pub balance_after : Movement → ℕ → ℕ → Option ℕ
balance_after Charge balance cents = if nat_le (balance + cents) greatest then Some (balance + cents) else None
balance_after Refund balance cents = if nat_le cents balance then Some (balance - cents) else None

-- one digit or more, whose value fits 64 bits
abbrev pub is_number : List ℕ → Bool
is_number digits = nat_lt 0 (length digits) && (all_ascii_digits digits && nat_le (digits_value 10 digits) greatest)

abbrev pub number_in : List ℕ → Option ℕ
number_in digits = if is_number digits then Some (digits_value 10 digits) else None

-- as Rust reads a `u64`: a plus sign may stand first
abbrev pub cents_told : List ℕ → Option ℕ
cents_told text = number_in (without_leading_plus text)

-- which way, whose balance, and how much
pub record Request : Type 0 where
  pub movement : Movement
  pub account : List ℕ
  pub cents : ℕ

abbrev pub is_blank : ℕ → Bool
is_blank byte = byte == 32

abbrev pub has_blank : List ℕ → Bool
has_blank text = nat_lt (position_or_len is_blank text) (length text)

abbrev pub request_of : Option Movement → List ℕ → Option ℕ → Option Request
request_of None account cents = None
request_of (Some movement) account None = None
request_of (Some movement) account (Some cents) =
    Some (record { movement = movement; account = account; cents = cents })

-- a movement's name, a blank, an account, which has no blank, a blank, and cents
abbrev pub request_in : List ℕ → Option Request
request_in text =
    let rest = after_first is_blank text in
    if has_blank text && has_blank rest
    then request_of (movement_named (before_first is_blank text)) (before_first is_blank rest)
    (cents_told (after_first is_blank rest))
    else None

abbrev pub line_of : Request → List ℕ
line_of request = name_of request.movement ++ (codes " " ++ (request.account ++ (codes " " ++ decimal request.cents)))
