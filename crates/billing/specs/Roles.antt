-- What a unit is for.
use Rattle.std.specs.Prelude.{ℕ, if◌then◌else◌, ◌==◌, List, Option, Some, None, codes, bytes_eq}
use Rattle.billing.specs.declared.role.Role.{Role}
use Rattle.billing.specs.declared.role.Role.TheVariants.{Ledger, Card}

abbrev pub role_named : List ℕ → Option Role
role_named name =
    if bytes_eq name (codes "ledger") then Some Ledger else
    if bytes_eq name (codes "card") then Some Card else None

abbrev pub kind_of : Role → ℕ
kind_of Ledger = 0
kind_of Card = 1

abbrev pub role_of : ℕ → Option Role
role_of kind = if (kind == 0) then Some Ledger else if (kind == 1) then Some Card else None
