-- Which texts are names of tenants.
use Rattle.std.specs.Prelude.{ℕ, Bool, ◌&&◌, ◌||◌, ◌==◌, nat_le, List, length}
use Rattle.std.specs.List.{list_all}
use Rattle.model.specs.declared.limits.TheConstants.{MAX_NAME_BYTES}

-- a to z, 0 to 9 or a hyphen
abbrev pub is_name_byte : ℕ → Bool
is_name_byte c = (nat_le 97 c && nat_le c 122) || ((nat_le 48 c && nat_le c 57) || c == 45)

-- 1 to 32 such bytes
abbrev pub is_tenant_name : List ℕ → Bool
is_tenant_name name = nat_le 1 (length name) && (nat_le (length name) MAX_NAME_BYTES && list_all is_name_byte name)
