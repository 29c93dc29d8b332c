-- What stands behind the verb in the shortest text of a step; for private clauses.
use Rattle.std.specs.Prelude.{ℕ, List, ◌++◌, codes, decimal}
use Rattle.json.specs.Print.{quoted}

-- of a post: its number, tenant, text and unit
abbrev pub post_tail : ℕ → List ℕ → List ℕ → ℕ → List ℕ
post_tail number tenant text unit =
    codes ",\"number\":" ++ (decimal number ++ (codes ",\"tenant\":" ++ (quoted tenant ++ (codes ",\"text\":"
    ++ (quoted text ++ (codes ",\"unit\":" ++ (decimal unit ++ codes "}")))))))

-- of a delivery: its letter and tenant
abbrev pub deliver_tail : ℕ → List ℕ → List ℕ
deliver_tail letter tenant =
    codes ",\"letter\":" ++ (decimal letter ++ (codes ",\"tenant\":" ++ (quoted tenant ++ codes "}")))

-- of a step that names a tenant and a unit alone
abbrev pub place_tail : List ℕ → ℕ → List ℕ
place_tail tenant unit = codes ",\"tenant\":" ++ (quoted tenant ++ (codes ",\"unit\":" ++ (decimal unit ++ codes "}")))
