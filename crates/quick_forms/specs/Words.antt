-- Words of replies; for private clauses.
use Rattle.std.specs.Prelude.{ℕ, List, Bool, true, false, codes}

-- what tells whether a unit is up
unfoldable pub up_text : Bool → List ℕ
up_text true = codes ",\"up\":true"
up_text false = codes ",\"up\":false"
