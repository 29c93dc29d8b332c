-- What an audit of a tenant is made of, and what it tells.
use Rattle.std.specs.Prelude.{◌≡◌, ℕ, List, [], length, map, Option, Some, None, Result, Ok, Err}
use Rattle.model.specs.World.{World}
use Rattle.model.specs.declared.moves.Flaw.{Flaw}
use Rattle.model.specs.declared.moves.Flaw.TheVariants.{NoMemory}
use Rattle.audit.specs.declared.verdict.Verdict.{Verdict}
use Rattle.book.specs.Certificates.{certificate_at}

-- what each unit of the world released, unit 0 first
abbrev pub lists_at : Option World → List (List (List ℕ))
lists_at None = []
lists_at (Some w) = map (λ m. m.released) w.members

-- A yes to the whole certificate of the world, or no memory for it: no flaw.
abbrev pub IsClear : Option World → Result Verdict Flaw → Type 0
IsClear w (Ok v) = v.moves ≡ length (certificate_at w)
IsClear w (Err NoMemory) = Unit {0}
IsClear w (Err _) = ⊥
