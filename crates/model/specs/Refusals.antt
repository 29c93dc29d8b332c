-- The number and the name of each refusal.
use Rattle.std.specs.Prelude.{ℕ, List, codes}
use Rattle.model.specs.declared.refusals.Refusal.{Refusal}
use Rattle.model.specs.declared.refusals.Refusal.TheVariants.{BadLine, NoTenant, AlreadyOpen, BadOpen, NoUnit, Down, Up}
use Rattle.model.specs.declared.refusals.Refusal.TheVariants.{NoLetter, Wait, Orphan, Repeat, Gap, Quota, TooMuch}
use Rattle.model.specs.declared.refusals.Refusal.TheVariants.{Unlogged, Limit, Store, Memory, Pending}

abbrev pub refusal_number : Refusal → ℕ
refusal_number BadLine = 1
refusal_number NoTenant = 2
refusal_number AlreadyOpen = 3
refusal_number BadOpen = 4
refusal_number NoUnit = 5
refusal_number Down = 6
refusal_number Up = 7
refusal_number NoLetter = 8
refusal_number Wait = 9
refusal_number Orphan = 10
refusal_number Repeat = 11
refusal_number Gap = 12
refusal_number Quota = 13
refusal_number TooMuch = 14
refusal_number Unlogged = 15
refusal_number Limit = 16
refusal_number Store = 17
refusal_number Memory = 18
refusal_number Pending = 19

-- the name that lines give it
abbrev pub refusal_name : Refusal → List ℕ
refusal_name BadLine = codes "bad-line"
refusal_name NoTenant = codes "no-tenant"
refusal_name AlreadyOpen = codes "already-open"
refusal_name BadOpen = codes "bad-open"
refusal_name NoUnit = codes "no-unit"
refusal_name Down = codes "down"
refusal_name Up = codes "up"
refusal_name NoLetter = codes "no-letter"
refusal_name Wait = codes "wait"
refusal_name Orphan = codes "orphan"
refusal_name Repeat = codes "repeat"
refusal_name Gap = codes "gap"
refusal_name Quota = codes "quota"
refusal_name TooMuch = codes "too-much"
refusal_name Unlogged = codes "unlogged"
refusal_name Limit = codes "limit"
refusal_name Store = codes "store"
refusal_name Memory = codes "memory"
refusal_name Pending = codes "pending"
