use Rattle.std.proofs.Common.{◌≡◌, ℕ, ◌≤◌, length}
use Rattle.json.specs.Json.{members, value}
use Rattle.serde_json.specs.Data.{no_members}
use Rattle.serde_json.specs.Read.{of_members, converted}
use Rattle.quick_forms.specs.Seen.{seen_members}
use Rattle.quick_forms.proofs.steps.members.Given as goal

-- what is still to come, put to the members that were seen, is the whole
abbrev pub invariant-members : goal.invariant-members
invariant-members l =
    (n : ℕ) × (length l.reader ≤ n)
    × ((m : ℕ)
    → converted (λ ms. of_members ms no_members) (members (value m) (length l.initial.reader) l.initial.reader)
    ≡ converted (λ ms. of_members ms (seen_members l.seen)) (members (value m) n l.reader))

abbrev pub decreases-members : goal.decreases-members
decreases-members l = length l.reader
