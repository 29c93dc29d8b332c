-- What was read of a line's members so far; for private clauses.
use Rattle.std.specs.Prelude.{ℕ, List, codes, Option, Some, None, option_map, option_and_then}
use Rattle.json.specs.Token.{Token}
use Rattle.json.specs.Json as json
use Rattle.serde_json.specs.Data.{Data, number, unsigned, string, object, Members, no_members, member}
use Rattle.serde_json.specs.Read.{of_json, max_depth}
use Rattle.forms.specs.Reading.{◌>>=◌, step_of}
use Rattle.model.specs.declared.steps.Step.{Step}
use Rattle.quick_forms.specs.declared.steps.Seen.{Seen}

-- the member, where there is a value
abbrev pub with_if : List ℕ → Option Data → Members → Members
with_if k None ms = ms
with_if k (Some d) ms = member k d ms

-- a number
abbrev pub whole_data : ℕ → Data
whole_data n = number (unsigned n)

-- the members that there are: their keys are in the order of their bytes
abbrev pub chain : Option Data → Option Data → Option Data → Option Data → Option Data → Option Data → Option Data
    → Members
chain a b c e f g h =
    with_if (codes "do") a (with_if (codes "kind") b (with_if (codes "letter") c (with_if (codes "number") e
    (with_if (codes "tenant") f (with_if (codes "text") g (with_if (codes "unit") h no_members))))))

-- the members that were seen
abbrev pub seen_members : Seen → Members
seen_members s =
    chain (option_map (λ t. string t.now) s.verb) (option_map (λ t. string t.now) s.kind)
    (option_map whole_data s.letter) (option_map whole_data s.number)
    (option_map (λ t. string t.now) s.tenant) (option_map (λ t. string t.now) s.text) (option_map whole_data s.unit)

-- the value that tokens are
abbrev pub read_tokens : List Token → Option Data
read_tokens ts = option_and_then of_json (option_and_then (λ p. json.if_last p.0 p.1) (json.value max_depth ts))

-- the step that tokens are, or none
abbrev pub step_of_tokens : List Token → Option Step
step_of_tokens ts = read_tokens ts >>= step_of

-- ---- the value of each quick form

-- a text from outside
abbrev pub post_data : List ℕ → ℕ → List ℕ → List ℕ → ℕ → Data
post_data verb n tenant text unit =
    object (member (codes "do") (string verb) (member (codes "number") (whole_data n)
    (member (codes "tenant") (string tenant)
    (member (codes "text") (string text) (member (codes "unit") (whole_data unit) no_members)))))

-- a letter
abbrev pub deliver_data : List ℕ → ℕ → List ℕ → Data
deliver_data verb letter tenant =
    object (member (codes "do") (string verb)
    (member (codes "letter") (whole_data letter) (member (codes "tenant") (string tenant) no_members)))

-- one more unit of a kind
abbrev pub join_data : List ℕ → List ℕ → List ℕ → Data
join_data verb kind tenant =
    object (member (codes "do") (string verb)
    (member (codes "kind") (string kind) (member (codes "tenant") (string tenant) no_members)))

-- a step that names a tenant and a unit alone
abbrev pub place_data : List ℕ → List ℕ → ℕ → Data
place_data verb tenant unit =
    object (member (codes "do") (string verb)
    (member (codes "tenant") (string tenant) (member (codes "unit") (whole_data unit) no_members)))
