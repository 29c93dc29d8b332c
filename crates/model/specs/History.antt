-- Histories of all tenants, and which are legal.
use Rattle.std.specs.Prelude.{◌≡◌, ℕ, Bool, List, map, bytes_eq}
use Rattle.std.specs.List.{filter}
use Rattle.model.specs.declared.replies.Entry.{Entry}
use Rattle.model.specs.declared.replies.Reply.{Reply}
use Rattle.model.specs.declared.replies.Said.{Said}
use Rattle.model.specs.declared.steps.Step.{Step}
use Rattle.model.specs.Addresses.{addressed}
use Rattle.model.specs.Handler.{Meaning}
use Rattle.model.specs.Alone.{Event, alone}

-- whether the step is the tenant's
abbrev pub names : List ℕ → Step → Bool
names tenant step = bytes_eq tenant (addressed step).0

-- the pairs of step and store's answer that name the tenant, in order
abbrev pub own : List ℕ → List (Step × Said) → List Event
own tenant pairs = map (λ p. record { step = (addressed p.0).1; said = p.1 }) (filter (λ p. names tenant p.0) pairs)

abbrev pub pairs : List Entry → List (Step × Said)
pairs history = map (λ e. (e.step, e.said)) history

abbrev pub replies_to : List ℕ → List Entry → List Reply
replies_to tenant history = map (λ e. e.reply) (filter (λ e. names tenant e.step) history)

-- each tenant's replies are those of its own pairs alone
abbrev pub IsLegal : {S : Type 0} → Meaning S → List Entry → Type 0
IsLegal M history = (tenant : List ℕ) → replies_to tenant history ≡ (alone M (own tenant (pairs history))).replies
