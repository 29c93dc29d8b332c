-- What follows: what a ledger told its card adds up to its balances.
use Rattle.std.specs.Prelude.{◌≡◌, ℕ, ◌+◌, if◌then◌else◌, List, [], ◌∷◌, ◌++◌, Option, Some, None, map, bytes_eq}
use Rattle.billing.specs.declared.request.Movement.{Movement}
use Rattle.billing.specs.declared.request.Movement.TheVariants.{Charge, Refund}
use Rattle.billing.specs.Requests.{Request, balance_after, request_in, line_of}
use Rattle.billing.specs.Accounts.{balance}
use Rattle.billing.specs.Billing.{State, card_unit, ledger}

-- the accounts of a ledger that received these texts, the first one first
abbrev pub accounts_after : State → List (List ℕ) → State
accounts_after accounts [] = accounts
accounts_after accounts (text ∷ texts) = accounts_after (ledger accounts text).state texts

-- the letters that it sent meanwhile
abbrev pub letters_of : State → List (List ℕ) → List (ℕ × List ℕ)
letters_of accounts [] = []
letters_of accounts (text ∷ texts) = (ledger accounts text).sends ++ letters_of (ledger accounts text).state texts

-- a request, where it is carried out
abbrev pub carried_out : Request → Option ℕ → List Request
carried_out request (Some after) = request ∷ []
carried_out request None = []

abbrev pub carried_out_of : State → Option Request → List Request
carried_out_of accounts (Some request) =
    carried_out request (balance_after request.movement (balance accounts request.account) request.cents)
carried_out_of accounts None = []

-- the requests among the texts that it carried out
abbrev pub requests_of : State → List (List ℕ) → List Request
requests_of accounts [] = []
requests_of accounts (text ∷ texts) =
    carried_out_of accounts (request_in text) ++ requests_of (ledger accounts text).state texts

abbrev pub charges_cents : Movement → ℕ → ℕ
charges_cents Charge cents = cents
charges_cents Refund cents = 0

abbrev pub refunds_cents : Movement → ℕ → ℕ
refunds_cents Charge cents = 0
refunds_cents Refund cents = cents

-- what was charged to an account, and what was refunded, by some requests
abbrev pub charged : List ℕ → List Request → ℕ
charged name [] = 0
charged name (request ∷ others) =
    (if bytes_eq request.account name then charges_cents request.movement request.cents else 0) + charged name others

abbrev pub refunded : List ℕ → List Request → ℕ
refunded name [] = 0
refunded name (request ∷ others) =
    (if bytes_eq request.account name then refunds_cents request.movement request.cents else 0) + refunded name others

-- of a ledger that began with no accounts and received these texts
pub record AddsUp (texts : List (List ℕ)) : Type 0 where
  -- its letters are the requests that it carried out, each once, in order
  pub letters : letters_of [] texts ≡ map (λ request. (card_unit, line_of request)) (requests_of [] texts)
  -- and the balance of each account is what they charged less what they refunded, so that no more was refunded than
  -- charged
  pub balances : (name : List ℕ)
      → balance (accounts_after [] texts) name + refunded name (requests_of [] texts)
      ≡ charged name (requests_of [] texts)
