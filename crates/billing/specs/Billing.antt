-- What the handler means.
use Rattle.std.specs.Prelude.{ℕ, ◌++◌, List, [], ◌∷◌, Option, Some, None, codes, decimal}
use Rattle.std.specs.Option.{option_map}
use Rattle.model.specs.declared.names.Source.{Source}
use Rattle.model.specs.declared.names.Source.TheVariants.{Outside, Unit as FromUnit}
use Rattle.model.specs.Handler.{Turn, Meaning}
use Rattle.billing.specs.declared.accounts.Account.{Account}
use Rattle.billing.specs.declared.role.Role.{Role}
use Rattle.billing.specs.declared.role.Role.TheVariants.{Ledger, Card}
use Rattle.billing.specs.Roles.{role_named, kind_of, role_of}
use Rattle.billing.specs.Requests.{Request, balance_after, request_in, line_of}
use Rattle.billing.specs.Accounts.{balance, with_balance}

-- the state of every unit: the accounts that it keeps
abbrev pub State : Type 0
State = List Account

-- the unit that a ledger's letters go to
abbrev pub card_unit : ℕ
card_unit = 1

abbrev pub idle : State → Turn State
idle accounts = record { state = accounts; sends = []; outputs = [] }

abbrev pub puts_out : State → List ℕ → Turn State
puts_out accounts text = record { state = accounts; sends = []; outputs = text ∷ [] }

abbrev pub not_understood : State → List ℕ → Turn State
not_understood accounts text = puts_out accounts (codes "not understood: " ++ text)

-- the account has this balance from now on, and the card is told
abbrev pub accepted : State → Request → ℕ → Turn State
accepted accounts request after = record {
  state = with_balance accounts request.account after;
  sends = (card_unit, line_of request) ∷ [];
  outputs = [];
}

-- nothing moves, and whoever asked is told the balance
abbrev pub refused : State → Request → ℕ → Turn State
refused accounts request now =
    puts_out accounts (codes "refused " ++ (line_of request ++ (codes ": the balance is " ++ decimal now)))

abbrev pub settled_by : State → Request → Option ℕ → Turn State
settled_by accounts request (Some after) = accepted accounts request after
settled_by accounts request None = refused accounts request (balance accounts request.account)

abbrev pub settled : State → Request → Turn State
settled accounts request =
    settled_by accounts request (balance_after request.movement (balance accounts request.account) request.cents)

abbrev pub answered : State → List ℕ → Option Request → Turn State
answered accounts text (Some request) = settled accounts request
answered accounts text None = not_understood accounts text

-- a ledger carries a request out or refuses it
abbrev pub ledger : State → List ℕ → Turn State
ledger accounts text = answered accounts text (request_in text)

-- a card puts out what a unit sent it, and takes nothing from outside
abbrev pub card : State → Source → List ℕ → Turn State
card accounts Outside text = not_understood accounts text
card accounts (FromUnit unit) text = puts_out accounts (codes "card " ++ text)

abbrev pub handle_as : Option Role → State → Source → List ℕ → Turn State
handle_as (Some Ledger) accounts source text = ledger accounts text
handle_as (Some Card) accounts source text = card accounts source text
handle_as None accounts source text = idle accounts

abbrev pub billing : Meaning State
billing = record {
  kind = λ name. option_map kind_of (role_named name);
  begin = λ seat. [];
  handle = λ seat accounts source text. handle_as (role_of seat.kind) accounts source text;
}
