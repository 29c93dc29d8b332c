-- The letters and the balances of a ledger add up, turn by turn.
use Rattle.std.proofs.Common.{◌≡◌, ◌∙◌, ℕ, ◌+◌, Bool, if◌then◌else◌, true, false, List, [], ◌∷◌, ◌++◌, Option, Some}
use Rattle.std.proofs.Common.{None, refl, sym, ap, arith}
use Rattle.std.specs.Prelude.{bytes_eq, map}
use Rattle.std.proofs.lemmas.List.{map-append}
use Rattle.std.proofs.lemmas.Bool.Decides.{nat_tests}
use Rattle.std.proofs.lemmas.Slice.Eq.{bytes_eq-Decides}
use Rattle.billing.specs.declared.request.Movement.{Movement}
use Rattle.billing.specs.declared.request.Movement.TheVariants.{Charge, Refund}
use Rattle.billing.specs.Requests.{Request, balance_after, request_in, line_of}
use Rattle.billing.specs.Accounts.{balance, with_balance}
use Rattle.billing.specs.Billing.{State, card_unit, ledger, settled_by, answered}
use Rattle.billing.specs.Laws.{AddsUp, accounts_after, letters_of, carried_out, carried_out_of, requests_of, charged}
use Rattle.billing.specs.Laws.{refunded, charges_cents, refunds_cents}

-- another balance of one account leaves those of the others
at_it : (found other : Bool) (cents old rest : ℕ)
    → other ≡ found → (if found then cents else rest) ≡ (if found then cents else (if other then old else rest))
at_it true other cents old rest e = refl
at_it false other cents old rest e = rw e

past_it : (found other : Bool) (cents old rest after : ℕ)
    → (found ≡ true → other ≡ true → ⊥) → after ≡ (if found then cents else rest)
    → (if other then old else after) ≡ (if found then cents else (if other then old else rest))
past_it true true cents old rest after apart e = absurd (apart refl refl)
past_it true false cents old rest after apart e = e
past_it false true cents old rest after apart e = refl
past_it false false cents old rest after apart e = e

balance-with_balance : (accounts : State) (account : List ℕ) (cents : ℕ) (name : List ℕ) → balance
    (with_balance accounts account cents) name ≡ (if bytes_eq account name then cents else balance accounts name)
balance-with_balance [] account cents name = refl
balance-with_balance (first ∷ others) account cents name =
    elim (bytes_eq first.name account) as (λ v. bytes_eq first.name account ≡ v → balance (if v then record {
      name =
          account;
      cents = cents;
    } ∷ others else first ∷ with_balance others account cents) name ≡ (if bytes_eq
    account name then cents else (if bytes_eq first.name name then first.cents else balance others name))) [
      | true ↦ λ e. at_it (bytes_eq account name) (bytes_eq first.name name) cents
          first.cents (balance others name) (ap (λ x. bytes_eq x name) ((bytes_eq-Decides first.name account).0 e))
      | false ↦
          λ e. past_it (bytes_eq account name) (bytes_eq first.name name) cents first.cents (balance others name) _
          (λ f g. let same : first.name ≡ account =
          (bytes_eq-Decides first.name name).0 g ∙ sym ((bytes_eq-Decides account name).0 f) in
          let d : bytes_eq first.name account ≡ true = (bytes_eq-Decides first.name account).1 same in cc)
          (balance-with_balance others account cents name)
    ] refl

-- a movement that may be made
movement_adds : (movement : Movement) (now cents after : ℕ) → balance_after movement now cents ≡ Some after
    → after + refunds_cents movement cents ≡ now + charges_cents movement cents
movement_adds Charge now cents after e = grind (arith, nat_tests)
movement_adds Refund now cents after e = grind (arith, nat_tests)

named_adds : (is_its : Bool) (movement : Movement) (own now cents after : ℕ)
    → (is_its ≡ true → own ≡ now) → balance_after movement own cents ≡ Some after
    → (if is_its then after else now) + ((if is_its then refunds_cents movement cents else 0) + 0)
    ≡ now + ((if is_its then charges_cents movement cents else 0) + 0)
named_adds true movement own now cents after same e = let m = movement_adds movement own cents after e in
    let s : own ≡ now = same refl in omega arith
named_adds false movement own now cents after same e = refl

-- one turn
settled_adds : (accounts : State) (request : Request) (after : Option ℕ) (name : List ℕ)
    → balance_after request.movement (balance accounts request.account) request.cents ≡ after
    → balance (settled_by accounts request after).state
    name + refunded name (carried_out request after) ≡ balance accounts name + charged name (carried_out request after)
settled_adds accounts request None name e = refl
settled_adds accounts request (Some after) name e =
    rw (balance-with_balance accounts request.account after name)
    (named_adds (bytes_eq request.account name) request.movement (balance accounts request.account) (balance accounts
    name) request.cents after (λ is. ap (balance accounts) ((bytes_eq-Decides request.account name).0 is)) e)

answered_adds : (accounts : State) (text : List ℕ) (request : Option Request) (name : List ℕ)
    → balance (answered accounts text request).state name + refunded
    name (carried_out_of accounts request) ≡ balance accounts name + charged name (carried_out_of accounts request)
answered_adds accounts text None name = refl
answered_adds accounts text (Some request) name = settled_adds accounts request _ name refl

charged-append : (name : List ℕ) (xs ys : List Request) → charged name (xs ++ ys) ≡ charged name xs + charged name ys
charged-append name [] ys = omega arith
charged-append name (x ∷ xs) ys = let more = charged-append name xs ys in omega arith

refunded-append : (name : List ℕ) (xs ys : List Request)
    → refunded name (xs ++ ys) ≡ refunded name xs + refunded name ys
refunded-append name [] ys = omega arith
refunded-append name (x ∷ xs) ys = let more = refunded-append name xs ys in omega arith

balances : (accounts : State) (texts : List (List ℕ)) (name : List ℕ) → balance (accounts_after accounts texts) name
    + refunded name (requests_of accounts texts) ≡ balance accounts name + charged name (requests_of accounts texts)
balances accounts [] name = refl
balances accounts (text ∷ texts) name =
    let one = answered_adds accounts text (request_in text) name in
    let more = balances (ledger accounts text).state texts name in
    let out = charged-append name
    (carried_out_of accounts (request_in text)) (requests_of (ledger accounts text).state texts) in
    let back = refunded-append
    name (carried_out_of accounts (request_in text)) (requests_of (ledger accounts text).state texts) in
    omega arith

-- the letters
abbrev told : Request → ℕ × List ℕ
told request = (card_unit, line_of request)

settled_sends : (accounts : State) (request : Request) (after : Option ℕ)
    → (settled_by accounts request after).sends ≡ map told (carried_out request after)
settled_sends accounts request None = refl
settled_sends accounts request (Some after) = refl

answered_sends : (accounts : State) (text : List ℕ) (request : Option Request)
    → (answered accounts text request).sends ≡ map told (carried_out_of accounts request)
answered_sends accounts text None = refl
answered_sends accounts text (Some request) = settled_sends accounts request _

letters : (accounts : State) (texts : List (List ℕ)) → letters_of accounts texts ≡ map told (requests_of accounts texts)
letters accounts [] = refl
letters accounts (text ∷ texts) =
    let one = answered_sends accounts text (request_in text) in
    let more = letters (ledger accounts text).state texts in
    let both =
    map-append told (carried_out_of accounts (request_in text)) (requests_of (ledger accounts text).state texts) in
    cc

-- The letters and the balances of a ledger add up to the requests that it carried out.
pub adds_up : (texts : List (List ℕ)) → AddsUp texts
adds_up texts = record {
  letters = letters [] texts;
  balances = λ name. let h = balances [] texts name in omega arith;
}
