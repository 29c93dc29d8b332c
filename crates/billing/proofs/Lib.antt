-- What each module is about, and in brackets the lemma to look at first.
-- Numbers: what `parse` reads, as `number_in` says it (`number`).
-- Balances: the letters and the balances of a ledger add up, turn by turn (`adds_up`).
pub mod Numbers
pub mod Balances
