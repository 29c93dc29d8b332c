-- What each module is about, and in brackets the lemma to look at first.
-- Periods: what the period of letters is (`period_bounds`).
pub mod Periods
-- Growing: the letters of one stretch (`grown_at`).
pub mod Growing
-- Reversing: the last of a list, and the list read backwards.
pub mod Reversing
-- Packing: a letter more (`pushed_packed`, `pushed_letters`), and the stretches of a list (`packed_back`).
pub mod Packing
-- Finding: the letters of all stretches by their numbers (`found`).
pub mod Finding
