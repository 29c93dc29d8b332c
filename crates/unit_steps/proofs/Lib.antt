-- What each module is about, and in brackets the lemma to look at first.
-- Both: the first refusal of several lists of tests (`refused_by_both`).
-- Frontiers: how far a path is firm (`ends_past`).
-- Numbers: what numbers letters have (`room_left`).
-- Pending: what holds of a letter that depends on few units (`few_unstable`).
-- Seen: what is computed at one unit is what the steps of the compact state compute (`letters_are_refused`).
-- Spent: what is left of letters whose contents are forgotten (`front_stays`).
-- Vectors: what the vector of a receipt is made of (`joined_first`).
pub mod Both
pub mod Frontiers
pub mod Numbers
pub mod Pending
pub mod Seen
pub mod Spent
pub mod Vectors
