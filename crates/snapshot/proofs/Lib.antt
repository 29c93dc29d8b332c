-- What each module is about, and in brackets the lemma to look at first.
-- Faults: what `?` gives back (`failed`).
-- Lines: what units gave up and released, as one list and as two (`lists_are`).
-- Names: names of which each comes once (`new_name`).
-- Order: lists of which each item has a relation to each behind it (`AllPairs-append`).
-- Room: the order in which live records are written (`tenant_follows`, `fits_next`).
-- Whole: what is behind the name of the handler in a snapshot (`opened`).
pub mod Faults
pub mod Lines
pub mod Names
pub mod Order
pub mod Room
pub mod Whole
