-- What each module is about, and in brackets the lemma to look at first.
-- Ends: what known bytes end with (`ends_with_grown`).
-- Measured: one byte more is measured (`consumes_none`).
pub mod Ends
pub mod Measured
