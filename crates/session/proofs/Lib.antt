-- What each module is about, and in brackets the lemma to look at first.
-- Cuts: laws of counts that are cut back (`cut_done`).
pub mod Cuts
