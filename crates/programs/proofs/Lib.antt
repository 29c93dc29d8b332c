-- What each module is about, and in brackets the lemma to look at first.
-- Runs: the steps of a run (`run_goes`).
-- Coded: bytes of a page, and pages in the place of zeros (`set_among_others`).
-- Images: bytes of a memory (`length_of`).
pub mod Runs
pub mod Coded
pub mod Images
