-- What each module is about, and in brackets the lemma to look at first.
-- Lists: lists of which one element changes, and filters of filters (`map-set_kept`).
-- Parts: what is a tenant's own is in the one part that it is dealt to (`honest-part`).
-- Standing: hosts go on from each book that they stand for together (`shards_run`).
-- Serving: lines are served by hosts together where each step is done by the host that its tenant is dealt to
--   (`dealt_lines_serve`).
pub mod Lists
pub mod Parts
pub mod Standing
pub mod Serving
