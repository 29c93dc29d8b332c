-- What each module is about, and in brackets the lemma to look at first.
-- Entries: the history of a book that did a list of steps (`entered`).
-- Tenants: the same own steps lead a tenant the same way, where the store was honest and each reply is a promise
--   (`same_course`).
-- Headline: the headline, of lists of steps (`headline_of_lists`, `headline_of_answers`).
pub mod Entries
pub mod Tenants
pub mod Headline
