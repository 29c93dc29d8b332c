-- What each module is about, and in brackets the lemma to look at first.
-- FilesLaws: laws of rows that are filed by unit (`places_below`).
-- StartsLaws: laws of lows (`keeps_push`).
-- Orders: each row of a table begins its unit's next incarnation (`next_at`).
pub mod FilesLaws
pub mod StartsLaws
pub mod Orders
