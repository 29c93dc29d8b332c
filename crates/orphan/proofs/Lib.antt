-- What each module is about, and in brackets the lemma to look at first.
-- NoRows: what holds where a table has no rows (`bits_go_on`).
pub mod NoRows
