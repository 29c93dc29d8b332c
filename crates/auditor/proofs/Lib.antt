-- What each module is about, and in brackets the lemma to look at first.
-- Orders: elements that are numbered from the last one down (`numbered_down`).
-- Clear: the audit of a book's tenant finds no flaw (`clear`).
-- Parting: a history parted by tenants, one entry after another (`parts_on`).
pub mod Orders
pub mod Clear
pub mod Parting
