-- What each module is about, and in brackets the lemma to look at first.
-- Outcomes: a step whose reply is a promise comes out the same, whatever else the store says (`same_outcome`).
-- Histories: two histories of the same steps, whose replies are promises, have the same replies (`same_history`).
-- Lines: lines that are served twice (`goes_on`).
-- Memory: how the lines of replies for want of memory end (`memory_is_told`).
-- Hosts: a host's run is that of a book (`hosts_go_on`).
pub mod Outcomes
pub mod Histories
pub mod Lines
pub mod Memory
pub mod Hosts
