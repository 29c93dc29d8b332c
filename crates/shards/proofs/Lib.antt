-- What each module is about, and in brackets the lemma to look at first.
-- Readings: what is kept of lines, and what is read of that (`readings_are`).
-- Dealt: what was read of lines is dealt, one line after the other (`dealt_more`).
-- Merging: what each shard does of a block's lines, taken together (`merges`).
-- Telling: a shard's answers, behind one another, and all of them in the order of the lines (`written_all`).
-- Answered: a block is answered where each shard did its steps (`lent_back`).
-- GoingOn: answering goes on, a block after the other (`begins`).
-- Hosts: answering by hosts that aren't driven is serving (`all_of`).
-- Among: a shard's round is one of all shards, and answering by driven hosts is driving (`all_of`).
pub mod Readings
pub mod Dealt
pub mod Merging
pub mod Telling
pub mod Answered
pub mod GoingOn
pub mod Hosts
pub mod Among
