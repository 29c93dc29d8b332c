-- What each module is about, and in brackets the lemma to look at first.
-- Lines: the line of a text that left, part by part (`line_written`).
-- Rounds: steps of the driver one after the other, and what is written of them (`drove_some`).
-- Left: what left a unit in a history is what it released (`course_leaves`).
-- Told: what is told of a host that was driven is what its units released (`released_is_told`).
pub mod Lines
pub mod Rounds
pub mod Left
pub mod Told
