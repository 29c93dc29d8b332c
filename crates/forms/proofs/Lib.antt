-- What each module is about, and in brackets the lemma to look at first.
-- Lines: the step of a line, from what `serde_json` says of its text (`step_of_line-read`).
-- OneLine: what `serde_json` writes has no line feed (`one_line`).
-- Replies: the value of a reply has no float, and nests three deep at most (`has_float-reply`).
-- Floats: the value of a record has no float (`has_float-record`).
pub mod Lines
pub mod OneLine
pub mod Replies
pub mod Floats
