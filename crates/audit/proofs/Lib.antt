-- What each module is about, and in brackets the lemma to look at first.
-- Queues: the first packet from one unit to another, by its place (`first_here`).
-- Orders: workers whose units are numbered 0 upwards (`numbered_more`).
-- Making: moves as the code makes them (`move_made`).
-- Beginning: the first unit whose outputs do not begin with its list (`begins_is`).
-- Taking: a letter that is taken (`letter_taken`).
-- Floats: the value of an outcome has no float (`has_float-outcome`).
pub mod Queues
pub mod Orders
pub mod Making
pub mod Beginning
pub mod Taking
pub mod Floats
