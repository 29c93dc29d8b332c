-- What each module is about, and in brackets the lemma to look at first.
-- NoBrace: a text that begins with neither a space nor a brace that opens is no step (`begins_no_object`).
-- NoStep: what tokens are no step: those of no object, and of one without the verb (`nothing_is_no_step`).
-- Turns: the grammar's loop over the members, a turn at a time, and the members that were seen (`members_over`).
-- Written: the text of each reply, part by part (`opened_text`).
-- Lists: lists that were written piece by piece (`pieces_2`).
-- Parts: lines in their shortest form: what their parts are (`number_written`).
-- Plain: steps whose names and texts need no escape: what they are read from is the shortest text of what stands
--   behind the verb (`post_is`).
-- Compact: lines in their shortest form are steps by their tokens (`step_of_text`).
mod NoBrace
mod NoStep
mod Turns
pub mod Written
pub mod Lists
mod Parts
mod Plain
mod Compact
