-- What each module is about, and in brackets the lemma to look at first.
-- Fronts: fronts of lists, under a map (`pair_on_path`).
-- Marks: the marks of joined vectors (`mark_for-joined`).
-- Numbers: lists over the numbers from one on (`get_or-numbers`).
-- Made: a node's vector is what the calls on vectors make of those of its parents (`vectors_are_made`).
-- Sessions: the sessions along a path answer as the definitions' counts do (`sessions_tell`).
-- SessionSteps: the sessions along a path are made by the calls that count receipts and sends (`sessions_go_on`).
-- Orphans: the first orphan among a path's vectors is where the path is cut (`first_orphan_cuts`).
-- Unstable: the units that are unstable by a vector are as many as have an unstable node in the past
--   (`unstable_are_counted`).
-- Frontiers: a unit's frontier tells which nodes of its path are firm, and so which held outputs can go
--   (`frontiers_tell`).
-- Volatile: volatile logs follow what becomes stable, and what is cut (`volatile_logs_follow`).
pub mod Fronts
pub mod Marks
pub mod Numbers
pub mod Made
pub mod Sessions
pub mod SessionSteps
pub mod Orphans
pub mod Unstable
pub mod Frontiers
pub mod Volatile
