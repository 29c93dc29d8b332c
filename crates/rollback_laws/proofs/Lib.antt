-- What each module is about, and in brackets the lemma to look at first.
-- Lists: laws of lists (`still_some`).
-- Places: the places and snapshots of a unit that is seen (`places_are_seen`).
-- Failures: kill, flush and frontier (`frontiers_are_seen`).
-- Receipts: receipts and their turns (`turns_are_seen`).
-- Joins: beginnings and joins (`joins_are_seen`).
-- Checkpoints: what a checkpoint puts on the shelf (`checkpoints_are_seen`).
-- Orphans: how much of a path is kept, by the first orphan (`first_orphans_are_seen`).
-- Restores: what a unit is after it went back (`restores_are_seen`).
-- Forgetting: what a unit is after its base moved (`forgetting_is_seen`).
-- Standing: what holds of a unit of a tenant whose compact state stands for a world (`units_are_ready`).
pub mod Lists
pub mod Places
pub mod Failures
pub mod Receipts
pub mod Joins
pub mod Checkpoints
pub mod Orphans
pub mod Restores
pub mod Forgetting
pub mod Standing
