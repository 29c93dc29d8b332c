-- What each module is about, and in brackets the lemma to look at first.
-- Outside: receipts from outside along what is kept of a path (`counts_based`).
-- Sends: sends that are counted one after another (`room_after_receipt`).
-- Replays: replay of one record more (`replayed_more`).
-- Whole: which parts are those of a unit (`whole_is`).
-- StaysKept: what a unit keeps is still kept after each call (`kept_shelved`).
-- Snapshots: what is found on a shelf on which the last interval was put (`few_others`).
-- Tails: the search for the first orphan, of which there is a tail (`none_before`).
-- Cuts: what a unit keeps when its path is cut (`cut_nothing`).
-- Forgetting: what a unit keeps when its base moves (`kept_forgotten`).
-- Restored: there is a snapshot from which a unit is restored (`restored_fold`).
pub mod Outside
pub mod Sends
pub mod Replays
pub mod StaysKept
pub mod Whole
pub mod Snapshots
pub mod Tails
pub mod Cuts
pub mod Forgetting
pub mod Restored
