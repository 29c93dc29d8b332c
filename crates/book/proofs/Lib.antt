-- What each module is about, and in brackets the lemma to look at first.
-- Answers: what the calls of a tenant say of a tenant that may be unopened (`of_open_known`).
-- Replays: one more entry: the book is still the replay of its history (`isolated`).
-- Runs: one more step of a run (`ran_end`).
-- Certified: the certificate of a tenant's world holds, whatever its entries are (`headline`).
-- Lasting: what is released stays so to the end of a history, and begins what the certificate's run puts out
--   (`stays_released`).
-- PastKept: of its past a tenant keeps what the rules leave of its own entries (`footprint_none`).
-- Devices: the entries that say that the device failed are counted among its failures (`counts_on`).
-- Wanting: no step is answered as one for which there was no memory (`never_wanting`).
-- Parted: a tenant's own entries of a history are a history of it alone (`legal_part`).
-- Live: the log has just the live records that a history leaves (`live_after`).
-- Standing: a host goes on from each book that it stands for (`given_up_keeps`).
pub mod Answers
pub mod Replays
pub mod Runs
pub mod Certified
pub mod Lasting
pub mod PastKept
pub mod Devices
pub mod Wanting
pub mod Parted
pub mod Standing
pub mod Live
