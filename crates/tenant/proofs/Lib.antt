-- What each module is about, and in brackets the lemma to look at first.
-- Results: what holds whatever a call gave (`if_ok`).
-- Found: what is found in a list (`found`).
-- Lines: what the units released, as lists (`none_at_first`).
-- Follow: what a tenant answers and leaves follows the compact state that it keeps (`with_one`).
-- Killing: the step `kill` (`kill_done`).
-- Telling: the step `status` (`status_done`).
-- Shelving: the step `checkpoint` (`checkpoint_done`).
-- Leaving: outputs that leave (`firm_end`).
-- Outgoing: the step `release` (`release_done`).
-- Beginning: the step `open` (`open_is`).
-- Opening: a tenant that was opened stands for the opened world, whichever log it is opened over (`opened_so`).
-- Lasts: places that are the last of a unit's live ones (`last_taken`).
-- Places: the places of live records, as the log grows (`live_same`).
-- Logging: records that are logged one after another (`of_one`).
-- Fetching: records that are fetched by their positions among a unit's live ones (`whole_fetched`).
-- Going: a unit that went back, and its records in the log (`went`).
-- Back: the steps `restart` and `notice` (`notice_not_up`).
-- Stepping: steps that do not touch the store (`fresh_ok`).
-- Others: what a tenant stands for stays where the log changes beside it (`either_beside`).
-- Lasting: what was received up to a base stays so over a step, and so does what a tenant keeps of its past
--   (`joined_bases`).
-- Moving: a unit's base moves on, and the tenant stands for the world that it stood for (`passed_all`).
-- Shelves: the checkpoints of a unit by their indices (`based_is`).
-- Emptying: a unit's base moves, and the tenant keeps what the rules leave (`none_keeps`).
-- PastKept: what each step makes of the checkpoints, and that the tenant then keeps what the rules leave
--   (`opened_past`).
-- Flushing: the step `flush` (`flush_done`).
-- Fronts: how frontiers go on, one unit after another (`flushed_by`).
-- Widths: no vector of a unit that the tenant keeps is longer than there are units (`widths`).
-- Joining: the step `join` (`join_done`).
-- Receiving: a receipt that is taken (`received_is`).
-- Asking: what a unit's turn is asked for (`refused_none`).
-- Planning: what was planned for a receipt (`planned_whole`).
-- Posting: the step `post` (`post_planned`).
-- Delivering: the step `deliver` (`content_parts`).
-- Fresh: whether a turn that was worked is of the input that a step needs (`fresh_none`).
-- Reading: what is read off a tenant is that of the world that it stands for (`receiver_same`).
-- Certifying: what a tenant keeps is what the certificate of its world is made of (`is_kept_of`).
-- Standing: whether a tenant stands for a world, opened for the proofs of this crate, and closed again (`closed`).
-- Counted: how much a tenant has of a unit's past is what the rules of keeping leave, and how long its lists are
--   (`unit_missing`).
-- Touching: where the store is asked by a restart or a notice (`notice_asked`).
-- Giving: texts that were released are given up (`past_still`).
-- Live: the log has just the live records that the rules of keeping leave (`stays_ok`).
pub mod Results
pub mod Found
pub mod Lines
pub mod Follow
pub mod Killing
pub mod Telling
pub mod Shelving
pub mod Leaving
pub mod Outgoing
pub mod Beginning
mod Opening
pub mod Lasts
mod Places
mod Logging
mod Fetching
mod Going
mod Back
mod Stepping
mod Others
pub mod Lasting
mod Moving
mod Shelves
pub mod Emptying
pub mod PastKept
mod Flushing
mod Fronts
mod Widths
pub mod Joining
pub mod Receiving
pub mod Asking
pub mod Planning
pub mod Posting
pub mod Delivering
pub mod Fresh
pub mod Reading
pub mod Certifying
pub mod Standing
mod Counted
mod Touching
pub mod Giving
pub mod Live
