-- How a history interleaves feeds.
use Rattle.std.specs.Prelude.{◌≡◌, ℕ, ◌+◌, ◌<◌, length, List, [], ◌∷◌, ◌++◌, if◌then◌else◌, ◌==◌, slice_index_or}
use Rattle.model.specs.declared.steps.Step.{Step}
use Rattle.model.specs.declared.steps.Step.TheVariants.{Open, Join, Post, Deliver, Flush, Checkpoint, Kill, Restart}
use Rattle.model.specs.declared.steps.Step.TheVariants.{Notice, Release, Status}
use Rattle.model.specs.declared.replies.Reply.{Reply}
use Rattle.model.specs.declared.replies.Who.{Who}
use Rattle.model.specs.declared.replies.Who.TheVariants.{Caller, Feed, Logger}
use Rattle.model.specs.declared.replies.Entry.{Entry}

-- the step of an entry, with its number, if the feed made it
abbrev pub step_by : ℕ → Who → Step → List (ℕ × Step)
step_by f Caller step = []
step_by f (Feed g at) step = if f == g then (at, step) ∷ [] else []
step_by f Logger step = []

-- the steps that the feed made, with their numbers, in order
abbrev pub steps_by : ℕ → List Entry → List (ℕ × Step)
steps_by f [] = []
steps_by f (e ∷ es) = step_by f e.who e.step ++ steps_by f es

-- the steps, numbered from n on
abbrev pub numbered : ℕ → List Step → List (ℕ × Step)
numbered n [] = []
numbered n (s ∷ ss) = (n, s) ∷ numbered (n + 1) ss

abbrev pub IsFlush : Step → Type 0
IsFlush (Open tenant kinds quota optimism) = ⊥
IsFlush (Join tenant kind) = ⊥
IsFlush (Post unit number tenant text) = ⊥
IsFlush (Deliver tenant letter) = ⊥
IsFlush (Flush tenant unit) = Unit {0}
IsFlush (Checkpoint tenant unit) = ⊥
IsFlush (Kill tenant unit) = ⊥
IsFlush (Restart tenant unit) = ⊥
IsFlush (Notice tenant unit) = ⊥
IsFlush (Release tenant unit) = ⊥
IsFlush (Status tenant unit) = ⊥

-- a step of one of the first n feeds, or a flush by the logger
abbrev pub IsExpected : ℕ → Who → Step → Type 0
IsExpected n Caller step = ⊥
IsExpected n (Feed f at) step = f < n
IsExpected n Logger step = IsFlush step

abbrev pub AllExpected : ℕ → List Entry → Type 0
AllExpected n [] = Unit {0}
AllExpected n (e ∷ es) = IsExpected n e.who e.step × AllExpected n es

-- each feed's steps, numbered in order, and between them flushes by the logger
pub record Interleaves (feeds : List (List Step)) (history : List Entry) : Type 0 where
  pub by_feed : (f : ℕ) → f < length feeds → steps_by f history ≡ numbered 0 (slice_index_or feeds f [])
  pub others : AllExpected (length feeds) history

-- the replies to the feed's steps, in order
abbrev pub reply_by : ℕ → Who → Reply → List Reply
reply_by f Caller r = []
reply_by f (Feed g at) r = if f == g then r ∷ [] else []
reply_by f Logger r = []

abbrev pub replies_by : ℕ → List Entry → List Reply
replies_by f [] = []
replies_by f (e ∷ es) = reply_by f e.who e.reply ++ replies_by f es

-- for each of n feeds a list of receipts: the replies to its steps, in order
pub record HasReceipts (n : ℕ) (receipts : List (List Reply)) (history : List Entry) : Type 0 where
  pub lists : length receipts ≡ n
  pub by_feed : (f : ℕ) → f < length receipts → replies_by f history ≡ slice_index_or receipts f []
