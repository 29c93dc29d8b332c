-- Laws of lows.
use Rattle.std.proofs.Common.{◌≡◌, refl, ℕ, ◌+◌, ◌-◌, ◌<◌, ◌≤◌, List, [], ◌∷◌, ◌++◌, length, min, arith, length-append}
use Rattle.std.proofs.lemmas.List.{get_or_append_left, get_or_push}
use Rattle.std.specs.Prelude.{slice_index}
use native.Mathlib.Decide.{dec_lt}
use Rattle.incarnation.specs.Starts.{AllHigh, IsFirstLow, AreLows, IsBelowLast, KeepsLows, KeepsAll}

-- no numbers have no lows
pub keeps_none : KeepsAll [] [] [] []
keeps_none = record { by_16 = none 16; by_256 = none 256; by_4096 = none 4096 }
  where
    none : (size : ℕ) → KeepsLows [] [] size
    none size = record { long = refl; are = λ e r h k l. absurd (omega arith) }

-- one stretch after another
pub high_more : (xs : List ℕ) (index a b c : ℕ) → AllHigh xs index a b → AllHigh xs index b c → AllHigh xs index a c
high_more xs index a b c h k r from to = elim (dec_lt r b) [ yes q ↦ h r from q | no q ↦ k r (omega arith) to ]

pub low_more : (xs : List ℕ) (index a b c : ℕ)
    → a ≤ b → AllHigh xs index a b → IsFirstLow xs index b c → IsFirstLow xs index a c
low_more xs index a b c le h k =
    record { after = let t = k.after in omega arith; high = high_more xs index a b c h k.high; low = k.low }

-- one more skip
pub high_skip : (xs lows : List ℕ) (index from at size : ℕ) → AreLows xs lows size → at + size ≤ length lows
    → index < slice_index lows (at + size - 1) → 0 < size → AllHigh xs index from at → AllHigh xs index from (at + size)
high_skip xs lows index from at size are within above some h r le lt = elim (dec_lt r at) [
  | yes q ↦ h r le q
  | no q ↦ let t = are (at + size - 1) r (omega arith) (omega arith) (omega arith) in omega (arith, t, above)
]

-- one more low
pub below_more : (xs lows : List ℕ) (low end span size : ℕ) → AreLows xs lows size
    → length xs ≡ length lows + 1 → (size + end) + span ≡ length lows + size → 0 < size → 0 < span
    → IsBelowLast xs low span → IsBelowLast xs (min low (slice_index lows end)) (span + size)
below_more xs lows low end span size are long reach some wide h r within last = elim (dec_lt (r + span) (length xs)) [
  | no q ↦ let t = h r within (omega arith) in omega (arith, t)
  | yes q ↦ let t = are end r (omega arith) (omega arith) (omega arith) in omega (arith, t)
]

-- what is below more is below fewer
pub below_fewer : (xs : List ℕ) (low span wanted : ℕ)
    → wanted ≤ span → IsBelowLast xs low span → IsBelowLast xs low wanted
below_fewer xs low span wanted le h r within last = h r within (omega arith)

pub below_all : (xs : List ℕ) (low span wanted : ℕ)
    → length xs ≤ span → IsBelowLast xs low span → IsBelowLast xs low wanted
below_all xs low span wanted le h r within last = h r within (omega arith)

-- ---- a number that is pushed

-- the numbers are their own lows
pub own_lows : (xs : List ℕ) → AreLows xs xs 1
own_lows xs e r h le lt = let is : r ≡ e = omega arith in rw is (omega arith)

pub own_last : (xs : List ℕ) (x : ℕ) → IsBelowLast (xs ++ x ∷ []) x 1
own_last xs x r within last =
    let long = length-append xs (x ∷ []) in
    let is : r ≡ length xs = omega (arith, within, last, long) in
    rw (is, get_or_push xs x 0 (length xs) refl) (omega arith)

-- lows of the numbers are lows of more numbers
pub lows_older : (xs lows : List ℕ) (x size : ℕ) → KeepsLows xs lows size → AreLows (xs ++ x ∷ []) lows size
lows_older xs lows x size k e r h le lt = let long = k.long in
    rw (get_or_append_left xs (x ∷ []) 0 r (omega (arith, long, h, le))) (k.are e r h le lt)

pub keeps_more : (xs lows : List ℕ) (x low size : ℕ)
    → KeepsLows xs lows size → IsBelowLast (xs ++ x ∷ []) low size → KeepsLows (xs ++ x ∷ []) (lows ++ low ∷ []) size
keeps_more xs lows x low size k below = record { long = lengths; are = lows_are }
  where
    long_xs : length (xs ++ x ∷ []) ≡ length xs + 1
    long_xs = length-append xs (x ∷ [])

    long_lows : length (lows ++ low ∷ []) ≡ length lows + 1
    long_lows = length-append lows (low ∷ [])

    lengths : length (lows ++ low ∷ []) ≡ length (xs ++ x ∷ [])
    lengths = let t = k.long in omega (arith, t, long_xs, long_lows)

    lows_are : AreLows (xs ++ x ∷ []) (lows ++ low ∷ []) size
    lows_are e r h le lt = elim (dec_lt e (length lows)) [
      | yes q ↦ rw (get_or_append_left lows (low ∷ []) 0 e q) (lows_older xs lows x size k e r q le lt)
      | no q ↦
          let is : e ≡ length lows = omega (arith, h, long_lows) in
          let t = k.long in
          rw (is, get_or_push lows low 0 (length lows) refl)
          (below r (omega (arith, le, is, t, long_xs)) (omega (arith, lt, is, t, long_xs)))
    ]

-- how a low is found
abbrev pub FindsLow : List ℕ → ℕ → ℕ → ℕ → ℕ → Type 0
FindsLow lows own size low wanted = (xs : List ℕ)
    → AreLows xs lows size → length xs ≡ length lows + 1 → IsBelowLast xs own size → IsBelowLast xs low wanted

-- one more number with its lows
pub keeps_push : (xs of_16 of_256 of_4096 now now_16 now_256 now_4096 : List ℕ) (x a b c : ℕ)
    → now ≡ xs ++ x ∷ [] → now_16 ≡ of_16 ++ a ∷ [] → now_256 ≡ of_256 ++ b ∷ [] → now_4096 ≡ of_4096 ++ c ∷ []
    → KeepsAll xs of_16 of_256 of_4096 → FindsLow xs x 1 a 16
    → FindsLow of_16 a 16 b 256 → FindsLow of_256 b 256 c 4096 → KeepsAll now now_16 now_256 now_4096
keeps_push xs of_16 of_256 of_4096 now now_16 now_256 now_4096 x a b c e f g h k low_16 low_256 low_4096 =
    let long = length-append xs (x ∷ []) in
    let l_16 = k.by_16.long in
    let l_256 = k.by_256.long in
    let below_16 = low_16 (xs ++ x ∷ []) (own_older xs x) (omega (arith, long)) (own_last xs x) in
    let below_256 = low_256 (xs ++ x ∷ []) (lows_older xs of_16 x 16 k.by_16) (omega (arith, long, l_16)) below_16 in
    let below_4096 =
    low_4096 (xs ++ x ∷ []) (lows_older xs of_256 x 256 k.by_256) (omega (arith, long, l_256)) below_256 in
    rw (e, f, g, h) (record {
      by_16 = keeps_more xs of_16 x a 16 k.by_16 below_16;
      by_256 = keeps_more xs of_256 x b 256 k.by_256 below_256;
      by_4096 = keeps_more xs of_4096 x c 4096 k.by_4096 below_4096;
    })
  where
    own_older : (xs : List ℕ) (x : ℕ) → AreLows (xs ++ x ∷ []) xs 1
    own_older xs x e r h le lt = let is : r ≡ e = omega arith in
        rw (is, get_or_append_left xs (x ∷ []) 0 e h) (omega arith)
