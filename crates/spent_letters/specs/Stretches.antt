-- Letters whose contents are forgotten, in stretches that repeat.
use Rattle.std.specs.Prelude.{◌≡◌, ℕ, zero, suc, ◌+◌, ◌/◌, ◌%◌, ◌<◌, ◌==◌, ◌&&◌, Bool, true, false, not, if◌then◌else◌}
use Rattle.std.specs.Prelude.{List, [], ◌∷◌, ◌++◌, length, drop, Option, None, Some, slice_get}
use Rattle.std.specs.Option.{option_to_list}
use Rattle.std.specs.List.{fold}
use Rattle.spent_letters.specs.declared.letter.SpentLetter.{SpentLetter}
use Rattle.spent_letters.specs.declared.stretch.TheConstants.{HEAD}

-- ---- the period of letters

abbrev pub same_letter : SpentLetter → SpentLetter → Bool
same_letter a b = (a.source == b.source) && (a.receiver == b.receiver)

-- the letters are those of the other list, as far as both go
unfoldable pub agree : List SpentLetter → List SpentLetter → Bool
agree [] ys = true
agree (x ∷ xs) [] = true
agree (x ∷ xs) (y ∷ ys) = same_letter x y && agree xs ys

-- each letter is as the one so many before it
abbrev pub repeats : List SpentLetter → ℕ → Bool
repeats head n = agree (drop n head) head

-- the least distance above this one at which they repeat, of so many, else how many they are
unfoldable pub least_above : List SpentLetter → ℕ → ℕ → ℕ
least_above head n zero = length head
least_above head n (suc left) = if repeats head (n + 1) then n + 1 else least_above head (n + 1) left

abbrev pub period : List SpentLetter → ℕ
period head = least_above head 0 (length head / 2)

-- ---- a stretch

-- where it begins, its first letters, and how many more there are
pub record Stretch : Type 0 where
  pub start : ℕ
  pub head : List SpentLetter
  pub more : ℕ

-- the letter that follows these first letters and so many more
abbrev pub after : List SpentLetter → ℕ → Option SpentLetter
after head more = slice_get head ((HEAD + more) % period head)

abbrev pub next : Stretch → Option SpentLetter
next s = after s.head s.more

-- the first letters, and so many more
unfoldable pub grown : List SpentLetter → ℕ → List SpentLetter
grown head zero = head
grown head (suc more) = grown head more ++ option_to_list (after head more)

-- ---- all letters

-- stretches, the last one first, and the letters behind them
pub record Packed : Type 0 where
  pub stretches : List Stretch
  pub tail : List SpentLetter

unfoldable pub letters_in : List Stretch → List SpentLetter
letters_in [] = []
letters_in (s ∷ ss) = letters_in ss ++ grown s.head s.more

abbrev pub letters_of : Packed → List SpentLetter
letters_of p = letters_in p.stretches ++ p.tail

unfoldable pub told : Option SpentLetter → SpentLetter → Bool
told None x = false
told (Some y) x = same_letter y x

-- the last stretch has this letter next
unfoldable pub tells : List Stretch → SpentLetter → Bool
tells [] x = false
tells (s ∷ ss) x = told (next s) x

unfoldable pub tells_first : List Stretch → List SpentLetter → Bool
tells_first ss [] = false
tells_first ss (x ∷ xs) = tells ss x

-- the last stretch has one letter more
unfoldable pub lengthened : List Stretch → List Stretch
lengthened [] = []
lengthened (s ∷ ss) = record { start = s.start; head = s.head; more = s.more + 1 } ∷ ss

-- a stretch stands behind these
abbrev pub with_stretch : List Stretch → List SpentLetter → ℕ → List Stretch
with_stretch ss head more = record { start = length (letters_in ss); head = head; more = more } ∷ ss

-- the letter stands behind the stretches, and makes one of as many as are kept in full
abbrev pub put_apart : Packed → SpentLetter → Packed
put_apart p x =
    if length p.tail + 1 == HEAD
    then record { stretches = with_stretch p.stretches (p.tail ++ x ∷ []) 0; tail = [] }
    else record { stretches = p.stretches; tail = p.tail ++ x ∷ [] }

-- one letter more
abbrev pub pushed : Packed → SpentLetter → Packed
pushed p x =
    if (length p.tail == 0) && tells p.stretches x
    then record { stretches = lengthened p.stretches; tail = [] }
    else put_apart p x

-- the stretches of a list
unfoldable pub packed : List SpentLetter → Packed
packed xs = fold pushed (record { stretches = []; tail = [] }) xs

-- ---- what such stretches are

-- Each begins where the one before it ends, with as many letters in full, of which the first is not what the one before
-- it has next.
unfoldable pub AreWhole : List Stretch → Type 0
AreWhole [] = Unit {0}
AreWhole (s ∷ ss) =
    (s.start ≡ length (letters_in ss)) × (length s.head ≡ HEAD) × (tells_first ss s.head ≡ false) × AreWhole ss

pub record IsPacked (p : Packed) : Type 0 where
  pub whole : AreWhole p.stretches
  pub short : length p.tail < HEAD
  pub apart : tells_first p.stretches p.tail ≡ false

-- a stretch can begin with these letters behind them
abbrev pub follows : Packed → List SpentLetter → Bool
follows p head = (length head == HEAD) && ((length p.tail == 0) && not (tells_first p.stretches head))
