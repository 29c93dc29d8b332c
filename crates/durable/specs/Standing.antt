-- What stands in a journal, and what a reader that journals is seen as.
use Rattle.std.specs.Prelude.{◌≡◌, ℕ, List, [], ◌∷◌, ◌++◌, Bool, true, if◌then◌else◌, Option, Some, None, ⊤}
use Rattle.std.specs.Io.BufRead.{ends_with_byte}
use Rattle.std.specs.Io.KnownBytes.{Keeps, prepend_known}

-- the known bytes end with these
abbrev pub EndsWith : Option (List ℕ) → List ℕ → Type 0
EndsWith None bytes = ⊤
EndsWith (Some all) bytes = (before : List ℕ) × (all ≡ before ++ bytes)

-- these are the last bytes of a file, and all that it has is synced
abbrev pub EndsSynced : Option (List ℕ) → Option (List ℕ) → List ℕ → Type 0
EndsSynced contents synced bytes = EndsWith contents bytes × Keeps contents synced

-- a reader that journals: the reader below, the file, what was read and could not be made to last, how many lines were
-- ended in the file (at most 2 ^ 64 - 1), whether the file ends with a line feed or is empty, and whether the file
-- failed
pub record Journal (R F : Type 0) : Type 0 where
  pub inner : R
  pub file : F
  pub unkept : List ℕ
  pub lines : ℕ
  pub is_ended : Bool
  pub is_broken : Bool

-- the bytes that are left to read
abbrev pub left : {R F : Type 0} → (R → Option (List ℕ)) → Journal R F → Option (List ℕ)
left remaining j = prepend_known j.unkept (remaining j.inner)

-- what goes into the file for a block that was read: the block, or at the end of the input the line feed that the last
-- line may lack
abbrev pub lasting : Bool → List ℕ → List ℕ
lasting is_ended [] = if is_ended then [] else 10 ∷ []
lasting is_ended (x ∷ block) = x ∷ block

-- whether a line feed is last in the file then
abbrev pub ends_after : List ℕ → Bool
ends_after [] = true
ends_after (x ∷ block) = ends_with_byte 10 (x ∷ block)
