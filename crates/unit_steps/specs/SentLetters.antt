-- All letters that a tenant's units sent, wherever they lie.
use Rattle.std.specs.Prelude.{ℕ, ◌==◌, ◌&&◌, Bool, List, [], ◌∷◌, Option, None, Some, cond, is_none, is_some}
use Rattle.compact.specs.Compact.{CompactLetter}
use Rattle.spent_letters.specs.declared.letter.SpentLetter.{SpentLetter}

-- the letters by their numbers, and how many more there is room for
pub record SentLetters : Type 0 where
  pub items : List CompactLetter
  pub room : ℕ

-- the letter that is left where its content was forgotten
abbrev pub spent_letter : SpentLetter → CompactLetter
spent_letter s = record { source = s.source; receiver = s.receiver; content = None }

-- and back, where it was
abbrev pub spent_of : CompactLetter → Option SpentLetter
spent_of c = cond (is_none c.content) (Some (record { source = c.source; receiver = c.receiver })) None

-- what is left of the letters at the front whose contents are forgotten
unfoldable pub front : List CompactLetter → List SpentLetter
front [] = []
front (c ∷ cs) = cond (is_none c.content) (record { source = c.source; receiver = c.receiver } ∷ front cs) []

-- the letter is to this unit, and has no content
abbrev pub is_spent_to : ℕ → CompactLetter → Bool
is_spent_to u c = (c.receiver == u) && is_none c.content

-- the letter is to this unit, and has its content
abbrev pub is_whole_to : ℕ → CompactLetter → Bool
is_whole_to u c = (c.receiver == u) && is_some c.content
