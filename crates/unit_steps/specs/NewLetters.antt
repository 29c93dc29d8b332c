-- The letters of one turn, wherever they lie.
use Rattle.std.specs.Prelude.{List, [], ◌∷◌}
use Rattle.compact.specs.Compact.{CompactLetter}
use Rattle.unit_steps.specs.declared.new_letters.LetterStorage.{LetterStorage}
use Rattle.unit_steps.specs.declared.new_letters.LetterStorage.TheVariants.{Zero, One, Many}

pub record NewLetters : Type 0 where
  pub items : List CompactLetter

abbrev pub few_items : LetterStorage → List CompactLetter
few_items Zero = []
few_items (One letter) = letter ∷ []
few_items (Many letters) = letters.items
