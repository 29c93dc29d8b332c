-- What the calls on a dependency vector give, over the list of its marks.
use Rattle.std.specs.Prelude.{ℕ, List, [], ◌∷◌, replicate, slice_index_or}
use Rattle.model.specs.declared.names.Mark.{Mark}
use Rattle.model.specs.Lists.{padded}
use Rattle.model.specs.World.{greater_mark, no_mark}

-- the mark of a unit, that of its beginning where the vector has no entry for it
abbrev pub mark_for : List Mark → ℕ → Mark
mark_for vector unit = slice_index_or vector unit no_mark

-- each of n units at its beginning
abbrev pub begun_vector : ℕ → List Mark
begun_vector n = replicate n no_mark

-- entry by entry the greater mark, as long as the first vector
abbrev pub joined : List Mark → List Mark → List Mark
joined own [] = own
joined [] (y ∷ other) = []
joined (x ∷ own) (y ∷ other) = greater_mark x y ∷ joined own other

-- the vector of a tenant that has n units now
abbrev pub widened : List Mark → ℕ → List Mark
widened vector n = padded no_mark vector n
