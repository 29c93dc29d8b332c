-- What a vector tells of the past whose greatest marks it holds.
use Rattle.std.specs.Prelude.{ℕ, suc, ◌+◌, Bool, cond, not, ◌&&◌, nat_lt, List, [], ◌∷◌, slice_index}
use Rattle.model.specs.declared.names.Mark.{Mark}
use Rattle.model.specs.declared.names.Row.{Row}
use Rattle.model.specs.World.{mark_told, mark_lost}
use Rattle.theory.specs.Laws.{any_mark}

-- the rows do not tell of some entry
abbrev pub is_blind_by : List Row → List Mark → Bool
is_blind_by rows vector = any_mark (λ u g. not (mark_told rows u g)) 0 vector

-- the rows lose some entry
abbrev pub is_orphan_by : List Row → List Mark → Bool
is_orphan_by rows vector = any_mark (mark_lost rows) 0 vector

-- the unit's interval of this mark is within the unit's stable length, and no row loses it
abbrev pub is_stable_by : List Row → List ℕ → ℕ → Mark → Bool
is_stable_by rows stable_lengths u g = nat_lt g.index (slice_index stable_lengths u) && not (mark_lost rows u g)

-- some entry is not stable
abbrev pub is_unstable_by : List Row → List ℕ → List Mark → Bool
is_unstable_by rows stable_lengths vector = any_mark (λ u g. not (is_stable_by rows stable_lengths u g)) 0 vector

-- how many marks pass, where the marks are of the units from u on
abbrev pub count_marks : (ℕ → Mark → Bool) → ℕ → List Mark → ℕ
count_marks p u [] = 0
count_marks p u (g ∷ marks) = cond (p u g) 1 0 + count_marks p (suc u) marks

-- how many units have an entry that is not stable
abbrev pub unstable_count : List Row → List ℕ → List Mark → ℕ
unstable_count rows stable_lengths vector = count_marks (λ u g. not (is_stable_by rows stable_lengths u g)) 0 vector
