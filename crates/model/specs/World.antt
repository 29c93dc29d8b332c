-- The world of one tenant, and what is read off it.
use Rattle.std.specs.Prelude.{ℕ, Bool, true, false, cond, not, ◌&&◌, ◌||◌, ◌==◌, nat_lt, nat_le, max, List, [], ◌∷◌}
use Rattle.std.specs.Prelude.{length, take, drop, Option, Some, None, slice_get, map, option_to_list}
use Rattle.std.specs.List.{filter, count_by, fold, list_any, list_all, take_while, flat_map}
use Rattle.model.specs.declared.names.Seat.{Seat}
use Rattle.model.specs.declared.names.Row.{Row}
use Rattle.model.specs.declared.names.Mark.{Mark}
use Rattle.model.specs.declared.names.Quota.{Quota}
use Rattle.model.specs.declared.names.Source.{Source}
use Rattle.model.specs.declared.names.Source.TheVariants.{Outside, Unit as FromUnit}
use Rattle.model.specs.Handler.{Meaning}
use Rattle.model.specs.Lists.{has, from_end}
use Rattle.model.specs.Nodes.{Node, Cause, began, outside, letter, node_at, Message, Execution, execution, begun, past}

-- One unit: its path as the places of its nodes, how many of them are stable, whether it is up,
-- how many rows of the table it knows, and the outputs released so far.
pub record Member : Type 0 where
  pub seat : Seat
  pub path : List ℕ
  pub stable : ℕ
  pub up : Bool
  pub known : ℕ
  pub released : List (List ℕ)

-- An open tenant: its limits, its units, its nodes with the newest first, and the table of rows.
-- `optimism` is how many units a letter's past may have unstable nodes of.
pub record World : Type 0 where
  pub quota : Quota
  pub optimism : ℕ
  pub members : List Member
  pub nodes : List Node
  pub table : List Row

-- the turns, sends and letters of the world's nodes
abbrev pub executed : {S : Type 0} → Meaning S → World → Execution S
executed M w = execution M w.nodes

abbrev pub same_source : Source → Source → Bool
same_source Outside Outside = true
same_source (FromUnit u) (FromUnit v) = u == v
same_source Outside (FromUnit v) = false
same_source (FromUnit u) Outside = false

-- ---- marks and rows

-- the first mark is the lesser, or the same
abbrev pub mark_le : Mark → Mark → Bool
mark_le x y = nat_lt x.incarnation y.incarnation || ((x.incarnation == y.incarnation) && nat_le x.index y.index)

abbrev pub mark_of : Node → Mark
mark_of n = record { incarnation = n.incarnation; index = n.index }

-- the unit's greatest incarnation in the table, 0 where it has no row
abbrev pub incarnation_of : List Row → ℕ → ℕ
incarnation_of [] u = 0
incarnation_of (r ∷ rows) u = cond (r.unit == u) (max r.incarnation (incarnation_of rows u)) (incarnation_of rows u)

-- the row is the unit's, and begins a later incarnation at or before the mark's index
abbrev pub mark_lost_by : ℕ → Mark → Row → Bool
mark_lost_by u g r = (r.unit == u) && (nat_lt g.incarnation r.incarnation && nat_le r.start g.index)

-- the rows lose what the unit did at this mark
abbrev pub mark_lost : List Row → ℕ → Mark → Bool
mark_lost rows u g = list_any (mark_lost_by u g) rows

-- the rows tell of the incarnation of this mark of the unit: it is the first, or has a row
abbrev pub mark_told : List Row → ℕ → Mark → Bool
mark_told rows u g = (g.incarnation == 0) || list_any (λ r. (r.unit == u) && (r.incarnation == g.incarnation)) rows

-- the same of a node, by its mark
abbrev pub is_lost_by : Node → Row → Bool
is_lost_by n r = mark_lost_by n.unit (mark_of n) r

abbrev pub is_lost : List Row → Node → Bool
is_lost rows n = mark_lost rows n.unit (mark_of n)

abbrev pub is_told : List Row → Node → Bool
is_told rows n = mark_told rows n.unit (mark_of n)

-- ---- letters and nodes with their pasts

-- the nodes of the past of x
abbrev pub past_nodes : List Node → ℕ → List Node
past_nodes nodes x = map (node_at nodes) (past nodes x)

-- some node of the past has an incarnation that these rows do not tell of
abbrev pub is_blind : List Node → List Row → ℕ → Bool
is_blind nodes rows x = list_any (λ y. not (is_told rows (node_at nodes y))) (past nodes x)

-- some node of the past is lost by these rows
abbrev pub is_orphan : List Node → List Row → ℕ → Bool
is_orphan nodes rows x = list_any (λ y. is_lost rows (node_at nodes y)) (past nodes x)

-- ---- what is stable

abbrev pub stable_path : Member → List ℕ
stable_path m = take m.stable m.path

-- the node stands on the path of its unit within the stable length
abbrev pub is_stable : List Member → ℕ → Bool
is_stable members x = list_any (λ m. has (stable_path m) x) members

-- every node of the past is stable
abbrev pub is_firm : World → ℕ → Bool
is_firm w x = list_all (is_stable w.members) (past w.nodes x)

-- the units that have a node in the past which is not stable
abbrev pub unstable_units : World → ℕ → List Member
unstable_units w x =
    let unstable = filter (λ y. not (is_stable w.members y)) (past w.nodes x) in
    filter (λ m. list_any (λ y. (node_at w.nodes y).unit == m.seat.unit) unstable) w.members

-- ---- receipts and outputs of a path

-- whom a node received from; nobody for a beginning
abbrev pub source_of : List Node → Cause → Option Source
source_of nodes began = None
source_of nodes (outside number text) = Some Outside
source_of nodes (letter m sender) = Some (FromUnit (node_at nodes sender).unit)

abbrev pub is_from : Source → Option Source → Bool
is_from source None = false
is_from source (Some other) = same_source other source

-- how many receipts on a path are from the source
abbrev pub taken : List Node → List ℕ → Source → ℕ
taken nodes path source = count_by (λ x. is_from source (source_of nodes (node_at nodes x).cause)) path

abbrev pub text_of_letter : Option Message → List ℕ
text_of_letter None = []
text_of_letter (Some m) = m.text

-- the text that a node received
abbrev pub text_of : List Message → Cause → List ℕ
text_of letters began = []
text_of letters (outside number text) = text
text_of letters (letter m sender) = text_of_letter (slice_get letters m)

-- what a node received: from whom, and the text; nothing for a beginning
abbrev pub receipt_of : List Message → List Node → Cause → List (Source × List ℕ)
receipt_of letters nodes cause =
    map (λ source. (source, text_of letters cause)) (option_to_list (source_of nodes cause))

-- the receipts of the nodes at these places, in order
abbrev pub receipts : List Message → List Node → List ℕ → List (Source × List ℕ)
receipts letters nodes path = flat_map (λ x. receipt_of letters nodes (node_at nodes x).cause) path

-- the outputs of a unit's path, each with the place of its node
abbrev pub path_outputs : {S : Type 0} → Meaning S → World → Member → List (ℕ × List ℕ)
path_outputs M w m =
    let turns = (executed M w).turns in
    flat_map (λ x. map (λ text. (x, text)) (from_end turns x (begun M m.seat)).outputs) m.path

-- the outputs of the path that are not yet released
abbrev pub held : {S : Type 0} → Meaning S → World → Member → List (ℕ × List ℕ)
held M w m = drop (length m.released) (path_outputs M w m)

-- the held outputs that can be released: from the front, as long as their node is firm
abbrev pub releasable : {S : Type 0} → Meaning S → World → Member → List (ℕ × List ℕ)
releasable M w m = take_while (λ o. is_firm w o.0) (held M w m)

-- ---- the record of a node that is logged

-- the mark of every unit's beginning
abbrev pub no_mark : Mark
no_mark = record { incarnation = 0; index = 0 }

abbrev pub greater_mark : Mark → Mark → Mark
greater_mark x y = cond (mark_le x y) y x

-- the greatest mark of a unit among these nodes, that of its beginning where it has none
abbrev pub greatest_mark : List Node → ℕ → Mark
greatest_mark nodes u = fold greater_mark no_mark (map mark_of (filter (λ n. n.unit == u) nodes))
