-- The order of units as a value: their ranks, the one list by rank and name, and the one cycle that is reported. What
-- goes along edges takes as many steps as there are units: a walk that visits no unit twice has fewer.
use Rattle.std.specs.Prelude.{◌≡◌, ℕ, zero, suc, ◌+◌, ◌==◌, max, Bool, true, false, nat_lt, is_some, List, [], ◌∷◌, length, map, filter, unwrap_or, Option, Some, None, option_map, Result, Ok, Err, if◌then◌else◌}
use Rattle.std.specs.List.{list_any, range_with_len}
use Rattle.std.specs.FinMap.{FinMap, from_entries, values}
use Rattle.std.specs.Ordering.{is_lt, nat_cmp, ordering_then}
use Rattle.std.specs.Cmp.Lexicographic.{slice_cmp}
use Rattle.std.specs.declared.cmp.Ordering.{Ordering}
use Rattle.cm_base.specs.declared.diag.Diag.{Diag}
use Rattle.dependency_graph.specs.Order.{providers, name_of, Placed}
use Rattle.dependency_graph.specs.declared.unit_order.OrderFault.{OrderFault}
use Rattle.dependency_graph.specs.declared.unit_order.OrderFault.TheVariants.{Cycle, NoMemory}

-- the units, by number
abbrev pub units : List (List ℕ) → List ℕ
units names = range_with_len 0 (length names)

-- ---- ranks

-- 0 without ranks, and else one more than the greatest
abbrev pub above : List ℕ → ℕ
above [] = 0
above (rank ∷ ranks) = max (rank + 1) (above ranks)

-- the rank of a unit where no more than so many steps along edges are taken
abbrev pub rank_within : List (List ℕ) → ℕ → ℕ → ℕ
rank_within edges zero unit = 0
rank_within edges (suc steps) unit = above (map (λ provider. rank_within edges steps provider) (providers edges unit))

-- The rank of a unit: a unit without providers has 0, any other stands one above the highest of its providers. More
-- steps change nothing where there is no cycle.
unfoldable pub rank_of : List (List ℕ) → ℕ → ℕ
rank_of edges unit = rank_within edges (length edges) unit

-- ---- the order

-- where a unit stands
pub record Position : Type 0 where
  pub rank : ℕ
  pub name : List ℕ

-- the order of positions: by rank, and then by name in byte order
abbrev pub position_cmp : Position → Position → Ordering
position_cmp a b = ordering_then (nat_cmp a.rank b.rank) (slice_cmp nat_cmp a.name b.name)

-- a unit with its rank, at its position
abbrev pub placed : List (List ℕ) → List (List ℕ) → ℕ → Position × Placed
placed names edges unit = (
  record { rank = rank_of edges unit; name = name_of names unit },
  record { unit = unit; rank = rank_of edges unit },
)

-- the units with their ranks, by rank and then by name
abbrev pub build_order : List (List ℕ) → List (List ℕ) → List Placed
build_order names edges = values (from_entries {R = position_cmp} (map (placed names edges) (units names)))

-- ---- the cycle

-- the lesser of two numbers, of those that are there
abbrev pub lesser : Option ℕ → Option ℕ → Option ℕ
lesser None b = b
lesser (Some a) None = Some a
lesser (Some a) (Some b) = if nat_lt b a then Some b else Some a

abbrev pub least : List (Option ℕ) → Option ℕ
least [] = None
least (a ∷ more) = lesser a (least more)

-- the fewest steps from a unit to a goal, where they are no more than so many
abbrev pub distance_within : List (List ℕ) → ℕ → ℕ → ℕ → Option ℕ
distance_within edges goal zero unit = if unit == goal then Some 0 else None
distance_within edges goal (suc steps) unit = if unit == goal then Some 0
    else option_map (λ distance. distance + 1)
    (least (map (λ provider. distance_within edges goal steps provider) (providers edges unit)))

-- the fewest steps from a unit to a goal, if there is a way
unfoldable pub distance_to : List (List ℕ) → ℕ → ℕ → Option ℕ
distance_to edges goal unit = distance_within edges goal (length edges) unit

abbrev pub has_way : List (List ℕ) → ℕ → ℕ → Bool
has_way edges goal unit = is_some (distance_to edges goal unit)

-- of these units the one that comes first; of equals the first one
abbrev pub better : (ℕ → ℕ → Bool) → ℕ → Option ℕ → ℕ
better before unit None = unit
better before unit (Some other) = if before other unit then other else unit

abbrev pub best : (ℕ → ℕ → Bool) → List ℕ → Option ℕ
best before [] = None
best before (unit ∷ more) = Some (better before unit (best before more))

-- a unit's name stands before another's in byte order
abbrev pub name_before : List (List ℕ) → ℕ → ℕ → Bool
name_before names a b = is_lt (slice_cmp nat_cmp (name_of names a) (name_of names b))

-- a unit is nearer to a goal than another, or as near and its name stands before
abbrev pub is_nearer_to : List (List ℕ) → List (List ℕ) → ℕ → ℕ → ℕ → Bool
is_nearer_to names edges goal a b =
    is_lt (ordering_then (nat_cmp (unwrap_or (distance_to edges goal a) 0) (unwrap_or (distance_to edges goal b) 0))
    (slice_cmp nat_cmp (name_of names a) (name_of names b)))

-- the least unit on any cycle: it has a provider from which a way leads back to it
abbrev pub least_on_cycle : List (List ℕ) → List (List ℕ) → Option ℕ
least_on_cycle names edges =
    best (name_before names) (filter (λ unit. list_any (has_way edges unit) (providers edges unit)) (units names))

-- the provider of a unit that is nearest to a goal, the least name among equals
abbrev pub nearest_provider : List (List ℕ) → List (List ℕ) → ℕ → ℕ → Option ℕ
nearest_provider names edges goal unit =
    best (is_nearer_to names edges goal) (filter (has_way edges goal) (providers edges unit))

-- .. with the way from there, unless it is the goal
abbrev pub then_on : ℕ → Option ℕ → (ℕ → List ℕ) → List ℕ
then_on goal None rest = []
then_on goal (Some next) rest = if next == goal then [] else next ∷ rest next

-- the way from a unit by nearest providers, up to a goal and without it, of so many steps at most
abbrev pub way_within : List (List ℕ) → List (List ℕ) → ℕ → ℕ → ℕ → List ℕ
way_within names edges goal zero unit = []
way_within names edges goal (suc steps) unit =
    then_on goal (nearest_provider names edges goal unit) (λ next. way_within names edges goal steps next)

unfoldable pub way_back : List (List ℕ) → List (List ℕ) → ℕ → List ℕ
way_back names edges goal = way_within names edges goal (length edges) goal

-- the cycle that is reported, if there is any: the least unit on one, and its nearest way back to itself
abbrev pub nearest_cycle : List (List ℕ) → List (List ℕ) → Option (List ℕ)
nearest_cycle names edges = option_map (λ unit. unit ∷ way_back names edges unit) (least_on_cycle names edges)

-- ---- the answer

abbrev pub unless_cycle : Option (List ℕ) → List Placed → Result (List Placed) (List ℕ)
unless_cycle None order = Ok order
unless_cycle (Some cycle) order = Err cycle

-- the units in order, or the cycle that stands in its way
abbrev pub ordered : List (List ℕ) → List (List ℕ) → Result (List Placed) (List ℕ)
ordered names edges = unless_cycle (nearest_cycle names edges) (build_order names edges)

-- the call answers this order or this cycle; nothing is said for want of memory
abbrev pub GivesOrder : Result (List Placed) OrderFault → Result (List Placed) (List ℕ) → Type 0
GivesOrder (Ok order) answer = answer ≡ Ok order
GivesOrder (Err (Cycle cycle)) answer = answer ≡ Err cycle
GivesOrder (Err NoMemory) answer = Unit {0}

-- ---- the refusal

-- the first of these units
abbrev pub first_of : List ℕ → ℕ
first_of [] = 0
first_of (unit ∷ more) = unit

-- the refusal of a cycle: 26 on the file of its first unit, with the names of all its units
abbrev pub cycle_diag : List (List ℕ) → List ℕ → Diag
cycle_diag names cycle = record {
  number = 26;
  at = record { file = name_of names (first_of cycle); line = 0; col = 0 };
  names = map (name_of names) cycle;
}
