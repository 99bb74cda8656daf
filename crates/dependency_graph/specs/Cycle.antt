-- Cycles of units: closed walks along edges, and the one cycle that is reported.
-- It begins at the least unit on any cycle and goes back to it by the shortest way.
use Rattle.std.specs.Prelude.{◌≡◌, ◌≢◌, ℕ, suc, ◌≤◌, false, List, [], ◌∷◌, Result, Ok, Err, Contains}
use Rattle.std.specs.Ordering.{is_gt, nat_cmp}
use Rattle.std.specs.Cmp.Lexicographic.{slice_cmp}
use Rattle.dependency_graph.specs.Order.{providers, name_of, Walk, Placed, IsOrder, AreProvidersFirst}
use Rattle.dependency_graph.specs.declared.unit_order.OrderFault.{OrderFault}
use Rattle.dependency_graph.specs.declared.unit_order.OrderFault.TheVariants.{Cycle, NoMemory}

-- a unit lies on a cycle where a walk of one step or more leads from it to itself
abbrev pub IsOnCycle : List (List ℕ) → ℕ → Type 0
IsOnCycle edges unit = (steps : ℕ) × Walk edges (suc steps) unit unit

-- some unit lies on a cycle
abbrev pub HasCycle : List (List ℕ) → Type 0
HasCycle edges = (unit : ℕ) × IsOnCycle edges unit

-- no unit lies on a cycle
abbrev pub HasNoCycle : List (List ℕ) → Type 0
HasNoCycle edges = (unit : ℕ) → IsOnCycle edges unit → ⊥

-- the name of the first unit is the second's or stands before it in byte order
abbrev pub IsNotAfter : List (List ℕ) → ℕ → ℕ → Type 0
IsNotAfter names a b = is_gt (slice_cmp nat_cmp (name_of names a) (name_of names b)) ≡ false

-- the unit with the least name of those on cycles
pub record IsLeastOnCycle (names edges : List (List ℕ)) (unit : ℕ) : Type 0 where
  pub on : IsOnCycle edges unit
  pub least : (other : ℕ) → IsOnCycle edges other → IsNotAfter names unit other

-- the provider of a unit with the fewest steps to the goal; of several as near, the one whose name comes first
pub record IsNearest (names edges : List (List ℕ)) (goal unit next : ℕ) : Type 0 where
  pub provider : Contains (providers edges unit) next
  pub distance : ℕ
  pub way : Walk edges distance next goal
  pub nearest : (other steps : ℕ) → Contains (providers edges unit) other → Walk edges steps other goal →
      distance ≤ steps
  pub least : (other : ℕ) → Contains (providers edges unit) other → Walk edges distance other goal →
      IsNotAfter names next other

-- the way from a unit on to the goal, each unit followed by its nearest provider, without the goal at its end
abbrev pub IsWayBack : List (List ℕ) → List (List ℕ) → ℕ → ℕ → List ℕ → Type 0
IsWayBack names edges goal unit [] = IsNearest names edges goal unit goal
IsWayBack names edges goal unit (next ∷ rest) =
    IsNearest names edges goal unit next × (next ≢ goal) × IsWayBack names edges goal next rest

-- the reported cycle: the least unit on a cycle, and the way from it back to itself
abbrev pub IsNearestCycle : List (List ℕ) → List (List ℕ) → List ℕ → Type 0
IsNearestCycle names edges [] = ⊥
IsNearestCycle names edges (unit ∷ rest) = IsLeastOnCycle names edges unit × IsWayBack names edges unit unit rest

-- what an order says: there is no cycle, and it is the list by rank and name, providers first
pub record IsOrdered (names edges : List (List ℕ)) (order : List Placed) : Type 0 where
  pub no_cycle : HasNoCycle edges
  pub whole : IsOrder names edges order
  pub before : AreProvidersFirst edges order

-- what each answer says; want of memory says nothing
abbrev pub Answers : List (List ℕ) → List (List ℕ) → Result (List Placed) OrderFault → Type 0
Answers names edges (Ok order) = IsOrdered names edges order
Answers names edges (Err (Cycle units)) = IsNearestCycle names edges units
Answers names edges (Err NoMemory) = Unit {0}
