-- There is one order and one cycle at most, and more steps change no rank.
use Rattle.std.proofs.Common.{◌≡◌, ◌∙◌, ℕ, zero, suc, ◌+◌, ◌<◌, ◌≤◌, ◌==◌, Bool, true, false, not, cond, List, [], ◌∷◌, length, sym, ap, refl, subst, inl, inr, ◌⊎◌, arith, Some, eqb-true}
use borrow.Author.Tests.{eqb-false}
use Rattle.std.specs.Prelude.{Contains}
use Rattle.dependency_graph.specs.Order.{providers, Walk, AllAreUnits}
use Rattle.dependency_graph.specs.Cycle.{HasNoCycle}
use Rattle.dependency_graph.specs.Ordered.{rank_within, rank_of}
use Rattle.dependency_graph.specs.OrderLaws.{CycleIsOne, MoreStepsChangeNothing, OrderIsOne}
use Rattle.dependency_graph.proofs.Counting.{Member, Differ, without}
use Rattle.dependency_graph.proofs.CycleValue.{cycle_is}
use Rattle.dependency_graph.proofs.OrderValue.{order_is}
use Rattle.dependency_graph.proofs.RankValues.{provider_known, rank_longest, rank_reached}

pub one_order : OrderIsOne
one_order names edges a b same known apart is other =
    sym (order_is names edges a same known apart is) ∙ order_is names edges b same known apart other

pub one_cycle : CycleIsOne
one_cycle names edges a b same known apart is other =
    let e : Some a ≡ Some b = sym (cycle_is names edges a same known apart is) ∙ cycle_is names edges b same known
    apart other in cc

-- ---- differing numbers below a bound

kept_by : (m x u : ℕ) (xs : List ℕ) (b : Bool) → (x == m) ≡ b → (Member (without m xs) u → Member xs u × (u ≡ m → ⊥))
    → Member (cond (not b) (x ∷ without m xs) (without m xs)) u → ((x ≡ u) ⊎ Member xs u) × (u ≡ m → ⊥)
kept_by m x u xs true is rest h = let r = rest h in (inr r.0, r.1)
kept_by m x u xs false is rest (inl same) = (inl same, λ e. eqb-false x m is (same ∙ e))
kept_by m x u xs false is rest (inr more) = let r = rest more in (inr r.0, r.1)

kept : (m u : ℕ) (xs : List ℕ) → Member (without m xs) u → Member xs u × (u ≡ m → ⊥)
kept m u [] h = absurd h
kept m u (x ∷ xs) h = kept_by m x u xs (x == m) refl (kept m u xs) h

differ_by : (m x : ℕ) (xs : List ℕ) (b : Bool) → (Member xs x → ⊥) → Differ (without m xs)
    → Differ (cond (not b) (x ∷ without m xs) (without m xs))
differ_by m x xs true first rest = rest
differ_by m x xs false first rest = (λ h. first (kept m x xs h).0, rest)

still_differ : (m : ℕ) (xs : List ℕ) → Differ xs → Differ (without m xs)
still_differ m [] d = tt
still_differ m (x ∷ xs) d = differ_by m x xs (x == m) d.0 (still_differ m xs d.1)

gone_none : (m x : ℕ) (xs : List ℕ) (b : Bool) → (x == m) ≡ b → ((x ≡ m → ⊥)) → length xs ≡ length (without m xs)
    → length (x ∷ xs) ≡ length (cond (not b) (x ∷ without m xs) (without m xs))
gone_none m x xs true is other rest = absurd (other (eqb-true x m is))
gone_none m x xs false is other rest = omega (arith, rest)

-- a number that isn't there isn't taken away
none_gone : (m : ℕ) (xs : List ℕ) → (Member xs m → ⊥) → length xs ≡ length (without m xs)
none_gone m [] other = refl
none_gone m (x ∷ xs) other =
    gone_none m x xs (x == m) refl (λ e. other (inl e)) (none_gone m xs (λ h. other (inr h)))

one_by : (m x : ℕ) (xs : List ℕ) (b : Bool) → (x == m) ≡ b → (Member xs x → ⊥) → length xs ≤ length (without m xs) + 1
    → length (x ∷ xs) ≤ length (cond (not b) (x ∷ without m xs) (without m xs)) + 1
one_by m x xs true is first rest =
    let e = none_gone m xs (subst (λ v. Member xs v → ⊥) (eqb-true x m is) first) in omega (arith, e)
one_by m x xs false is first rest = omega (arith, rest)

-- .. and another one takes one place at most
one_gone : (m : ℕ) (xs : List ℕ) → Differ xs → length xs ≤ length (without m xs) + 1
one_gone m [] d = omega arith
one_gone m (x ∷ xs) d = one_by m x xs (x == m) refl d.0 (one_gone m xs d.1)

-- differing numbers below a bound are no more than that
few : (n : ℕ) (xs : List ℕ) → Differ xs → ((u : ℕ) → Member xs u → u < n) → length xs ≤ n
few zero [] d low = omega arith
few zero (x ∷ xs) d low = let l = low x (inl refl) in absurd (omega (arith, l))
few (suc n) xs d low =
    let less = few n (without n xs) (still_differ n xs d)
    (λ u h. let k = kept n u xs h in let l = low u k.0 in let o = k.1 in omega (arith, l, o)) in
    let one = one_gone n xs d in
    omega (arith, less, one)

-- ---- walks without a cycle

-- differing units, as many as a walk has, of which each is a unit and is reached from the first
pub record Path (edges : List (List ℕ)) (walk unit : ℕ) : Type 0 where
  pub list : List ℕ
  pub long : length list ≡ walk + 1
  pub differ : Differ list
  pub known : (u : ℕ) → Member list u → u < length edges
  pub reached : (u : ℕ) → Member list u → (steps : ℕ) × Walk edges steps unit u

known_by : (edges : List (List ℕ)) (unit : ℕ) (list : List ℕ) → unit < length edges
    → ((u : ℕ) → Member list u → u < length edges) → (u : ℕ) → Member (unit ∷ list) u → u < length edges
known_by edges unit list here rest u (inl same) = subst (λ v. v < length edges) same here
known_by edges unit list here rest u (inr more) = rest u more

reached_by : (edges : List (List ℕ)) (unit next : ℕ) (list : List ℕ) → Contains (providers edges unit) next
    → ((u : ℕ) → Member list u → (steps : ℕ) × Walk edges steps next u)
    → (u : ℕ) → Member (unit ∷ list) u → (steps : ℕ) × Walk edges steps unit u
reached_by edges unit next list edge rest u (inl same) = (0, same)
reached_by edges unit next list edge rest u (inr more) = let r = rest u more in (suc r.0, (next, edge, r.1))

only : (u unit : ℕ) → Member (unit ∷ []) u → unit ≡ u
only u unit (inl same) = same
only u unit (inr more) = absurd more

-- a unit before a path, from which an edge leads to it
longer : (edges : List (List ℕ)) (walk unit next : ℕ) → HasNoCycle edges → unit < length edges
    → Contains (providers edges unit) next → Path edges walk next → Path edges (suc walk) unit
longer edges walk unit next none known edge rest =
    let long = rest.long in
    record {
      list = unit ∷ rest.list;
      long = omega (arith, long);
      differ = (λ h. let back = rest.reached unit h in none unit (back.0, (next, edge, back.1)), rest.differ);
      known = known_by edges unit rest.list known rest.known;
      reached = reached_by edges unit next rest.list edge rest.reached;
    }

path : (edges : List (List ℕ)) (walk unit last : ℕ) → AllAreUnits edges → HasNoCycle edges → unit < length edges
    → Walk edges walk unit last → Path edges walk unit
path edges zero unit last all none known way = record {
  list = unit ∷ [];
  long = omega arith;
  differ = (λ h. h, tt);
  known = known_by edges unit [] known (λ u h. absurd h);
  reached = λ u h. (0, only u unit h);
}
path edges (suc walk) unit last all none known (next, edge, way) =
    longer edges walk unit next none known edge
    (path edges walk next last all none (provider_known edges unit next all edge) way)

-- a walk has fewer steps than there are units
walk_short : (edges : List (List ℕ)) (walk unit last : ℕ) → AllAreUnits edges → HasNoCycle edges → unit < length edges
    → Walk edges walk unit last → walk < length edges
walk_short edges walk unit last all none known way =
    let p = path edges walk unit last all none known way in
    let f = few (length edges) p.list p.differ p.known in
    let l = p.long in
    omega (arith, f, l)

pub more_steps : MoreStepsChangeNothing
unfolding rank_of
more_steps edges steps unit all none known enough =
    let far = rank_reached edges steps unit in
    let near = rank_reached edges (length edges) unit in
    let short = walk_short edges (rank_within edges steps unit) unit far.0 all none known far.1 in
    let shorter = walk_short edges (rank_within edges (length edges) unit) unit near.0 all none known near.1 in
    let one = rank_longest edges (length edges) unit (rank_within edges steps unit) far.0 (omega (arith, short)) far.1
    in
    let two = rank_longest edges steps unit (rank_within edges (length edges) unit) near.0
    (omega (arith, shorter, enough)) near.1 in
    omega (arith, one, two)
