-- Walks along edges: joined, closed and repeated; and the ranks that they give.
use Rattle.std.proofs.Common.{◌≡◌, ℕ, zero, suc, ◌+◌, ◌<◌, ◌≤◌, max, List, [], ◌∷◌, length, get_or, refl, sym, ap, subst, ◌∙◌, inl, inr, ◌⊎◌, arith}
use Rattle.std.specs.Prelude.{Contains}
use Rattle.std.proofs.lemmas.Bool.{cases_lt}
use Rattle.std.proofs.lemmas.List.{get_or_read, get_or_default, get_or_past}
use Rattle.dependency_graph.specs.Order.{providers, Walk, IsRank}
use Rattle.dependency_graph.specs.Cycle.{HasCycle, HasNoCycle}
use Rattle.dependency_graph.specs.Search.{IsPart, IsPath, AreNoted, mark_of}
use Rattle.dependency_graph.specs.declared.ranks.Mark.{Mark}
use Rattle.dependency_graph.specs.declared.ranks.Mark.TheVariants.{Done}

-- two walks, one after the other
pub joined : (edges : List (List ℕ)) (m n a b c : ℕ) → Walk edges m a b → Walk edges n b c → Walk edges (m + n) a c
joined edges zero n a b c first then = let e : 0 + n ≡ n = omega arith in rw e (rw first then)
joined edges (suc m) n a b c (next, edge, rest) then =
    let e : suc m + n ≡ suc (m + n) = omega arith in
    rw e (next, edge, joined edges m n next b c rest then)

-- a member of a list with a first item is that item or one of the rest
pub member_cases : {X : Type 0} (x : X) (xs : List X) (y : X) → Contains (x ∷ xs) y → (x ≡ y) ⊎ Contains xs y
member_cases x xs y (zero, within, is) = inl is
member_cases x xs y (suc k, within, is) = inr (k, omega arith, is)

-- the last unit of a path leads to the first from each unit on it
pub way_to_top : (edges : List (List ℕ)) (top : ℕ) (path : List ℕ) (unit : ℕ) →
    IsPath edges (top ∷ path) → Contains (top ∷ path) unit → (steps : ℕ) × Walk edges steps unit top
way_to_top edges top [] unit way on =
    elim (member_cases top [] unit on) [ inl is ↦ (0, sym is) | inr more ↦ absurd (omega (arith, more.1)) ]
way_to_top edges top (user ∷ rest) unit (edge, way) on =
    elim (member_cases top (user ∷ rest) unit on) [
      | inl is ↦ (0, sym is)
      | inr more ↦ let found = way_to_top edges user rest unit way more in
          (found.0 + 1, joined edges found.0 1 unit user top found.1 (top, edge, refl))
    ]

-- a provider of the top unit that stands on the path closes a cycle
pub closed : (edges : List (List ℕ)) (top : ℕ) (path : List ℕ) (unit : ℕ) →
    IsPath edges (top ∷ path) → Contains (top ∷ path) unit → Contains (providers edges top) unit → HasCycle edges
closed edges top path unit way on edge =
    let found = way_to_top edges top path unit way on in (top, (found.0, (unit, edge, found.1)))

-- the longer of two chains
longer : (edges : List (List ℕ)) (unit rank below : ℕ) → (last : ℕ) × Walk edges rank unit last →
    (last : ℕ) × Walk edges (suc below) unit last → (last : ℕ) × Walk edges (max rank (below + 1)) unit last
longer edges unit rank below one other =
    elim (cases_lt rank (below + 1)) [
      | inl short ↦ let e : max rank (below + 1) ≡ suc below = omega arith in rw e other
      | inr long ↦ let e : max rank (below + 1) ≡ rank = omega arith in rw e one
    ]

-- no chain through one more provider is longer than both
longest_more : (edges : List (List ℕ)) (unit next rank provider below : ℕ) →
    next < length (providers edges unit) → provider ≡ get_or (providers edges unit) next provider →
    IsRank edges provider below →
    IsPart edges (record { unit = unit; next = next; rank = rank }) →
    (at : ℕ) → at < next + 1 → (steps last : ℕ) → Walk edges steps (get_or (providers edges unit) at 0) last →
    suc steps ≤ max rank (below + 1)
longest_more edges unit next rank provider below within is known part at before steps last way =
    elim (cases_lt at next) [
      | inl early ↦ let short = part.longest at early steps last way in omega (arith, short)
      | inr late ↦
          let same : at ≡ next = omega arith in
          let e : get_or (providers edges unit) at 0 ≡ provider =
          ap (λ k. get_or (providers edges unit) k 0) same
          ∙ sym (get_or_read (providers edges unit) next provider within is 0) in
          let short = known.longest steps last (subst (λ u. Walk edges steps u last) e way) in
          omega (arith, short)
    ]

-- one more provider, of which the rank is known
pub part_more : (edges : List (List ℕ)) (unit next rank provider below : ℕ) →
    next < length (providers edges unit) → provider ≡ get_or (providers edges unit) next provider →
    IsRank edges provider below →
    IsPart edges (record { unit = unit; next = next; rank = rank }) →
    IsPart edges (record { unit = unit; next = next + 1; rank = max rank (below + 1) })
part_more edges unit next rank provider below within is known part = record {
  known = part.known;
  within = omega arith;
  reached =
      longer edges unit rank below part.reached
      (known.reached.0, (provider, (next, within, sym is), known.reached.1));
  longest = longest_more edges unit next rank provider below within is known part;
}

-- no walk is longer than the longest through any provider
longest_whole : (edges : List (List ℕ)) (unit next rank : ℕ) →
    length (providers edges unit) ≤ next →
    IsPart edges (record { unit = unit; next = next; rank = rank }) →
    (steps last : ℕ) → Walk edges steps unit last → steps ≤ rank
longest_whole edges unit next rank all part zero last way = omega arith
longest_whole edges unit next rank all part (suc steps) last (provider, (at, within, is), way) =
    let e : provider ≡ get_or (providers edges unit) at 0 =
    get_or_read (providers edges unit) at provider within (sym is) 0 in
    part.longest at (omega arith) steps last (subst (λ u. Walk edges steps u last) e way)

-- all providers gone through give the rank
pub part_whole : (edges : List (List ℕ)) (unit next rank : ℕ) →
    length (providers edges unit) ≤ next →
    IsPart edges (record { unit = unit; next = next; rank = rank }) → IsRank edges unit rank
part_whole edges unit next rank all part = record {
  reached = part.reached;
  longest = longest_whole edges unit next rank all part;
}

-- what has a provider is a unit
pub user_known : (edges : List (List ℕ)) (unit provider : ℕ) → Contains (providers edges unit) provider →
    unit < length edges
user_known edges unit provider edge =
    elim (cases_lt unit (length edges)) [
      | inl known ↦ known
      | inr past ↦
          let none = subst (λ l. Contains l provider) (get_or_past edges unit [] past) edge in
          absurd (omega (arith, none.1))
    ]

-- where each unit has a rank there is no cycle
pub no_cycle : (edges : List (List ℕ)) →
    ((unit : ℕ) → unit < length edges → (rank : ℕ) × IsRank edges unit rank) → HasNoCycle edges
no_cycle edges ranked unit (steps, closed) =
    let r = ranked unit (user_known edges unit closed.0 closed.1) in
    let way = r.1.reached in
    let over = r.1.longest (suc steps + r.0) way.0 (joined edges (suc steps) r.0 unit unit way.0 closed way.1) in
    omega (arith, over)

-- one more provider that is done
pub part_step : (edges : List (List ℕ)) (marks : List Mark) (ranks : List ℕ) (unit next rank chain : ℕ)
    (list : List ℕ) → AreNoted edges marks ranks → list ≡ providers edges unit → next < length list →
    mark_of marks (get_or list next 0) ≡ Done → chain ≡ max rank (get_or ranks (get_or list next 0) 0 + 1) →
    IsPart edges (record { unit = unit; next = next; rank = rank }) →
    IsPart edges (record { unit = unit; next = next + 1; rank = chain })
part_step edges marks ranks unit next rank chain list noted same within done is part =
    let inside : next < length (providers edges unit) = rw (sym same) within in
    let provider = get_or list next 0 in
    let reads : provider ≡ get_or (providers edges unit) next provider =
    ap (λ l. get_or l next 0) same ∙ get_or_default (providers edges unit) next 0 provider inside in
    rw is (part_more edges unit next rank provider (get_or ranks provider 0) inside reads (noted.right provider done)
    part)
