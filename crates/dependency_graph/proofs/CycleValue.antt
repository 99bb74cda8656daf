-- The reported cycle is a value: distances by so many steps, the least unit on a cycle, and the nearest way back.
use Rattle.std.proofs.Common.{◌≡◌, ◌≢◌, ℕ, zero, suc, ◌+◌, ◌<◌, ◌≤◌, ◌==◌, Bool, true, false, cond, nat_lt, ◌||◌, List, [], ◌∷◌, length, get_or, map, Option, Some, None, unwrap_or, is_some, Result, Ok, Err, refl, sym, ap, ap₂, subst, ◌∙◌, inl, inr, ◌⊎◌, arith, add-one, eqb-true, ltb-true, ltb-false, lt-ltb, le-ltb, eq-eqb, ne_eqb}
use borrow.Author.Tests.{eqb-false}
use Rattle.std.specs.Prelude.{Contains, filter, option_map}
use Rattle.std.specs.List.{list_any, range_with_len}
use Rattle.std.specs.Ordering.{is_gt, is_lt, nat_cmp, ordering_reverse, ordering_then}
use Rattle.std.specs.Cmp.{IsTotalOrder}
use Rattle.std.specs.Cmp.Lexicographic.{slice_cmp, nat_list_cmp_total}
use Rattle.std.specs.declared.cmp.Ordering.{Ordering}
use Rattle.std.specs.declared.cmp.Ordering.TheVariants.{Less, Equal, Greater}
use Rattle.std.proofs.lemmas.Bool.{cases_Bool, cases_eq, cases_lt}
use Rattle.std.proofs.lemmas.List.{length-map}
use Rattle.std.proofs.lemmas.Map.Lookups.{exact_bytes}
use Rattle.dependency_graph.specs.Order.{providers, name_of, Walk, AllAreUnits, AllDiffer, Placed}
use Rattle.dependency_graph.specs.Cycle.{Answers, HasNoCycle, IsLeastOnCycle, IsNearest, IsNearestCycle, IsNotAfter, IsOnCycle, IsWayBack}
use Rattle.dependency_graph.specs.Ordered.{GivesOrder, best, better, build_order, distance_to, distance_within, has_way, is_nearer_to, least, least_on_cycle, lesser, name_before, nearest_cycle, nearest_provider, ordered, then_on, units, unless_cycle, way_back, way_within}
use Rattle.dependency_graph.specs.declared.unit_order.OrderFault.{OrderFault}
use Rattle.dependency_graph.specs.declared.unit_order.OrderFault.TheVariants.{Cycle, NoMemory}
use Rattle.dependency_graph.proofs.Walks.{member_cases, user_known}
use Rattle.dependency_graph.proofs.RankValues.{first_in, later_in, none_in, provider_known}
use Rattle.dependency_graph.proofs.Counting.{Member, as_long}
use Rattle.dependency_graph.proofs.OrderValue.{numbers_in, numbers_below, order_is}

-- ---- the least of numbers

some_by : (a b : Option ℕ) (d : ℕ) → lesser a b ≡ Some d → (a ≡ Some d) ⊎ (b ≡ Some d)
some_by None b d h = inr h
some_by (Some a) None d h = inl h
some_by (Some a) (Some b) d h = elim (cases_Bool (nat_lt b a)) [
  | inl less ↦ inr (sym (ap (λ t. cond t (Some b) (Some a)) less) ∙ h)
  | inr not_less ↦ inl (sym (ap (λ t. cond t (Some b) (Some a)) not_less) ∙ h)
]

-- a number up to this one
pub record Upto (o : Option ℕ) (most : ℕ) : Type 0 where
  pub number : ℕ
  pub is : o ≡ Some number
  pub low : number ≤ most

most_by : (a b : Option ℕ) (e : ℕ) → (a ≡ Some e) ⊎ Upto b e → Upto (lesser a b) e
most_by None b e (inl here) = cc
most_by None b e (inr more) = more
most_by (Some a) None e (inl here) = record { number = a; is = refl; low = let same : a ≡ e = cc in omega arith }
most_by (Some a) None e (inr more) = let h = more.is in cc
most_by (Some a) (Some b) e (inl here) = elim (cases_Bool (nat_lt b a)) [
  | inl less ↦
      let same : a ≡ e = cc in let l = ltb-true b a less in
      record { number = b; is = ap (λ t. cond t (Some b) (Some a)) less; low = omega (arith, same, l) }
  | inr not_less ↦ let same : a ≡ e = cc in record
      { number = a; is = ap (λ t. cond t (Some b) (Some a)) not_less; low = omega arith }
]
most_by (Some a) (Some b) e (inr more) = elim (cases_Bool (nat_lt b a)) [
  | inl less ↦
      let same : b ≡ more.number = let h = more.is in cc in let l = more.low in
      record { number = b; is = ap (λ t. cond t (Some b) (Some a)) less; low = omega (arith, same, l) }
  | inr not_less ↦
      let same : b ≡ more.number = let h = more.is in cc in let l = more.low in let n = ltb-false b a not_less in
      record { number = a; is = ap (λ t. cond t (Some b) (Some a)) not_less; low = omega (arith, same, l, n) }
]

-- a unit of a list that has this number
pub record Has (f : ℕ → Option ℕ) (list : List ℕ) (d : ℕ) : Type 0 where
  pub unit : ℕ
  pub among : Contains list unit
  pub is : f unit ≡ Some d

least_some : (f : ℕ → Option ℕ) (list : List ℕ) (d : ℕ) → least (map f list) ≡ Some d → Has f list d
least_some f [] d h = cc
least_some f (x ∷ list) d h = elim (some_by (f x) (least (map f list)) d h) [
  | inl here ↦ record { unit = x; among = first_in x list; is = here }
  | inr rest ↦
      let more = least_some f list d rest in
      record { unit = more.unit; among = later_in x list more.unit more.among; is = more.is }
]

least_most : (f : ℕ → Option ℕ) (list : List ℕ) (v e : ℕ) → Contains list v → f v ≡ Some e → Upto (least (map f list)) e
least_most f [] v e c is = absurd (none_in v c)
least_most f (x ∷ list) v e c is = elim (member_cases x list v c) [
  | inl same ↦ most_by (f x) (least (map f list)) e (inl (ap f same ∙ is))
  | inr more ↦ most_by (f x) (least (map f list)) e (inr (least_most f list v e more is))
]

-- ---- distances

-- one step more than a number
pub record OneLess (o : Option ℕ) (d : ℕ) : Type 0 where
  pub number : ℕ
  pub is : o ≡ Some number
  pub next : d ≡ number + 1

one_less : (o : Option ℕ) (d : ℕ) → option_map (λ n. n + 1) o ≡ Some d → OneLess o d
one_less None d h = cc
one_less (Some n) d h = record { number = n; is = refl; next = let same : n + 1 ≡ d = cc in sym same }

-- a walk of these steps, no more than so many
pub record Goes (edges : List (List ℕ)) (goal unit d most : ℕ) : Type 0 where
  pub way : Walk edges d unit goal
  pub short : d ≤ most

goes_none : (edges : List (List ℕ)) (goal unit d most : ℕ) (b : Bool) → (unit == goal) ≡ b
    → cond b (Some 0) None ≡ Some d → Goes edges goal unit d most
goes_none edges goal unit d most true is h =
    let none : 0 ≡ d = cc in
    record { way = subst (λ n. Walk edges n unit goal) none (eqb-true unit goal is); short = omega arith }
goes_none edges goal unit d most false is h = cc

goes_by : (edges : List (List ℕ)) (goal unit d steps : ℕ) (f : ℕ → Option ℕ) (b : Bool) → (unit == goal) ≡ b
    → ((v e : ℕ) → f v ≡ Some e → Goes edges goal v e steps)
    → cond b (Some 0) (option_map (λ n. n + 1) (least (map f (providers edges unit)))) ≡ Some d
    → Goes edges goal unit d (suc steps)
goes_by edges goal unit d steps f true is rest h =
    let none : 0 ≡ d = cc in
    record { way = subst (λ n. Walk edges n unit goal) none (eqb-true unit goal is); short = omega arith }
goes_by edges goal unit d steps f false is rest h =
    let one = one_less (least (map f (providers edges unit))) d h in
    let next = least_some f (providers edges unit) one.number one.is in
    let goes = rest next.unit one.number next.is in
    let low = goes.short in
    let e = one.next in
    record {
      way = subst (λ n. Walk edges n unit goal) (sym (e ∙ add-one one.number)) (next.unit, next.among, goes.way);
      short = omega (arith, low, e);
    }

-- a distance is that of a walk
walk_of : (edges : List (List ℕ)) (goal steps unit d : ℕ) → distance_within edges goal steps unit ≡ Some d
    → Goes edges goal unit d steps
walk_of edges goal zero unit d h = goes_none edges goal unit d zero (unit == goal) refl h
walk_of edges goal (suc steps) unit d h =
    goes_by edges goal unit d steps (λ v. distance_within edges goal steps v) (unit == goal) refl
    (λ v e is. walk_of edges goal steps v e is) h

near_none : (goal unit walk : ℕ) (b : Bool) → (unit == goal) ≡ b → (b ≡ false → ⊥) → Upto (cond b (Some 0) None) walk
near_none goal unit walk true is here = record { number = 0; is = refl; low = omega arith }
near_none goal unit walk false is here = absurd (here refl)

near_here : (goal unit walk : ℕ) (rest : Option ℕ) (b : Bool) → (b ≡ false → Upto rest walk)
    → Upto (cond b (Some 0) rest) walk
near_here goal unit walk rest true later = record { number = 0; is = refl; low = omega arith }
near_here goal unit walk rest false later = later refl

one_on : (o : Option ℕ) (most : ℕ) → Upto o most → Upto (option_map (λ n. n + 1) o) (suc most)
one_on o most upto =
    let l = upto.low in
    record { number = upto.number + 1; is = ap (option_map (λ n. n + 1)) upto.is; low = omega (arith, l) }

-- a walk of no more than so many steps gives a distance
distance_of_walk : (edges : List (List ℕ)) (goal steps unit walk : ℕ) → walk ≤ steps → Walk edges walk unit goal
    → Upto (distance_within edges goal steps unit) walk
distance_of_walk edges goal zero unit zero short way =
    near_none goal unit zero (unit == goal) refl (λ apart. eqb-false unit goal apart way)
distance_of_walk edges goal zero unit (suc walk) short way = absurd (omega arith)
distance_of_walk edges goal (suc steps) unit zero short way =
    near_here goal unit zero _ (unit == goal) (λ apart. absurd (eqb-false unit goal apart way))
distance_of_walk edges goal (suc steps) unit (suc walk) short (next, edge, rest) =
    let f : ℕ → Option ℕ = λ v. distance_within edges goal steps v in
    let near = distance_of_walk edges goal steps next walk (omega arith) rest in
    let low = near.low in
    let most = least_most f (providers edges unit) next near.number edge near.is in
    let l = most.low in
    near_here goal unit (suc walk) (option_map (λ n. n + 1) (least (map f (providers edges unit)))) (unit == goal)
    (λ apart. one_on (least (map f (providers edges unit))) walk
    (record { number = most.number; is = most.is; low = omega (arith, l, low) }))

-- a unit at a distance
pub record At (edges : List (List ℕ)) (goal steps t : ℕ) : Type 0 where
  pub unit : ℕ
  pub known : unit < length edges
  pub is : distance_within edges goal steps unit ≡ Some t

same_some : (o : Option ℕ) (a b : ℕ) → o ≡ Some a → o ≡ Some b → a ≡ b
same_some o a b h k = let e : Some a ≡ Some b = sym h ∙ k in cc

-- each smaller distance is that of a unit on the way
attained : (edges : List (List ℕ)) (goal steps : ℕ) → AllAreUnits edges → (d unit : ℕ) → unit < length edges
    → distance_within edges goal steps unit ≡ Some d → (t : ℕ) → t ≤ d → At edges goal steps t
attained edges goal steps all zero unit known is t low =
    let e : zero ≡ t = omega arith in
    record { unit = unit; known = known; is = is ∙ ap Some e }
attained edges goal steps all (suc d) unit known is t low = elim (cases_eq t (suc d)) [
  | inl same ↦ record { unit = unit; known = known; is = is ∙ ap Some (sym same) }
  | inr other ↦
      let goes = walk_of edges goal steps unit (suc d) is in
      let next = goes.way.0 in
      let short = goes.short in
      let near = distance_of_walk edges goal steps next d (omega (arith, short)) goes.way.2 in
      let back = walk_of edges goal steps next near.number near.is in
      let low2 = near.low in
      let again = distance_of_walk edges goal steps unit (suc near.number) (omega (arith, low2, short))
      (next, goes.way.1, back.way) in
      let low3 = again.low in
      let same = same_some (distance_within edges goal steps unit) (suc d) again.number is again.is in
      let here : near.number ≡ d = omega (arith, low2, low3, same) in
      attained edges goal steps all d next (provider_known edges unit next all goes.way.1)
      (near.is ∙ ap Some here) t (omega (arith, low, other))
]

member_of_map : (f : ℕ → ℕ) (list : List ℕ) (v : ℕ) → Contains list v → Member (map f list) (f v)
member_of_map f [] v c = absurd (none_in v c)
member_of_map f (x ∷ list) v c = elim (member_cases x list v c) [
  | inl same ↦ inl (ap f same)
  | inr more ↦ inr (member_of_map f list v more)
]

length-range : (n from : ℕ) → length (range_with_len from n) ≡ n
length-range zero from = refl
length-range (suc n) from = let e = length-range n (from + 1) in omega (arith, e)

-- a distance is below the number of units
distance_short : (edges : List (List ℕ)) (goal steps unit d : ℕ) → AllAreUnits edges → unit < length edges
    → distance_within edges goal steps unit ≡ Some d → d < length edges
distance_short edges goal steps unit d all known is =
    let number : ℕ → ℕ = λ v. unwrap_or (distance_within edges goal steps v) 0 in
    let list = range_with_len 0 (length edges) in
    let long = as_long (suc d) (map number list) (λ t below.
    let at = attained edges goal steps all d unit known is t (omega (arith, below)) in
    let k = at.known in
    subst (Member (map number list)) (ap (λ o. unwrap_or o 0) at.is)
    (member_of_map number list at.unit (numbers_in (length edges) 0 at.unit (omega arith) (omega (arith, k))))) in
    omega (arith, long, length-map list number, length-range (length edges) 0)

-- the distance of a unit with a walk
pub record Near (edges : List (List ℕ)) (goal unit walk : ℕ) : Type 0 where
  pub distance : ℕ
  pub is : distance_to edges goal unit ≡ Some distance
  pub low : distance ≤ walk
  pub short : distance < length edges

near : (edges : List (List ℕ)) (goal unit walk : ℕ) → AllAreUnits edges → unit < length edges
    → Walk edges walk unit goal
    → Near edges goal unit walk
unfolding distance_to
near edges goal unit walk all known way =
    let first = distance_of_walk edges goal walk unit walk (omega arith) way in
    let goes = walk_of edges goal walk unit first.number first.is in
    let short = distance_short edges goal walk unit first.number all known first.is in
    let again = distance_of_walk edges goal (length edges) unit first.number (omega (arith, short)) goes.way in
    let low = first.low in
    let lower = again.low in
    record {
      distance = again.number;
      is = again.is;
      low = omega (arith, low, lower);
      short = omega
          (arith, short, lower);
    }

walk_to : (edges : List (List ℕ)) (goal unit d : ℕ) → distance_to edges goal unit ≡ Some d → Walk edges d unit goal
unfolding distance_to
walk_to edges goal unit d is = (walk_of edges goal (length edges) unit d is).way

-- a distance that there is
pub record There (o : Option ℕ) : Type 0 where
  pub number : ℕ
  pub is : o ≡ Some number

there : (o : Option ℕ) → is_some o ≡ true → There o
there None h = cc
there (Some n) h = record { number = n; is = refl }

-- ---- what passes a test

in_by : (p : ℕ → Bool) (z : ℕ) (zs : List ℕ) (x : ℕ) (b : Bool) → p z ≡ b → p x ≡ true
    → (Contains zs x → Contains (filter p zs) x) → (z ≡ x) ⊎ Contains zs x
    → Contains (cond b (z ∷ filter p zs) (filter p zs)) x
in_by p z zs x true is passes rest (inl same) = subst (Contains (z ∷ filter p zs)) same (first_in z (filter p zs))
in_by p z zs x true is passes rest (inr more) = later_in z (filter p zs) x (rest more)
in_by p z zs x false is passes rest (inl same) = absurd (let f : p x ≡ false = sym (ap p same) ∙ is in cc)
in_by p z zs x false is passes rest (inr more) = rest more

filter_in : (p : ℕ → Bool) (xs : List ℕ) (x : ℕ) → Contains xs x → p x ≡ true → Contains (filter p xs) x
filter_in p [] x c passes = absurd (none_in x c)
filter_in p (z ∷ zs) x c passes =
    in_by p z zs x (p z) refl passes (λ more. filter_in p zs x more passes) (member_cases z zs x c)

out_by : (p : ℕ → Bool) (z : ℕ) (zs : List ℕ) (x : ℕ) (b : Bool) → p z ≡ b
    → (Contains (filter p zs) x → Contains zs x × (p x ≡ true)) → Contains (cond b (z ∷ filter p zs) (filter p zs)) x
    → Contains (z ∷ zs) x × (p x ≡ true)
out_by p z zs x true is rest c = elim (member_cases z (filter p zs) x c) [
  | inl same ↦ (subst (Contains (z ∷ zs)) same (first_in z zs), sym (ap p same) ∙ is)
  | inr more ↦ let r = rest more in (later_in z zs x r.0, r.1)
]
out_by p z zs x false is rest c = let r = rest c in (later_in z zs x r.0, r.1)

filter_out : (p : ℕ → Bool) (xs : List ℕ) (x : ℕ) → Contains (filter p xs) x → Contains xs x × (p x ≡ true)
filter_out p [] x c = absurd (none_in x c)
filter_out p (z ∷ zs) x c = out_by p z zs x (p z) refl (filter_out p zs x) c

any_in : (p : ℕ → Bool) (xs : List ℕ) (x : ℕ) → Contains xs x → p x ≡ true → list_any p xs ≡ true
any_in p [] x c passes = absurd (none_in x c)
any_in p (z ∷ zs) x c passes = elim (cases_Bool (p z)) [
  | inl here ↦ ap (λ b. b || list_any p zs) here
  | inr fails ↦ elim (member_cases z zs x c) [
    | inl same ↦ absurd (let f : p z ≡ true = ap p same ∙ passes in cc)
    | inr more ↦ ap (λ b. b || list_any p zs) fails ∙ any_in p zs x more passes
  ]
]

-- an element that passes
pub record Passes (p : ℕ → Bool) (xs : List ℕ) : Type 0 where
  pub unit : ℕ
  pub among : Contains xs unit
  pub so : p unit ≡ true

any_out : (p : ℕ → Bool) (xs : List ℕ) → list_any p xs ≡ true → Passes p xs
any_out p [] h = cc
any_out p (z ∷ zs) h = elim (cases_Bool (p z)) [
  | inl here ↦ record { unit = z; among = first_in z zs; so = here }
  | inr fails ↦
      let more = any_out p zs (sym (ap (λ b. b || list_any p zs) fails) ∙ h) in
      record { unit = more.unit; among = later_in z zs more.unit more.among; so = more.so }
]

filter_none : (p : ℕ → Bool) (xs : List ℕ) → ((x : ℕ) → Contains xs x → p x ≡ false) → filter p xs ≡ []
filter_none p [] none = refl
filter_none p (z ∷ zs) none =
    ap (λ b. cond b (z ∷ filter p zs) (filter p zs)) (none z (first_in z zs))
    ∙ filter_none p zs (λ x c. none x (later_in z zs x c))

-- ---- the best of units

best_in : (before : ℕ → ℕ → Bool) (z : ℕ) (zs : List ℕ) (o : Option ℕ) → ((y : ℕ) → o ≡ Some y → Contains zs y)
    → (y : ℕ) → Some (better before z o) ≡ Some y → Contains (z ∷ zs) y
best_in before z zs None rest y h = let same : z ≡ y = cc in subst (Contains (z ∷ zs)) same (first_in z zs)
best_in before z zs (Some w) rest y h = elim (cases_Bool (before w z)) [
  | inl first ↦
      let same : w ≡ y = let e : Some w ≡ Some y = sym (ap (λ b. Some (cond b w z)) first) ∙ h in cc in
      later_in z zs y (rest y (ap Some same))
  | inr not_less ↦
      let same : z ≡ y = let e : Some z ≡ Some y = sym (ap (λ b. Some (cond b w z)) not_less) ∙ h in cc in
      subst (Contains (z ∷ zs)) same (first_in z zs)
]

best_member : (before : ℕ → ℕ → Bool) (xs : List ℕ) (y : ℕ) → best before xs ≡ Some y → Contains xs y
best_member before [] y h = cc
best_member before (z ∷ zs) y h = best_in before z zs (best before zs) (best_member before zs) y h

-- a unit that comes before each other one, and none before it
abbrev Beats : (ℕ → ℕ → Bool) → ℕ → ℕ → Type 0
Beats before x y = (y ≡ x) ⊎ ((before x y ≡ true) × (before y x ≡ false))

first_stays : (before : ℕ → ℕ → Bool) (x z : ℕ) (o : Option ℕ) → z ≡ x → ((y : ℕ) → o ≡ Some y → Beats before x y)
    → better before z o ≡ x
first_stays before x z None same beats = same
first_stays before x z (Some w) same beats = elim (beats w refl) [
  | inl one ↦ elim (cases_Bool (before w z)) [
    | inl first ↦ ap (λ b. cond b w z) first ∙ one
    | inr not_less ↦ ap (λ b. cond b w z) not_less ∙ same
  ]
  | inr two ↦ ap (λ b. cond b w z) (ap (before w) same ∙ two.1) ∙ same
]

best_is : (before : ℕ → ℕ → Bool) (xs : List ℕ) (x : ℕ) → Contains xs x → ((y : ℕ) → Contains xs y → Beats before x y)
    → best before xs ≡ Some x
best_is before [] x c beats = absurd (none_in x c)
best_is before (z ∷ zs) x c beats = elim (beats z (first_in z zs)) [
  | inl one ↦
      ap Some (first_stays before x z (best before zs) one
      (λ y is. beats y (later_in z zs y (best_member before zs y is))))
  | inr two ↦ elim (member_cases z zs x c) [
    | inl same ↦ absurd (let t : before x x ≡ true = ap (before x) (sym same) ∙ two.0 in
        let f : before x x ≡ false = ap (λ w. before w x) (sym same) ∙ two.1 in cc)
    | inr more ↦
        ap (λ o. Some (better before z o)) (best_is before zs x more (λ y h. beats y (later_in z zs y h)))
        ∙ ap (λ b. Some (cond b x z)) two.0
  ]
]

-- ---- names

names_by : (a b : List ℕ) (r : Ordering) → slice_cmp nat_cmp a b ≡ r → is_gt r ≡ false
    → (a ≡ b) ⊎ ((slice_cmp nat_cmp a b ≡ Less) × (slice_cmp nat_cmp b a ≡ Greater))
names_by a b Less is not_after = inr (is, nat_list_cmp_total.antisymm b a ∙ ap ordering_reverse is)
names_by a b Equal is not_after = inl (exact_bytes a b is)
names_by a b Greater is not_after = cc

-- the names of two units, of which the first isn't after the other
two_names : (names : List (List ℕ)) (a b : ℕ) → AllDiffer names → a < length names → b < length names
    → IsNotAfter names a b
    → (b ≡ a) ⊎ ((slice_cmp nat_cmp (name_of names a) (name_of names b) ≡ Less)
    × (slice_cmp nat_cmp (name_of names b) (name_of names a) ≡ Greater))
two_names names a b apart known other not_after =
    elim (names_by (name_of names a) (name_of names b) (slice_cmp nat_cmp (name_of names a) (name_of names b)) refl
    not_after) [
      | inl same ↦ inl (apart b a other known (sym same))
      | inr two ↦ inr two
    ]

-- ---- the least unit on a cycle

on_cycle : (edges : List (List ℕ)) (unit : ℕ) → list_any (has_way edges unit) (providers edges unit) ≡ true
    → IsOnCycle edges unit
on_cycle edges unit h =
    let next = any_out (has_way edges unit) (providers edges unit) h in
    let way = there (distance_to edges unit next.unit) next.so in
    (way.number, (next.unit, next.among, walk_to edges unit next.unit way.number way.is))

cycle_on : (edges : List (List ℕ)) (unit : ℕ) → AllAreUnits edges → IsOnCycle edges unit
    → list_any (has_way edges unit) (providers edges unit) ≡ true
cycle_on edges unit all (steps, (next, edge, rest)) =
    any_in (has_way edges unit) (providers edges unit) next edge
    (ap is_some (near edges unit next steps all (provider_known edges unit next all edge) rest).is)

on_known : (edges : List (List ℕ)) (unit : ℕ) → IsOnCycle edges unit → unit < length edges
on_known edges unit (steps, (next, edge, rest)) = user_known edges unit next edge

least_is : (names edges : List (List ℕ)) (unit : ℕ) → length edges ≡ length names → AllAreUnits edges → AllDiffer names
    → IsLeastOnCycle names edges unit → least_on_cycle names edges ≡ Some unit
least_is names edges unit same all apart is =
    let test : ℕ → Bool = λ u. list_any (has_way edges u) (providers edges u) in
    let known : unit < length names = let k = on_known edges unit is.on in omega (arith, k, same) in
    best_is (name_before names) (filter test (units names)) unit
    (filter_in test (units names) unit (numbers_in (length names) 0 unit (omega arith) (omega arith))
    (cycle_on edges unit all is.on))
    (λ y c.
    let kept = filter_out test (units names) y c in
    let other : y < length names = let l = numbers_below (length names) 0 y kept.0 in omega (arith, l) in
    elim (two_names names unit y apart known other (is.least y (on_cycle edges y kept.1))) [
      | inl one ↦ inl one
      | inr two ↦ inr (ap is_lt two.0, ap is_lt two.1)
    ])

none_is : (names edges : List (List ℕ)) → HasNoCycle edges → least_on_cycle names edges ≡ None
none_is names edges none =
    let test : ℕ → Bool = λ u. list_any (has_way edges u) (providers edges u) in
    ap (best (name_before names)) (filter_none test (units names) (λ u c. elim (cases_Bool (test u)) [
      | inl on ↦ absurd (none u (on_cycle edges u on))
      | inr off ↦ off
    ]))

-- ---- the way back

cmp_less : (a b : ℕ) → a < b → nat_cmp a b ≡ Less
cmp_less a b h = ap (λ t. cond t Less (cond (a == b) Equal Greater)) (lt-ltb a b h)

cmp_greater : (a b : ℕ) → b < a → nat_cmp a b ≡ Greater
cmp_greater a b h =
    ap (λ t. cond t Less (cond (a == b) Equal Greater)) (le-ltb a b (omega arith))
    ∙ ap (λ t. cond t Equal Greater) (ne_eqb a b (λ same. omega (arith, same)))

cmp_equal : (a : ℕ) → nat_cmp a a ≡ Equal
cmp_equal a =
    ap (λ t. cond t Less (cond (a == a) Equal Greater)) (le-ltb a a (omega arith))
    ∙ ap (λ t. cond t Equal Greater) (eq-eqb a a refl)

-- the nearer of two units, by their distances
nearer_by : (names edges : List (List ℕ)) (goal a b da db : ℕ) → distance_to edges goal a ≡ Some da
    → distance_to edges goal b ≡ Some db
    → is_nearer_to names edges goal a b
    ≡ is_lt (ordering_then (nat_cmp da db) (slice_cmp nat_cmp (name_of names a) (name_of names b)))
nearer_by names edges goal a b da db first second =
    ap₂ (λ x y. is_lt (ordering_then (nat_cmp (unwrap_or x 0) (unwrap_or y 0))
    (slice_cmp nat_cmp (name_of names a) (name_of names b))))
    first second

equal_near : (names edges : List (List ℕ)) (goal next y d : ℕ) → distance_to edges goal next ≡ Some d
    → distance_to edges goal y ≡ Some d
    → (y ≡ next) ⊎ ((slice_cmp nat_cmp (name_of names next) (name_of names y) ≡ Less)
    × (slice_cmp nat_cmp (name_of names y) (name_of names next) ≡ Greater))
    → Beats (is_nearer_to names edges goal) next y
equal_near names edges goal next y d first second (inl one) = inl one
equal_near names edges goal next y d first second (inr two) = inr (
  nearer_by names edges goal next y d d first second ∙ ap₂ (λ r s. is_lt (ordering_then r s)) (cmp_equal d) two.0,
  nearer_by names edges goal y next d d second first ∙ ap₂ (λ r s. is_lt (ordering_then r s)) (cmp_equal d) two.1,
)

nearest_is : (names edges : List (List ℕ)) (goal unit next : ℕ) → length edges ≡ length names → AllAreUnits edges
    → AllDiffer names → IsNearest names edges goal unit next → nearest_provider names edges goal unit ≡ Some next
nearest_is names edges goal unit next same all apart is =
    let known = provider_known edges unit next all is.provider in
    let here = near edges goal next is.distance all known is.way in
    let least = is.nearest next here.distance is.provider (walk_to edges goal next here.distance here.is) in
    let low = here.low in
    let one : here.distance ≡ is.distance = omega (arith, least, low) in
    best_is (is_nearer_to names edges goal) (filter (has_way edges goal) (providers edges unit)) next
    (filter_in (has_way edges goal) (providers edges unit) next is.provider (ap is_some here.is))
    (λ y c.
    let kept = filter_out (has_way edges goal) (providers edges unit) y c in
    let other = provider_known edges unit y all kept.0 in
    let far = there (distance_to edges goal y) kept.1 in
    let way = walk_to edges goal y far.number far.is in
    let most = is.nearest y far.number kept.0 way in
    elim (cases_eq far.number is.distance) [
      | inl equal ↦
          equal_near names edges goal next y is.distance (here.is ∙ ap Some one) (far.is ∙ ap Some equal)
          (two_names names next y apart (omega (arith, known, same)) (omega (arith, other, same))
          (is.least y kept.0 (subst (λ n. Walk edges n y goal) equal way)))
      | inr more ↦
          let less : here.distance < far.number = omega (arith, most, more, one) in
          inr (
            nearer_by names edges goal next y here.distance far.number here.is far.is
                ∙ ap (λ r. is_lt (ordering_then r (slice_cmp nat_cmp (name_of names next) (name_of names y))))
                (cmp_less here.distance far.number less),
            nearer_by names edges goal y next far.number here.distance far.is here.is
                ∙ ap (λ r. is_lt (ordering_then r (slice_cmp nat_cmp (name_of names y) (name_of names next))))
                (cmp_greater far.number here.distance less),
          )
    ])

short_by : (edges : List (List ℕ)) (goal next : ℕ) (rest : List ℕ) (most e : ℕ) → Walk edges e next goal → e ≤ most
    → next ≢ goal
    → ((m q : ℕ) → Contains (providers edges next) q → Walk edges m q goal → length rest ≤ m)
    → length (next ∷ rest) ≤ most
short_by edges goal next rest most zero way low other below = absurd (other way)
short_by edges goal next rest most (suc e) (q, edge, way) low other below =
    let l = below e q edge way in omega (arith, l, low)

-- a way back isn't longer than any walk
way_short : (names edges : List (List ℕ)) (goal : ℕ) (rest : List ℕ) (unit m q : ℕ)
    → IsWayBack names edges goal unit rest
    → Contains (providers edges unit) q → Walk edges m q goal → length rest ≤ m
way_short names edges goal [] unit m q back edge way = omega arith
way_short names edges goal (next ∷ rest) unit m q (nearest, other, back) edge way =
    short_by edges goal next rest m nearest.distance nearest.way (nearest.nearest q m edge way) other
    (λ k r e w. way_short names edges goal rest next k r back e w)

way_is : (names edges : List (List ℕ)) (goal : ℕ) → length edges ≡ length names → AllAreUnits edges → AllDiffer names
    → (steps : ℕ) (rest : List ℕ) (unit : ℕ) → IsWayBack names edges goal unit rest → length rest < steps
    → way_within names edges goal steps unit ≡ rest
way_is names edges goal same all apart zero rest unit back short = absurd (omega arith)
way_is names edges goal same all apart (suc steps) [] unit back short =
    ap (λ o. then_on goal o (λ next. way_within names edges goal steps next))
    (nearest_is names edges goal unit goal same all apart back)
    ∙ ap (λ b. cond b [] (goal ∷ way_within names edges goal steps goal)) (eq-eqb goal goal refl)
way_is names edges goal same all apart (suc steps) (next ∷ rest) unit (nearest, other, back) short =
    ap (λ o. then_on goal o (λ v. way_within names edges goal steps v))
    (nearest_is names edges goal unit next same all apart nearest)
    ∙ ap (λ b. cond b [] (next ∷ way_within names edges goal steps next)) (ne_eqb next goal other)
    ∙ ap (λ l. next ∷ l) (way_is names edges goal same all apart steps rest next back (omega (arith, short)))

back_short : (names edges : List (List ℕ)) (unit : ℕ) (rest : List ℕ) → AllAreUnits edges → IsOnCycle edges unit
    → IsWayBack names edges unit unit rest → length rest < length edges
back_short names edges unit rest all (steps, (next, edge, way)) back =
    let first = near edges unit next steps all (provider_known edges unit next all edge) way in
    let l = way_short names edges unit rest unit first.distance next back edge
    (walk_to edges unit next first.distance first.is) in
    let s = first.short in
    omega (arith, l, s)

-- ---- the answer

pub cycle_is : (names edges : List (List ℕ)) (cycle : List ℕ) → length edges ≡ length names → AllAreUnits edges
    → AllDiffer names
    → IsNearestCycle names edges cycle → nearest_cycle names edges ≡ Some cycle
unfolding way_back
cycle_is names edges [] same all apart is = absurd is
cycle_is names edges (unit ∷ rest) same all apart (least, back) =
    ap (option_map (λ u. u ∷ way_back names edges u)) (least_is names edges unit same all apart least)
    ∙ ap (λ l. Some (unit ∷ l))
    (way_is names edges unit same all apart (length edges) rest unit back
    (back_short names edges unit rest all least.on back))

-- what the relations say is that value
pub gives_order : (names edges : List (List ℕ)) (result : Result (List Placed) OrderFault) → length edges ≡ length names
    → AllAreUnits edges → AllDiffer names → Answers names edges result → GivesOrder result (ordered names edges)
gives_order names edges (Ok order) same all apart is =
    ap₂ unless_cycle (ap (option_map (λ u. u ∷ way_back names edges u)) (none_is names edges is.no_cycle))
    (order_is names edges order same all apart is)
gives_order names edges (Err (Cycle cycle)) same all apart is =
    ap (λ o. unless_cycle o (build_order names edges)) (cycle_is names edges cycle same all apart is)
gives_order names edges (Err NoMemory) same all apart is = tt
