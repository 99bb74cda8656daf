-- Elements of lists, by recursion on the list.
use Rattle.std.proofs.Common.{◌≡◌, ◌≢◌, ◌⊎◌, ◌∙◌, inl, inr, sym, ap, refl, subst, ℕ, zero, suc, ◌+◌, ◌<◌, ◌==◌, Bool, true, false, ◌||◌, cond, List, [], ◌∷◌, ◌++◌, length, get_or, map, arith, ⊎_elim}
use Rattle.std.specs.Prelude.{Contains, filter, flat_map}
use Rattle.cm_base.specs.declared.record.ModName.{ModName}
use Rattle.cm_conditions.specs.Values.{same_module, has_module}
use Rattle.visibility.proofs.ModuleNames.{module_is, own_module}

-- an element of a list
abbrev pub Member : {X : Type 0} → List X → X → Type 0
Member [] x = ⊥
Member (y ∷ ys) x = (y ≡ x) ⊎ Member ys x

member_at : {X : Type 0} (xs : List X) (x : X) (k : ℕ) → k < length xs → get_or xs k x ≡ x → Member xs x
member_at [] x k lt is = absurd (omega arith)
member_at (y ∷ ys) x zero lt is = inl is
member_at (y ∷ ys) x (suc k) lt is = inr (member_at ys x k (omega arith) is)

pub to_member : {X : Type 0} (xs : List X) (x : X) → Contains xs x → Member xs x
to_member xs x c = member_at xs x c.0 c.1 c.2

one_on : {X : Type 0} (y : X) (ys : List X) (x : X) → Contains ys x → Contains (y ∷ ys) x
one_on y ys x c = let lt : c.0 < length ys = c.1 in (suc c.0, omega arith, c.2)

pub from_member : {X : Type 0} (xs : List X) (x : X) → Member xs x → Contains xs x
from_member [] x h = absurd h
from_member (y ∷ ys) x (inl is) = (zero, omega arith, is)
from_member (y ∷ ys) x (inr more) = one_on y ys x (from_member ys x more)

-- ---- filters

kept_by : {X : Type 0} (p : X → Bool) (y : X) (ys : List X) (x : X) (b : Bool) → p y ≡ b
    → (Member ys x → Member (filter p ys) x) → p x ≡ true → (y ≡ x) ⊎ Member ys x
    → Member (cond b (y ∷ filter p ys) (filter p ys)) x
kept_by p y ys x true is rest passes (inl same) = inl same
kept_by p y ys x true is rest passes (inr more) = inr (rest more)
kept_by p y ys x false is rest passes (inl same) = absurd (let fails : p x ≡ false = sym (ap p same) ∙ is in cc)
kept_by p y ys x false is rest passes (inr more) = rest more

-- what passes is kept
pub filter_from : {X : Type 0} (p : X → Bool) (xs : List X) (x : X) → Member xs x → p x ≡ true → Member (filter p xs) x
filter_from p [] x h passes = absurd h
filter_from p (y ∷ ys) x h passes =
    kept_by p y ys x (p y) refl (λ more. filter_from p ys x more passes) passes h

left_by : {X : Type 0} (p : X → Bool) (y : X) (ys : List X) (x : X) (b : Bool) → p y ≡ b
    → (Member (filter p ys) x → Member ys x × (p x ≡ true)) → Member (cond b (y ∷ filter p ys) (filter p ys)) x
    → ((y ≡ x) ⊎ Member ys x) × (p x ≡ true)
left_by p y ys x true is rest (inl same) = (inl same, sym (ap p same) ∙ is)
left_by p y ys x true is rest (inr more) = let r = rest more in (inr r.0, r.1)
left_by p y ys x false is rest h = let r = rest h in (inr r.0, r.1)

-- what is kept passes
pub filter_to : {X : Type 0} (p : X → Bool) (xs : List X) (x : X) → Member (filter p xs) x → Member xs x × (p x ≡ true)
filter_to p [] x h = absurd h
filter_to p (y ∷ ys) x h = left_by p y ys x (p y) refl (filter_to p ys x) h

-- ---- maps and joined lists

pub map_from : {X Y : Type 0} (f : X → Y) (xs : List X) (x : X) → Member xs x → Member (map f xs) (f x)
map_from f [] x h = absurd h
map_from f (y ∷ ys) x (inl same) = inl (ap f same)
map_from f (y ∷ ys) x (inr more) = inr (map_from f ys x more)

-- an element that gives this one
pub record Gives {X Y : Type 0} (f : X → Y) (xs : List X) (y : Y) : Type 0 where
  pub item : X
  pub among : Member xs item
  pub is : f item ≡ y

gives_on : {X Y : Type 0} (f : X → Y) (x : X) (xs : List X) (y : Y) → Gives f xs y → Gives f (x ∷ xs) y
gives_on f x xs y g = record { item = g.item; among = inr g.among; is = g.is }

pub map_to : {X Y : Type 0} (f : X → Y) (xs : List X) (y : Y) → Member (map f xs) y → Gives f xs y
map_to f [] y h = absurd h
map_to f (x ∷ xs) y (inl same) = record { item = x; among = inl refl; is = same }
map_to f (x ∷ xs) y (inr more) = gives_on f x xs y (map_to f xs y more)

pub left_from : {X : Type 0} (xs ys : List X) (x : X) → Member xs x → Member (xs ++ ys) x
left_from [] ys x h = absurd h
left_from (y ∷ xs) ys x (inl same) = inl same
left_from (y ∷ xs) ys x (inr more) = inr (left_from xs ys x more)

pub right_from : {X : Type 0} (xs ys : List X) (x : X) → Member ys x → Member (xs ++ ys) x
right_from [] ys x h = h
right_from (y ∷ xs) ys x h = inr (right_from xs ys x h)

side_on : {X : Type 0} (y : X) (xs ys : List X) (x : X) → Member xs x ⊎ Member ys x → Member (y ∷ xs) x ⊎ Member ys x
side_on y xs ys x (inl h) = inl (inr h)
side_on y xs ys x (inr h) = inr h

pub append_to : {X : Type 0} (xs ys : List X) (x : X) → Member (xs ++ ys) x → Member xs x ⊎ Member ys x
append_to [] ys x h = inr h
append_to (y ∷ xs) ys x (inl same) = inl (inl same)
append_to (y ∷ xs) ys x (inr more) = side_on y xs ys x (append_to xs ys x more)

pub flat_from : {X Y : Type 0} (f : X → List Y) (xs : List X) (x : X) (y : Y) → Member xs x → Member (f x) y
    → Member (flat_map f xs) y
flat_from f [] x y h k = absurd h
flat_from f (z ∷ xs) x y (inl same) k = left_from (f z) (flat_map f xs) y (subst (λ w. Member (f w) y) (sym same) k)
flat_from f (z ∷ xs) x y (inr more) k = right_from (f z) (flat_map f xs) y (flat_from f xs x y more k)

-- a list that has this element, among the lists of others
pub record Holds {X Y : Type 0} (f : X → List Y) (xs : List X) (y : Y) : Type 0 where
  pub item : X
  pub among : Member xs item
  pub has : Member (f item) y

holds_on : {X Y : Type 0} (f : X → List Y) (x : X) (xs : List X) (y : Y) → Holds f xs y → Holds f (x ∷ xs) y
holds_on f x xs y h = record { item = h.item; among = inr h.among; has = h.has }

flat_by : {X Y : Type 0} (f : X → List Y) (x : X) (xs : List X) (y : Y) → (Member (flat_map f xs) y → Holds f xs y)
    → Member (f x) y ⊎ Member (flat_map f xs) y → Holds f (x ∷ xs) y
flat_by f x xs y rest (inl h) = record { item = x; among = inl refl; has = h }
flat_by f x xs y rest (inr h) = holds_on f x xs y (rest h)

pub flat_to : {X Y : Type 0} (f : X → List Y) (xs : List X) (y : Y) → Member (flat_map f xs) y → Holds f xs y
flat_to f [] y h = absurd h
flat_to f (x ∷ xs) y h = flat_by f x xs y (flat_to f xs y) (append_to (f x) (flat_map f xs) y h)

-- ---- module names

any_by : (a b : Bool) → (a || b) ≡ true → (a ≡ true) ⊎ (b ≡ true)
any_by true b h = inl refl
any_by false b h = inr h

named_by : (name other : ModName) (rest : List ModName) → (has_module rest name ≡ true → Member rest name)
    → (same_module other name ≡ true) ⊎ (has_module rest name ≡ true) → Member (other ∷ rest) name
named_by name other rest more (inl same) = inl (module_is other name same)
named_by name other rest more (inr has) = inr (more has)

pub has_to : (names : List ModName) (name : ModName) → has_module names name ≡ true → Member names name
has_to [] name h = cc
has_to (other ∷ rest) name h =
    named_by name other rest (has_to rest name) (any_by (same_module other name) (has_module rest name) h)

or_true : (a : Bool) → (a || true) ≡ true
or_true true = refl
or_true false = refl

pub has_from : (names : List ModName) (name : ModName) → Member names name → has_module names name ≡ true
has_from [] name h = absurd h
has_from (other ∷ rest) name (inl same) =
    ap (λ n. same_module n name || has_module rest name) same ∙ ap (λ b. b || has_module rest name) (own_module name)
has_from (other ∷ rest) name (inr more) =
    ap (λ b. same_module other name || b) (has_from rest name more) ∙ or_true (same_module other name)
