-- Type names in lists.
use Rattle.std.proofs.Common.{◌≡◌, true, List, [], ◌∷◌, ◌++◌}
use Rattle.semantic_objects.proofs.Same.{symbol_is, symbol_same}
use Rattle.semantic_objects.specs.declared.name.TyName.{TyName}
use Rattle.semantic_objects.specs.declared.symbol.Symbol.TheVariants as symbol
use Rattle.semantic_objects.specs.Symbols.{same_name}
use Rattle.semantic_objects.specs.Trees.{Tree}
use Rattle.unification.proofs.Walking.{or_left, or_right, or_either}
use Rattle.realisation.specs.Names.{names_in, names_in_list, is_listed}

-- ---- names that are compared

pub name_is : (m n : TyName) → same_name m n ≡ true → m ≡ n
name_is m n h = let k : symbol.Name m ≡ symbol.Name n = symbol_is (symbol.Name m) (symbol.Name n) h in cc

pub name_same : (n : TyName) → same_name n n ≡ true
name_same n = symbol_same (symbol.Name n)

-- ---- what holds of each name of a list

abbrev pub Named : (TyName → Type 0) → List TyName → Type 0
Named N names = (name : TyName) → is_listed name names ≡ true → N name

pub listed_left : (name : TyName) (xs ys : List TyName) → is_listed name xs ≡ true → is_listed name (xs ++ ys) ≡ true
listed_left name [] ys h = absurd (cc)
listed_left name (x ∷ xs) ys h = or_either (same_name name x) (is_listed name xs) h
    (λ e. or_left (same_name name x) (is_listed name (xs ++ ys)) e)
    (λ e. or_right (same_name name x) (is_listed name (xs ++ ys)) (listed_left name xs ys e))

pub listed_right : (name : TyName) (xs ys : List TyName) → is_listed name ys ≡ true → is_listed name (xs ++ ys) ≡ true
listed_right name [] ys h = h
listed_right name (x ∷ xs) ys h = or_right (same_name name x) (is_listed name (xs ++ ys)) (listed_right name xs ys h)

pub named_left : (N : TyName → Type 0) (xs ys : List TyName) → Named N (xs ++ ys) → Named N xs
named_left N xs ys h name e = h name (listed_left name xs ys e)

pub named_right : (N : TyName → Type 0) (xs ys : List TyName) → Named N (xs ++ ys) → Named N ys
named_right N xs ys h name e = h name (listed_right name xs ys e)

pub named_first : (N : TyName → Type 0) (x : TyName) (xs : List TyName) → Named N (x ∷ xs) → N x
named_first N x xs h = h x (or_left (same_name x x) (is_listed x xs) (name_same x))

-- ---- what holds of each type of a list

abbrev pub Each : (Tree → Type 0) → List Tree → Type 0
Each P [] = Unit {0}
Each P (t ∷ ts) = P t × Each P ts

pub each_left : (P : Tree → Type 0) (xs ys : List Tree) → Each P (xs ++ ys) → Each P xs
each_left P [] ys h = tt
each_left P (x ∷ xs) ys h = (h.0, each_left P xs ys h.1)

pub each_right : (P : Tree → Type 0) (xs ys : List Tree) → Each P (xs ++ ys) → Each P ys
each_right P [] ys h = h
each_right P (x ∷ xs) ys h = each_right P xs ys h.1

-- what holds of a type wherever something holds of its names
pub each_by_names : (N : TyName → Type 0) (P : Tree → Type 0) → ((t : Tree) → Named N (names_in t) → P t)
    → (ts : List Tree) → Named N (names_in_list ts) → Each P ts
each_by_names N P f [] h = tt
each_by_names N P f (t ∷ ts) h = (
  f t (named_left N (names_in t) (names_in_list ts) h),
  each_by_names N P f ts (named_right N (names_in t) (names_in_list ts) h),
)

pub each_always : (P : Tree → Type 0) → ((t : Tree) → P t) → (ts : List Tree) → Each P ts
each_always P f [] = tt
each_always P f (t ∷ ts) = (f t, each_always P f ts)
