-- Type names and the symbols of types as contracts see them: when two of them are one, and how many parts each takes.
-- The Definition of Standard ML (Revised), sections 4.1 and 4.2.
use Rattle.std.specs.Prelude.{◌≡◌, ℕ, List, [], ◌∷◌, length, Bool, true, false, ◌&&◌, eqb}
use Rattle.std.specs.Ordering.{nat_cmp}
use Rattle.std.specs.Cmp.Lexicographic.{slice_cmp}
use Rattle.std.specs.declared.cmp.Ordering.TheVariants.{Less}
use Rattle.semantic_objects.specs.declared.name.Owner.{Owner}
use Rattle.semantic_objects.specs.declared.name.Owner.TheVariants as owner
use Rattle.semantic_objects.specs.declared.name.TyName.{TyName}
use Rattle.semantic_objects.specs.declared.symbol.Symbol.{Symbol}
use Rattle.semantic_objects.specs.declared.symbol.Symbol.TheVariants as symbol

-- whether two lists are one, where `same` says it of their items
abbrev pub same_list : {A : Type 0} → (A → A → Bool) → List A → List A → Bool
same_list same [] [] = true
same_list same [] (y ∷ ys) = false
same_list same (x ∷ xs) [] = false
same_list same (x ∷ xs) (y ∷ ys) = same x y && same_list same xs ys

-- whether two texts are one
abbrev pub same_text : List ℕ → List ℕ → Bool
same_text = same_list eqb

abbrev pub same_bool : Bool → Bool → Bool
same_bool true b = b
same_bool false true = false
same_bool false false = true

abbrev pub same_owner : Owner → Owner → Bool
same_owner owner.Basis owner.Basis = true
same_owner owner.Basis (owner.«Unit» u) = false
same_owner owner.Basis owner.Bound = false
same_owner (owner.«Unit» t) owner.Basis = false
same_owner (owner.«Unit» t) (owner.«Unit» u) = same_text t u
same_owner (owner.«Unit» t) owner.Bound = false
same_owner owner.Bound owner.Basis = false
same_owner owner.Bound (owner.«Unit» u) = false
same_owner owner.Bound owner.Bound = true

-- type names are one where owner, number, arity and equality are
abbrev pub same_name : TyName → TyName → Bool
same_name m n = same_owner m.owner n.owner && (eqb m.number n.number && (eqb m.arity n.arity && same_bool m.eq n.eq))

-- symbols are one where all that stands in them is: a record's whole list of labels, a whole type name
abbrev pub same_symbol : Symbol → Symbol → Bool
same_symbol symbol.Arrow symbol.Arrow = true
same_symbol symbol.Arrow (symbol.Record ls) = false
same_symbol symbol.Arrow (symbol.Name n) = false
same_symbol (symbol.Record ks) symbol.Arrow = false
same_symbol (symbol.Record ks) (symbol.Record ls) = same_list same_text ks ls
same_symbol (symbol.Record ks) (symbol.Name n) = false
same_symbol (symbol.Name m) symbol.Arrow = false
same_symbol (symbol.Name m) (symbol.Record ls) = false
same_symbol (symbol.Name m) (symbol.Name n) = same_name m n

-- how many parts stand below a symbol: two below an arrow, one for each label, as many as the arity of a type name
abbrev pub part_count : Symbol → ℕ
part_count symbol.Arrow = 2
part_count (symbol.Record ls) = length ls
part_count (symbol.Name n) = n.arity

-- labels in strictly rising byte order, so that no two are one
abbrev pub AreRising : List (List ℕ) → Type 0
AreRising [] = Unit {0}
AreRising (l ∷ []) = Unit {0}
AreRising (l ∷ m ∷ ls) = (slice_cmp nat_cmp l m ≡ Less) × AreRising (m ∷ ls)

-- no label of a list is this one
abbrev pub AreApart : List ℕ → List (List ℕ) → Type 0
AreApart l [] = Unit {0}
AreApart l (m ∷ ms) = (same_text l m ≡ false) × AreApart l ms

-- no two labels are one
abbrev pub AreDiffering : List (List ℕ) → Type 0
AreDiffering [] = Unit {0}
AreDiffering (l ∷ ls) = AreApart l ls × AreDiffering ls

-- the labels of a record stand in rising byte order
abbrev pub HasRisingLabels : Symbol → Type 0
HasRisingLabels symbol.Arrow = Unit {0}
HasRisingLabels (symbol.Record ls) = AreRising ls
HasRisingLabels (symbol.Name n) = Unit {0}
