-- Types of constants and of phrases, and the names that can't be bound.
use Rattle.std.specs.Prelude.{ℕ, List, [], ◌∷◌, map, Bool, true, false, codes, Option, Some, None}
use Rattle.std.specs.List.{list_any}
use Rattle.semantic_objects.specs.declared.name.Owner.TheVariants as owner
use Rattle.semantic_objects.specs.declared.name.TyName.{TyName}
use Rattle.semantic_objects.specs.declared.symbol.Symbol.TheVariants as symbol
use Rattle.semantic_objects.specs.Symbols.{same_text}
use Rattle.semantic_objects.specs.Tables.{Table, names_of}
use Rattle.unification.specs.Types.{Ty, Types}

-- a type name of the initial basis without arguments
abbrev pub basis_ty : ℕ → Bool → Ty
basis_ty number eq =
    Ty.Made (symbol.Name (record { owner = owner.Basis; number = number; arity = 0; eq = eq })) Types.Nil

abbrev pub int_ty : Ty
int_ty = basis_ty 0 true

abbrev pub string_ty : Ty
string_ty = basis_ty 2 true

abbrev pub char_ty : Ty
char_ty = basis_ty 3 true

abbrev pub exn_ty : Ty
exn_ty = basis_ty 7 false

abbrev pub unit_ty : Ty
unit_ty = Ty.Made (symbol.Record []) Types.Nil

abbrev pub arrow_ty : Ty → Ty → Ty
arrow_ty from to = Ty.Made symbol.Arrow (Types.Cons from (Types.Cons to Types.Nil))

abbrev pub types_of : List Ty → Types
types_of [] = Types.Nil
types_of (t ∷ ts) = Types.Cons t (types_of ts)

-- the record type of fields in rising order of labels
abbrev pub record_ty : Table Ty → Ty
record_ty fields = Ty.Made (symbol.Record (names_of fields)) (types_of (map (λ row. row.1) fields))

abbrev pub named_ty : TyName → List Ty → Ty
named_ty name args = Ty.Made (symbol.Name name) (types_of args)

-- the two sides of a type that was made as an arrow
abbrev pub two_parts : Types → Option (Ty × Ty)
two_parts Types.Nil = None
two_parts (Types.Cons a Types.Nil) = None
two_parts (Types.Cons a (Types.Cons b Types.Nil)) = Some (a, b)
two_parts (Types.Cons a (Types.Cons b (Types.Cons c ts))) = None

abbrev pub arrow_parts : Ty → Option (Ty × Ty)
arrow_parts (Ty.Var n) = None
arrow_parts (Ty.Made symbol.Arrow ts) = two_parts ts
arrow_parts (Ty.Made (symbol.Record labels) ts) = None
arrow_parts (Ty.Made (symbol.Name name) ts) = None

-- no pattern binds these, and neither does a datatype or an exception, which don't bind `it` either
abbrev pub reserved_names : List (List ℕ)
reserved_names = codes "true" ∷ codes "false" ∷ codes "nil" ∷ codes "::" ∷ codes "ref" ∷ []

abbrev pub reserved_constructors : List (List ℕ)
reserved_constructors = codes "it" ∷ reserved_names

abbrev pub is_one_of : List (List ℕ) → List ℕ → Bool
is_one_of names name = list_any (same_text name) names

-- a written type variable that begins with two apostrophes ranges over equality types
abbrev pub is_equality_variable : List ℕ → Bool
is_equality_variable [] = false
is_equality_variable (first ∷ []) = false
is_equality_variable (first ∷ second ∷ rest) = same_text (first ∷ second ∷ []) (codes "''")
