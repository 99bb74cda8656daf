-- The two sides of function types, as they were made.
-- The Definition of Standard ML (Revised), section 4.2.
use Rattle.std.specs.Prelude.{◌≡◌, Option, Some, None}
use Rattle.semantic_objects.specs.declared.name.TyId.{TyId}
use Rattle.semantic_objects.specs.declared.symbol.Symbol.TheVariants as symbol
use Rattle.unification.specs.Types.{Ty, Types}
use Rattle.type_nodes.specs.Tables.{Table, Has, type_of}

-- a type that was made as the function type of these two
pub record AreSides (t : Table) (a from to : TyId) : Type 0 where
  pub is : type_of t a ≡ Ty.Made symbol.Arrow (Types.Cons (type_of t from) (Types.Cons (type_of t to) Types.Nil))
  pub has_from : Has t from
  pub has_to : Has t to

-- the two sides of a type, or none where it wasn't made as a function type
abbrev pub IsSides : Table → TyId → Option (TyId × TyId) → Type 0
IsSides t a (Some sides) = AreSides t a sides.0 sides.1
IsSides t a None = (u v : Ty) → type_of t a ≡ Ty.Made symbol.Arrow (Types.Cons u (Types.Cons v Types.Nil)) → ⊥
