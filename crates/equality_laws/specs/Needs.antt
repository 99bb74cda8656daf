-- What the equality of a type needs, where some type names are new: what stands against it whatever the new ones do, and
-- which of these it holds outside `ref`. The Definition of Standard ML (Revised), sections 4.4 and 4.9.
use Rattle.std.specs.Prelude.{ℕ, ◌-◌, List, [], ◌∷◌, ◌++◌, map, Option, Some, None, Bool, true, false, ◌||◌, cond}
use Rattle.semantic_objects.specs.declared.name.TyName.{TyName}
use Rattle.semantic_objects.specs.declared.symbol.Symbol.{Symbol}
use Rattle.semantic_objects.specs.declared.symbol.Symbol.TheVariants as symbol
use Rattle.unification.specs.Types.{Ty, Types, is_ref}
use Rattle.static_semantics.specs.DatatypeInference.{Con, Dat, is_new}

-- what a symbol asks of its parts: it never admits equality, it does whatever they are, it does where they do, or where
-- they do and a new type does
pub data Need : Type 0 where
  Never : Need
  Always : Need
  OfParts : Need
  OfNew : ℕ → Need

-- .. of a type name among so many new ones of a unit from a first number on
abbrev pub need_of_name : List ℕ → ℕ → ℕ → TyName → Need
need_of_name home first count name = cond (is_new home first count name) (Need.OfNew (name.number - first))
    (cond (is_ref name) Need.Always (cond name.eq Need.OfParts Need.Never))

abbrev pub need_of : List ℕ → ℕ → ℕ → Symbol → Need
need_of home first count symbol.Arrow = Need.Never
need_of home first count (symbol.Record labels) = Need.OfParts
need_of home first count (symbol.Name name) = need_of_name home first count name

abbrev pub barred_over : Need → Bool → Bool
barred_over Need.Never parts = true
barred_over Need.Always parts = false
barred_over Need.OfParts parts = parts
barred_over (Need.OfNew at) parts = parts

abbrev pub held_over : Need → List ℕ → List ℕ
held_over Need.Never parts = []
held_over Need.Always parts = []
held_over Need.OfParts parts = parts
held_over (Need.OfNew at) parts = at ∷ parts

-- something in a type doesn't admit equality, whatever the new types do
abbrev mutual
  pub is_barred : (Symbol → Need) → Ty → Bool
  is_barred need (Ty.Var n) = false
  is_barred need (Ty.Made c ts) = barred_over (need c) (are_barred need ts)

  pub are_barred : (Symbol → Need) → Types → Bool
  are_barred need Types.Nil = false
  are_barred need (Types.Cons t ts) = is_barred need t || are_barred need ts

-- the new types that a type holds outside `ref`
abbrev mutual
  pub held : (Symbol → Need) → Ty → List ℕ
  held need (Ty.Var n) = []
  held need (Ty.Made c ts) = held_over (need c) (all_held need ts)

  pub all_held : (Symbol → Need) → Types → List ℕ
  all_held need Types.Nil = []
  all_held need (Types.Cons t ts) = held need t ++ all_held need ts

-- the same of a constructor's argument, and of all constructors of a datatype
abbrev pub argument_barred : (Symbol → Need) → Option Ty → Bool
argument_barred need None = false
argument_barred need (Some ty) = is_barred need ty

abbrev pub argument_held : (Symbol → Need) → Option Ty → List ℕ
argument_held need None = []
argument_held need (Some ty) = held need ty

abbrev pub cons_barred : (Symbol → Need) → List Con → Bool
cons_barred need [] = false
cons_barred need (con ∷ cons) = argument_barred need con.1 || cons_barred need cons

abbrev pub cons_held : (Symbol → Need) → List Con → List ℕ
cons_held need [] = []
cons_held need (con ∷ cons) = argument_held need con.1 ++ cons_held need cons

-- for each datatype of a declaration whether it is barred, and which of them it holds
abbrev pub barred_of : (Symbol → Need) → List Dat → List Bool
barred_of need dats = map (λ (dat : Dat). cons_barred need dat.cons) dats

abbrev pub held_of : (Symbol → Need) → List Dat → List (List ℕ)
held_of need dats = map (λ (dat : Dat). cons_held need dat.cons) dats
