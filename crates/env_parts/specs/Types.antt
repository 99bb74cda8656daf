-- What is kept of the types that stand in an environment: whether a free variable stands in them, how large the largest is, and
-- of whom type names stand in them.
use Rattle.std.specs.Prelude.{ℕ, ◌+◌, min, max, List, [], ◌∷◌, ◌++◌, map, Bool, true, false, ◌||◌}
use Rattle.semantic_objects.specs.declared.name.Owner.{Owner}
use Rattle.semantic_objects.specs.declared.name.Owner.TheVariants as owner
use Rattle.semantic_objects.specs.declared.symbol.Symbol.{Symbol}
use Rattle.semantic_objects.specs.declared.symbol.Symbol.TheVariants as symbol
use Rattle.semantic_objects.specs.declared.entry.TypeStr.{TypeStr}
use Rattle.semantic_objects.specs.declared.entry.ValueEntry.{ValueEntry}
use Rattle.semantic_objects.specs.declared.entry.ConEntry.{ConEntry}
use Rattle.semantic_objects.specs.Trees.{Tree, Trees}
use Rattle.semantic_objects.specs.Tables.{Table}
use Rattle.semantic_objects.specs.Environments.{Env, Structures}
use Rattle.env_parts.specs.declared.facts.Facts.{Facts}

-- the nodes of a type: each variable, record, arrow and type name with its arguments
abbrev mutual
  pub tree_size : Tree → ℕ
  tree_size (Tree.Bound i) = 1
  tree_size (Tree.Free n) = 1
  tree_size (Tree.Made c ts) = 1 + trees_size ts

  pub trees_size : Trees → ℕ
  trees_size Trees.Nil = 0
  trees_size (Trees.Cons t ts) = tree_size t + trees_size ts

-- whether any variable of a table stands in a type
abbrev mutual
  pub holds_free : Tree → Bool
  holds_free (Tree.Bound i) = false
  holds_free (Tree.Free n) = true
  holds_free (Tree.Made c ts) = any_holds_free ts

  pub any_holds_free : Trees → Bool
  any_holds_free Trees.Nil = false
  any_holds_free (Trees.Cons t ts) = holds_free t || any_holds_free ts

-- whether a symbol is a type name of such an owner
abbrev pub names : (Owner → Bool) → Symbol → Bool
names of symbol.Arrow = false
names of (symbol.Record labels) = false
names of (symbol.Name name) = of name.owner

-- whether a type name of such an owner stands in a type
abbrev mutual
  pub holds_name : (Owner → Bool) → Tree → Bool
  holds_name of (Tree.Bound i) = false
  holds_name of (Tree.Free n) = false
  holds_name of (Tree.Made c ts) = names of c || any_holds_name of ts

  pub any_holds_name : (Owner → Bool) → Trees → Bool
  any_holds_name of Trees.Nil = false
  any_holds_name of (Trees.Cons t ts) = holds_name of t || any_holds_name of ts

abbrev pub is_bound : Owner → Bool
is_bound owner.Basis = false
is_bound (owner.«Unit» u) = false
is_bound owner.Bound = true

abbrev pub is_unit : Owner → Bool
is_unit owner.Basis = false
is_unit (owner.«Unit» u) = true
is_unit owner.Bound = false

-- a size, counted up to one more than the largest that a type may have
abbrev pub capped : ℕ → ℕ
capped n = min n 65537

abbrev pub facts_of_tree : Tree → Facts
facts_of_tree t = record {
  has_free = holds_free t;
  largest = capped (tree_size t);
  has_bound_name = holds_name is_bound t;
  has_unit_name = holds_name is_unit t;
}

-- no type
abbrev pub no_facts : Facts
no_facts = record { has_free = false; largest = 0; has_bound_name = false; has_unit_name = false }

-- types side by side: what stands in either, and the larger size
abbrev pub both : Facts → Facts → Facts
both a b = record {
  has_free = a.has_free || b.has_free;
  largest = max a.largest b.largest;
  has_bound_name = a.has_bound_name || b.has_bound_name;
  has_unit_name = a.has_unit_name || b.has_unit_name;
}

-- the facts of some types
abbrev pub facts_of : List Tree → Facts
facts_of [] = no_facts
facts_of (t ∷ ts) = both (facts_of_tree t) (facts_of ts)

-- the types of constructors
abbrev pub con_types : List ConEntry → List Tree
con_types cons = map (λ (con : ConEntry). con.scheme.body) cons

-- the types that stand in a type structure: that of its type function, and those of its constructors
abbrev pub type_types : TypeStr → List Tree
type_types entry = entry.function.body ∷ con_types entry.cons

abbrev pub value_types : ValueEntry → List Tree
value_types entry = entry.scheme.body ∷ []

abbrev pub types_in_types : Table TypeStr → List Tree
types_in_types [] = []
types_in_types (row ∷ rows) = type_types row.1 ++ types_in_types rows

abbrev pub types_in_values : Table ValueEntry → List Tree
types_in_values [] = []
types_in_values (row ∷ rows) = value_types row.1 ++ types_in_values rows

-- the types that stand in an environment, with those of the structures inside
abbrev mutual
  pub types_in : Env → List Tree
  types_in (Env.MakeEnv ss ts vs) = types_in_structures ss ++ (types_in_types ts ++ types_in_values vs)

  pub types_in_structures : Structures → List Tree
  types_in_structures Structures.Nil = []
  types_in_structures (Structures.Cons name env rest) = types_in env ++ types_in_structures rest
