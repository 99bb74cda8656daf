-- What the nodes of a graph stand for, each as a tree.
use Rattle.std.specs.Prelude.{ℕ, List, [], map, get_or}
use Rattle.semantic_objects.specs.declared.entry.TypeFn.{TypeFn}
use Rattle.semantic_objects.specs.declared.entry.TypeStr.{TypeStr}
use Rattle.semantic_objects.specs.declared.entry.ValueEntry.{ValueEntry}
use Rattle.semantic_objects.specs.declared.entry.VidStatus.TheVariants.{Variable}
use Rattle.semantic_objects.specs.Trees.{Tree}
use Rattle.semantic_objects.specs.Tables.{Table}
use Rattle.semantic_objects.specs.Environments.{Env, empty_env, Signature, Functor, Top, empty_top}
use Rattle.env_parts.specs.declared.facts.Facts.{Facts}
use Rattle.env_parts.specs.Types.{no_facts, facts_of, type_types, value_types, types_in}

-- a type structure, a value, an environment, a signature, a functor or a signature of functors, a top; and what stands
-- where no node is
pub data Item : Type 0 where
  Nowhere : Item
  TypeItem : TypeStr → Item
  ValueItem : ValueEntry → Item
  EnvItem : Env → Item
  SignatureItem : Signature → Item
  FunctorItem : Functor → Item
  TopItem : Top → Item

-- the item at a place of a list
abbrev pub at : List Item → ℕ → Item
at items p = get_or items p Item.Nowhere

-- an item of a kind, and one of no meaning where it is of another kind: no definition rests on that one
abbrev pub as_type : Item → TypeStr
as_type (Item.TypeItem entry) = entry
as_type _ = record { function = record { arity = 0; body = Tree.Bound 0 }; cons = [] }

-- the type function of a type structure
abbrev pub function_of : TypeStr → TypeFn
function_of str = str.function

abbrev pub as_value : Item → ValueEntry
as_value (Item.ValueItem entry) = entry
as_value _ = record { status = Variable; scheme = record { marks = []; body = Tree.Bound 0 } }

abbrev pub as_env : Item → Env
as_env (Item.EnvItem env) = env
as_env _ = empty_env

abbrev pub as_signature : Item → Signature
as_signature (Item.SignatureItem sig) = sig
as_signature _ = record { bound = []; env = empty_env }

abbrev pub as_functor : Item → Functor
as_functor (Item.FunctorItem fun) = fun
as_functor _ = record { bound = []; param = empty_env; further = []; result = empty_env }

abbrev pub as_top : Item → Top
as_top (Item.TopItem top) = top
as_top _ = empty_top

-- of which kind an item is
abbrev pub IsType : Item → Type 0
IsType (Item.TypeItem entry) = Unit {0}
IsType _ = ⊥

abbrev pub IsValue : Item → Type 0
IsValue (Item.ValueItem entry) = Unit {0}
IsValue _ = ⊥

abbrev pub IsEnv : Item → Type 0
IsEnv (Item.EnvItem env) = Unit {0}
IsEnv _ = ⊥

abbrev pub IsSignature : Item → Type 0
IsSignature (Item.SignatureItem sig) = Unit {0}
IsSignature _ = ⊥

abbrev pub IsFunctor : Item → Type 0
IsFunctor (Item.FunctorItem fun) = Unit {0}
IsFunctor _ = ⊥

abbrev pub IsTop : Item → Type 0
IsTop (Item.TopItem top) = Unit {0}
IsTop _ = ⊥

-- a table with something else under each name
abbrev pub map_rows : {A B : Type 0} → (A → B) → Table A → Table B
map_rows f rows = map (λ row. (row.0, f row.1)) rows

-- the facts of an item: those of the types that stand in it. Of others than entries and environments none are kept
abbrev pub item_facts : Item → Facts
item_facts (Item.TypeItem entry) = facts_of (type_types entry)
item_facts (Item.ValueItem entry) = facts_of (value_types entry)
item_facts (Item.EnvItem env) = facts_of (types_in env)
item_facts _ = no_facts
