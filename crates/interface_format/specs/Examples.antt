-- Two units with their interfaces, byte for byte.
use Rattle.std.specs.Prelude.{◌≡◌, List, [], ◌∷◌, ◌++◌, ℕ, true}
use Rattle.semantic_objects.specs.declared.name.Owner.TheVariants as owner
use Rattle.semantic_objects.specs.declared.name.TyName.{TyName}
use Rattle.semantic_objects.specs.declared.symbol.Symbol.TheVariants as symbol
use Rattle.semantic_objects.specs.declared.entry.VidStatus.TheVariants as status
use Rattle.semantic_objects.specs.declared.entry.ConEntry.{ConEntry}
use Rattle.semantic_objects.specs.declared.entry.TypeStr.{TypeStr}
use Rattle.semantic_objects.specs.declared.entry.ValueEntry.{ValueEntry}
use Rattle.semantic_objects.specs.Trees.{Tree, Trees, TypeScheme}
use Rattle.semantic_objects.specs.Environments.{Env, Structures, Top}
use Rattle.node_bytes.specs.Examples.{value_bytes, datatype_bytes}
use Rattle.interface_format.specs.Interfaces.{mark, interface_bytes}

-- `a.sml`
abbrev pub home : List ℕ
home = 97 ∷ 46 ∷ 115 ∷ 109 ∷ 108 ∷ []

-- a type of no arguments that admits equality: `int`, and the first type of the unit
abbrev pub int_name : TyName
int_name = record { owner = owner.Basis; number = 0; arity = 0; eq = true }

abbrev pub t_name : TyName
t_name = record { owner = owner.«Unit» home; number = 0; arity = 0; eq = true }

abbrev pub plain : TyName → Tree
plain name = Tree.Made (symbol.Name name) Trees.Nil

abbrev pub mono : TyName → TypeScheme
mono name = record { marks = []; body = plain name }

-- the structure `A` alone
abbrev pub unit_of : Env → Top
unit_of env = record {
  env = Env.MakeEnv (Structures.Cons (65 ∷ []) env Structures.Nil) [] [];
  signatures = [];
  functors = [];
  funsigs = [];
}

abbrev pub x_value : TyName → List ℕ × ValueEntry
x_value name = (120 ∷ [], record { status = status.Variable; scheme = mono name })

-- `structure A = struct val x = 1 end`
abbrev pub value_top : Top
value_top = unit_of (Env.MakeEnv Structures.Nil [] (x_value int_name ∷ []))

-- `structure A = struct datatype t = T val x = T end`
abbrev pub t_con : ConEntry
t_con = record { name = 84 ∷ []; scheme = mono t_name }

abbrev pub t_structure : TypeStr
t_structure = record { function = record { arity = 0; body = plain t_name }; cons = t_con ∷ [] }

abbrev pub t_value : List ℕ × ValueEntry
t_value = (84 ∷ [], record { status = status.Constructor; scheme = mono t_name })

abbrev pub datatype_top : Top
datatype_top = unit_of (Env.MakeEnv Structures.Nil ((116 ∷ [], t_structure) ∷ []) (t_value ∷ x_value t_name ∷ []))

-- their bytes: 65 and 106
pub record TopsAreSpelled : Type 0 where
  pub value : interface_bytes home value_top ≡ mark ++ value_bytes
  pub datatype : interface_bytes home datatype_top ≡ mark ++ datatype_bytes
