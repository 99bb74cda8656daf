-- What holds of every scheme and every type function of an environment, and of what an inference gives.
use Rattle.std.specs.Prelude.{List, [], ◌∷◌, Option, Some, None, Ok, Err}
use Rattle.semantic_objects.specs.declared.entry.ConEntry.{ConEntry}
use Rattle.semantic_objects.specs.declared.entry.TypeFn.{TypeFn}
use Rattle.semantic_objects.specs.declared.entry.TypeStr.{TypeStr}
use Rattle.semantic_objects.specs.declared.entry.ValueEntry.{ValueEntry}
use Rattle.semantic_objects.specs.Tables.{Table}
use Rattle.semantic_objects.specs.Trees.{TypeScheme}
use Rattle.semantic_objects.specs.Environments.{Env, Structures}
use Rattle.static_semantics.specs.Inferring.{Answer}

-- of what is given, if something is
abbrev pub Given : {A : Type 0} → (A → Type 0) → Answer A → Type 0
Given R None = Unit {0}
Given R (Some (Err diag)) = Unit {0}
Given R (Some (Ok x)) = R x

-- of what is found, if something is
abbrev pub IfSome : {A : Type 0} → (A → Type 0) → Option A → Type 0
IfSome R None = Unit {0}
IfSome R (Some x) = R x

-- of every item of a list, of every entry of a table
abbrev pub AllItems : {A : Type 0} → (A → Type 0) → List A → Type 0
AllItems R [] = Unit {0}
AllItems R (x ∷ xs) = R x × AllItems R xs

abbrev pub AllRows : {A : Type 0} → (A → Type 0) → Table A → Type 0
AllRows R [] = Unit {0}
AllRows R (row ∷ rows) = R row.1 × AllRows R rows

-- of the schemes of constructors
abbrev pub ConHas : (TypeScheme → Type 0) → ConEntry → Type 0
ConHas S con = S con.scheme

abbrev pub TypeHas : (TypeScheme → Type 0) → (TypeFn → Type 0) → TypeStr → Type 0
TypeHas S F str = F str.function × AllItems (ConHas S) str.cons

abbrev pub ValueHas : (TypeScheme → Type 0) → ValueEntry → Type 0
ValueHas S value = S value.scheme

-- of every scheme and every type function of an environment, its structures included
abbrev mutual
  pub EnvHas : (TypeScheme → Type 0) → (TypeFn → Type 0) → Env → Type 0
  EnvHas S F (Env.MakeEnv ss ts vs) = StructuresHave S F ss × AllRows (TypeHas S F) ts × AllRows (ValueHas S) vs

  pub StructuresHave : (TypeScheme → Type 0) → (TypeFn → Type 0) → Structures → Type 0
  StructuresHave S F Structures.Nil = Unit {0}
  StructuresHave S F (Structures.Cons name env rest) = EnvHas S F env × StructuresHave S F rest
