-- What holds of all names and entries of an environment; environments whose names are such as one asks for.
use Rattle.std.specs.Prelude.{ℕ, List, [], ◌∷◌, Bool}
use Rattle.semantic_objects.specs.declared.entry.ConEntry.{ConEntry}
use Rattle.semantic_objects.specs.declared.entry.TypeStr.{TypeStr}
use Rattle.semantic_objects.specs.declared.entry.ValueEntry.{ValueEntry}
use Rattle.semantic_objects.specs.Tables.{Table}
use Rattle.semantic_objects.specs.Environments.{Env, Structures}
use Rattle.static_semantics.specs.Holding.{AllItems}
use Rattle.inference_laws.specs.Nodes.{IsGood}

-- names and entries of a table
abbrev pub RowsWith : {A : Type 0} → (List ℕ → Type 0) → (A → Type 0) → Table A → Type 0
RowsWith N R [] = Unit {0}
RowsWith N R (row ∷ rows) = N row.0 × R row.1 × RowsWith N R rows

-- names, type structures and values of an environment, its structures included
abbrev mutual
  pub EnvWith : (List ℕ → Type 0) → (TypeStr → Type 0) → (ValueEntry → Type 0) → Env → Type 0
  EnvWith N T V (Env.MakeEnv ss ts vs) = StructuresWith N T V ss × RowsWith N T ts × RowsWith N V vs

  pub StructuresWith : (List ℕ → Type 0) → (TypeStr → Type 0) → (ValueEntry → Type 0) → Structures → Type 0
  StructuresWith N T V Structures.Nil = Unit {0}
  StructuresWith N T V (Structures.Cons name env rest) = N name × EnvWith N T V env × StructuresWith N T V rest

-- constructors with good names
abbrev pub NamedType : (List ℕ → Bool) → TypeStr → Type 0
NamedType good str = AllItems (λ (con : ConEntry). IsGood good con.name) str.cons

abbrev pub NamedValue : ValueEntry → Type 0
NamedValue value = Unit {0}

-- structures, types, constructors and values with good names
abbrev pub NamedEnv : (List ℕ → Bool) → Env → Type 0
NamedEnv good env = EnvWith (IsGood good) (NamedType good) NamedValue env
