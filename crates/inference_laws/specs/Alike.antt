-- Environments that are seen alike through a state.
use Rattle.std.specs.Prelude.{◌≡◌, ℕ, List, [], ◌∷◌, Some, None, Ok, Err, Bool, true, false}
use Rattle.semantic_objects.specs.declared.entry.ConEntry.{ConEntry}
use Rattle.semantic_objects.specs.declared.entry.TypeStr.{TypeStr}
use Rattle.semantic_objects.specs.declared.entry.ValueEntry.{ValueEntry}
use Rattle.semantic_objects.specs.Tables.{Table}
use Rattle.semantic_objects.specs.Trees.{Tree, frees}
use Rattle.semantic_objects.specs.Environments.{Env, Structures}
use Rattle.unification.specs.Types.{Ty, Substitution, put}
use Rattle.unification.specs.Closing.{put_tree}
use Rattle.static_semantics.specs.Inferring.{Progress, Scope, Answer, Bound, is_con}
use Rattle.static_semantics.specs.Holding.{AllItems}
use Rattle.inference_laws.specs.Naming.{EnvWith}

-- ---- tables and answers

-- the same names, with entries of which something holds pair by pair
abbrev pub RowsAlike : {A : Type 0} → (A → A → Type 0) → Table A → Table A → Type 0
RowsAlike R [] [] = Unit {0}
RowsAlike R [] (y ∷ ys) = ⊥
RowsAlike R (x ∷ xs) [] = ⊥
RowsAlike R (x ∷ xs) (y ∷ ys) = (x.0 ≡ y.0) × R x.1 y.1 × RowsAlike R xs ys

-- two answers that are nothing, or the same diagnostic, or give what is alike
abbrev pub Both : {A : Type 0} → (A → A → Type 0) → Answer A → Answer A → Type 0
Both R None None = Unit {0}
Both R None (Some y) = ⊥
Both R (Some x) None = ⊥
Both R (Some (Err d)) (Some (Err e)) = d ≡ e
Both R (Some (Err d)) (Some (Ok y)) = ⊥
Both R (Some (Ok x)) (Some (Err e)) = ⊥
Both R (Some (Ok x)) (Some (Ok y)) = R x y

-- ---- environments

abbrev mutual
  pub EnvsAlike : (ValueEntry → ValueEntry → Type 0) → (TypeStr → TypeStr → Type 0) → Env → Env → Type 0
  EnvsAlike V T (Env.MakeEnv ss ts vs) (Env.MakeEnv rs us ws) =
      StructuresAlike V T ss rs × RowsAlike T ts us × RowsAlike V vs ws

  pub StructuresAlike : (ValueEntry → ValueEntry → Type 0) → (TypeStr → TypeStr → Type 0) → Structures → Structures
      → Type 0
  StructuresAlike V T Structures.Nil Structures.Nil = Unit {0}
  StructuresAlike V T Structures.Nil (Structures.Cons n f others) = ⊥
  StructuresAlike V T (Structures.Cons m e rest) Structures.Nil = ⊥
  StructuresAlike V T (Structures.Cons m e rest) (Structures.Cons n f others) =
      (m ≡ n) × EnvsAlike V T e f × StructuresAlike V T rest others

-- whether a tree is a variable of the table
abbrev pub is_variable_tree : Tree → Bool
is_variable_tree (Tree.Bound i) = false
is_variable_tree (Tree.Free n) = true
is_variable_tree (Tree.Made c ts) = false

-- the type of a constructor or an exception is no variable of the table: inference looks whether it is an arrow
abbrev pub IsShaped : ConEntry → Type 0
IsShaped con = is_variable_tree con.scheme.body ≡ false

-- values of one status, whose schemes are one with everything put in
pub record ValuesAlike (s : Substitution) (v w : ValueEntry) : Type 0 where
  pub status : v.status ≡ w.status
  pub marks : v.scheme.marks ≡ w.scheme.marks
  pub body : put_tree s v.scheme.body ≡ put_tree s w.scheme.body
  pub shaped : is_con v.status ≡ true
      → (is_variable_tree v.scheme.body ≡ false) × (is_variable_tree w.scheme.body ≡ false)

-- the same type structure
pub record TypesSame (str other : TypeStr) : Type 0 where
  pub same : str ≡ other
  pub shaped : AllItems IsShaped str.cons

-- environments with the same types, in which the same names stand for values that are one with everything put in
abbrev pub SeenAlike : Substitution → Env → Env → Type 0
SeenAlike s e f = EnvsAlike (ValuesAlike s) TypesSame e f

-- types that are one with everything put in
abbrev pub SameTy : Substitution → Ty → Ty → Type 0
SameTy s a b = put s a ≡ put s b

-- a scope in another environment
abbrev pub in_env : Env → Scope → Scope
in_env env sc = record { env = env; written = sc.written; home = sc.home }

-- ---- what inference gives

-- the same state, through which the types are one
abbrev pub ExpsAlike : Ty × Progress → Ty × Progress → Type 0
ExpsAlike r v = (r.1 ≡ v.1) × SameTy r.1.types.stands r.0 v.0

abbrev pub PatsAlike : Ty × Bound × Progress → Ty × Bound × Progress → Type 0
PatsAlike r v =
    (r.2 ≡ v.2) × (SameTy r.2.types.stands r.0 v.0 × RowsAlike (SameTy r.2.types.stands) r.1 v.1)

abbrev pub DecsAlike : Env × Progress → Env × Progress → Type 0
DecsAlike r v = (r.1 ≡ v.1) × SeenAlike r.1.types.stands r.0 v.0

-- ---- environments that are one with everything put in

-- no variable of the table stands in a tree
abbrev pub IsFirm : Tree → Type 0
IsFirm x = (n : ℕ) → frees n x ≡ false

abbrev pub FirmType : TypeStr → Type 0
FirmType str = IsFirm str.function.body × AllItems (λ (con : ConEntry). IsFirm con.scheme.body) str.cons

abbrev pub FirmValue : ValueEntry → Type 0
FirmValue value = is_con value.status ≡ true → is_variable_tree value.scheme.body ≡ false

abbrev pub AnyName : List ℕ → Type 0
AnyName name = Unit {0}

-- no variable of the table stands in the types of an environment, and the type of none of its constructors and
-- exceptions is such a variable
abbrev pub FirmEnv : Env → Type 0
FirmEnv env = EnvWith AnyName FirmType FirmValue env
