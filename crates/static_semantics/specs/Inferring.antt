-- What inference of the core passes on, what it answers, and what it looks up.
--
-- Inference gives, for a phrase in a scope and a state, its result and the state afterwards, or the first diagnostic,
-- or nothing where a unification went too deep. Types and environments stay as they were made: what they are is read
-- through the state.
--
-- The order in which variables are made, parts inferred and checks asked, phrase by phrase. `new` is a new variable.
-- Each check is named by its diagnostic, and each unification stands at a place; a phrase's place is that of its
-- first word.
--
-- Types: parts from left to right, fields as they are written.
--   a type variable: 30 at it where it isn't in scope
--   a record: for each field 40 at a label that an earlier field has, then its type
--   a type constructor: its arguments, 30 at its name, 35 at the phrase
--   an arrow: its two types
-- Patterns, with the variables that were bound before in this pattern or in this `val`:
--   `_`: new; a constant: the type of the basis
--   an unqualified name that has no status of a constructor or an exception: 34 for `true false nil :: ref`, 40 where
--     it is bound before, both at the pattern; new
--   any other name: 30 at the name, 34 where it is a variable, instance, 34 where it takes an argument
--   a record: for each field 40 at a label that an earlier field has, then its pattern
--   a constructor with its argument: 30 at the name, the argument, 34 where it is a variable, instance, 34 where it
--     takes none, its argument's type with the pattern's at the whole
--   `p : ty`: `p`, `ty`, the one with the other at the whole; the type is that of `p`
--   `x : ty as p`: 34 at the whole where `x` has the status of a constructor or an exception; 34 and 40 as above, at
--     `x`; new; `ty`, `x` with it at the whole; `p`, `x` with it at the whole; the type is that of `x`
--   at last, of each pattern, 38 at it
-- Expressions:
--   a constant: the type of the basis; a name: 30 at it, instance
--   a record: for each field 40 at a label that an earlier field has, then its expression
--   `let d in e`: `d`, `e` under it, 41 at the whole
--   `e1 e2`: `e1`, `e2`, new, `e1` with the arrow from `e2` to the new one at the whole
--   `e : ty`: `e`, `ty`, the one with the other at the whole; the type is that of `e`
--   `e handle m`: `e`, `m`, `m` with the arrow from `exn` to `e` at the whole
--   `raise e`: `e`, `e` with `exn` at the whole, new
--   `fn m`: `m`
--   a match: for each rule its pattern, from the second on that with the first one at it; then its expression under the
--     pattern's variables, from the second on that with the first one at it. A match without rules: new, new
--   at last, of each expression, 38 at it
-- Declarations:
--   `val`: 40 at a type variable that stands in the list before, then new and rigid for each of the list, then for each
--     that stands unguarded in it and is neither in the list nor in scope, by first place in the source; for each plain
--     binding its pattern, its expression, the one with the other at the pattern; for each `rec` binding its pattern
--     and 34 at it where it isn't a variable; then for each `rec` binding its expression under the variables of all
--     `rec` patterns, the one with the other at the pattern; 37 at the whole
--   `type`: for each binding its list as above, 40 at its name, its type under its list alone
--   `datatype`: for each binding 40 at its name; then for each its list, and for each of its constructors 34 at its
--     name, 40 at its name, its type under the new types and the binding's list alone
--   replication: 30 at the name that is copied
--   `exception`: for each binding 34 at its name, 40 at its name; its type; or 30 and 34 at the name that is copied
--   `local`: both sides; `open`: 30 for each name, all in the environment before it
--   at last, of each of these, 38 at it; a sequence has none of its own, and a structure declaration has no inference
--     here
use Rattle.std.specs.Prelude.{ℕ, ltb, List, [], ◌∷◌, ◌++◌, map, Option, Some, None, Result, Ok, Err, Bool, true, false, ◌||◌, cond}
use Rattle.std.specs.Option.{is_some}
use Rattle.std.specs.List.{join_with_byte, list_any}
use Rattle.cm_base.specs.declared.diag.Diag.{Diag}
use Rattle.sml_trees.specs.declared.name.At.{At}
use Rattle.sml_trees.specs.declared.name.Name.{Name}
use Rattle.sml_trees.specs.declared.name.LongName.{LongName}
use Rattle.semantic_objects.specs.declared.entry.ConEntry.{ConEntry}
use Rattle.semantic_objects.specs.declared.entry.TypeStr.{TypeStr}
use Rattle.semantic_objects.specs.declared.entry.ValueEntry.{ValueEntry}
use Rattle.semantic_objects.specs.declared.entry.VidStatus.{VidStatus}
use Rattle.semantic_objects.specs.declared.entry.VidStatus.TheVariants as status
use Rattle.semantic_objects.specs.Symbols.{same_text}
use Rattle.semantic_objects.specs.Tables.{Table, entry}
use Rattle.semantic_objects.specs.Trees.{Tree, TypeScheme}
use Rattle.semantic_objects.specs.Environments.{Env, Structures, structures, modified_by, with_value}
use Rattle.unification.specs.Types.{Ty, Substitution, State, put, occurs, size}
use Rattle.unification.specs.Unification.{Fault, unify_in}
use Rattle.unification.specs.Instances.{fill, instance, with_variable}
use Rattle.unification.specs.Closing.{closed_over}
use Rattle.static_semantics.specs.BasicTypes.{unit_ty}

-- ---- states and scopes

-- what is known of the variables, and the number of the next type name
pub record Progress : Type 0 where
  pub types : State
  pub names : ℕ

abbrev pub with_types : State → Progress → Progress
with_types s st = record { types = s; names = st.names }

-- an environment, the written type variables that are in scope with what stands for each, and the unit that owns the
-- type names that are made and is the file of the diagnostics
pub record Scope : Type 0 where
  pub env : Env
  pub written : List (List ℕ × Ty)
  pub home : List ℕ

-- the scope of a whole declaration or expression
abbrev pub outermost : List ℕ → Env → Scope
outermost home env = record { env = env; written = []; home = home }

-- a scope after a declaration
abbrev pub under : Env → Scope → Scope
under made sc = record { env = modified_by sc.env made; written = sc.written; home = sc.home }

-- .. with these written type variables in front, or with these alone
abbrev pub with_written : List (List ℕ × Ty) → Scope → Scope
with_written rows sc = record { env = sc.env; written = rows ++ sc.written; home = sc.home }

abbrev pub with_written_alone : List (List ℕ × Ty) → Scope → Scope
with_written_alone rows sc = record { env = sc.env; written = rows; home = sc.home }

-- ---- answers

abbrev pub Answer : Type 0 → Type 0
Answer A = Option (Result A Diag)

-- one step and then the next, up to the first diagnostic
infixl 10 ◌>>=◌
abbrev pub ◌>>=◌ : {A B : Type 0} → Answer A → (A → Answer B) → Answer B
None >>= next = None
(Some (Err diag)) >>= next = Some (Err diag)
(Some (Ok x)) >>= next = next x

abbrev pub gives : {A : Type 0} → A → Answer A
gives x = Some (Ok x)

abbrev pub diag_at : ℕ → Scope → At → List (List ℕ) → Diag
diag_at number sc at names =
    record { number = number; at = record { file = sc.home; line = at.line; col = at.col }; names = names }

abbrev pub refuses : {A : Type 0} → ℕ → Scope → At → Answer A
refuses number sc at = Some (Err (diag_at number sc at []))

-- .. where a check fails
abbrev pub refuses_where : Bool → ℕ → Scope → At → Answer (Unit {0})
refuses_where fails number sc at = cond fails (refuses number sc at) (gives tt)

abbrev pub name_at : Name → At
name_at name = record { line = name.line; col = name.col }

abbrev pub long_at : LongName → At
long_at long = record { line = long.line; col = long.col }

-- what a name stands for, or 30 at it with its text, dots between its parts
abbrev pub known : {A : Type 0} → Scope → LongName → Option A → Answer A
known sc long None = Some (Err (diag_at 30 sc (long_at long) (join_with_byte 46 long.parts ∷ [])))
known sc long (Some x) = gives x

abbrev pub fault_number : Fault → ℕ
fault_number Fault.Clash = 31
fault_number Fault.Circular = 32
fault_number Fault.NotEquality = 33

abbrev pub unified : Scope → At → Progress → Option (Result State Fault) → Answer Progress
unified sc at st None = None
unified sc at st (Some (Err fault)) = refuses (fault_number fault) sc at
unified sc at st (Some (Ok s)) = gives (with_types s st)

-- two types are made equal, at a place
abbrev pub unify_at : ℕ → Scope → At → Ty → Ty → Progress → Answer Progress
unify_at depth sc at a b st = unified sc at st (unify_in depth a b st.types)

-- ---- looking up

abbrev pub found_in_structure : {A : Type 0} → Option Env → (Env → Option A) → Option A
found_in_structure None find = None
found_in_structure (Some env) find = find env

-- what a long name stands for in the tables of one kind: the structures before its last part are gone through, from the
-- outermost. A name without parts stands for nothing. The Definition, section 4.3
abbrev pub found_at : {A : Type 0} → (Env → Table A) → List (List ℕ) → Env → Option A
found_at table [] env = None
found_at table (name ∷ []) env = entry name (table env)
found_at table (name ∷ next ∷ rest) env = found_in_structure (entry name (structures env)) (found_at table
    (next ∷ rest))

-- what stands under a name in a list of pairs: the first pair counts
abbrev pub named : {A : Type 0} → List ℕ → List (List ℕ × A) → Option A
named name [] = None
named name (row ∷ rows) = cond (same_text name row.0) (Some row.1) (named name rows)

abbrev pub is_named : {A : Type 0} → List ℕ → List (List ℕ × A) → Bool
is_named name rows = is_some (named name rows)

-- the status of a constructor or of an exception
abbrev pub is_con : VidStatus → Bool
is_con status.Variable = false
is_con status.Constructor = true
is_con status.Exception = true

abbrev pub stands_for_con : Option ValueEntry → Bool
stands_for_con None = false
stands_for_con (Some value) = is_con value.status

-- ---- variables

-- a new variable, and the state with it
abbrev pub new_variable : Progress → Ty × Progress
new_variable st = (Ty.Var st.types.next, with_types (with_variable false false st.types) st)

-- an instance of a scheme with new variables
abbrev pub new_instance : TypeScheme → Progress → Ty × Progress
new_instance σ st = ((instance σ st.types).0, with_types (instance σ st.types).1 st)

-- the variables of patterns, in the order in which they are bound
abbrev pub Bound : Type 0
Bound = List (List ℕ × Ty)

-- a variable that isn't closed
abbrev pub variable_entry : Ty → ValueEntry
variable_entry ty = record { status = status.Variable; scheme = record { marks = []; body = closed_over [] ty } }

abbrev pub with_bound : Bound → Env → Env
with_bound [] env = env
with_bound (row ∷ rows) env = with_bound rows (with_value row.0 (variable_entry row.1) env)

abbrev pub under_bound : Bound → Scope → Scope
under_bound rows sc = record { env = with_bound rows sc.env; written = sc.written; home = sc.home }

-- ---- what stands in an environment

-- a tree as a type: what stands for the variables of the table, and the empty record for those of a scheme around
abbrev pub seen : Substitution → Tree → Ty
seen s tree = fill (λ i. unit_ty) s tree

abbrev pub con_bodies : List ConEntry → List Tree
con_bodies cons = map (λ (con : ConEntry). con.scheme.body) cons

abbrev pub type_bodies : Table TypeStr → List Tree
type_bodies [] = []
type_bodies (row ∷ rows) = row.1.function.body ∷ (con_bodies row.1.cons ++ type_bodies rows)

abbrev pub value_bodies : Table ValueEntry → List Tree
value_bodies [] = []
value_bodies (row ∷ rows) = row.1.scheme.body ∷ value_bodies rows

-- the bodies of all schemes, type functions and constructors of an environment, its structures included
abbrev mutual
  pub bodies : Env → List Tree
  bodies (Env.MakeEnv ss ts vs) = structure_bodies ss ++ (type_bodies ts ++ value_bodies vs)

  pub structure_bodies : Structures → List Tree
  structure_bodies Structures.Nil = []
  structure_bodies (Structures.Cons name env rest) = bodies env ++ structure_bodies rest

-- whether a variable is free in an environment, seen through a state. The Definition, section 4.2: tyvars
abbrev pub free_in_env : ℕ → Substitution → Env → Bool
free_in_env v s env = list_any (λ tree. occurs v (seen s tree)) (bodies env)

-- whether a variable stands in what a written type variable stands for
abbrev pub free_in_written : ℕ → Substitution → List (List ℕ × Ty) → Bool
free_in_written v s rows = list_any (λ row. occurs v (put s row.1)) rows

-- a variable that a declaration in this scope doesn't close
abbrev pub is_kept : Scope → Substitution → ℕ → Bool
is_kept sc s v = free_in_env v s sc.env || free_in_written v s sc.written

-- ---- sizes

-- a type of more than 65,536 nodes
abbrev pub is_too_large : Ty → Bool
is_too_large ty = ltb 65536 (size ty)

-- a type as it is known now: 38
abbrev pub sized : Scope → At → Ty → Progress → Answer (Unit {0})
sized sc at ty st = refuses_where (is_too_large (put st.types.stands ty)) 38 sc at

abbrev pub sized_exp : Scope → At → Ty × Progress → Answer (Ty × Progress)
sized_exp sc at r = sized sc at r.0 r.1 >>= λ u. gives r

abbrev pub sized_pat : Scope → At → Ty × Bound × Progress → Answer (Ty × Bound × Progress)
sized_pat sc at r = sized sc at r.0 r.2 >>= λ u. gives r

-- every type in what a declaration makes: 38
abbrev pub has_too_large : Substitution → Env → Bool
has_too_large s env = list_any (λ tree. is_too_large (seen s tree)) (bodies env)

abbrev pub sized_dec : Scope → At → Env × Progress → Answer (Env × Progress)
sized_dec sc at r = refuses_where (has_too_large r.1.types.stands r.0) 38 sc at >>= λ u. gives r
