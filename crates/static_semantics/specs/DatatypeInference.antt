-- What `datatype`, its replication and `exception` bind. The Definition, rules 17, 18, 20, 28 to 31, and section 4.9 on
-- datatypes that maximise equality.
use Rattle.std.specs.Prelude.{ℕ, zero, suc, ◌+◌, ◌-◌, ltb, List, [], ◌∷◌, ◌++◌, length, map, get_or, Option, Some, None, Bool, true, false, ◌&&◌, not, cond}
use Rattle.std.specs.List.{list_all}
use Rattle.sml_trees.specs.declared.name.LongName.{LongName}
use Rattle.sml_trees.specs.declared.name.Name.{Name}
use Rattle.semantic_objects.specs.declared.name.Owner.{Owner}
use Rattle.semantic_objects.specs.declared.name.Owner.TheVariants as owner
use Rattle.semantic_objects.specs.declared.name.TyName.{TyName}
use Rattle.semantic_objects.specs.declared.symbol.Symbol.{Symbol}
use Rattle.semantic_objects.specs.declared.symbol.Symbol.TheVariants as symbol
use Rattle.semantic_objects.specs.declared.entry.ConEntry.{ConEntry}
use Rattle.semantic_objects.specs.declared.entry.TypeStr.{TypeStr}
use Rattle.semantic_objects.specs.declared.entry.ValueEntry.{ValueEntry}
use Rattle.semantic_objects.specs.declared.entry.VidStatus.{VidStatus}
use Rattle.semantic_objects.specs.declared.entry.VidStatus.TheVariants as status
use Rattle.semantic_objects.specs.Symbols.{same_text}
use Rattle.semantic_objects.specs.Tables.{Table, with_entry}
use Rattle.semantic_objects.specs.Trees.{TypeScheme}
use Rattle.semantic_objects.specs.Environments.{Env, types, values, empty_env, with_type, with_value}
use Rattle.unification.specs.Types.{Ty, Types, admits}
use Rattle.unification.specs.Closing.{closed_over}
use Rattle.bare_phrases.specs.Phrases.{TyPhrase, ConPhrase, DatPhrase, ExBodyPhrase, ExPhrase}
use Rattle.static_semantics.specs.BasicTypes.{exn_ty, arrow_ty, named_ty, is_one_of, is_equality_variable, reserved_constructors}
use Rattle.static_semantics.specs.Inferring.{Progress, Scope, under, with_written_alone, Answer, ◌>>=◌, gives, refuses_where, name_at, long_at, known, found_at, is_named, variable_entry}
use Rattle.static_semantics.specs.TypeInference.{infer_ty, new_label, listed, numbers, as_written, type_function, plain_type}

-- ---- datatypes

-- the type name with a number that a unit makes
abbrev pub own_name : List ℕ → ℕ → ℕ → Bool → TyName
own_name home number arity eq = record { owner = owner.«Unit» home; number = number; arity = arity; eq = eq }

-- a type name applied to its variables in their order
abbrev pub own_ty : TyName → List ℕ → Ty
own_ty name vs = named_ty name (map Ty.Var vs)

-- 0, 1, .. up to below a number, after a first one
abbrev pub counted : ℕ → ℕ → List ℕ
counted zero first = []
counted (suc n) first = first ∷ counted n (suc first)

-- the type structure of a type name alone
abbrev pub own_type : TyName → TypeStr
own_type name = plain_type (type_function (counted name.arity 0) (own_ty name (counted name.arity 0)))

-- the types of a declaration while their constructors are inferred: each with a name that admits equality, in written
-- order; 40 for a name that is before
abbrev pub new_types : Scope → List DatPhrase → ℕ → Env → Answer Env
new_types sc [] number made = gives made
new_types sc (bind ∷ binds) number made =
    new_label sc bind.name (types made)
    >>= λ u. new_types sc binds (suc number)
    (with_type bind.name.text (own_type (own_name sc.home number (length bind.tyvars) true)) made)

-- a constructor: its name, and the type of its argument where it takes one
abbrev pub Con : Type 0
Con = List ℕ × Option Ty

-- a datatype whose constructors are inferred: its variables, and its constructors in written order
pub record Dat : Type 0 where
  pub name : List ℕ
  pub variables : List (List ℕ × ℕ)
  pub cons : List Con

abbrev pub infer_optional_ty : Scope → Option TyPhrase → Answer (Option Ty)
infer_optional_ty sc None = gives None
infer_optional_ty sc (Some ty) = infer_ty sc ty >>= λ t. gives (Some t)

-- the constructors of one datatype, after those before them in it, and after those of the datatypes before it. Names of
-- `refused` are 34, and 40 is one that any constructor before has
abbrev pub infer_cons : Scope → List (List ℕ) → List ConPhrase → List Con → List Con → Answer (List Con)
infer_cons sc refused [] before made = gives made
infer_cons sc refused (con ∷ cons) before made =
    refuses_where (is_one_of refused con.name.text) 34 sc (name_at con.name)
    >>= λ u. refuses_where (is_named con.name.text (before ++ made)) 40 sc (name_at con.name)
    >>= λ v. infer_optional_ty sc con.arg
    >>= λ arg. infer_cons sc refused cons before (made ++ (con.name.text, arg) ∷ [])

abbrev pub cons_of : List Dat → List Con
cons_of [] = []
cons_of (dat ∷ dats) = dat.cons ++ cons_of dats

-- the datatypes of a declaration, after those before them in it
abbrev pub infer_dats : Scope → List (List ℕ) → List DatPhrase → List Dat → Progress → Answer (List Dat × Progress)
infer_dats sc refused [] made st = gives (made, st)
infer_dats sc refused (bind ∷ binds) made st =
    listed sc bind.tyvars [] st
    >>= λ r. infer_cons (with_written_alone (as_written r.0) sc) refused bind.cons (cons_of made) []
    >>= λ cons. infer_dats sc refused binds
    (made ++ (let dat : Dat = record { name = bind.name.text; variables = r.0; cons = cons } in dat) ∷ []) r.1

-- ---- which of them admit equality

abbrev pub same_as_home : List ℕ → Owner → Bool
same_as_home home owner.Basis = false
same_as_home home (owner.«Unit» unit) = same_text home unit
same_as_home home owner.Bound = false

-- a name of these new ones: it has the unit's name, and one of the numbers from the first one on
abbrev pub is_new : List ℕ → ℕ → ℕ → TyName → Bool
is_new home first count name =
    same_as_home home name.owner && (not (ltb name.number first) && ltb name.number (first + count))

-- a type name that admits equality or doesn't by a choice among the new ones, and any other as it is
abbrev pub settled_name : List ℕ → ℕ → List Bool → TyName → TyName
settled_name home first choice name = cond (is_new home first (length choice) name)
    (record {
      owner = name.owner;
      number = name.number;
      arity = name.arity;
      eq = get_or choice
          (name.number - first) false;
    })
    name

abbrev pub settled_symbol : List ℕ → ℕ → List Bool → Symbol → Symbol
settled_symbol home first choice symbol.Arrow = symbol.Arrow
settled_symbol home first choice (symbol.Record labels) = symbol.Record labels
settled_symbol home first choice (symbol.Name name) = symbol.Name (settled_name home first choice name)

-- a type with the new names as a choice has them
abbrev mutual
  pub settled : List ℕ → ℕ → List Bool → Ty → Ty
  settled home first choice (Ty.Var n) = Ty.Var n
  settled home first choice (Ty.Made c ts) =
      Ty.Made (settled_symbol home first choice c) (settled_all home first choice ts)

  pub settled_all : List ℕ → ℕ → List Bool → Types → Types
  settled_all home first choice Types.Nil = Types.Nil
  settled_all home first choice (Types.Cons t ts) =
      Types.Cons (settled home first choice t) (settled_all home first choice ts)

-- a constructor's argument is an equality type under a choice, all type variables being of such types
abbrev pub argument_admits : List ℕ → ℕ → List Bool → Option Ty → Bool
argument_admits home first choice None = true
argument_admits home first choice (Some ty) = admits (λ n. true) (settled home first choice ty)

abbrev pub dat_admits : List ℕ → ℕ → List Bool → Dat → Bool
dat_admits home first choice dat = list_all (λ (con : Con). argument_admits home first choice con.1) dat.cons

-- what is left of a choice after one look at all constructors
abbrev pub narrowed : List Bool → List Bool → List Bool
narrowed [] looks = []
narrowed (kept ∷ choice) [] = false ∷ narrowed choice []
narrowed (kept ∷ choice) (look ∷ looks) = (kept && look) ∷ narrowed choice looks

abbrev pub looked_over : List ℕ → ℕ → List Dat → List Bool → List Bool
looked_over home first dats choice = narrowed choice (map (dat_admits home first choice) dats)

abbrev pub looked_over_times : ℕ → List ℕ → ℕ → List Dat → List Bool → List Bool
looked_over_times zero home first dats choice = choice
looked_over_times (suc n) home first dats choice =
    looked_over_times n home first dats (looked_over home first dats choice)

-- which of the datatypes admit equality: as far as possible together. All do at first, and as many looks as there are
-- types leave the greatest choice that the constructors allow
abbrev pub equality_choice : List ℕ → ℕ → List Dat → List Bool
equality_choice home first dats =
    looked_over_times (length dats) home first dats (map (λ (dat : Dat). true) dats)

-- ---- what is made of them

-- a constructor's type: of its datatype, or an arrow to it
abbrev pub con_ty : List ℕ → ℕ → List Bool → Ty → Option Ty → Ty
con_ty home first choice of None = of
con_ty home first choice of (Some arg) = arrow_ty (settled home first choice arg) of

-- constructors with their schemes, over all variables of the type's list in its order, each marked where its text
-- says so
abbrev pub con_schemes : List ℕ → ℕ → List Bool → List (List ℕ × ℕ) → Ty → List Con → Table TypeScheme
con_schemes home first choice own of [] = []
con_schemes home first choice own of (con ∷ cons) = with_entry con.0
    (record {
      marks = map (λ row. is_equality_variable row.0) own;
      body = closed_over (numbers own) (con_ty home first choice of con.1);
    })
    (con_schemes home first choice own of cons)

abbrev pub con_entries : Table TypeScheme → List ConEntry
con_entries rows = map (λ row. (let con : ConEntry = record { name = row.0; scheme = row.1 } in con)) rows

-- constructors as values
abbrev pub with_cons : List ConEntry → Env → Env
with_cons [] env = env
with_cons (con ∷ cons) env = with_cons cons
    (with_value con.name (record { status = status.Constructor; scheme = con.scheme }) env)

-- a type with its constructors, in an environment
abbrev pub with_datatype : List ℕ → TypeStr → Env → Env
with_datatype name str env = with_cons str.cons (with_type name str env)

-- the type structure of a datatype whose type with its own variables is `of`
abbrev pub datatype_str : List ℕ → ℕ → List Bool → List (List ℕ × ℕ) → Ty → List Con → TypeStr
datatype_str home first choice own of cons = record {
  function = type_function (numbers own) of;
  cons = con_entries (con_schemes home first choice own of cons);
}

-- the datatypes, of which the next has this number
abbrev pub made_types : List ℕ → ℕ → List Bool → ℕ → List Dat → Env → Env
made_types home first choice number [] env = env
made_types home first choice number (dat ∷ dats) env = made_types home first choice (suc number) dats
    (with_datatype dat.name
    (datatype_str home first choice dat.variables
    (own_ty (own_name home number (length dat.variables) (get_or choice (number - first) false))
    (numbers dat.variables))
    dat.cons)
    env)

abbrev pub after_names : ℕ → Progress → Progress
after_names count st = record { types = st.types; names = st.names + count }

-- the types, constructors and values of a `datatype`; `refused` are the names that no constructor may have
abbrev pub datatypes_of : Scope → List (List ℕ) → List DatPhrase → Progress → Answer (Env × Progress)
datatypes_of sc refused binds st =
    new_types sc binds st.names empty_env
    >>= λ new. infer_dats (under new sc) refused binds [] st
    >>= λ r. gives (
      made_types sc.home st.names (equality_choice sc.home st.names r.0) st.names r.0 empty_env,
      after_names (length binds) r.1,
    )

-- ---- replication and exceptions

-- a type as it is, with its constructors as values
abbrev pub infer_replication : Scope → Name → LongName → Answer Env
infer_replication sc name long =
    known sc long (found_at types long.parts sc.env)
    >>= λ str. gives (with_datatype name.text str empty_env)

abbrev pub is_exception : VidStatus → Bool
is_exception status.Variable = false
is_exception status.Constructor = false
is_exception status.Exception = true

abbrev pub exception_entry : Ty → ValueEntry
exception_entry ty = record { status = status.Exception; scheme = (variable_entry ty).scheme }

-- an exception by itself, with an argument, or as the copy of another: 34 at what is no exception
abbrev pub exception_of : Scope → ExBodyPhrase → Answer ValueEntry
exception_of sc ExBodyPhrase.Plain = gives (exception_entry exn_ty)
exception_of sc (ExBodyPhrase.Of ty) = infer_ty sc ty >>= λ t. gives (exception_entry (arrow_ty t exn_ty))
exception_of sc (ExBodyPhrase.Copy long) =
    known sc long (found_at values long.parts sc.env)
    >>= λ value. refuses_where (not (is_exception value.status)) 34 sc (long_at long)
    >>= λ u. gives value

-- the exceptions of a declaration, after those before them in it
abbrev pub infer_exceptions : Scope → List ExPhrase → Env → Answer Env
infer_exceptions sc [] made = gives made
infer_exceptions sc (bind ∷ binds) made =
    refuses_where (is_one_of reserved_constructors bind.name.text) 34 sc (name_at bind.name)
    >>= λ u. new_label sc bind.name (values made)
    >>= λ v. exception_of sc bind.body
    >>= λ value. infer_exceptions sc binds (with_value bind.name.text value made)

abbrev pub exceptions_of : Scope → List ExPhrase → Answer Env
exceptions_of sc binds = infer_exceptions sc binds empty_env
