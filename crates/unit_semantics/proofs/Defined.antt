-- What a unit defines: structures in which no type variable stands, and functors whose results have none.
use Rattle.std.proofs.Common.{◌≡◌, ℕ, List, [], ◌∷◌, refl, Bool, ◌++◌}
use Rattle.std.specs.Prelude.{length}
use Rattle.sml_trees.specs.declared.name.Name.{Name}
use Rattle.semantic_objects.specs.declared.name.TyName.{TyName}
use Rattle.semantic_objects.specs.Tables.{Table, with_entry, with_all}
use Rattle.semantic_objects.specs.Environments.{Env, Signature, Functor, Top, structures, types, values, empty_env, modified_by, with_structure}
use Rattle.realisation.specs.Realised.{of_rows}
use Rattle.static_semantics.specs.Inferring.{Progress, Scope, gives, name_at}
use Rattle.static_semantics.specs.TypeInference.{new_label}
use Rattle.static_semantics.specs.Holding.{Given, AllRows, EnvHas}
use Rattle.static_semantics.proofs.Holding.{given_then, rows_with, rows_with_all, has_structures, has_types, has_values, has_nothing, has_modified, table_structures}
use Rattle.module_semantics.specs.SignatureNames.{rows_between, bound_names, opened}
use Rattle.module_semantics.specs.SignatureInference.{signature_of}
use Rattle.unit_semantics.specs.UnitPhrases.{ModuleBinds, FunPhrase, TopPhrase, read_unit}
use Rattle.unit_semantics.specs.StructureInference.{core_scope, known_env, infer_module}
use Rattle.unit_semantics.specs.UnitInference.{top_with, with_given, has_variable, without_variables, names_since, top_with_param, infer_body, infer_structures, infer_signatures, infer_functors, infer_funsigs, infer_top, infer_tops, infer_unit}
use Rattle.unit_semantics.specs.Promises.{IsClosedScheme, IsClosedFunction, IsClosedEnv, IsOfStructures, GivesClosed, DefinesStructures}
use Rattle.unit_semantics.proofs.Answers.{always, where_not}
use Rattle.unit_semantics.proofs.Closed.{env_closed, realised_closed, puts_names}

-- ---- answers

abbrev pub ClosedIn : Env × Progress → Type 0
ClosedIn r = IsClosedEnv r.0

pub closed_after : (sc : Scope) (name : Name) (r : Env × Progress) → Given ClosedIn (without_variables sc name r)
closed_after sc name r = where_not ClosedIn (has_variable (known_env r.0 r.1)) 42 sc (name_at name)
    (λ u. gives (known_env r.0 r.1, r.1)) (λ e. env_closed (known_env r.0 r.1) e)

-- ---- environments of structures

pub of_nothing : IsOfStructures empty_env
of_nothing = record {
  no_types = refl;
  no_values = refl;
  closed = has_nothing IsClosedScheme IsClosedFunction;
}

with_one : (name : List ℕ) (x env : Env) → IsClosedEnv x → IsOfStructures env
    → IsOfStructures (with_structure name x env)
with_one name x env h k = record {
  no_types = k.no_types;
  no_values = k.no_values;
  closed = (
    table_structures IsClosedScheme IsClosedFunction (with_entry name x (structures env))
        (rows_with (EnvHas IsClosedScheme IsClosedFunction) name x (structures env) h
        (has_structures IsClosedScheme IsClosedFunction env k.closed)),
    has_types IsClosedScheme IsClosedFunction env k.closed,
    has_values IsClosedScheme IsClosedFunction env k.closed,
  );
}

none_of_none : {A : Type 0} (a b : Table A) → a ≡ [] → b ≡ [] → with_all a b ≡ []
none_of_none [] b h k = k
none_of_none (row ∷ rows) b h k = absurd (cc)

of_both : (env by : Env) → IsOfStructures env → IsOfStructures by → IsOfStructures (modified_by env by)
of_both env by h k = record {
  no_types = none_of_none (types by) (types env) k.no_types h.no_types;
  no_values = none_of_none (values by) (values env) k.no_values h.no_values;
  closed = has_modified IsClosedScheme IsClosedFunction env by h.closed k.closed;
}

-- ---- bindings

abbrev pub StructuresIn : Env × Progress → Type 0
StructuresIn r = IsOfStructures r.0

pub structures_defined : (depth : ℕ) (home : List ℕ) (top : Top) (binds : ModuleBinds) (made : Env) (st : Progress)
    → IsOfStructures made → Given StructuresIn (infer_structures depth home top binds made st)
structures_defined depth home top ModuleBinds.EndOfBinds made st h = h
structures_defined depth home top (ModuleBinds.Bind name str rest) made st h =
    always StructuresIn (new_label (core_scope home top) name (structures made)) _ (λ u.
    always StructuresIn (infer_module depth home top str st) _ (λ r.
    given_then ClosedIn StructuresIn (without_variables (core_scope home top) name r) _
    (closed_after (core_scope home top) name r) (λ e k.
    structures_defined depth home top rest (with_structure name.text e.0 made) e.1
    (with_one name.text e.0 made k h))))

abbrev FunctorIn : Functor × Progress → Type 0
FunctorIn r = GivesClosed r.0

body_closed : (depth : ℕ) (home : List ℕ) (top : Top) (bind : FunPhrase) (param : Signature)
    (inside : Signature × Progress) → Given FunctorIn (infer_body depth home top bind param inside)
body_closed depth home top bind param inside =
    always FunctorIn (infer_module depth home (top_with_param bind.param inside.0.env top) bind.body inside.1) _ (λ r.
    given_then ClosedIn FunctorIn (without_variables (core_scope home top) bind.name r) _
    (closed_after (core_scope home top) bind.name r) (λ e k.
    let names : List TyName = names_since home inside.1.names e.0 in
    let olds : List TyName = inside.0.bound ++ names in
    let news : List TyName = param.bound ++ bound_names (length param.bound) names in
    realised_closed (of_rows (rows_between olds news)) (puts_names olds news) e.0 k))

abbrev FunctorsIn : Table Functor × Progress → Type 0
FunctorsIn r = AllRows GivesClosed r.0

functors_defined : (depth : ℕ) (home : List ℕ) (top : Top) (binds : List FunPhrase) (made : Table Functor)
    (st : Progress) → AllRows GivesClosed made → Given FunctorsIn (infer_functors depth home top binds made st)
functors_defined depth home top [] made st h = h
functors_defined depth home top (bind ∷ binds) made st h =
    always FunctorsIn (new_label (core_scope home top) bind.name made) _ (λ u.
    always FunctorsIn (signature_of top.signatures (core_scope home top) bind.param_sig st) _ (λ p.
    given_then FunctorIn FunctorsIn (infer_body depth home top bind p.0 (opened home p.0 p.1)) _
    (body_closed depth home top bind p.0 (opened home p.0 p.1)) (λ r k.
    functors_defined depth home top binds (with_entry bind.name.text r.0 made) r.1
    (rows_with GivesClosed bind.name.text r.0 made k h))))

-- ---- the top level

abbrev TopIn : Top × Progress → Type 0
TopIn r = DefinesStructures r.0

top_defined : (depth : ℕ) (home : List ℕ) (top : Top) (dec : TopPhrase) (st : Progress)
    → Given TopIn (infer_top depth home top dec st)
top_defined depth home top (TopPhrase.Structures binds at) st =
    given_then StructuresIn TopIn (infer_structures depth home top binds empty_env st) _
    (structures_defined depth home top binds empty_env st of_nothing) (λ r k. record { env = k; functors = tt })
top_defined depth home top (TopPhrase.Signatures binds at) st =
    always TopIn (infer_signatures home top binds [] st) _ (λ r. record { env = of_nothing; functors = tt })
top_defined depth home top (TopPhrase.Functors binds at) st =
    given_then FunctorsIn TopIn (infer_functors depth home top binds [] st) _
    (functors_defined depth home top binds [] st tt) (λ r k. record { env = of_nothing; functors = k })
top_defined depth home top (TopPhrase.Funsigs binds at) st =
    always TopIn (infer_funsigs home top binds [] st) _ (λ r. record { env = of_nothing; functors = tt })

both_define : (first second : Top) → DefinesStructures first → DefinesStructures second
    → DefinesStructures (top_with first second)
both_define first second h k = record {
  env = of_both first.env second.env h.env k.env;
  functors = rows_with_all GivesClosed second.functors first.functors k.functors h.functors;
}

tops_defined : (depth : ℕ) (home : List ℕ) (top : Top) (decs : List TopPhrase) (st : Progress)
    → Given TopIn (infer_tops depth home top decs st)
tops_defined depth home top [] st = record { env = of_nothing; functors = tt }
tops_defined depth home top (dec ∷ decs) st =
    given_then TopIn TopIn (infer_top depth home top dec st) _ (top_defined depth home top dec st) (λ r h.
    given_then TopIn TopIn (infer_tops depth home (top_with top r.0) decs r.1) _
    (tops_defined depth home (top_with top r.0) decs r.1) (λ q k. both_define r.0 q.0 h k))

pub units_define : (depth : ℕ) (home : List ℕ) (basis : Env) (given : Top) (sealing : Bool) (tops : List TopPhrase)
    (st : Progress) → Given TopIn (infer_unit depth home basis given sealing tops st)
units_define depth home basis given sealing tops st =
    tops_defined depth home (with_given basis given) (read_unit sealing tops) st
