-- What the declarations of a unit's top level define, with the first diagnostic. The Definition, rules 66, 67 and 85 to
-- 89.
--
-- What stands at the top is an environment with structures in it beside the basis, and tables of signatures, functors
-- and signatures of functors. It holds no type variable of a table, and signatures and functors bind their type names.
--
-- Each binding of a declaration is inferred under what is in scope before the declaration, after 40 at a name that an
-- earlier binding of the declaration has:
--   `structure`: its expression; 42 at its name where a type variable is left in what it makes, as it is known then
--   `signature`: its signature
--   `functor`: the parameter's signature; the body, where the parameter is a structure with new type names; 42 at the
--     functor's name
--   `funsig`: the parameter's signature; the result's, where the parameter is a structure with new type names
-- A functor's further names are those of the unit, with numbers since its parameter, that occur in its result, in the
-- order of the walk; those of a funsig are the names that the result's signature binds. No declaration has 38.
use Rattle.std.specs.Prelude.{ℕ, ltb, List, [], ◌∷◌, ◌++◌, filter, length, Bool, ◌&&◌, not}
use Rattle.std.specs.List.{list_any}
use Rattle.sml_trees.specs.declared.name.Name.{Name}
use Rattle.semantic_objects.specs.declared.name.TyName.{TyName}
use Rattle.semantic_objects.specs.Tables.{Table, with_entry, with_all}
use Rattle.semantic_objects.specs.Environments.{Env, Signature, Functor, Top, structures, empty_env, modified_by, with_structure, empty_top}
use Rattle.env_parts.specs.Types.{holds_free, types_in}
use Rattle.realisation.specs.Names.{names_of}
use Rattle.realisation.specs.Realised.{of_rows, realised}
use Rattle.static_semantics.specs.Inferring.{Progress, Scope, Answer, ◌>>=◌, gives, refuses_where, name_at}
use Rattle.static_semantics.specs.TypeInference.{new_label}
use Rattle.static_semantics.specs.DatatypeInference.{same_as_home}
use Rattle.module_semantics.specs.SigPhrases.{SigBinds}
use Rattle.module_semantics.specs.SignatureNames.{rows_between, bound_names, opened}
use Rattle.module_semantics.specs.SignatureInference.{signature_of}
use Rattle.unit_semantics.specs.UnitPhrases.{ModuleBinds, FunPhrase, FunsigPhrase, TopPhrase, read_unit}
use Rattle.unit_semantics.specs.StructureInference.{core_scope, top_under, known_env, infer_module}

-- ---- what stands at the top

-- a top after what a declaration defines
abbrev pub top_with : Top → Top → Top
top_with top by = record {
  env = modified_by top.env by.env;
  signatures = with_all by.signatures top.signatures;
  functors = with_all by.functors top.functors;
  funsigs = with_all by.funsigs top.funsigs;
}

abbrev pub top_of_env : Env → Top
top_of_env env = record { env = env; signatures = []; functors = []; funsigs = [] }

abbrev pub top_of_signatures : Table Signature → Top
top_of_signatures rows = record { env = empty_env; signatures = rows; functors = []; funsigs = [] }

abbrev pub top_of_functors : Table Functor → Top
top_of_functors rows = record { env = empty_env; signatures = []; functors = rows; funsigs = [] }

abbrev pub top_of_funsigs : Table Functor → Top
top_of_funsigs rows = record { env = empty_env; signatures = []; functors = []; funsigs = rows }

-- what is in scope at a unit's beginning: the basis with what is given in front
abbrev pub with_given : Env → Top → Top
with_given basis given = record {
  env = modified_by basis given.env;
  signatures = given.signatures;
  functors = given.functors;
  funsigs = given.funsigs;
}

-- ---- variables that are left

-- whether a type variable stands in an environment. The Definition, section 4.2: tyvars
abbrev pub has_variable : Env → Bool
has_variable env = list_any holds_free (types_in env)

-- what a binding at the top makes, with everything put in: 42 where a variable is left
abbrev pub without_variables : Scope → Name → Env × Progress → Answer (Env × Progress)
without_variables sc name r =
    refuses_where (has_variable (known_env r.0 r.1)) 42 sc (name_at name) >>= λ u. gives (known_env r.0 r.1, r.1)

-- ---- functors

-- a type name of the unit with a number from this one on
abbrev pub is_since : List ℕ → ℕ → TyName → Bool
is_since home number name = same_as_home home name.owner && not (ltb name.number number)

-- those that occur in an environment, in the order of the walk
abbrev pub names_since : List ℕ → ℕ → Env → List TyName
names_since home number env = filter (is_since home number) (names_of env)

-- a functor of a parameter: the signature as it is finished, the same with the names that it had in the functor, the
-- further names, and the result
abbrev pub functor_of : Signature → Signature → List TyName → Env → Functor
functor_of param inside names result = record {
  bound = param.bound;
  param = param.env;
  further = bound_names (length param.bound) names;
  result = realised
      (of_rows (rows_between (inside.bound ++ names) (param.bound ++ bound_names (length param.bound) names)))
      result;
}

-- what is in scope in a functor
abbrev pub top_with_param : Name → Env → Top → Top
top_with_param name param top = top_under (with_structure name.text param empty_env) top

-- a functor's body, with its parameter as it is finished and as it is inside
abbrev pub infer_body :
    ℕ → List ℕ → Top → FunPhrase → Signature → Signature × Progress → Answer (Functor × Progress)
infer_body depth home top bind param inside =
    infer_module depth home (top_with_param bind.param inside.0.env top) bind.body inside.1
    >>= λ r. without_variables (core_scope home top) bind.name r
    >>= λ e. gives (functor_of param inside.0 (names_since home inside.1.names e.0) e.0, e.1)

-- the same of a funsig
abbrev pub infer_result :
    List ℕ → Top → FunsigPhrase → Signature → Signature × Progress → Answer (Functor × Progress)
infer_result home top bind param inside =
    signature_of top.signatures (core_scope home (top_with_param bind.param inside.0.env top)) bind.result_sig inside.1
    >>= λ r. gives (functor_of param inside.0 r.0.bound r.0.env, r.1)

-- ---- the bindings of a declaration, after those before them in it

abbrev pub infer_structures : ℕ → List ℕ → Top → ModuleBinds → Env → Progress → Answer (Env × Progress)
infer_structures depth home top ModuleBinds.EndOfBinds made st = gives (made, st)
infer_structures depth home top (ModuleBinds.Bind name str rest) made st =
    new_label (core_scope home top) name (structures made)
    >>= λ u. infer_module depth home top str st
    >>= λ r. without_variables (core_scope home top) name r
    >>= λ e. infer_structures depth home top rest (with_structure name.text e.0 made) e.1

abbrev pub infer_signatures :
    List ℕ → Top → SigBinds → Table Signature → Progress → Answer (Table Signature × Progress)
infer_signatures home top SigBinds.EndOfBinds made st = gives (made, st)
infer_signatures home top (SigBinds.Bind name sig rest) made st =
    new_label (core_scope home top) name made
    >>= λ u. signature_of top.signatures (core_scope home top) sig st
    >>= λ r. infer_signatures home top rest (with_entry name.text r.0 made) r.1

abbrev pub infer_functors :
    ℕ → List ℕ → Top → List FunPhrase → Table Functor → Progress → Answer (Table Functor × Progress)
infer_functors depth home top [] made st = gives (made, st)
infer_functors depth home top (bind ∷ binds) made st =
    new_label (core_scope home top) bind.name made
    >>= λ u. signature_of top.signatures (core_scope home top) bind.param_sig st
    >>= λ p. infer_body depth home top bind p.0 (opened home p.0 p.1)
    >>= λ r. infer_functors depth home top binds (with_entry bind.name.text r.0 made) r.1

abbrev pub infer_funsigs :
    List ℕ → Top → List FunsigPhrase → Table Functor → Progress → Answer (Table Functor × Progress)
infer_funsigs home top [] made st = gives (made, st)
infer_funsigs home top (bind ∷ binds) made st =
    new_label (core_scope home top) bind.name made
    >>= λ u. signature_of top.signatures (core_scope home top) bind.param_sig st
    >>= λ p. infer_result home top bind p.0 (opened home p.0 p.1)
    >>= λ r. infer_funsigs home top binds (with_entry bind.name.text r.0 made) r.1

-- ---- declarations of the top level, and units

-- what a declaration defines
abbrev pub infer_top : ℕ → List ℕ → Top → TopPhrase → Progress → Answer (Top × Progress)
infer_top depth home top (TopPhrase.Structures binds at) st =
    infer_structures depth home top binds empty_env st >>= λ r. gives (top_of_env r.0, r.1)
infer_top depth home top (TopPhrase.Signatures binds at) st =
    infer_signatures home top binds [] st >>= λ r. gives (top_of_signatures r.0, r.1)
infer_top depth home top (TopPhrase.Functors binds at) st =
    infer_functors depth home top binds [] st >>= λ r. gives (top_of_functors r.0, r.1)
infer_top depth home top (TopPhrase.Funsigs binds at) st =
    infer_funsigs home top binds [] st >>= λ r. gives (top_of_funsigs r.0, r.1)

-- what declarations define, each in the scope after those before it: of two of one name the later
abbrev pub infer_tops : ℕ → List ℕ → Top → List TopPhrase → Progress → Answer (Top × Progress)
infer_tops depth home top [] st = gives (empty_top, st)
infer_tops depth home top (dec ∷ decs) st =
    infer_top depth home top dec st
    >>= λ r. infer_tops depth home (top_with top r.0) decs r.1
    >>= λ q. gives (top_with r.0 q.0, q.1)

-- what a unit of this name defines over a basis and what is given, with the option that seals or without it
abbrev pub infer_unit : ℕ → List ℕ → Env → Top → Bool → List TopPhrase → Progress → Answer (Top × Progress)
infer_unit depth home basis given sealing tops st =
    infer_tops depth home (with_given basis given) (read_unit sealing tops) st
