-- What structure expressions and the declarations in them mean, with the first diagnostic. The Definition, rules 50 to
-- 61.
--
-- What a declaration of the core makes is the core's matter: it is inferred in the environment around it, with no
-- written type variable in scope.
--
-- The order in which parts are inferred and checks asked. Each check is named by its diagnostic, and a phrase's place
-- is that of its first word. Structure expressions:
--   `struct dec end`: its declaration
--   a long name: 30 at it
--   `e : S`: `e`, `S`, then `e` as it is known is matched with `S` at the place of `e`; the signature's environment,
--     realised
--   `e :> S`: the same; the signature's environment, with new names for those that it binds
--   `F (e)`: 30 at the functor's name, `e`, then `e` as it is known is matched with the parameter at the place of `e`;
--     the functor's result, realised, with new names for its further ones in their order
--   `let dec in e end`: `dec`, `e` under it
-- Declarations:
--   `structure`: for each binding 40 at a name that an earlier one has, then its expression, in the environment before
--     the declaration
--   `local`: both sides
--   at last, of these two, 38 at it; a sequence has none of its own
--   any other: as in the core
use Rattle.std.specs.Prelude.{ℕ, List, ◌++◌, length}
use Rattle.sml_trees.specs.declared.name.At.{At}
use Rattle.semantic_objects.specs.Tables.{entry}
use Rattle.semantic_objects.specs.Environments.{Env, Signature, Functor, Top, structures, empty_env, modified_by, with_structure}
use Rattle.realisation.specs.Realised.{of_rows, realised}
use Rattle.static_semantics.specs.Inferring.{Progress, Scope, outermost, Answer, ◌>>=◌, gives, known, found_at, sized_dec}
use Rattle.static_semantics.specs.TypeInference.{new_label}
use Rattle.static_semantics.specs.DatatypeInference.{after_names}
use Rattle.static_semantics.specs.CoreInference.{infer_dec}
use Rattle.static_semantics.specs.EnvironmentsPut.{put_env}
use Rattle.module_semantics.specs.SignatureNames.{rows_between, unit_names, sealed}
use Rattle.module_semantics.specs.SignatureInference.{single, signature_of}
use Rattle.module_semantics.specs.Matching.{Rows, matching, matched}
use Rattle.unit_semantics.specs.UnitPhrases.{ModulePhrase, ModuleDec, ModuleDecs, ModuleBinds}

abbrev pub module_at : ModulePhrase → At
module_at (ModulePhrase.Struct dec at) = at
module_at (ModulePhrase.Named long at) = at
module_at (ModulePhrase.Transparent str sig at) = at
module_at (ModulePhrase.Opaque str sig at) = at
module_at (ModulePhrase.Functor name argument at) = at
module_at (ModulePhrase.Within dec body at) = at

-- ---- what is in scope

-- for a phrase of the core: the environment alone
abbrev pub core_scope : List ℕ → Top → Scope
core_scope home top = outermost home top.env

-- what is in scope after a declaration
abbrev pub top_under : Env → Top → Top
top_under made top = record {
  env = modified_by top.env made;
  signatures = top.signatures;
  functors = top.functors;
  funsigs = top.funsigs;
}

-- ---- steps

-- an environment as it is known
abbrev pub known_env : Env → Progress → Env
known_env env st = put_env st.types.stands env

-- an environment that is matched with a signature, at a place
abbrev pub transparent : Scope → At → Env → Signature × Progress → Answer (Env × Progress)
transparent sc at env r =
    matched sc at r.1.types (known_env env r.1) r.0 >>= λ made. gives (made, r.1)

abbrev pub opaque : Scope → At → Env → Signature × Progress → Answer (Env × Progress)
opaque sc at env r =
    matched sc at r.1.types (known_env env r.1) r.0 >>= λ made. gives (sealed sc.home r.0 r.1)

-- a functor's parameter
abbrev pub param_of : Functor → Signature
param_of fun = record { bound = fun.bound; env = fun.param }

-- a functor's result by the rows for its parameter's names, with new names for the further ones
abbrev pub result_by : List ℕ → Functor → Rows → Progress → Env × Progress
result_by home fun rows st = (
  realised (of_rows (rows ++ rows_between fun.further (unit_names home st.names fun.further))) fun.result,
  after_names (length fun.further) st,
)

-- a functor with its argument, which stands at a place
abbrev pub functor_applied : Scope → At → Functor → Env × Progress → Answer (Env × Progress)
functor_applied sc at fun r =
    matching sc at r.1.types (known_env r.0 r.1) (param_of fun) >>= λ rows. gives (result_by sc.home fun rows r.1)

-- ---- the phrases

abbrev mutual
  pub infer_module : ℕ → List ℕ → Top → ModulePhrase → Progress → Answer (Env × Progress)
  infer_module depth home top (ModulePhrase.Struct dec at) st = infer_module_dec depth home top dec st
  infer_module depth home top (ModulePhrase.Named long at) st =
      known (core_scope home top) long (found_at structures long.parts top.env) >>= λ env. gives (env, st)
  infer_module depth home top (ModulePhrase.Transparent str sig at) st =
      infer_module depth home top str st
      >>= λ e. signature_of top.signatures (core_scope home top) sig e.1
      >>= λ r. transparent (core_scope home top) (module_at str) e.0 r
  infer_module depth home top (ModulePhrase.Opaque str sig at) st =
      infer_module depth home top str st
      >>= λ e. signature_of top.signatures (core_scope home top) sig e.1
      >>= λ r. opaque (core_scope home top) (module_at str) e.0 r
  infer_module depth home top (ModulePhrase.Functor name argument at) st =
      known (core_scope home top) (single name) (entry name.text top.functors)
      >>= λ fun. infer_module depth home top argument st
      >>= λ e. functor_applied (core_scope home top) (module_at argument) fun e
  infer_module depth home top (ModulePhrase.Within dec body at) st =
      infer_module_dec depth home top dec st >>= λ d. infer_module depth home (top_under d.0 top) body d.1

  pub infer_module_dec : ℕ → List ℕ → Top → ModuleDec → Progress → Answer (Env × Progress)
  infer_module_dec depth home top (ModuleDec.Core dec) st = infer_dec depth (core_scope home top) dec st
  infer_module_dec depth home top (ModuleDec.Local hidden shown at) st =
      infer_module_dec depth home top hidden st
      >>= λ h. infer_module_dec depth home (top_under h.0 top) shown h.1
      >>= λ r. sized_dec (core_scope home top) at r
  infer_module_dec depth home top (ModuleDec.Sequence decs at) st = infer_module_decs depth home top decs st
  infer_module_dec depth home top (ModuleDec.Structures binds at) st =
      infer_module_binds depth home top binds empty_env st >>= λ r. sized_dec (core_scope home top) at r

  pub infer_module_decs : ℕ → List ℕ → Top → ModuleDecs → Progress → Answer (Env × Progress)
  infer_module_decs depth home top ModuleDecs.EndOfDecs st = gives (empty_env, st)
  infer_module_decs depth home top (ModuleDecs.Dec dec rest) st =
      infer_module_dec depth home top dec st
      >>= λ r. infer_module_decs depth home (top_under r.0 top) rest r.1
      >>= λ q. gives (modified_by r.0 q.0, q.1)

  -- bindings after those before them in the same declaration: each sees what is in scope before all of them
  pub infer_module_binds : ℕ → List ℕ → Top → ModuleBinds → Env → Progress → Answer (Env × Progress)
  infer_module_binds depth home top ModuleBinds.EndOfBinds made st = gives (made, st)
  infer_module_binds depth home top (ModuleBinds.Bind name str rest) made st =
      new_label (core_scope home top) name (structures made)
      >>= λ u. infer_module depth home top str st
      >>= λ r. infer_module_binds depth home top rest (with_structure name.text r.0 made) r.1
