-- What is in scope at the top level of a unit, and what a unit defines, as trees.
-- The Definition of Standard ML (Revised), sections 5.1 and 5.7.
use Rattle.std.specs.Prelude.{◌≡◌, [], ◌∷◌}
use Rattle.semantic_objects.specs.Tables.{Table as Named, with_all}
use Rattle.semantic_objects.specs.Environments.{Env, Signature, Functor, Top, env_of}
use Rattle.sml_modules.specs.declared.id.EnvId.{EnvId}
use Rattle.sml_modules.specs.declared.id.SigId.{SigId}
use Rattle.sml_modules.specs.declared.id.FunId.{FunId}
use Rattle.sml_modules.specs.Items.{map_rows}
use Rattle.sml_modules.specs.Graphs.{Graph, env_at, signature_at, functor_at, top_at, HasSignature, HasFunctor, HasTop}
use Rattle.name_trails.specs.Trails.{Rows}
use Rattle.core_scopes.specs.Scopes.{written_of, AreEnvs, IsScopeOf}
use Rattle.pattern_elab.specs.Scopes.{scope_of}
use Rattle.module_scopes.specs.declared.defined.Defined.{Defined}
use Rattle.module_scopes.specs.declared.top.TopScope.{TopScope}

-- structures by name as an environment: of two of one name the later counts
abbrev pub structures_env : Graph → Rows EnvId → Env
structures_env g rows = env_of (with_all (map_rows (env_at g) rows) []) [] []

-- signatures and functors over those that a table has
abbrev pub signatures_over : Graph → Rows SigId → Named Signature → Named Signature
signatures_over g rows table = with_all (map_rows (signature_at g) rows) table

abbrev pub functors_over : Graph → Rows FunId → Named Functor → Named Functor
functors_over g rows table = with_all (map_rows (functor_at g) rows) table

-- what was defined
abbrev pub defined_top : Graph → Defined → Top
defined_top g defined = record {
  env = structures_env g defined.structures;
  signatures = signatures_over g defined.signatures [];
  functors = functors_over g defined.functors [];
  funsigs = functors_over g defined.funsigs [];
}

-- what is in scope
abbrev pub top_seen : Graph → TopScope → Top
top_seen g top = record {
  env = (scope_of g top.core).env;
  signatures = signatures_over g top.defined.signatures (top_at g top.given).signatures;
  functors = functors_over g top.defined.functors (top_at g top.given).functors;
  funsigs = functors_over g top.defined.funsigs (top_at g top.given).funsigs;
}

-- something holds of what stands under each name
abbrev pub AllRows : {A : Type 0} → (A → Type 0) → Rows A → Type 0
AllRows P [] = Unit {0}
AllRows P (row ∷ rows) = P row.1 × AllRows P rows

-- rows whose ids are of the graph
abbrev pub AreSignatures : Graph → Rows SigId → Type 0
AreSignatures g rows = AllRows (HasSignature g) rows

abbrev pub AreFunctors : Graph → Rows FunId → Type 0
AreFunctors g rows = AllRows (HasFunctor g) rows

pub record IsDefinedIn (g : Graph) (defined : Defined) : Type 0 where
  pub structures : AreEnvs g defined.structures
  pub signatures : AreSignatures g defined.signatures
  pub functors : AreFunctors g defined.functors
  pub funsigs : AreFunctors g defined.funsigs

-- all that is in scope is of the graph, and no written type variable is in scope
pub record IsTopScope (g : Graph) (top : TopScope) : Type 0 where
  pub core : IsScopeOf g top.core
  pub written : written_of top.core ≡ []
  pub given : HasTop g top.given
  pub defined : IsDefinedIn g top.defined
