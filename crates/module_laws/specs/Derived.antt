-- What it means that structure expressions and declarations have derivations: for each choice that solves the state
-- afterwards and marks variables alone that it has, in what is in scope under the choice, with what is given under the
-- choice, from the number of type names at the start to the one at the end.
use Rattle.std.specs.Prelude.{ℕ, List}
use Rattle.semantic_objects.specs.Environments.{Env, Top}
use Rattle.unification.specs.Types.{Substitution, State}
use Rattle.unification.specs.Unification.{Solves}
use Rattle.unification.specs.Generality.{MarksOwn}
use Rattle.static_semantics.specs.Inferring.{Progress}
use Rattle.static_semantics.specs.EnvironmentsPut.{put_env}
use Rattle.unit_semantics.specs.UnitPhrases.{ModulePhrase, ModuleDec, ModuleDecs, ModuleBinds}
use Rattle.unit_semantics.specs.ElaboratesUnits.{ElaboratesModule, ElaboratesModuleDec, ElaboratesModuleDecs, ElaboratesModuleBinds}
use Rattle.phrase_laws.specs.Derived.{SolvesBefore, LeavesBefore}

-- what is in scope, with types put in for variables of the environment; signatures and functors have none
abbrev pub top_under_choice : Substitution → Top → Top
top_under_choice s top = record {
  env = put_env s top.env;
  signatures = top.signatures;
  functors = top.functors;
  funsigs = top.funsigs;
}

pub record ModuleDerived (home : List ℕ) (top : Top) (str : ModulePhrase) (st : Progress) (r : Env × Progress) :
    Type 0 where
  pub solved : SolvesBefore st r.1
  pub leaves : LeavesBefore st r.1
  pub derives : (p : State) → Solves p r.1.types → MarksOwn p
      → ElaboratesModule p home (top_under_choice p.stands top) st.names str (put_env p.stands r.0) r.1.names

pub record ModuleDecDerived (home : List ℕ) (top : Top) (dec : ModuleDec) (st : Progress) (r : Env × Progress) :
    Type 0 where
  pub solved : SolvesBefore st r.1
  pub leaves : LeavesBefore st r.1
  pub derives : (p : State) → Solves p r.1.types → MarksOwn p
      → ElaboratesModuleDec p home (top_under_choice p.stands top) st.names dec (put_env p.stands r.0) r.1.names

pub record ModuleDecsDerived (home : List ℕ) (top : Top) (decs : ModuleDecs) (st : Progress) (r : Env × Progress) :
    Type 0 where
  pub solved : SolvesBefore st r.1
  pub leaves : LeavesBefore st r.1
  pub derives : (p : State) → Solves p r.1.types → MarksOwn p
      → ElaboratesModuleDecs p home (top_under_choice p.stands top) st.names decs (put_env p.stands r.0) r.1.names

-- bindings after those before them in the same declaration
pub record ModuleBindsDerived (home : List ℕ) (top : Top) (binds : ModuleBinds) (made : Env) (st : Progress)
    (r : Env × Progress) : Type 0 where
  pub solved : SolvesBefore st r.1
  pub leaves : LeavesBefore st r.1
  pub derives : (p : State) → Solves p r.1.types → MarksOwn p
      → ElaboratesModuleBinds p home (top_under_choice p.stands top) st.names binds (put_env p.stands made)
      (put_env p.stands r.0) r.1.names
