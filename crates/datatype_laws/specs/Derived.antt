-- What it means that a `datatype` has a derivation. The Definition of Standard ML (Revised), rules 17, 28 and 29.
use Rattle.std.specs.Prelude.{◌≡◌, ℕ, ◌+◌, List, [], length, Bool, true}
use Rattle.semantic_objects.specs.Environments.{Env, empty_env}
use Rattle.unification.specs.Types.{Substitution}
use Rattle.bare_phrases.specs.Phrases.{DatPhrase}
use Rattle.static_semantics.specs.Inferring.{Progress, Scope, under}
use Rattle.static_semantics.specs.DatatypeInference.{Dat, made_types}
use Rattle.static_semantics.specs.EnvironmentsPut.{put_env, put_scope}
use Rattle.static_semantics.specs.RuleConditions.{are_distinct, type_names, types_by, MaximisesEquality}
use Rattle.static_semantics.specs.Elaborates.{ElaboratesDats}
use Rattle.phrase_laws.specs.Derived.{SolvesBefore, LeavesBefore}

-- there are a choice of the types that admit equality and datatypes, so that the rules give these in the scope with the
-- types by the choice, whatever is put in for variables of the table around; the choice maximises equality, and what is
-- made is made of them, one type name for each. Nothing is put in for it, and it stays what it is whatever is put in
pub record DatatypesDerived (sc : Scope) (refused : List (List ℕ)) (binds : List DatPhrase) (st : Progress)
    (r : Env × Progress) : Type 0 where
  pub choice : List Bool
  pub dats : List Dat
  pub distinct : are_distinct (type_names binds) ≡ true
  pub counted : length choice ≡ length binds
  pub derives : (s : Substitution)
      → ElaboratesDats (under (types_by sc.home choice binds st.names empty_env) (put_scope s sc)) refused binds [] dats
  pub maximal : MaximisesEquality sc.home st.names dats choice
  pub made : r.0 ≡ made_types sc.home st.names choice st.names dats empty_env
  pub names : r.1.names ≡ st.names + length binds
  pub stays : (s : Substitution) → put_env s r.0 ≡ r.0
  pub solved : SolvesBefore st r.1
  pub leaves : LeavesBefore st r.1
