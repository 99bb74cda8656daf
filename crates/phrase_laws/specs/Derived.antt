-- What it means that patterns, expressions and declarations have derivations: for each choice that solves the state
-- afterwards, in the scope under the choice, with what is given under the choice, from the number of type names at the
-- start to the one at the end.
use Rattle.std.specs.Prelude.{◌≡◌, ◌++◌, true}
use Rattle.semantic_objects.specs.Tables.{Table}
use Rattle.semantic_objects.specs.Environments.{Env}
use Rattle.unification.specs.Types.{Ty, State, put}
use Rattle.unification.specs.Unification.{Solves, LeavesRigid}
use Rattle.bare_phrases.specs.Phrases.{PatPhrase, PatFields, ExpPhrase, ExpFields, Rules, DecPhrase, DecPhrases}
use Rattle.static_semantics.specs.BasicTypes.{arrow_ty}
use Rattle.static_semantics.specs.Inferring.{Progress, Scope, Bound}
use Rattle.static_semantics.specs.EnvironmentsPut.{put_env, put_rows, put_scope}
use Rattle.static_semantics.specs.RuleConditions.{are_distinct}
use Rattle.static_semantics.specs.Elaborates.{ElaboratesPat, ElaboratesPatFields, ElaboratesExp, ElaboratesExpFields, ElaboratesMatch, ElaboratesDec, ElaboratesDecs}

-- each choice that solves the later state solves the earlier one
abbrev pub SolvesBefore : Progress → Progress → Type 0
SolvesBefore st u = (p : State) → Solves p u.types → Solves p st.types

-- .. and each that leaves rigid variables alone in the later state does so in the earlier one
abbrev pub LeavesBefore : Progress → Progress → Type 0
LeavesBefore st u = (p : State) → LeavesRigid p u.types → LeavesRigid p st.types

-- what a pattern, or fields of patterns, bind after other variables: its own ones are those of the rules. Names differ
-- where those before do
pub record BindsMore (bound own : Bound) (st u : Progress) (all : Bound) : Type 0 where
  pub after : all ≡ bound ++ own
  pub distinct : are_distinct bound ≡ true → are_distinct all ≡ true
  pub names : u.names ≡ st.names
  pub solved : SolvesBefore st u
  pub leaves : LeavesBefore st u

pub record PatDerived (sc : Scope) (pat : PatPhrase) (bound : Bound) (st : Progress) (r : Ty × Bound × Progress) :
    Type 0 where
  pub own : Bound
  pub binds : BindsMore bound own st r.2 r.1
  pub derives : (p : State) → Solves p r.2.types
      → ElaboratesPat p.marks (put_scope p.stands sc) pat (put_rows p.stands own) (put p.stands r.0)

pub record PatFieldsDerived (sc : Scope) (fields : PatFields) (before : Table Ty) (bound : Bound) (st : Progress)
    (r : Table Ty × Bound × Progress) : Type 0 where
  pub own : Bound
  pub binds : BindsMore bound own st r.2 r.1
  pub derives : (p : State) → Solves p r.2.types
      → ElaboratesPatFields p.marks (put_scope p.stands sc) fields (put_rows p.stands before) (put_rows p.stands own)
      (put_rows p.stands r.0)

pub record ExpDerived (sc : Scope) (exp : ExpPhrase) (st : Progress) (r : Ty × Progress) : Type 0 where
  pub solved : SolvesBefore st r.1
  pub leaves : LeavesBefore st r.1
  pub derives : (p : State) → Solves p r.1.types
      → ElaboratesExp p.marks (put_scope p.stands sc) st.names exp (put p.stands r.0) r.1.names

pub record ExpFieldsDerived (sc : Scope) (fields : ExpFields) (before : Table Ty) (st : Progress)
    (r : Table Ty × Progress) : Type 0 where
  pub solved : SolvesBefore st r.1
  pub leaves : LeavesBefore st r.1
  pub derives : (p : State) → Solves p r.1.types
      → ElaboratesExpFields p.marks (put_scope p.stands sc) st.names fields (put_rows p.stands before)
      (put_rows p.stands r.0) r.1.names

-- the rules of a match, by the types that it takes and gives
pub record RulesDerived (sc : Scope) (from to : Ty) (rules : Rules) (st u : Progress) : Type 0 where
  pub solved : SolvesBefore st u
  pub leaves : LeavesBefore st u
  pub derives : (p : State) → Solves p u.types
      → ElaboratesMatch p.marks (put_scope p.stands sc) st.names rules (put p.stands from) (put p.stands to) u.names

-- a match, whose type is an arrow
pub record MatchDerived (sc : Scope) (rules : Rules) (st : Progress) (r : Ty × Progress) : Type 0 where
  pub from : Ty
  pub to : Ty
  pub arrow : r.0 ≡ arrow_ty from to
  pub each : RulesDerived sc from to rules st r.1

pub record DecDerived (sc : Scope) (dec : DecPhrase) (st : Progress) (r : Env × Progress) : Type 0 where
  pub solved : SolvesBefore st r.1
  pub leaves : LeavesBefore st r.1
  pub derives : (p : State) → Solves p r.1.types
      → ElaboratesDec p.marks (put_scope p.stands sc) st.names dec (put_env p.stands r.0) r.1.names

pub record DecsDerived (sc : Scope) (decs : DecPhrases) (st : Progress) (r : Env × Progress) : Type 0 where
  pub solved : SolvesBefore st r.1
  pub leaves : LeavesBefore st r.1
  pub derives : (p : State) → Solves p r.1.types
      → ElaboratesDecs p.marks (put_scope p.stands sc) st.names decs (put_env p.stands r.0) r.1.names
