-- What calls answer for the plain bindings of a `val`, and what they leave.
use Rattle.std.specs.Prelude.{◌≡◌, List, [], ◌∷◌, ◌++◌, length, take, true, Result, IfOk}
use Rattle.cm_base.specs.declared.fault.Fault.{Fault}
use Rattle.unification.specs.Unification.{depth}
use Rattle.type_nodes.specs.Tables.{Table}
use Rattle.name_trails.specs.Trails.{Rows}
use Rattle.bare_phrases.specs.Phrases.{PatPhrase, ExpPhrase}
use Rattle.bare_phrases.specs.PhraseOf.{rules_of}
use Rattle.static_semantics.specs.Inferring.{Progress, Scope, Answer, ◌>>=◌, gives, Bound}
use Rattle.static_semantics.specs.Nonexpansive.{is_nonexpansive}
use Rattle.static_semantics.specs.PatternInference.{pat_at, infer_pat}
use Rattle.static_semantics.specs.CoreInference.{Group, added, joined, infer_exp, infer_binds}
use Rattle.static_semantics.specs.RuleConditions.{are_distinct, groups_bound}
use Rattle.pattern_elab.specs.declared.own.OwnVariable.{OwnVariable}
use Rattle.pattern_elab.specs.Scopes.{bound_of}
use Rattle.core_rules.specs.Moments.{Moment, progress_at, Elabs}

-- one binding, after those before it
abbrev pub infer_bind :
    Scope → PatPhrase × ExpPhrase → Bound → List Group → Progress → Answer (Bound × List Group × Progress)
infer_bind sc row bound groups st =
    infer_pat depth sc row.0 bound st
    >>= λ p. infer_exp depth sc row.1 p.2
    >>= λ e. joined depth sc (pat_at row.0) p.0 e.0 e.1
    >>= λ q. gives (p.1, groups ++ (is_nonexpansive sc.env row.1, added bound p.1) ∷ [], q.1)

-- what was bound, and what is known
abbrev pub read_binds : Rows OwnVariable → List Group → Moment → Unit {0} → Bound × List Group × Progress
read_binds rows groups m u = (bound_of rows, groups, progress_at m)

abbrev pub Nothing : Table → Unit {0} → Type 0
Nothing t u = Unit {0}

-- variables were bound behind others; bindings have all of them where they had all before, and names differ where those
-- before do
pub record BindsBehind (before after : Rows OwnVariable) (groups more : List Group) (result : Result (Unit {0}) Fault) :
    Type 0 where
  pub front : take (length before) after ≡ before
  pub whole : groups_bound groups ≡ bound_of before → IfOk result (λ u. groups_bound more ≡ bound_of after)
  pub distinct : are_distinct (bound_of before) ≡ true → IfOk result (λ u. are_distinct (bound_of after) ≡ true)

pub record IsBind (old : Moment) (row : PatPhrase × ExpPhrase) (before after : Rows OwnVariable)
    (groups more : List Group) (new : Moment) (result : Result (Unit {0}) Fault) : Type 0 where
  pub elabs : Elabs old (λ sc. infer_bind sc row (bound_of before) groups (progress_at old)) (read_binds after more)
      Nothing new result
  pub behind : BindsBehind before after groups more result

pub record AreBinds (old : Moment) (rows : List (PatPhrase × ExpPhrase)) (before after : Rows OwnVariable)
    (groups more : List Group) (new : Moment) (result : Result (Unit {0}) Fault) : Type 0 where
  pub elabs : Elabs old (λ sc. infer_binds depth sc (rules_of rows) (bound_of before) groups (progress_at old))
      (read_binds after more) Nothing new result
  pub behind : BindsBehind before after groups more result
