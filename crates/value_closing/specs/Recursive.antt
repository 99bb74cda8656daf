-- The patterns of `rec` bindings, as a call elaborates them.
use Rattle.std.specs.Prelude.{◌≡◌, List, [], ◌∷◌, ◌++◌, map, not, true, Some, Result, Ok, Err, IfOk}
use Rattle.cm_base.specs.declared.fault.Fault.{Fault}
use Rattle.cm_base.specs.declared.fault.Fault.TheVariants as fault
use Rattle.semantic_objects.specs.declared.name.TyId.{TyId}
use Rattle.unification.specs.Types.{Ty}
use Rattle.unification.specs.Unification.{depth}
use Rattle.type_nodes.specs.Tables.{Table, Has, type_of}
use Rattle.type_schemes.specs.Schemes.{HaveAll}
use Rattle.sml_modules.specs.Graphs.{Graph}
use Rattle.name_trails.specs.Trails.{Rows}
use Rattle.bare_phrases.specs.Phrases.{PatPhrase, ExpPhrase}
use Rattle.bare_phrases.specs.PhraseOf.{rules_of}
use Rattle.static_semantics.specs.Inferring.{Progress, Scope, Answer, ◌>>=◌, gives, refuses_where, Bound}
use Rattle.static_semantics.specs.Nonexpansive.{is_nonexpansive}
use Rattle.static_semantics.specs.PatternInference.{pat_at, infer_pat}
use Rattle.static_semantics.specs.CoreInference.{Group, RecPats, added, is_variable, infer_rec_pats, rec_bound, rec_groups}
use Rattle.static_semantics.specs.RuleConditions.{are_distinct, groups_bound}
use Rattle.core_scopes.specs.Scopes.{Bindings}
use Rattle.type_phrases.specs.Inferred.{Answers, progress}
use Rattle.pattern_elab.specs.declared.own.OwnVariable.{OwnVariable}
use Rattle.pattern_elab.specs.Scopes.{bound_of, scope_of}
use Rattle.pattern_elab.specs.Steps.{BindsOn}

-- ---- one pattern

-- 34 at it where it isn't a variable
abbrev pub infer_rec_pat : Scope → PatPhrase → Bound → Progress → Answer (Ty × Bound × Progress)
infer_rec_pat sc pat bound st =
    infer_pat depth sc pat bound st
    >>= λ r. refuses_where (not (is_variable sc.env pat)) 34 sc (pat_at pat)
    >>= λ u. gives r

-- what a call answers for it, and what it leaves
pub record IsRecPat (g : Graph) (old : Table) (scope : Bindings OwnVariable) (rule : PatPhrase × ExpPhrase) (new : Table)
    (before after : Rows OwnVariable) (groups more : List Group) (result : Result TyId Fault) : Type 0 where
  pub infers : Answers (infer_rec_pat (scope_of g scope) rule.0 (bound_of before) (progress old g))
      (λ (id : TyId). (type_of new id, bound_of after, progress new g)) result
  pub has : IfOk result (Has new)
  pub goes : BindsOn old new before after
  pub group : IfOk result (λ (id : TyId). more ≡ groups
      ++ (is_nonexpansive (scope_of g scope).env rule.1, added (bound_of before) (bound_of after)) ∷ [])

-- ---- all of them

-- what inference gives, and what was bound: types of the patterns are at the ids, their variables stand behind those
-- before, and their bindings behind others. Names differ where those before do, and if bindings had all variables
-- before, they have all now
pub record MakesRecPats (g : Graph) (old : Table) (scope : Bindings OwnVariable) (rules : List (PatPhrase × ExpPhrase))
    (new : Table) (before after : Rows OwnVariable) (groups more : List Group) (types : List TyId) : Type 0 where
  pub rows : RecPats
  pub infers : infer_rec_pats depth (scope_of g scope) (rules_of rules) [] (bound_of before) (progress old g)
      ≡ gives (rows, progress new g)
  pub typed : map (λ row. row.0) rows ≡ map (type_of new) types
  pub have : HaveAll new types
  pub bound : bound_of after ≡ bound_of before ++ rec_bound rows
  pub added : more ≡ groups ++ rec_groups (scope_of g scope).env (rules_of rules) rows
  pub whole : groups_bound groups ≡ bound_of before → groups_bound more ≡ bound_of after
  pub distinct : are_distinct (bound_of before) ≡ true → are_distinct (bound_of after) ≡ true

-- .. or the first diagnostic
abbrev pub AnswersRecPats : Graph → Table → Bindings OwnVariable → List (PatPhrase × ExpPhrase) → Table
    → Rows OwnVariable → Rows OwnVariable → List Group → List Group → Result (List TyId) Fault → Type 0
AnswersRecPats g old scope rules new before after groups more (Ok types) =
    MakesRecPats g old scope rules new before after groups more types
AnswersRecPats g old scope rules new before after groups more (Err (fault.Diag diag)) =
    infer_rec_pats depth (scope_of g scope) (rules_of rules) [] (bound_of before) (progress old g) ≡ Some (Err diag)
AnswersRecPats g old scope rules new before after groups more (Err fault.NoMemory) = Unit {0}

pub record AreRecPats (g : Graph) (old : Table) (scope : Bindings OwnVariable) (rules : List (PatPhrase × ExpPhrase))
    (new : Table) (before after : Rows OwnVariable) (groups more : List Group) (result : Result (List TyId) Fault) :
    Type 0 where
  pub answers : AnswersRecPats g old scope rules new before after groups more result
  pub goes : BindsOn old new before after
