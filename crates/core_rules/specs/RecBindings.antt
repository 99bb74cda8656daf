-- What calls answer for the expressions of `rec` bindings.
use Rattle.std.specs.Prelude.{List, [], ◌∷◌, map, Result, None}
use Rattle.cm_base.specs.declared.fault.Fault.{Fault}
use Rattle.semantic_objects.specs.declared.name.TyId.{TyId}
use Rattle.unification.specs.Types.{Ty}
use Rattle.unification.specs.Unification.{depth}
use Rattle.type_nodes.specs.Tables.{type_of}
use Rattle.bare_phrases.specs.Phrases.{PatPhrase, ExpPhrase, Rules}
use Rattle.bare_phrases.specs.PhraseOf.{rules_of}
use Rattle.static_semantics.specs.Inferring.{Progress, Scope, Answer, ◌>>=◌, gives}
use Rattle.static_semantics.specs.PatternInference.{pat_at}
use Rattle.static_semantics.specs.CoreInference.{joined, infer_exp}
use Rattle.core_rules.specs.Moments.{Moment, progress_at, Elabs}
use Rattle.core_rules.specs.Bindings.{Nothing}

-- one expression, whose type is made this one
abbrev pub infer_rec_exp : Scope → PatPhrase × ExpPhrase → Ty → Progress → Answer Progress
infer_rec_exp sc row ty st =
    infer_exp depth sc row.1 st
    >>= λ e. joined depth sc (pat_at row.0) ty e.0 e.1
    >>= λ q. gives q.1

-- all of them, by the types of their patterns
abbrev pub infer_rec_exps_by : Scope → Rules → List Ty → Progress → Answer Progress
infer_rec_exps_by sc Rules.EndOfRules types st = gives st
infer_rec_exps_by sc (Rules.Rule pat exp rest) [] st = None
infer_rec_exps_by sc (Rules.Rule pat exp rest) (ty ∷ types) st =
    infer_rec_exp sc (pat, exp) ty st >>= λ u. infer_rec_exps_by sc rest types u

abbrev pub read_progress : Moment → Unit {0} → Progress
read_progress m u = progress_at m

abbrev pub IsRecExp : Moment → PatPhrase × ExpPhrase → TyId → Moment → Result (Unit {0}) Fault → Type 0
IsRecExp old row ty new result =
    Elabs old (λ sc. infer_rec_exp sc row (type_of old.table ty) (progress_at old)) read_progress Nothing new result

abbrev pub AreRecExps : Moment → List (PatPhrase × ExpPhrase) → List TyId → Moment → Result (Unit {0}) Fault → Type 0
AreRecExps old rows types new result =
    Elabs old (λ sc. infer_rec_exps_by sc (rules_of rows) (map (type_of old.table) types) (progress_at old))
    read_progress Nothing new result
