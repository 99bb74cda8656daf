-- What calls answer for a `val` in the scope with its own type variables.
use Rattle.std.specs.Prelude.{◌≡◌, ℕ, List, [], ◌++◌, map, Result}
use Rattle.cm_base.specs.declared.fault.Fault.{Fault}
use Rattle.sml_trees.specs.declared.name.At.{At}
use Rattle.sml_trees.specs.declared.name.Name.{Name}
use Rattle.semantic_objects.specs.declared.name.TyId.{TyId}
use Rattle.semantic_objects.specs.Environments.{Env}
use Rattle.unification.specs.Unification.{depth}
use Rattle.unification.specs.Closing.{kept_since}
use Rattle.type_nodes.specs.Tables.{Table, type_of}
use Rattle.name_trails.specs.Trails.{Rows}
use Rattle.bare_phrases.specs.Phrases.{PatPhrase, ExpPhrase, DecPhrase}
use Rattle.bare_phrases.specs.PhraseOf.{rules_of}
use Rattle.static_semantics.specs.Inferring.{Progress, Scope, Answer, ◌>>=◌, Bound, under_bound}
use Rattle.static_semantics.specs.CoreInference.{Group, RecPats, rec_bound, rec_groups, infer_binds, infer_rec_pats, infer_rec_exps, infer_dec}
use Rattle.core_scopes.specs.declared.made.Made.{Made}
use Rattle.core_scopes.specs.Marks.{env_of_made}
use Rattle.pattern_elab.specs.declared.own.OwnVariable.{OwnVariable}
use Rattle.pattern_elab.specs.Scopes.{own_entry, bound_of}
use Rattle.core_rules.specs.Moments.{Moment, progress_at, Elabs}
use Rattle.closing_laws.specs.Variables.{val_end}
use Rattle.core_rules.specs.Bindings.{Nothing}
use Rattle.core_rules.specs.RecBindings.{infer_rec_exps_by, read_progress}

abbrev pub AreRecsUnder : Moment → Rows OwnVariable → List (PatPhrase × ExpPhrase) → List TyId → Moment
    → Result (Unit {0}) Fault → Type 0
AreRecsUnder old bound rows types new result =
    Elabs old (λ sc. infer_rec_exps_by (under_bound (bound_of bound) sc) (rules_of rows) (map (type_of old.table) types)
    (progress_at old)) read_progress Nothing new result

-- the steps of a `val` behind its own type variables, closed over what isn't kept since there were `n` variables
abbrev pub end_of :
    ℕ → At → List (List ℕ × ℕ) → List (PatPhrase × ExpPhrase) → List Group → RecPats → Scope → Progress
    → Answer (Env × Progress)
end_of n at own recs groups rows sc u =
    val_end sc at (kept_since n u.types.stands) own (groups ++ rec_groups sc.env (rules_of recs) rows) u

abbrev pub behind_pats :
    ℕ → At → List (List ℕ × ℕ) → List (PatPhrase × ExpPhrase) → List Group → Scope → RecPats × Progress
    → Answer (Env × Progress)
behind_pats n at own recs groups sc p =
    infer_rec_exps depth (under_bound (rec_bound p.0) sc) (rules_of recs) p.0 p.1 >>= end_of n at own recs groups p.0 sc

abbrev pub behind_binds :
    ℕ → At → List (List ℕ × ℕ) → List (PatPhrase × ExpPhrase) → Scope → Bound × List Group × Progress
    → Answer (Env × Progress)
behind_binds n at own recs sc b =
    infer_rec_pats depth sc (rules_of recs) [] b.0 b.2 >>= behind_pats n at own recs b.1 sc

abbrev pub val_under :
    ℕ → At → List (List ℕ × ℕ) → List (PatPhrase × ExpPhrase) → List (PatPhrase × ExpPhrase) → Scope → Progress
    → Answer (Env × Progress)
val_under n at own binds recs sc st =
    infer_binds depth sc (rules_of binds) [] [] st >>= behind_binds n at own recs sc

-- what was made, and what is known
abbrev pub read_made : Moment → Made OwnVariable → Env × Progress
read_made m made = (env_of_made m.graph own_entry made, progress_at m)

abbrev pub ValuesAlone : Table → Made OwnVariable → Type 0
ValuesAlone t made = made.structures ≡ []

abbrev pub IsValUnder : Moment → ℕ → At → List (List ℕ × ℕ) → List (PatPhrase × ExpPhrase)
    → List (PatPhrase × ExpPhrase) → Moment → Result (Made OwnVariable) Fault → Type 0
IsValUnder old n at own binds recs new result =
    Elabs old (λ sc. val_under n at own binds recs sc (progress_at old)) read_made ValuesAlone new result

-- the whole `val`
abbrev pub IsVal : Moment → List Name → List (PatPhrase × ExpPhrase) → List (PatPhrase × ExpPhrase) → At → Moment
    → Result (Made OwnVariable) Fault → Type 0
IsVal old tyvars binds recs at new result =
    Elabs old (λ sc. infer_dec depth sc (DecPhrase.Val tyvars (rules_of binds) (rules_of recs) at) (progress_at old))
    read_made ValuesAlone new result
