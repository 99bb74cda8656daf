-- What a call answers for a `val` by its phrase, in the scope with its own type variables and as a whole. Only private
-- functions cite this file.
use Rattle.std.specs.Prelude.{◌≡◌, ℕ, List, [], ◌++◌, map, None, Result, Ok}
use Rattle.cm_base.specs.declared.fault.Fault.{Fault}
use Rattle.sml_trees.specs.declared.name.At.{At}
use Rattle.semantic_objects.specs.declared.name.TyId.{TyId}
use Rattle.semantic_objects.specs.Environments.{Env}
use Rattle.unification.specs.Types.{Ty}
use Rattle.unification.specs.Unification.{depth}
use Rattle.unification.specs.Closing.{kept_since}
use Rattle.type_nodes.specs.Tables.{Table, type_of, IsFrontOf}
use Rattle.name_trails.specs.Trails.{Rows}
use Rattle.bare_phrases.specs.PhraseOf.{rules_of}
use Rattle.bare_phrases.specs.Phrases.{PatPhrase, ExpPhrase, Rules, DecPhrase}
use Rattle.static_semantics.specs.Inferring.{Progress, Scope, Answer, ◌>>=◌, Bound, under_bound}
use Rattle.static_semantics.specs.CoreInference.{Group, RecPats, rec_bound, rec_groups, infer_binds, infer_rec_pats, infer_rec_exps, infer_dec}
use Rattle.core_scopes.specs.declared.made.Made.{Made}
use Rattle.pattern_elab.specs.declared.own.OwnVariable.{OwnVariable}
use Rattle.pattern_elab.specs.Scopes.{bound_of}
use Rattle.closing_laws.specs.Variables.{val_end}
use Rattle.core_rules.specs.Moments.{Moment, progress_at, Elabs}
use Rattle.core_rules.specs.Bindings.{Nothing, AreBinds}
use Rattle.core_rules.specs.Ready.{IsReadyAt}
use Rattle.core_rules.specs.RecBindings.{infer_rec_exps_by, read_progress}
use Rattle.core_rules.specs.Values.{read_made, ValuesAlone}

-- the steps behind the patterns of `rec` bindings, and behind the plain bindings
abbrev pub rest_of_recs :
    ℕ → At → List (List ℕ × ℕ) → Rules → List Group → Scope → RecPats × Progress → Answer (Env × Progress)
rest_of_recs n at own recs groups sc p =
    infer_rec_exps depth (under_bound (rec_bound p.0) sc) recs p.0 p.1
    >>= λ u. val_end sc at (kept_since n u.types.stands) own (groups ++ rec_groups sc.env recs p.0) u

abbrev pub rest_of_binds :
    ℕ → At → List (List ℕ × ℕ) → Rules → Scope → Bound × List Group × Progress → Answer (Env × Progress)
rest_of_binds n at own recs sc b = infer_rec_pats depth sc recs [] b.0 b.2 >>= rest_of_recs n at own recs b.1 sc

-- of a `val`, behind its own type variables; nothing is said of other declarations
abbrev pub val_of : ℕ → List (List ℕ × ℕ) → DecPhrase → Scope → Progress → Answer (Env × Progress)
val_of n own (DecPhrase.Val tyvars binds recs at) sc st =
    infer_binds depth sc binds [] [] st >>= rest_of_binds n at own recs sc
val_of n own _ sc st = None

abbrev pub IsValOf : Moment → ℕ → List (List ℕ × ℕ) → DecPhrase → Moment → Result (Made OwnVariable) Fault → Type 0
IsValOf old n own phrase new result =
    Elabs old (λ sc. val_of n own phrase sc (progress_at old)) read_made ValuesAlone new result

-- the expressions of the `rec` bindings of a `val`, by the types of their patterns; nothing is said of other declarations
abbrev pub recs_of : List Ty → DecPhrase → Scope → Progress → Answer Progress
recs_of types (DecPhrase.Val tyvars binds recs at) sc st = infer_rec_exps_by sc recs types st
recs_of types _ sc st = None

abbrev pub AreRecsOf : Moment → Rows OwnVariable → DecPhrase → List TyId → Moment → Result (Unit {0}) Fault → Type 0
AreRecsOf old bound phrase types new result =
    Elabs old (λ sc. recs_of (map (type_of old.table) types) phrase (under_bound (bound_of bound) sc) (progress_at old))
    read_progress Nothing new result

-- of a whole declaration whose values alone are made
abbrev pub IsOfValues : Moment → DecPhrase → Moment → Result (Made OwnVariable) Fault → Type 0
IsOfValues old phrase new result =
    Elabs old (λ sc. infer_dec depth sc phrase (progress_at old)) read_made ValuesAlone new result

-- the plain bindings of a `val`; nothing is said of other declarations
abbrev pub binds_of : DecPhrase → Rules
binds_of (DecPhrase.Val tyvars binds recs at) = binds
binds_of _ = Rules.EndOfRules

-- a moment behind the plain bindings of a `val`: there is one before them, at which everything in scope was of what the
-- table knew and at which a table that is remembered was a front of it
pub record IsBehindBinds (phrase : DecPhrase) (bound : Rows OwnVariable) (groups : List Group) (since : Table)
    (now : Moment) : Type 0 where
  pub from : Moment
  pub ready : IsReadyAt from
  pub front : IsFrontOf since from.table
  pub rows : List (PatPhrase × ExpPhrase)
  pub are : binds_of phrase ≡ rules_of rows
  pub binds : AreBinds from rows [] bound [] groups now (Ok tt)
