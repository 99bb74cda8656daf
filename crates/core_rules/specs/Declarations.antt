-- What a call answers for a declaration in a scope, and for a phrase under what a declaration made. Only private functions
-- cite this file.
use Rattle.std.specs.Prelude.{Result, IfOk}
use Rattle.cm_base.specs.declared.fault.Fault.{Fault}
use Rattle.sml_trees.specs.declared.name.At.{At}
use Rattle.semantic_objects.specs.declared.name.TyId.{TyId}
use Rattle.semantic_objects.specs.Environments.{Env}
use Rattle.unification.specs.Unification.{depth}
use Rattle.type_nodes.specs.Tables.{Table, Has}
use Rattle.bare_phrases.specs.Phrases.{ExpPhrase, DecPhrase}
use Rattle.static_semantics.specs.Inferring.{Progress, Scope, Answer, ◌>>=◌, under, sized_dec}
use Rattle.static_semantics.specs.CoreInference.{infer_exp, infer_dec}
use Rattle.core_scopes.specs.declared.made.Made.{Made}
use Rattle.pattern_elab.specs.declared.own.OwnVariable.{OwnVariable}
use Rattle.sml_modules.specs.Graphs.{HasEnvs}
use Rattle.core_rules.specs.Moments.{Moment, progress_at, typed_as, Elabs}
use Rattle.core_rules.specs.Ready.{made_at}
use Rattle.core_rules.specs.Values.{read_made}

abbrev pub Whatever : Table → Made OwnVariable → Type 0
Whatever t made = Unit {0}

-- what was made where inference gives this; its structures are of the graph
pub record Declares (old : Moment) (want : Scope → Answer (Env × Progress)) (new : Moment)
    (result : Result (Made OwnVariable) Fault) : Type 0 where
  pub elabs : Elabs old want read_made Whatever new result
  pub envs : IfOk result (λ made. HasEnvs new.graph made.structures)

-- a declaration
abbrev pub IsDeclared : Moment → DecPhrase → Moment → Result (Made OwnVariable) Fault → Type 0
IsDeclared old phrase new result = Declares old (λ sc. infer_dec depth sc phrase (progress_at old)) new result

-- .. under what another one made
abbrev pub IsDeclaredBehind :
    Moment → Made OwnVariable → DecPhrase → Moment → Result (Made OwnVariable) Fault → Type 0
IsDeclaredBehind old made phrase new result =
    Declares old (λ sc. infer_dec depth (under (made_at old made) sc) phrase (progress_at old)) new result

-- an expression under what a declaration made
abbrev pub IsBehind : Moment → Made OwnVariable → ExpPhrase → Moment → Result TyId Fault → Type 0
IsBehind old made phrase new result =
    Elabs old (λ sc. infer_exp depth (under (made_at old made) sc) phrase (progress_at old)) typed_as Has new result

-- the check of the size at the end of a declaration
abbrev pub dec_sized : Scope → At → Answer (Env × Progress) → Answer (Env × Progress)
dec_sized sc at want = want >>= λ r. sized_dec sc at r
