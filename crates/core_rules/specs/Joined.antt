-- What declarations make, one after another.
use Rattle.std.specs.Prelude.{◌≡◌, [], ◌++◌, Result, Ok, Err, IfOk}
use Rattle.cm_base.specs.declared.fault.Fault.{Fault}
use Rattle.unification.specs.Unification.{depth}
use Rattle.sml_modules.specs.Graphs.{HasEnvs}
use Rattle.bare_phrases.specs.Phrases.{DecPhrases}
use Rattle.static_semantics.specs.CoreInference.{infer_decs}
use Rattle.core_scopes.specs.declared.made.Made.{Made}
use Rattle.core_scopes.specs.Marks.{IsFrontOf}
use Rattle.type_phrases.specs.Inferred.{Answers}
use Rattle.pattern_elab.specs.declared.own.OwnVariable.{OwnVariable}
use Rattle.value_closing.specs.Under.{IsUnder}
use Rattle.core_rules.specs.Moments.{Moment, scope_at, progress_at, Passes}
use Rattle.core_rules.specs.Ready.{made_at}
use Rattle.core_rules.specs.Declarations.{Declares}

-- nothing was made
pub record IsNothing (made : Made OwnVariable) : Type 0 where
  pub structures : made.structures ≡ []
  pub types : made.types ≡ []
  pub values : made.values ≡ []

-- what was made, and then more
abbrev pub joined : Made OwnVariable → Made OwnVariable → Made OwnVariable
joined made more = record {
  structures = made.structures ++ more.structures;
  types = made.types ++ more.types;
  values = made.values ++ more.values;
}

-- all that was made, if nothing was refused
abbrev pub made_where : Made OwnVariable → Result (Unit {0}) Fault → Result (Made OwnVariable) Fault
made_where all (Ok u) = Ok all
made_where all (Err e) = Err e

-- declarations one after another
abbrev pub AreDeclared : Moment → DecPhrases → Moment → Result (Made OwnVariable) Fault → Type 0
AreDeclared old phrases new result = Declares old (λ sc. infer_decs depth sc phrases (progress_at old)) new result

-- .. and each was entered into the scope of the next one, which is in the end the one before under all that was made.
-- Marks of the scope before stay good
pub record AreEntered (old : Moment) (phrases : DecPhrases) (all : Made OwnVariable) (new : Moment)
    (result : Result (Unit {0}) Fault) : Type 0 where
  pub infers : Answers (infer_decs depth (scope_at old) phrases (progress_at old))
      (λ (u : Unit {0}). (made_at new all, progress_at new)) result
  pub envs : IfOk result (λ (u : Unit {0}). HasEnvs new.graph all.structures)
  pub goes : Passes old new
  pub front : IsFrontOf old.scope new.scope
  pub under : IfOk result (λ (u : Unit {0}). IsUnder new.graph new.table (made_at new all) old.scope new.scope)
