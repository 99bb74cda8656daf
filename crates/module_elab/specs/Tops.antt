-- What calls answer for declarations of the top level and for whole units. Only private functions cite this file.
use Rattle.std.specs.Prelude.{◌≡◌, ℕ, List, Result, OnOk}
use Rattle.cm_base.specs.declared.fault.Fault.{Fault}
use Rattle.semantic_objects.specs.Environments.{Top, empty_top}
use Rattle.unification.specs.Unification.{depth}
use Rattle.static_semantics.specs.Inferring.{Progress, Answer}
use Rattle.type_phrases.specs.Inferred.{Answers}
use Rattle.unit_semantics.specs.UnitPhrases.{TopPhrase}
use Rattle.unit_semantics.specs.UnitInference.{top_with, infer_top, infer_tops}
use Rattle.module_scopes.specs.Tops.{defined_top, IsTopScope}
use Rattle.module_scopes.specs.Stays.{Defines}
use Rattle.structure_elab.specs.Moments.{Moment, seen_at, progress_at, Passes}

-- what a declaration defines, which is in scope afterwards
pub record IsDefined (old : Moment) (phrase : TopPhrase) (new : Moment) (result : Result (Unit {0}) Fault) : Type 0 where
  pub made : Top
  pub infers : Answers (infer_top depth old.graph.home (seen_at old) phrase (progress_at old))
      (λ (u : Unit {0}). (made, progress_at new)) result
  pub defines : OnOk result (Defines new.graph made old.top new.top)
  pub alone : OnOk result (top_with empty_top made ≡ made)
  pub goes : Passes old new

-- declarations, where nothing was defined before them
pub record AreDefined (old : Moment) (phrases : List TopPhrase) (new : Moment) (result : Result (Unit {0}) Fault) :
    Type 0 where
  pub infers : Answers (infer_tops depth old.graph.home (seen_at old) phrases (progress_at old))
      (λ (u : Unit {0}). (defined_top new.graph new.top.defined, progress_at new)) result
  pub there : OnOk result (IsTopScope new.graph new.top)
  pub goes : Passes old new
