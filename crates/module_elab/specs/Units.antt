-- What a unit defines by itself.
use Rattle.std.specs.Prelude.{ℕ, List, Bool}
use Rattle.semantic_objects.specs.Environments.{Env, Top}
use Rattle.unification.specs.Fitting.{no_variable}
use Rattle.unification.specs.Unification.{depth}
use Rattle.static_semantics.specs.Inferring.{Progress, Answer, ◌>>=◌, gives}
use Rattle.unit_semantics.specs.UnitPhrases.{TopPhrase}
use Rattle.unit_semantics.specs.UnitInference.{infer_unit}

-- neither a type variable nor a type name was made yet
abbrev pub nothing_made : Progress
nothing_made = record { types = no_variable; names = 0 }

-- what inference gives of a unit there: what it defines, and how many type names it makes
abbrev pub unit_alone : List ℕ → Env → Top → Bool → List TopPhrase → Answer (Top × ℕ)
unit_alone home basis given sealing tops =
    infer_unit depth home basis given sealing tops nothing_made >>= λ r. gives (r.0, r.1.names)
