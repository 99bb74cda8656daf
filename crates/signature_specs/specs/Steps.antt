-- Single specifications. Only private functions cite this file.
use Rattle.std.specs.Prelude.{ℕ, List, [], Option, Some}
use Rattle.semantic_objects.specs.declared.entry.ValueEntry.{ValueEntry}
use Rattle.semantic_objects.specs.declared.entry.VidStatus.TheVariants as status
use Rattle.semantic_objects.specs.Trees.{Tree}
use Rattle.bare_phrases.specs.Phrases.{TyPhrase}
use Rattle.name_trails.specs.Trails.{Rows}
use Rattle.static_semantics.specs.Inferring.{Progress, Scope, with_written_alone, Answer, ◌>>=◌, gives}
use Rattle.static_semantics.specs.TypeInference.{infer_ty, as_written}
use Rattle.static_semantics.specs.DatatypeInference.{infer_optional_ty, exception_entry}
use Rattle.module_semantics.specs.SignatureInference.{variables_of, val_entry, exception_ty}
use Rattle.signature_specs.specs.Variables.{marks_of}

-- a value with a type that is closed over variables
abbrev pub closed_entry : Rows ℕ → Tree → ValueEntry
closed_entry own body = record { status = status.Variable; scheme = record { marks = marks_of own; body = body } }

-- .. over those of a list, and what is known then
abbrev pub val_under : Scope → TyPhrase → List (List ℕ × ℕ) × Progress → Answer (ValueEntry × Progress)
val_under sc ty own =
    infer_ty (with_written_alone (as_written own.0) sc) ty >>= λ t. gives (val_entry own.0 t, own.1)

-- .. over its own
abbrev pub infer_val : Scope → TyPhrase → Progress → Answer (ValueEntry × Progress)
infer_val sc ty st = val_under sc ty (variables_of ty st)

-- an exception of a type that is closed over nothing
abbrev pub open_exception : Tree → ValueEntry
open_exception body = record { status = status.Exception; scheme = record { marks = []; body = body } }

-- an exception with an argument of a type, in which no type variable is in scope
abbrev pub exception_with : Scope → TyPhrase → Answer ValueEntry
exception_with sc ty =
    infer_ty (with_written_alone [] sc) ty >>= λ t. gives (exception_entry (exception_ty (Some t)))

-- .. with an argument or without
abbrev pub infer_exception : Scope → Option TyPhrase → Answer ValueEntry
infer_exception sc arg =
    infer_optional_ty (with_written_alone [] sc) arg >>= λ a. gives (exception_entry (exception_ty a))
