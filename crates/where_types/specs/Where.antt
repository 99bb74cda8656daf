-- Signatures with `where type`. The Definition of Standard ML (Revised), rule 64.
use Rattle.std.specs.Prelude.{◌≡◌, List, [], Option}
use Rattle.sml_trees.specs.declared.name.At.{At}
use Rattle.sml_trees.specs.declared.name.Name.{Name}
use Rattle.sml_trees.specs.declared.name.LongName.{LongName}
use Rattle.semantic_objects.specs.declared.entry.TypeFn.{TypeFn}
use Rattle.semantic_objects.specs.declared.entry.TypeStr.{TypeStr}
use Rattle.semantic_objects.specs.Environments.{Signature, types}
use Rattle.bare_phrases.specs.Phrases.{TyPhrase}
use Rattle.sml_modules.specs.declared.parts.SigParts.{SigParts}
use Rattle.sml_modules.specs.Graphs.{Graph, signature_of, HasSigParts, Keeps}
use Rattle.static_semantics.specs.Inferring.{Progress, Scope, with_written_alone, Answer, ◌>>=◌, gives, known, found_at}
use Rattle.static_semantics.specs.TypeInference.{infer_ty, listed, numbers, as_written, type_function}
use Rattle.module_semantics.specs.SignatureInference.{where_type}

-- an open signature with a type function in place of what a long name stands for in it: the last steps of `infer_sig`
abbrev pub infer_where : Scope → List Name → LongName → TyPhrase → At → Signature → Progress → Answer (Signature × Progress)
infer_where sc tyvars long ty at sig st =
    listed sc tyvars [] st
    >>= λ own. known sc long (found_at types long.parts sig.env)
    >>= λ str. infer_ty (with_written_alone (as_written own.0) sc) ty
    >>= λ t. where_type sc at long str.function (type_function (numbers own.0) t) sig
    >>= λ with. gives (with, own.1)

-- the type function of a type that was looked up
abbrev pub known_function : Scope → LongName → Option TypeStr → Answer TypeFn
known_function sc long found = known sc long found >>= λ str. gives str.function

-- nodes were added, and no type names: all ids keep what they stand for
pub record GrowsByNodes (old new : Graph) : Type 0 where
  pub keeps : Keeps old new
  pub home : new.home ≡ old.home
  pub made : new.made ≡ old.made

-- parts of a signature were made
pub record GivesParts (old new : Graph) (sig : Signature) (parts : SigParts) : Type 0 where
  pub there : HasSigParts new parts
  pub is : signature_of new parts ≡ sig
  pub grows : GrowsByNodes old new
