-- The replication of a datatype in a signature.
use Rattle.sml_trees.specs.declared.name.Name.{Name}
use Rattle.sml_trees.specs.declared.name.LongName.{LongName}
use Rattle.semantic_objects.specs.Environments.{Signature}
use Rattle.static_semantics.specs.Inferring.{Scope, Answer, ◌>>=◌, name_at}
use Rattle.static_semantics.specs.DatatypeInference.{infer_replication}
use Rattle.module_semantics.specs.SignatureInference.{specified}

-- the copied type with its constructors, after what is specified so far
abbrev pub infer_replication_spec : Scope → Name → LongName → Signature → Answer Signature
infer_replication_spec sc name long made =
    infer_replication sc name long >>= λ part. specified sc (name_at name) part made
