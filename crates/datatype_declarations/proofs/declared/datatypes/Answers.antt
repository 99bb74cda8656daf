use Rattle.std.proofs.Common.{◌∙◌, map, subst, sym}
use Rattle.type_nodes.specs.Tables.{IsFrontOf}
use Rattle.sml_modules.specs.Graphs.{env_at}
use Rattle.sml_modules.specs.declared.id.EnvId.{EnvId}
use Rattle.bare_phrases.specs.PhraseOf.{dat_phrase}
use Rattle.static_semantics.specs.BasicTypes.{reserved_constructors}
use Rattle.static_semantics.specs.Inferring.{outermost}
use Rattle.static_semantics.specs.DatatypeInference.{datatypes_of}
use Rattle.type_phrases.specs.Inferred.{KeepsTypes, progress}
use Rattle.type_phrases.proofs.Keeping.{keeps_all}
use Rattle.type_phrases.proofs.Steps.{still_refused}
use Rattle.core_soundness.proofs.Promised.{datatypes_follow}
use Rattle.datatype_declarations.proofs.declared.datatypes.Goals as goal

pub undo-requires : goal.undo-requires
undo-requires c =
    subst (λ t. IsFrontOf t c.declare_in.new.t) (sym c.mark-before.ensures) c.in-Err.ensures.ids.front

pub returns-clause-infers : goal.returns-clause-infers
returns-clause-infers c =
    still_refused (datatypes_of (outermost c.args.g.now.home (env_at c.args.g.now c.args.env)) reserved_constructors
    (map dat_phrase c.args.binds.now) (progress c.args.t.now c.args.g.now))
    (λ (id : EnvId). (env_at c.declare_in.new.g id, progress c.declare_in.new.t c.declare_in.new.g))
    (λ (id : EnvId). (env_at c.declare_in.new.g id, progress c.undo.new.self c.declare_in.new.g))
    c.in-Err.fault c.in-Err.ensures.infers

pub returns-clause-ids : goal.returns-clause-ids
returns-clause-ids c =
    subst (KeepsTypes c.args.t.now) (sym (c.undo.ensures ∙ c.mark-before.ensures)) (keeps_all c.args.t.now)

pub returns-in-Ok-clause-sound : goal.returns-in-Ok-clause-sound
returns-in-Ok-clause-sound c = λ at fit types.
    datatypes_follow (outermost c.args.g.now.home (env_at c.args.g.now c.args.env)) (map dat_phrase c.args.binds.now) at
    (progress c.args.t.now c.args.g.now)
    (env_at c.declare_in.new.g c.in-Ok.id, progress c.declare_in.new.t c.declare_in.new.g) fit
    c.in-Ok.ensures.infers types
